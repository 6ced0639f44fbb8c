use Rattle.std.proofs.Common.{◌≡◌, Option, Some, None, sym, subst}
use Rattle.std.specs.Prelude.{IfSome, IfNone}
use Rattle.heap_gate.specs.Token.{Token}
use Rattle.lfh_spans.specs.Subsegments.{IsBackOf, HasInstalled, HasNoRoom}
use Rattle.lfh_search.specs.Under.{HasServed, IsNotServed}
use Rattle.lfh_search.proofs.Entering.{holds_back}
use Rattle.lfh_search.proofs.Making.{served_made, not_served}
use Rattle.lfh_search.proofs.under.search_again.Goals as goal

pub install_again-requires-clause-back : goal.install_again-requires-clause-back
install_again-requires-clause-back g c =
    let p = c.requires.under in
    let x = c.in-Spent.ensures p.0 p.1 in
    x.back_is

some_to : {A : Type 0} (o : Option A) (P Q : A → Type 0) → ((x : A) → P x → Q x) → IfSome o P → IfSome o Q
some_to None P Q f h = h
some_to (Some x) P Q f h = f x h

none_to : {A : Type 0} (o : Option A) (P S Q : Type 0) → (P → S → Q) → IfNone o P → IfNone o S → IfNone o Q
none_to None P S Q f h k = f h k
none_to (Some x) P S Q f h k = h

pub returns-in-Spent-clause-served : goal.returns-in-Spent-clause-served
returns-in-Spent-clause-served g c =
    let p = c.requires.under in
    let x = c.in-Spent.ensures p.0 p.1 in
    some_to c.install_again.result (HasInstalled c.look_under_back.new.c c.install_again.new.c c.args.back.now c.args.course.now.bucket c.args.course.now.draw.value) (HasServed c.args.c.now c.install_again.new.c c.args.back.now c.install_again.new.back c.args.course.now)
    (λ addr i. served_made c.args.c.now c.look_under_back.new.c c.args.back.now c.args.course.now p.0 c.args.lost c.in-Spent.lost p.1 x (holds_back c.args.c.now c.check.ensures.stands p.1.out) c.install_again.new.c c.install_again.new.back addr i c.install_again.ensures.back c.requires.course.bucket)
    c.install_again.ensures.made

pub returns-in-Spent-clause-cannot_be_served : goal.returns-in-Spent-clause-cannot_be_served
returns-in-Spent-clause-cannot_be_served g c =
    let p = c.requires.under in
    let x = c.in-Spent.ensures p.0 p.1 in
    none_to c.install_again.result (HasNoRoom c.args.back.now c.install_again.new.back c.args.course.now.bucket) (c.install_again.new.c ≡ c.look_under_back.new.c) (IsNotServed c.args.c.now c.install_again.new.c c.args.back.now c.install_again.new.back c.args.course.now)
    (λ room same. subst (λ (t : Token). IsNotServed c.args.c.now t c.args.back.now c.install_again.new.back c.args.course.now) (sym same)
    (not_served c.args.c.now c.look_under_back.new.c c.args.back.now c.args.course.now p.0 c.args.lost c.in-Spent.lost p.1 x c.install_again.new.back room (subst (λ (t : Token). IsBackOf t c.install_again.new.back) same c.install_again.ensures.back) c.requires.said))
    c.install_again.ensures.none c.install_again.ensures.same
