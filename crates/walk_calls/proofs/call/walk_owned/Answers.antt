use Rattle.std.proofs.Common.{[], ◌∙◌, subst}
use Rattle.heap_model.specs.declared.Call.TheVariants as calls
use Rattle.heap_gate.specs.Token.{Token}
use Rattle.heap_gate.specs.Calls.{Runs, Stands, stance}
use Rattle.walk_calls.specs.Locks.{all_slots}
use Rattle.walk_calls.proofs.Locking.{done_looks, all_on, owner_in}
use Rattle.walk_calls.proofs.Walking.{begun_by, read_at, walks}
use Rattle.walk_calls.proofs.call.walk_owned.Goals as goal

pub take_all-vs-requires-clause-owner : goal.take_all-vs-requires-clause-owner
take_all-vs-requires-clause-owner c =
    owner_in c.hear_words.new.c _ _ (begun_by c.args.c.now c.begin.new.c c.hear_words.new.c c.args.from c.begin.ensures c.check.ensures.stands c.requires.ready.0 c.requires.ready.1 c.requires.owns c.hear_words.ensures.runs c.hear_words.ensures.stands)

pub take_all-vs-requires-clause-out : goal.take_all-vs-requires-clause-out
take_all-vs-requires-clause-out c =
    let v = begun_by c.args.c.now c.begin.new.c c.hear_words.new.c c.args.from c.begin.ensures c.check.ensures.stands c.requires.ready.0 c.requires.ready.1 c.requires.owns c.hear_words.ensures.runs c.hear_words.ensures.stands in
    (v.out_is, v.owes)

pub next_seen-found-requires-clause-owner : goal.next_seen-found-requires-clause-owner
next_seen-found-requires-clause-owner c =
    let v = begun_by c.args.c.now c.begin.new.c c.hear_words.new.c c.args.from c.begin.ensures c.check.ensures.stands c.requires.ready.0 c.requires.ready.1 c.requires.owns c.hear_words.ensures.runs c.hear_words.ensures.stands in
    owner_in c.take_all-vs.new.c _ _ (c.take_all-vs.ensures.done.did (calls.WalkNext c.args.from) v).owning

pub next_seen-found-requires-clause-readable : goal.next_seen-found-requires-clause-readable
next_seen-found-requires-clause-readable c =
    let v = begun_by c.args.c.now c.begin.new.c c.hear_words.new.c c.args.from c.begin.ensures c.check.ensures.stands c.requires.ready.0 c.requires.ready.1 c.requires.owns c.hear_words.ensures.runs c.hear_words.ensures.stands in
    let t = c.take_all-vs in
    read_at c.hear_words.new.c t.new.c t.result.0 t.result.1 t.result.2 c.check-2.ensures.stands v.owns v.out_is c.hear_words.ensures.sound c.hear_words.ensures.words t.ensures.done t.ensures.tells t.ensures.whole

pub give_all-requires-clause-owner : goal.give_all-requires-clause-owner
give_all-requires-clause-owner c =
    let v = begun_by c.args.c.now c.begin.new.c c.hear_words.new.c c.args.from c.begin.ensures c.check.ensures.stands c.requires.ready.0 c.requires.ready.1 c.requires.owns c.hear_words.ensures.runs c.hear_words.ensures.stands in
    let w = (c.take_all-vs.ensures.done.did (calls.WalkNext c.args.from) v).owning in
    owner_in c.next_seen-found.new.c _ _ ((done_looks c.take_all-vs.new.c c.next_seen-found.new.c all_slots c.next_seen-found.ensures.looks).did (calls.WalkNext c.args.from) w).owning

pub give_all-requires-clause-out : goal.give_all-requires-clause-out
give_all-requires-clause-out c =
    let v = begun_by c.args.c.now c.begin.new.c c.hear_words.new.c c.args.from c.begin.ensures c.check.ensures.stands c.requires.ready.0 c.requires.ready.1 c.requires.owns c.hear_words.ensures.runs c.hear_words.ensures.stands in
    let w = (c.take_all-vs.ensures.done.did (calls.WalkNext c.args.from) v).owning in
    (c.next_seen-found.ensures.looks.stands.out ∙ w.out_is, c.next_seen-found.ensures.looks.stands.owes ∙ w.owes)

pub give_all-requires-clause-tells : goal.give_all-requires-clause-tells
give_all-requires-clause-tells c =
    let t = c.take_all-vs in
    let look = c.next_seen-found.ensures.looks in
    all_on t.new.c c.next_seen-found.new.c [] look.goes look.heap t.result.0 t.result.1 t.result.2 t.ensures.tells

pub hear_words-requires-2-clause-whole : goal.hear_words-requires-2-clause-whole
hear_words-requires-2-clause-whole c =
    let v = begun_by c.args.c.now c.begin.new.c c.hear_words.new.c c.args.from c.begin.ensures c.check.ensures.stands c.requires.ready.0 c.requires.ready.1 c.requires.owns c.hear_words.ensures.runs c.hear_words.ensures.stands in
    let w = (c.take_all-vs.ensures.done.did (calls.WalkNext c.args.from) v).owning in
    let e = ((done_looks c.take_all-vs.new.c c.next_seen-found.new.c all_slots c.next_seen-found.ensures.looks).did (calls.WalkNext c.args.from) w).owning in
    (c.give_all.ensures.done.did (calls.WalkNext c.args.from) e).owning.whole

pub returns : goal.returns
returns c =
    let t = c.take_all-vs in
    walks c.args.c.now c.hear_words.new.c t.new.c c.next_seen-found.new.c c.give_all.new.c c.hear_words-2.new.c c.args.from c.next_seen-found.result t.result.0 t.result.1 t.result.2
    c.check.ensures.stands c.requires.ready.0 c.requires.ready.1 c.requires.owns (subst (λ (x : Token). Runs x c.hear_words.new.c []) c.begin.ensures c.hear_words.ensures.runs)
    (subst (λ (x : Token). Stands c.hear_words.new.c (stance x)) c.begin.ensures c.hear_words.ensures.stands) c.hear_words.ensures.sound c.hear_words.ensures.words c.check-2.ensures.stands t.ensures.done t.ensures.tells t.ensures.whole
    c.next_seen-found.ensures.looks c.next_seen-found.ensures.found c.give_all.ensures.done c.check-3.ensures.stands c.hear_words-2.ensures.runs c.hear_words-2.ensures.stands c.hear_words-2.ensures.sound c.hear_words-2.ensures.words c.check-4.ensures.stands
