use Rattle.std.proofs.Common.{ℕ, ◌<◌, ◌∙◌, sym, ap, subst}
use Rattle.heap_model.specs.declared.What.TheVariants as whats
use Rattle.heap_gate.specs.Token.{Token, is_out}
use Rattle.lfh_search.specs.Under.{HasServed, IsNotServed}
use Rattle.lfh_search.specs.Both.{HasSearchedTo, HasSearchedInVain}
use Rattle.lfh_search.proofs.Taking.{no_room_goes_again}
use Rattle.lfh_search.proofs.Options.{some_to, none_to}
use Rattle.lfh_search.proofs.Joined.{served_to, slot2, again_to, again_in_vain}
use Rattle.lfh_search.proofs.both.go_on_under_both.Goals as goal

pub search_again-requires-clause-slot : goal.search_again-requires-clause-slot
search_again-requires-clause-slot g c =
    let p = c.requires.under in
    subst (λ (n : ℕ). n < 16) (sym (slot2 c.args.c.now c.search_under_back.new.c c.args.back.now c.search_under_back.new.back c.args.course.now p.0 c.args.lost c.in-NoRoom.lost p.1 c.in-NoRoom.ensures)) c.requires.slot

pub search_again-requires-clause-under : goal.search_again-requires-clause-under
search_again-requires-clause-under g c =
    let p = c.requires.under in
    let x = c.in-NoRoom.ensures in
    (no_room_goes_again c.args.c.now c.search_under_back.new.c c.args.back.now c.search_under_back.new.back c.args.course.now p.0 c.args.lost c.in-NoRoom.lost p.1 x c.check.ensures.stands
    (ap (λ (t : Token). is_out whats.Vs t.out) x.prepared ∙ (ap (is_out whats.Vs) x.stands.out ∙ c.requires.vs))).1

pub returns-in-Claimed-clause-found : goal.returns-in-Claimed-clause-found
returns-in-Claimed-clause-found g c = served_to c.args.c.now c.search_under_back.new.c c.args.back.now c.search_under_back.new.back c.args.course.now c.in-Claimed.addr c.requires.under.1.searched c.in-Claimed.ensures

pub returns-in-NoRoom-clause-found : goal.returns-in-NoRoom-clause-found
returns-in-NoRoom-clause-found g c =
    let p = c.requires.under in
    some_to c.search_again.result (HasServed c.search_under_back.new.c c.search_again.new.c c.search_under_back.new.back c.search_again.new.back c.args.course.now)
    (HasSearchedTo c.args.c.now c.search_again.new.c c.args.back.now c.search_again.new.back c.args.course.now)
    (λ addr y. again_to c.args.c.now c.search_under_back.new.c c.args.back.now c.search_under_back.new.back c.args.course.now p.0 c.args.lost c.in-NoRoom.lost p.1 c.in-NoRoom.ensures c.search_again.new.c c.search_again.new.back addr y)
    c.search_again.ensures.served

pub returns-in-NoRoom-clause-cannot_be_served : goal.returns-in-NoRoom-clause-cannot_be_served
returns-in-NoRoom-clause-cannot_be_served g c =
    let p = c.requires.under in
    none_to c.search_again.result (IsNotServed c.search_under_back.new.c c.search_again.new.c c.search_under_back.new.back c.search_again.new.back c.args.course.now)
    (HasSearchedInVain c.args.c.now c.search_again.new.c c.args.back.now c.search_again.new.back c.args.course.now)
    (λ y. again_in_vain c.args.c.now c.search_under_back.new.c c.args.back.now c.search_under_back.new.back c.args.course.now p.0 c.args.lost c.in-NoRoom.lost p.1 c.in-NoRoom.ensures c.search_again.new.c c.search_again.new.back y)
    c.search_again.ensures.cannot_be_served
