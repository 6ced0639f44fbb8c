use Rattle.std.proofs.Common.{ℕ, ◌<◌, sym, subst}
use Rattle.lfh_search.proofs.Begun.{slot2, out2, hint2, found_to, spent_first}
use Rattle.lfh_search.proofs.both.begin_under_back.Goals as goal

pub set_hint-requires-clause-slot : goal.set_hint-requires-clause-slot
set_hint-requires-clause-slot g c =
    subst (λ (n : ℕ). n < 16) (sym (slot2 c.args.c.now c.args.back.now c.args.course.now c.requires.start c.check.ensures.stands c.search_hint_under_back.new.c c.in-Claimed.found c.in-Claimed.ensures.searched c.in-Claimed.ensures.there c.region-sound.ensures.sound)) c.requires.slot

pub set_hint-requires-clause-back : goal.set_hint-requires-clause-back
set_hint-requires-clause-back g c = out2 c.args.c.now c.args.back.now c.args.course.now c.requires.start c.check.ensures.stands c.search_hint_under_back.new.c c.in-Claimed.found c.in-Claimed.ensures.searched c.in-Claimed.ensures.there c.region-sound.ensures.sound

pub set_hint-requires-clause-head : goal.set_hint-requires-clause-head
set_hint-requires-clause-head g c = hint2 c.args.c.now c.args.back.now c.args.course.now c.requires.start c.check.ensures.stands c.search_hint_under_back.new.c c.in-Claimed.found c.in-Claimed.ensures.searched c.in-Claimed.ensures.there c.region-sound.ensures.sound

pub returns-in-Claimed : goal.returns-in-Claimed
returns-in-Claimed g c =
    found_to c.args.c.now c.args.back.now c.args.course.now c.requires.start c.check.ensures.stands c.search_hint_under_back.new.c c.in-Claimed.found c.in-Claimed.ensures.searched c.in-Claimed.ensures.there c.region-sound.ensures.sound c.set_hint.new.c c.set_hint.ensures.runs c.set_hint.ensures.stands

pub returns-in-Spent : goal.returns-in-Spent
returns-in-Spent g c = spent_first c.args.c.now c.args.back.now c.args.course.now c.requires.start c.check.ensures.stands c.search_hint_under_back.new.c c.in-Spent.lost c.in-Spent.ensures.searched
