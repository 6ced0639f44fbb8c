use Rattle.std.proofs.Common.{ℕ, ◌<◌, sym, ap, ◌∙◌, subst}
use Rattle.heap_model.specs.declared.What.TheVariants as whats
use Rattle.heap_gate.specs.Token.{is_out}
use Rattle.heap_model.specs.CallState.{not_begun}
use Rattle.lfh_search.proofs.Entering.{holds_back, hint_known}
use Rattle.lfh_search.proofs.Seen.{waits_none}
use Rattle.lfh_search.proofs.HeldHint.{searching_on, slot_on, searched_from, there_from}
use Rattle.lfh_search.proofs.hint.search_hint_under_back.Goals as goal

pub pass_from_hint-requires-clause-waits : goal.pass_from_hint-requires-clause-waits
pass_from_hint-requires-clause-waits g c = waits_none c.hint_under_back-word.new.c c.hint_under_back-word.ensures.stands.prepared

pub pass_from_hint-requires-clause-slot : goal.pass_from_hint-requires-clause-slot
pass_from_hint-requires-clause-slot g c = subst (λ (n : ℕ). n < 16) (sym (slot_on c.args.c.now c.hint_under_back-word.new.c c.args.bucket c.args.draw.value c.requires.searches c.hint_under_back-word.result c.hint_under_back-word.ensures)) c.requires.slot

pub pass_from_hint-requires-clause-hint : goal.pass_from_hint-requires-clause-hint
pass_from_hint-requires-clause-hint g c = λ out.
    hint_known c.args.c.now c.hint_under_back-word.new.c c.args.bucket c.args.draw.value not_begun c.requires.searches (holds_back c.args.c.now c.check.ensures.stands c.requires.back) c.hint_under_back-word.result c.hint_under_back-word.ensures

pub pass_from_hint-requires-clause-searches : goal.pass_from_hint-requires-clause-searches
pass_from_hint-requires-clause-searches g c = searching_on c.args.c.now c.hint_under_back-word.new.c c.args.bucket c.args.draw.value c.requires.searches c.hint_under_back-word.result c.hint_under_back-word.ensures

pub returns-clause-searched : goal.returns-clause-searched
returns-clause-searched g c = searched_from c.args.c.now c.hint_under_back-word.new.c c.args.bucket c.args.draw.value c.requires.searches c.hint_under_back-word.result c.hint_under_back-word.ensures c.pass_from_hint.new.c c.pass_from_hint.result c.pass_from_hint.ensures.searched

pub returns-clause-there : goal.returns-clause-there
returns-clause-there g c =
    there_from c.args.c.now c.hint_under_back-word.new.c c.args.bucket c.args.draw.value c.requires.searches c.hint_under_back-word.result c.hint_under_back-word.ensures c.pass_from_hint.new.c
    (holds_back c.args.c.now c.check.ensures.stands c.requires.back) c.pass_from_hint.result c.pass_from_hint.ensures.searched
    (c.pass_from_hint.ensures.there (ap (is_out whats.Back) c.hint_under_back-word.ensures.stands.out ∙ c.requires.back))
