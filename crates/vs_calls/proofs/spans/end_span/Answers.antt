use Rattle.std.proofs.Common.{[], ◌∷◌, sym, subst}
use Rattle.heap_model.specs.declared.Act.TheVariants as acts
use Rattle.heap_model.specs.declared.What.TheVariants as whats
use Rattle.heap_gate.specs.Token.{Token}
use Rattle.call_parts.specs.Entries.{HasEnded}
use Rattle.vs_calls.specs.Blocks.{HasVsAndBack}
use Rattle.vs_calls.proofs.Ending.{give_ok, unspan_may, both_then, ended_all}
use Rattle.vs_calls.proofs.spans.end_span.Goals as goal

pub give-requires : goal.give-requires
give-requires c = give_ok c.args.c.now c.args.vs c.args.back c.args.first c.requires.ends c.check.ensures.stands c.region-region.ensures.sound

pub prepare-requires-clause-may : goal.prepare-requires-clause-may
prepare-requires-clause-may c = unspan_may c.args.c.now c.args.vs c.args.back c.args.first c.requires.ends c.check.ensures.stands c.region-region.ensures.sound

pub give_both-requires-clause-both : goal.give_both-requires-clause-both
give_both-requires-clause-both c =
    subst (λ (t : Token). HasVsAndBack t c.args.vs c.give.new.self) (sym c.prepare.ensures)
    (both_then c.args.c.now c.args.vs c.args.back c.args.first c.requires.ends c.check.ensures.stands c.region-region.ensures.sound c.give.new.self c.give.ensures.stands)

pub returns : goal.returns
returns c =
    ended_all c.args.c.now c.args.vs c.args.back c.args.first c.requires.ends c.check.ensures.stands c.region-region.ensures.sound c.give_both.new.c
    (subst (λ (t : Token). HasEnded t c.give_both.new.c (acts.GiveLock whats.Back ∷ acts.GiveLock whats.Vs ∷ []) []) c.prepare.ensures c.give_both.ensures)
