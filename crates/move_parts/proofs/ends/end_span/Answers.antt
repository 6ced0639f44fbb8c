use Rattle.move_parts.proofs.SpanEnds.{give_ok, unspan_may, span_ended}
use Rattle.move_parts.proofs.ends.end_span.Goals as goal

pub give-requires : goal.give-requires
give-requires c = give_ok c.args.c.now c.args.back.now c.args.first c.requires.ends c.check.ensures.stands c.region-region.ensures.sound

pub prepare-requires-clause-may : goal.prepare-requires-clause-may
prepare-requires-clause-may c = unspan_may c.args.c.now c.args.back.now c.args.first c.requires.ends c.check.ensures.stands c.region-region.ensures.sound

pub returns : goal.returns
returns c = span_ended c.args.c.now c.args.back.now c.args.first c.requires.ends c.check.ensures.stands c.region-region.ensures.sound c.prepare.new.c c.prepare.ensures c.give.new.self c.give.ensures.stands
