use Rattle.round_runs.proofs.Meets.{of_parts}
use Rattle.round_runs.proofs.crew.meet_all.Goals as goal

pub returns-in-Some-clause-each : goal.returns-in-Some-clause-each
returns-in-Some-clause-each c =
    of_parts c.args.heap.now c.args.workers.now c.in-Some.first.now c.meet_twice.new.first c.in-Some.others.now c.meet_twice.new.others c.in-Some.ensures.cases.0 c.meet_twice.ensures.each
