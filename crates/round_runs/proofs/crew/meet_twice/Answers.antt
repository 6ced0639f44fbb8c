use Rattle.round_runs.proofs.Meets.{twice_keeps, twice_met}
use Rattle.round_runs.proofs.crew.meet_twice.Goals as goal

pub returns-clause-each : goal.returns-clause-each
returns-clause-each c =
    let x = c.meet_others.ensures in
    let y = c.meet_others-2.ensures in
    twice_keeps c.args.heap.now c.args.first.now c.meet_others.new.first c.meet_others-2.new.first c.args.others.now c.meet_others.new.others c.meet_others-2.new.others
    x.first y.first x.many y.many x.others y.others

pub returns-clause-met : goal.returns-clause-met
returns-clause-met c =
    let x = c.meet_others.ensures in
    let y = c.meet_others-2.ensures in
    twice_met c.args.heap.now c.args.first.now c.meet_others.new.first c.meet_others-2.new.first c.args.others.now c.meet_others.new.others c.meet_others-2.new.others
    x.first y.first x.many y.many x.others y.others
