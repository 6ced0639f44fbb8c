use Rattle.std.proofs.Common.{rules}
use Rattle.round_runs.proofs.Meets.{met_more}
use Rattle.round_runs.proofs.crew.meet_others.Goals as goal

pub loop-k-preserved : goal.loop-k-preserved
loop-k-preserved c =
    let i = c.loop-k.invariant in
    met_more c.args.heap.now c.args.first.now c.loop-k.first c.meet.new.a c.meet.new.b i.0 c.args.others.now c.loop-k.others c.loop-k.k c.index-others-k.result
    c.requires.others (search rules) i.1 i.2 i.3 c.meet.ensures
