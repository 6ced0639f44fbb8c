use Rattle.std.proofs.Common.{◌∷◌, length}
use Rattle.round_runs.proofs.Callers.{popped_all, popped_length, join_more, joined_pop}
use Rattle.round_runs.proofs.ends.join_all.Goals as goal

pub loop-w-init : goal.loop-w-init
loop-w-init c = joined_pop c.args.workers.items c.args.root.now c.requires.of.none_joined

pub loop-w-preserved : goal.loop-w-preserved
loop-w-preserved c =
    let ws = c.args.workers.items in
    let left = c.pop.new.self.items in
    let w = c.in-Some.w in
    let gone = c.loop-w.invariant.0 in
    let e = popped_all ws c.loop-w.left.items left gone w c.loop-w.invariant.1 c.in-Some.ensures.items in (
      w ∷ gone,
      e,
      join_more c.args.heap.now ws c.args.root.now left w gone e c.requires.of (length c.loop-w.left.items) (popped_length c.loop-w.left.items left w c.in-Some.ensures.items) c.loop-w.root c.join.new.root c.loop-w.invariant.2 c.join.ensures,
    )
