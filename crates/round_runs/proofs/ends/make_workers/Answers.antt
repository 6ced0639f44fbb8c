use Rattle.std.proofs.Common.{◌+◌, ◌%◌, ◌∷◌, [], length, sym, ap, ◌∙◌, subst, length-append, List}
use Rattle.thread_commands.specs.declared.workers.Worker.{Worker}
use Rattle.round_runs.specs.Crews.{AreMade}
use Rattle.round_runs.proofs.Callers.{made_more}
use Rattle.round_runs.proofs.ends.make_workers.Goals as goal

pub loop-t-preserved : goal.loop-t-preserved
loop-t-preserved c =
    let h = c.args.heap.now in
    let ws = c.loop-t.workers.items in
    let w = c.new_worker.result in
    let t = c.loop-t.t in
    let count = c.loop-t.invariant.1 in
    let items = c.in_ok-push.ensures.items in
    let made =
    made_more h c.loop-t.root c.make_caller-caller.new.root ws w (t % c.limits-slots.result.slots) c.from.result c.loop-t.invariant.0 c.make_caller-caller.ensures.root
    (c.new_worker.ensures.0 ∙ c.make_caller-caller.ensures.caller) c.new_worker.ensures.1
    (λ i. sym count i % (c.limits-slots.ensures.limits i).slots) (c.from.ensures ∙ sym count) in (
      subst (λ (l : List Worker). AreMade h c.make_caller-caller.new.root l) (sym items) made,
      ap length items ∙ (length-append ws (w ∷ []) ∙ ap (λ n. n + 1) count),
    )
