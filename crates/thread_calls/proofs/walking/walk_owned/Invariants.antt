use Rattle.std.proofs.Common.{◌≡◌, ◌++◌, ◌-◌, ◌^◌, List}
use Rattle.heap_model.specs.declared.Reply.{Reply}
use Rattle.thread_calls.proofs.Steps.{WalksSoFar}
use Rattle.thread_calls.proofs.walking.walk_owned.Given as goal

abbrev pub invariant-loop-block : goal.invariant-loop-block
invariant-loop-block l = (its : List Reply) × (l.replies.items ≡ l.fn.replies.items ++ its) × WalksSoFar l.fn.c l.c its l.count l.from

abbrev pub decreases-loop-block : goal.decreases-loop-block
decreases-loop-block l = 2 ^ 64 - l.from
