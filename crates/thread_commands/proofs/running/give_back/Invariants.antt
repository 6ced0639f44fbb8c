use Rattle.std.proofs.Common.{◌≡◌}
use Rattle.heap_now.specs.Calls.{IsCallerOf}
use Rattle.thread_commands.proofs.running.give_back.Given as goal

abbrev pub invariant-loop-w : goal.invariant-loop-w
invariant-loop-w l = IsCallerOf l.heap l.w.caller × (l.w.short ≡ l.fn.w.short)

abbrev pub decreases-loop-w : goal.decreases-loop-w
decreases-loop-w l = l.w.caller.depth
