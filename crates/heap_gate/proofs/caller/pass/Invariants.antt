use Rattle.std.proofs.Common.{[]}
use Rattle.heap_gate.proofs.caller.pass.Given as goal

abbrev pub ghosts-enter_as : goal.ghosts-enter_as
ghosts-enter_as g a = record { entries = a._prepared.now.items }

abbrev pub ghosts-leave_as : goal.ghosts-leave_as
ghosts-leave_as g a = record { entries = [] }
