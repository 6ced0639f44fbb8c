use Rattle.heap_gate.proofs.caller.leave.Given as goal

abbrev pub ghosts-leave_as : goal.ghosts-leave_as
ghosts-leave_as g a = record { entries = a._prepared.now.items }
