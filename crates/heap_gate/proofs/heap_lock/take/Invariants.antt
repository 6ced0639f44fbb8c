use Rattle.heap_gate.proofs.heap_lock.take.Given as goal

abbrev pub ghosts-lock_as : goal.ghosts-lock_as
ghosts-lock_as g a = record { entries = a._prepared.now.items }
