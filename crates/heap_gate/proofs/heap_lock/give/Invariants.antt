use Rattle.heap_gate.proofs.heap_lock.give.Given as goal

abbrev pub ghosts-unlock_as : goal.ghosts-unlock_as
ghosts-unlock_as g a = record { entries = a._prepared.now.items }
