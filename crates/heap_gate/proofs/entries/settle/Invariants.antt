use Rattle.heap_gate.proofs.entries.settle.Given as goal

abbrev pub ghosts-look_as : goal.ghosts-look_as
ghosts-look_as g a = record { entries = a._prepared.now.items }
