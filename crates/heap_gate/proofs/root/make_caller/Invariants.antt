use Rattle.heap_gate.proofs.root.make_caller.Given as goal

abbrev pub ghosts-deal : goal.ghosts-deal
ghosts-deal g a = record { assignment = record { slot = a._slot; stream = a._stream } }
