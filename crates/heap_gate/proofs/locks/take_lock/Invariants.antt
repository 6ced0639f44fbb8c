use Rattle.heap_gate.proofs.locks.take_lock.Given as goal

abbrev pub ghosts-take_by-E-Carried : goal.ghosts-take_by-E-Carried
ghosts-take_by-E-Carried g a = record { entries = a._prepared.now.items }

abbrev pub ghosts-take_by-G-Guards : goal.ghosts-take_by-G-Guards
ghosts-take_by-G-Guards g a = record { what = a._what }
