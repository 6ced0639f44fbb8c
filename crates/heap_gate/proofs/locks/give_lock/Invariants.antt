use Rattle.heap_gate.proofs.locks.give_lock.Given as goal

abbrev pub ghosts-give_by-E-Carried : goal.ghosts-give_by-E-Carried
ghosts-give_by-E-Carried g a = record { entries = a._prepared.now.items }

abbrev pub ghosts-give_by-G-Guards : goal.ghosts-give_by-G-Guards
ghosts-give_by-G-Guards g a = record { what = a._what }
