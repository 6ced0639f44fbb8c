use Rattle.walk_calls.proofs.shown.hear_words.Given as goal

abbrev pub ghosts-hear_by : goal.ghosts-hear_by
ghosts-hear_by a = record { entries = a._prepared.now.items }
