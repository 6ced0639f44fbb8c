use Rattle.std.proofs.Common.{false}
use Rattle.data_words.proofs.store.Given as goal

abbrev pub ghosts-store_by-E-Carried : goal.ghosts-store_by-E-Carried
ghosts-store_by-E-Carried g a = record { entries = a._prepared.now.items }

abbrev pub ghosts-store_by-B-Target : goal.ghosts-store_by-B-Target
ghosts-store_by-B-Target g a = record { head = 0; bucket = 0; slot = 0; index = 0; back = false; hint = 0; number = a._word; size = 0 }
