use Rattle.std.proofs.Common.{false}
use Rattle.lfh_claims.proofs.blocks.clear.Given as goal

abbrev pub ghosts-clear_by-E-Carried : goal.ghosts-clear_by-E-Carried
ghosts-clear_by-E-Carried g a = record { entries = a._prepared.now.items }

abbrev pub ghosts-clear_by-B-Target : goal.ghosts-clear_by-B-Target
ghosts-clear_by-B-Target g a = record { head = a._tag.head; bucket = a._tag.bucket; slot = a._tag.slot; index = a._index; back = false; hint = 0; number = 0; size = 0 }
