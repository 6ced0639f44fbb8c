use Rattle.std.proofs.Common.{false}
use Rattle.lfh_claims.proofs.blocks.live_size.Given as goal

abbrev pub ghosts-size_by-E-Carried : goal.ghosts-size_by-E-Carried
ghosts-size_by-E-Carried g a = record { entries = a._prepared.now.items }

abbrev pub ghosts-size_by-B-Target : goal.ghosts-size_by-B-Target
ghosts-size_by-B-Target g a = record { head = a._tag.head; bucket = a._tag.bucket; slot = a._tag.slot; index = 0; back = false; hint = 0; number = a._addr; size = 0 }
