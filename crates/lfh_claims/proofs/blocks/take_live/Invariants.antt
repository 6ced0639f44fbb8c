use Rattle.std.proofs.Common.{false}
use Rattle.lfh_claims.proofs.blocks.take_live.Given as goal

abbrev pub ghosts-take_by-E-Carried : goal.ghosts-take_by-E-Carried
ghosts-take_by-E-Carried g a = record { entries = a._prepared.now.items }

abbrev pub ghosts-take_by-B-Target : goal.ghosts-take_by-B-Target
ghosts-take_by-B-Target g a = record { head = a._tag.head; bucket = a._tag.bucket; slot = a._tag.slot; index = 0; back = false; hint = 0; number = a._addr; size = 0 }
