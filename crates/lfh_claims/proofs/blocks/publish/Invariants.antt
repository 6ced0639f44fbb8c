use Rattle.std.proofs.Common.{false}
use Rattle.lfh_claims.proofs.blocks.publish.Given as goal

abbrev pub ghosts-publish_by-E-Carried : goal.ghosts-publish_by-E-Carried
ghosts-publish_by-E-Carried g a = record { entries = a._prepared.now.items }

abbrev pub ghosts-publish_by-B-Target : goal.ghosts-publish_by-B-Target
ghosts-publish_by-B-Target g a = record { head = 0; bucket = 0; slot = 0; index = 0; back = false; hint = 0; number = a._addr; size = a._size }
