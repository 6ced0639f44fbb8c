use Rattle.std.proofs.Common.{false}
use Rattle.lfh_claims.proofs.looks.owner_bits.Given as goal

abbrev pub ghosts-bits_by-E-Carried : goal.ghosts-bits_by-E-Carried
ghosts-bits_by-E-Carried g a = record { entries = a._prepared.now.items }

abbrev pub ghosts-bits_by-B-Target : goal.ghosts-bits_by-B-Target
ghosts-bits_by-B-Target g a = record { head = a._head; bucket = 0; slot = 0; index = a._word; back = false; hint = 0; number = 0; size = 0 }
