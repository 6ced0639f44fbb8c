use Rattle.std.proofs.Common.{false}
use Rattle.lfh_claims.proofs.looks.active_of.Given as goal

abbrev pub ghosts-active_by-E-Carried : goal.ghosts-active_by-E-Carried
ghosts-active_by-E-Carried g a = record { entries = a._prepared.now.items }

abbrev pub ghosts-active_by-B-Target : goal.ghosts-active_by-B-Target
ghosts-active_by-B-Target g a = record { head = 0; bucket = 0; slot = 0; index = 0; back = false; hint = 0; number = a._bucket; size = 0 }
