use Rattle.std.proofs.Common.{false}
use Rattle.stay_calls.proofs.denials.deny.Given as goal

abbrev pub ghosts-deny_by-E-Carried : goal.ghosts-deny_by-E-Carried
ghosts-deny_by-E-Carried a = record { entries = a._prepared.now.items }

abbrev pub ghosts-deny_by-B-Target : goal.ghosts-deny_by-B-Target
ghosts-deny_by-B-Target a = record { head = 0; bucket = 0; slot = 0; index = 0; back = false; hint = 0; number = a._addr; size = 0 }
