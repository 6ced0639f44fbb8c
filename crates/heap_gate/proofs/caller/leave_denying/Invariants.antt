use Rattle.std.proofs.Common.{false}
use Rattle.heap_gate.proofs.caller.leave_denying.Given as goal

abbrev pub ghosts-deny_leave_by-E-Carried : goal.ghosts-deny_leave_by-E-Carried
ghosts-deny_leave_by-E-Carried g a = record { entries = a._prepared.now.items }

abbrev pub ghosts-deny_leave_by-B-Target : goal.ghosts-deny_leave_by-B-Target
ghosts-deny_leave_by-B-Target g a = record { head = 0; bucket = 0; slot = 0; index = 0; back = false; hint = 0; number = a._addr; size = 0 }
