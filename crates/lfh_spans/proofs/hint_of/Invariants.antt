use Rattle.std.proofs.Common.{false}
use Rattle.lfh_spans.proofs.hint_of.Given as goal

abbrev pub ghosts-hint_by-E-Carried : goal.ghosts-hint_by-E-Carried
ghosts-hint_by-E-Carried g a = record { entries = a._prepared.now.items }

abbrev pub ghosts-hint_by-B-Target : goal.ghosts-hint_by-B-Target
ghosts-hint_by-B-Target g a = record { head = 0; bucket = a._bucket; slot = a._slot; index = 0; back = false; hint = 0; number = 0; size = 0 }
