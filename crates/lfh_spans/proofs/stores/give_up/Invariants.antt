use Rattle.std.proofs.Common.{false}
use Rattle.lfh_spans.proofs.stores.give_up.Given as goal

abbrev pub ghosts-retire_by-E-Carried : goal.ghosts-retire_by-E-Carried
ghosts-retire_by-E-Carried g a = record { entries = a._prepared.now.items }

abbrev pub ghosts-retire_by-B-Target : goal.ghosts-retire_by-B-Target
ghosts-retire_by-B-Target g a = record { head = a._subsegment.head; bucket = a._subsegment.bucket; slot = a._subsegment.slot; index = 0; back = false; hint = 0; number = a._subsegment.pages; size = 0 }
