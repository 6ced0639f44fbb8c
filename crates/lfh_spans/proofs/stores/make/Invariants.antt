use Rattle.std.proofs.Common.{false}
use Rattle.lfh_spans.specs.Stores.{reserving_in}
use Rattle.lfh_spans.proofs.stores.make.Given as goal

abbrev pub ghosts-install_by-E-Carried : goal.ghosts-install_by-E-Carried
ghosts-install_by-E-Carried g a = record { entries = a._prepared.now.items }

abbrev pub ghosts-install_by-R-Carried : goal.ghosts-install_by-R-Carried
ghosts-install_by-R-Carried g a = record { entries = reserving_in a._number a._reserved a._subsegment.head }

abbrev pub ghosts-install_by-B-Target : goal.ghosts-install_by-B-Target
ghosts-install_by-B-Target g a = record { head = a._subsegment.head; bucket = a._subsegment.bucket; slot = a._subsegment.slot; index = a._index; back = false; hint = a._hint; number = a._subsegment.pages; size = 0 }
