use Rattle.std.proofs.Common.{false}
use Rattle.lfh_spans.proofs.stores.look_tag.Given as goal

abbrev pub ghosts-look_tag_by-E-Carried : goal.ghosts-look_tag_by-E-Carried
ghosts-look_tag_by-E-Carried g a = record { entries = a._prepared.now.items }

abbrev pub ghosts-look_tag_by-B-Target : goal.ghosts-look_tag_by-B-Target
ghosts-look_tag_by-B-Target g a = record { head = 0; bucket = 0; slot = 0; index = 0; back = false; hint = 0; number = a._page; size = 0 }
