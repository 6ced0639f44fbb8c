use Rattle.std.proofs.Common.{false}
use Rattle.lfh_spans.proofs.stores.look_hint.Given as goal

abbrev pub ghosts-look_hint_by-E-Carried : goal.ghosts-look_hint_by-E-Carried
ghosts-look_hint_by-E-Carried g a = record { entries = a._prepared.now.items }

abbrev pub ghosts-look_hint_by-B-Target : goal.ghosts-look_hint_by-B-Target
ghosts-look_hint_by-B-Target g a = record { head = 0; bucket = a._bucket; slot = a._slot; index = 0; back = false; hint = 0; number = 0; size = 0 }
