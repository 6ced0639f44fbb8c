use Rattle.std.proofs.Common.{false}
use Rattle.lfh_spans.proofs.stores.put_hint.Given as goal

abbrev pub ghosts-put_hint_by-E-Carried : goal.ghosts-put_hint_by-E-Carried
ghosts-put_hint_by-E-Carried g a = record { entries = a._prepared.now.items }

abbrev pub ghosts-put_hint_by-B-Target : goal.ghosts-put_hint_by-B-Target
ghosts-put_hint_by-B-Target g a = record { head = 0; bucket = a._bucket; slot = a._slot; index = 0; back = false; hint = 0; number = 0; size = 0 }
