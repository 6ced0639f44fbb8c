use Rattle.heap_model.specs.declared.What.TheVariants as whats
use Rattle.claim_rule.specs.Entries.{slot_at}
use Rattle.heap_gate.specs.Token.{is_out, outs}
use Rattle.lfh_claims.specs.Search.{bucket_sought, hint_owed}
use Rattle.lfh_claims.proofs.search.claim.Given as goal

abbrev pub ghosts-claim_by-E-Carried : goal.ghosts-claim_by-E-Carried
ghosts-claim_by-E-Carried g a = record { entries = a._prepared.now.items }

abbrev pub ghosts-claim_by-B-Target : goal.ghosts-claim_by-B-Target
ghosts-claim_by-B-Target g a = record { head = a._head; bucket = bucket_sought a.place.now.me.0.opening a.place.now.me.0.roll a.place.now.me.0.seen a._prepared.now.items a._number; slot = slot_at a.place.now.me.0.roll a._number; index = a._index; back = is_out whats.Back (outs a.place.now.me.1); hint = hint_owed a.place.now.me.0.opening a.place.now.me.0.roll a.place.now.me.0.seen a._prepared.now.items a.place.now.me.0.owes (bucket_sought a.place.now.me.0.opening a.place.now.me.0.roll a.place.now.me.0.seen a._prepared.now.items a._number) (slot_at a.place.now.me.0.roll a._number); number = 0; size = 0 }
