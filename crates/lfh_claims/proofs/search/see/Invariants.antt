use Rattle.std.proofs.Common.{false}
use Rattle.claim_rule.specs.Entries.{slot_at}
use Rattle.lfh_claims.specs.Search.{bucket_sought}
use Rattle.lfh_claims.proofs.search.see.Given as goal

abbrev pub ghosts-see_by-E-Carried : goal.ghosts-see_by-E-Carried
ghosts-see_by-E-Carried g a = record { entries = a._prepared.now.items }

abbrev pub ghosts-see_by-B-Target : goal.ghosts-see_by-B-Target
ghosts-see_by-B-Target g a = record { head = a._head; bucket = bucket_sought a.place.now.me.0.opening a.place.now.me.0.roll a.place.now.me.0.seen a._prepared.now.items a._number; slot = slot_at a.place.now.me.0.roll a._number; index = a._word; back = false; hint = 0; number = 0; size = 0 }
