-- A subsegment that was read in this stay counts as read behind readings.
use Rattle.std.proofs.Common.{◌≡◌, ℕ, true, List, [], ◌∷◌, ◌++◌, refl, sym, ap, subst}
use Rattle.std.proofs.lemmas.Bool.{and_from, and_parts, false≢true}
use Rattle.heap_model.specs.declared.Act.{Act}
use Rattle.heap_model.specs.declared.Act.TheVariants as acts
use Rattle.heap_model.specs.declared.Entry.{Entry}
use Rattle.heap_model.specs.CallState.{Search}
use Rattle.heap_gate.specs.Token.{Token}
use Rattle.heap_gate.specs.Calls.{Runs}
use Rattle.lfh_claims.specs.Search.{own_slot}
use Rattle.lfh_claims.specs.Stays.{stays_in, all_stay, all_leave_spans, HasRead}
use Rattle.lfh_claims.proofs.Stays.{read_stays}
use Rattle.lfh_search.specs.Acts.{by, is_reading, AreReadings}
use Rattle.lfh_search.specs.Results.{Searches, WaitsInside}
use Rattle.lfh_search.proofs.Words.{same_slot}

stay-append : (xs ys : List Entry) → all_stay xs ≡ true → all_stay ys ≡ true → all_stay (xs ++ ys) ≡ true
stay-append [] ys h k = k
stay-append (x ∷ xs) ys h k = let p = and_parts (stays_in x.act) (all_stay xs) h in and_from (stays_in x.act) (all_stay (xs ++ ys)) p.0 (stay-append xs ys p.1 k)

stay_by : (n : ℕ) (its : List Act) → AreReadings its → all_stay (by n its) ≡ true
stay_by n [] are = refl
stay_by n (act ∷ rest) are = and_from (stays_in act) (all_stay (by n rest)) (one act are.0) (stay_by n rest are.1)
  where
    one : (act : Act) → is_reading act ≡ true → stays_in act ≡ true
    one (acts.Saw head word bits) i = refl
    one (acts.Lost head index) i = refl
    one (acts.NoHint bucket slot) i = refl
    one _ i = absurd (false≢true i)

pub seen_on : (c e : Token) (its : List Act) → AreReadings its → Runs c e (by c.number its) → (b d : ℕ) (f : Search) → Searches c b d f → WaitsInside c → (head : ℕ) → HasRead c head b (own_slot c) → HasRead e head b (own_slot e)
seen_on c e its are r b d f h w head z = subst (HasRead e head b) (sym (same_slot c e its are r b d f h))
    (read_stays c e (by c.number its) r.does (stay-append c.prepared (by c.number its) w.stays (stay_by c.number its are)) w.leaves (λ s q. (h s q).inside) head b (own_slot c) z)

-- nothing is prepared
pub waits_none : (c : Token) → c.prepared ≡ [] → WaitsInside c
waits_none c e = record { stays = ap all_stay e; leaves = ap all_leave_spans e }
