-- How late the ways of an allocation try the locks, one part behind another.
use Rattle.std.proofs.Common.{◌≡◌, ℕ, Bool, true, List, [], ◌∷◌, ◌++◌, Some, refl, sym, ap, ◌∙◌, subst, inl}
use Rattle.heap_model.specs.declared.Act.{Act}
use Rattle.heap_model.specs.declared.Act.TheVariants as acts
use Rattle.heap_model.specs.declared.Call.{Call}
use Rattle.heap_model.specs.declared.Call.TheVariants as calls
use Rattle.heap_model.specs.declared.Entry.{Entry}
use Rattle.heap_model.specs.declared.What.TheVariants as whats
use Rattle.heap_model.specs.Buckets.{bucket_of}
use Rattle.heap_soundness.specs.Sound.{IsOneOf}
use Rattle.call_laws.specs.Within.{by_all}
use Rattle.claim_rule.specs.Entries.{entry}
use Rattle.claim_rule.specs.Places.{vs_slot, back_slot}
use Rattle.heap_gate.specs.Token.{Token}
use Rattle.backend_fit.specs.Kept.{Kept}
use Rattle.vs_layer.specs.Kept.{VsKept}
use Rattle.lfh_claims.specs.Search.{own_slot}
use Rattle.lfh_search.specs.declared.course.Course.{Course}
use Rattle.lfh_search.specs.Hints.{HasSpentHint, IsSpentBy}
use Rattle.call_parts.specs.Calls.{GoesOn, all_own}
use Rattle.call_parts.proofs.Joining.{goes_none, goes_does, goes_then}
use Rattle.small_calls.specs.Late.{HasSpentFirst, TriesNeither, TriesLate, HasTriedLate, GoesLate, IsLateCall}
use Rattle.small_calls.specs.Ways.{IsSpent}
use Rattle.small_calls.specs.Served.{ServesSmall}
use Rattle.small_calls.specs.GoingOn.{ComesUnderBack, IsWithoutRoom, SearchesWithVs, IsForVsAt}
use Rattle.small_calls.specs.declared.serving.SmallCall.{SmallCall}
use Rattle.small_calls.specs.declared.serving.SmallCall.TheVariants as ends
use Rattle.small_calls.specs.declared.spent.BehindSpent.{BehindSpent}
use Rattle.small_calls.specs.declared.spent.BehindSpent.TheVariants as behind
use Rattle.small_calls.specs.declared.no_room.BehindNoSpan.{BehindNoSpan}
use Rattle.small_calls.specs.declared.no_room.BehindNoSpan.TheVariants as no_span
use Rattle.small_calls.proofs.BehindHint.{goes_spent}
use Rattle.small_calls.proofs.GoneBehind.{goes_m}
use Rattle.vs_calls.proofs.Tries.{none-append, behind_none, behind_more, behind_reason, behind_after, one_behind, one_before}
use Rattle.small_calls.proofs.Tries.{none_read, spent_by, spent_more}

---- What was added is one list

act_of_entry : (n : ℕ) (x y : Act) → entry n x ≡ entry n y → x ≡ y
act_of_entry n x y e = ap (λ (z : Entry). z.act) e

same_acts : (n : ℕ) (xs ys : List Act) → by_all n xs ≡ by_all n ys → xs ≡ ys
same_acts n [] [] e = refl
same_acts n [] (y ∷ ys) e = absurd (cc (e))
same_acts n (x ∷ xs) [] e = absurd (cc (e))
same_acts n (x ∷ xs) (y ∷ ys) e =
    let heads : entry n x ≡ entry n y = cc (e) in
    let rest = same_acts n xs ys (cc (e)) in
    let h = act_of_entry n x y heads in
    (λ i. h i ∷ rest i)

same_rest : {A : Type 0} (front xs ys : List A) → front ++ xs ≡ front ++ ys → xs ≡ ys
same_rest [] xs ys e = e
same_rest (x ∷ front) xs ys e = same_rest front xs ys (cc (e))

pub added_once : (a b : Token) (xs ys : List Act) → GoesOn a b xs → GoesOn a b ys → xs ≡ ys
added_once a b xs ys x y = same_acts a.number xs ys (same_rest (all_own a) (by_all a.number xs) (by_all a.number ys) (sym x.own ∙ y.own))

---- Where no lock is tried

pub neither_late : (a f : Token) (b : ℕ) → TriesNeither a f → TriesLate a f b
neither_late a f b x = record {
  added = x.added;
  goes = x.goes;
  back = behind_none whats.Back (HasSpentFirst a b) x.added x.back;
  vs = behind_none whats.Vs (IsOneOf (acts.NoSpan b)) x.added x.vs;
}

---- Behind a spent first pass

abbrev said : ℕ → Act
said b = acts.NoSpan b

pub spent_hint : (a m c : Token) (b d lost : ℕ) (x : HasSpentHint (record m { drawn = true }) c b d lost) (front mid : List Act) → GoesOn a m front → HasSpentFirst a b ((front ++ x.its) ++ mid)
spent_hint a m c b d lost x front mid g = spent_by a m b d front x.its mid g x.are (subst (λ (k : ℕ). IsSpentBy b (own_slot m) d k x.its) (sym x.count) x.why)

-- under the lock of the back end
pub late_under : (c f : Token) (course : Course) (lost : ℕ) (call : Call) (n : ℕ) (zero_it : Bool) (out : List ℕ) (r : BehindSpent) → ComesUnderBack c f course lost call n zero_it out r → GoesLate c f course.bucket
late_under c f course lost call n zero_it out (behind.Busy e) y =
    let rest : List Act = acts.Blocked whats.Back e.word ∷ [] in
    record { rest = rest; goes = goes_does c f rest y.runs.does y.stands.depth; vs = behind_none whats.Vs (IsOneOf (said course.bucket)) rest refl }
late_under c f course lost call n zero_it out (behind.Placed addr) y = record { rest = y.added; goes = y.goes; vs = behind_none whats.Vs (IsOneOf (said course.bucket)) y.added y.no_vs }
late_under c f course lost call n zero_it out (behind.NoRoom after now_lost) w =
    let first : List Act = acts.TakeLock whats.Back ∷ w.none.its in
    let none = none-append whats.Vs first (said course.bucket ∷ []) (none_read whats.Vs w.none.its w.none.are) refl in
    record {
      rest = first ++ said course.bucket ∷ [];
      goes = goes_m c c f after course lost now_lost n zero_it out w [] (goes_none c) (refl, refl) refl;
      vs = behind_none whats.Vs (IsOneOf (said course.bucket)) (first ++ said course.bucket ∷ []) none;
    }

-- and behind NoSpan
module _ (c m f : Token) (back : Kept) (course : Course) (lost now_lost n : ℕ) (zero_it : Bool) (w : IsWithoutRoom c m back course lost now_lost n zero_it []) where
  abbrev first : List Act
  first = acts.TakeLock whats.Back ∷ w.none.its

  goes_first : GoesOn c m ((acts.TakeLock whats.Back ∷ w.none.its) ++ said course.bucket ∷ [])
  goes_first = goes_m c c m back course lost now_lost n zero_it [] w [] (goes_none c) (refl, refl) refl

  call_at : m.call ≡ Some (calls.Alloc n w.on.flags)
  call_at = ap (λ (t : Token). t.call) w.none.prepared ∙ (w.none.stands.call ∙ w.on.call_is)

  goes_again : (r : BehindNoSpan) → SearchesWithVs m f course.bucket n zero_it r → (rest : List Act) × GoesOn m f rest
  goes_again (no_span.Busy e) y = let z = y (calls.Alloc n w.on.flags) call_at in (acts.Blocked whats.Vs e.word ∷ acts.GiveLock whats.Back ∷ [], z.goes)
  goes_again (no_span.Placed addr) y = let z = y (calls.Alloc n w.on.flags) call_at in (z.1.added, z.1.goes)
  goes_again (no_span.ForVs vs later) y = ((acts.TakeLock whats.Vs ∷ []) ++ y.its, y.goes)

  pub late_again : (r : BehindNoSpan) → SearchesWithVs m f course.bucket n zero_it r → GoesLate c f course.bucket
  late_again r y =
      let z = goes_again r y in
      let b = course.bucket in
      let xs : List Act = first ++ said b ∷ [] in
      let none = none-append whats.Vs first (said b ∷ []) (none_read whats.Vs w.none.its w.none.are) refl in
      record {
        rest = xs ++ z.0;
        goes = goes_then c m f xs z.0 goes_first z.1;
        vs = behind_reason whats.Vs (IsOneOf (said b)) xs z.0 none (λ mid. one_before (said b) xs mid (one_behind (said b) first (said b ∷ []) (inl refl)));
      }

pub late_bucket : (c f : Token) (b b' : ℕ) → b ≡ b' → GoesLate c f b → GoesLate c f b'
late_bucket c f b b' e x = subst (GoesLate c f) e x

-- the whole of it
module _ (a c f : Token) (n b d lost : ℕ) (zero_it : Bool) (x : IsSpent a c n zero_it b d lost) (g : GoesLate c f b) where
  abbrev its : List Act
  its = x.spent.its

  pub late_from : TriesLate a f b
  late_from = record {
    added = its ++ g.rest;
    goes = goes_then a c f its g.rest (goes_spent a c n b d lost zero_it x) g.goes;
    back = behind_reason whats.Back (HasSpentFirst a b) its g.rest (none_read whats.Back its x.spent.are) (λ mid. spent_hint a x.begun c b d lost x.spent [] mid x.goes);
    vs = behind_more whats.Vs (IsOneOf (said b)) (IsOneOf (said b)) its g.rest (none_read whats.Vs its x.spent.are) g.vs (λ mid i. one_behind (said b) its mid i);
  }

  -- .. where VS serves the size
  pub tried_from : (vs : VsKept) (back : Kept) (taking : List Act) (out : List ℕ) → IsForVsAt a f vs back b n zero_it taking out → HasTriedLate a f b
  unfolding late_from
  tried_from vs back taking out y =
      let whole : List Act = (y.first ++ said b ∷ []) ++ (taking ++ y.for_vs.its) in
      let same = added_once a f whole (its ++ g.rest) (goes_then a y.at f (y.first ++ said b ∷ []) (taking ++ y.for_vs.its) y.goes y.for_vs.goes) late_from.goes in
      record {
        late = late_from;
        spent = spent_hint a x.begun c b d lost x.spent [] g.rest x.goes;
        said = subst (IsOneOf (said b)) same (one_before (said b) (y.first ++ said b ∷ []) (taking ++ y.for_vs.its) (one_behind (said b) y.first (said b ∷ []) (inl refl)));
      }

-- both locks may be tried then
pub late_behind : (a m f : Token) (b : ℕ) (rest : List Act) → HasTriedLate a m b → GoesOn m f rest → TriesLate a f b
late_behind a m f b rest x g = record {
  added = x.late.added ++ rest;
  goes = goes_then a m f x.late.added rest x.late.goes g;
  back = behind_after whats.Back (HasSpentFirst a b) x.late.added rest x.late.back (λ mid. spent_more a b x.late.added mid x.spent);
  vs = behind_after whats.Vs (IsOneOf (said b)) x.late.added rest x.late.vs (λ mid. one_before (said b) x.late.added mid x.said);
}

---- Buckets

pub one_bucket : (n b b' : ℕ) → bucket_of n ≡ Some b → bucket_of n ≡ Some b' → b ≡ b'
one_bucket n b b' e f = let both : Some b ≡ Some b' = sym e ∙ f in (cc)

-- the whole of an allocation whose bucket was active
pub late_call : (a c f : Token) (n b d lost : ℕ) (zero_it : Bool) (x : IsSpent a c n zero_it b d lost) → GoesLate c f b → bucket_of n ≡ Some b → (r : SmallCall) → ServesSmall a f n zero_it r → IsLateCall a f n r
late_call a c f n b d lost zero_it x g e (ends.Placed addr) y = λ k is seen. subst (TriesLate a f) (one_bucket n b k e is) (late_from a c f n b d lost zero_it x g)
late_call a c f n b d lost zero_it x g e (ends.Refused why) y = λ k is seen. subst (TriesLate a f) (one_bucket n b k e is) (late_from a c f n b d lost zero_it x g)
late_call a c f n b d lost zero_it x g e (ends.ForVs vs back) y = λ k is seen.
    let taking : List Act = acts.TakeLock whats.Vs ∷ [] in
    let at : IsForVsAt a f vs back b n zero_it (acts.TakeLock whats.Vs ∷ []) (vs_slot ∷ back_slot ∷ []) =
    subst (λ (j : ℕ). IsForVsAt a f vs back j n zero_it (acts.TakeLock whats.Vs ∷ []) (vs_slot ∷ back_slot ∷ [])) (one_bucket n y.0 b y.1 e) y.2 in
    subst (HasTriedLate a f) (one_bucket n b k e is) (tried_from a c f n b d lost zero_it x g vs back taking (vs_slot ∷ back_slot ∷ []) at)
late_call a c f n b d lost zero_it x g e (ends.ForVsFirst vs back) y = λ k is seen.
    let at : IsForVsAt a f vs back b n zero_it [] (back_slot ∷ vs_slot ∷ []) = subst (λ (j : ℕ). IsForVsAt a f vs back j n zero_it [] (back_slot ∷ vs_slot ∷ [])) (one_bucket n y.0 b y.1 e) y.2 in
    subst (HasTriedLate a f) (one_bucket n b k e is) (tried_from a c f n b d lost zero_it x g vs back [] (back_slot ∷ vs_slot ∷ []) at)
