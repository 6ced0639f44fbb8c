-- A span that was made for a block has the one gap that holds it. (These lemmas are also in the crate of the heap of one caller, on which this one does not stand.)
use Rattle.std.proofs.Common.{◌≡◌, ℕ, ◌+◌, ◌-◌, ◌*◌, ◌/◌, ◌<◌, ◌≤◌, true, false, not, List, [], ◌∷◌, ◌++◌, Option, Some, None, refl, sym, ap, ◌∙◌, arith, leb, ltb, inl, inr, append-nil}
use Rattle.std.specs.Prelude.{option_map, is_some}
use Rattle.std.specs.List.{AllByRecursion}
use Rattle.std.proofs.lemmas.Bool.{cases_Bool, le-leb, lt-leb, lt-ltb, le-ltb}
use Rattle.heap_model.specs.Geometry.{units_of, span_pages_of}
use Rattle.heap_model.specs.Runs.{Run, fitting, least}
use Rattle.heap_model.specs.State.{Span, Place, insert_span}
use Rattle.heap_model.specs.Ranges as ranges
use Rattle.heap_model.specs.Ranges.{in_place, is_clear, gaps_of, is_smaller, taken_of, vs_place}
use Rattle.heap_soundness.specs.Sound.{AreAt, IsInVs}
use Rattle.heap_soundness.proofs.Lists.{all_at, none_from, all_weaker}
use Rattle.vs_layer.specs.Kept.{VsKept, vs_span, places_of, place_for, gaps_in}
use Rattle.vs_layer.specs.Effects.{LieApart}
use Rattle.backend_fit.proofs.Tail.{tail, whole_run}
use Rattle.backend_fit.proofs.Goes.{fitting_append, least_none}

---- The gap

-- no place of other spans has a granule of pages that lie apart from these
place_apart : (first pages g : ℕ) (xs : List Span) (p : Place) → AllByRecursion (LieApart first pages) xs → IsInVs xs p.start p.granules → 256 * first ≤ g → g < 256 * (first + pages) → in_place g p ≡ false
place_apart first pages g xs p a v l h =
    let low = v.behind in
    let high = v.before in
    let at = v.aligned in
    elim (all_at (LieApart first pages) v.span xs a v.there) [
      | inl k ↦
          let e = le-ltb g (p.start / 16 + p.granules) (omega arith) in
          elim (cases_Bool (leb (p.start / 16) g)) [ inl f ↦ rw (f, e) refl | inr f ↦ rw f refl ]
      | inr k ↦ let e = lt-leb (p.start / 16) g (omega arith) in rw e refl
    ]

clear_in : (first pages g : ℕ) (xs : List Span) (ps : List Place) → AllByRecursion (LieApart first pages) xs → AreAt (IsInVs xs) ps → 256 * first ≤ g → g < 256 * (first + pages) → is_clear ps g ≡ true
clear_in first pages g xs ps a v l h =
    ap not (none_from (in_place g) ps (all_weaker (λ p. IsInVs xs p.start p.granules) (λ p. in_place g p ≡ false) ps (λ p i w. place_apart first pages g xs p a w l h) v))

-- the gap of a span without places
abbrev pub whole_gap : ℕ → ℕ → Run
whole_gap first pages = record { first = 256 * first + 3; count = 256 * pages - 3 }

one_gap : (first pages : ℕ) (xs : List Span) (ps : List Place) → 0 < pages → AllByRecursion (LieApart first pages) xs → AreAt (IsInVs xs) ps → ranges.gaps_in ps (vs_span first pages) ≡ whole_gap first pages ∷ []
one_gap first pages xs ps some a v =
    whole_run (is_clear ps) (256 * first + 3) (256 * pages - 3) (λ g l h. clear_in first pages g xs ps a v (omega arith) (omega arith))
    ∙ tail_is (256 * first + 3) (256 * pages - 3) (omega arith)
  where
    tail_is : (at n : ℕ) → 0 < n → tail at (at + n) ≡ record { first = at; count = n } ∷ []
    tail_is at n l =
        let e = lt-ltb at (at + n) (omega arith) in
        let f : at + n - at ≡ n = omega arith in
        rw (e, f) refl

---- Where no other gap fits, it is the one

append_none : {A : Type 0} (xs ys : List A) → xs ++ ys ≡ [] → (xs ≡ []) × (ys ≡ [])
append_none [] ys e = (refl, e)
append_none (x ∷ xs) ys e = absurd (let z : ⊥ = cc in z)

fits_only : (k : ℕ) (x : Span) (xs : List Span) (ps : List Place) → fitting k (gaps_of xs ps) ≡ [] → fitting k (gaps_of (insert_span x xs) ps) ≡ fitting k (ranges.gaps_in ps x)
fits_only k x [] ps h = ap (fitting k) (append-nil (ranges.gaps_in ps x))
fits_only k x (y ∷ ys) ps h =
    let parts = append_none (fitting k (ranges.gaps_in ps y)) (fitting k (gaps_of ys ps)) (sym (fitting_append k (ranges.gaps_in ps y) (gaps_of ys ps)) ∙ h) in
    elim (cases_Bool (ltb x.first y.first)) [
      | inl e ↦
          rw e (fitting_append k (ranges.gaps_in ps x) (gaps_of (y ∷ ys) ps) ∙ ap (λ (rs : List Run). fitting k (ranges.gaps_in ps x) ++ rs) h ∙ append-nil (fitting k (ranges.gaps_in ps x)))
      | inr e ↦
          rw e (fitting_append k (ranges.gaps_in ps y) (gaps_of (insert_span x ys) ps) ∙ ap (λ (rs : List Run). rs ++ fitting k (gaps_of (insert_span x ys) ps)) parts.0 ∙ fits_only k x ys ps parts.1)
    ]

-- what a place of k granules takes of a gap
abbrev shorter : ℕ → Run → Run
shorter k r = record { first = r.first; count = taken_of k r.count }

none_fits : (k : ℕ) (rs : List Run) → vs_place rs k ≡ None → fitting k rs ≡ []
none_fits k rs h = least_none is_smaller (fitting k rs) (by_option (least is_smaller (fitting k rs)) h)
  where
    by_option : (o : Option Run) → option_map (shorter k) o ≡ None → o ≡ None
    by_option None e = refl
    by_option (Some r) e = absurd (let z : ⊥ = cc in z)

module _ (vs more : VsKept) (n first : ℕ) (none : place_for vs n ≡ None) (apart : AllByRecursion (LieApart first (span_pages_of n)) vs.spans) (inside : AreAt (IsInVs vs.spans) (places_of vs))
    (spans : more.spans ≡ insert_span (vs_span first (span_pages_of n)) vs.spans) (places : places_of more ≡ places_of vs) where
  abbrev pages : ℕ
  pages = span_pages_of n

  -- where the block goes
  abbrev pub run_for : Run
  run_for = record { first = 256 * first + 3; count = taken_of (units_of n) (256 * pages - 3) }

  enough : units_of n ≤ 256 * pages - 3
  enough = omega arith

  gaps_are : fitting (units_of n) (gaps_in more) ≡ whole_gap first pages ∷ []
  gaps_are =
      let some : 0 < pages = omega arith in
      let long = le-leb (units_of n) (256 * pages - 3) enough in
      ap (λ (xs : List Span). fitting (units_of n) (gaps_of xs (places_of more))) spans
      ∙ ap (λ (ps : List Place). fitting (units_of n) (gaps_of (insert_span (vs_span first pages) vs.spans) ps)) places
      ∙ fits_only (units_of n) (vs_span first pages) vs.spans (places_of vs) (none_fits (units_of n) (gaps_in vs) none)
      ∙ ap (fitting (units_of n)) (one_gap first pages vs.spans (places_of vs) some apart inside)
      ∙ rw long refl

  pub goes_in : place_for more n ≡ Some run_for
  goes_in = ap (λ (rs : List Run). option_map (shorter (units_of n)) (least is_smaller rs)) gaps_are

  pub has_room : is_some (place_for more n) ≡ true
  has_room = ap is_some goes_in
