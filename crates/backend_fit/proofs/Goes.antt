-- Where a request for pages goes: a reserved segment, or the front of the next one.
use Rattle.std.proofs.Common.{◌≡◌, ℕ, zero, suc, ◌+◌, ◌-◌, ◌*◌, ◌/◌, ◌<◌, ◌≤◌, Bool, true, ◌||◌, not, List, [], ◌∷◌, ◌++◌, Option, Some, None, refl, sym, ap, subst, ◌∙◌, arith, eqb, leb, ltb, inl, inr}
use Rattle.std.specs.List.{AllByRecursion, list_all}
use Rattle.std.proofs.lemmas.Bool.{cases_Bool, and_from, and_parts, eq-eqb, le-leb, lt-ltb, le-ltb, ltb-true, leb-false, leb-true, or_right}
use Rattle.heap_model.specs.declared.Kind.{Kind}
use Rattle.heap_model.specs.declared.Kind.TheVariants as kinds
use Rattle.heap_model.specs.declared.Run as real
use Rattle.heap_model.specs.Runs.{Run, joined, runs, fitting, least}
use Rattle.heap_model.specs.State.{Area, is_kind}
use Rattle.heap_model.specs.Backend.{free_runs, is_free, is_better, back_place, next_segment, first_or}
use Rattle.heap_model.specs.Legal.{is_run_of}
use Rattle.serial_laws.specs.BackCalls.{one_more_reserved}
use Rattle.page_ranges.specs.Ranges.{AreRuns}
use Rattle.page_ranges.specs.Spans.{is_of_span, is_usable_in, IsUsed, spans_in}
use Rattle.backend_fit.specs.Effects.{with_segment}
use Rattle.backend_fit.proofs.Least.{fitting_all, least_all}
use Rattle.backend_fit.proofs.NextSegment.{AreBelow, one_run_more}

---- Spans and free runs lie in the reserved segments

span_used : (k : Kind) → is_of_span k ≡ true → not (is_kind k kinds.Header) ≡ true
span_used kinds.Header e = absurd (let z : ⊥ = cc in z)
span_used kinds.Free e = refl
span_used kinds.Vs e = refl
span_used kinds.Lfh e = refl
span_used kinds.Back e = refl

pub spans_below : (words : List ℕ) (reserved from to : ℕ) (rs : List real.Run) → AreRuns words from to rs → AllByRecursion (IsUsed reserved) rs → AreBelow reserved (spans_in rs)
spans_below words reserved from to [] a u = tt
spans_below words reserved from to (r ∷ rs) a u = elim (cases_Bool (is_of_span r.mark.kind)) [
  | inl e ↦
      let last = u.0 (r.pages - 1) (omega (arith, a.1.some)) in
      let usable : is_usable_in reserved (r.first + (r.pages - 1)) ≡ true = last ∙ span_used r.mark.kind e in
      let low = ltb-true ((r.first + (r.pages - 1)) / 256) reserved (and_parts (ltb ((r.first + (r.pages - 1)) / 256) reserved) _ usable).0 in
      rw e (omega (arith, low, a.1.some), spans_below words reserved (from + r.pages) to rs a.2 u.1)
  | inr e ↦ rw e (spans_below words reserved (from + r.pages) to rs a.2 u.1)
]

joined_below : (n high : ℕ) (rs : List Run) → n < high → AllByRecursion (λ (r : Run). r.first < high) rs → AllByRecursion (λ (r : Run). r.first < high) (joined n rs)
joined_below n high [] l h = (l, tt)
joined_below n high (r ∷ rs) l h = elim (cases_Bool (eqb r.first (suc n))) [ inl e ↦ rw e (l, h.1) | inr e ↦ rw e (l, h) ]

runs_below : (test : ℕ → Bool) (at n : ℕ) → AllByRecursion (λ (r : Run). r.first < at + n) (runs test at n)
runs_below test at zero = tt
runs_below test at (suc n) =
    let rest : AllByRecursion (λ (r : Run). r.first < at + suc n) (runs test (suc at) n) = all_more (suc at + n) (at + suc n) (omega arith) (runs test (suc at) n) (runs_below test (suc at) n) in
    elim (cases_Bool (test at)) [
      | inl e ↦ rw e (joined_below at (at + suc n) (runs test (suc at) n) (omega arith) rest)
      | inr e ↦ rw e rest
    ]
  where
    all_more : (m n : ℕ) → m ≤ n → (rs : List Run) → AllByRecursion (λ (r : Run). r.first < m) rs → AllByRecursion (λ (r : Run). r.first < n) rs
    all_more m n l [] h = tt
    all_more m n l (r ∷ rs) h = (omega (arith, h.0, l), all_more m n l rs h.1)

---- Where a request goes

-- Either a free run of a reserved segment, or the front of the next one, where no free run fits.
pub data Goes (a : Area) (segments n first : ℕ) : Type 0 where
  Into : first / 256 < a.reserved → Goes a segments n first
  Next : first ≡ 256 * a.reserved + 2 → a.reserved < segments → n ≤ 254 → fitting n (free_runs a) ≡ [] → Goes a segments n first

pub least_none : (before : Run → Run → Bool) (rs : List Run) → least before rs ≡ None → rs ≡ []
least_none before [] e = refl
least_none before (r ∷ rs) e = absurd (let z : ⊥ = cc in z)

pub goes : (a : Area) (segments n first : ℕ) → back_place a segments n ≡ Some first → Goes a segments n first
goes a segments n first h = by_least (least (is_better a) (fitting n (free_runs a))) refl h
  where
    by_least : (o : Option Run) → least (is_better a) (fitting n (free_runs a)) ≡ o → first_or o (next_segment a segments n) ≡ Some first → Goes a segments n first
    by_least (Some r) e f =
        let below = runs_below (is_free a) 0 (256 * a.reserved) in
        let low = (least_all (λ (q : Run). (q.first < 0 + 256 * a.reserved) × (n ≤ q.count)) (is_better a) (fitting n (free_runs a)) r (fitting_all (λ (q : Run). q.first < 0 + 256 * a.reserved) n (free_runs a) below) e).0 in
        let is : r.first ≡ first = cc in
        Into (omega (arith, low, is))
    by_least None e f = elim (cases_Bool (leb n 254)) [
      | inl g ↦ elim (cases_Bool (ltb a.reserved segments)) [
        | inl k ↦
            let is : Some (256 * a.reserved + 2) ≡ Some first = rw (g, k) at f in
            let same : 256 * a.reserved + 2 ≡ first = cc in
            Next (sym same) (ltb-true a.reserved segments k) (leb-true n 254 g) (least_none (is_better a) (fitting n (free_runs a)) e)
        | inr k ↦ let z : None ≡ Some first = rw (g, k) at f in absurd (let y : ⊥ = cc in y)
      ]
      | inr g ↦ let z : None ≡ Some first = rw g at f in absurd (let y : ⊥ = cc in y)
    ]

pub fitting_append : (n : ℕ) (rs qs : List Run) → fitting n (rs ++ qs) ≡ fitting n rs ++ fitting n qs
fitting_append n [] qs = refl
fitting_append n (r ∷ rs) qs = elim (cases_Bool (leb n r.count)) [
  | inl e ↦ rw e (ap (λ (xs : List Run). r ∷ xs) (fitting_append n rs qs))
  | inr e ↦ rw e (fitting_append n rs qs)
]

-- where none fits, each is shorter
all_short : (test : Run → Bool) (n : ℕ) (rs qs : List Run) → fitting n rs ≡ [] → list_all (λ r. test r || ltb r.count n) qs ≡ true → list_all (λ r. test r || ltb r.count n) (rs ++ qs) ≡ true
all_short test n [] qs h k = k
all_short test n (r ∷ rs) qs h k = elim (cases_Bool (leb n r.count)) [
  | inl e ↦ let z : r ∷ fitting n rs ≡ [] = rw e at h in absurd (let y : ⊥ = cc in y)
  | inr e ↦
      let t = lt-ltb r.count n (leb-false n r.count e) in
      and_from (test r || ltb r.count n) _ (or_right (test r) (ltb r.count n) t) (all_short test n rs qs (rw e at h) k)
]

---- The area with the segment of a page

pub same_segment : (a : Area) (first : ℕ) → first / 256 < a.reserved → with_segment a first ≡ a
same_segment a first l = let e = lt-ltb (first / 256) a.reserved l in rw e refl

pub next_one : (a : Area) (first : ℕ) → first ≡ 256 * a.reserved + 2 → with_segment a first ≡ one_more_reserved a
next_one a first w = let e = le-ltb (first / 256) a.reserved (omega arith) in rw e refl

-- where the next segment is reserved, the request goes there, and the free runs of the others are too short
pub record GoesNext (a : Area) (segments n first : ℕ) : Type 0 where
  pub place : back_place (one_more_reserved a) segments n ≡ Some first
  pub there : first / 256 < (one_more_reserved a).reserved
  pub short : list_all (λ r. is_run_of a.reserved r || ltb r.count n) (free_runs (one_more_reserved a)) ≡ true

pub goes_next : (a : Area) (segments n first : ℕ) → AreBelow a.reserved a.spans → first ≡ 256 * a.reserved + 2 → n ≤ 254 → fitting n (free_runs a) ≡ [] → GoesNext a segments n first
goes_next a segments n first below w few none =
    let more = one_more_reserved a in
    let last : List Run = record { first = 256 * a.reserved + 2; count = 254 } ∷ [] in
    let free = one_run_more a below in
    let fits = le-leb n 254 few in
    let segment = eq-eqb ((256 * a.reserved + 2) / 256) a.reserved (omega arith) in
    record {
      place =
          ap (λ (rs : List Run). first_or (least (is_better more) rs) (next_segment more segments n)) (ap (fitting n) free ∙ fitting_append n (free_runs a) last ∙ ap (λ (rs : List Run). rs ++ fitting n last) none)
          ∙ rw fits (ap Some (sym w));
      there = omega (arith, w);
      short = subst (λ (rs : List Run). list_all (λ r. is_run_of a.reserved r || ltb r.count n) rs ≡ true) (sym free)
          (all_short (is_run_of a.reserved) n (free_runs a) last none (rw segment refl));
    }
