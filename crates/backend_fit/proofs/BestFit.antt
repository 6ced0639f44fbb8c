-- The search for the best fit, over the free runs.
use Rattle.std.proofs.Common.{◌≡◌, ◌⊎◌, ℕ, ◌+◌, ◌≤◌, Bool, true, false, not, refl, ap, ◌∙◌, sym, arith, subst, List, [], ◌∷◌, length, Option, Some, None, leb, inl, inr, if◌then◌else◌}
use Rattle.std.specs.Prelude.{filter_map}
use Rattle.std.specs.List.{find}
use Rattle.std.proofs.lemmas.Bool.{cases_Bool, leb-true, le-leb, and_parts}
use Rattle.heap_model.specs.declared.Kind.{Kind}
use Rattle.heap_model.specs.declared.Kind.TheVariants as kinds
use Rattle.heap_model.specs.declared.Run as real
use Rattle.heap_model.specs.Runs.{Run, fitting, least}
use Rattle.heap_model.specs.State.{is_kind}
use Rattle.page_ranges.specs.Words.{runs_of}
use Rattle.page_ranges.specs.Ranges.{AreRuns, IsWhole}
use Rattle.page_ranges.specs.Spans.{is_of_free, frees_in, plain}
use Rattle.backend_fit.specs.Best.{better, with_run, best_of}
use Rattle.backend_fit.specs.Starts.{is_free_from}
use Rattle.backend_fit.proofs.Starts.{passes}

best_more : (before : Run → Run → Bool) (best : Option Run) (q : Run) (qs : List Run) → best_of before best (q ∷ qs) ≡ best_of before (Some (better before best q)) qs
best_more before None q qs = refl
best_more before (Some s) q qs = refl

best_step : (before : Run → Run → Bool) (n : ℕ) (best : Option Run) (r : real.Run) (qs : List Run) →
    best_of before best (fitting n (plain r ∷ qs)) ≡ best_of before (with_run before n best r) (fitting n qs)
best_step before n best r qs = elim (cases_Bool (leb n r.pages)) [
  | inl f ↦ rw f (best_more before best (plain r) (fitting n qs))
  | inr f ↦ rw f refl
]

best_end : (before : Run → Run → Bool) (best : Option Run) → best_of before best [] ≡ best
best_end before None = refl
best_end before (Some r) = refl

pub header_only : (k : Kind) → not (is_kind k kinds.Header) ≡ false → is_of_free k ≡ false
header_only kinds.Header h = refl
header_only kinds.Free h = h
header_only kinds.Vs h = refl
header_only kinds.Lfh h = refl
header_only kinds.Back h = refl

---- The free runs from a page on

abbrev free_if : ℕ → real.Run → Option Run
free_if from r = if is_free_from from r then Some (plain r) else None

abbrev pub frees_from : ℕ → List real.Run → List Run
frees_from from rs = filter_map (free_if from) rs

frees_all : (rs : List real.Run) → frees_from 0 rs ≡ frees_in rs
frees_all [] = refl
frees_all (r ∷ rs) =
    let again = frees_all rs in
    let t : leb 0 r.first ≡ true = le-leb 0 r.first (omega arith) in
    elim (cases_Bool (is_of_free r.mark.kind)) [
      | inl e ↦ rw (t, e) (ap (λ (qs : List Run). plain r ∷ qs) again)
      | inr e ↦ rw (t, e) again
    ]

frees_none : (from : ℕ) (rs : List real.Run) → find (is_free_from from) rs ≡ None → frees_from from rs ≡ []
frees_none from [] f = refl
frees_none from (r ∷ rs) f = elim (cases_Bool (is_free_from from r)) [
  | inl e ↦ let no : Some r ≡ None = rw e at f in absurd (let x : ⊥ = cc in x)
  | inr e ↦ rw e (frees_none from rs (rw e at f))
]

-- runs behind two pages are the same from either
frees_same : (words : List ℕ) (a b at to : ℕ) (rs : List real.Run) → AreRuns words at to rs → a ≤ at → b ≤ at → frees_from a rs ≡ frees_from b rs
frees_same words a b at to [] runs l h = refl
frees_same words a b at to (r ∷ rs) runs l h =
    let again = frees_same words a b (at + r.pages) to rs runs.2 (omega arith) (omega arith) in
    let t : leb a r.first ≡ true = le-leb a r.first (omega (arith, runs.0)) in
    let u : leb b r.first ≡ true = le-leb b r.first (omega (arith, runs.0)) in
    elim (cases_Bool (is_of_free r.mark.kind)) [
      | inl e ↦ rw (t, u, e) (ap (λ (qs : List Run). plain r ∷ qs) again)
      | inr e ↦ rw (t, u, e) again
    ]

-- the next free run, and those behind it
frees_step : (words : List ℕ) (from at to : ℕ) (rs : List real.Run) (r : real.Run) → AreRuns words at to rs → find (is_free_from from) rs ≡ Some r → frees_from from rs ≡ plain r ∷ frees_from (r.first + 1) rs
frees_step words from at to [] r a f = absurd (let x : ⊥ = cc in x)
frees_step words from at to (q ∷ qs) r a f = elim (cases_Bool (is_free_from from q)) [
  | inl e ↦ here e (rw e at f)
  | inr e ↦ there e (rw e at f) (frees_step words from (at + q.pages) to qs r a.2)
]
  where
    too_low : (n : ℕ) → leb (n + 1) n ≡ false
    too_low n = elim (cases_Bool (leb (n + 1) n)) [
      | inl e ↦ let l = leb-true (n + 1) n e in absurd (omega arith)
      | inr e ↦ e
    ]

    here : is_free_from from q ≡ true → Some q ≡ Some r → frees_from from (q ∷ qs) ≡ plain r ∷ frees_from (r.first + 1) (q ∷ qs)
    here e is =
        let same : q ≡ r = cc in
        let l = leb-true from q.first (and_parts (leb from q.first) (is_of_free q.mark.kind) e).0 in
        let some = a.1.some in
        let rest = frees_same words from (q.first + 1) (at + q.pages) to qs a.2 (omega (arith, a.0)) (omega (arith, a.0)) in
        subst (λ (x : real.Run). frees_from from (q ∷ qs) ≡ plain x ∷ frees_from (x.first + 1) (q ∷ qs)) same (rw (e, too_low q.first) (ap (λ (xs : List Run). plain q ∷ xs) rest))

    not_again : is_free_from from q ≡ false → from ≤ r.first → (is_free_from (r.first + 1) q ≡ true) ⊎ (is_free_from (r.first + 1) q ≡ false) → is_free_from (r.first + 1) q ≡ false
    not_again e l (inr z) = z
    not_again e l (inl z) =
        let p = and_parts (leb (r.first + 1) q.first) (is_of_free q.mark.kind) z in
        let h = leb-true (r.first + 1) q.first p.0 in
        let t : leb from q.first ≡ true = le-leb from q.first (omega arith) in
        let both : is_free_from from q ≡ true = rw (t, p.1) refl in
        let no : true ≡ false = sym both ∙ e in
        absurd (let x : ⊥ = cc in x)

    there : is_free_from from q ≡ false → find (is_free_from from) qs ≡ Some r → (find (is_free_from from) qs ≡ Some r → frees_from from qs ≡ plain r ∷ frees_from (r.first + 1) qs)
        → frees_from from (q ∷ qs) ≡ plain r ∷ frees_from (r.first + 1) (q ∷ qs)
    there e g step =
        let again = step g in
        let p = passes (is_free_from from) qs r g in
        let l = leb-true from r.first (and_parts (leb from r.first) (is_of_free r.mark.kind) p).0 in
        rw (e, not_again e l (cases_Bool (is_free_from (r.first + 1) q))) again

---- The search

-- What the search knows at a page: the best is that of the best so far and the free runs from there on.
pub record IsSearch (words : List ℕ) (before : Run → Run → Bool) (n from : ℕ) (best : Option Run) : Type 0 where
  pub same : best_of before best (fitting n (frees_from from (runs_of words))) ≡ least before (fitting n (frees_in (runs_of words)))

pub search_begins : (words : List ℕ) (before : Run → Run → Bool) (n : ℕ) → IsSearch words before n 0 None
search_begins words before n = record { same = ap (λ (qs : List Run). least before (fitting n qs)) (frees_all (runs_of words)) }

pub search_goes_on : (words : List ℕ) (before : Run → Run → Bool) (n from : ℕ) (best : Option Run) (r : real.Run) → IsWhole words →
    IsSearch words before n from best → find (is_free_from from) (runs_of words) ≡ Some r → IsSearch words before n (r.first + 1) (with_run before n best r)
search_goes_on words before n from best r w s f =
    let step = frees_step words from 0 (length words) (runs_of words) r w f in
    record {
      same = sym (best_step before n best r (frees_from (r.first + 1) (runs_of words)))
          ∙ (sym (ap (λ (qs : List Run). best_of before best (fitting n qs)) step) ∙ s.same);
    }

pub search_ends : (words : List ℕ) (before : Run → Run → Bool) (n from : ℕ) (best : Option Run) → IsSearch words before n from best → find (is_free_from from) (runs_of words) ≡ None →
    best ≡ least before (fitting n (frees_in (runs_of words)))
search_ends words before n from best s f =
    sym (best_end before best) ∙ (sym (ap (λ (qs : List Run). best_of before best (fitting n qs)) (frees_none from (runs_of words) f)) ∙ s.same)

-- where there is no least one, none fits
pub least_none : (before : Run → Run → Bool) (qs : List Run) → None ≡ least before qs → qs ≡ []
least_none before [] e = refl
least_none before (q ∷ qs) e = absurd (let x : ⊥ = cc in x)
