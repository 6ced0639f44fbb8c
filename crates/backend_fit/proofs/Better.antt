-- Which of two runs is better.
use Rattle.std.proofs.Common.{◌≡◌, inl, inr, ℕ, ◌<◌, ◌≤◌, true, false, refl, arith, eqb, ltb, Option, Some, None, IfSome}
use Rattle.std.proofs.lemmas.Bool.{cases_lt, lt-ltb, le-ltb, eq-eqb, ne_eqb}
use Rattle.heap_model.specs.Runs.{Run}
use Rattle.heap_model.specs.State.{Area}
use Rattle.heap_model.specs.Backend.{committed_in, is_better}
use Rattle.page_region.specs.Held.{Held}
use Rattle.backend_fit.specs.declared.search.Best.{Best}
use Rattle.backend_fit.specs.Best.{IsCandidate}

module _ (a : Area) (r s : Run) (e : r.count ≡ s.count) where
  not_shorter : ltb r.count s.count ≡ false
  not_shorter = le-ltb r.count s.count (omega arith)

  equal : eqb r.count s.count ≡ true
  equal = eq-eqb r.count s.count e

  -- of equal lengths the one with more committed pages
  pub more_is_better : committed_in a s < committed_in a r → is_better a r s ≡ true
  more_is_better l =
      let more = lt-ltb (committed_in a s) (committed_in a r) l in
      rw (not_shorter, equal, more) refl

  -- .. then the lower
  pub higher_is_not : s.first < r.first → committed_in a r ≤ committed_in a s → is_better a r s ≡ false
  higher_is_not h l =
      let no_more = le-ltb (committed_in a s) (committed_in a r) l in
      let above = le-ltb r.first s.first (omega arith) in
      let other = ne_eqb r.first s.first (λ z. omega arith) in
      elim (cases_lt (committed_in a r) (committed_in a s)) [
        | inl less ↦
            let differ = ne_eqb (committed_in a s) (committed_in a r) (λ z. omega arith) in
            rw (not_shorter, equal, no_more, differ) refl
        | inr same ↦
            let as_many = eq-eqb (committed_in a s) (committed_in a r) (omega arith) in
            rw (not_shorter, equal, no_more, as_many, above, other) refl
      ]

-- the best so far begins before any later page
pub candidate_later : (h : Held) (from to : ℕ) (best : Option Best) → from ≤ to → IfSome best (IsCandidate h from) → IfSome best (IsCandidate h to)
candidate_later h from to None l c = c
candidate_later h from to (Some b) l c = let below = c.below in record { inside = c.inside; below = omega arith; counted = c.counted }
