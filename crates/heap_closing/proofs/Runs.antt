-- A block is found among runs by the page that it begins at.
use Rattle.std.proofs.Common.{◌≡◌, ℕ, ◌+◌, ◌*◌, ◌<◌, true, false, List, [], ◌∷◌, Some, arith, eqb, inl, inr, refl}
use Rattle.std.specs.List.{AllByRecursion, find}
use Rattle.std.proofs.lemmas.Bool.{cases_Bool, and_from, eq-eqb, ne_eqb}
use Rattle.heap_model.specs.declared.Run.{Run}
use Rattle.page_ranges.specs.Spans.{AreRising}
use Rattle.backend_fit.specs.Kept.{is_block_run, is_block_at}

-- if the run is a block
abbrev pub IsFoundIn : List Run → Run → Type 0
IsFoundIn rs q = is_block_run q ≡ true → find (is_block_at (4096 * q.first)) rs ≡ Some q

-- a run in front does not hide those behind
behind_found : (r : Run) (rs : List Run) (from : ℕ) (qs : List Run) → AreRising from qs → r.first < from → AllByRecursion (IsFoundIn rs) qs → AllByRecursion (IsFoundIn (r ∷ rs)) qs
behind_found r rs from [] a l h = tt
behind_found r rs from (q ∷ qs) a l h = (λ b. rw other (h.0 b), behind_found r rs (q.first + q.pages) qs a.2 (omega (arith, a.0, l)) h.1)
  where
    differ : eqb (4096 * r.first) (4096 * q.first) ≡ false
    differ = ne_eqb (4096 * r.first) (4096 * q.first) (λ k. omega (arith, k, a.0, l))

    other : is_block_at (4096 * q.first) r ≡ false
    other = elim (cases_Bool (is_block_run r)) [ inl e ↦ rw (e, differ) refl | inr e ↦ rw e refl ]

pub all_found : (from : ℕ) (rs : List Run) → AreRising from rs → AllByRecursion (IsFoundIn rs) rs
all_found from [] a = tt
all_found from (r ∷ rs) a = (here, behind_found r rs (r.first + r.pages) rs a.2 (omega (arith, a.1)) (all_found (r.first + r.pages) rs a.2))
  where
    here : is_block_run r ≡ true → find (is_block_at (4096 * r.first)) (r ∷ rs) ≡ Some r
    here b = let e : is_block_at (4096 * r.first) r ≡ true = and_from (is_block_run r) (eqb (4096 * r.first) (4096 * r.first)) b (eq-eqb (4096 * r.first) (4096 * r.first) refl) in rw e refl
