-- The counts of blocks that are looked up: those of all 128 buckets are evaluated.
use Rattle.std.proofs.Common.{◌≡◌, ℕ, zero, suc, ◌+◌, ◌-◌, ◌<◌, Bool, true, ◌&&◌, ◌⊎◌, inl, inr, refl, ap, subst, ◌∙◌, arith, eqb}
use Rattle.std.specs.Prelude.{slice_index}
use Rattle.std.proofs.lemmas.Bool.{and_parts, eqb-true, cases_lt}
use Rattle.heap_model.specs.Buckets.{block_count}
use Rattle.lfh_buckets.specs.Blocks.{IsBucket}
use Rattle.lfh_search.specs.declared.course.TheConstants.{COUNTS}

-- whether the counts of the first n buckets are those
abbrev are_below : ℕ → Bool
are_below zero = true
are_below (suc n) = eqb (slice_index COUNTS n) (block_count (n + 1)) && are_below n

below_or_last : (k n : ℕ) → k < suc n → (k ≡ n) ⊎ (k < n)
below_or_last k n l = elim (cases_lt k n) [ inl a ↦ inr a | inr b ↦ inl (omega arith) ]

at : (n k : ℕ) → are_below n ≡ true → k < n → eqb (slice_index COUNTS k) (block_count (k + 1)) ≡ true
at zero k h l = absurd (omega arith)
at (suc n) k h l =
    let parts = and_parts (eqb (slice_index COUNTS n) (block_count (n + 1))) (are_below n) h in
    elim (below_or_last k n l) [
      | inl e ↦ ap (λ (i : ℕ). eqb (slice_index COUNTS i) (block_count (i + 1))) e ∙ parts.0
      | inr m ↦ at n k parts.1 m
    ]

pub counts_are : (b : ℕ) → IsBucket b → slice_index COUNTS (b - 1) ≡ block_count b
counts_are b h =
    let next : b - 1 + 1 ≡ b = omega (arith, h.first) in
    let e = eqb-true (slice_index COUNTS (b - 1)) (block_count (b - 1 + 1)) (at 128 (b - 1) refl (omega (arith, h.first, h.last))) in
    subst (λ (x : ℕ). slice_index COUNTS (b - 1) ≡ block_count x) next e
