-- Counts of blocks, and blocks by their addresses.
use Rattle.std.proofs.Common.{◌≡◌, ℕ, zero, suc, ◌+◌, ◌-◌, ◌%◌, ◌<◌, ◌≤◌, Bool, true, ◌&&◌, ◌⊎◌, inl, inr, refl, ap, subst, ◌∙◌, arith, leb}
use Rattle.std.proofs.lemmas.Bool.{and_parts, leb-true, cases_lt}
use Rattle.heap_model.specs.Buckets.{block_size, block_count}
use Rattle.lfh_buckets.specs.Blocks.{IsBucket}

-- whether each number below n passes
abbrev passes_below : (ℕ → Bool) → ℕ → Bool
passes_below test zero = true
passes_below test (suc n) = test n && passes_below test n

below_or_last : (k n : ℕ) → k < suc n → (k ≡ n) ⊎ (k < n)
below_or_last k n l = elim (cases_lt k n) [ inl a ↦ inr a | inr b ↦ inl (omega arith) ]

passes_at : (test : ℕ → Bool) (n k : ℕ) → passes_below test n ≡ true → k < n → test k ≡ true
passes_at test zero k h l = absurd (omega arith)
passes_at test (suc n) k h l =
    let parts = and_parts (test n) (passes_below test n) h in
    elim (below_or_last k n l) [
      | inl e ↦ ap test e ∙ parts.0
      | inr m ↦ passes_at test n k parts.1 m
    ]

-- bucket number k + 1 has few blocks
abbrev has_few : ℕ → Bool
has_few k = leb 15 (block_count (k + 1)) && leb (block_count (k + 1)) 252

pub few_blocks : (b : ℕ) → IsBucket b → (15 ≤ block_count b) × (block_count b ≤ 252)
few_blocks b h =
    let next : b - 1 + 1 ≡ b = omega (arith, h.first) in
    let few : has_few (b - 1) ≡ true = passes_at has_few 128 (b - 1) refl (omega (arith, h.first, h.last)) in
    let parts = and_parts (leb 15 (block_count (b - 1 + 1))) (leb (block_count (b - 1 + 1)) 252) few in (
      subst (λ (x : ℕ). 15 ≤ block_count x) next (leb-true 15 (block_count (b - 1 + 1)) parts.0),
      subst (λ (x : ℕ). block_count x ≤ 252) next (leb-true (block_count (b - 1 + 1)) 252 parts.1),
    )

-- a block size is a number of granules, and not 0
pub size_in_granules : (b : ℕ) → IsBucket b → (block_size b % 16 ≡ 0) × (16 ≤ block_size b)
size_in_granules b h = grind arith
