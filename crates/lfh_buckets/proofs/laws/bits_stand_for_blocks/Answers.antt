-- The valid bits are ones from bit 0 on, as many as there are blocks in the word.
use Rattle.std.proofs.Common.{◌≡◌, ℕ, ◌+◌, ◌-◌, ◌*◌, ◌^◌, ◌<◌, ◌≤◌, inl, inr, ◌∙◌, sym, arith, ltb, min, false}
use Rattle.std.proofs.lemmas.Bool.{cases_lt, lt-ltb}
use Rattle.std.proofs.lemmas.Bool.Decides.{nat_tests}
use Rattle.std.proofs.lemmas.Nat.Bits.{bit_at_ones, bit_at_ones_above}
use Rattle.heap_model.specs.Bits.{has_bit}
use Rattle.heap_model.specs.Buckets.{block_count}
use Rattle.lfh_buckets.proofs.laws.bits_stand_for_blocks.Goals as goal

ones_below : (m i : ℕ) → has_bit (2 ^ m - 1) i ≡ ltb i m
ones_below m i = elim (cases_lt i m) [
  | inl l ↦ rw (bit_at_ones m i l) (sym (lt-ltb i m l))
  | inr l ↦ rw (bit_at_ones_above m i l) (not_below l)
]
  where
    not_below : m ≤ i → false ≡ ltb i m
    not_below l = grind (arith, nat_tests)

same_test : (n w i : ℕ) → i < 64 → ltb i (min 64 (n - 64 * w)) ≡ ltb (64 * w + i) n
same_test n w i l = grind (arith, nat_tests)

pub returns : goal.returns
returns c = λ b w i h l. ones_below (min 64 (block_count b - 64 * w)) i ∙ same_test (block_count b) w i l
