-- Encoding and decoding are inverse.
use Rattle.std.proofs.Common.{◌≡◌, ℕ, ◌^◌, ◌<◌, Bool, true, false, ltb, Some, None, refl, sym, ap, subst, if◌then◌else◌, ◌∙◌, arith, bit_xor}
use Rattle.std.specs.Int.Bits.{xor_assoc, xor_self, xor_zero_r}
use Rattle.std.proofs.lemmas.Bool.{ltb-true, lt-ltb}
use Rattle.std.proofs.lemmas.Bool.Decides.{nat_tests}
use Rattle.std.proofs.lemmas.Nat.{xor_comm}
use Rattle.vs_headers.specs.declared.Head.{Head}
use Rattle.vs_headers.specs.Headers.{IsHead, plain_word, masked, encoded, decoded, fields_of}
use Rattle.vs_headers.specs.Laws.{IsHeadOf}

-- the same number twice is none
twice : (a b : ℕ) → bit_xor (bit_xor a b) b ≡ a
twice a b = xor_assoc a b b ∙ ap (bit_xor a) (xor_self b) ∙ xor_zero_r a

masked_twice : (word key addr : ℕ) → masked (masked word key addr) key addr ≡ word
masked_twice word key addr =
    ap (λ (x : ℕ). bit_xor x addr) (swapped (bit_xor word key)) ∙ twice (bit_xor (bit_xor word key) key) addr ∙ twice word key
  where
    swapped : (x : ℕ) → bit_xor (bit_xor x addr) key ≡ bit_xor (bit_xor x key) addr
    swapped x = xor_assoc x addr key ∙ ap (bit_xor x) (xor_comm addr key) ∙ sym (xor_assoc x key addr)

-- a word of 41 bits is the sum of its fields
sum_of_fields : (plain : ℕ) → plain < 2 ^ 41 → plain_word (fields_of plain) ≡ plain
sum_of_fields plain l = grind (arith, nat_tests)

fields_are_narrow : (plain : ℕ) → IsHead (fields_of plain)
fields_are_narrow plain = record { units = omega arith; prev = omega arith; unused = omega arith }

some_chosen : (b : Bool) (g h : Head) → (if b then Some g else None) ≡ Some h → (b ≡ true) × (g ≡ h)
some_chosen true g h e = (refl, cc)
some_chosen false g h e = absurd (cc)

pub encodes : (word key addr : ℕ) (h : Head) → decoded word key addr ≡ Some h → IsHeadOf word key addr h
encodes word key addr h e =
    let c = some_chosen (ltb (masked word key addr) (2 ^ 41)) (fields_of (masked word key addr)) h e in
    subst (IsHeadOf word key addr) c.1 (record {
      head = fields_are_narrow (masked word key addr);
      word_is =
          ap (λ (x : ℕ). masked x key addr) (sum_of_fields (masked word key addr) (ltb-true (masked word key addr) (2 ^ 41) c.0)) ∙ masked_twice word key addr;
    })

-- the fields of a sum
fields_of_sum : (h : Head) → IsHead h → fields_of (plain_word h) ≡ h
fields_of_sum h p = grind (arith, nat_tests)

sum_is_short : (h : Head) → IsHead h → plain_word h < 2 ^ 41
sum_is_short h p = grind (arith, nat_tests)

pub decodes : (h : Head) (key addr : ℕ) → IsHead h → decoded (encoded h key addr) key addr ≡ Some h
decodes h key addr p =
    ap (λ (x : ℕ). if ltb x (2 ^ 41) then Some (fields_of x) else None) (masked_twice (plain_word h) key addr)
    ∙ rw (lt-ltb (plain_word h) (2 ^ 41) (sum_is_short h p)) (ap Some (fields_of_sum h p))
