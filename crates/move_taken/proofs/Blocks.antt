-- A block that was taken is one of its bucket in hand.
use Rattle.std.proofs.Common.{◌≡◌, ℕ, zero, suc, ◌<◌, ◌≤◌, true, [], ◌∷◌, Some, refl, ap, ◌∙◌, arith, leb, eq-eqb, inl, inr}
use Rattle.std.specs.Prelude.{is_some}
use Rattle.std.specs.List.{find}
use Rattle.std.proofs.lemmas.Bool.{cases_Bool}
use Rattle.heap_model.specs.Buckets.{block_size, block_count}
use Rattle.heap_model.specs.State.{has_address, hand_at}
use Rattle.heap_model.specs.CallState.{Configuration}
use Rattle.search_laws.proofs.Blocks.{whole_granules}
use Rattle.step_parts.specs.InHand.{HasBlock}
use Rattle.heap_gate.specs.Token.{Token, Always, now, IsStanding}
use Rattle.lfh_claims.specs.declared.tag.Tag.{Tag}
use Rattle.lfh_claims.specs.Stays.{IsInside}
use Rattle.move_parts.specs.Moves.{IsTaken}
use Rattle.move_parts.proofs.Movers.{taken_hands}
use Rattle.move_taken.specs.Holds.{taken_place, HasTakenBlock}

-- a bucket with blocks has some that are not empty
pub positive : (b i : ℕ) → i < block_count b → 1 ≤ block_size b
positive zero i l = absurd (let bad : ⊥ = omega (arith, l) in bad)
positive (suc k) i l = elim (cases_Bool (leb (suc k) 64)) [
  | inl e ↦ rw e (omega arith)
  | inr e ↦ elim (cases_Bool (leb (suc k) 80)) [
    | inl f ↦ rw (e, f) (omega arith)
    | inr f ↦ elim (cases_Bool (leb (suc k) 96)) [
      | inl g ↦ rw (e, f, g) (omega arith)
      | inr g ↦ elim (cases_Bool (leb (suc k) 112)) [ inl d ↦ rw (e, f, g, d) (omega arith) | inr d ↦ rw (e, f, g, d) (omega arith) ]
    ]
  ]
]

-- it is what is in hand at its address
pub hand_there : (m : Configuration) (n b addr : ℕ) → IsTaken m n addr (taken_place b addr n) → hand_at m.state n addr ≡ Some (taken_place b addr n)
hand_there m n b addr x = ap (find (has_address addr)) (taken_hands m n addr (taken_place b addr n) x) ∙ found
  where
    found : find (has_address addr) (taken_place b addr n ∷ []) ≡ Some (taken_place b addr n)
    found = let e = eq-eqb addr addr refl in rw e refl

pub taken_block : (m : Configuration) (n b addr : ℕ) → is_some (m.now.calls n).call ≡ true → IsTaken m n addr (taken_place b addr n) → HasBlock m n b addr
taken_block m n b addr begun x = record { hand = record { begun = begun; place = taken_place b addr n; hand = hand_there m n b addr x; layer = refl }; long = whole_granules b }

module _ (c : Token) (tag : Tag) (addr size : ℕ) (h : HasTakenBlock c tag addr size) (st : IsStanding c) where
  pub block_now : Always c (λ s. HasBlock (now s c) c.number tag.bucket addr)
  block_now s q = taken_block (now s c) c.number tag.bucket addr (ap is_some (st s q).call ∙ h.begun) (h.hand s q)

  pub inside_now : IsInside c
  inside_now s q = (st s q).entered ∙ h.inside
