-- Locks, told apart by their words and by their slots; and who holds one when another changes hands.
use Rattle.std.proofs.Common.{◌≡◌, ◌⊎◌, ℕ, ◌<◌, ◌≤◌, ◌==◌, cond, Option, refl, sym, ap, ◌∙◌, arith, inl, inr}
use Rattle.std.proofs.lemmas.Bool.{cases_eq}
use Rattle.heap_model.specs.declared.What.{What}
use Rattle.heap_model.specs.declared.What.TheVariants as whats
use Rattle.heap_model.specs.State.{Locks, holder_of, put_holder}
use Rattle.claim_rule.specs.Places.{lock_at, IsLayerLock, slot_count}
use Rattle.claim_rule.specs.Home.{slot_of, HasSlot}

-- the lock of a word
what_at : ℕ → What
what_at i = cond (i == 2) whats.Lfh (cond (i == 3) whats.Vs (cond (i == 4) whats.Back (cond (i == 5) whats.Large whats.Gate)))

at_word : (w : What) → what_at (lock_at w) ≡ w
unfolding what_at
at_word whats.Gate = refl
at_word whats.Lfh = refl
at_word whats.Vs = refl
at_word whats.Back = refl
at_word whats.Large = refl

-- the lock of a slot
what_in : ℕ → What
what_in i = cond (i == 0) whats.Vs (cond (i == 1) whats.Back (cond (i == 2) whats.Large whats.Gate))

in_slot : (w : What) → HasSlot w → what_in (slot_of w) ≡ w
unfolding what_in
in_slot whats.Vs q = refl
in_slot whats.Back q = refl
in_slot whats.Large q = refl
in_slot whats.Gate q = absurd q
in_slot whats.Lfh q = absurd q

-- two locks are one, or differ
pub same_what : (a b : What) → (a ≡ b) ⊎ (a ≡ b → ⊥)
same_what a b = elim (cases_eq (lock_at a) (lock_at b)) [
  | inl e ↦ inl (sym (at_word a) ∙ (ap what_at e ∙ at_word b))
  | inr ne ↦ inr (λ e. ne (ap lock_at e))
]

-- two locks have two words, and two slots
pub words_apart : (a b : What) → (a ≡ b → ⊥) → lock_at a ≡ lock_at b → ⊥
words_apart a b ne e = ne (sym (at_word a) ∙ (ap what_at e ∙ at_word b))

pub slots_apart : (a b : What) → HasSlot a → HasSlot b → (a ≡ b → ⊥) → slot_of a ≡ slot_of b → ⊥
slots_apart a b p q ne e = ne (sym (in_slot a p) ∙ (ap what_in e ∙ in_slot b q))

-- where they lie
pub lock_low : (w : What) → IsLayerLock w → (2 ≤ lock_at w) × (lock_at w < 6)
lock_low whats.Lfh q = (omega arith, omega arith)
lock_low whats.Vs q = (omega arith, omega arith)
lock_low whats.Back q = (omega arith, omega arith)
lock_low whats.Large q = (omega arith, omega arith)
lock_low whats.Gate q = absurd q

-- slots are those of the table
pub slot_low : (w : What) → HasSlot w → slot_of w < slot_count
slot_low whats.Vs q = omega arith
slot_low whats.Back q = omega arith
slot_low whats.Large q = omega arith
slot_low whats.Gate q = absurd q
slot_low whats.Lfh q = absurd q

-- a lock that guards a state is that of a layer
pub of_layer : (w : What) → HasSlot w → IsLayerLock w
of_layer whats.Vs q = tt
of_layer whats.Back q = tt
of_layer whats.Large q = tt
of_layer whats.Gate q = absurd q
of_layer whats.Lfh q = absurd q

---- A lock changes hands

-- the lock's new holder
pub holder_here : (k : Locks) (w : What) (h : Option ℕ) → IsLayerLock w → holder_of (put_holder h k w) w ≡ h
holder_here k whats.Lfh h q = refl
holder_here k whats.Vs h q = refl
holder_here k whats.Back h q = refl
holder_here k whats.Large h q = refl
holder_here k whats.Gate h q = absurd q

-- the holders of the others
pub holder_else : (k : Locks) (a b : What) (h : Option ℕ) → (a ≡ b → ⊥) → holder_of (put_holder h k a) b ≡ holder_of k b
holder_else k whats.Gate b h ne = refl
holder_else k whats.Lfh whats.Lfh h ne = absurd (ne refl)
holder_else k whats.Lfh _ h ne = refl
holder_else k whats.Vs whats.Vs h ne = absurd (ne refl)
holder_else k whats.Vs _ h ne = refl
holder_else k whats.Back whats.Back h ne = absurd (ne refl)
holder_else k whats.Back _ h ne = refl
holder_else k whats.Large whats.Large h ne = absurd (ne refl)
holder_else k whats.Large _ h ne = refl
