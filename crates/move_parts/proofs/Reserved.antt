-- The old block while pages are taken for the new one: it can't stay where a segment was reserved.
use Rattle.std.proofs.Common.{◌≡◌, ℕ, ◌≤◌, true, false, Some, refl, leb, inl, inr}
use Rattle.std.proofs.lemmas.Bool.{cases_Bool, le-leb}
use Rattle.heap_model.specs.declared.Act.TheVariants as acts
use Rattle.heap_model.specs.declared.Call.TheVariants as calls
use Rattle.heap_model.specs.declared.Flags.{Flags}
use Rattle.heap_model.specs.declared.Layer.{Layer}
use Rattle.heap_model.specs.declared.Layer.TheVariants as layers
use Rattle.heap_model.specs.Agreement.{holds_old_block}
use Rattle.heap_model.specs.CallState.{Configuration}
use Rattle.heap_model.specs.Geometry.{route_of, is_paged}
use Rattle.heap_model.specs.Legal.{after}
use Rattle.heap_model.specs.State.{Setting, Place}
use Rattle.heap_model.specs.Stay.{lets_stay}
use Rattle.claim_rule.specs.Entries.{entry}
use Rattle.move_parts.specs.Moves.{IsHeld}
use Rattle.move_parts.proofs.Movers.{held_mine, holds_mine}

-- what the call places its caller alone decides
pub holds_by : (m : Configuration) (c addr size n : ℕ) (flags : Flags) (p : Place) → (m.now.calls c).call ≡ Some (calls.Realloc addr n flags) → IsHeld m c addr p size → holds_old_block m c ≡ true
holds_by m c addr size n flags p e old = holds_mine m c addr n flags p e (held_mine m c addr size p old)

-- no size of VS is one of the back end
not_paged : (n : ℕ) → n ≤ 131072 → is_paged (route_of n) ≡ false
not_paged n h = let b = le-leb n 131072 h in elim (cases_Bool (leb n 16368)) [ inl e ↦ rw e refl | inr e ↦ rw (e, b) refl ]

-- such a size lets no block stay that it did not let stay before
pub leaves_still : (s : Setting) (m : Configuration) (c segment n : ℕ) (p : Place) → n ≤ 131072 → lets_stay s.limits m.state p n ≡ false → lets_stay s.limits (after s m (entry c (acts.Reserve segment))).state p n ≡ false
leaves_still s m c segment n p small h = by p.layer refl
  where
    by : (l : Layer) → p.layer ≡ l → lets_stay s.limits (after s m (entry c (acts.Reserve segment))).state p n ≡ false
    by layers.Lfh e = (let g = rw e at h in rw e g)
    by layers.Vs e = (let g = rw e at h in rw e g)
    by layers.Back e = (let k = not_paged n small in rw (e, k) refl)
    by layers.Large e = (let g = rw e at h in rw e g)
