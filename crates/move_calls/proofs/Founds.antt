-- A block that was found to have to move: how its caller stands.
use Rattle.std.proofs.Common.{◌≡◌, ℕ, List, [], ◌∷◌, Some, sym, ◌∙◌, subst}
use Rattle.heap_model.specs.declared.Call.{Call}
use Rattle.heap_model.specs.declared.Call.TheVariants as calls
use Rattle.heap_model.specs.declared.Flags.{Flags}
use Rattle.heap_model.specs.declared.Layer.TheVariants as layers
use Rattle.heap_model.specs.State.{Place}
use Rattle.claim_rule.specs.Places.{vs_slot, back_slot, large_slot}
use Rattle.backend_fit.specs.Kept.{Kept}
use Rattle.large_blocks.specs.Table.{LargeTable}
use Rattle.vs_layer.specs.Kept.{VsKept}
use Rattle.heap_gate.specs.Token.{Token}
use Rattle.call_parts.specs.Calls.{IsServing}
use Rattle.address_calls.specs.Finds.{Looks}
use Rattle.address_calls.specs.declared.look.Found.TheVariants as founds
use Rattle.stay_calls.specs.Stays.{IsToMove}
use Rattle.move_parts.specs.Moves.{TellsVs, TellsBack, TellsLarge}
use Rattle.move_calls.specs.Holds.{IsGathering}

module _ (first c : Token) (addr size n : ℕ) (flags : Flags) (v : IsServing first (calls.Realloc addr n flags) []) where
  -- it is in the same call still
  same_call : Looks first c → (call : Call) (out : List ℕ) → IsServing c call out → IsServing c (calls.Realloc addr n flags) out
  same_call l call out w =
      let both : Some call ≡ Some (calls.Realloc addr n flags) = sym w.call_is ∙ (l.added.steady.call ∙ v.call_is) in
      let same : call ≡ calls.Realloc addr n flags = cc in
      subst (λ (x : Call). IsServing c x out) same w

  pub gathers_vs : (vs : VsKept) → IsToMove first c addr size n (founds.Vs vs) → (p : Place) × IsGathering c addr size n flags p (vs_slot ∷ []) × (p.layer ≡ layers.Vs) × TellsVs c vs
  gathers_vs vs t =
      let h = t.1.has in let m = t.2 in
      (m.0, record { serving = same_call t.0 h.call (vs_slot ∷ []) h.holds.serving; stuck = m.2 }, m.1, record { tells = h.holds.tells; used = h.used })

  pub gathers_back : (vs : VsKept) (back : Kept) → IsToMove first c addr size n (founds.Back vs back) → (p : Place) × IsGathering c addr size n flags p (back_slot ∷ vs_slot ∷ []) × (p.layer ≡ layers.Back) × TellsVs c vs × TellsBack c back
  gathers_back vs back t =
      let h = t.1.has in let m = t.2 in
      (m.0, record { serving = same_call t.0 h.call (back_slot ∷ vs_slot ∷ []) h.holds.serving; stuck = m.2 }, m.1, record { tells = h.holds.tells_vs; used = h.used }, h.holds.tells_back)

  pub gathers_large : (large : LargeTable) → IsToMove first c addr size n (founds.Large large) → (p : Place) × IsGathering c addr size n flags p (large_slot ∷ []) × (p.layer ≡ layers.Large) × TellsLarge c large
  gathers_large large t =
      let h = t.1.has in let m = t.2 in
      (m.0, record { serving = same_call t.0 h.0 (large_slot ∷ []) h.1.serving; stuck = m.2 }, m.1, h.1.tells)
