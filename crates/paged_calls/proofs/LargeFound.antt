-- What the holder of the lock of the large area finds at an address.
use Rattle.std.proofs.Common.{◌≡◌, ℕ, ◌*◌, ◌/◌, ◌≤◌, true, ◌++◌, Option, Some, None, refl, sym, ap, ◌∙◌, subst, inl, inr}
use Rattle.std.specs.Prelude.{is_some, option_map}
use Rattle.std.specs.List.{find}
use Rattle.heap_model.specs.declared.Act.TheVariants as acts
use Rattle.heap_model.specs.declared.Call.{Call}
use Rattle.heap_model.specs.declared.What.TheVariants as whats
use Rattle.heap_model.specs.State.{hands, holds, guarded, has_address, exclusive_places}
use Rattle.heap_model.specs.CallState.{Configuration}
use Rattle.heap_model.specs.Legal.{leaves_whole}
use Rattle.heap_model.specs.Layers.{StandsForLarge}
use Rattle.claim_rule.specs.Entries.{may_prepare}
use Rattle.look_steps.specs.Denials.{MayDeny}
use Rattle.large_blocks.specs.declared.LargeBlock.{LargeBlock}
use Rattle.large_blocks.specs.Table.{LargeTable, layer_of, place_of, is_at}
use Rattle.large_blocks.specs.Sound.{IsSound}
use Rattle.large_blocks.proofs.Standing.{place_at_address, same_size}
use Rattle.heap_gate.specs.Token.{Token, Always, now, IsStanding, is_out}
use Rattle.heap_gate.specs.Calls.{with_prepared}
use Rattle.call_parts.specs.Calls.{HoldsLarge}
use Rattle.call_parts.proofs.Tokens.{now_more}
use Rattle.paged_calls.proofs.Found.{none_sized, may_size}

-- the block of a size
pub sized_block : (o : Option LargeBlock) (size : ℕ) → option_map (λ b. b.size) o ≡ Some size → (b : LargeBlock) × (o ≡ Some b) × (b.size ≡ size)
sized_block (Some b) size e = let same : b.size ≡ size = cc in (b, refl, same)
sized_block None size e = absurd (let no : ⊥ = cc in no)

module _ (k : Token) (call : Call) (large : LargeTable) (h : HoldsLarge k call large) (st : IsStanding k) (sound : IsSound large) (addr : ℕ) where
  held_now : Always k (λ s. holds (now s k).state.gate k.number whats.Large ≡ true)
  held_now s q = (st s q).locks whats.Large ∙ ap (is_out whats.Large) h.serving.out_is

  begun_now : Always k (λ s. is_some ((now s k).now.calls k.number).call ≡ true)
  begun_now s q = ap is_some ((st s q).call ∙ h.serving.call_is)

  pub all_exclusive : Always k (λ s. exclusive_places (now s k).state k.number ≡ (now s k).state.large)
  all_exclusive s q =
      let a = st s q in let m = now s k in
      let v = a.locks whats.Vs ∙ ap (is_out whats.Vs) h.serving.out_is in
      let b = a.locks whats.Back ∙ ap (is_out whats.Back) h.serving.out_is in
      (λ j. a.hands h.serving.free j ++ guarded m.state.vs.places (v j) ++ guarded m.state.back.places (b j) ++ guarded m.state.large (held_now s q j))

  pub same_tells : Always k (λ s. (leaves_whole (now s k).state whats.Large ≡ true) × StandsForLarge k.opening (now s k).state (layer_of large))
  same_tells s q = (refl, h.tells s q)

  ---- A block

  module _ (b : LargeBlock) (found : find (is_at addr) large.blocks ≡ Some b) where
    pub exclusive_found : Always k (λ s. find (has_address addr) (exclusive_places (now s k).state k.number) ≡ Some (place_of b))
    exclusive_found s q = ap (find (has_address addr)) (all_exclusive s q) ∙ place_at_address large k.opening (now s k).state (h.tells s q) sound.laid addr b found

    pub sized_may : Always k (λ s. may_prepare s (now s k) k.number (acts.Sized addr b.size) ≡ true)
    sized_may s q =
        let a = st s q in
        may_size s (now s k) k.number addr b.size (place_of b) (exclusive_found s q) refl (held_now s q) refl (a.entered ∙ h.serving.inside) (begun_now s q) (a.demand h.serving.whole)

  pub sized_tells : (size : ℕ) → Always (with_prepared k (acts.Sized addr size)) (λ s. (leaves_whole (now s (with_prepared k (acts.Sized addr size))).state whats.Large ≡ true) × StandsForLarge k.opening (now s (with_prepared k (acts.Sized addr size))).state (layer_of large))
  sized_tells size s q = (refl, subst (λ (m : Configuration). StandsForLarge k.opening m.state (layer_of large)) (sym (now_more s k (acts.Sized addr size))) (h.tells s q))

  ---- None

  pub large_none : option_map (λ b. b.size) (find (is_at addr) large.blocks) ≡ None → 256 * k.opening.limits.segments ≤ addr / 4096 → Always k (λ s. MayDeny k.opening.limits (now s k) k.number addr)
  large_none none behind s q =
      let a = st s q in
      record {
        begun = begun_now s q;
        inside = a.entered ∙ h.serving.inside;
        lfh = inl (inr (inl behind));
        vs = inl (inr (inl behind));
        back = inl (inr (inl behind));
        large = inr (held_now s q, none_sized addr (now s k).state.large (sym (same_size large sound.laid addr k.opening (now s k).state (h.tells s q)) ∙ none));
      }
