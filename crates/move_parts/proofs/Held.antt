-- The old block, which only the caller changes: it may be taken.
use Rattle.std.proofs.Common.{◌≡◌, ℕ, Bool, true, false, not, ◌&&◌, ◌||◌, Option, Some, refl, ap, ◌∙◌, eq-eqb}
use Rattle.std.specs.Prelude.{is_some}
use Rattle.std.proofs.lemmas.Bool.{and_from}
use Rattle.heap_model.specs.declared.Act.{Act}
use Rattle.heap_model.specs.declared.Act.TheVariants as acts
use Rattle.heap_model.specs.declared.Layer.TheVariants as layers
use Rattle.heap_model.specs.State.{Setting, Place, is_layer, is_live_of, is_entered, has_address, place_at, exclusive_places, all_places}
use Rattle.heap_model.specs.Stay.{for_some}
use Rattle.heap_model.specs.CallState.{Configuration, Nothing, caller_view}
use Rattle.heap_model.specs.Legal.{may, may_follow, meets_demand, may_touch, is_begin}
use Rattle.heap_model.specs.Agreement.{is_locked, is_locked_at}
use Rattle.claim_rule.specs.Entries.{entry, is_of_lfh, may_prepare}
use Rattle.serial_laws.proofs.Found.{find_front}
use Rattle.call_parts.proofs.Tokens.{prepares}
use Rattle.move_parts.specs.Moves.{IsHeld}

module _ (s : Setting) (m : Configuration) (c a size : ℕ) (p : Place) (old : IsHeld m c a p size) (ent : is_entered m.state.gate c ≡ true) (beg : is_some (m.now.calls c).call ≡ true) (dem : m.now.demand ≡ Nothing) where
  pub held_there : place_at m.state c a ≡ Some p
  held_there = find_front (has_address a) (exclusive_places m.state c) (all_places m.state) p old.first

  locked : is_locked_at m c a ≡ true
  locked = ap (λ (o : Option Place). for_some o (is_locked (caller_view m c))) old.first ∙ and_from (may_touch (caller_view m c) p.layer) (not (is_layer p.layer layers.Lfh)) old.touch (ap not old.behind)

  sized : is_live_of size p.status ≡ true
  sized = ap (is_live_of size) old.live ∙ eq-eqb size size refl

  follows : (act : Act) → is_begin act ≡ false → may s m c act ≡ true → may_follow s m (entry c act) ≡ true
  follows act b r =
      and_from (meets_demand m.state.back.area (entry c act) m.now.demand && (is_begin act || is_some (m.now.calls c).call)) (may s m c act)
      (and_from (meets_demand m.state.back.area (entry c act) m.now.demand) (is_begin act || is_some (m.now.calls c).call) (ap (meets_demand m.state.back.area (entry c act)) dem)
      (ap (λ (x : Bool). x || is_some (m.now.calls c).call) b ∙ beg)) r

  pub take_may : may_prepare s m c (acts.Take a size) ≡ true
  take_may = prepares s m c (acts.Take a size) locked (ap (λ (o : Option Place). not (is_of_lfh o)) held_there ∙ ap not old.behind)
      (follows (acts.Take a size) refl
      (and_from (is_entered m.state.gate c) _ ent
      (ap (λ (o : Option Place). for_some o (λ q. may_touch (caller_view m c) q.layer && is_live_of size q.status)) held_there ∙ and_from (may_touch (caller_view m c) p.layer) (is_live_of size p.status) old.touch sized)))
