-- A live block that the holder of its layer's lock finds by its address.
use Rattle.std.proofs.Common.{◌≡◌, ℕ, Bool, true, false, not, ◌&&◌, ◌||◌, List, [], ◌∷◌, Option, Some, None, refl, ap, ◌∙◌, eq-eqb, inl, inr}
use Rattle.std.specs.Prelude.{is_some, option_and_then}
use Rattle.std.specs.List.{find}
use Rattle.std.proofs.lemmas.Bool.{cases_Bool, and_from, and_left, and_parts}
use Rattle.heap_model.specs.declared.Act.{Act}
use Rattle.heap_model.specs.declared.Act.TheVariants as acts
use Rattle.heap_model.specs.declared.Layer.TheVariants as layers
use Rattle.heap_model.specs.State.{Setting, Place, Status, Live, InHand, is_layer, is_live, is_live_of, live_size, is_entered, has_address, is_live_at, place_at, exclusive_places, all_places}
use Rattle.heap_model.specs.Stay.{for_some}
use Rattle.heap_model.specs.CallState.{Configuration, Nothing, caller_view}
use Rattle.heap_model.specs.Legal.{may, may_follow, meets_demand, may_touch, has_live, is_begin}
use Rattle.heap_model.specs.Agreement.{is_locked, is_locked_at}
use Rattle.claim_rule.specs.Entries.{entry, is_of_lfh, may_prepare}
use Rattle.serial_laws.proofs.Found.{find_front}
use Rattle.call_parts.proofs.Tokens.{prepares}

-- no live place has an address that no place has
pub none_live : (a : ℕ) (ps : List Place) → find (has_address a) ps ≡ None → has_live ps a ≡ false
none_live a [] e = refl
none_live a (p ∷ ps) e = elim (cases_Bool (has_address a p)) [
  | inl h ↦ let bad : Some p ≡ None = rw h at e in absurd (let no : ⊥ = cc in no)
  | inr h ↦ let off : is_live_at a p ≡ false = and_left (has_address a p) (is_live p.status) h in rw off (none_live a ps (rw h at e))
]

-- nor where no size is found
live_has_size : (x : Status) → is_live x ≡ true → live_size x ≡ None → ⊥
live_has_size (Live size) h e = let no : ⊥ = cc in no
live_has_size (InHand c) h e = let no : ⊥ = cc in no

pub none_sized : (a : ℕ) (ps : List Place) → option_and_then (λ p. live_size p.status) (find (is_live_at a) ps) ≡ None → has_live ps a ≡ false
none_sized a [] e = refl
none_sized a (p ∷ ps) e = elim (cases_Bool (is_live_at a p)) [
  | inl h ↦
      let size : live_size p.status ≡ None = rw h at e in
      absurd (live_has_size p.status (and_parts (has_address a p) (is_live p.status) h).1 size)
  | inr h ↦ rw h (none_sized a ps (rw h at e))
]

module _ (s : Setting) (m : Configuration) (c a size : ℕ) (p : Place) (found : find (has_address a) (exclusive_places m.state c) ≡ Some p) (front : is_layer p.layer layers.Lfh ≡ false) (touch : may_touch (caller_view m c) p.layer ≡ true) (live : p.status ≡ Live size)
    (ent : is_entered m.state.gate c ≡ true) (beg : is_some (m.now.calls c).call ≡ true) (dem : m.now.demand ≡ Nothing) where
  pub there : place_at m.state c a ≡ Some p
  there = find_front (has_address a) (exclusive_places m.state c) (all_places m.state) p found

  locked : is_locked_at m c a ≡ true
  locked = ap (λ (o : Option Place). for_some o (is_locked (caller_view m c))) found ∙ and_from (may_touch (caller_view m c) p.layer) (not (is_layer p.layer layers.Lfh)) touch (ap not front)

  sized : is_live_of size p.status ≡ true
  sized = ap (is_live_of size) live ∙ eq-eqb size size refl

  follows : (act : Act) → is_begin act ≡ false → may s m c act ≡ true → may_follow s m (entry c act) ≡ true
  follows act b r =
      and_from (meets_demand m.state.back.area (entry c act) m.now.demand && (is_begin act || is_some (m.now.calls c).call)) (may s m c act)
      (and_from (meets_demand m.state.back.area (entry c act) m.now.demand) (is_begin act || is_some (m.now.calls c).call) (ap (meets_demand m.state.back.area (entry c act)) dem)
      (ap (λ (x : Bool). x || is_some (m.now.calls c).call) b ∙ beg)) r

  pub may_size : may_prepare s m c (acts.Sized a size) ≡ true
  may_size = prepares s m c (acts.Sized a size) locked refl
      (follows (acts.Sized a size) refl (and_from (is_entered m.state.gate c) _ ent (ap (λ (o : Option Place). for_some o (λ q. is_live_of size q.status)) there ∙ sized)))

  pub may_take : may_prepare s m c (acts.Take a size) ≡ true
  may_take = prepares s m c (acts.Take a size) locked (ap (λ (o : Option Place). not (is_of_lfh o)) there ∙ ap not front)
      (follows (acts.Take a size) refl
      (and_from (is_entered m.state.gate c) _ ent
      (ap (λ (o : Option Place). for_some o (λ q. may_touch (caller_view m c) q.layer && is_live_of size q.status)) there ∙ and_from (may_touch (caller_view m c) p.layer) (is_live_of size p.status) touch sized)))
