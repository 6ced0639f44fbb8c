-- A caller that has the state of VS, and a live block there.
use Rattle.std.proofs.Common.{◌≡◌, ℕ, true, not, ◌&&◌, [], ◌∷◌, Option, Some, None, refl, sym, ap, ◌∙◌, subst, eq-eqb}
use Rattle.std.specs.Prelude.{option_and_then}
use Rattle.std.specs.List.{find}
use Rattle.std.proofs.lemmas.Bool.{and_from}
use Rattle.heap_model.specs.declared.Act.{Act}
use Rattle.heap_model.specs.declared.Act.TheVariants as acts
use Rattle.heap_model.specs.declared.Call.{Call}
use Rattle.heap_model.specs.declared.Layer.{Layer}
use Rattle.heap_model.specs.declared.Layer.TheVariants as layers
use Rattle.heap_model.specs.declared.What.TheVariants as whats
use Rattle.heap_model.specs.Agreement.{is_locked, is_locked_at}
use Rattle.heap_model.specs.CallState.{Configuration, caller_view}
use Rattle.heap_model.specs.Layers.{StandsForVs}
use Rattle.heap_model.specs.Legal.{leaves_whole, may_touch}
use Rattle.heap_model.specs.State.{Setting, Place, Live, live_size, is_live_of, is_layer, has_address, hands, holds}
use Rattle.heap_model.specs.Stay.{for_some}
use Rattle.claim_rule.specs.Entries.{entry, may_prepare}
use Rattle.claim_rule.specs.Places.{vs_slot}
use Rattle.call_laws.specs.Within.{IsWithin}
use Rattle.call_laws.proofs.Within.{follows}
use Rattle.vs_layer.specs.Kept.{VsKept, block_at}
use Rattle.vs_layer.specs.Standing.{layer_of}
use Rattle.vs_layer.proofs.Blocks.{chunk_asked}
use Rattle.vs_layer.proofs.Told.{block_is}
use Rattle.heap_gate.specs.Token.{Token, Always, now, IsStanding, is_out}
use Rattle.heap_gate.specs.Calls.{with_prepared, HasGiven}
use Rattle.call_parts.specs.Calls.{IsServing, Makes}
use Rattle.call_parts.specs.Entries.{HasEnded}
use Rattle.call_parts.proofs.Serving.{within}
use Rattle.call_parts.proofs.Tokens.{now_more, prepares, added_one, ended_given, ended_then, makes}
use Rattle.call_parts.proofs.VsBlocks.{found_alone, found_among}
use Rattle.vs_calls.specs.Blocks.{HasVs, size_at}

---- The block

-- a live block of this size begins at the address
pub record IsLiveBlock (vs : VsKept) (addr size : ℕ) : Type 0 where
  pub place : Place
  pub there : block_at vs addr ≡ Some place
  pub live : place.status ≡ Live size
  pub layer : place.layer ≡ layers.Vs

pub live_block : (vs : VsKept) (addr size : ℕ) → size_at vs addr ≡ Some size → IsLiveBlock vs addr size
live_block vs addr size e = by (block_at vs addr) refl
  where
    by : (o : Option Place) → block_at vs addr ≡ o → IsLiveBlock vs addr size
    by None f = let none : None ≡ Some size = ap (option_and_then (λ p. live_size p.status)) (sym f) ∙ e in absurd (let no : ⊥ = cc in no)
    by (Some p) f =
        let b = chunk_asked vs addr p f in
        let told : live_size p.status ≡ Some size = ap (option_and_then (λ p. live_size p.status)) (sym f) ∙ e in
        record { place = p; there = f; live = live_of p.status told; layer = ap (λ (q : Place). q.layer) (sym b.is) }
      where
        live_of : (t : Rattle.heap_model.specs.State.Status) → live_size t ≡ Some size → t ≡ Live size
        live_of (Live n) k = let same : n ≡ size = cc in ap Live same
        live_of (Rattle.heap_model.specs.State.InHand d) k = absurd (let no : ⊥ = cc in no)

---- Its size is told

module _ (s : Setting) (m : Configuration) (c : ℕ) (call : Call) (addr size : ℕ) (p : Place) (w : IsWithin m c call) (held : holds m.state.gate c whats.Vs ≡ true) (none : hands m.state c ≡ [])
    (there : find (has_address addr) m.state.vs.places ≡ Some p) (live : p.status ≡ Live size) (layer : p.layer ≡ layers.Vs) where
  pub locked : is_locked_at m c addr ≡ true
  locked =
      ap (λ (o : Option Place). for_some o (is_locked (caller_view m c))) (found_alone m.state c addr p none held there)
      ∙ (ap (λ (l : Layer). may_touch (caller_view m c) l && not (is_layer l layers.Lfh)) layer ∙ and_from (holds m.state.gate c whats.Vs) true held refl)

  pub may_size : may_prepare s m c (acts.Sized addr size) ≡ true
  may_size =
      prepares s m c (acts.Sized addr size) locked refl
      (follows s m c call (acts.Sized addr size) w
      (and_from (caller_view m c).entered _ w.entered
      (ap (λ (o : Option Place). for_some o (λ q. is_live_of size q.status)) (found_among m.state c addr p none held there) ∙ (ap (is_live_of size) live ∙ eq-eqb size size refl))))

---- The caller

module _ (c : Token) (vs : VsKept) (h : HasVs c vs) (st : IsStanding c) where
  serving : IsServing c h.call (vs_slot ∷ [])
  serving = h.holds.serving

  pub within_now : Always c (λ s. IsWithin (now s c) c.number h.call)
  within_now = within c h.call st serving.inside serving.call_is serving.whole

  pub vs_held : Always c (λ s. holds (now s c).state.gate c.number whats.Vs ≡ true)
  vs_held s q = (st s q).locks whats.Vs ∙ ap (is_out whats.Vs) serving.out_is

  pub none_now : Always c (λ s. hands (now s c).state c.number ≡ [])
  none_now s q = (st s q).hands serving.free

  module _ (addr size : ℕ) (b : IsLiveBlock vs addr size) where
    pub found_now : Always c (λ s. find (has_address addr) (now s c).state.vs.places ≡ Some b.place)
    found_now s q = sym (block_is c.opening (now s c).state vs (h.holds.tells s q) addr) ∙ b.there

    abbrev pub sized : Act
    sized = acts.Sized addr size

    pub sized_may : Always c (λ s. may_prepare s (now s c) c.number sized ≡ true)
    sized_may s q = may_size s (now s c) c.number h.call addr size b.place (within_now s q) (vs_held s q) (none_now s q) (found_now s q) b.live b.layer

    pub sized_tells : Always (with_prepared c sized) (λ s. (leaves_whole (now s (with_prepared c sized)).state whats.Vs ≡ true) × StandsForVs c.opening (now s (with_prepared c sized)).state (layer_of vs))
    sized_tells s q =
        subst (λ (m : Configuration). (leaves_whole m.state whats.Vs ≡ true) × StandsForVs c.opening m.state (layer_of vs)) (sym (now_more s c sized)) (h.used s q, h.holds.tells s q)

    pub sized_makes : (d : Token) → HasGiven (with_prepared c sized) d whats.Vs (entry c.number (acts.GiveLock whats.Vs) ∷ []) → (call : Call) → c.call ≡ Some call → Makes c d call (sized ∷ [])
    sized_makes d g call e =
        let given : HasEnded (with_prepared c sized) d (acts.GiveLock whats.Vs ∷ []) [] = ended_given (with_prepared c sized) d whats.Vs [] (acts.GiveLock whats.Vs ∷ []) g serving.out_is serving.free in
        makes c d call h.call (vs_slot ∷ []) (sized ∷ acts.GiveLock whats.Vs ∷ []) (sized ∷ []) serving e
        (ended_then c (with_prepared c sized) d (sized ∷ []) (acts.GiveLock whats.Vs ∷ []) [] (added_one c sized refl) given) refl refl
