-- A block of the large area is taken and dropped by the holder of the lock.
use Rattle.std.proofs.Common.{◌≡◌, ℕ, ◌*◌, true, not, ◌&&◌, List, [], ◌∷◌, ◌++◌, Option, Some, refl, sym, ap, ◌∙◌, subst, eq-eqb}
use Rattle.std.specs.Prelude.{is_some}
use Rattle.std.specs.List.{find}
use Rattle.std.proofs.lemmas.Bool.{and_from, eqb-true}
use Rattle.heap_model.specs.declared.Act.{Act}
use Rattle.heap_model.specs.declared.Act.TheVariants as acts
use Rattle.heap_model.specs.declared.Call.{Call}
use Rattle.heap_model.specs.declared.Layer.TheVariants as layers
use Rattle.heap_model.specs.declared.What.TheVariants as whats
use Rattle.heap_model.specs.Geometry.{pages_of}
use Rattle.heap_model.specs.State.{Setting, Place, Live, InHand, hands, in_hand, hand_at, holds, is_entered, has_address, is_live_at, is_hand_at, exclusive_places, change_found, remove_found}
use Rattle.heap_model.specs.Stay.{for_some}
use Rattle.heap_model.specs.CallState.{Configuration, CallState, Nothing, caller_view}
use Rattle.heap_model.specs.Legal.{after, call_after, may_touch, with_places, with_status, layer_of, unspan_of, leaves_whole}
use Rattle.heap_model.specs.Layers.{StandsForLarge}
use Rattle.heap_soundness.proofs.Lists.{found_passes}
use Rattle.claim_rule.specs.Entries.{entry, is_of_lfh, may_prepare, are_prepared}
use Rattle.serial_laws.proofs.Allocate.{empty_parts}
use Rattle.call_laws.specs.Within.{by_all}
use Rattle.call_laws.proofs.Within.{updated_here}
use Rattle.large_blocks.specs.declared.LargeBlock.{LargeBlock}
use Rattle.large_blocks.specs.Table.{LargeTable, layer_of as table_layer, place_of, is_at}
use Rattle.large_blocks.specs.Effects.{Becomes, without_block}
use Rattle.large_blocks.specs.Sound.{IsSound}
use Rattle.large_blocks.proofs.Standing.{place_at_address}
use Rattle.heap_gate.specs.Token.{Token, Always, now, IsStanding, is_out}
use Rattle.heap_gate.specs.Calls.{rested, HasRested}
use Rattle.call_parts.specs.Calls.{HoldsLarge}
use Rattle.call_parts.specs.Entries.{with_all}
use Rattle.call_parts.proofs.Tokens.{now_all, prepares, one_prepared}
use Rattle.paged_calls.proofs.Taken.{take, drop, taken, live_one, in_hand_after, dropped, none_left}
use Rattle.paged_calls.proofs.Found.{there, may_take}
use Rattle.paged_calls.proofs.LargeFound.{exclusive_found}

-- what is left then
pub record IsDropped (m k : Configuration) (c a : ℕ) : Type 0 where
  pub large : k.state.large ≡ remove_found (has_address a) m.state.large
  pub hands : hands k.state c ≡ []
  pub demand : k.now.demand ≡ Nothing

module _ (s : Setting) (m : Configuration) (c a granules size : ℕ) (found : find (has_address a) m.state.large ≡ Some (live_one c a a granules size layers.Large))
    (first : find (has_address a) (exclusive_places m.state c) ≡ Some (live_one c a a granules size layers.Large)) (none : hands m.state c ≡ []) (ent : is_entered m.state.gate c ≡ true) (beg : is_some (m.now.calls c).call ≡ true) (dem : m.now.demand ≡ Nothing)
    (held : holds m.state.gate c whats.Large ≡ true) where
  abbrev p : Place
  p = live_one c a a granules size layers.Large

  abbrev m1 : Configuration
  m1 = after s m (entry c (acts.Take a size))

  abbrev k1 : Configuration
  k1 = record { state = with_places m.state (Some layers.Large) (change_found (is_live_at a) (with_status (InHand c))); now = m1.now }

  is1 : m1 ≡ k1
  is1 = ap (λ (o : Option Place). record { state = with_places m.state (layer_of o) (change_found (is_live_at a) (with_status (InHand c))); now = m1.now }) (there s m c a size p first refl held refl ent beg dem)

  one : (in_hand c m.state.lfh ++ in_hand c m.state.vs.places ++ in_hand c m.state.back.places ≡ []) × (in_hand c m.state.large ≡ [])
  one = empty_parts (in_hand c m.state.lfh ++ in_hand c m.state.vs.places ++ in_hand c m.state.back.places) (in_hand c m.state.large) none

  two : (in_hand c m.state.lfh ++ in_hand c m.state.vs.places ≡ []) × (in_hand c m.state.back.places ≡ [])
  two = empty_parts (in_hand c m.state.lfh ++ in_hand c m.state.vs.places) (in_hand c m.state.back.places) one.0

  three : (in_hand c m.state.lfh ≡ []) × (in_hand c m.state.vs.places ≡ [])
  three = empty_parts (in_hand c m.state.lfh) (in_hand c m.state.vs.places) two.0

  hand : hand_at k1.state c a ≡ Some (taken c a a granules size layers.Large)
  hand =
      let e = eq-eqb a a refl in
      let k = in_hand_after c a a granules size layers.Large m.state.large e one.1 found in
      let all : hands k1.state c ≡ taken c a a granules size layers.Large ∷ [] = (λ j. three.0 j ++ three.1 j ++ two.1 j ++ k j) in
      ap (find (has_address a)) all ∙ rw e refl

  drop_ok : may_prepare s m1 c (acts.Drop a) ≡ true
  drop_ok = subst (λ (k : Configuration). may_prepare s k c (acts.Drop a) ≡ true) (sym is1)
      (prepares s k1 c (acts.Drop a) refl (ap (λ (o : Option Place). not (is_of_lfh o)) hand)
      (and_from true (is_some (k1.now.calls c).call && _) refl
      (and_from (is_some (k1.now.calls c).call) _ (ap (λ (x : CallState). is_some x.call) (updated_here m.now.calls c (call_after s c (m.now.calls c) (acts.Take a size))) ∙ beg)
      (and_from (is_entered m.state.gate c) _ ent (ap (λ (o : Option Place). for_some o (λ q. may_touch (caller_view k1 c) q.layer)) hand ∙ held)))))

  pub both_prepared : are_prepared s m c (by_all c (acts.Take a size ∷ acts.Drop a ∷ [])) ≡ true
  both_prepared = one_prepared s m c (acts.Take a size) (by_all c (acts.Drop a ∷ [])) (may_take s m c a size p first refl held refl ent beg dem) (one_prepared s m1 c (acts.Drop a) [] drop_ok refl)

  gone : drop c a (take c a m.state.large) ≡ remove_found (has_address a) m.state.large
  gone = let e = eq-eqb a a refl in dropped c a a granules size layers.Large (has_address a) m.state.large e e (λ (q : Place) z. z) one.1 found

  pub both_dropped : IsDropped m (after s m1 (entry c (acts.Drop a))) c a
  both_dropped = subst (λ (k : Configuration). IsDropped m (after s k (entry c (acts.Drop a))) c a) (sym is1) (record {
    large = ap (λ (o : Option Place). (with_places k1.state (layer_of o) (remove_found (is_hand_at c a))).large) hand ∙ gone;
    hands =
        let k : in_hand c (drop c a (take c a m.state.large)) ≡ [] = ap (in_hand c) gone ∙ none_left c (has_address a) m.state.large one.1 in
        ap (λ (o : Option Place). hands (with_places k1.state (layer_of o) (remove_found (is_hand_at c a))) c) hand ∙ (λ j. three.0 j ++ three.1 j ++ two.1 j ++ k j);
    demand = ap (unspan_of c) hand;
  })

---- The token

module _ (k : Token) (call : Call) (large : LargeTable) (h : HoldsLarge k call large) (st : IsStanding k) (sound : IsSound large) (addr : ℕ) (b : LargeBlock) (found : find (is_at addr) large.blocks ≡ Some b) where
  abbrev list : List Act
  list = acts.Take addr b.size ∷ acts.Drop addr ∷ []

  at : b.addr ≡ addr
  at = eqb-true b.addr addr (found_passes (is_at addr) large.blocks b found)

  is_one : place_of b ≡ live_one k.number addr addr (256 * pages_of b.size) b.size layers.Large
  is_one = λ i. record { start = at i; granules = 256 * pages_of b.size; layer = layers.Large; status = Live b.size }

  ex : Always k (λ s. find (has_address addr) (exclusive_places (now s k).state k.number) ≡ Some (live_one k.number addr addr (256 * pages_of b.size) b.size layers.Large))
  ex s q = exclusive_found k call large h st sound addr b found s q ∙ ap Some is_one

  la : Always k (λ s. find (has_address addr) (now s k).state.large ≡ Some (live_one k.number addr addr (256 * pages_of b.size) b.size layers.Large))
  la s q = place_at_address large k.opening (now s k).state (h.tells s q) sound.laid addr b found ∙ ap Some is_one

  held : Always k (λ s. holds (now s k).state.gate k.number whats.Large ≡ true)
  held s q = (st s q).locks whats.Large ∙ ap (is_out whats.Large) h.serving.out_is

  pub drop_may : Always k (λ s. are_prepared s (now s k) k.number (by_all k.number list) ≡ true)
  drop_may s q = let a = st s q in both_prepared s (now s k) k.number addr (256 * pages_of b.size) b.size (la s q) (ex s q) (a.hands h.serving.free) (a.entered ∙ h.serving.inside) (ap is_some (a.call ∙ h.serving.call_is)) (a.demand h.serving.whole) (held s q)

  abbrev pub dropped_token : Token
  dropped_token = with_all k list

  dropped_now : Always k (λ s. IsDropped (now s k) (now s dropped_token) k.number addr)
  dropped_now s q =
      let a = st s q in
      subst (λ (m : Configuration). IsDropped (now s k) m k.number addr) (sym (now_all s k list))
      (both_dropped s (now s k) k.number addr (256 * pages_of b.size) b.size (la s q) (ex s q) (a.hands h.serving.free) (a.entered ∙ h.serving.inside) (ap is_some (a.call ∙ h.serving.call_is)) (a.demand h.serving.whole) (held s q))

  pub drop_rests : Always dropped_token (λ s. HasRested (now s dropped_token) dropped_token.number)
  drop_rests s q = let x = dropped_now s q in record { hands = x.hands; demand = x.demand }

  pub drop_tells : (new : LargeTable) → Becomes large new (λ ps. without_block ps addr) → Always (rested dropped_token) (λ s. (leaves_whole (now s (rested dropped_token)).state whats.Large ≡ true) × StandsForLarge k.opening (now s (rested dropped_token)).state (table_layer new))
  drop_tells new becomes s q = (refl, becomes k.opening (now s k).state (now s dropped_token).state (h.tells s q) (dropped_now s q).large)
