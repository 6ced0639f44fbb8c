-- What is known of the state of a legal history, and of its places by layer and address.
use Rattle.std.proofs.Common.{◌≡◌, ℕ, ◌+◌, ◌-◌, ◌*◌, true, cond, List, ◌++◌, Some, sym, ap, ◌∙◌, subst, inl, inr}
use Rattle.heap_model.specs.declared.Entry.{Entry}
use Rattle.heap_model.specs.declared.Layer.{Layer}
use Rattle.heap_model.specs.declared.Layer.TheVariants as layers
use Rattle.heap_model.specs.State.{State, Setting, IsValidSetting, Place, address, room, is_layer, places_of, all_places, place_at}
use Rattle.heap_model.specs.History.{may_all_follow, first_configuration, configuration_of}
use Rattle.heap_soundness.specs.Sound.{IsOneOf, IsSound, IsInLfh, IsInLarge, HasSoundBlocks}
use Rattle.heap_soundness.specs.Invariant.{IsVsSound, IsLayerSound}
use Rattle.heap_soundness.specs.Legal.{HaveOneAddress}
use Rattle.heap_soundness.proofs.Lists.{all_at}
use Rattle.heap_soundness.proofs.Kept.{keeps_all}
use Rattle.heap_soundness.proofs.Whole.{state_sound}
use Rattle.heap_soundness.proofs.Addresses.{addresses_sound, blocks_sound}
use Rattle.decode_laws.proofs.Members.{in_parts, in_left, in_right}

pub address_by : (p : Place) (l : Layer) → p.layer ≡ l → address p ≡ cond (is_layer l layers.Vs) (p.start + 16) p.start
address_by p l e = ap (λ (k : Layer). cond (is_layer k layers.Vs) (p.start + 16) p.start) e

pub room_by : (p : Place) (l : Layer) → p.layer ≡ l → room p ≡ cond (is_layer l layers.Vs) (16 * p.granules - 16) (16 * p.granules)
room_by p l e = ap (λ (k : Layer). cond (is_layer k layers.Vs) (16 * p.granules - 16) (16 * p.granules)) e

-- a place of a layer is one of all places
pub of_layer : (st : State) (l : Layer) (p : Place) → IsOneOf p (places_of st l) → IsOneOf p (all_places st)
of_layer st layers.Lfh p i = in_left p (st.lfh ++ st.vs.places ++ st.back.places) st.large (in_left p (st.lfh ++ st.vs.places) st.back.places (in_left p st.lfh st.vs.places i))
of_layer st layers.Vs p i = in_left p (st.lfh ++ st.vs.places ++ st.back.places) st.large (in_left p (st.lfh ++ st.vs.places) st.back.places (in_right p st.lfh st.vs.places i))
of_layer st layers.Back p i = in_left p (st.lfh ++ st.vs.places ++ st.back.places) st.large (in_right p (st.lfh ++ st.vs.places) st.back.places i)
of_layer st layers.Large p i = in_right p (st.lfh ++ st.vs.places ++ st.back.places) st.large i

pub record IsKnownState (s : Setting) (st : State) : Type 0 where
  pub sound : IsSound s st
  pub vs : IsVsSound st.back.area.spans st.vs.places
  pub lfh : IsLayerSound (IsInLfh st.back.area.spans) st.lfh
  pub large : IsLayerSound (IsInLarge s.limits) st.large
  pub one : HaveOneAddress st
  pub blocks : HasSoundBlocks st

pub known_state : (s : Setting) (es : List Entry) → IsValidSetting s → may_all_follow s first_configuration es ≡ true → IsKnownState s (configuration_of s es).state
known_state s es valid legal =
    let w = keeps_all s es valid legal in
    record {
      sound = state_sound s (configuration_of s es) w valid;
      vs = w.heap.vs;
      lfh = w.heap.lfh;
      large = w.heap.large;
      one = addresses_sound s (configuration_of s es) w;
      blocks = blocks_sound s (configuration_of s es) w;
    }

module _ (s : Setting) (st : State) (known : IsKnownState s st) where
  -- each place of a layer tells it
  pub layer_at : (l : Layer) (p : Place) → IsOneOf p (places_of st l) → p.layer ≡ l
  layer_at layers.Lfh p i = all_at (λ (q : Place). q.layer ≡ layers.Lfh) p st.lfh known.sound.homes.lfh i
  layer_at layers.Vs p i = all_at (λ (q : Place). q.layer ≡ layers.Vs) p st.vs.places known.sound.homes.vs i
  layer_at layers.Back p i = all_at (λ (q : Place). q.layer ≡ layers.Back) p st.back.places known.sound.homes.back i
  layer_at layers.Large p i = all_at (λ (q : Place). q.layer ≡ layers.Large) p st.large known.sound.homes.large i

  -- .. and a place is one of the layer that it tells
  pub in_layer : (l : Layer) (p : Place) → IsOneOf p (all_places st) → p.layer ≡ l → IsOneOf p (places_of st l)
  in_layer l p i e = elim (in_parts p (st.lfh ++ st.vs.places ++ st.back.places) st.large i) [
    | inr j ↦ of layers.Large j
    | inl j ↦ elim (in_parts p (st.lfh ++ st.vs.places) st.back.places j) [
      | inr k ↦ of layers.Back k
      | inl k ↦ elim (in_parts p st.lfh st.vs.places k) [ inl h ↦ of layers.Lfh h | inr h ↦ of layers.Vs h ]
    ]
  ]
    where
      of : (k : Layer) → IsOneOf p (places_of st k) → IsOneOf p (places_of st l)
      of k j = subst (λ (x : Layer). IsOneOf p (places_of st x)) (sym (layer_at k p j) ∙ e) j

  -- no two places have one address
  pub one_place : (p q : Place) → IsOneOf p (all_places st) → IsOneOf q (all_places st) → address p ≡ address q → p ≡ q
  one_place p q i j e =
      let both : Some p ≡ Some q = sym (known.one.place p i 0) ∙ (ap (λ (n : ℕ). place_at st 0 n) e ∙ known.one.place q j 0) in
      (let same : p ≡ q = cc in same)
