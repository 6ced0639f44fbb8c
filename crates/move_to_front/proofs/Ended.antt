-- The old block went: where the caller stands, and what the states of the layers tell then.
use Rattle.std.proofs.Common.{◌≡◌, ℕ, true, false, List, [], ◌∷◌, length, Some, refl, sym, ap, ◌∙◌, subst, arith, inl}
use Rattle.std.specs.Prelude.{IsSome, option_and_then}
use Rattle.std.specs.List.{find}
use Rattle.heap_model.specs.declared.Act.{Act}
use Rattle.heap_model.specs.declared.Act.TheVariants as acts
use Rattle.heap_model.specs.declared.Call.{Call}
use Rattle.heap_model.specs.declared.Entry.{Entry}
use Rattle.heap_model.specs.declared.Layer.{Layer}
use Rattle.heap_model.specs.declared.Layer.TheVariants as layers
use Rattle.heap_model.specs.declared.Opening.{Opening}
use Rattle.heap_model.specs.declared.What.TheVariants as whats
use Rattle.heap_model.specs.State.{Setting, State, Place, InHand, is_layer, is_live, live_size, has_address, hands, holds, places_of, remove_found}
use Rattle.heap_model.specs.Ranges.{vs_spans}
use Rattle.heap_model.specs.CallState.{Nothing, caller_view}
use Rattle.heap_model.specs.Legal.{may_touch, unspan_of, with_places, with_status}
use Rattle.heap_model.specs.Layers.{StandsForLarge}
use Rattle.claim_rule.specs.Entries.{IsSettingOf, setting_of}
use Rattle.claim_rule.proofs.Advance.{some_setting}
use Rattle.large_blocks.specs.Table.{LargeTable, is_at}
use Rattle.large_blocks.specs.Table as larges
use Rattle.large_blocks.specs.Effects as effects
use Rattle.large_blocks.specs.Sound.{IsSound}
use Rattle.large_blocks.proofs.Standing.{same_size}
use Rattle.backend_fit.specs.Kept.{Kept}
use Rattle.vs_layer.specs.Kept.{VsKept}
use Rattle.heap_gate.specs.Calls.{HasRested, rested}
use Rattle.heap_gate.specs.Token.{Token, Always, now, IsStanding, is_out}
use Rattle.call_parts.specs.Entries.{HasAdded}
use Rattle.call_parts.proofs.Joining.{setting_before}
use Rattle.call_parts.proofs.Tokens.{added_rested, added_then}
use Rattle.move_parts.specs.Moves.{TellsVs, TellsBack, TellsLarge}
use Rattle.move_parts.proofs.Ended.{live_found, some_mapped}
use Rattle.move_to_front.specs.Halfway.{IsHalfwayOver, HasSwappedOver}
use Rattle.move_to_front.specs.Ends.{HasChangedOver, EndsLarge}
use Rattle.move_to_front.proofs.Tells.{vs_later, back_later}

-- a layer is left alone where a place of another one goes
vs_alone : (st : State) (l : Layer) (f : List Place → List Place) → is_layer layers.Vs l ≡ false → (with_places st (Some l) f).vs ≡ st.vs
vs_alone st l f e = rw e refl

back_alone : (st : State) (l : Layer) (f : List Place → List Place) → is_layer layers.Back l ≡ false → (with_places st (Some l) f).back ≡ st.back
back_alone st l f e = rw e refl

-- no span has to go with a block of it
no_span : (c : ℕ) (p : Place) → is_layer p.layer layers.Back ≡ false → unspan_of c (Some p) ≡ Nothing
no_span c p e = rw e refl

module _ (c e : Token) (call : Call) (addr size b n : ℕ) (p q : Place) (out : List ℕ) (h : IsHalfwayOver c call addr size p b n q out) (st : IsStanding c) (x : HasSwappedOver c e addr size p b n) where
  abbrev three : List Act
  three = acts.Take addr size ∷ acts.Give b n ∷ acts.Drop addr ∷ []

  pub before : (s : Setting) → IsSettingOf e.opening e.roll s → IsSettingOf c.opening c.roll s
  before s z = setting_before c e three x.added.goes s z

  pub rest_ok : is_layer p.layer layers.Back ≡ false → Always e (λ s. HasRested (now s e) e.number)
  rest_ok k s z = record {
    hands = subst (λ (m : ℕ). hands (now s e).state m ≡ []) (sym x.added.goes.number) (x.gone s z).hands;
    demand = x.demand s z ∙ no_span c.number (with_status (InHand c.number) p) k;
  }

  pub one_prepared : length e.prepared ≡ 1
  one_prepared = ap (λ (l : List Entry). length l) x.prepared

  ---- Nothing has to follow

  module _ (d : Token) (is : d ≡ rested e) where
    pub ended_added : HasAdded c d (acts.Take addr size ∷ acts.Give b n ∷ acts.Drop addr ∷ [])
    ended_added = subst (λ (t : Token). HasAdded c t three) (sym is) (added_then c e (rested e) three [] x.added (added_rested e))

    pub changed : HasChangedOver c d addr size b n
    changed = record {
      last = [];
      last_is = inl refl;
      added = ended_added;
      out_is = ap (λ (t : Token). t.out) is ∙ x.out_is;
      whole = ap (λ (t : Token). t.whole) is;
      free = ap (λ (t : Token). t.free) is;
      pending = ap (λ (t : Token). t.pending) is ∙ x.pending;
      few = let k = ap (λ (t : Token). length t.prepared) is in let one = one_prepared in omega (arith, k, one);
    }

    pub at_c : (s : Setting) → IsSettingOf d.opening d.roll s → IsSettingOf c.opening c.roll s
    at_c s z = setting_before c d three ended_added.goes s z

    pub at_e : (s : Setting) → IsSettingOf d.opening d.roll s → IsSettingOf e.opening e.roll s
    at_e s z = subst (λ (t : Token). IsSettingOf t.opening t.roll s) is z

    pub now_d : (s : Setting) → (now s d).state ≡ (now s e).state
    now_d s = ap (λ (t : Token). (now s t).state) is

    pub same_opening : d.opening ≡ c.opening
    same_opening = ended_added.goes.opening

    abbrev gone : List Place → List Place
    gone ps = remove_found (has_address addr) ps

    pub vs_other : is_layer layers.Vs p.layer ≡ false → is_out whats.Vs c.out ≡ true → (vs : VsKept) → TellsVs c vs → TellsVs d vs
    vs_other k o vs w = vs_later c d same_opening at_c vs (λ s z.
        let held : holds (now s c).state.gate c.number whats.Vs ≡ true = (st s (at_c s z)).locks whats.Vs ∙ o in
        let y = x.gone s (at_e s z) in (
          ap (λ (m : State). m.vs) (now_d s) ∙ (y.vs held ∙ vs_alone (now s c).state p.layer gone k),
          ap (λ (m : State). vs_spans m.back.area) (now_d s) ∙ y.spans held,
        )) w

    pub back_other : is_layer layers.Back p.layer ≡ false → is_out whats.Back c.out ≡ true → (back : Kept) → TellsBack c back → TellsBack d back
    back_other k o back w = back_later c d same_opening at_c back (λ s z.
        let held : holds (now s c).state.gate c.number whats.Back ≡ true = (st s (at_c s z)).locks whats.Back ∙ o in
        ap (λ (m : State). m.back) (now_d s) ∙ ((x.gone s (at_e s z)).back held ∙ back_alone (now s c).state p.layer gone k)) w

    ---- An old block of the large area

    module _ (is_large : p.layer ≡ layers.Large) where
      large_held : Always c (λ s. holds (now s c).state.gate c.number whats.Large ≡ true)
      large_held s z = subst (λ (l : Layer). may_touch (caller_view (now s c) c.number) l ≡ true) is_large (h.old s z).touch

      not_layer : (l : Layer) → is_layer l layers.Large ≡ false → is_layer l p.layer ≡ false
      not_layer l k = ap (is_layer l) is_large ∙ k

      pub ends_large : (large more : LargeTable) → TellsLarge c large → effects.Becomes large more (λ ps. effects.without_block ps addr) → EndsLarge c d addr size b n more
      ends_large large more w becomes = record {
        changed = changed;
        large = λ s z.
            let y = at_c s z in
            let same : (now s d).state.large ≡ remove_found (has_address addr) (now s c).state.large =
            ap (λ (m : State). m.large) (now_d s) ∙ ((x.gone s (at_e s z)).large (large_held s y) ∙ ap (λ (l : Layer). (with_places (now s c).state (Some l) gone).large) is_large) in
            subst (λ (o : Opening). StandsForLarge o (now s d).state (larges.layer_of more)) (sym same_opening) (becomes c.opening (now s c).state (now s d).state (w s y) same);
        vs = vs_other (not_layer layers.Vs refl);
        back = back_other (not_layer layers.Back refl);
      }

-- the table has the old block still
pub large_there : (c : Token) (call : Call) (addr size b n : ℕ) (p q : Place) (out : List ℕ) → IsHalfwayOver c call addr size p b n q out → p.layer ≡ layers.Large → (large : LargeTable) → TellsLarge c large → IsSound large → IsSome (find (is_at addr) large.blocks)
large_there c call addr size b n p q out h is_large large w sound =
    let s = setting_of c.opening c.roll in let z = some_setting c.opening c.roll in
    let m = (now s c).state in
    let there : find (has_address addr) m.large ≡ Some p = subst (λ (l : Layer). find (has_address addr) (places_of m l) ≡ Some p) is_large (h.old s z).there in
    let found = live_found addr m.large p there (ap is_live (h.old s z).live) in
    some_mapped (find (is_at addr) large.blocks) size
    (same_size large sound.laid addr c.opening m (w s z) ∙ (ap (option_and_then (λ (y : Place). live_size y.status)) found ∙ ap live_size (h.old s z).live))
