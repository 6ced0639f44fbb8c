-- The end of a move of a block of VS: its span goes with it where it was the last one there.
use Rattle.std.proofs.Common.{◌≡◌, ℕ, ◌<◌, true, List, [], ◌∷◌, length, Some, None, refl, sym, ap, ◌∙◌, subst, arith, inr, length-append}
use Rattle.std.specs.List.{find}
use Rattle.heap_model.specs.declared.Act.{Act}
use Rattle.heap_model.specs.declared.Act.TheVariants as acts
use Rattle.heap_model.specs.declared.Call.{Call}
use Rattle.heap_model.specs.declared.Layer.{Layer}
use Rattle.heap_model.specs.declared.Layer.TheVariants as layers
use Rattle.heap_model.specs.declared.Opening.{Opening}
use Rattle.heap_model.specs.declared.What.TheVariants as whats
use Rattle.heap_model.specs.CallState.{caller_view}
use Rattle.heap_model.specs.Layers.{StandsForVs}
use Rattle.heap_model.specs.Legal.{may_touch, with_places, leaves_whole}
use Rattle.heap_model.specs.Search.{begins_at}
use Rattle.heap_model.specs.State.{Setting, State, Place, is_layer, has_address, places_of, holds, remove_found}
use Rattle.heap_soundness.specs.Sound.{AreInOrder, AreAt, IsInVs}
use Rattle.claim_rule.specs.Entries.{IsSettingOf, setting_of, entry}
use Rattle.claim_rule.proofs.Advance.{some_setting}
use Rattle.backend_fit.specs.Kept.{Kept}
use Rattle.backend_fit.specs.Sound.{IsSound}
use Rattle.vs_layer.specs.Effects.{HasDropped}
use Rattle.vs_layer.specs.Kept.{VsKept, places_of as kept_places, block_at}
use Rattle.vs_layer.specs.Standing.{layer_of, Becomes, without_block}
use Rattle.vs_layer.proofs.Told.{block_is}
use Rattle.heap_gate.specs.Calls.{rested}
use Rattle.heap_gate.specs.Token.{Token, Always, now, IsStanding, is_out}
use Rattle.call_parts.specs.Entries.{HasAdded}
use Rattle.call_parts.proofs.Tokens.{added_one, added_then}
use Rattle.move_parts.specs.Moves.{TellsVs, TellsBack}
use Rattle.move_parts.specs.Places.{MayEnd, HasEndedSpan}
use Rattle.move_parts.proofs.SpanGone.{kept_used, kept_tells, empty, rest_whole, rest_tells}
use Rattle.move_to_front.specs.Halfway.{IsHalfwayOver, HasSwappedOver}
use Rattle.move_to_front.specs.Ends.{HasChangedOver, EndsVs}
use Rattle.move_to_front.proofs.Ended.{one_prepared, ended_added, changed, at_c, at_e, now_d, back_other}

-- the layer has the old block still
pub vs_there : (c : Token) (call : Call) (addr size b n : ℕ) (p q : Place) (out : List ℕ) → IsHalfwayOver c call addr size p b n q out → p.layer ≡ layers.Vs → (vs : VsKept) → TellsVs c vs → (y : Place) × (block_at vs addr ≡ Some y)
vs_there c call addr size b n p q out h is_vs vs w =
    let s = setting_of c.opening c.roll in let z = some_setting c.opening c.roll in
    let m = (now s c).state in
    let there : find (has_address addr) m.vs.places ≡ Some p = subst (λ (l : Layer). find (has_address addr) (places_of m l) ≡ Some p) is_vs (h.old s z).there in
    (p, block_is c.opening m vs (w.tells s z) addr ∙ there)

module _ (c e : Token) (call : Call) (addr size b n : ℕ) (p q : Place) (out : List ℕ) (h : IsHalfwayOver c call addr size p b n q out) (st : IsStanding c) (x : HasSwappedOver c e addr size p b n) (d : Token) (is : d ≡ rested e) (is_vs : p.layer ≡ layers.Vs) (back_out : is_out whats.Back out ≡ true)
    (vs later : VsKept) (back : Kept) (w : TellsVs c vs) (wb : TellsBack c back) (in_order : AreInOrder 0 vs.spans) (inside : AreAt (IsInVs vs.spans) (kept_places vs)) where
  prior : (s : Setting) → IsSettingOf d.opening d.roll s → IsSettingOf c.opening c.roll s
  prior s z = at_c c e call addr size b n p q out h st x d is s z

  same_opening : d.opening ≡ c.opening
  same_opening = (ended_added c e call addr size b n p q out h st x d is).goes.opening

  vs_held : Always c (λ s. holds (now s c).state.gate c.number whats.Vs ≡ true)
  vs_held s z = subst (λ (l : Layer). may_touch (caller_view (now s c) c.number) l ≡ true) is_vs (h.old s z).touch

  back_c : is_out whats.Back c.out ≡ true
  back_c = ap (is_out whats.Back) h.out_is ∙ back_out

  vs_c : is_out whats.Vs c.out ≡ true
  vs_c = let s = setting_of c.opening c.roll in let z = some_setting c.opening c.roll in sym ((st s z).locks whats.Vs) ∙ vs_held s z

  gone_now : Always d (λ s. (now s d).state.vs ≡ without_block (now s c).state.vs addr)
  gone_now s z =
      let y = at_e c e call addr size b n p q out h st x d is s z in
      ap (λ (m : State). m.vs) (now_d c e call addr size b n p q out h st x d is s)
      ∙ ((x.gone s y).vs (vs_held s (prior s z)) ∙ ap (λ (l : Layer). (with_places (now s c).state (Some l) (remove_found (has_address addr))).vs) is_vs)

  same_now : Always d (λ s. (now s d).state.back ≡ (now s c).state.back)
  same_now s z =
      let y = at_e c e call addr size b n p q out h st x d is s z in
      let held : holds (now s c).state.gate c.number whats.Back ≡ true = (st s (prior s z)).locks whats.Back ∙ back_c in
      ap (λ (m : State). m.back) (now_d c e call addr size b n p q out h st x d is s)
      ∙ ((x.gone s y).back held ∙ ap (λ (l : Layer). (with_places (now s c).state (Some l) (remove_found (has_address addr))).back) is_vs)

  back_then : TellsBack d back
  back_then = back_other c e call addr size b n p q out h st x d is (ap (is_layer layers.Back) is_vs) back_c back wb

  ---- A block is left in its span

  pub ends_vs : HasDropped vs later addr None → Becomes vs later (λ v. without_block v addr) (λ xs. xs) → EndsVs c d addr size b n later back
  ends_vs dropped becomes = record {
    changed = changed c e call addr size b n p q out h st x d is;
    tells = record {
      vs = record {
        tells = λ s z. subst (λ (o : Opening). StandsForVs o (now s d).state (layer_of later)) (sym same_opening)
            (kept_tells c.opening (now s c).state (now s d).state vs later (w.tells s (prior s z)) (w.used s (prior s z)) addr (gone_now s z) (same_now s z) in_order inside dropped becomes);
        used = λ s z. kept_used c.opening (now s c).state (now s d).state vs later (w.tells s (prior s z)) (w.used s (prior s z)) addr (gone_now s z) (same_now s z) in_order inside dropped becomes;
      };
      back = back_then;
    };
  }

  ---- None is left

  module _ (sound : IsSound back) (first pages : ℕ) (dropped : HasDropped vs later addr (Some (first, pages))) (becomes : Becomes vs later (λ v. without_block v addr) (remove_found (begins_at first))) where
    same_out : d.out ≡ c.out
    same_out = ap (λ (t : Token). t.out) is ∙ x.out_is

    pub may_end : MayEnd d back first
    may_end =
        let steady = (ended_added c e call addr size b n p q out h st x d is).steady in
        record {
          call = call;
          call_is = steady.call ∙ h.call_is;
          inside = steady.inside ∙ h.inside;
          whole = ap (λ (t : Token). t.whole) is;
          vs_held = ap (is_out whats.Vs) same_out ∙ vs_c;
          back_held = ap (is_out whats.Back) same_out ∙ back_c;
          empty = λ s z. empty c.opening (now s c).state (now s d).state vs later (w.tells s (prior s z)) (w.used s (prior s z)) addr (gone_now s z) (same_now s z) in_order inside back (wb s (prior s z)) sound first pages dropped becomes;
          back = back_then;
        }

    few_now : length d.prepared ≡ 1
    few_now = ap (λ (t : Token). length t.prepared) is ∙ one_prepared c e call addr size b n p q out h st x

    pub end_room : length d.prepared < 16
    end_room = let k = few_now in omega (arith, k)

    module _ (f : Token) (more : Kept) (y : HasEndedSpan d f more first) where
      abbrev unspan : Act
      unspan = acts.Unspan first

      added : HasAdded c f (acts.Take addr size ∷ acts.Give b n ∷ acts.Drop addr ∷ unspan ∷ [])
      added = added_then c d f (acts.Take addr size ∷ acts.Give b n ∷ acts.Drop addr ∷ []) (unspan ∷ []) (ended_added c e call addr size b n p q out h st x d is)
          (subst (λ (t : Token). HasAdded d t (unspan ∷ [])) (sym y.prepared) (added_one d unspan refl))

      opening_then : f.opening ≡ d.opening
      opening_then = ap (λ (t : Token). t.opening) y.prepared

      before_then : (s : Setting) → IsSettingOf f.opening f.roll s → IsSettingOf d.opening d.roll s
      before_then s z = subst (λ (t : Token). IsSettingOf t.opening t.roll s) y.prepared z

      changed_then : HasChangedOver c f addr size b n
      changed_then =
          let few = few_now in
          let one = ap (λ (t : Token). length t.prepared) y.prepared in
          let all = length-append d.prepared (entry d.number unspan ∷ []) in
          record {
            last = unspan ∷ [];
            last_is = inr (first, refl);
            added = added;
            out_is = ap (λ (t : Token). t.out) y.prepared ∙ same_out;
            whole = ap (λ (t : Token). t.whole) y.prepared;
            free = ap (λ (t : Token). t.free) y.prepared ∙ ap (λ (t : Token). t.free) is;
            pending = ap (λ (t : Token). t.pending) y.prepared ∙ (ap (λ (t : Token). t.pending) is ∙ x.pending);
            few = omega (arith, few, one, all);
          }

      pub ends_with_span : EndsVs c f addr size b n later more
      ends_with_span = record {
        changed = changed_then;
        tells = record {
          vs = record {
            tells = λ s z.
                let k = before_then s z in let j = prior s k in
                subst (λ (o : Opening). StandsForVs o (now s f).state (layer_of later)) (sym (opening_then ∙ same_opening))
                (subst (λ (m : State). StandsForVs c.opening m (layer_of later)) (sym (y.state s z))
                (rest_tells c.opening (now s c).state (now s d).state vs later (w.tells s j) (w.used s j) addr (gone_now s k) (same_now s k) in_order inside back (wb s j) sound first pages dropped becomes));
            used = λ s z.
                let k = before_then s z in let j = prior s k in
                subst (λ (m : State). leaves_whole m whats.Vs ≡ true) (sym (y.state s z))
                (rest_whole c.opening (now s c).state (now s d).state vs later (w.tells s j) (w.used s j) addr (gone_now s k) (same_now s k) in_order inside back (wb s j) sound first pages dropped becomes);
          };
          back = y.back;
        };
      }
