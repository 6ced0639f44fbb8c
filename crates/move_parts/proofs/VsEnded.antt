-- The end of a move of a block of VS: its span goes with it where it was the last one there.
use Rattle.std.proofs.Common.{◌≡◌, ℕ, ◌<◌, true, false, List, [], ◌∷◌, length, Some, None, refl, sym, ap, ◌∙◌, subst, arith, inr, length-append}
use Rattle.std.specs.List.{find}
use Rattle.heap_model.specs.declared.Act.{Act}
use Rattle.heap_model.specs.declared.Act.TheVariants as acts
use Rattle.heap_model.specs.declared.Call.{Call}
use Rattle.heap_model.specs.declared.Layer.{Layer}
use Rattle.heap_model.specs.declared.Layer.TheVariants as layers
use Rattle.heap_model.specs.declared.Opening.{Opening}
use Rattle.heap_model.specs.declared.What.TheVariants as whats
use Rattle.heap_model.specs.CallState.{caller_view}
use Rattle.heap_model.specs.Layers.{StandsForVs, StandsForLarge}
use Rattle.heap_model.specs.Legal.{may_touch, with_places, leaves_whole}
use Rattle.heap_model.specs.Search.{begins_at}
use Rattle.heap_model.specs.State.{Setting, State, Place, is_layer, has_address, places_of, holds, remove_found}
use Rattle.heap_soundness.specs.Sound.{AreInOrder, AreAt, IsInVs}
use Rattle.claim_rule.specs.Entries.{IsSettingOf, setting_of, entry}
use Rattle.claim_rule.proofs.Advance.{some_setting}
use Rattle.backend_fit.specs.Kept.{Kept}
use Rattle.backend_fit.specs.Sound.{IsSound}
use Rattle.large_blocks.specs.Table.{LargeTable}
use Rattle.large_blocks.specs.Table as larges
use Rattle.vs_layer.specs.Effects.{HasDropped}
use Rattle.vs_layer.specs.Kept.{VsKept, places_of as kept_places, block_at}
use Rattle.vs_layer.specs.Standing.{layer_of, Becomes, without_block}
use Rattle.vs_layer.proofs.Told.{block_is}
use Rattle.heap_gate.specs.Token.{Token, Always, now, IsStanding, is_out}
use Rattle.call_parts.specs.Entries.{HasAdded}
use Rattle.call_parts.proofs.Tokens.{added_one, added_then}
use Rattle.move_parts.specs.Moves.{IsHalfway, with_given, WillTellVs, WillTellBack, WillTellLarge, TellsBack, TellsLarge}
use Rattle.move_parts.specs.Places.{HasSwapped, HasChanged, EndsVs, MayEnd, HasEndedSpan}
use Rattle.move_parts.proofs.Ended.{large_stands, ended_added, before, few_then, changed, back_other, large_other}
use Rattle.move_parts.proofs.Halfway.{given_held_now}
use Rattle.move_parts.proofs.SpanGone.{kept_used, kept_tells, empty, rest_whole, rest_tells}

-- the layer has the old block still
pub vs_there : (c : Token) (call : Call) (addr size b n : ℕ) (p q : Place) (out : List ℕ) → IsHalfway c call addr size p b n q out → IsStanding c → p.layer ≡ layers.Vs → (vs : VsKept) → WillTellVs c q n vs → (y : Place) × (block_at vs addr ≡ Some y)
vs_there c call addr size b n p q out h st is_vs vs w =
    let s = setting_of c.opening c.roll in let e = some_setting c.opening c.roll in
    let g = with_given (now s c).state c.number q n in
    let there : find (has_address addr) g.vs.places ≡ Some p = subst (λ (l : Layer). find (has_address addr) (places_of g l) ≡ Some p) is_vs (given_held_now c call addr size b n p q out h st s e) in
    (p, block_is c.opening g vs (w s e).1 addr ∙ there)

module _ (c d : Token) (call : Call) (addr size b n : ℕ) (p q : Place) (out : List ℕ) (h : IsHalfway c call addr size p b n q out) (st : IsStanding c) (x : HasSwapped c d addr size p b n q) (is_vs : p.layer ≡ layers.Vs) (back_out : is_out whats.Back out ≡ true)
    (vs later : VsKept) (back : Kept) (w : WillTellVs c q n vs) (wb : WillTellBack c q n back) (in_order : AreInOrder 0 vs.spans) (inside : AreAt (IsInVs vs.spans) (kept_places vs)) where
  abbrev g : Setting → State
  g s = with_given (now s c).state c.number q n

  prior : (s : Setting) → IsSettingOf d.opening d.roll s → IsSettingOf c.opening c.roll s
  prior s e = before c d call addr size b n p q out h st x s e

  same_opening : d.opening ≡ c.opening
  same_opening = (ended_added c d call addr size b n p q out h st x).goes.opening

  state_now : Always d (λ s. (now s d).state ≡ with_places (g s) (Some layers.Vs) (remove_found (has_address addr)))
  state_now s e = x.state s e ∙ ap (λ (l : Layer). with_places (g s) (Some l) (remove_found (has_address addr))) is_vs

  gone_now : Always d (λ s. (now s d).state.vs ≡ without_block (g s).vs addr)
  gone_now s e = ap (λ (y : State). y.vs) (state_now s e)

  same_now : Always d (λ s. (now s d).state.back ≡ (g s).back)
  same_now s e = ap (λ (y : State). y.back) (state_now s e)

  not_layer : (l : Layer) → is_layer l layers.Vs ≡ false → is_layer l p.layer ≡ false
  not_layer l k = ap (is_layer l) is_vs ∙ k

  back_then : TellsBack d back
  back_then = back_other c d call addr size b n p q out h st x (not_layer layers.Back refl) back wb

  large_then : (large : LargeTable) → WillTellLarge c q n large → TellsLarge d large
  large_then = large_other c d call addr size b n p q out h st x (not_layer layers.Large refl)

  ---- A block is left in its span

  pub ends_vs : HasDropped vs later addr None → Becomes vs later (λ v. without_block v addr) (λ xs. xs) → EndsVs c d addr size b n q later back
  ends_vs dropped becomes = record {
    changed = changed c d call addr size b n p q out h st x;
    vs = record {
      tells = λ s e. subst (λ (o : Opening). StandsForVs o (now s d).state (layer_of later)) (sym same_opening)
          (kept_tells c.opening (g s) (now s d).state vs later (w s (prior s e)).1 (w s (prior s e)).0 addr (gone_now s e) (same_now s e) in_order inside dropped becomes);
      used = λ s e. kept_used c.opening (g s) (now s d).state vs later (w s (prior s e)).1 (w s (prior s e)).0 addr (gone_now s e) (same_now s e) in_order inside dropped becomes;
    };
    back = back_then;
    large = large_then;
  }

  ---- None is left

  module _ (sound : IsSound back) (first pages : ℕ) (dropped : HasDropped vs later addr (Some (first, pages))) (becomes : Becomes vs later (λ v. without_block v addr) (remove_found (begins_at first))) where
    vs_held : is_out whats.Vs c.out ≡ true
    vs_held =
        let s = setting_of c.opening c.roll in let e = some_setting c.opening c.roll in
        let t : holds (now s c).state.gate c.number whats.Vs ≡ true = subst (λ (l : Layer). may_touch (caller_view (now s c) c.number) l ≡ true) is_vs (h.old s e).touch in
        sym ((st s e).locks whats.Vs) ∙ t

    same_out : d.out ≡ c.out
    same_out = ap (λ (t : Token). t.out) x.prepared

    pub may_end : MayEnd d back first
    may_end = record {
      call = call;
      call_is = (ended_added c d call addr size b n p q out h st x).steady.call ∙ h.call_is;
      inside = (ended_added c d call addr size b n p q out h st x).steady.inside ∙ h.new.inside;
      whole = ap (λ (t : Token). t.whole) x.prepared;
      vs_held = ap (is_out whats.Vs) same_out ∙ vs_held;
      back_held = ap (is_out whats.Back) (same_out ∙ h.out_is) ∙ back_out;
      empty = λ s e. empty c.opening (g s) (now s d).state vs later (w s (prior s e)).1 (w s (prior s e)).0 addr (gone_now s e) (same_now s e) in_order inside back (wb s (prior s e)) sound first pages dropped becomes;
      back = back_then;
    }

    pub end_room : length d.prepared < 16
    end_room = let a = few_then c d call addr size b n p q out h st x in let f = h.few in omega (arith, a, f)

    module _ (f : Token) (more : Kept) (y : HasEndedSpan d f more first) where
      abbrev unspan : Act
      unspan = acts.Unspan first

      added : HasAdded c f (acts.Take addr size ∷ acts.Give b n ∷ acts.Drop addr ∷ unspan ∷ [])
      added = added_then c d f (acts.Take addr size ∷ acts.Give b n ∷ acts.Drop addr ∷ []) (unspan ∷ []) (ended_added c d call addr size b n p q out h st x) (subst (λ (t : Token). HasAdded d t (unspan ∷ [])) (sym y.prepared) (added_one d unspan refl))

      opening_then : f.opening ≡ d.opening
      opening_then = ap (λ (t : Token). t.opening) y.prepared

      before_then : (s : Setting) → IsSettingOf f.opening f.roll s → IsSettingOf d.opening d.roll s
      before_then s e = subst (λ (t : Token). IsSettingOf t.opening t.roll s) y.prepared e

      changed_then : HasChanged c f addr size b n
      changed_then =
          let few = few_then c d call addr size b n p q out h st x in
          let one = ap (λ (t : Token). length t.prepared) y.prepared in
          let all = length-append d.prepared (entry d.number unspan ∷ []) in
          record {
            last = unspan ∷ [];
            last_is = inr (first, refl);
            added = added;
            out_is = ap (λ (t : Token). t.out) y.prepared ∙ same_out;
            whole = ap (λ (t : Token). t.whole) y.prepared;
            free = ap (λ (t : Token). t.free) y.prepared ∙ ap (λ (t : Token). t.free) x.prepared;
            pending = ap (λ (t : Token). t.pending) y.prepared ∙ ap (λ (t : Token). t.pending) x.prepared;
            few = omega (arith, few, one, all);
          }

      pub ends_with_span : EndsVs c f addr size b n q later more
      ends_with_span = record {
        changed = changed_then;
        vs = record {
          tells = λ s e.
              let k = before_then s e in let j = prior s k in
              subst (λ (o : Opening). StandsForVs o (now s f).state (layer_of later)) (sym (opening_then ∙ same_opening))
              (subst (λ (z : State). StandsForVs c.opening z (layer_of later)) (sym (y.state s e))
              (rest_tells c.opening (g s) (now s d).state vs later (w s j).1 (w s j).0 addr (gone_now s k) (same_now s k) in_order inside back (wb s j) sound first pages dropped becomes));
          used = λ s e.
              let k = before_then s e in let j = prior s k in
              subst (λ (z : State). leaves_whole z whats.Vs ≡ true) (sym (y.state s e))
              (rest_whole c.opening (g s) (now s d).state vs later (w s j).1 (w s j).0 addr (gone_now s k) (same_now s k) in_order inside back (wb s j) sound first pages dropped becomes);
        };
        back = y.back;
        large = λ large v s e.
            let k = before_then s e in
            subst (λ (o : Opening). StandsForLarge o (now s f).state (larges.layer_of large)) (sym opening_then)
            (large_stands d.opening (now s d).state (now s f).state large (large_then large v s k) (ap (λ (z : State). z.large) (y.state s e)));
      }
