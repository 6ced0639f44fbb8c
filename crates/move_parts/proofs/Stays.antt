-- While words are moved, both blocks are as they were, and so is what the caller's locks guard.
use Rattle.std.proofs.Common.{◌≡◌, ℕ, ◌+◌, ◌/◌, ◌≤◌, Bool, true, false, List, ◌++◌, Some, refl, sym, ap, ◌∙◌, subst, arith}
use Rattle.std.specs.Prelude.{is_some}
use Rattle.std.specs.List.{find}
use Rattle.std.proofs.lemmas.Bool.{true≢false}
use Rattle.heap_model.specs.declared.Act.{Act}
use Rattle.heap_model.specs.declared.Call.{Call}
use Rattle.heap_model.specs.declared.Layer.{Layer}
use Rattle.heap_model.specs.declared.Layer.TheVariants as layers
use Rattle.heap_model.specs.declared.Opening.{Opening}
use Rattle.heap_model.specs.declared.What.TheVariants as whats
use Rattle.heap_model.specs.CallState.{Configuration, caller_view}
use Rattle.heap_model.specs.Geometry.{words_of}
use Rattle.heap_model.specs.Layers.{StandsForVs, StandsForBack, StandsForLarge}
use Rattle.heap_model.specs.Legal.{may_touch, with_status, on}
use Rattle.heap_model.specs.Ranges.{vs_spans}
use Rattle.heap_model.specs.State.{Setting, State, BackPart, VsPart, Place, Live, InHand, is_layer, address, has_address, is_hand_at, in_hand, hands, holds, places_of, guarded, exclusive_places, change_found}
use Rattle.claim_rule.specs.Entries.{IsSettingOf}
use Rattle.claim_rule.specs.Places.{data_count}
use Rattle.backend_fit.specs.Kept.{Kept}
use Rattle.backend_fit.specs.Kept as backs
use Rattle.large_blocks.specs.Table.{LargeTable}
use Rattle.large_blocks.specs.Table as larges
use Rattle.vs_layer.specs.Kept.{VsKept}
use Rattle.vs_layer.specs.Standing as vss
use Rattle.heap_gate.specs.Token.{Token, now, IsStanding, is_out}
use Rattle.call_parts.specs.Entries.{holding}
use Rattle.call_parts.proofs.Joining.{setting_before}
use Rattle.move_parts.specs.Moves.{IsHeld, IsHalfway, IsHalfwayTaken, IsSameFor, HasFilled, with_given, WillTellVs, WillTellBack, WillTellLarge}
use Rattle.move_parts.proofs.Ended.{vs_stands, vs_used, back_stands, large_stands}

guarded_same : (ps qs : List Place) (b d : Bool) → d ≡ b → (b ≡ true → qs ≡ ps) → guarded qs d ≡ guarded ps b
guarded_same ps qs b d e f = ap (guarded qs) e ∙ both b f
  where
    both : (b : Bool) → (b ≡ true → qs ≡ ps) → guarded qs b ≡ guarded ps b
    both true f = f refl
    both false f = refl

exclusive_same : (c : ℕ) (m k : Configuration) → IsSameFor c m k → exclusive_places k.state c ≡ exclusive_places m.state c
exclusive_same c m k x =
    let h : hands k.state c ≡ hands m.state c = (λ i. x.hand layers.Lfh i ++ x.hand layers.Vs i ++ x.hand layers.Back i ++ x.hand layers.Large i) in
    let v = guarded_same m.state.vs.places k.state.vs.places (holds m.state.gate c whats.Vs) (holds k.state.gate c whats.Vs) (x.locks whats.Vs) (λ t. ap (λ (y : VsPart). y.places) (x.vs t)) in
    let b = guarded_same m.state.back.places k.state.back.places (holds m.state.gate c whats.Back) (holds k.state.gate c whats.Back) (x.locks whats.Back) (λ t. ap (λ (y : BackPart). y.places) (x.back t)) in
    let l = guarded_same m.state.large k.state.large (holds m.state.gate c whats.Large) (holds k.state.gate c whats.Large) (x.locks whats.Large) x.large in
    (λ i. h i ++ v i ++ b i ++ l i)

touch_same : (c : ℕ) (m k : Configuration) (l : Layer) → IsSameFor c m k → may_touch (caller_view k c) l ≡ may_touch (caller_view m c) l
touch_same c m k layers.Lfh x = refl
touch_same c m k layers.Vs x = x.locks whats.Vs
touch_same c m k layers.Back x = x.locks whats.Back
touch_same c m k layers.Large x = x.locks whats.Large

-- the places of a layer behind the front end are those that its lock guards
list_same : (c : ℕ) (m k : Configuration) (l : Layer) → IsSameFor c m k → is_layer l layers.Lfh ≡ false → may_touch (caller_view m c) l ≡ true → places_of k.state l ≡ places_of m.state l
list_same c m k layers.Lfh x f t = absurd (true≢false f)
list_same c m k layers.Vs x f t = ap (λ (y : VsPart). y.places) (x.vs t)
list_same c m k layers.Back x f t = ap (λ (y : BackPart). y.places) (x.back t)
list_same c m k layers.Large x f t = x.large t

pub held_same : (c : ℕ) (m k : Configuration) (addr size : ℕ) (p : Place) → IsSameFor c m k → IsHeld m c addr p size → IsHeld k c addr p size
held_same c m k addr size p x old = record {
  first = ap (find (has_address addr)) (exclusive_same c m k x) ∙ old.first;
  there = ap (find (has_address addr)) (list_same c m k p.layer x old.behind old.touch) ∙ old.there;
  live = old.live;
  behind = old.behind;
  touch = touch_same c m k p.layer x ∙ old.touch;
}

module _ (c d : Token) (acts : List Act) (f : HasFilled c d acts) where
  before : (s : Setting) → IsSettingOf d.opening d.roll s → IsSettingOf c.opening c.roll s
  before s x = setting_before c d acts f.added.goes s x

  number : d.number ≡ c.number
  number = f.added.goes.number

  same_opening : d.opening ≡ c.opening
  same_opening = f.added.goes.opening

  pub half_filled : (call : Call) (addr size b n : ℕ) (p q : Place) (out : List ℕ) → IsHalfway c call addr size p b n q out → IsHalfway d call addr size p b n q out
  half_filled call addr size b n p q out h = record {
    call_is = f.added.steady.call ∙ h.call_is;
    fresh = f.added.steady.fresh ∙ h.fresh;
    out_is = f.out_is ∙ h.out_is;
    pending = f.pending h.pending;
    drawn = f.added.steady.searched ∙ (h.drawn ∙ sym f.added.steady.drawn);
    owes = f.added.steady.owes ∙ h.owes;
    few = let a = f.few in let b = h.few in omega (arith, a, b);
    new = record {
      at = h.new.at;
      suits_it = h.new.suits_it;
      behind = h.new.behind;
      status = h.new.status ∙ ap InHand (sym number);
      inside = f.added.steady.inside ∙ h.new.inside;
      whole = f.whole;
      begun = ap is_some f.added.steady.call ∙ h.new.begun;
      hand = λ s x layer. subst (λ (k : ℕ). in_hand k (places_of (now s d).state layer) ≡ holding q layer) (sym number) ((f.same s x).hand layer ∙ h.new.hand s (before s x) layer);
      open_to = λ s x. subst (λ (k : ℕ). may_touch (caller_view (now s d) k) q.layer ≡ true) (sym number) (touch_same c.number (now s c) (now s d) q.layer (f.same s x) ∙ h.new.open_to s (before s x));
    };
    old = λ s x. subst (λ (k : ℕ). IsHeld (now s d) k addr p size) (sym number) (held_same c.number (now s c) (now s d) addr size p (f.same s x) (h.old s (before s x)));
    apart = h.apart;
    from = subst (λ (o : Opening). addr / 8 + words_of size ≤ data_count o.limits) (sym same_opening) h.from;
    to = subst (λ (o : Opening). b / 8 + words_of n ≤ data_count o.limits) (sym same_opening) h.to;
  }

  -- .. so it is beside an old block that was taken
  pub taken_filled : (call : Call) (addr size b n : ℕ) (p q : Place) (out : List ℕ) → IsHalfwayTaken c call addr size p b n q out → IsHalfwayTaken d call addr size p b n q out
  taken_filled call addr size b n p q out h = record {
    call_is = f.added.steady.call ∙ h.call_is;
    fresh = f.added.steady.fresh ∙ h.fresh;
    out_is = f.out_is ∙ h.out_is;
    pending = f.pending h.pending;
    drawn = f.added.steady.searched ∙ (h.drawn ∙ sym f.added.steady.drawn);
    owes = f.added.steady.owes ∙ h.owes;
    few = let a = f.few in let b = h.few in omega (arith, a, b);
    new = record {
      at = h.new.at;
      suits_it = h.new.suits_it;
      behind = h.new.behind;
      status = h.new.status ∙ ap InHand (sym number);
      inside = f.added.steady.inside ∙ h.new.inside;
      whole = f.whole;
      begun = ap is_some f.added.steady.call ∙ h.new.begun;
      hand = λ s x layer. subst (λ (k : ℕ). in_hand k (places_of (now s d).state layer) ≡ holding q layer ++ holding p layer) (sym number) ((f.same s x).hand layer ∙ h.new.hand s (before s x) layer);
      open_to = λ s x. subst (λ (k : ℕ). may_touch (caller_view (now s d) k) q.layer ≡ true) (sym number) (touch_same c.number (now s c) (now s d) q.layer (f.same s x) ∙ h.new.open_to s (before s x));
    };
    old_at = h.old_at;
    old_front = h.old_front;
    old_status = h.old_status ∙ ap InHand (sym number);
    apart = h.apart;
    from = subst (λ (o : Opening). addr / 8 + words_of size ≤ data_count o.limits) (sym same_opening) h.from;
    to = subst (λ (o : Opening). b / 8 + words_of n ≤ data_count o.limits) (sym same_opening) h.to;
  }

  module _ (st : IsStanding c) (q : Place) (n : ℕ) where
    abbrev g : Setting → State
    g s = with_given (now s c).state c.number q n

    abbrev k : Setting → State
    k s = with_given (now s d).state d.number q n

    abbrev given : List Place → List Place
    given ps = change_found (is_hand_at c.number (address q)) (with_status (Live n)) ps

    same_k : (s : Setting) → k s ≡ with_given (now s d).state c.number q n
    same_k s = ap (λ (j : ℕ). with_given (now s d).state j q n) number

    pub will_vs : is_out whats.Vs c.out ≡ true → (vs : VsKept) → WillTellVs c q n vs → WillTellVs d q n vs
    will_vs out vs w s x =
        let y = before s x in
        let held = (st s y).locks whats.Vs ∙ out in
        let part : (k s).vs ≡ (g s).vs =
        ap (λ (z : State). z.vs) (same_k s) ∙ ap (λ (v : VsPart). record { places = on layers.Vs given v.places (Some q.layer); active = v.active; served = v.served }) ((f.same s x).vs held) in
        let spans : vs_spans (k s).back.area ≡ vs_spans (g s).back.area = ap (λ (z : State). vs_spans z.back.area) (same_k s) ∙ (f.same s x).spans held in (
          vs_used (g s) (k s) part spans (w s y).0,
          subst (λ (o : Opening). StandsForVs o (k s) (vss.layer_of vs)) (sym same_opening) (vs_stands c.opening (g s) (k s) vs (w s y).1 part spans),
        )

    pub will_back : is_out whats.Back c.out ≡ true → (back : Kept) → WillTellBack c q n back → WillTellBack d q n back
    will_back out back w s x =
        let y = before s x in
        let held = (st s y).locks whats.Back ∙ out in
        let part : (k s).back ≡ (g s).back =
        ap (λ (z : State). z.back) (same_k s) ∙ ap (λ (v : BackPart). record { area = v.area; places = on layers.Back given v.places (Some q.layer) }) ((f.same s x).back held) in
        subst (λ (o : Opening). StandsForBack o (k s) (backs.layer_of back)) (sym same_opening) (back_stands c.opening (g s) (k s) back (w s y) part)

    pub will_large : is_out whats.Large c.out ≡ true → (large : LargeTable) → WillTellLarge c q n large → WillTellLarge d q n large
    will_large out large w s x =
        let y = before s x in
        let held = (st s y).locks whats.Large ∙ out in
        let part : (k s).large ≡ (g s).large =
        ap (λ (z : State). z.large) (same_k s) ∙ ap (λ (v : List Place). on layers.Large given v (Some q.layer)) ((f.same s x).large held) in
        subst (λ (o : Opening). StandsForLarge o (k s) (larges.layer_of large)) (sym same_opening) (large_stands c.opening (g s) (k s) large (w s y) part)
