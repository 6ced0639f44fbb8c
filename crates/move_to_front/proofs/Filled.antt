-- While words are moved, both blocks are as they were, and so is what the caller's locks guard.
use Rattle.std.proofs.Common.{◌≡◌, ℕ, ◌+◌, ◌*◌, ◌/◌, ◌<◌, ◌≤◌, Bool, true, List, [], ◌∷◌, length, refl, sym, ap, ◌∙◌, subst, arith}
use Rattle.std.specs.Prelude.{min}
use Rattle.heap_model.specs.declared.Act.{Act}
use Rattle.heap_model.specs.declared.Act.TheVariants as acts
use Rattle.heap_model.specs.declared.Call.{Call}
use Rattle.heap_model.specs.declared.Layer.TheVariants as layers
use Rattle.heap_model.specs.declared.Opening.{Opening}
use Rattle.heap_model.specs.declared.What.TheVariants as whats
use Rattle.heap_model.specs.Geometry.{words_of}
use Rattle.heap_model.specs.Shape.{moving}
use Rattle.heap_model.specs.State.{Setting, Place, holds}
use Rattle.claim_rule.specs.Entries.{IsSettingOf}
use Rattle.claim_rule.specs.Places.{data_count}
use Rattle.backend_fit.specs.Kept.{Kept}
use Rattle.large_blocks.specs.Table.{LargeTable}
use Rattle.vs_layer.specs.Kept.{VsKept}
use Rattle.heap_gate.specs.Token.{Token, now, IsStanding, is_out}
use Rattle.call_parts.proofs.Joining.{setting_before}
use Rattle.call_parts.proofs.Tokens.{added_then}
use Rattle.move_parts.specs.Moves.{IsHeld, HasFilled, TellsVs, TellsBack, TellsLarge}
use Rattle.move_parts.proofs.Stays.{held_same}
use Rattle.move_to_front.specs.Halfway.{IsHalfwayOver, HoldsFrontPlace}
use Rattle.move_to_front.specs.Ends.{HasChangedOver, HasFilledAndChanged}
use Rattle.move_to_front.proofs.Tells.{vs_later, back_later, large_later}

nothing_left : {A : Type 0} (xs : List A) → length xs ≤ 0 → xs ≡ []
nothing_left [] h = refl
nothing_left (x ∷ xs) h = absurd (let no : ⊥ = omega (arith, h) in no)

module _ (c d : Token) (rest : List Act) (f : HasFilled c d rest) where
  before : (s : Setting) → IsSettingOf d.opening d.roll s → IsSettingOf c.opening c.roll s
  before s z = setting_before c d rest f.added.goes s z

  number : d.number ≡ c.number
  number = f.added.goes.number

  same_opening : d.opening ≡ c.opening
  same_opening = f.added.goes.opening

  pub half_over_filled : (call : Call) (addr size b n : ℕ) (p q : Place) (out : List ℕ) → IsHalfwayOver c call addr size p b n q out → IsHalfwayOver d call addr size p b n q out
  half_over_filled call addr size b n p q out h = record {
    call_is = f.added.steady.call ∙ h.call_is;
    fresh = f.added.steady.fresh ∙ h.fresh;
    inside = f.added.steady.inside ∙ h.inside;
    out_is = f.out_is ∙ h.out_is;
    whole = f.whole;
    pending = f.pending h.pending;
    prepared = nothing_left d.prepared (let k = f.few in let none = ap length h.prepared in omega (arith, k, none));
    drawn = f.added.steady.searched ∙ (h.drawn ∙ sym f.added.steady.drawn);
    owes = f.added.steady.owes ∙ h.owes;
    hand = λ s z.
        let x = h.hand s (before s z) in let y = f.same s z in
        subst (λ (k : ℕ). HoldsFrontPlace (now s d).state k q) (sym number)
        (record { lfh = y.hand layers.Lfh ∙ x.lfh; vs = y.hand layers.Vs ∙ x.vs; back = y.hand layers.Back ∙ x.back; large = y.hand layers.Large ∙ x.large });
    front = h.front;
    at = h.at;
    bucket = h.bucket;
    long = h.long;
    fits = h.fits;
    small = h.small;
    there = subst (λ (o : Opening). b < 1048576 * o.limits.segments) (sym same_opening) h.there;
    old = λ s z. subst (λ (k : ℕ). IsHeld (now s d) k addr p size) (sym number) (held_same c.number (now s c) (now s d) addr size p (f.same s z) (h.old s (before s z)));
    apart = h.apart;
    from = subst (λ (o : Opening). addr / 8 + words_of size ≤ data_count o.limits) (sym same_opening) h.from;
    to = subst (λ (o : Opening). b / 8 + words_of n ≤ data_count o.limits) (sym same_opening) h.to;
  }

  module _ (st : IsStanding c) where
    pub vs_filled : is_out whats.Vs c.out ≡ true → (vs : VsKept) → TellsVs c vs → TellsVs d vs
    vs_filled o vs w = vs_later c d same_opening before vs (λ s z.
        let held : holds (now s c).state.gate c.number whats.Vs ≡ true = (st s (before s z)).locks whats.Vs ∙ o in
        ((f.same s z).vs held, (f.same s z).spans held)) w

    pub back_filled : is_out whats.Back c.out ≡ true → (back : Kept) → TellsBack c back → TellsBack d back
    back_filled o back w = back_later c d same_opening before back (λ s z. (f.same s z).back ((st s (before s z)).locks whats.Back ∙ o)) w

    pub large_filled : is_out whats.Large c.out ≡ true → (large : LargeTable) → TellsLarge c large → TellsLarge d large
    large_filled o large w = large_later c d same_opening before large (λ s z. (f.same s z).large ((st s (before s z)).locks whats.Large ∙ o)) w

  pub filled_changed : (e : Token) (addr size b n : ℕ) (zero : Bool) (values : List ℕ) → length values ≡ words_of (min size n) → rest ≡ moving addr size b n zero values → HasChangedOver d e addr size b n → HasFilledAndChanged c e addr size b n zero
  filled_changed e addr size b n zero values count is x = record {
    values = values;
    count = count;
    last = x.last;
    last_is = x.last_is;
    added = added_then c d e (moving addr size b n zero values) (acts.Take addr size ∷ acts.Give b n ∷ acts.Drop addr ∷ x.last) (subst (λ (l : List Act). Rattle.call_parts.specs.Entries.HasAdded c d l) is f.added) x.added;
    out_is = x.out_is ∙ f.out_is;
    whole = x.whole;
    free = x.free;
    pending = x.pending;
    few = let k = x.few in omega (arith, k);
  }
