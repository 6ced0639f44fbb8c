-- The new place of VS is prepared and in hand, for a block that moves on behind the front end: where the caller stands then.
use Rattle.std.proofs.Common.{◌≡◌, ℕ, ◌+◌, ◌/◌, ◌≤◌, Bool, true, false, List, [], ◌∷◌, length, refl, sym, ap, ◌∙◌, subst, arith}
use Rattle.std.specs.Prelude.{is_some}
use Rattle.heap_model.specs.declared.Act.{Act}
use Rattle.heap_model.specs.declared.Call.TheVariants as calls
use Rattle.heap_model.specs.declared.Flags.{Flags}
use Rattle.heap_model.specs.declared.Layer.TheVariants as layers
use Rattle.heap_model.specs.declared.Opening.{Opening}
use Rattle.heap_model.specs.declared.What.TheVariants as whats
use Rattle.heap_model.specs.CallState.{caller_view}
use Rattle.heap_model.specs.Geometry.{words_of}
use Rattle.heap_model.specs.Legal.{may_touch, suits}
use Rattle.heap_model.specs.Limits.{AreValid}
use Rattle.heap_model.specs.State.{Setting, GateAndLocks, Place, InHand, address, holds, hands, in_hand, places_of}
use Rattle.claim_rule.specs.Entries.{IsLegalWith, IsSettingOf, are_prepared}
use Rattle.claim_rule.specs.Places.{data_count}
use Rattle.call_laws.specs.Within.{by_all}
use Rattle.heap_gate.specs.Calls.{with_prepared}
use Rattle.heap_gate.specs.Token.{Token, Always, now, IsStanding}
use Rattle.call_parts.specs.Entries.{with_all, holding, HasNew, HasAdded}
use Rattle.call_parts.proofs.Handing.{new_place}
use Rattle.call_parts.proofs.Serving.{none_begins}
use Rattle.call_parts.proofs.Tokens.{added_all, length_all, setting_before_all}
use Rattle.move_parts.specs.Moves.{IsHeld, IsHalfway, IsHalfwayAny}
use Rattle.move_parts.proofs.Holding.{half_any}
use Rattle.move_parts.proofs.Known.{home, home_is, keeps_behind}
use Rattle.move_parts.proofs.Put.{IsPut, put_hand, held_put, two_apart}
use Rattle.move_to_front.specs.Halfway.{IsMovingOn, IsMovingOnAny}

out_all : (c : Token) (rest : List Act) → (with_all c rest).out ≡ c.out
out_all c [] = refl
out_all c (act ∷ rest) = out_all (with_prepared c act) rest

module _ (c : Token) (addr size n : ℕ) (flags : Flags) (p : Place) (out : List ℕ) (v : IsMovingOn c addr size n flags p out) (st : IsStanding c) (valid : AreValid c.opening.limits) (legal : IsLegalWith c.opening c.roll c.seen)
    (list : List Act) (nb : none_begins list ≡ true) (start granules : ℕ) (whole : (with_all c list).whole ≡ true) (few : length list ≤ 3) (pends : (with_all c list).pending ≡ false)
    (may : Always c (λ s. are_prepared s (now s c) c.number (by_all c.number list) ≡ true)) (put : Always c (λ s. IsPut (new_place c.number layers.Vs start granules) (now s c).state (now s (with_all c list)).state))
    (suit : suits n (new_place c.number layers.Vs start granules) ≡ true) (touch : Always c (λ s. may_touch (caller_view (now s c) c.number) layers.Vs ≡ true))
    (to : address (new_place c.number layers.Vs start granules) / 8 + words_of n ≤ data_count c.opening.limits) where
  abbrev q : Place
  q = new_place c.number layers.Vs start granules

  abbrev t : Token
  t = with_all c list

  added : HasAdded c t list
  added = added_all c list nb

  number : t.number ≡ c.number
  number = added.goes.number

  before : (s : Setting) → IsSettingOf t.opening t.roll s → IsSettingOf c.opening c.roll s
  before s x = setting_before_all s c list x

  none_now : Always c (λ s. hands (now s c).state c.number ≡ [])
  none_now s x = (st s x).hands v.free

  apart : addr ≡ address q → ⊥
  apart =
      let s = home c v.prepared valid v.slots legal in let x = home_is c v.prepared valid v.slots legal in
      two_apart s (now s c) (now s t) (keeps_behind c v.prepared valid v.slots legal list (may s x)) c.number layers.Vs start granules (put s x) addr size p (v.old s x)

  new : HasNew t q (address q) n
  new = record {
    at = refl;
    suits_it = suit;
    behind = refl;
    status = ap InHand (sym number);
    inside = added.steady.inside ∙ v.inside;
    whole = whole;
    begun = ap is_some (added.steady.call ∙ v.call_is);
    hand = λ s x layer.
        let y = before s x in
        subst (λ (k : ℕ). in_hand k (places_of (now s t).state layer) ≡ holding q layer) (sym number)
        (put_hand c.number layers.Vs start granules (now s c).state (now s t).state (put s y) (none_now s y) layer);
    open_to = λ s x.
        let y = before s x in
        subst (λ (k : ℕ). may_touch (caller_view (now s t) k) layers.Vs ≡ true) (sym number) (ap (λ (f : GateAndLocks). holds f c.number whats.Vs) (put s y).gate ∙ touch s y);
  }

  late_half : IsHalfway t (calls.Realloc addr n flags) addr size p (address q) n q out
  late_half = record {
    call_is = added.steady.call ∙ v.call_is;
    fresh = added.steady.fresh ∙ v.fresh;
    out_is = out_all c list ∙ v.out_is;
    pending = pends;
    drawn = added.steady.searched ∙ (v.drawn ∙ sym added.steady.drawn);
    owes = added.steady.owes ∙ v.owes;
    few = let a = length_all c list in let none = ap length v.prepared in omega (arith, a, none, few);
    new = new;
    old = λ s x.
        let y = before s x in
        subst (λ (k : ℕ). IsHeld (now s t) k addr p size) (sym number) (held_put c.number layers.Vs start granules (now s c) (now s t) (put s y) (none_now s y) addr size p (v.old s y) apart);
    apart = apart;
    from = subst (λ (o : Opening). addr / 8 + words_of size ≤ data_count o.limits) (sym added.goes.opening) v.from;
    to = subst (λ (o : Opening). address q / 8 + words_of n ≤ data_count o.limits) (sym added.goes.opening) to;
  }

-- .. so it is beside an old block that was taken
pub late_any : (taken : Bool) (c : Token) (addr size n : ℕ) (flags : Flags) (p : Place) (out : List ℕ) → IsMovingOnAny taken c addr size n flags p out → IsStanding c → AreValid c.opening.limits → IsLegalWith c.opening c.roll c.seen
    → (list : List Act) → none_begins list ≡ true → (start granules : ℕ) → (with_all c list).whole ≡ true → length list ≤ 3 → (with_all c list).pending ≡ false
    → Always c (λ s. are_prepared s (now s c) c.number (by_all c.number list) ≡ true) → Always c (λ s. IsPut (new_place c.number layers.Vs start granules) (now s c).state (now s (with_all c list)).state)
    → suits n (new_place c.number layers.Vs start granules) ≡ true → Always c (λ s. may_touch (caller_view (now s c) c.number) layers.Vs ≡ true)
    → address (new_place c.number layers.Vs start granules) / 8 + words_of n ≤ data_count c.opening.limits
    → IsHalfwayAny taken (with_all c list) (calls.Realloc addr n flags) addr size p (address (new_place c.number layers.Vs start granules)) n (new_place c.number layers.Vs start granules) out
late_any true c addr size n flags p out v st valid legal list nb start granules whole few pends may put suit touch to =
    half_any true c addr size n flags p out v st valid legal list nb layers.Vs start granules whole few pends may put refl suit touch to
late_any false c addr size n flags p out v st valid legal list nb start granules whole few pends may put suit touch to =
    late_half c addr size n flags p out v st valid legal list nb start granules whole few pends may put suit touch to
