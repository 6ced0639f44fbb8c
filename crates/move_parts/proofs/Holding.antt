-- The new place is prepared and in hand: where the caller stands then.
use Rattle.std.proofs.Common.{◌≡◌, ℕ, ◌+◌, ◌/◌, ◌≤◌, Bool, true, false, List, [], ◌∷◌, ◌++◌, length, refl, sym, ap, ◌∙◌, subst, arith, eq-eqb}
use Rattle.std.specs.Prelude.{is_some}
use Rattle.std.specs.List.{list_all}
use Rattle.heap_model.specs.declared.Act.{Act}
use Rattle.heap_model.specs.declared.Call.TheVariants as calls
use Rattle.heap_model.specs.declared.Flags.{Flags}
use Rattle.heap_model.specs.declared.Layer.{Layer}
use Rattle.heap_model.specs.declared.Layer.TheVariants as layers
use Rattle.heap_model.specs.declared.Opening.{Opening}
use Rattle.heap_model.specs.declared.What.TheVariants as whats
use Rattle.heap_model.specs.CallState.{caller_view}
use Rattle.heap_model.specs.Geometry.{words_of}
use Rattle.heap_model.specs.Legal.{may_touch, suits, with_status}
use Rattle.heap_model.specs.Limits.{AreValid}
use Rattle.heap_model.specs.State.{Setting, GateAndLocks, Place, Live, InHand, is_layer, address, is_hand_at, holds, hands, in_hand, places_of, change_found}
use Rattle.claim_rule.specs.Entries.{IsLegalWith, IsSettingOf, are_prepared}
use Rattle.claim_rule.specs.Places.{data_count}
use Rattle.call_laws.specs.Within.{by_all}
use Rattle.heap_gate.specs.Calls.{with_prepared}
use Rattle.heap_gate.specs.Token.{Token, Always, now, IsStanding}
use Rattle.call_parts.specs.Entries.{with_all, holding, HasNew, HasAdded}
use Rattle.call_parts.proofs.Handing.{new_place}
use Rattle.call_parts.proofs.Serving.{none_begins}
use Rattle.call_parts.proofs.Tokens.{added_all, length_all, setting_before_all}
use Rattle.move_parts.specs.Moves.{IsHeld, IsMoving, IsMovingTaken, IsMovingAny, IsHalfway, IsHalfwayTaken, IsHalfwayAny, HasNewBeside}
use Rattle.move_parts.specs.Places.{HasMade, is_making}
use Rattle.move_parts.proofs.Known.{home, home_is, keeps_behind}
use Rattle.move_parts.proofs.Put.{IsPut, put_front, put_hand, held_put, two_apart, taken_apart}

-- a place was made by entries that only reserve a segment, and make a span and a place
pub record IsMadePlainly (old new : Token) (p : Place) (n : ℕ) (q : Place) : Type 0 where
  pub made : HasMade old new p n q
  pub plain : list_all is_making (made.reserves ++ made.begins ∷ made.more) ≡ true

-- the one in front is given
pub given_front : (c : ℕ) (l : Layer) (start granules n : ℕ) (ps : List Place) → change_found (is_hand_at c (address (new_place c l start granules))) (with_status (Live n)) (new_place c l start granules ∷ ps) ≡ with_status (Live n) (new_place c l start granules) ∷ ps
given_front c l start granules n ps =
    let a = eq-eqb (address (new_place c l start granules)) (address (new_place c l start granules)) refl in
    let b = eq-eqb c c refl in
    rw (a, b) refl

out_all : (c : Token) (rest : List Act) → (with_all c rest).out ≡ c.out
out_all c [] = refl
out_all c (act ∷ rest) = out_all (with_prepared c act) rest

module _ (c : Token) (list : List Act) (nb : none_begins list ≡ true) (l : Layer) (start granules : ℕ) (put : Always c (λ s. IsPut (new_place c.number l start granules) (now s c).state (now s (with_all c list)).state)) where
  abbrev q : Place
  q = new_place c.number l start granules

  abbrev t : Token
  t = with_all c list

  added : HasAdded c t list
  added = added_all c list nb

  number : t.number ≡ c.number
  number = added.goes.number

  before : (s : Setting) → IsSettingOf t.opening t.roll s → IsSettingOf c.opening c.roll s
  before s x = setting_before_all s c list x

  touch_then : (s : Setting) → IsSettingOf c.opening c.roll s → (j : Layer) → may_touch (caller_view (now s c) c.number) j ≡ true → may_touch (caller_view (now s t) c.number) j ≡ true
  touch_then s x layers.Lfh h = refl
  touch_then s x layers.Vs h = ap (λ (f : GateAndLocks). holds f c.number whats.Vs) (put s x).gate ∙ h
  touch_then s x layers.Back h = ap (λ (f : GateAndLocks). holds f c.number whats.Back) (put s x).gate ∙ h
  touch_then s x layers.Large h = ap (λ (f : GateAndLocks). holds f c.number whats.Large) (put s x).gate ∙ h

  -- the layer of the new place is open to the caller still
  open_then : Always c (λ s. may_touch (caller_view (now s c) c.number) l ≡ true) → Always t (λ s. may_touch (caller_view (now s t) t.number) l ≡ true)
  open_then touch s x = let y = before s x in subst (λ (k : ℕ). may_touch (caller_view (now s t) k) l ≡ true) (sym number) (touch_then s y l (touch s y))

  few_then : c.prepared ≡ [] → length list ≤ 3 → length t.prepared ≤ 3
  few_then e few = let a = length_all c list in let none = ap length e in omega (arith, a, none, few)

  words_then : (a n : ℕ) → a / 8 + words_of n ≤ data_count c.opening.limits → a / 8 + words_of n ≤ data_count t.opening.limits
  words_then a n h = subst (λ (o : Opening). a / 8 + words_of n ≤ data_count o.limits) (sym added.goes.opening) h

---- Beside a live block

module _ (c : Token) (addr size n : ℕ) (flags : Flags) (p : Place) (out : List ℕ) (v : IsMoving c addr size n flags p out) (st : IsStanding c) (valid : AreValid c.opening.limits) (legal : IsLegalWith c.opening c.roll c.seen)
    (list : List Act) (nb : none_begins list ≡ true) (l : Layer) (start granules : ℕ) (whole : (with_all c list).whole ≡ true) (few : length list ≤ 3) (pends : (with_all c list).pending ≡ false)
    (may : Always c (λ s. are_prepared s (now s c) c.number (by_all c.number list) ≡ true)) (put : Always c (λ s. IsPut (new_place c.number l start granules) (now s c).state (now s (with_all c list)).state))
    (front : is_layer l layers.Lfh ≡ false) (suit : suits n (new_place c.number l start granules) ≡ true) (touch : Always c (λ s. may_touch (caller_view (now s c) c.number) l ≡ true))
    (to : address (new_place c.number l start granules) / 8 + words_of n ≤ data_count c.opening.limits) where
  abbrev held_q : Place
  held_q = new_place c.number l start granules

  abbrev held_t : Token
  held_t = with_all c list

  none_now : Always c (λ s. hands (now s c).state c.number ≡ [])
  none_now s x = (st s x).hands v.serving.free

  apart : addr ≡ address held_q → ⊥
  apart =
      let s = home c v.serving.prepared valid v.slots legal in let x = home_is c v.serving.prepared valid v.slots legal in
      two_apart s (now s c) (now s held_t) (keeps_behind c v.serving.prepared valid v.slots legal list (may s x)) c.number l start granules (put s x) addr size p (v.old s x)

  new : HasNew held_t held_q (address held_q) n
  new = record {
    at = refl;
    suits_it = suit;
    behind = front;
    status = ap InHand (sym (number c list nb l start granules put));
    inside = (added c list nb l start granules put).steady.inside ∙ v.serving.inside;
    whole = whole;
    begun = ap is_some ((added c list nb l start granules put).steady.call ∙ v.serving.call_is);
    hand = λ s x layer.
        let y = before c list nb l start granules put s x in
        subst (λ (k : ℕ). in_hand k (places_of (now s held_t).state layer) ≡ holding held_q layer) (sym (number c list nb l start granules put))
        (put_hand c.number l start granules (now s c).state (now s held_t).state (put s y) (none_now s y) layer);
    open_to = open_then c list nb l start granules put touch;
  }

  pub half : IsHalfway held_t (calls.Realloc addr n flags) addr size p (address held_q) n held_q out
  half =
      let a = added c list nb l start granules put in
      record {
        call_is = a.steady.call ∙ v.serving.call_is;
        fresh = a.steady.fresh ∙ v.serving.fresh;
        out_is = out_all c list ∙ v.serving.out_is;
        pending = pends;
        drawn = (a.steady.searched ∙ v.serving.searched) ∙ sym (a.steady.drawn ∙ v.serving.drawn);
        owes = a.steady.owes ∙ v.serving.owes;
        few = few_then c list nb l start granules put v.serving.prepared few;
        new = new;
        old = λ s x.
            let y = before c list nb l start granules put s x in
            subst (λ (k : ℕ). IsHeld (now s held_t) k addr p size) (sym (number c list nb l start granules put))
            (held_put c.number l start granules (now s c) (now s held_t) (put s y) (none_now s y) addr size p (v.old s y) apart);
        apart = apart;
        from = words_then c list nb l start granules put addr size v.from;
        to = words_then c list nb l start granules put (address held_q) n to;
      }

---- Beside one that was taken

module _ (c : Token) (addr size n : ℕ) (flags : Flags) (p : Place) (out : List ℕ) (v : IsMovingTaken c addr size n flags p out) (valid : AreValid c.opening.limits) (legal : IsLegalWith c.opening c.roll c.seen)
    (list : List Act) (nb : none_begins list ≡ true) (l : Layer) (start granules : ℕ) (whole : (with_all c list).whole ≡ true) (few : length list ≤ 3) (pends : (with_all c list).pending ≡ false)
    (may : Always c (λ s. are_prepared s (now s c) c.number (by_all c.number list) ≡ true)) (put : Always c (λ s. IsPut (new_place c.number l start granules) (now s c).state (now s (with_all c list)).state))
    (front : is_layer l layers.Lfh ≡ false) (suit : suits n (new_place c.number l start granules) ≡ true) (touch : Always c (λ s. may_touch (caller_view (now s c) c.number) l ≡ true))
    (to : address (new_place c.number l start granules) / 8 + words_of n ≤ data_count c.opening.limits) where
  abbrev two_q : Place
  two_q = new_place c.number l start granules

  abbrev two_t : Token
  two_t = with_all c list

  abbrev home_now : Setting
  home_now = home c v.prepared valid v.slots legal

  home_known : IsSettingOf c.opening c.roll home_now
  home_known = home_is c v.prepared valid v.slots legal

  apart_taken : addr ≡ address two_q → ⊥
  apart_taken = let s = home_now in taken_apart s (now s c) (now s two_t) (keeps_behind c v.prepared valid v.slots legal list (may s home_known)) c.number l start granules (put s home_known) front addr p (v.old s home_known)

  new_beside : HasNewBeside two_t p two_q (address two_q) n
  new_beside = record {
    at = refl;
    suits_it = suit;
    behind = front;
    status = ap InHand (sym (number c list nb l start granules put));
    inside = (added c list nb l start granules put).steady.inside ∙ v.inside;
    whole = whole;
    begun = ap is_some ((added c list nb l start granules put).steady.call ∙ v.call_is);
    hand = λ s x layer.
        let y = before c list nb l start granules put s x in
        subst (λ (k : ℕ). in_hand k (places_of (now s two_t).state layer) ≡ holding two_q layer ++ holding p layer) (sym (number c list nb l start granules put))
        (put_front c.number l start granules (now s c).state (now s two_t).state (put s y) layer ∙ ap (λ (ps : List Place). holding two_q layer ++ ps) ((v.old s y).hand layer));
    open_to = open_then c list nb l start granules put touch;
  }

  half_taken : IsHalfwayTaken two_t (calls.Realloc addr n flags) addr size p (address two_q) n two_q out
  half_taken =
      let a = added c list nb l start granules put in
      record {
        call_is = a.steady.call ∙ v.call_is;
        fresh = a.steady.fresh ∙ v.fresh;
        out_is = out_all c list ∙ v.out_is;
        pending = pends;
        drawn = a.steady.searched ∙ (v.drawn ∙ sym a.steady.drawn);
        owes = a.steady.owes ∙ v.owes;
        few = few_then c list nb l start granules put v.prepared few;
        new = new_beside;
        old_at = (v.old home_now home_known).at;
        old_front = (v.old home_now home_known).front;
        old_status = (v.old home_now home_known).status ∙ ap InHand (sym (number c list nb l start granules put));
        apart = apart_taken;
        from = words_then c list nb l start granules put addr size v.from;
        to = words_then c list nb l start granules put (address two_q) n to;
      }

---- Beside either

pub half_any : (taken : Bool) (c : Token) (addr size n : ℕ) (flags : Flags) (p : Place) (out : List ℕ) → IsMovingAny taken c addr size n flags p out → IsStanding c → AreValid c.opening.limits → IsLegalWith c.opening c.roll c.seen
    → (list : List Act) → none_begins list ≡ true → (l : Layer) (start granules : ℕ) → (with_all c list).whole ≡ true → length list ≤ 3 → (with_all c list).pending ≡ false
    → Always c (λ s. are_prepared s (now s c) c.number (by_all c.number list) ≡ true) → Always c (λ s. IsPut (new_place c.number l start granules) (now s c).state (now s (with_all c list)).state)
    → is_layer l layers.Lfh ≡ false → suits n (new_place c.number l start granules) ≡ true → Always c (λ s. may_touch (caller_view (now s c) c.number) l ≡ true)
    → address (new_place c.number l start granules) / 8 + words_of n ≤ data_count c.opening.limits
    → IsHalfwayAny taken (with_all c list) (calls.Realloc addr n flags) addr size p (address (new_place c.number l start granules)) n (new_place c.number l start granules) out
half_any true c addr size n flags p out v st valid legal list nb l start granules whole few pends may put front suit touch to =
    half_taken c addr size n flags p out v valid legal list nb l start granules whole few pends may put front suit touch to
half_any false c addr size n flags p out v st valid legal list nb l start granules whole few pends may put front suit touch to =
    half c addr size n flags p out v st valid legal list nb l start granules whole few pends may put front suit touch to
