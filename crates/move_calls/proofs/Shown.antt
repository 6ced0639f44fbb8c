-- What a caller's acts show, one part behind another.
use Rattle.std.proofs.Common.{◌≡◌, ℕ, Bool, true, false, List, [], ◌∷◌, ◌++◌, refl, sym, ap, ◌∙◌, subst, inl, inr}
use Rattle.std.specs.List.{list_any}
use Rattle.std.proofs.lemmas.Bool.{cases_Bool, true≢false}
use Rattle.std.proofs.lemmas.List.{append-nil}
use mathlib.Core.List.{IsPrefix}
use Rattle.heap_model.specs.declared.Act.{Act}
use Rattle.heap_model.specs.declared.Call.{Call}
use Rattle.heap_model.specs.declared.Call.TheVariants as calls
use Rattle.heap_model.specs.declared.Flags.{Flags}
use Rattle.heap_model.specs.History.{configuration_of, configuration_after}
use Rattle.heap_model.specs.Moments.{Moment, Before, acts_of, moments}
use Rattle.heap_model.specs.Shape.{IsMoved, HasNoRange, is_left_out, shape_of, shown}
use Rattle.heap_model.specs.State.{Setting, State}
use Rattle.heap_model.proofs.Moments.{moments-append}
use Rattle.heap_gate.specs.Token.{Token}
use Rattle.call_parts.specs.Calls.{GoesOn, Makes}
use Rattle.call_parts.specs.Entries.{HasEnded}
use Rattle.call_parts.proofs.Joining.{goes_then, setting_before}
use Rattle.call_parts.proofs.Serving.{none_begins, none_begins-append, shape-append}
use Rattle.stay_calls.specs.Moments.{MakesSo, OfMoments}
use Rattle.stay_calls.proofs.Behind.{acts_joined}
use Rattle.stay_calls.proofs.FrontStays.{before_more}
use Rattle.stay_calls.proofs.Histories.{acts_added, joined}
use Rattle.move_calls.specs.Carries.{HasShown, HasCome}

---- Acts

-- whether an act passes that shapes show, the shape tells
pub any_shown : (test : Act → Bool) → ((act : Act) → test act ≡ true → is_left_out act ≡ false) → (xs : List Act) → list_any test xs ≡ list_any test (shape_of xs)
any_shown test h [] = refl
any_shown test h (x ∷ xs) =
    let rest = any_shown test h xs in
    elim (cases_Bool (is_left_out x)) [
      | inl l ↦ elim (cases_Bool (test x)) [
        | inl t ↦ absurd (true≢false (sym l ∙ h x t))
        | inr t ↦ rw (l, t) rest
      ]
      | inr l ↦ elim (cases_Bool (test x)) [
        | inl t ↦ rw (l, t) refl
        | inr t ↦ rw (l, t) rest
      ]
    ]

pub shown_then : (a b c : Token) (shape more acts : List Act) → HasShown a b shape → GoesOn b c acts → none_begins acts ≡ true → shape_of acts ≡ more → HasShown a c (shape ++ more)
shown_then a b c shape more acts x g none e = record {
  added = x.added ++ acts;
  goes = goes_then a b c x.added acts x.goes g;
  no_begin = none_begins-append x.added acts x.no_begin none;
  shape_is = shape-append x.added acts ∙ (λ i. x.shape_is i ++ e i);
}

-- .. of which no shape shows anything
pub shown_still : (a b c : Token) (shape acts : List Act) → HasShown a b shape → GoesOn b c acts → none_begins acts ≡ true → shape_of acts ≡ [] → HasShown a c shape
shown_still a b c shape acts x g none e = subst (HasShown a c) (append-nil shape) (shown_then a b c shape [] acts x g none e)

---- Moments

module _ (a b c : Token) (xs ys : List Act) (f : GoesOn a b xs) (g : GoesOn b c ys) (p : IsPrefix a.seen c.seen) (s : Setting) where
  abbrev pub first : List Moment
  first = moments s a.number (configuration_of s a.seen) f.seen.0

  abbrev pub later : List Moment
  later = moments s a.number (configuration_after s (configuration_of s a.seen) f.seen.0) g.seen.0

  pub two_parts : moments s a.number (configuration_of s a.seen) p.0 ≡ first ++ later
  two_parts = ap (moments s a.number (configuration_of s a.seen)) (joined a.seen b.seen c.seen p f.seen g.seen) ∙ moments-append s a.number (configuration_of s a.seen) f.seen.0 g.seen.0

  pub later_acts : b.prepared ≡ [] → c.prepared ≡ [] → acts_of later ≡ ys
  later_acts nb nc =
      subst (λ (k : ℕ). acts_of (moments s k (configuration_after s (configuration_of s a.seen) f.seen.0) g.seen.0) ≡ ys) f.number (acts_added b c ys g nb nc g.seen s (configuration_after s (configuration_of s a.seen) f.seen.0))

-- what was before an act is so behind more
pub before_still : (a b c : Token) (xs ys : List Act) (f : GoesOn a b xs) (g : GoesOn b c ys) (p : IsPrefix a.seen c.seen) (test : Act → Bool) (P : Setting → ℕ → State → Type 0)
    → OfMoments (λ s n ms. Before test (P s n) ms) a b f.seen.0 → OfMoments (λ s n ms. Before test (P s n) ms) a c p.0
before_still a b c xs ys f g p test P h = λ s q.
    subst (λ (ms : List Moment). Before test (P s a.number) ms) (sym (two_parts a b c xs ys f g p s))
    (before_more test (P s a.number) (first a b c xs ys f g p s) (later a b c xs ys f g p s) (h s (setting_before b c ys g s q)))

module _ (xs ys : List Moment) (hidden : shape_of (acts_of ys) ≡ []) where
  shown_first : shown (xs ++ ys) ≡ shown xs
  shown_first = ap shape_of (acts_joined xs ys) ∙ (shape-append (acts_of xs) (acts_of ys) ∙ ((λ i. shape_of (acts_of xs) ++ hidden i) ∙ append-nil (shape_of (acts_of xs))))

  module _ (s : Setting) (c a n : ℕ) where
    pub moved_first : {zero_it : Bool} {b : ℕ} → IsMoved s c a n zero_it b xs → IsMoved s c a n zero_it b (xs ++ ys)
    moved_first x = record {
      old = x.old;
      size = x.size;
      made = x.made;
      values = x.values;
      moves = x.moves;
      leaves = before_more _ _ xs ys x.leaves;
      address_is = x.address_is;
      count = x.count;
      moves_are = x.moves_are;
      acts_are = shown_first ∙ x.acts_are;
    }

    pub no_range_first : HasNoRange s c a n xs → HasNoRange s c a n (xs ++ ys)
    no_range_first x = record { old = x.old; size = x.size; there = x.there; leaves = before_more _ _ xs ys x.leaves; acts_are = shown_first ∙ x.acts_are }

---- The end

-- what a caller has come to, once it has given its locks back
module _ (a b c : Token) (addr n : ℕ) (flags : Flags) (out : List ℕ) (Told : Setting → ℕ → List Moment → Type 0) (x : HasCome a b addr n flags out Told) (gives : List Act) (none : none_begins gives ≡ true) (hidden : shape_of gives ≡ []) (e : HasEnded b c gives []) where
  abbrev call : Call
  call = calls.Realloc addr n flags

  all : HasShown a c x.shape
  all = shown_still a b c x.shape gives x.shown e.added.goes none hidden

  makes : Makes a c call x.shape
  makes =
      let st = e.added.steady in
      record {
        added = all.added;
        goes = all.goes;
        no_begin = all.no_begin;
        shape_is = all.shape_is;
        stands = record {
          call_is = st.call ∙ x.call_is;
          fresh = st.fresh ∙ x.fresh;
          inside = st.inside ∙ x.resting.inside;
          out = e.out_is;
          whole = e.whole;
          free = e.free;
          pending = e.pending;
          prepared = e.prepared;
          drawn = st.searched ∙ (x.drawn ∙ sym st.drawn);
          owes = st.owes ∙ x.resting.owes;
        };
      }

  pub come_ends : ((s : Setting) (m : ℕ) (xs ys : List Moment) → shape_of (acts_of ys) ≡ [] → Told s m xs → Told s m (xs ++ ys)) → MakesSo a c call Told
  come_ends more = record {
    shape = x.shape;
    makes = makes;
    told = λ s q.
        let f = x.shown.goes in let g = e.added.goes in let p = makes.goes.seen in
        subst (Told s a.number) (sym (two_parts a b c x.shown.added gives f g p s))
        (more s a.number (first a b c x.shown.added gives f g p s) (later a b c x.shown.added gives f g p s) (ap shape_of (later_acts a b c x.shown.added gives f g p s x.prepared e.prepared) ∙ hidden) (x.told s (setting_before b c gives g s q)));
  }
