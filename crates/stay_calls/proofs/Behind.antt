-- What becomes of the block, behind a look-up.
use Rattle.std.proofs.Common.{◌≡◌, ◌⊎◌, ℕ, ◌+◌, Bool, true, false, List, [], ◌∷◌, ◌++◌, refl, sym, ap, ◌∙◌, subst, append_assoc, inl, inr}
use Rattle.std.specs.Prelude.{Result, Ok, Err}
use Rattle.std.specs.List.{list_any}
use Rattle.std.proofs.lemmas.Bool.{cases_Bool, true≢false, false≢true}
use Rattle.heap_model.specs.declared.Act.{Act}
use Rattle.heap_model.specs.declared.Act.TheVariants as acts
use Rattle.heap_model.specs.declared.Busy.{Busy}
use Rattle.heap_model.specs.declared.Call.{Call}
use Rattle.heap_model.specs.declared.Call.TheVariants as calls
use Rattle.heap_model.specs.declared.Entry.{Entry}
use Rattle.heap_model.specs.declared.Flags.{Flags}
use Rattle.heap_model.specs.declared.Opening.{Opening}
use Rattle.heap_model.specs.declared.ReNo.{ReNo}
use Rattle.heap_model.specs.declared.ReNo.TheVariants as re_nos
use Rattle.heap_model.specs.State.{Setting, State}
use Rattle.heap_model.specs.CallState.{Configuration}
use Rattle.heap_model.specs.History.{configuration_of, first_configuration}
use Rattle.heap_model.specs.Moments.{Moment, moments, acts_of, Before}
use Rattle.heap_model.specs.Shape.{shape_of, is_left_out, shown, is_resize, is_take, is_sized, IsResized, IsGivenAgain, HasNoRoom}
use Rattle.heap_model.proofs.Moments.{moments-append}
use Rattle.claim_rule.proofs.Lists.{after-append}
use Rattle.heap_gate.specs.Token.{Token}
use Rattle.call_parts.specs.Calls.{Makes}
use Rattle.call_parts.specs.Entries.{HasAdded}
use Rattle.call_parts.proofs.Joining.{goes_then}
use Rattle.call_parts.proofs.Serving.{none_begins-append, shape-append}
use Rattle.call_parts.proofs.Tokens.{added_then}
use Rattle.address_calls.specs.Answers.{MayGuard, MeetsOn}
use Rattle.address_calls.specs.declared.look.Found.{Found}
use Rattle.address_calls.specs.declared.look.Found.TheVariants as founds
use Rattle.address_calls.specs.Finds.{Looks}
use Rattle.address_calls.proofs.Behind.{none_moves-append}
use Rattle.stay_calls.specs.declared.tried.Tried.{Tried}
use Rattle.stay_calls.specs.declared.tried.Tried.TheVariants as trieds
use Rattle.stay_calls.specs.Moments.{MakesSo}
use Rattle.stay_calls.specs.Stays.{IsToMove, IsTakenToMove, FindsFrontBlock, IsTried}
use Rattle.stay_calls.proofs.Histories.{joined, acts_added}

---- Moments behind others of which no shape shows anything

-- an act that shapes show is none of those that none shows
pub none_shown : (test : Act → Bool) → ((act : Act) → test act ≡ true → is_left_out act ≡ false) → (xs : List Act) → shape_of xs ≡ [] → list_any test xs ≡ false
none_shown test h [] e = refl
none_shown test h (x ∷ xs) e = elim (cases_Bool (is_left_out x)) [
  | inl l ↦
      let rest = none_shown test h xs (rw l at e) in
      elim (cases_Bool (test x)) [
        | inl t ↦ absurd (true≢false (sym l ∙ h x t))
        | inr t ↦ rw t rest
      ]
  | inr l ↦ let bad : x ∷ shape_of xs ≡ [] = rw l at e in absurd (let no : ⊥ = cc in no)
]

resize_shown : (act : Act) → is_resize act ≡ true → is_left_out act ≡ false
resize_shown (acts.Resize a granules size) h = refl
resize_shown _ h = absurd (false≢true h)

pub take_shown : (act : Act) → is_take act ≡ true → is_left_out act ≡ false
take_shown (acts.Take a size) h = refl
take_shown _ h = absurd (false≢true h)

sized_shown : (act : Act) → is_sized act ≡ true → is_left_out act ≡ false
sized_shown (acts.Sized a size) h = refl
sized_shown _ h = absurd (false≢true h)

pub before_later : (test : Act → Bool) (P : State → Type 0) (xs ys : List Moment) → list_any test (acts_of xs) ≡ false → Before test P ys → Before test P (xs ++ ys)
before_later test P [] ys none h = h
before_later test P (x ∷ xs) ys none h = elim (cases_Bool (test x.act)) [
  | inl e ↦ let bad : true ≡ false = rw e at none in absurd (true≢false bad)
  | inr e ↦ rw e (before_later test P xs ys (rw e at none) h)
]

pub acts_joined : (xs ys : List Moment) → acts_of (xs ++ ys) ≡ acts_of xs ++ acts_of ys
acts_joined [] ys = refl
acts_joined (x ∷ xs) ys = ap (λ (l : List Act). x.act ∷ l) (acts_joined xs ys)

pub shown_later : (xs ys : List Moment) → shape_of (acts_of xs) ≡ [] → shown (xs ++ ys) ≡ shown ys
shown_later xs ys e = ap shape_of (acts_joined xs ys) ∙ (shape-append (acts_of xs) (acts_of ys) ∙ (λ i. e i ++ shape_of (acts_of ys)))

module _ (s : Setting) (c a n : ℕ) (xs ys : List Moment) (e : shape_of (acts_of xs) ≡ []) where
  resized_later : {zero_it : Bool} → IsResized s c a n zero_it ys → IsResized s c a n zero_it (xs ++ ys)
  resized_later x = record {
    old = x.old;
    size = x.size;
    granules = x.granules;
    live = x.live;
    stays = before_later is_resize _ xs ys (none_shown is_resize resize_shown (acts_of xs) e) x.stays;
    acts_are = shown_later xs ys e ∙ x.acts_are;
  }

  given_later : {zero_it : Bool} → IsGivenAgain s c a n zero_it ys → IsGivenAgain s c a n zero_it (xs ++ ys)
  given_later x = record {
    old = x.old;
    size = x.size;
    front = x.front;
    stays = before_later is_take _ xs ys (none_shown is_take take_shown (acts_of xs) e) x.stays;
    acts_are = shown_later xs ys e ∙ x.acts_are;
  }

  no_room_later : HasNoRoom s c a n ys → HasNoRoom s c a n (xs ++ ys)
  no_room_later x = record {
    old = x.old;
    size = x.size;
    leaves = before_later is_sized _ xs ys (none_shown is_sized sized_shown (acts_of xs) e) x.leaves;
    acts_are = shown_later xs ys e ∙ x.acts_are;
  }

---- Parts of the call

pub looks_then : (a b c : Token) → Looks a b → Looks b c → Looks a c
looks_then a b c x y = record {
  rest = x.rest ++ y.rest;
  added = added_then a b c x.rest y.rest x.added y.added;
  no_begin = none_begins-append x.rest y.rest x.no_begin y.no_begin;
  no_move = none_moves-append x.rest y.rest x.no_move y.no_move;
  shape_is = shape-append x.rest y.rest ∙ (λ j. x.shape_is j ++ y.shape_is j);
}

module _ (a b d : Token) (x : Looks a b) (na : a.prepared ≡ []) (nb : b.prepared ≡ []) where
  pub makes_behind : (call : Call) (shape : List Act) → Makes b d call shape → Makes a d call shape
  makes_behind call shape m = record {
    added = x.rest ++ m.added;
    goes = goes_then a b d x.rest m.added x.added.goes m.goes;
    no_begin = none_begins-append x.rest m.added x.no_begin m.no_begin;
    shape_is = shape-append x.rest m.added ∙ (λ j. x.shape_is j ++ m.shape_is j);
    stands = m.stands;
  }

  -- the moments of the look-up, and those behind it
  module _ (s : Setting) (more : List Entry) where
    abbrev its : List Moment
    its = moments s a.number (configuration_of s a.seen) x.added.goes.seen.0

    abbrev later : List Moment
    later = moments s a.number (configuration_of s b.seen) more

    its_acts : acts_of its ≡ x.rest
    its_acts = acts_added a b x.rest x.added.goes na nb x.added.goes.seen s (configuration_of s a.seen)

    its_show : shape_of (acts_of its) ≡ []
    its_show = ap shape_of its_acts ∙ x.shape_is

    both : moments s a.number (configuration_of s a.seen) (x.added.goes.seen.0 ++ more) ≡ its ++ later
    both =
        moments-append s a.number (configuration_of s a.seen) x.added.goes.seen.0 more
        ∙ ap (λ (m : Configuration). its ++ moments s a.number m more) (sym (after-append s first_configuration a.seen x.added.goes.seen.0) ∙ ap (configuration_of s) x.added.goes.seen.1)

  -- what is told of the part is told of it behind the look-up
  pub told_behind : (Told : Setting → ℕ → List Moment → Type 0) → ((s : Setting) (c : ℕ) (xs ys : List Moment) → acts_of xs ≡ x.rest → Told s c ys → Told s c (xs ++ ys)) → (call : Call) → MakesSo b d call Told → MakesSo a d call Told
  told_behind Told f call m = record {
    shape = m.shape;
    makes = makes_behind call m.shape m.makes;
    told = λ s q.
        let made = makes_behind call m.shape m.makes in
        let more = m.makes.goes.seen.0 in
        let h : Told s a.number (later s more) = subst (λ (c : ℕ). Told s c (moments s c (configuration_of s b.seen) more)) x.added.goes.number (m.told s q) in
        let whole = subst (Told s a.number) (sym (both s more)) (f s a.number (its s more) (later s more) (its_acts s more) h) in
        subst (λ (l : List Entry). Told s a.number (moments s a.number (configuration_of s a.seen) l)) (sym (joined a.seen b.seen d.seen made.goes.seen x.added.goes.seen m.makes.goes.seen)) whole;
  }

  taken_behind : (addr size n : ℕ) (tag : Rattle.lfh_claims.specs.declared.tag.Tag.Tag) → IsTakenToMove b d addr tag size n → IsTakenToMove a d addr tag size n
  taken_behind addr size n tag y = record {
    looks = x.rest ++ y.looks;
    no_begin = none_begins-append x.rest y.looks x.no_begin y.no_begin;
    no_move = none_moves-append x.rest y.looks x.no_move y.no_move;
    shape_is = shape-append x.rest y.looks ∙ (λ j. x.shape_is j ++ y.shape_is j);
    added = all;
    leaves = λ s q.
        let more = y.added.goes.seen.0 in
        let P : State → Type 0 = FindsFrontBlock a addr n s in
        let h : Before is_take P (later s more) = subst (λ (c : ℕ). Before is_take (λ st. (p : Rattle.heap_model.specs.State.Place) × (Rattle.heap_model.specs.Shape.is_of_front p ≡ true) × Rattle.heap_model.specs.Shape.Finds s c addr n p false st) (moments s c (configuration_of s b.seen) more)) x.added.goes.number (y.leaves s q) in
        let whole : Before is_take P (moments s a.number (configuration_of s a.seen) (x.added.goes.seen.0 ++ more)) =
        subst (λ (l : List Moment). Before is_take P l) (sym (both s more)) (before_later is_take P (its s more) (later s more) (none_shown is_take take_shown (acts_of (its s more)) (its_show s more)) h) in
        subst (λ (l : List Entry). Before is_take P (moments s a.number (configuration_of s a.seen) l)) (sym (joined a.seen b.seen d.seen all.goes.seen x.added.goes.seen y.added.goes.seen)) whole;
    out = y.out;
    pending = y.pending;
    one = y.one;
    read = y.read;
    number = y.number;
    no_span = y.no_span;
    search = y.search;
  }
    where
      all : HasAdded a d ((x.rest ++ y.looks) ++ acts.Take addr size ∷ [])
      all = subst (HasAdded a d) (sym (append_assoc x.rest y.looks (acts.Take addr size ∷ []))) (added_then a b d x.rest (y.looks ++ acts.Take addr size ∷ []) x.added y.added)

  meets_behind : (addr : ℕ) (w : Busy) → MeetsOn b d addr w → MeetsOn a d addr w
  meets_behind addr w m = record {
    guards = subst (λ (o : Opening). MayGuard o.limits addr w.what) x.added.goes.opening m.guards;
    met = λ call e.
        let k = m.met call (x.added.steady.call ∙ e) in
        record {
          made = makes_behind call (acts.Blocked w.what w.word ∷ []) k.made;
          what_is = k.what_is;
          another = (k.another.0, subst (λ (n : ℕ). w.word ≡ n + 1 → ⊥) x.added.goes.number k.another.1);
        };
  }

  move_behind : (addr size n : ℕ) (found : Found) → IsToMove b d addr size n found → IsToMove a d addr size n found
  move_behind addr size n (founds.Front tag) y = taken_behind addr size n tag y
  move_behind addr size n (founds.Vs vs) y = (looks_then a b d x y.0, y.1, y.2)
  move_behind addr size n (founds.Back vs back) y = (looks_then a b d x y.0, y.1, y.2)
  move_behind addr size n (founds.Large large) y = (looks_then a b d x y.0, y.1, y.2)
  move_behind addr size n founds.Nowhere y = y

  pub tried_behind : (addr n : ℕ) (flags : Flags) (r : Result Tried ReNo) → IsTried b d addr n flags r → IsTried a d addr n flags r
  tried_behind addr n flags (Ok trieds.Stays) y =
      told_behind (λ s c xs. IsResized s c addr n flags.zero xs ⊎ IsGivenAgain s c addr n flags.zero xs)
      (λ s c xs ys e h. elim h [ inl k ↦ inl (resized_later s c addr n xs ys (ap shape_of e ∙ x.shape_is) k) | inr k ↦ inr (given_later s c addr n xs ys (ap shape_of e ∙ x.shape_is) k) ]) (calls.Realloc addr n flags) y
  tried_behind addr n flags (Ok (trieds.Moves found size)) y = (y.0, move_behind addr size n found y.1)
  tried_behind addr n flags (Err re_nos.NotLive) y = makes_behind (calls.Realloc addr n flags) (acts.NotLive addr ∷ []) y
  tried_behind addr n flags (Err re_nos.NoRoomInPlace) y = (y.0, told_behind (λ s c xs. HasNoRoom s c addr n xs) (λ s c xs ys e h. no_room_later s c addr n xs ys (ap shape_of e ∙ x.shape_is) h) (calls.Realloc addr n flags) y.1)
  tried_behind addr n flags (Err (re_nos.Busy w)) y = meets_behind addr w y
  tried_behind addr n flags (Err re_nos.NoFit) y = y
