-- What a caller has come to that has brought its block of the front end to a new place, or has said that none is there.
use Rattle.std.proofs.Common.{◌≡◌, ℕ, Bool, true, false, ◌&&◌, List, [], ◌∷◌, ◌++◌, length, Option, Some, None, refl, sym, ap, ◌∙◌, subst, eq-eqb}
use Rattle.std.specs.Prelude.{min, nat_le}
use Rattle.std.specs.List.{find, list_any}
use Rattle.std.proofs.lemmas.List.{append-nil}
use Rattle.heap_model.specs.declared.Act.{Act}
use Rattle.heap_model.specs.declared.Act.TheVariants as acts
use Rattle.heap_model.specs.declared.Flags.{Flags}
use Rattle.heap_model.specs.declared.Layer.TheVariants as layers
use Rattle.heap_model.specs.declared.What.TheVariants as whats
use Rattle.heap_model.specs.Buckets.{block_size}
use Rattle.heap_model.specs.CallState.{Configuration}
use Rattle.heap_model.specs.Geometry.{words_of}
use Rattle.heap_model.specs.History.{configuration_of}
use Rattle.heap_model.specs.Moments.{In, moments, state_before}
use Rattle.heap_model.specs.Shape.{Finds, HasNoRange, IsMoved, TakesAndPlaces, begins_move, is_no_fit, is_of_front, moving, shape_of}
use Rattle.heap_model.specs.State.{Setting, State, Place, address, guarded, has_address, all_places, exclusive_places, hands, holds, place_at}
use Rattle.heap_model.specs.Stay.{lets_stay}
use Rattle.claim_rule.specs.Entries.{IsSettingOf, IsLegalWith}
use Rattle.serial_laws.proofs.Found.{find_front}
use Rattle.search_laws.proofs.Blocks.{whole_granules}
use Rattle.heap_gate.specs.Token.{Token, now}
use Rattle.heap_gate.specs.Calls.{with_prepared}
use Rattle.lfh_claims.specs.declared.tag.Tag.{Tag}
use Rattle.call_parts.specs.Calls.{GoesOn}
use Rattle.call_parts.specs.Entries.{HasEnded}
use Rattle.call_parts.proofs.Joining.{setting_before}
use Rattle.call_parts.proofs.Serving.{none_begins}
use Rattle.call_parts.proofs.Tokens.{added_one, ended_then}
use Rattle.stay_calls.specs.Stays.{FindsFrontBlock}
use Rattle.stay_calls.proofs.Histories.{shown_added}
use Rattle.move_parts.proofs.Movers.{taken_hands}
use Rattle.move_taken.specs.Holds.{taken_place}
use Rattle.move_taken.specs.Moved.{HasMovedTaken}
use Rattle.move_taken.proofs.Shown.{taken_shown}
use Rattle.move_in_front.specs.Taken.{HasMovedInFront}
use Rattle.move_calls.specs.Carries.{HasShown, IsBringing, IsCarrying, HasBrought}
use Rattle.move_calls.specs.Holds.{IsResting}
use Rattle.move_calls.proofs.Behind.{no_fit_shown}
use Rattle.move_calls.proofs.Came.{are_plain, came, came_agrees, found_then}
use Rattle.move_calls.proofs.Shown.{any_shown, shown_then, before_still}

---- It has moved

-- a block that was found, whatever the state is
in_some : (o : Option State) (A : Place → Type 0) (B : Place → State → Type 0) → In o (λ st. (p : Place) × A p × B p st) → (p : Place) × A p × In o (B p)
in_some None A B h = absurd h
in_some (Some st) A B h = h

-- The words of the new place have been moved, it was given, and the old block dropped: the acts since c show it, and the caller stands in its call.
record HasMovedOn (c d : Token) (addr size n : ℕ) (flags : Flags) (b : ℕ) : Type 0 where
  pub place : Place
  pub at : address place ≡ b
  pub values : List ℕ
  pub count : length values ≡ words_of (min size n)
  pub added : List Act
  pub goes : GoesOn c d added
  pub no_begin : none_begins added ≡ true
  pub shape_is : shape_of added ≡ acts.Place place.start place.granules place.layer ∷ (moving addr size b n flags.zero values ++ acts.Give b n ∷ acts.Drop addr ∷ [])
  pub call : d.call ≡ c.call
  pub fresh : d.fresh ≡ c.fresh
  pub drawn : d.searched ≡ d.drawn
  pub prepared : d.prepared ≡ []
  pub inside : d.inside ≡ c.inside
  pub whole : d.whole ≡ true
  pub free : d.free ≡ true
  pub out : d.out ≡ c.out
  pub owes : d.owes ≡ []

module _ (first c d : Token) (tag : Tag) (addr size n : ℕ) (flags : Flags) (out : List ℕ) (b : ℕ) (v : IsBringing first c tag addr size n flags out) where
  module _ (x : HasMovedOn c d addr size n flags b) where
    abbrev place : Act
    place = acts.Place x.place.start x.place.granules x.place.layer

    abbrev words : List Act
    words = moving addr size b n flags.zero x.values

    shown : HasShown first d (acts.Take addr size ∷ place ∷ (words ++ acts.Give b n ∷ acts.Drop addr ∷ []))
    shown = shown_then first c d (acts.Take addr size ∷ []) (place ∷ (words ++ acts.Give b n ∷ acts.Drop addr ∷ [])) x.added v.shown x.goes x.no_begin x.shape_is

    told : (s : Setting) → IsSettingOf d.opening d.roll s → IsMoved s first.number addr n flags.zero b (moments s first.number (configuration_of s first.seen) shown.goes.seen.0)
    told s q =
        let ms = moments s first.number (configuration_of s first.seen) shown.goes.seen.0 in
        let all = before_still first c d v.shown.added x.added v.shown.goes x.goes shown.goes.seen begins_move (λ s m. FindsFrontBlock first addr n s) v.leaves s q in
        let z = in_some (state_before begins_move ms) (λ p. is_of_front p ≡ true) (λ p st. Finds s first.number addr n p false st) all in
        record {
          old = z.0;
          size = size;
          made = x.place;
          values = x.values;
          moves = acts.Take addr size ∷ place ∷ words;
          leaves = z.2;
          address_is = x.at;
          count = x.count;
          moves_are = subst (λ (f : Bool). TakesAndPlaces f (acts.Take addr size) place words (acts.Take addr size ∷ place ∷ words)) (sym z.1) refl;
          acts_are = shown_added first d shown.added shown.goes v.serving.prepared x.prepared shown.goes.seen s (configuration_of s first.seen) ∙ shown.shape_is;
        }

    has_come : HasBrought first d addr n flags out (Some b)
    has_come = record {
      serving = v.serving;
      shape = acts.Take addr size ∷ place ∷ (words ++ acts.Give b n ∷ acts.Drop addr ∷ []);
      shown = shown;
      told = told;
      call_is = x.call ∙ v.holds.call_is;
      fresh = x.fresh ∙ v.holds.fresh;
      drawn = x.drawn;
      prepared = x.prepared;
      resting = record { inside = x.inside ∙ v.holds.block.inside; whole = x.whole; free = x.free; out_is = x.out ∙ v.holds.out_is; owes = x.owes };
    }

  -- to another layer
  pub come_behind : HasMovedTaken c d tag addr size n flags b → HasBrought first d addr n flags out (Some b)
  come_behind x =
      let y = taken_shown c d tag addr size n flags b x in let st = y.goes.steady in
      has_come (record {
        place = y.made;
        at = y.address_is;
        values = y.values;
        count = y.count;
        added = y.added;
        goes = y.goes.goes;
        no_begin = y.no_begin;
        shape_is = y.acts_are;
        call = st.call;
        fresh = st.fresh;
        drawn = st.searched ∙ (v.holds.drawn ∙ sym st.drawn);
        prepared = x.prepared;
        inside = st.inside;
        whole = x.whole;
        free = x.free;
        out = x.out_is;
        owes = st.owes ∙ v.holds.owes;
      })

  -- .. or to the front end, or where that has no block to VS
  pub come_in_front : HasMovedInFront c d addr size n flags b → HasBrought first d addr n flags out (Some b)
  come_in_front x =
      let st = x.settled in
      has_come (record {
        place = x.place;
        at = x.at;
        values = x.values;
        count = x.count;
        added = x.added;
        goes = x.goes;
        no_begin = x.no_begin;
        shape_is = x.shape_is;
        call = st.call;
        fresh = st.fresh;
        drawn = st.drawn;
        prepared = x.prepared;
        inside = st.inside;
        whole = st.whole;
        free = st.free;
        out = st.out;
        owes = st.owes;
      })

---- No range was there

-- a block of the front end that is all that is in hand is found at its address, and what it may hold is known by its bucket
module _ (s : Setting) (m : Configuration) (c b addr n : ℕ) where
  found_in_hand : hands m.state c ≡ taken_place b addr c ∷ [] → place_at m.state c addr ≡ Some (taken_place b addr c)
  found_in_hand h =
      let p = taken_place b addr c in let st = m.state in
      let e = eq-eqb addr addr refl in let test = has_address addr in
      let vs = guarded st.vs.places (holds st.gate c whats.Vs) in let backs = guarded st.back.places (holds st.gate c whats.Back) in let larges = guarded st.large (holds st.gate c whats.Large) in
      let front : find test (p ∷ []) ≡ Some p = rw e refl in
      let hand : find test (hands st c) ≡ Some p = ap (find test) h ∙ front in
      let own = find_front test (hands st c ++ vs ++ backs) larges p (find_front test (hands st c ++ vs) backs p (find_front test (hands st c) vs p hand)) in
      find_front test (exclusive_places st c) (all_places st) p own

  leaves_it : (nat_le n 16368 && nat_le n (block_size b)) ≡ false → lets_stay s.limits m.state (taken_place b addr c) n ≡ false
  leaves_it h = ap (λ (k : ℕ). nat_le n 16368 && nat_le n k) (whole_granules b) ∙ h

module _ (first c d : Token) (tag : Tag) (addr size n : ℕ) (flags : Flags) (out : List ℕ) (v : IsBringing first c tag addr size n flags out) (e : HasEnded (with_prepared c (acts.NoFit n)) d (acts.Give addr size ∷ []) c.out) (legal : IsLegalWith d.opening d.roll d.seen) where
  abbrev said : Act
  said = acts.NoFit n

  abbrev old : Place
  old = taken_place tag.bucket addr c.number

  all : HasEnded c d (said ∷ acts.Give addr size ∷ []) c.out
  all = ended_then c (with_prepared c said) d (said ∷ []) (acts.Give addr size ∷ []) c.out (added_one c said refl) e

  shown_none : HasShown first d (acts.Take addr size ∷ said ∷ acts.Give addr size ∷ [])
  shown_none = shown_then first c d (acts.Take addr size ∷ []) (said ∷ acts.Give addr size ∷ []) (said ∷ acts.Give addr size ∷ []) v.shown all.added.goes refl refl

  plain : are_plain (c.prepared ++ []) ≡ true
  plain = ap (λ (l : List Rattle.heap_model.specs.declared.Entry.Entry). are_plain (l ++ [])) v.holds.prepared

  no_earlier : list_any is_no_fit (v.shown.added ++ []) ≡ false
  no_earlier = ap (list_any is_no_fit) (append-nil v.shown.added) ∙ (any_shown is_no_fit no_fit_shown v.shown.added ∙ ap (list_any is_no_fit) v.shown.shape_is)

  finds_it : (s : Setting) → IsSettingOf d.opening d.roll s → Finds s c.number addr n old false (came c d [] said (acts.Give addr size ∷ []) all.added.goes all.prepared legal plain s).state
  finds_it s q =
      let gives = acts.Give addr size ∷ [] in
      let m = came c d [] said gives all.added.goes all.prepared legal plain s in
      let qc = setting_before c d (said ∷ gives) all.added.goes s q in
      let agrees = came_agrees c d [] said gives all.added.goes all.prepared legal plain s q in
      let had = taken_hands (now s c) c.number addr old (v.holds.block.hand s qc) in
      let same : hands m.state c.number ≡ hands (now s c).state c.number = (λ i. agrees.hands layers.Lfh i ++ agrees.hands layers.Vs i ++ agrees.hands layers.Back i ++ agrees.hands layers.Large i) in
      (found_in_hand s m c.number tag.bucket addr n (same ∙ had), leaves_it s m c.number tag.bucket addr n v.holds.leaves)

  told_none : (s : Setting) → IsSettingOf d.opening d.roll s → HasNoRange s first.number addr n (moments s first.number (configuration_of s first.seen) shown_none.goes.seen.0)
  told_none s q =
      let gives = acts.Give addr size ∷ [] in
      let m = came c d [] said gives all.added.goes all.prepared legal plain s in
      record {
        old = old;
        size = size;
        there = eq-eqb c.number first.number v.shown.goes.number;
        leaves = found_then c d [] said gives all.added.goes all.prepared legal plain s q first v.shown.added v.shown.goes v.serving.prepared shown_none.goes.seen is_no_fit refl no_earlier (Finds s first.number addr n old false)
            (subst (λ (k : ℕ). Finds s k addr n old false m.state) v.shown.goes.number (finds_it s q));
        acts_are = shown_added first d shown_none.added shown_none.goes v.serving.prepared all.prepared shown_none.goes.seen s (configuration_of s first.seen) ∙ shown_none.shape_is;
      }

  pub come_to_none : HasBrought first d addr n flags out None
  come_to_none =
      let st = all.added.steady in
      record {
        serving = v.serving;
        shape = acts.Take addr size ∷ said ∷ acts.Give addr size ∷ [];
        shown = shown_none;
        told = told_none;
        call_is = st.call ∙ v.holds.call_is;
        fresh = st.fresh ∙ v.holds.fresh;
        drawn = st.searched ∙ (v.holds.drawn ∙ sym st.drawn);
        prepared = all.prepared;
        resting = record { inside = st.inside ∙ v.holds.block.inside; whole = all.whole; free = all.free; out_is = all.out_is ∙ v.holds.out_is; owes = st.owes ∙ v.holds.owes };
      }

---- Either

pub brought_rests : (first c : Token) (addr n : ℕ) (flags : Flags) (out : List ℕ) (o : Option ℕ) → HasBrought first c addr n flags out o → IsResting c out
brought_rests first c addr n flags out (Some b) x = x.resting
brought_rests first c addr n flags out None x = x.resting

pub heap_brought : (first c d : Token) (tag : Tag) (addr size n : ℕ) (flags : Flags) (out : List ℕ) (o : Option ℕ) → IsCarrying first c tag addr size n flags out → HasBrought first d addr n flags out o → d.table ≡ c.table
heap_brought first c d tag addr size n flags out (Some b) v x = x.shown.goes.table ∙ sym v.bringing.shown.goes.table
heap_brought first c d tag addr size n flags out None v x = x.shown.goes.table ∙ sym v.bringing.shown.goes.table
