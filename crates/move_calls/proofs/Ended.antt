-- What a caller has added from where it was ready to move a block, as the shape of a reallocation has it.
use Rattle.std.proofs.Common.{◌≡◌, ◌⊎◌, ℕ, Bool, true, false, ◌||◌, ◌≤◌, cond, List, [], ◌∷◌, ◌++◌, length, Some, None, refl, sym, ap, ◌∙◌, subst, append_assoc, inl, inr, arith}
use Rattle.std.specs.Prelude.{min}
use Rattle.std.specs.List.{list_all, list_any}
use Rattle.std.proofs.lemmas.Bool.{and_from, and_parts, false≢true}
use Rattle.std.proofs.lemmas.List.{append-nil}
use mathlib.Core.List.{IsPrefix}
use Rattle.heap_model.specs.declared.Act.{Act}
use Rattle.heap_model.specs.declared.Act.TheVariants as acts
use Rattle.heap_model.specs.declared.Call.{Call}
use Rattle.heap_model.specs.declared.Call.TheVariants as calls
use Rattle.heap_model.specs.declared.Flags.{Flags}
use Rattle.heap_model.specs.Agreement.{AgreesFor}
use Rattle.heap_model.specs.CallState.{Configuration}
use Rattle.heap_model.specs.Geometry.{words_of}
use Rattle.heap_model.specs.declared.Entry.{Entry}
use Rattle.heap_model.specs.History.{own, configuration_of, configuration_after}
use Rattle.heap_model.proofs.Moments.{moments-append}
use Rattle.heap_model.specs.Legal.{after}
use Rattle.heap_model.specs.Moments.{Moment, Before, moments}
use Rattle.heap_model.specs.Shape.{Finds, TakesAndPlaces, begins_move, is_no_fit, is_of_front, moving, shape_of}
use Rattle.heap_model.specs.Stay.{lets_stay}
use Rattle.heap_model.specs.State.{Setting, Place, Status, Live, is_live, is_in_hand_of, address}
use Rattle.claim_rule.specs.Entries.{IsSettingOf, IsLegalWith, entry, may_prepare}
use Rattle.call_laws.specs.Within.{by_all}
use Rattle.heap_gate.specs.Token.{Token, Always, now}
use Rattle.heap_gate.specs.Calls.{with_prepared}
use Rattle.call_parts.specs.Calls.{GoesOn, Makes}
use Rattle.call_parts.specs.Entries.{HasEnded}
use Rattle.call_parts.proofs.Joining.{goes_none, goes_then, setting_before}
use Rattle.call_parts.proofs.Serving.{none_begins, none_begins-append, shape-append}
use Rattle.call_parts.proofs.Tokens.{added_one, ended_then}
use Rattle.stay_calls.proofs.Finding.{IsFoundAt, kept_by, finds_kept}
use Rattle.stay_calls.proofs.Behind.{none_shown}
use Rattle.stay_calls.proofs.FrontStays.{before_more}
use Rattle.stay_calls.proofs.Histories.{joined, shown_added}
use Rattle.backend_fit.specs.Kept.{Kept}
use Rattle.move_front.specs.Front.{is_quiet}
use Rattle.move_to_front.specs.Moved.{HasMovedOver, FitsNowhere}
use Rattle.move_to_front.specs.Moved as over
use Rattle.move_parts.specs.Moves.{IsHeld, IsMoving}
use Rattle.move_parts.specs.Moved.{HasMoved}
use Rattle.move_parts.specs.Places.{IsWithout}
use Rattle.move_parts.proofs.Shown.{moved_shown}
use Rattle.move_calls.specs.Ends.{HasTriedIt}
use Rattle.move_calls.specs.Moves.{Moves}
use Rattle.move_calls.proofs.Behind.{no_fit_shown}
use Rattle.move_calls.proofs.Came.{is_plain, are_plain, own_since, came, came_agrees, found_then}

-- The caller stands in its call with its locks. Nothing is in hand, nothing has to follow, and no word is owed.
pub record IsSettled (old new : Token) : Type 0 where
  pub call : new.call ≡ old.call
  pub fresh : new.fresh ≡ old.fresh
  pub inside : new.inside ≡ old.inside
  pub out : new.out ≡ old.out
  pub owes : new.owes ≡ []
  pub drawn : new.searched ≡ new.drawn
  pub whole : new.whole ≡ true
  pub free : new.free ≡ true
  pub pending : new.pending ≡ false

---- The old block

found_at : (s : Setting) (m : Configuration) (c addr : ℕ) (p : Place) (size n : ℕ) → IsHeld m c addr p size → lets_stay s.limits m.state p n ≡ false → IsFoundAt s m c addr p size n false
found_at s m c addr p size n x l = record { first = x.first; live = x.live; behind = x.behind; touch = x.touch; stays_is = l }

-- .. it is as it was where the next segment was reserved
found_reserved : (s : Setting) (m : Configuration) (c addr : ℕ) (p : Place) (size n segment : ℕ) → IsHeld m c addr p size → lets_stay s.limits (after s m (entry c (acts.Reserve segment))).state p n ≡ false
    → IsFoundAt s (after s m (entry c (acts.Reserve segment))) c addr p size n false
found_reserved s m c addr p size n segment x l = record { first = x.first; live = x.live; behind = x.behind; touch = x.touch; stays_is = l }

---- The block has moved

-- Before the first act of the move the caller found its block at addr, which could not stay there, once all is in the list that it has prepared.
pub record HasMovedIt (k c : Token) (addr size n : ℕ) (flags : Flags) (p : Place) (b : ℕ) : Type 0 where
  pub place : Place
  pub at : address place ≡ b
  pub values : List ℕ
  pub count : length values ≡ words_of (min size n)
  pub added : List Act
  pub goes : GoesOn k c added
  pub no_begin : none_begins added ≡ true
  pub moves : List Act
  pub moves_are : TakesAndPlaces false (acts.Take addr size) (acts.Place place.start place.granules place.layer) (moving addr size b n flags.zero values) moves
  pub shape_is : shape_of added ≡ moves ++ acts.Give b n ∷ acts.Drop addr ∷ []
  pub settled : IsSettled k c
  pub leaves : (d : Token) (more : List Act) → GoesOn c d more → d.prepared ≡ [] → IsLegalWith d.opening d.roll d.seen → (g : IsPrefix k.seen d.seen) → Always d (λ s. Before begins_move (Finds s k.number addr n p false) (moments s k.number (configuration_of s k.seen) g.0))

-- behind an act that a segment may have been reserved for
module _ (k d : Token) (addr size n : ℕ) (flags : Flags) (p : Place) (out : List ℕ) (v : IsMoving k addr size n flags p out) (xs : List Act) (begins : Act) (ys : List Act) (all : GoesOn k d (xs ++ begins ∷ ys)) (it : begins_move begins ≡ true) (nd : d.prepared ≡ [])
    (legal : IsLegalWith d.opening d.roll d.seen) (g : IsPrefix k.seen d.seen) where
  abbrev IsBefore : Type 0
  IsBefore = Always d (λ s. Before begins_move (Finds s k.number addr n p false) (moments s k.number (configuration_of s k.seen) g.0))

  by_place : xs ≡ [] → IsBefore
  by_place e s q =
      let plain : are_plain (k.prepared ++ by_all k.number xs) ≡ true = (λ i. are_plain (v.serving.prepared i ++ by_all k.number (e i))) in
      let qk = setting_before k d (xs ++ begins ∷ ys) all s q in
      let m = now s k in let f = found_at s m k.number addr p size n (v.old s qk) (v.leaves s qk) in
      let met = came k d xs begins ys all nd legal plain s in
      let agrees : AgreesFor k.number met m = subst (λ (l : List Act). AgreesFor k.number met (configuration_after s m (by_all k.number l))) e (came_agrees k d xs begins ys all nd legal plain s q) in
      found_then k d xs begins ys all nd legal plain s q k [] (goes_none k) v.serving.prepared g begins_move it (ap (list_any begins_move) e) (Finds s k.number addr n p false)
      (finds_kept s m k.number addr p size n false f met (kept_by k.number m met agrees))

  by_reserve : (segment : ℕ) → xs ≡ acts.Reserve segment ∷ [] → Always k (λ s. lets_stay s.limits (after s (now s k) (entry k.number (acts.Reserve segment))).state p n ≡ false) → IsBefore
  by_reserve segment e still s q =
      let plain : are_plain (k.prepared ++ by_all k.number xs) ≡ true = (λ i. are_plain (v.serving.prepared i ++ by_all k.number (e i))) in
      let qk = setting_before k d (xs ++ begins ∷ ys) all s q in
      let m = after s (now s k) (entry k.number (acts.Reserve segment)) in let f = found_reserved s (now s k) k.number addr p size n segment (v.old s qk) (still s qk) in
      let met = came k d xs begins ys all nd legal plain s in
      let agrees : AgreesFor k.number met m = subst (λ (l : List Act). AgreesFor k.number met (configuration_after s (now s k) (by_all k.number l))) e (came_agrees k d xs begins ys all nd legal plain s q) in
      found_then k d xs begins ys all nd legal plain s q k [] (goes_none k) v.serving.prepared g begins_move it (ap (list_any begins_move) e) (Finds s k.number addr n p false)
      (finds_kept s m k.number addr p size n false f met (kept_by k.number m met agrees))

  by_either : (xs ≡ []) ⊎ ((segment : ℕ) × (xs ≡ acts.Reserve segment ∷ []) × Always k (λ s. lets_stay s.limits (after s (now s k) (entry k.number (acts.Reserve segment))).state p n ≡ false)) → IsBefore
  by_either (inl e) = by_place e
  by_either (inr e) = by_reserve e.0 e.1 e.2

module _ (k c : Token) (addr size n : ℕ) (flags : Flags) (p : Place) (out : List ℕ) (b : ℕ) (v : IsMoving k addr size n flags p out) (x : HasMoved k c addr size n flags p b) where
  abbrev all_rest : List Act
  all_rest = moving addr size b n flags.zero x.values ++ acts.Take addr size ∷ acts.Give b n ∷ acts.Drop addr ∷ x.last

  before_move : (d : Token) (more : List Act) → GoesOn c d more → d.prepared ≡ [] → IsLegalWith d.opening d.roll d.seen → (g : IsPrefix k.seen d.seen) → Always d (λ s. Before begins_move (Finds s k.number addr n p false) (moments s k.number (configuration_of s k.seen) g.0))
  before_move d more goes nd legal g =
      let xs = x.made.reserves in let ys = x.made.more ++ (all_rest ++ more) in
      let one : GoesOn k d ((xs ++ x.made.begins ∷ x.made.more) ++ (all_rest ++ more)) =
      goes_then k x.between d (xs ++ x.made.begins ∷ x.made.more) (all_rest ++ more) x.made.added.goes (goes_then x.between c d all_rest more x.rest.goes goes) in
      let all : GoesOn k d (xs ++ x.made.begins ∷ ys) = subst (GoesOn k d) (append_assoc xs (x.made.begins ∷ x.made.more) (all_rest ++ more)) one in
      by_either k d addr size n flags p out v xs x.made.begins ys all x.made.begins_it nd legal g x.made.reserves_are

  pub of_moved : HasMovedIt k c addr size n flags p b
  of_moved =
      let y = moved_shown k c addr size n flags p b x in
      let own = v.serving in let st = y.goes.steady in
      record {
        place = y.made;
        at = y.address_is;
        values = y.values;
        count = y.count;
        added = y.added;
        goes = y.goes.goes;
        no_begin = y.no_begin;
        moves = y.moves;
        moves_are = y.moves_are;
        shape_is = y.acts_are;
        settled = record {
          call = st.call;
          fresh = st.fresh;
          inside = st.inside;
          out = x.out_is;
          owes = st.owes ∙ own.owes;
          drawn = st.searched ∙ (own.searched ∙ (sym own.drawn ∙ sym st.drawn));
          whole = x.whole;
          free = x.free;
          pending = x.pending;
        };
        leaves = before_move;
      }

-- The caller can say that no range is there for n bytes; its block is as it was, and has to move still.
pub record CanSayNone (k c : Token) (addr size n : ℕ) (p : Place) : Type 0 where
  pub its : List Act
  pub goes : GoesOn k c its
  pub no_begin : none_begins its ≡ true
  pub shape_is : shape_of its ≡ []
  pub no_fit : list_any is_no_fit its ≡ false
  pub plain : are_plain c.prepared ≡ true
  pub settled : IsSettled k c
  pub held : Always c (λ s. IsHeld (now s c) c.number addr p size)
  pub leaves : Always c (λ s. lets_stay s.limits (now s c).state p n ≡ false)
  pub may : Always c (λ s. may_prepare s (now s c) c.number (acts.NoFit n) ≡ true)
  pub few : length c.prepared ≤ 7

---- The answer

-- a part that ends a call, from where the caller had added something already
made_then : (k c d : Token) (call : Call) (added more shape : List Act) → k.call ≡ Some call → k.fresh ≡ false → k.inside ≡ true → GoesOn k c added → IsSettled k c → HasEnded c d more [] → none_begins added ≡ true → none_begins more ≡ true → shape_of added ≡ shape → shape_of more ≡ [] → Makes k d call shape
made_then k c d call added more shape is fresh inside g st e na nm sa sm =
    let y = e.added.steady in
    record {
      added = added ++ more;
      goes = goes_then k c d added more g e.added.goes;
      no_begin = none_begins-append added more na nm;
      shape_is = shape-append added more ∙ ((λ i. sa i ++ sm i) ∙ append-nil shape);
      stands = record {
        call_is = y.call ∙ (st.call ∙ is);
        fresh = y.fresh ∙ (st.fresh ∙ fresh);
        inside = y.inside ∙ (st.inside ∙ inside);
        out = e.out_is;
        whole = e.whole;
        free = e.free;
        pending = e.pending;
        prepared = e.prepared;
        drawn = y.searched ∙ (st.drawn ∙ sym y.drawn);
        owes = y.owes ∙ st.owes;
      };
    }

module _ (k c d : Token) (addr size n : ℕ) (flags : Flags) (p : Place) (out : List ℕ) (v : IsMoving k addr size n flags p out) (gives : List Act) (none : none_begins gives ≡ true) (hidden : shape_of gives ≡ []) (legal : IsLegalWith d.opening d.roll d.seen) where
  abbrev call : Call
  call = calls.Realloc addr n flags

  not_front : (s : Setting) → IsSettingOf k.opening k.roll s → is_of_front p ≡ false
  not_front s q = (v.old s q).behind

  pub moves_to : (b : ℕ) → HasMovedIt k c addr size n flags p b → HasEnded c d gives [] → Moves k d addr n flags (Rattle.std.specs.Prelude.Ok b)
  moves_to b x e =
      let shape = x.moves ++ acts.Give b n ∷ acts.Drop addr ∷ [] in
      let made = made_then k c d call x.added gives shape v.serving.call_is v.serving.fresh v.serving.inside x.goes x.settled e x.no_begin none x.shape_is hidden in
      record {
        shape = shape;
        makes = made;
        told = λ s q.
            let qk = setting_before k d made.added made.goes s q in
            record {
              old = p;
              size = size;
              made = x.place;
              values = x.values;
              moves = x.moves;
              leaves = x.leaves d gives e.added.goes e.prepared legal made.goes.seen s q;
              address_is = x.at;
              count = x.count;
              moves_are = subst (λ (f : Bool). TakesAndPlaces f (acts.Take addr size) (acts.Place x.place.start x.place.granules x.place.layer) (moving addr size b n flags.zero x.values) x.moves) (sym (not_front s qk)) x.moves_are;
              acts_are = shown_added k d made.added made.goes v.serving.prepared e.prepared made.goes.seen s (configuration_of s k.seen) ∙ made.shape_is;
            };
      }

  pub moves_nowhere : (x : CanSayNone k c addr size n p) → HasEnded (with_prepared c (acts.NoFit n)) d gives [] → Moves k d addr n flags (Rattle.std.specs.Prelude.Err Rattle.heap_model.specs.declared.ReNo.TheVariants.NoFit)
  moves_nowhere x e =
      let said = acts.NoFit n in
      let all : HasEnded c d (said ∷ gives) [] = ended_then c (with_prepared c said) d (said ∷ []) gives [] (added_one c said refl) e in
      let none_all : none_begins (said ∷ gives) ≡ true = none in
      let made : Makes k d call (said ∷ []) = said_then x all in
      record {
        shape = said ∷ [];
        makes = made;
        told = λ s q.
            let qk = setting_before k d made.added made.goes s q in
            let qc = setting_before c d (said ∷ gives) all.added.goes s q in
            let live : p.status ≡ Live size = (x.held s qc).live in
            let plain : are_plain (c.prepared ++ []) ≡ true = ap are_plain (append-nil c.prepared) ∙ x.plain in
            let m = came c d [] said gives all.added.goes e.prepared legal plain s in
            let f = found_at s (now s c) c.number addr p size n (x.held s qc) (x.leaves s qc) in
            let found : Finds s c.number addr n p false m.state = finds_kept s (now s c) c.number addr p size n false f m (kept_by c.number (now s c) m (came_agrees c d [] said gives all.added.goes e.prepared legal plain s q)) in
            record {
              old = p;
              size = size;
              there = ap (λ (t : Status). is_live t || is_in_hand_of k.number t) live;
              leaves = found_then c d [] said gives all.added.goes e.prepared legal plain s q k x.its x.goes v.serving.prepared made.goes.seen is_no_fit refl (ap (list_any is_no_fit) (append-nil x.its) ∙ x.no_fit) (Finds s k.number addr n p false)
                  (subst (λ (j : ℕ). Finds s j addr n p false m.state) x.goes.number found);
              acts_are = shown_added k d made.added made.goes v.serving.prepared e.prepared made.goes.seen s (configuration_of s k.seen)
                  ∙ (made.shape_is ∙ ap (λ (f : Bool). cond f (acts.Take addr size ∷ said ∷ acts.Give addr size ∷ []) (said ∷ [])) (sym (not_front s qk)));
            };
      }
    where
      said_then : (x : CanSayNone k c addr size n p) → HasEnded c d (acts.NoFit n ∷ gives) [] → Makes k d call (acts.NoFit n ∷ [])
      said_then x all =
          let y = all.added.steady in let st = x.settled in
          record {
            added = x.its ++ acts.NoFit n ∷ gives;
            goes = goes_then k c d x.its (acts.NoFit n ∷ gives) x.goes all.added.goes;
            no_begin = none_begins-append x.its (acts.NoFit n ∷ gives) x.no_begin none;
            shape_is = shape-append x.its (acts.NoFit n ∷ gives) ∙ (λ i. x.shape_is i ++ acts.NoFit n ∷ hidden i);
            stands = record {
              call_is = y.call ∙ (st.call ∙ v.serving.call_is);
              fresh = y.fresh ∙ (st.fresh ∙ v.serving.fresh);
              inside = y.inside ∙ (st.inside ∙ v.serving.inside);
              out = all.out_is;
              whole = all.whole;
              free = all.free;
              pending = all.pending;
              prepared = all.prepared;
              drawn = y.searched ∙ (st.drawn ∙ sym y.drawn);
              owes = y.owes ∙ st.owes;
            };
          }

-- .. so where it has found none
of_without : (k c : Token) (addr size n : ℕ) (flags : Flags) (p : Place) (out : List ℕ) → IsMoving k addr size n flags p out → IsWithout k c n → CanSayNone k c addr size n p
of_without k c addr size n flags p out v x = subst (λ (t : Token). CanSayNone k t addr size n p) (sym x.same) (here v)
  where
    here : IsMoving k addr size n flags p out → CanSayNone k k addr size n p
    here v =
        let own = v.serving in
        record {
          its = [];
          goes = goes_none k;
          no_begin = refl;
          shape_is = refl;
          no_fit = refl;
          plain = ap are_plain own.prepared;
          settled = record {
            call = refl;
            fresh = refl;
            inside = refl;
            out = refl;
            owes = own.owes;
            drawn = own.searched ∙ sym own.drawn;
            whole = own.whole;
            free = own.free;
            pending = own.pending;
          };
          held = v.old;
          leaves = v.leaves;
          may = subst (λ (t : Token). Always t (λ s. may_prepare s (now s t) t.number (acts.NoFit n) ≡ true)) x.same (subst (λ (t : Token). Always t (λ s. may_prepare s (now s t) t.number (acts.NoFit n) ≡ true)) (sym x.same) x.may);
          few = let none = ap length own.prepared in omega (arith, none);
        }

---- .. or the front end was asked

settled_of : (k c : Token) → over.IsSettled k c → IsSettled k c
settled_of k c x = record { call = x.call; fresh = x.fresh; inside = x.inside; out = x.out; owes = x.owes; drawn = x.drawn; whole = x.whole; free = x.free; pending = x.pending }

is_plain_quiet : (act : Act) → is_quiet act ≡ true → is_plain act ≡ true
is_plain_quiet (acts.Active bucket) h = refl
is_plain_quiet (acts.Reserve segment) h = refl
is_plain_quiet (acts.Saw head word bits) h = refl
is_plain_quiet (acts.Lost head index) h = refl
is_plain_quiet (acts.NoHint bucket slot) h = refl
is_plain_quiet (acts.NoSpan bucket) h = refl
is_plain_quiet _ h = absurd (false≢true h)

quiet_plain : (n : ℕ) (xs : List Act) → list_all is_quiet xs ≡ true → are_plain (by_all n xs) ≡ true
quiet_plain n [] h = refl
quiet_plain n (x ∷ xs) h =
    let q = and_parts (is_quiet x) (list_all is_quiet xs) h in
    and_from (is_plain x) (are_plain (by_all n xs)) (is_plain_quiet x q.0) (quiet_plain n xs q.1)

plain_behind : (xs ys : List Entry) → are_plain (xs ++ ys) ≡ true → are_plain ys ≡ true
plain_behind [] ys h = h
plain_behind (x ∷ xs) ys h = plain_behind xs ys (and_parts (is_plain x.act) (are_plain (xs ++ ys)) h).1

of_nowhere : (k c : Token) (addr size n : ℕ) (flags : Flags) (p : Place) (out : List ℕ) (back kept : Kept) → IsMoving k addr size n flags p out → FitsNowhere k c addr size n p back kept → CanSayNone k c addr size n p
of_nowhere k c addr size n flags p out back kept v x = record {
  its = x.its;
  goes = x.goes;
  no_begin = x.are.no_begin;
  shape_is = x.are.shape_is;
  no_fit = none_shown is_no_fit no_fit_shown x.its x.are.shape_is;
  plain =
      let all : own k.number x.goes.seen.0 ++ c.prepared ≡ by_all k.number x.its = own_since k c x.its x.goes x.goes.seen ∙ ap (λ (l : List Entry). l ++ by_all k.number x.its) v.serving.prepared in
      plain_behind (own k.number x.goes.seen.0) c.prepared (ap are_plain all ∙ quiet_plain k.number x.its x.are.quiet);
  settled = settled_of k c x.settled;
  held = x.held;
  leaves = x.leaves;
  may = x.may;
  few = x.settled.few;
}

of_over : (k c : Token) (addr size n : ℕ) (flags : Flags) (p : Place) (b : ℕ) → HasMovedOver k c addr size n flags p b → HasMovedIt k c addr size n flags p b
of_over k c addr size n flags p b x =
    let place = acts.Place x.place.start x.place.granules x.place.layer in let words = moving addr size b n flags.zero x.values in let take = acts.Take addr size in
    record {
      place = x.place;
      at = x.at;
      values = x.values;
      count = x.count;
      added = x.added;
      goes = x.goes;
      no_begin = x.no_begin;
      moves = place ∷ (words ++ take ∷ []);
      moves_are = (words, [], sym (append-nil words), refl);
      shape_is = x.shape_is ∙ ap (λ (l : List Act). place ∷ l) (sym (append_assoc words (take ∷ []) (acts.Give b n ∷ acts.Drop addr ∷ [])));
      settled = settled_of k c x.settled;
      leaves = λ d more goes nd legal g s q.
          let m = configuration_of s k.seen in let first = x.goes.seen in let later = goes.seen in
          subst (λ (l : List Moment). Before begins_move (Finds s k.number addr n p false) l) (sym (ap (moments s k.number m) (joined k.seen c.seen d.seen g first later) ∙ moments-append s k.number m first.0 later.0))
          (before_more begins_move (Finds s k.number addr n p false) (moments s k.number m first.0) (moments s k.number (configuration_after s m first.0) later.0) (x.leaves s (setting_before c d more goes s q)));
    }

-- whichever it was
pub of_some : (k c : Token) (addr size n : ℕ) (flags : Flags) (p : Place) (out : List ℕ) (b : ℕ) → IsMoving k addr size n flags p out → HasTriedIt k c addr size n flags p (Some b) → HasMovedIt k c addr size n flags p b
of_some k c addr size n flags p out b v (inl x) = of_moved k c addr size n flags p out b v x
of_some k c addr size n flags p out b v (inr x) = of_over k c addr size n flags p b x

pub of_none : (k c : Token) (addr size n : ℕ) (flags : Flags) (p : Place) (out : List ℕ) → IsMoving k addr size n flags p out → HasTriedIt k c addr size n flags p None → CanSayNone k c addr size n p
of_none k c addr size n flags p out v (inl x) = of_without k c addr size n flags p out v x
of_none k c addr size n flags p out v (inr x) = of_nowhere k c addr size n flags p out x.0 x.1 v x.2
