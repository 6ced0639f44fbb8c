-- What a caller's search goes by is the same in two configurations that differ in pages, other than those of VS, and in how far the search is.
use Rattle.std.proofs.Common.{◌≡◌, ℕ, ◌+◌, ◌/◌, Bool, true, false, ◌&&◌, ◌||◌, not, List, Option, Some, None, refl, sym, ap, ◌∙◌, inl, inr}
use Rattle.std.specs.Prelude.{option_and_then, nat_le, cond}
use Rattle.std.specs.List.{find}
use Rattle.std.proofs.lemmas.Bool.{cases_Bool, le-leb, false≢true}
use Rattle.heap_model.specs.declared.Call.{Call}
use Rattle.heap_model.specs.declared.Call.TheVariants as calls
use Rattle.heap_model.specs.declared.Layer.{Layer}
use Rattle.heap_model.specs.declared.Layer.TheVariants as layers
use Rattle.heap_model.specs.declared.What.TheVariants as whats
use Rattle.heap_model.specs.Geometry.{route_of, is_paged, is_huge, units_of}
use Rattle.heap_model.specs.Buckets.{bucket_of}
use Rattle.heap_model.specs.Stay.{lets_stay_in, reach_in, run_from, for_some}
use Rattle.heap_model.specs.Ranges.{vs_spans, gaps_of}
use Rattle.heap_model.specs.State.{Setting, State, GateAndLocks, VsPart, Place, exclusive_places, place_at, has_address, holds, is_live, is_in_hand_of}
use Rattle.heap_model.specs.CallState.{Configuration, CallState, caller_view}
use Rattle.heap_model.specs.Search.{request_of, sought_by, searched, has_to_move}
use Rattle.heap_model.specs.Legal.{may_touch}
use Rattle.heap_model.specs.Agreement.{AgreesFor, holds_old_block, moves_exclusive, is_exclusive_at}
use Rattle.heap_model.proofs.Stable.{caller_view_same, same_exclusive}
use Rattle.search_laws.proofs.Blocks.{bucket_fits}

-- a size that has a bucket takes no whole pages
not_paged : (n b : ℕ) → bucket_of n ≡ Some b → (is_paged (route_of n) ≡ false) × (is_huge (route_of n) ≡ false)
not_paged n b e =
    let small = (bucket_fits n b e).0 in
    elim (cases_Bool (nat_le n 16368)) [
      | inl x ↦ rw x (refl, refl)
      | inr x ↦ let y = le-leb n 16368 small in absurd (false≢true (sym x ∙ y))
    ]

-- All is the same but the area, which has the same spans of VS.
pub record AreLike (n : ℕ) (k m : Configuration) : Type 0 where
  pub gate : k.state.gate ≡ m.state.gate
  pub vs : k.state.vs ≡ m.state.vs
  pub lfh : k.state.lfh ≡ m.state.lfh
  pub large : k.state.large ≡ m.state.large
  pub places : k.state.back.places ≡ m.state.back.places
  pub spans : vs_spans k.state.back.area ≡ vs_spans m.state.back.area
  pub placed : (k.now.calls n).placed ≡ (m.now.calls n).placed
  pub call : (k.now.calls n).call ≡ (m.now.calls n).call

-- what exclusive places are of
abbrev parts : State → GateAndLocks × (VsPart × (List Place × (List Place × List Place)))
parts st = (st.gate, (st.vs, (st.back.places, (st.lfh, st.large))))

abbrev joined : State → GateAndLocks × (VsPart × (List Place × (List Place × List Place))) → State
joined st z = record { gate = z.0; back = record { area = st.back.area; places = z.1.1.0 }; vs = z.1.0; lfh = z.1.1.1.0; large = z.1.1.1.1; words = st.words }

---- The block that it moves

-- .. is one that only the caller changes, where the places and the locks are the same
old_by : (n : ℕ) (k m : Configuration) → (k.now.calls n).placed ≡ (m.now.calls n).placed → (k.now.calls n).call ≡ (m.now.calls n).call
    → ((a : ℕ) → is_exclusive_at k n a ≡ is_exclusive_at m n a) → holds_old_block k n ≡ holds_old_block m n
old_by n k m p c e = (λ j. p j || for_some (c j) (moves_exclusive k n)) ∙ ap (λ (x : Bool). (m.now.calls n).placed || x) (by (m.now.calls n).call)
  where
    by : (o : Option Call) → for_some o (moves_exclusive k n) ≡ for_some o (moves_exclusive m n)
    by None = refl
    by (Some (calls.Realloc a size flags)) = e a
    by (Some (calls.Alloc size flags)) = refl
    by (Some (calls.Free a)) = refl
    by (Some (calls.Size a)) = refl
    by (Some (calls.Get a i)) = refl
    by (Some (calls.Put a i v)) = refl
    by (Some calls.Lock) = refl
    by (Some calls.Unlock) = refl
    by (Some (calls.WalkNext a)) = refl
    by (Some calls.Compact) = refl
    by (Some calls.Stay) = refl

-- .. in two configurations that agree
pub old_agrees : (s : Setting) (n : ℕ) (k m : Configuration) → AgreesFor n k m → holds_old_block k n ≡ holds_old_block m n
old_agrees s n k m r = old_by n k m (ap (λ (x : CallState). x.placed) r.call) (ap (λ (x : CallState). x.call) r.call)
    (λ a. (λ j. for_some (find (has_address a) (same_exclusive s n k m r j)) (λ p. may_touch (caller_view_same n k m r j) p.layer)))

module _ (s : Setting) (n : ℕ) (k m : Configuration) (h : AreLike n k m) where
  same : parts k.state ≡ parts m.state
  same = λ j. (h.gate j, (h.vs j, (h.places j, (h.lfh j, h.large j))))

  touches : (l : Layer) → may_touch (caller_view k n) l ≡ may_touch (caller_view m n) l
  touches layers.Lfh = refl
  touches layers.Vs = ap (λ (g : GateAndLocks). holds g n whats.Vs) h.gate
  touches layers.Back = ap (λ (g : GateAndLocks). holds g n whats.Back) h.gate
  touches layers.Large = ap (λ (g : GateAndLocks). holds g n whats.Large) h.gate

  pub old_like : holds_old_block k n ≡ holds_old_block m n
  old_like = old_by n k m h.placed h.call (λ a.
      ap (λ (z : GateAndLocks × (VsPart × (List Place × (List Place × List Place)))). for_some (find (has_address a) (exclusive_places (joined k.state z) n)) (λ p. may_touch (caller_view k n) p.layer)) same
      ∙ by (find (has_address a) (exclusive_places m.state n)))
    where
      by : (o : Option Place) → for_some o (λ p. may_touch (caller_view k n) p.layer) ≡ for_some o (λ p. may_touch (caller_view m n) p.layer)
      by None = refl
      by (Some p) = touches p.layer

  ---- What it seeks

  stays_in : (p : Place) (x b : ℕ) (l : Layer) → p.layer ≡ l → bucket_of x ≡ Some b → lets_stay_in s.limits k.state p x l ≡ lets_stay_in s.limits m.state p x l
  stays_in p x b layers.Lfh is e = refl
  stays_in p x b layers.Vs is e =
      ap (λ (l : Layer). nat_le x 131072 && nat_le (units_of x) (reach_in s.limits k.state p l)) is
      ∙ ((λ j. nat_le x 131072 && nat_le (units_of x) (p.granules + run_from (gaps_of (h.spans j) (h.vs j).places) (p.start / 16 + p.granules)))
      ∙ sym (ap (λ (l : Layer). nat_le x 131072 && nat_le (units_of x) (reach_in s.limits m.state p l)) is))
  stays_in p x b layers.Back is e = let f = (not_paged x b e).0 in rw f refl
  stays_in p x b layers.Large is e = let f = (not_paged x b e).1 in rw f refl

  same_at : (a : ℕ) → place_at k.state n a ≡ place_at m.state n a
  same_at a = ap (λ (z : GateAndLocks × (VsPart × (List Place × (List Place × List Place)))). place_at (joined k.state z) n a) same

  -- the bucket of what the call has to place
  seeks : (active : ℕ → Bool) (placed : Bool) (call : Option Call) →
      searched active (option_and_then bucket_of (cond placed None (option_and_then (sought_by s k.state n) call)))
      ≡ searched active (option_and_then bucket_of (cond placed None (option_and_then (sought_by s m.state n) call)))
  seeks active true call = refl
  seeks active false None = refl
  seeks active false (Some (calls.Realloc a x flags)) = by (bucket_of x) refl
    where
      moves : (b : ℕ) → bucket_of x ≡ Some b → (o : Option Place) → for_some o (has_to_move s k.state n x) ≡ for_some o (has_to_move s m.state n x)
      moves b e None = refl
      moves b e (Some p) = ap (λ (y : Bool). (is_live p.status || is_in_hand_of n p.status) && not y) (stays_in p x b p.layer refl e)

      found : Bool → Option ℕ
      found y = cond (not flags.in_place && y) (Some x) None

      none : (y : Bool) → bucket_of x ≡ None → option_and_then bucket_of (found y) ≡ None
      none y e = elim (cases_Bool (not flags.in_place && y)) [ inl g ↦ rw g e | inr g ↦ rw g refl ]

      by : (o : Option ℕ) → bucket_of x ≡ o →
          searched active (option_and_then bucket_of (cond (not flags.in_place && for_some (place_at k.state n a) (has_to_move s k.state n x)) (Some x) None))
          ≡ searched active (option_and_then bucket_of (cond (not flags.in_place && for_some (place_at m.state n a) (has_to_move s m.state n x)) (Some x) None))
      by None e = ap (searched active) (none (for_some (place_at k.state n a) (has_to_move s k.state n x)) e ∙ sym (none (for_some (place_at m.state n a) (has_to_move s m.state n x)) e))
      by (Some b) e = ap (λ (y : Bool). searched active (option_and_then bucket_of (found y)))
          (ap (λ (o : Option Place). for_some o (has_to_move s k.state n x)) (same_at a) ∙ moves b e (place_at m.state n a))
  seeks active false (Some (calls.Alloc x flags)) = refl
  seeks active false (Some (calls.Free a)) = refl
  seeks active false (Some (calls.Size a)) = refl
  seeks active false (Some (calls.Get a i)) = refl
  seeks active false (Some (calls.Put a i v)) = refl
  seeks active false (Some calls.Lock) = refl
  seeks active false (Some calls.Unlock) = refl
  seeks active false (Some (calls.WalkNext a)) = refl
  seeks active false (Some calls.Compact) = refl
  seeks active false (Some calls.Stay) = refl

  pub search_like : (request_of s k n).search ≡ (request_of s m n).search
  search_like =
      (λ j. searched (h.vs j).active (option_and_then bucket_of (cond (h.placed j) None (option_and_then (sought_by s k.state n) (h.call j)))))
      ∙ seeks m.state.vs.active (m.now.calls n).placed (m.now.calls n).call
