-- A caller that has a block of the front end in hand, in front of what was: its old block is as it was.
use Rattle.std.proofs.Common.{◌≡◌, ℕ, ◌+◌, ◌/◌, ◌≤◌, ◌&&◌, true, false, List, [], ◌∷◌, ◌++◌, Some, refl, sym, ap, ◌∙◌, subst}
use Rattle.std.specs.Prelude.{nat_le}
use Rattle.std.specs.List.{find}
use Rattle.std.proofs.lemmas.Bool.{true≢false, eqb-true, le-leb}
use Rattle.std.proofs.lemmas.List.{append-nil}
use Rattle.heap_model.specs.declared.Layer.{Layer}
use Rattle.heap_model.specs.declared.Layer.TheVariants as layers
use Rattle.heap_model.specs.declared.What.TheVariants as whats
use Rattle.heap_model.specs.State.{Setting, BackPart, VsPart, Place, Live, InHand, is_layer, address, has_address, in_hand, hands, holds, is_in_hand_of, places_of, all_places, exclusive_places}
use Rattle.heap_model.specs.CallState.{Configuration, caller_view}
use Rattle.heap_model.specs.Geometry.{units_of, route_of, is_paged, is_huge}
use Rattle.heap_model.specs.Ranges.{gaps_of}
use Rattle.heap_model.specs.Stay.{lets_stay, run_from}
use Rattle.heap_model.specs.Legal.{may_touch}
use Rattle.heap_model.specs.Agreement.{AgreesFor}
use Rattle.heap_model.proofs.Stable.{same_exclusive}
use Rattle.heap_soundness.specs.Sound.{IsOneOf}
use Rattle.heap_soundness.specs.Invariant.{Keeps}
use Rattle.heap_soundness.proofs.Addresses.{one_address}
use Rattle.heap_soundness.proofs.GapRuns.{filtered_cases}
use Rattle.heap_soundness.proofs.Lists.{found_in, found_passes}
use Rattle.heap_soundness.proofs.Whole.{all_disjoint, all_addresses}
use Rattle.call_laws.proofs.Within.{among_all}
use Rattle.call_parts.proofs.VsBlocks.{has_nothing}
use Rattle.move_front.specs.Front.{IsBesideFront}
use Rattle.move_front.proofs.Movers.{keeps_behind_block, keeps_without_block}
use Rattle.move_parts.specs.Moves.{IsHeld}
use Rattle.move_to_front.specs.Halfway.{HoldsFrontPlace}

-- what n holds of a layer behind the front end stays where its lock is held
touch_beside : (n : ℕ) (m k : Configuration) (l : Layer) → IsBesideFront n m k → may_touch (caller_view k n) l ≡ may_touch (caller_view m n) l
touch_beside n m k layers.Lfh x = refl
touch_beside n m k layers.Vs x = x.locks whats.Vs
touch_beside n m k layers.Back x = x.locks whats.Back
touch_beside n m k layers.Large x = x.locks whats.Large

list_beside : (n : ℕ) (m k : Configuration) (l : Layer) → IsBesideFront n m k → is_layer l layers.Lfh ≡ false → may_touch (caller_view m n) l ≡ true → places_of k.state l ≡ places_of m.state l
list_beside n m k layers.Lfh x f t = absurd (true≢false f)
list_beside n m k layers.Vs x f t = x.vs t
list_beside n m k layers.Back x f t = x.back t
list_beside n m k layers.Large x f t = x.large t

-- .. and so it does between entries of others
touch_agrees : (n : ℕ) (k j : Configuration) (l : Layer) → AgreesFor n j k → may_touch (caller_view j n) l ≡ may_touch (caller_view k n) l
touch_agrees n k j layers.Lfh x = refl
touch_agrees n k j layers.Vs x = x.locks whats.Vs
touch_agrees n k j layers.Back x = x.locks whats.Back
touch_agrees n k j layers.Large x = x.locks whats.Large

list_agrees : (n : ℕ) (k j : Configuration) (l : Layer) → AgreesFor n j k → is_layer l layers.Lfh ≡ false → may_touch (caller_view k n) l ≡ true → places_of j.state l ≡ places_of k.state l
list_agrees n k j layers.Lfh x f t = absurd (true≢false f)
list_agrees n k j layers.Vs x f t = ap (λ (v : VsPart). v.places) (x.vs t)
list_agrees n k j layers.Back x f t = ap (λ (v : BackPart). v.places) (x.back t)
list_agrees n k j layers.Large x f t = x.large t

not_paged : (n : ℕ) → n ≤ 16368 → (is_paged (route_of n) ≡ false) × (is_huge (route_of n) ≡ false)
not_paged n l = let e = le-leb n 16368 l in (rw e refl, rw e refl)

module _ (s : Setting) (n : ℕ) (m k j : Configuration) (bs : IsBesideFront n m k) (ag : AgreesFor n j k) where
  there_then : (addr size : ℕ) (p : Place) → IsHeld m n addr p size → find (has_address addr) (places_of j.state p.layer) ≡ Some p
  there_then addr size p old =
      let t = touch_beside n m k p.layer bs ∙ old.touch in
      ap (find (has_address addr)) (list_agrees n k j p.layer ag old.behind t ∙ list_beside n m k p.layer bs old.behind old.touch) ∙ old.there

  touch_then : (addr size : ℕ) (p : Place) → IsHeld m n addr p size → may_touch (caller_view j n) p.layer ≡ true
  touch_then addr size p old = touch_agrees n k j p.layer ag ∙ (touch_beside n m k p.layer bs ∙ old.touch)

  -- what lets a block stay is told by what its holder has, and not by the front end
  pub stays_agreed : (size : ℕ) (p : Place) → may_touch (caller_view m n) p.layer ≡ true → size ≤ 16368 → lets_stay s.limits j.state p size ≡ lets_stay s.limits k.state p size
  stays_agreed size p touch few = by p.layer refl touch
    where
      by : (l : Layer) → p.layer ≡ l → may_touch (caller_view m n) l ≡ true → lets_stay s.limits j.state p size ≡ lets_stay s.limits k.state p size
      by layers.Lfh e t = rw e refl
      by layers.Vs e t =
          let h : holds k.state.gate n whats.Vs ≡ true = bs.locks whats.Vs ∙ t in
          rw e (λ i. nat_le size 131072 && nat_le (units_of size) (p.granules + run_from (gaps_of (ag.spans h i) (ag.vs h i).places) (p.start / 16 + p.granules)))
      by layers.Back e t = let z = (not_paged size few).0 in rw (e, z) refl
      by layers.Large e t = let z = (not_paged size few).1 in rw (e, z) refl

  -- with nothing new in hand
  pub held_beside : hands k.state n ≡ hands m.state n → (addr size : ℕ) (p : Place) → IsHeld m n addr p size → IsHeld j n addr p size
  held_beside h addr size p old = record {
    first = ap (find (has_address addr)) (same_exclusive s n j k ag ∙ keeps_without_block n m k bs h) ∙ old.first;
    there = there_then addr size p old;
    live = old.live;
    behind = old.behind;
    touch = touch_then addr size p old;
  }

  -- a block of the front end is in hand, and was all that was
  module _ (q : Place) (h : hands k.state n ≡ q ∷ hands m.state n) (none : hands m.state n ≡ []) where
    pub holds_place : HoldsFrontPlace j.state n q
    holds_place =
        let z = has_nothing m.state n none in
        let v : in_hand n k.state.vs.places ≡ [] = bs.hand layers.Vs refl ∙ z.vs in
        let b : in_hand n k.state.back.places ≡ [] = bs.hand layers.Back refl ∙ z.back in
        let l : in_hand n k.state.large ≡ [] = bs.hand layers.Large refl ∙ z.large in
        let f = in_hand n k.state.lfh in
        let all : ((f ++ []) ++ []) ++ [] ≡ q ∷ [] = sym (λ i. ((f ++ v i) ++ b i) ++ l i) ∙ (h ∙ ap (λ (ps : List Place). q ∷ ps) none) in
        let one : f ≡ q ∷ [] = sym (append-nil ((f ++ []) ++ []) ∙ (append-nil (f ++ []) ∙ append-nil f)) ∙ all in
        record { lfh = ag.hands layers.Lfh ∙ one; vs = ag.hands layers.Vs ∙ v; back = ag.hands layers.Back ∙ b; large = ag.hands layers.Large ∙ l }

    pub held_behind : (addr size : ℕ) (p : Place) → has_address addr q ≡ false → IsHeld m n addr p size → IsHeld j n addr p size
    held_behind addr size p other old = record {
      first =
          let e : find (has_address addr) (q ∷ exclusive_places m.state n) ≡ find (has_address addr) (exclusive_places m.state n) = rw other refl in
          ap (find (has_address addr)) (same_exclusive s n j k ag ∙ keeps_behind_block n m k q bs h) ∙ (e ∙ old.first);
      there = there_then addr size p old;
      live = old.live;
      behind = old.behind;
      touch = touch_then addr size p old;
    }

    -- In a sound configuration the two have two addresses.
    pub two_apart : Keeps s j → (addr size : ℕ) (p : Place) → IsHeld m n addr p size → q.status ≡ InHand n → addr ≡ address q → ⊥
    two_apart w addr size p old status e =
        let there = there_then addr size p old in
        let ip = found_in (has_address addr) (places_of j.state p.layer) p there in
        let mine : IsOneOf q (in_hand n j.state.lfh) = subst (IsOneOf q) (sym holds_place.lfh) (Rattle.std.proofs.Common.inl refl) in
        let iq = (filtered_cases (λ (x : Place). is_in_hand_of n x.status) q j.state.lfh mine).0 in
        let at : address p ≡ addr = eqb-true (address p) addr (found_passes (has_address addr) (places_of j.state p.layer) p there) in
        let same : p ≡ q = one_address (all_places j.state) p q (all_disjoint s j w) (all_addresses s j w) (among_all j.state p.layer p ip) (among_all j.state layers.Lfh q iq) (at ∙ e) in
        let bad : Live size ≡ InHand n = sym old.live ∙ (ap (λ (y : Place). y.status) same ∙ status) in
        let no : ⊥ = cc (bad) in no
