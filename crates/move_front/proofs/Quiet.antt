-- What a caller holds stays through acts of its own that leave it, and whatever others do.
use Rattle.std.proofs.Common.{◌≡◌, ℕ, ◌+◌, ◌*◌, ◌/◌, ◌==◌, ◌≤◌, Bool, true, false, ◌&&◌, [], ◌∷◌, ◌++◌, Some, refl, sym, ap, ◌∙◌, subst, inl, inr}
use Rattle.std.specs.Prelude.{is_some, nat_le}
use Rattle.std.specs.List.{list_all, find}
use Rattle.std.proofs.lemmas.Bool.{cases_Bool, and_parts, and_from, eqb-true, eqb-false, false≢true, le-leb}
use Rattle.heap_model.specs.declared.Act.{Act}
use Rattle.heap_model.specs.declared.Act.TheVariants as acts
use Rattle.heap_model.specs.declared.Entry.{Entry}
use Rattle.heap_model.specs.declared.Layer.{Layer}
use Rattle.heap_model.specs.declared.Layer.TheVariants as layers
use Rattle.heap_model.specs.Agreement.{AgreesFor, GateIsSound}
use Rattle.heap_model.specs.CallState.{Configuration, caller_view}
use Rattle.heap_model.specs.Geometry.{units_of, pages_of, route_of, is_paged, is_huge}
use Rattle.heap_model.specs.History.{own, configuration_after, may_all_follow}
use Rattle.heap_model.specs.Legal.{after, may_follow, may_touch}
use Rattle.heap_model.specs.Ranges.{vs_spans, gaps_of}
use Rattle.heap_model.specs.State.{Setting, BackPart, VsPart, GateAndLocks, hands, holds, in_hand, places_of, is_layer, has_address, exclusive_places, all_places, place_at}
use Rattle.heap_model.specs.Stay.{run_from, reach, reach_in, lets_stay_in}
use Rattle.heap_model.proofs.GateSound.{row_of, gate_sound_after}
use Rattle.heap_model.proofs.Others.{act_other}
use Rattle.heap_model.proofs.Stable.{find-gate, same_hands}
use Rattle.claim_rule.specs.Entries.{entry}
use Rattle.move_front.specs.Front.{IsBesideFront, is_quiet}
use Rattle.move_front.specs.Laws.{QuietKeeps, StillMoves}
use Rattle.move_front.proofs.Kept.{beside_self, beside_then}
use Rattle.move_front.proofs.Movers.{keeps_without_block}

-- .. and what is in its hand
abbrev IsQuietly : ℕ → Configuration → Configuration → Type 0
IsQuietly n m k = IsBesideFront n m k × (hands k.state n ≡ hands m.state n)

alike : (n : ℕ) (m k : Configuration) → k.state.gate ≡ m.state.gate → k.state.lfh ≡ m.state.lfh → k.state.vs.places ≡ m.state.vs.places → vs_spans k.state.back.area ≡ vs_spans m.state.back.area → k.state.back.places ≡ m.state.back.places
    → k.state.large ≡ m.state.large → IsQuietly n m k
alike n m k gate lfh vs spans back large = (
  record {
    locks = λ w. ap (λ (g : GateAndLocks). holds g n w) gate;
    vs = λ h. vs;
    spans = λ h. spans;
    back = λ h. back;
    large = λ h. large;
    hand = hand;
  },
  (λ i. in_hand n (lfh i) ++ in_hand n (vs i) ++ in_hand n (back i) ++ in_hand n (large i)),
)
  where
    hand : (l : Layer) → is_layer l layers.Lfh ≡ false → in_hand n (places_of k.state l) ≡ in_hand n (places_of m.state l)
    hand layers.Lfh e = ap (in_hand n) lfh
    hand layers.Vs e = ap (in_hand n) vs
    hand layers.Back e = ap (in_hand n) back
    hand layers.Large e = ap (in_hand n) large

quiet_act : (s : Setting) (n : ℕ) (m : Configuration) (act : Act) → is_quiet act ≡ true → IsQuietly n m (after s m (entry n act))
quiet_act s n m (acts.Active b) i = alike n m (after s m (entry n (acts.Active b))) refl refl refl refl refl refl
quiet_act s n m (acts.Reserve segment) i = alike n m (after s m (entry n (acts.Reserve segment))) refl refl refl refl refl refl
quiet_act s n m (acts.Saw head word bits) i = alike n m (after s m (entry n (acts.Saw head word bits))) refl refl refl refl refl refl
quiet_act s n m (acts.Lost head index) i = alike n m (after s m (entry n (acts.Lost head index))) refl refl refl refl refl refl
quiet_act s n m (acts.NoHint bucket slot) i = alike n m (after s m (entry n (acts.NoHint bucket slot))) refl refl refl refl refl refl
quiet_act s n m (acts.NoSpan bucket) i = alike n m (after s m (entry n (acts.NoSpan bucket))) refl refl refl refl refl refl
quiet_act s n m _ i = absurd (false≢true i)

other_act : (s : Setting) (n : ℕ) (m k : Configuration) → AgreesFor n k m → IsQuietly n m k
other_act s n m k r = (
  record {
    locks = r.locks;
    vs = λ h. ap (λ (v : VsPart). v.places) (r.vs h);
    spans = r.spans;
    back = λ h. ap (λ (b : BackPart). b.places) (r.back h);
    large = r.large;
    hand = λ l e. r.hands l;
  },
  same_hands s n k m r,
)

then_quietly : (n : ℕ) (l m k : Configuration) → IsQuietly n l m → IsQuietly n m k → IsQuietly n l k
then_quietly n l m k x y = (beside_then n l m k x.0 y.0, y.1 ∙ x.1)

pub quiet_keeps : QuietKeeps
quiet_keeps s n [] m l g q = (beside_self n m, refl)
quiet_keeps s n (e ∷ es) m l g q =
    let p = and_parts (may_follow s m e) (may_all_follow s (after s m e) es) l in
    let g1 : GateIsSound (after s m e).state.gate = gate_sound_after s m (e ∷ []) (and_from (may_follow s m e) true p.0 refl) g in
    elim (cases_Bool (e.caller == n)) [
      | inl f ↦
          let own_is : own n (e ∷ es) ≡ e ∷ own n es = rw f refl in
          let q2 = and_parts (is_quiet e.act) (list_all (λ (x : Entry). is_quiet x.act) (own n es)) (ap (list_all (λ (x : Entry). is_quiet x.act)) (sym own_is) ∙ q) in
          let one : IsQuietly n m (after s m e) = subst (λ (c : ℕ). IsQuietly c m (after s m e)) (eqb-true e.caller n f) (quiet_act s e.caller m e.act q2.0) in
          then_quietly n m (after s m e) (configuration_after s (after s m e) es) one (quiet_keeps s n es (after s m e) p.1 g1 q2.1)
      | inr f ↦
          let own_is : own n (e ∷ es) ≡ own n es = rw f refl in
          let r = act_other s m e.caller n e.act (eqb-false e.caller n f) (row_of s m e p.0) g in
          then_quietly n m (after s m e) (configuration_after s (after s m e) es) (other_act s n m (after s m e) r) (quiet_keeps s n es (after s m e) p.1 g1 (ap (list_all (λ (x : Entry). is_quiet x.act)) (sym own_is) ∙ q))
    ]

---- The block is still where it was

not_paged : (n : ℕ) → n ≤ 16368 → (is_paged (route_of n) ≡ false) × (is_huge (route_of n) ≡ false)
not_paged n l = let e = le-leb n 16368 l in (rw e refl, rw e refl)

pub still_moves : StillMoves
still_moves s m k n addr size p x h first touch few leaves = (place, by_layer p.layer refl touch leaves)
  where
    first_k : find (has_address addr) (exclusive_places k.state n) ≡ Some p
    first_k = ap (find (has_address addr)) (keeps_without_block n m k x h) ∙ first

    place : place_at k.state n addr ≡ Some p
    place = find-gate (has_address addr) (exclusive_places k.state n) (all_places k.state) (ap is_some first_k) ∙ first_k

    by_layer : (l : Layer) → p.layer ≡ l → may_touch (caller_view m n) l ≡ true → lets_stay_in s.limits m.state p size l ≡ false → lets_stay_in s.limits k.state p size l ≡ false
    by_layer layers.Lfh e t f = f
    by_layer layers.Vs e t f =
        let same : reach_in s.limits k.state p layers.Vs ≡ reach_in s.limits m.state p layers.Vs = (λ i. p.granules + run_from (gaps_of (x.spans t i) (x.vs t i)) (p.start / 16 + p.granules)) in
        let all : reach s.limits k.state p ≡ reach s.limits m.state p = ap (reach_in s.limits k.state p) e ∙ (same ∙ sym (ap (reach_in s.limits m.state p) e)) in
        ap (λ (y : ℕ). nat_le size 131072 && nat_le (units_of size) y) all ∙ f
    by_layer layers.Back e t f = ap (λ (y : Bool). y && nat_le (256 * pages_of size) (reach s.limits k.state p)) (not_paged size few).0
    by_layer layers.Large e t f = ap (λ (y : Bool). y && nat_le (256 * pages_of size) (reach s.limits k.state p)) (not_paged size few).1
