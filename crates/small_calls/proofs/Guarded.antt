-- What a caller's locks guard stays, where its own entries leave it.
use Rattle.std.proofs.Common.{◌≡◌, ◌≢◌, ℕ, zero, suc, ◌+◌, Bool, true, false, List, [], ◌∷◌, ◌++◌, Some, refl, sym, ap, ◌∙◌, subst, arith}
use Rattle.std.proofs.lemmas.Bool.{both_ways}
use Rattle.heap_model.specs.declared.Act.{Act}
use Rattle.heap_model.specs.declared.Act.TheVariants as acts
use Rattle.heap_model.specs.declared.Layer.TheVariants as layers
use Rattle.heap_model.specs.declared.What.{What}
use Rattle.heap_model.specs.declared.What.TheVariants as whats
use Rattle.heap_model.specs.Ranges.{vs_spans}
use Rattle.heap_model.specs.State.{State, Setting, GateAndLocks, BackPart, Place, Live, hand_at, is_hand_at, holds, change_found}
use Rattle.heap_model.specs.CallState.{Configuration}
use Rattle.heap_model.specs.Legal.{after, with_status}
use Rattle.heap_model.specs.History.{configuration_after}
use Rattle.heap_model.specs.Agreement.{AgreesFor}
use Rattle.claim_rule.specs.Entries.{entry}
use Rattle.claim_rule.proofs.Lists.{after-append}
use Rattle.step_parts.proofs.BlocksInHand.{found_lfh}
use Rattle.heap_gate.specs.Token.{Token, Always, now}
use Rattle.heap_gate.specs.Calls.{IsGuarded}
use Rattle.data_words.specs.Clears.{clears}
use Rattle.call_parts.specs.Entries.{Zeroes}
use Rattle.lfh_search.specs.Acts.{by, AreReadings}
use Rattle.lfh_search.proofs.Steps.{by-append}
use Rattle.lfh_search.proofs.Words.{left}

-- .. and its locks are the same
pub record IsLeft (n : ℕ) (m k : Configuration) : Type 0 where
  pub locks : (w : What) → holds k.state.gate n w ≡ holds m.state.gate n w
  pub guarded : IsGuarded n m k

pub left_self : (n : ℕ) (m : Configuration) → IsLeft n m m
left_self n m = record { locks = λ w. refl; guarded = record { vs = λ h. refl; spans = λ h. refl; back = λ h. refl; span_history = λ h. refl; large = λ h. refl } }

pub guarded_then : (n : ℕ) (l m k : Configuration) → IsLeft n l m → IsGuarded n m k → IsGuarded n l k
guarded_then n l m k x y = record {
  vs = λ h. y.vs (x.locks whats.Vs ∙ h) ∙ x.guarded.vs h;
  spans = λ h. y.spans (x.locks whats.Vs ∙ h) ∙ x.guarded.spans h;
  back = λ h. y.back (x.locks whats.Back ∙ h) ∙ x.guarded.back h;
  span_history = λ h. y.span_history (x.locks whats.Back ∙ h) ∙ x.guarded.span_history h;
  large = λ h. y.large (x.locks whats.Large ∙ h) ∙ x.guarded.large h;
}

pub left_then : (n : ℕ) (l m k : Configuration) → IsLeft n l m → IsLeft n m k → IsLeft n l k
left_then n l m k x y = record { locks = λ w. y.locks w ∙ x.locks w; guarded = guarded_then n l m k x y.guarded }

---- Entries that leave it

-- what locks guard is in k as in m, but for what is remembered of spans
record IsAlike (m k : Configuration) : Type 0 where
  pub gate : k.state.gate ≡ m.state.gate
  pub vs : k.state.vs ≡ m.state.vs
  pub back : k.state.back ≡ m.state.back
  pub large : k.state.large ≡ m.state.large

left_by : (n : ℕ) (m m' k : Configuration) → IsAlike m m' → (holds m.state.gate n whats.Back ≡ true → m'.now.span_history ≡ m.now.span_history) → AgreesFor n k m' → IsLeft n m k
left_by n m m' k a e r = record {
  locks = λ w. r.locks w ∙ held w;
  guarded = record {
    vs = λ h. r.vs (held whats.Vs ∙ h) ∙ a.vs;
    spans = λ h. r.spans (held whats.Vs ∙ h) ∙ ap (λ (b : BackPart). vs_spans b.area) a.back;
    back = λ h. r.back (held whats.Back ∙ h) ∙ a.back;
    span_history = λ h. r.span_history (held whats.Back ∙ h) ∙ e h;
    large = λ h. r.large (held whats.Large ∙ h) ∙ a.large;
  };
}
  where
    held : (w : What) → holds m'.state.gate n w ≡ holds m.state.gate n w
    held w = ap (λ (g : GateAndLocks). holds g n w) a.gate

alike_then : (l m k : Configuration) → IsAlike l m → IsAlike m k → IsAlike l k
alike_then l m k x y = record { gate = y.gate ∙ x.gate; vs = y.vs ∙ x.vs; back = y.back ∙ x.back; large = y.large ∙ x.large }

-- stores
clears_alike : (s : Setting) (n word count : ℕ) (m : Configuration) → IsAlike m (configuration_after s m (clears n word count)) × ((configuration_after s m (clears n word count)).now.span_history ≡ m.now.span_history)
clears_alike s n word zero m = (record { gate = refl; vs = refl; back = refl; large = refl }, refl)
clears_alike s n word (suc count) m = let x = clears_alike s n (word + 1) count (after s m (entry n (acts.Store word 0))) in (record { gate = x.0.gate; vs = x.0.vs; back = x.0.back; large = x.0.large }, x.1)

pub zero_left : (a b : Token) (word count : ℕ) (zero_it : Bool) → Zeroes a b word count zero_it → Always b (λ s. IsLeft a.number (now s a) (now s b))
zero_left a b word count false e s q = subst (λ (t : Token). IsLeft a.number (now s a) (now s t)) (sym e) (left_self a.number (now s a))
zero_left a b word zero true e s q = subst (λ (t : Token). IsLeft a.number (now s a) (now s t)) (sym (e.none refl)) (left_self a.number (now s a))
zero_left a b word (suc count) true e s q =
    let some : suc count ≢ 0 = λ no. let bad : ⊥ = omega (arith, no) in bad in
    let x = clears_alike s a.number word (suc count) (now s a) in
    left_by a.number (now s a) (configuration_after s (now s a) (clears a.number word (suc count))) (now s b) x.0 (λ h. x.1) ((e.runs some).agrees s q)

-- a block of the front end in hand becomes live
pub give_left : (s : Setting) (n addr size : ℕ) (m k : Configuration) (p : Place) → hand_at m.state n addr ≡ Some p → p.layer ≡ layers.Lfh → AgreesFor n k (after s m (entry n (acts.Give addr size))) → IsLeft n m k
give_left s n addr size m k p e l r =
    let is = found_lfh m.state (hand_at m.state n addr) p (change_found (is_hand_at n addr) (with_status (Live size))) e l in
    left_by n m (after s m (entry n (acts.Give addr size))) k
    (record { gate = refl; vs = ap (λ (x : State). x.vs) is; back = ap (λ (x : State). x.back) is; large = ap (λ (x : State). x.large) is }) (λ h. refl) r

-- A block is placed behind readings, without Back.
pub place_left : (s : Setting) (n start granules : ℕ) (its : List Act) (m k : Configuration) → AreReadings its → holds m.state.gate n whats.Back ≡ false
    → AgreesFor n k (configuration_after s m (by n (its ++ acts.Place start granules layers.Lfh ∷ []))) → IsLeft n m k
place_left s n start granules its m k are free r =
    let read = configuration_after s m (by n its) in
    let x = left s n its m are in
    let first : IsAlike m read = record { gate = ap (λ (y : State). y.gate) x.0; vs = ap (λ (y : State). y.vs) x.0; back = ap (λ (y : State). y.back) x.0; large = ap (λ (y : State). y.large) x.0 } in
    let second : IsAlike read (after s read (entry n (acts.Place start granules layers.Lfh))) = record { gate = refl; vs = refl; back = refl; large = refl } in
    let is : configuration_after s m (by n (its ++ acts.Place start granules layers.Lfh ∷ [])) ≡ after s read (entry n (acts.Place start granules layers.Lfh)) =
    ap (configuration_after s m) (by-append n its (acts.Place start granules layers.Lfh ∷ [])) ∙ after-append s m (by n its) (entry n (acts.Place start granules layers.Lfh) ∷ []) in
    left_by n m (after s read (entry n (acts.Place start granules layers.Lfh))) k (alike_then m read (after s read (entry n (acts.Place start granules layers.Lfh))) first second)
    (λ h. absurd (both_ways (holds m.state.gate n whats.Back) free h)) (subst (AgreesFor n k) is r)

-- Readings alone leave it.
pub read_left : (s : Setting) (n : ℕ) (its : List Act) (m k : Configuration) → AreReadings its → AgreesFor n k (configuration_after s m (by n its)) → IsLeft n m k
read_left s n its m k are r =
    let x = left s n its m are in
    left_by n m (configuration_after s m (by n its)) k
    (record { gate = ap (λ (y : State). y.gate) x.0; vs = ap (λ (y : State). y.vs) x.0; back = ap (λ (y : State). y.back) x.0; large = ap (λ (y : State). y.large) x.0 }) (λ h. x.1) r
