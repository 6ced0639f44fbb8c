-- What a caller is shown by taking a lock, the heap lock, or a place of LFH.
use Rattle.std.proofs.Common.{◌≡◌, ℕ, List, ◌++◌, Option, Some, refl, ap}
use Rattle.std.specs.List.{find}
use Rattle.heap_model.specs.declared.Act.TheVariants as acts
use Rattle.heap_model.specs.declared.Layer.{Layer}
use Rattle.heap_model.specs.declared.Layer.TheVariants as layers
use Rattle.heap_model.specs.declared.What.{What}
use Rattle.heap_model.specs.declared.What.TheVariants as whats
use Rattle.heap_model.specs.State.{GateAndLocks, Setting, Place, InHand, holds, places_of, in_hand, all_places, has_address, place_at, is_live_at, change_found}
use Rattle.heap_model.specs.CallState.{Configuration}
use Rattle.heap_model.specs.Legal.{after, with_holder, with_status, on, layer_of}
use Rattle.heap_model.specs.Agreement.{AgreesFor, revealed}
use Rattle.heap_model.proofs.Agreement.{agrees_revealed}
use Rattle.heap_model.proofs.Stable.{same_exclusive}
use Rattle.heap_model.proofs.Own.{call_own}

taken_same : (f g : GateAndLocks) (what w : What) (c : ℕ) → holds f c w ≡ holds g c w → holds (with_holder f what (Some c)) c w ≡ holds (with_holder g what (Some c)) c w
taken_same f g whats.Lfh whats.Lfh c e = refl
taken_same f g whats.Vs whats.Vs c e = refl
taken_same f g whats.Back whats.Back c e = refl
taken_same f g whats.Large whats.Large c e = refl
taken_same f g whats.Gate _ c e = e
taken_same f g whats.Lfh _ c e = e
taken_same f g whats.Vs _ c e = e
taken_same f g whats.Back _ c e = e
taken_same f g whats.Large _ c e = e

module _ (s : Setting) (c : ℕ) (m n : Configuration) (r : AgreesFor c m n) where
  abbrev seen : Configuration
  seen = revealed m n

  -- a lock that c takes in m shows it what the lock guards
  pub take_agrees : (what : What) → AgreesFor c (after s m (record { caller = c; act = acts.TakeLock what })) (after s seen (record { caller = c; act = acts.TakeLock what }))
  take_agrees what = record {
    counted = r.counted;
    turning = r.turning;
    owner = r.owner;
    locks = λ w. taken_same m.state.gate n.state.gate what w c (r.locks w);
    call = call_own s c m seen (agrees_revealed c m n r) (acts.TakeLock what);
    hands = λ l. hand l;
    active = λ b h. h;
    vs = λ _. refl;
    spans = λ _. refl;
    back = λ _. refl;
    span_history = λ _. refl;
    large = λ _. refl;
    owned = λ _. record { back = refl; vs = refl; lfh = refl; large = refl; words = refl; span_history = refl };
  }
    where
      hand : (l : Layer) → in_hand c (places_of (after s m (record { caller = c; act = acts.TakeLock what })).state l) ≡ in_hand c (places_of (after s seen (record { caller = c; act = acts.TakeLock what })).state l)
      hand layers.Lfh = refl
      hand layers.Vs = refl
      hand layers.Back = refl
      hand layers.Large = refl

  pub lock_agrees : AgreesFor c (after s m (record { caller = c; act = acts.Lock })) (after s seen (record { caller = c; act = acts.Lock }))
  lock_agrees = record {
    counted = r.counted;
    turning = r.turning;
    owner = refl;
    locks = r.locks;
    call = call_own s c m seen (agrees_revealed c m n r) acts.Lock;
    hands = λ l. hand l;
    active = λ b h. h;
    vs = λ _. refl;
    spans = λ _. refl;
    back = λ _. refl;
    span_history = λ _. refl;
    large = λ _. refl;
    owned = λ _. record { back = refl; vs = refl; lfh = refl; large = refl; words = refl; span_history = refl };
  }
    where
      hand : (l : Layer) → in_hand c (places_of (after s m (record { caller = c; act = acts.Lock })).state l) ≡ in_hand c (places_of (after s seen (record { caller = c; act = acts.Lock })).state l)
      hand layers.Lfh = refl
      hand layers.Vs = refl
      hand layers.Back = refl
      hand layers.Large = refl

  -- the place that c takes is the one that it is shown
  same_place : (a : ℕ) → place_at m.state c a ≡ place_at seen.state c a
  same_place a = ap (λ (xs : List Place). find (has_address a) (xs ++ all_places m.state)) (same_exclusive s c m seen (agrees_revealed c m n r))

  pub take_place_agrees : (a size : ℕ) → AgreesFor c (after s m (record { caller = c; act = acts.Take a size })) (after s seen (record { caller = c; act = acts.Take a size }))
  take_place_agrees a size = record {
    counted = r.counted;
    turning = r.turning;
    owner = r.owner;
    locks = r.locks;
    call = call_own s c m seen (agrees_revealed c m n r) (acts.Take a size);
    hands = λ l. hand l;
    active = λ b h. h;
    vs = λ _. vs;
    spans = λ _. refl;
    back = λ _. back;
    span_history = λ _. refl;
    large = λ _. list layers.Large m.state.large;
    owned = λ _. record { back = back; vs = vs; lfh = list layers.Lfh m.state.lfh; large = list layers.Large m.state.large; words = refl; span_history = refl };
  }
    where
      list : (l : Layer) (ps : List Place) → on l (change_found (is_live_at a) (with_status (InHand c))) ps (layer_of (place_at m.state c a)) ≡ on l (change_found (is_live_at a) (with_status (InHand c))) ps (layer_of (place_at seen.state c a))
      list l ps = ap (λ (o : Option Place). on l (change_found (is_live_at a) (with_status (InHand c))) ps (layer_of o)) (same_place a)

      vs : (after s m (record { caller = c; act = acts.Take a size })).state.vs ≡ (after s seen (record { caller = c; act = acts.Take a size })).state.vs
      vs = ap (λ (ps : List Place). record { places = ps; active = m.state.vs.active; served = m.state.vs.served }) (list layers.Vs m.state.vs.places)

      back : (after s m (record { caller = c; act = acts.Take a size })).state.back ≡ (after s seen (record { caller = c; act = acts.Take a size })).state.back
      back = ap (λ (ps : List Place). record { area = m.state.back.area; places = ps }) (list layers.Back m.state.back.places)

      hand : (l : Layer) → in_hand c (places_of (after s m (record { caller = c; act = acts.Take a size })).state l) ≡ in_hand c (places_of (after s seen (record { caller = c; act = acts.Take a size })).state l)
      hand layers.Lfh = ap (in_hand c) (list layers.Lfh m.state.lfh)
      hand layers.Vs = ap (in_hand c) (list layers.Vs m.state.vs.places)
      hand layers.Back = ap (in_hand c) (list layers.Back m.state.back.places)
      hand layers.Large = ap (in_hand c) (list layers.Large m.state.large)
