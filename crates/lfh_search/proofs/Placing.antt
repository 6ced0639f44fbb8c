-- A block of the front end that is placed behind readings.
use Rattle.std.proofs.Common.{◌≡◌, ℕ, ◌/◌, Bool, true, List, [], ◌∷◌, ◌++◌, refl, sym, ap, ◌∙◌, subst, eq-eqb, append_assoc}
use Rattle.heap_model.specs.declared.Act.{Act}
use Rattle.heap_model.specs.declared.Act.TheVariants as acts
use Rattle.heap_model.specs.declared.Entry.{Entry}
use Rattle.heap_model.specs.declared.Layer.{Layer}
use Rattle.heap_model.specs.declared.Layer.TheVariants as layers
use Rattle.heap_model.specs.declared.What.TheVariants as whats
use Rattle.heap_model.specs.State.{Setting, Place, InHand, hands, in_hand, places_of}
use Rattle.heap_model.specs.CallState.{Configuration}
use Rattle.heap_model.specs.Legal.{after, put_hint}
use Rattle.heap_model.specs.History.{configuration_after}
use Rattle.heap_model.specs.Agreement.{AgreesFor}
use Rattle.heap_model.proofs.Others.{agrees_trans}
use Rattle.heap_model.proofs.Own.{call_own}
use Rattle.claim_rule.specs.Entries.{entry}
use Rattle.claim_rule.proofs.Lists.{after-append}
use Rattle.heap_model.specs.Buckets.{block_address, block_size}
use Rattle.step_parts.specs.InHand.{HasBlock}
use Rattle.step_parts.specs.Claims.{owed_by_place}
use Rattle.heap_gate.specs.Token.{Token, now, Always, is_out}
use Rattle.heap_gate.specs.Calls.{Runs, Stands, stance}
use Rattle.data_words.proofs.Copying.{does_then}
use Rattle.lfh_claims.specs.Moves.{Moves, block_place}
use Rattle.lfh_claims.specs.Search.{own_slot}
use Rattle.lfh_search.specs.Acts.{by, AreReadings}
use Rattle.lfh_search.specs.Results.{Went, HasPlaced, place}
use Rattle.lfh_search.proofs.Steps.{earlier, act_same, by-append, readings-append}

module _ (s : Setting) (n : ℕ) (m k : Configuration) (r : AgreesFor n m k) (start granules : ℕ) where
  abbrev act : Act
  act = acts.Place start granules layers.Lfh

  placed : Place
  placed = record { start = start; granules = granules; layer = layers.Lfh; status = InHand n }

  front : in_hand n (placed ∷ m.state.lfh) ≡ in_hand n (placed ∷ k.state.lfh)
  unfolding placed
  front = let h = eq-eqb n n refl in rw h (ap (λ (ps : List Place). placed ∷ ps) (r.hands layers.Lfh))

  hand : (l : Layer) → in_hand n (places_of (after s m (entry n act)).state l) ≡ in_hand n (places_of (after s k (entry n act)).state l)
  unfolding placed
  hand layers.Lfh = front
  hand layers.Vs = r.hands layers.Vs
  hand layers.Back = r.hands layers.Back
  hand layers.Large = r.hands layers.Large

  -- what its caller alone decides is as it was, but for the place
  pub place_same : AgreesFor n (after s m (entry n act)) (after s k (entry n act))
  unfolding placed
  place_same = record {
    counted = r.counted;
    turning = r.turning;
    owner = r.owner;
    locks = r.locks;
    call = call_own s n m k r act;
    hands = hand;
    active = r.active;
    vs = r.vs;
    spans = r.spans;
    back = r.back;
    span_history = λ h j. put_hint (r.back h j).area (r.span_history h j) start (r.locks whats.Back j);
    large = r.large;
    owned = λ o. let h = r.owned o in record {
      back = h.back;
      vs = h.vs;
      lfh = ap (λ (ps : List Place). placed ∷ ps) h.lfh;
      large = h.large;
      words = h.words;
      span_history = λ j. put_hint (h.back j).area (h.span_history j) start (r.locks whats.Back j);
    };
  }

-- .. and behind readings
front_same : (s : Setting) (n start granules : ℕ) (its : List Act) (m k : Configuration) → AreReadings its → AgreesFor n m k
    → AgreesFor n (configuration_after s m (by n (its ++ acts.Place start granules layers.Lfh ∷ []))) (configuration_after s k (by n (its ++ acts.Place start granules layers.Lfh ∷ [])))
front_same s n start granules [] m k are r = place_same s n m k r start granules
front_same s n start granules (x ∷ its) m k are r = front_same s n start granules its (after s m (entry n x)) (after s k (entry n x)) are.1 (act_same s n m k r x are.0)

-- It is placed behind other entries.
pub moves_then : (a c e : Token) (xs : List Entry) (its : List Act) (start granules : ℕ) (HandsAre : List Place → List Place → Type 0) → AreReadings its → Runs a c xs
    → Moves c e (by c.number (its ++ acts.Place start granules layers.Lfh ∷ [])) HandsAre → Moves a e (xs ++ by a.number (its ++ acts.Place start granules layers.Lfh ∷ [])) HandsAre
moves_then a c e xs its start granules HandsAre are x y0 = record {
  does = does_then a c e xs ys x.does y.does;
  agrees = λ s q.
      let q1 = earlier c e ys y.does s q in
      let first : AgreesFor a.number (configuration_after s (now s c) ys) (configuration_after s (configuration_after s (now s a) xs) ys) = front_same s a.number start granules its (now s c) (configuration_after s (now s a) xs) are (x.agrees s q1) in
      let second = subst (λ (n : ℕ). AgreesFor n (now s e) (configuration_after s (now s c) ys)) x.does.number (y.agrees s q) in
      subst (AgreesFor a.number (now s e)) (sym (after-append s (now s a) xs ys)) (agrees_trans a.number (now s e) (configuration_after s (now s c) ys) (configuration_after s (configuration_after s (now s a) xs) ys) second first);
  hands = λ s q. subst (λ (ps : List Place). HandsAre ps (hands (now s e).state a.number)) (x.hands s (earlier c e ys y.does s q)) (subst (λ (n : ℕ). HandsAre (hands (now s c).state n) (hands (now s e).state n)) x.does.number (y.hands s q));
}
  where
    ys : List Entry
    ys = by a.number (its ++ acts.Place start granules layers.Lfh ∷ [])

    y : Moves c e ys HandsAre
    y = subst (λ (n : ℕ). Moves c e (by n (its ++ acts.Place start granules layers.Lfh ∷ [])) HandsAre) x.does.number y0

-- what a call came to behind readings, from before them
pub placed_behind : (a c e : Token) (b head i : ℕ) (xs : List Act) (u : Bool) → AreReadings xs → Runs a c (by a.number xs) → Stands c (record (stance a) { searched = u }) → own_slot c ≡ own_slot a → HasPlaced c e b head i → HasPlaced a e b head i
placed_behind a c e b head i xs u are r w t h = record {
  its = xs ++ h.its;
  are = readings-append xs h.its are h.are;
  below = h.below;
  moves = subst (λ (es : List Entry). Moves a e es (λ before behind. behind ≡ block_place b head i a.number ∷ before)) (sym lists)
      (moves_then a c e (by a.number xs) h.its (block_address b head i) (block_size b / 16) (λ before behind. behind ≡ block_place b head i a.number ∷ before) h.are r
      (subst (λ (n : ℕ). Moves c e (by c.number (h.its ++ place b head i ∷ [])) (λ before behind. behind ≡ block_place b head i n ∷ before)) r.does.number h.moves));
  hint = h.hint;
  stands = record {
    call = h.stands.call ∙ w.call;
    fresh = h.stands.fresh ∙ w.fresh;
    locked = h.stands.locked ∙ w.locked;
    inside = h.stands.inside ∙ w.inside;
    depth = h.stands.depth ∙ w.depth;
    out = h.stands.out ∙ w.out;
    owes = h.stands.owes ∙ (λ j. owed_by_place (is_out whats.Back (w.out j)) b (t j) h.hint (w.owes j));
    free = h.stands.free;
    searches = h.stands.searches ∙ w.searches;
    searched = h.stands.searched;
    drawn = h.stands.drawn ∙ w.drawn;
    whole = h.stands.whole;
    pending = h.stands.pending;
    prepared = h.stands.prepared;
  };
  block = subst (λ (n : ℕ). Always e (λ s. HasBlock (now s e) n b (block_address b head i))) r.does.number h.block;
}
  where
    lists : by a.number ((xs ++ h.its) ++ place b head i ∷ []) ≡ by a.number xs ++ by a.number (h.its ++ place b head i ∷ [])
    lists = ap (by a.number) (append_assoc xs h.its (place b head i ∷ [])) ∙ by-append a.number xs (h.its ++ place b head i ∷ [])

pub placed_then : (a c e : Token) (b head i : ℕ) (xs : List Act) → AreReadings xs → Went a c xs → own_slot c ≡ own_slot a → HasPlaced c e b head i → HasPlaced a e b head i
placed_then a c e b head i [] are w t h = subst (λ (z : Token). HasPlaced z e b head i) w h
placed_then a c e b head i (x ∷ xs) are w t h = placed_behind a c e b head i (x ∷ xs) true are w.0 w.1 t h
