-- A block that was placed or taken is in hand.
use Rattle.std.proofs.Common.{◌≡◌, ℕ, ◌*◌, ◌/◌, Bool, true, false, List, [], ◌∷◌, ◌++◌, refl, ap, ◌∙◌, subst, Option, Some, inl, inr, eqb, eq-eqb}
use Rattle.std.specs.Prelude.{is_some}
use Rattle.std.specs.List.{find, AllByRecursion}
use Rattle.std.proofs.lemmas.Bool.{cases_Bool}
use Rattle.heap_model.specs.declared.Act.TheVariants as acts
use Rattle.heap_model.specs.declared.Layer.{Layer}
use Rattle.heap_model.specs.declared.Layer.TheVariants as layers
use Rattle.heap_model.specs.Buckets.{block_size}
use Rattle.heap_model.specs.State.{State as HeapState, Setting, Place, Live, InHand, has_address, is_in_hand_of, is_live, is_live_at, in_hand, hand_at, place_at, change_found}
use Rattle.heap_model.specs.CallState.{Configuration}
use Rattle.heap_model.specs.Legal.{after, with_places, with_status, layer_of}
use Rattle.heap_soundness.specs.Sound.{IsOneOf}
use Rattle.search_laws.proofs.Blocks.{whole_granules}
use Rattle.claim_rule.specs.Entries.{entry}
use Rattle.step_parts.specs.InHand.{HasBlock}
use Rattle.step_parts.specs.Starts.{HaveOwnStarts}
use Rattle.step_parts.proofs.Starts.{begins, OfLfh}
use Rattle.step_parts.proofs.ChangedPlaces.{with_lfh, lfh_address, changed_is, found_is}

-- where the found place is of the front end, only its places change
pub found_lfh : (st : HeapState) (o : Option Place) (p : Place) (f : List Place → List Place) → o ≡ Some p → p.layer ≡ layers.Lfh → with_places st (layer_of o) f ≡ with_lfh st (f st.lfh)
found_lfh st o p f e l = ap (λ (z : Option Place). with_places st (layer_of z) f) e ∙ ap (λ (k : Layer). with_places st (Some k) f) l

-- a block that was placed is in hand
pub placed_held : (s : Setting) (m : Configuration) (n b addr : ℕ) → is_some (m.now.calls n).call ≡ true → HasBlock (after s m (entry n (acts.Place addr (block_size b / 16) layers.Lfh))) n b addr
placed_held s m n b addr k =
    let e = eq-eqb n n refl in
    let f = eq-eqb addr addr refl in
    record {
      hand = record { begun = rw e k; place = record { start = addr; granules = block_size b / 16; layer = layers.Lfh; status = InHand n }; hand = rw (e, f) refl; layer = refl };
      long = whole_granules b;
    }

-- the place that begins there, which now is in hand, is the first such
hand_changed : (n a : ℕ) (ps : List Place) (p : Place) → AllByRecursion OfLfh ps → find (begins a) ps ≡ Some p
    → find (has_address a) (in_hand n (change_found (begins a) (with_status (InHand n)) ps)) ≡ Some (with_status (InHand n) p)
hand_changed n a [] p h e = absurd (let z : ⊥ = cc (e) in z)
hand_changed n a (x ∷ xs) p h e = elim (cases_Bool (begins a x)) [
  | inl g ↦
      let k : Some x ≡ Some p = (rw g at e) in
      let same : x ≡ p = cc (k) in
      let mine = eq-eqb n n refl in
      let at : has_address a (with_status (InHand n) x) ≡ true = ap (λ (z : ℕ). eqb z a) (lfh_address (with_status (InHand n) x) h.0) ∙ g in
      rw g (rw mine (rw at (ap (λ (z : Place). Some (with_status (InHand n) z)) same)))
  | inr g ↦
      let away : has_address a x ≡ false = ap (λ (z : ℕ). eqb z a) (lfh_address x h.0) ∙ g in
      let rest = hand_changed n a xs p h.1 (rw g at e) in
      elim (cases_Bool (is_in_hand_of n x.status)) [ inl j ↦ rw g (rw j (rw away rest)) | inr j ↦ rw g (rw j rest) ]
]

find_left : {A : Type 0} (t : A → Bool) (xs ys : List A) (p : A) → find t xs ≡ Some p → find t (xs ++ ys) ≡ Some p
find_left t [] ys p e = absurd (let z : ⊥ = cc (e) in z)
find_left t (x ∷ xs) ys p e = elim (cases_Bool (t x)) [
  | inl g ↦ let k : Some x ≡ Some p = (rw g at e) in rw g k
  | inr g ↦ rw g (find_left t xs ys p (rw g at e))
]

-- a block that was taken is in hand
pub taken_held : (s : Setting) (m : Configuration) (n b a size : ℕ) (p : Place) → IsOneOf p m.state.lfh → p.start ≡ a → p.status ≡ Live size → AllByRecursion OfLfh m.state.lfh → HaveOwnStarts m.state.lfh
    → place_at m.state n a ≡ Some p → p.layer ≡ layers.Lfh → 16 * p.granules ≡ block_size b → is_some (m.now.calls n).call ≡ true → HasBlock (after s m (entry n (acts.Take a size))) n b a
taken_held s m n b a size p there at live of apart e l long k =
    let mine = eq-eqb n n refl in
    let qs : List Place = change_found (is_live_at a) (with_status (InHand n)) m.state.lfh in
    let qs_is : change_found (is_live_at a) (with_status (InHand n)) m.state.lfh ≡ change_found (begins a) (with_status (InHand n)) m.state.lfh =
    subst (λ (z : ℕ). change_found (is_live_at z) (with_status (InHand n)) m.state.lfh ≡ change_found (begins z) (with_status (InHand n)) m.state.lfh) at
    (changed_is m.state.lfh of apart p there is_live (with_status (InHand n)) (ap is_live live)) in
    let first : find (begins a) m.state.lfh ≡ Some p = subst (λ (z : ℕ). find (begins z) m.state.lfh ≡ Some p) at (found_is m.state.lfh of apart p there) in
    record {
      hand = record {
        begun = rw mine k;
        place = with_status (InHand n) p;
        hand = ap (λ (st : HeapState). hand_at st n a) (found_lfh m.state (place_at m.state n a) p (change_found (is_live_at a) (with_status (InHand n))) e l)
            ∙ find_left (has_address a) (in_hand n qs ++ in_hand n m.state.vs.places ++ in_hand n m.state.back.places) (in_hand n m.state.large) (with_status (InHand n) p)
            (find_left (has_address a) (in_hand n qs ++ in_hand n m.state.vs.places) (in_hand n m.state.back.places) (with_status (InHand n) p)
            (find_left (has_address a) (in_hand n qs) (in_hand n m.state.vs.places) (with_status (InHand n) p)
            (ap (λ (ps : List Place). find (has_address a) (in_hand n ps)) qs_is ∙ hand_changed n a m.state.lfh p of first)));
        layer = l;
      };
      long = long;
    }
