-- A live block of VS under its lock: where it is found, taken in hand, and dropped.
use Rattle.std.proofs.Common.{◌≡◌, ℕ, true, false, List, [], ◌∷◌, ◌++◌, Some, refl, ap, ◌∙◌, eq-eqb, inl, inr}
use Rattle.std.specs.Prelude.{is_some}
use Rattle.std.specs.List.{find}
use Rattle.std.proofs.lemmas.Bool.{cases_Bool}
use Rattle.heap_model.specs.declared.What.TheVariants as whats
use Rattle.heap_model.specs.State.{State, Place, InHand, has_address, is_live, is_live_at, is_hand_at, is_in_hand_of, in_hand, hands, holds, guarded, exclusive_places, all_places, place_at, change_found, remove_found}
use Rattle.heap_model.specs.Legal.{with_status}
use Rattle.heap_model.proofs.Stable.{find-gate}

-- where nothing is in hand, no place of a list is
parts_none : {A : Type 0} (xs ys : List A) → xs ++ ys ≡ [] → (xs ≡ []) × (ys ≡ [])
parts_none [] ys e = (refl, e)
parts_none (x ∷ xs) ys e = absurd (let no : ⊥ = cc in no)

pub record HasNothing (st : State) (c : ℕ) : Type 0 where
  pub lfh : in_hand c st.lfh ≡ []
  pub vs : in_hand c st.vs.places ≡ []
  pub back : in_hand c st.back.places ≡ []
  pub large : in_hand c st.large ≡ []

pub has_nothing : (st : State) (c : ℕ) → hands st c ≡ [] → HasNothing st c
has_nothing st c e =
    let a = parts_none (in_hand c st.lfh ++ in_hand c st.vs.places ++ in_hand c st.back.places) (in_hand c st.large) e in
    let b = parts_none (in_hand c st.lfh ++ in_hand c st.vs.places) (in_hand c st.back.places) a.0 in
    let d = parts_none (in_hand c st.lfh) (in_hand c st.vs.places) b.0 in
    record { lfh = d.0; vs = d.1; back = b.1; large = a.1 }

---- It is found

module _ (st : State) (c a : ℕ) (p : Place) (none : hands st c ≡ []) (held : holds st.gate c whats.Vs ≡ true) (there : find (has_address a) st.vs.places ≡ Some p) where
  abbrev backs : List Place
  backs = guarded st.back.places (holds st.gate c whats.Back)

  abbrev larges : List Place
  larges = guarded st.large (holds st.gate c whats.Large)

  in_front : exclusive_places st c ≡ st.vs.places ++ backs ++ larges
  in_front = λ j. none j ++ guarded st.vs.places (held j) ++ backs ++ larges

  found_first : find (has_address a) (st.vs.places ++ backs) ≡ Some p
  found_first = find-gate (has_address a) st.vs.places backs (ap is_some there) ∙ there

  pub found_alone : find (has_address a) (exclusive_places st c) ≡ Some p
  found_alone = ap (find (has_address a)) in_front ∙ (find-gate (has_address a) (st.vs.places ++ backs) larges (ap is_some found_first) ∙ found_first)

  pub found_among : place_at st c a ≡ Some p
  found_among = find-gate (has_address a) (exclusive_places st c) (all_places st) (ap is_some found_alone) ∙ found_alone

---- It is taken, and dropped

module _ (c a : ℕ) where
  abbrev take : List Place → List Place
  take ps = change_found (is_live_at a) (with_status (InHand c)) ps

  -- a place of the address is the first one
  pub taken_hand : (ps : List Place) (p : Place) → find (has_address a) ps ≡ Some p → is_live p.status ≡ true → in_hand c ps ≡ [] → in_hand c (take ps) ≡ with_status (InHand c) p ∷ []
  taken_hand [] p f l h = absurd (let no : ⊥ = cc in no)
  taken_hand (q ∷ ps) p f l h = elim (cases_Bool (has_address a q)) [
    | inl e ↦
        let same : Some q ≡ Some p = rw e at f in
        let is : q ≡ p = cc in
        let live : is_live q.status ≡ true = ap (λ (x : Place). is_live x.status) is ∙ l in
        let z = eq-eqb c c refl in
        let rest : in_hand c ps ≡ [] = behind q ps h in
        rw (e, live) (rw z (λ j. with_status (InHand c) (is j) ∷ rest j))
    | inr e ↦
        let later : find (has_address a) ps ≡ Some p = rw e at f in
        let rest : in_hand c ps ≡ [] = behind q ps h in
        let off : is_in_hand_of c q.status ≡ false = front q ps h in
        rw e (rw off (taken_hand ps p later l rest))
  ]
    where
      behind : (q : Place) (ps : List Place) → in_hand c (q ∷ ps) ≡ [] → in_hand c ps ≡ []
      behind q ps h = elim (cases_Bool (is_in_hand_of c q.status)) [
        | inl e ↦ let both : q ∷ in_hand c ps ≡ [] = rw e at h in absurd (let no : ⊥ = cc in no)
        | inr e ↦ rw e at h
      ]

      front : (q : Place) (ps : List Place) → in_hand c (q ∷ ps) ≡ [] → is_in_hand_of c q.status ≡ false
      front q ps h = elim (cases_Bool (is_in_hand_of c q.status)) [
        | inl e ↦ let both : q ∷ in_hand c ps ≡ [] = rw e at h in absurd (let no : ⊥ = cc in no)
        | inr e ↦ e
      ]

  -- .. and is gone then
  pub taken_dropped : (ps : List Place) (p : Place) → find (has_address a) ps ≡ Some p → is_live p.status ≡ true → remove_found (is_hand_at c a) (take ps) ≡ remove_found (has_address a) ps
  taken_dropped [] p f l = refl
  taken_dropped (q ∷ ps) p f l = elim (cases_Bool (has_address a q)) [
    | inl e ↦
        let same : Some q ≡ Some p = rw e at f in
        let live : is_live q.status ≡ true = (let is : q ≡ p = cc in ap (λ (x : Place). is_live x.status) is ∙ l) in
        let z = eq-eqb c c refl in
        rw (e, live) (rw (e, z) refl)
    | inr e ↦
        let later : find (has_address a) ps ≡ Some p = rw e at f in
        rw (e, e) (ap (λ (l : List Place). q ∷ l) (taken_dropped ps p later l))
  ]
