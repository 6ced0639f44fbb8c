-- The place that is found by its address, taken and dropped.
use Rattle.std.proofs.Common.{◌≡◌, ℕ, Bool, true, false, List, [], ◌∷◌, Some, refl, sym, ap, subst, inl, inr}
use Rattle.std.specs.List.{find}
use Rattle.std.proofs.lemmas.Bool.{cases_Bool, eq-eqb}
use Rattle.heap_model.specs.declared.Layer.{Layer}
use Rattle.heap_model.specs.State.{Place, Live, InHand, has_address, in_hand, is_hand_at, is_live_at, change_found, remove_found, is_in_hand_of}
use Rattle.heap_model.specs.Legal.{with_status}

-- of any caller c
module _ (c : ℕ) where
  none_in_front : (p : Place) (ps : List Place) → in_hand c (p ∷ ps) ≡ [] → (is_in_hand_of c p.status ≡ false) × (in_hand c ps ≡ [])
  none_in_front p ps e = elim (cases_Bool (is_in_hand_of c p.status)) [
    | inl k ↦ let f : p ∷ in_hand c ps ≡ [] = rw k at e in absurd (let z : ⊥ = cc in z)
    | inr k ↦ (k, rw k at e)
  ]

  pub none_left : (test : Place → Bool) (ps : List Place) → in_hand c ps ≡ [] → in_hand c (remove_found test ps) ≡ []
  none_left test [] e = refl
  none_left test (p ∷ ps) e =
      let n = none_in_front p ps e in
      let k = n.0 in
      elim (cases_Bool (test p)) [ inl t ↦ rw t n.1 | inr t ↦ rw (t, k) (none_left test ps n.1) ]

  -- the places of a layer, with the live one at an address taken, and with the one in hand dropped
  abbrev pub take : ℕ → List Place → List Place
  take a ps = change_found (is_live_at a) (with_status (InHand c)) ps

  abbrev pub drop : ℕ → List Place → List Place
  drop a ps = remove_found (is_hand_at c a) ps

  module _ (a start granules size : ℕ) (layer : Layer) where
    abbrev pub live_one : Place
    live_one = record { start = start; granules = granules; layer = layer; status = Live size }

    abbrev pub taken : Place
    taken = record { start = start; granules = granules; layer = layer; status = InHand c }

    found_is : (p : Place) → Some p ≡ Some live_one → p ≡ live_one
    found_is p h = cc

    -- the live place is the one that is taken
    pub in_hand_after : (ps : List Place) → has_address a live_one ≡ true → in_hand c ps ≡ [] → find (has_address a) ps ≡ Some live_one → in_hand c (take a ps) ≡ taken ∷ []
    in_hand_after [] s e h = absurd (let z : ⊥ = cc in z)
    in_hand_after (p ∷ ps) s e h =
        let n = none_in_front p ps e in
        elim (cases_Bool (has_address a p)) [
          | inl t ↦ subst (λ (q : Place). in_hand c (take a (q ∷ ps)) ≡ taken ∷ []) (sym (found_is p (rw t at h)))
              (let k = n.1 in let z = eq-eqb c c refl in rw (s, k) (rw z refl))
          | inr t ↦ let k = n.0 in rw (t, k) (in_hand_after ps s n.1 (rw t at h))
        ]

    -- .. and it is the one that is dropped, and that such a test finds
    pub dropped : (test : Place → Bool) (ps : List Place) → has_address a live_one ≡ true → test live_one ≡ true → ((p : Place) → has_address a p ≡ false → test p ≡ false) →
        in_hand c ps ≡ [] → find (has_address a) ps ≡ Some live_one → drop a (take a ps) ≡ remove_found test ps
    dropped test [] s l w e h = refl
    dropped test (p ∷ ps) s l w e h =
        let n = none_in_front p ps e in
        elim (cases_Bool (has_address a p)) [
          | inl t ↦ subst (λ (q : Place). drop a (take a (q ∷ ps)) ≡ remove_found test (q ∷ ps)) (sym (found_is p (rw t at h)))
              (rw (s, s, l) (let z = eq-eqb c c refl in rw z refl))
          | inr t ↦ let u = w p t in rw (t, u) (rw t (ap (λ (qs : List Place). p ∷ qs) (dropped test ps s l w n.1 (rw t at h))))
        ]
