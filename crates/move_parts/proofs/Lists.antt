-- The lists of places behind a Take, a Give and a Drop, of two addresses.
use Rattle.std.proofs.Common.{◌≡◌, ℕ, Bool, true, false, List, [], ◌∷◌, refl, sym, ap, ◌∙◌, eq-eqb, inl, inr}
use Rattle.std.specs.List.{find}
use Rattle.std.proofs.lemmas.Bool.{cases_Bool, and_parts, eqb-true, ne_eqb, false≢true}
use Rattle.heap_model.specs.State.{Place, Status, Live, InHand, address, has_address, is_live, is_live_at, is_hand_at, is_in_hand_of, in_hand, change_found, remove_found}
use Rattle.heap_model.specs.Legal.{with_status}

live_off : (c : ℕ) (t : Status) → is_live t ≡ true → is_in_hand_of c t ≡ false
live_off c (Live size) h = refl
live_off c (InHand d) h = absurd (false≢true h)

module _ (c a b n : ℕ) (apart : a ≡ b → ⊥) where
  abbrev pub take : List Place → List Place
  take ps = change_found (is_live_at a) (with_status (InHand c)) ps

  abbrev pub give : List Place → List Place
  give ps = change_found (is_hand_at c b) (with_status (Live n)) ps

  pub off_a : (x : Place) → has_address b x ≡ true → has_address a x ≡ false
  off_a x h = ne_eqb (address x) a (λ e. apart (sym e ∙ eqb-true (address x) b h))

  pub off_b : (x : Place) → has_address a x ≡ true → has_address b x ≡ false
  off_b x h = ne_eqb (address x) b (λ e. apart (sym (eqb-true (address x) a h) ∙ e))

  -- what is in hand at b is so behind the Take
  pub take_other : (ps : List Place) → find (has_address b) (in_hand c (take ps)) ≡ find (has_address b) (in_hand c ps)
  take_other [] = refl
  take_other (x ∷ xs) = elim (cases_Bool (is_live_at a x)) [
    | inl e ↦
        let p = and_parts (has_address a x) (is_live x.status) e in
        let off = live_off c x.status p.1 in
        let z = eq-eqb c c refl in
        let o = off_b x p.0 in
        rw e (rw (z, off) (rw o refl))
    | inr e ↦ rw e (elim (cases_Bool (is_in_hand_of c x.status)) [
      | inl g ↦ rw g (elim (cases_Bool (has_address b x)) [ inl k ↦ rw k refl | inr k ↦ rw k (take_other xs) ])
      | inr g ↦ rw g (take_other xs)
    ])
  ]

  -- the place at a is the same behind the Give
  pub give_find : (ps : List Place) → find (has_address a) (give ps) ≡ find (has_address a) ps
  give_find [] = refl
  give_find (x ∷ xs) = elim (cases_Bool (is_hand_at c b x)) [
    | inl e ↦
        let h = and_parts (has_address b x) (is_in_hand_of c x.status) e in
        let o = off_a x h.0 in
        rw e (rw o refl)
    | inr e ↦ rw e (elim (cases_Bool (has_address a x)) [ inl k ↦ rw k refl | inr k ↦ rw k (give_find xs) ])
  ]

  -- the Take and the Give change two places
  pub commute : (ps : List Place) → give (take ps) ≡ take (give ps)
  commute [] = refl
  commute (x ∷ xs) = elim (cases_Bool (is_live_at a x)) [
    | inl e ↦
        let h = and_parts (has_address a x) (is_live x.status) e in
        let o = off_b x h.0 in
        rw e (rw o (rw e refl))
    | inr e ↦ elim (cases_Bool (is_hand_at c b x)) [
      | inl g ↦
          let h = and_parts (has_address b x) (is_in_hand_of c x.status) g in
          let o = off_a x h.0 in
          rw (e, g) (rw o refl)
      | inr g ↦ rw (e, g) (rw e (ap (λ (l : List Place). x ∷ l) (commute xs)))
    ]
  ]

---- A place goes

none_in_front : (c : ℕ) (p : Place) (ps : List Place) → in_hand c (p ∷ ps) ≡ [] → (is_in_hand_of c p.status ≡ false) × (in_hand c ps ≡ [])
none_in_front c p ps e = elim (cases_Bool (is_in_hand_of c p.status)) [
  | inl k ↦ let f : p ∷ in_hand c ps ≡ [] = rw k at e in absurd (let z : ⊥ = cc in z)
  | inr k ↦ (k, rw k at e)
]

pub none_left : (c : ℕ) (test : Place → Bool) (ps : List Place) → in_hand c ps ≡ [] → in_hand c (remove_found test ps) ≡ []
none_left c test [] e = refl
none_left c test (p ∷ ps) e =
    let n = none_in_front c p ps e in
    let k = n.0 in
    elim (cases_Bool (test p)) [ inl t ↦ rw t n.1 | inr t ↦ rw (t, k) (none_left c test ps n.1) ]
