-- What is in hand beside a block that was taken: a new one, until it is given.
use Rattle.std.proofs.Common.{◌≡◌, ℕ, true, false, List, [], ◌∷◌, ◌++◌, Some, refl, sym, ap, ◌∙◌, eq-eqb, inl, inr}
use Rattle.std.specs.Prelude.{cond}
use Rattle.std.proofs.lemmas.Bool.{cases_Bool, and_from, and_right, true≢false}
use Rattle.heap_model.specs.declared.Layer.{Layer}
use Rattle.heap_model.specs.declared.Layer.TheVariants as layers
use Rattle.heap_model.specs.Legal.{with_places, with_status}
use Rattle.heap_model.specs.State.{State, Place, Live, address, has_address, is_layer, is_in_hand_of, is_hand_at, in_hand, hands, places_of, change_found}
use Rattle.lfh_claims.specs.Moves.{IsWith}
use Rattle.call_parts.specs.Entries.{holding}
use Rattle.move_parts.specs.Moves.{with_given}

-- a list that has a place less than a list of one
pub none_left : (addr : ℕ) (less : List Place) (p : Place) → IsWith addr less (p ∷ []) → less ≡ []
none_left addr less p x = by x.front x.back x.less_is x.more_is
  where
    by : (front back : List Place) → less ≡ front ++ back → p ∷ [] ≡ front ++ x.place ∷ back → less ≡ []
    by [] [] e m = e
    by [] (q ∷ qs) e m = absurd (let bad : ⊥ = cc (m) in bad)
    by (q ∷ []) back e m = absurd (let bad : ⊥ = cc (m) in bad)
    by (q ∷ r ∷ qs) back e m = absurd (let bad : ⊥ = cc (m) in bad)

-- the one that is in hand is given
given_none : (c b n : ℕ) (q : Place) (ps : List Place) → in_hand c ps ≡ q ∷ [] → has_address b q ≡ true → in_hand c (change_found (is_hand_at c b) (with_status (Live n)) ps) ≡ []
given_none c b n q [] e at = absurd (let bad : ⊥ = cc (e) in bad)
given_none c b n q (x ∷ xs) e at = elim (cases_Bool (is_in_hand_of c x.status)) [
  | inl h ↦
      let f : x ∷ in_hand c xs ≡ q ∷ [] = rw h at e in
      let same : x ≡ q = cc in let rest : in_hand c xs ≡ [] = cc in
      let there : has_address b x ≡ true = ap (has_address b) same ∙ at in
      let g : is_hand_at c b x ≡ true = and_from (has_address b x) (is_in_hand_of c x.status) there h in
      rw g rest
  | inr h ↦
      let g : is_hand_at c b x ≡ false = and_right (has_address b x) (is_in_hand_of c x.status) h in
      rw (g, h) (given_none c b n q xs (rw h at e) at)
]

module _ (st : State) (c : ℕ) (p q : Place) (front : p.layer ≡ layers.Lfh) (behind : is_layer q.layer layers.Lfh ≡ false) (hand : (layer : Layer) → in_hand c (places_of st layer) ≡ holding q layer ++ holding p layer) where
  lists : (l : Layer) → q.layer ≡ l → (j : Layer) → in_hand c (places_of st j) ≡ cond (is_layer j l) (q ∷ []) [] ++ cond (is_layer j layers.Lfh) (p ∷ []) []
  lists l e j = hand j ∙ (λ i. cond (is_layer j (e i)) (q ∷ []) [] ++ cond (is_layer j (front i)) (p ∷ []) [])

  no_front : q.layer ≡ layers.Lfh → ⊥
  no_front e = true≢false (ap (λ (l : Layer). is_layer l layers.Lfh) (sym e) ∙ behind)

  pub both_hands : hands st c ≡ p ∷ q ∷ []
  both_hands = by q.layer refl
    where
      by : (l : Layer) → q.layer ≡ l → hands st c ≡ p ∷ q ∷ []
      by layers.Lfh e = absurd (no_front e)
      by layers.Vs e = let h = lists layers.Vs e in let a = h layers.Lfh in let b = h layers.Vs in let d = h layers.Back in let f = h layers.Large in (λ i. a i ++ b i ++ d i ++ f i)
      by layers.Back e = let h = lists layers.Back e in let a = h layers.Lfh in let b = h layers.Vs in let d = h layers.Back in let f = h layers.Large in (λ i. a i ++ b i ++ d i ++ f i)
      by layers.Large e = let h = lists layers.Large e in let a = h layers.Lfh in let b = h layers.Vs in let d = h layers.Back in let f = h layers.Large in (λ i. a i ++ b i ++ d i ++ f i)

  -- once the new one is given the old one is left
  module _ (n : ℕ) where
    abbrev give : List Place → List Place
    give ps = change_found (is_hand_at c (address q)) (with_status (Live n)) ps

    pub one_hand : (layer : Layer) → in_hand c (places_of (with_given st c q n) layer) ≡ holding p layer
    one_hand layer = by q.layer refl layer ∙ ap (λ (l : Layer). cond (is_layer layer l) (p ∷ []) []) (sym front)
      where
        gone : (ps : List Place) → in_hand c ps ≡ q ∷ [] → in_hand c (give ps) ≡ []
        gone ps e = given_none c (address q) n q ps e (eq-eqb (address q) (address q) refl)

        by : (l : Layer) → q.layer ≡ l → (j : Layer) → in_hand c (places_of (with_places st (Some l) give) j) ≡ cond (is_layer j layers.Lfh) (p ∷ []) []
        by layers.Lfh e j = absurd (no_front e)
        by layers.Vs e layers.Lfh = lists layers.Vs e layers.Lfh
        by layers.Vs e layers.Vs = gone st.vs.places (lists layers.Vs e layers.Vs)
        by layers.Vs e layers.Back = lists layers.Vs e layers.Back
        by layers.Vs e layers.Large = lists layers.Vs e layers.Large
        by layers.Back e layers.Lfh = lists layers.Back e layers.Lfh
        by layers.Back e layers.Vs = lists layers.Back e layers.Vs
        by layers.Back e layers.Back = gone st.back.places (lists layers.Back e layers.Back)
        by layers.Back e layers.Large = lists layers.Back e layers.Large
        by layers.Large e layers.Lfh = lists layers.Large e layers.Lfh
        by layers.Large e layers.Vs = lists layers.Large e layers.Vs
        by layers.Large e layers.Back = lists layers.Large e layers.Back
        by layers.Large e layers.Large = gone st.large (lists layers.Large e layers.Large)
