-- Two blocks of the front end in hand are apart; one of them is given, and then the other goes.
use Rattle.std.proofs.Common.{◌≡◌, ℕ, List, [], ◌∷◌, ◌++◌, refl, sym, ap, ◌∙◌, subst, inl, inr}
use Rattle.std.specs.List.{AllByRecursion}
use Rattle.std.proofs.lemmas.Bool.{cases_Bool}
use Rattle.std.proofs.lemmas.List.{append-nil}
use Rattle.heap_model.specs.State.{Place, is_in_hand_of, in_hand}
use Rattle.heap_soundness.specs.Sound.{IsOneOf, AreApart, AreDisjoint}
use Rattle.heap_soundness.proofs.GapRuns.{filtered_cases}
use Rattle.heap_soundness.proofs.Lists.{all_at}
use Rattle.lfh_claims.specs.Moves.{IsWith}

front_all : (P : Place → Type 0) (xs ys : List Place) → AllByRecursion P (xs ++ ys) → AllByRecursion P xs
front_all P [] ys h = tt
front_all P (x ∷ xs) ys h = (h.0, front_all P xs ys h.1)

pub disjoint_front : (xs ys : List Place) → AreDisjoint (xs ++ ys) → AreDisjoint xs
disjoint_front [] ys h = tt
disjoint_front (x ∷ xs) ys h = (front_all (AreApart x) xs ys h.0, disjoint_front xs ys h.1)

pub apart_in : (n : ℕ) (ps : List Place) (q p : Place) → in_hand n ps ≡ q ∷ p ∷ [] → AreDisjoint ps → AreApart q p
apart_in n [] q p e d = absurd (let z : ⊥ = cc (e) in z)
apart_in n (x ∷ xs) q p e d = elim (cases_Bool (is_in_hand_of n x.status)) [
  | inl m ↦
      let k : x ∷ in_hand n xs ≡ q ∷ p ∷ [] = rw m at e in
      let is : x ≡ q = cc (k) in
      let rest : in_hand n xs ≡ p ∷ [] = cc (k) in
      let mem = (filtered_cases (λ (y : Place). is_in_hand_of n y.status) p xs (subst (IsOneOf p) (sym rest) (inl refl))).0 in
      subst (λ (y : Place). AreApart y p) is (all_at (AreApart x) p xs d.0 mem)
  | inr m ↦ apart_in n xs q p (rw m at e) d.1
]

-- of two places the one at b goes
pub left_old : (b : ℕ) (less : List Place) (q y : Place) → IsWith b less (q ∷ y ∷ []) → (y.start ≡ b → ⊥) → less ≡ y ∷ []
left_old b less q y w other = by w.front w.back w.less_is w.more_is
  where
    by : (front back : List Place) → less ≡ front ++ back → q ∷ y ∷ [] ≡ front ++ w.place ∷ back → less ≡ y ∷ []
    by [] back e m = e ∙ (let is : y ∷ [] ≡ back = cc (m) in sym is)
    by (x ∷ []) back e m = let is : y ≡ w.place = cc (m) in absurd (other (ap (λ (z : Place). z.start) is ∙ w.start))
    by (x ∷ z ∷ []) back e m = absurd (let z0 : ⊥ = cc (m) in z0)
    by (x ∷ z ∷ u ∷ front) back e m = absurd (let z0 : ⊥ = cc (m) in z0)

pub none_left : (addr : ℕ) (less : List Place) (p : Place) → IsWith addr less (p ∷ []) → less ≡ []
none_left addr less p x = by x.front x.back x.less_is x.more_is
  where
    by : (front back : List Place) → less ≡ front ++ back → p ∷ [] ≡ front ++ x.place ∷ back → less ≡ []
    by [] [] e m = e
    by [] (q ∷ qs) e m = absurd (let bad : ⊥ = cc (m) in bad)
    by (q ∷ []) back e m = absurd (let bad : ⊥ = cc (m) in bad)
    by (q ∷ r ∷ qs) back e m = absurd (let bad : ⊥ = cc (m) in bad)

-- what is in hand of the front end, where nothing else is
pub front_only : (f v b l xs : List Place) → v ≡ [] → b ≡ [] → l ≡ [] → ((f ++ v) ++ b) ++ l ≡ xs → f ≡ xs
front_only f v b l xs ev eb el e =
    let all : ((f ++ []) ++ []) ++ [] ≡ xs = sym (λ i. ((f ++ ev i) ++ eb i) ++ el i) ∙ e in
    sym (append-nil ((f ++ []) ++ []) ∙ (append-nil (f ++ []) ∙ append-nil f)) ∙ all
