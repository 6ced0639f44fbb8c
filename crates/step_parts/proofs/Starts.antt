-- Places by where they begin, one taken away or changed.
use Rattle.std.proofs.Common.{◌≡◌, ℕ, Bool, true, false, ◌||◌, List, [], ◌∷◌, Some, inl, inr, refl, sym, ap, subst, ◌∙◌, eqb}
use Rattle.std.specs.List.{find, list_any, AllByRecursion}
use Rattle.std.proofs.lemmas.Bool.{cases_Bool, eqb-true, ne_eqb}
use Rattle.heap_model.specs.declared.Layer.TheVariants as layers
use Rattle.heap_model.specs.declared.Layer.{Layer}
use Rattle.heap_model.specs.State.{Place, address, has_address, remove_found, change_found}
use Rattle.step_parts.specs.Starts.{HaveOwnStarts}

-- the place begins there
abbrev pub begins : ℕ → Place → Bool
begins a p = eqb p.start a

-- the place is of the front end
abbrev pub OfLfh : Place → Type 0
OfLfh p = p.layer ≡ layers.Lfh

---- The same tests

pub same_find : {A : Type 0} (t u : A → Bool) (xs : List A) → AllByRecursion (λ x. t x ≡ u x) xs → find t xs ≡ find u xs
same_find t u [] h = refl
same_find t u (x ∷ xs) h = elim (cases_Bool (u x)) [
  | inl e ↦ rw (h.0, e) refl
  | inr e ↦ rw (h.0, e) (same_find t u xs h.1)
]

pub same_removed : {A : Type 0} (t u : A → Bool) (xs : List A) → AllByRecursion (λ x. t x ≡ u x) xs → remove_found t xs ≡ remove_found u xs
same_removed t u [] h = refl
same_removed t u (x ∷ xs) h = elim (cases_Bool (u x)) [
  | inl e ↦ rw (h.0, e) refl
  | inr e ↦ rw (h.0, e) (ap (λ ys. x ∷ ys) (same_removed t u xs h.1))
]

pub same_changed : {A : Type 0} (t u : A → Bool) (f : A → A) (xs : List A) → AllByRecursion (λ x. t x ≡ u x) xs → change_found t f xs ≡ change_found u f xs
same_changed t u f [] h = refl
same_changed t u f (x ∷ xs) h = elim (cases_Bool (u x)) [
  | inl e ↦ rw (h.0, e) refl
  | inr e ↦ rw (h.0, e) (ap (λ ys. x ∷ ys) (same_changed t u f xs h.1))
]

-- a place of this front end has the address of its first byte
pub has_start : (a : ℕ) (ps : List Place) → AllByRecursion OfLfh ps → AllByRecursion (λ p. has_address a p ≡ begins a p) ps
has_start a [] h = tt
has_start a (p ∷ ps) h = (ap (λ (n : ℕ). eqb n a) (start_is p.layer h.0), has_start a ps h.1)
  where
    start_is : (l : Layer) → l ≡ layers.Lfh → address (record p { layer = l }) ≡ p.start
    start_is l e = rw e refl

pub found_by_start : (a : ℕ) (ps : List Place) → AllByRecursion OfLfh ps → find (has_address a) ps ≡ find (begins a) ps
found_by_start a ps h = same_find (has_address a) (begins a) ps (has_start a ps h)

pub removed_by_start : (a : ℕ) (ps : List Place) → AllByRecursion OfLfh ps → remove_found (has_address a) ps ≡ remove_found (begins a) ps
removed_by_start a ps h = same_removed (has_address a) (begins a) ps (has_start a ps h)

pub changed_by_start : (a : ℕ) (f : Place → Place) (ps : List Place) → AllByRecursion OfLfh ps → change_found (has_address a) f ps ≡ change_found (begins a) f ps
changed_by_start a f ps h = same_changed (has_address a) (begins a) f ps (has_start a ps h)

---- One taken away

pub any_removed_other : (a b : ℕ) (ps : List Place) → (a ≡ b → ⊥) → list_any (begins a) (remove_found (begins b) ps) ≡ list_any (begins a) ps
any_removed_other a b [] n = refl
any_removed_other a b (p ∷ ps) n = elim (cases_Bool (begins b p)) [
  | inl e ↦
      let other : begins a p ≡ false = ne_eqb p.start a (λ f. n (sym f ∙ eqb-true p.start b e)) in
      rw (e, other) refl
  | inr e ↦ rw e (ap (λ t. begins a p || t) (any_removed_other a b ps n))
]

none_behind : (b : ℕ) (p : Place) (ps : List Place) → p.start ≡ b → AllByRecursion (λ q. p.start ≡ q.start → ⊥) ps → list_any (begins b) ps ≡ false
none_behind b p [] e h = refl
none_behind b p (q ∷ qs) e h = rw (ne_eqb q.start b (λ f. h.0 (e ∙ sym f))) (none_behind b p qs e h.1)

pub any_removed_same : (b : ℕ) (ps : List Place) → HaveOwnStarts ps → list_any (begins b) (remove_found (begins b) ps) ≡ false
any_removed_same b [] h = refl
any_removed_same b (p ∷ ps) h = elim (cases_Bool (begins b p)) [
  | inl e ↦ rw e (none_behind b p ps (eqb-true p.start b e) h.0)
  | inr e ↦ rw (e, e) (any_removed_same b ps h.1)
]

pub found_removed_other : (a b : ℕ) (ps : List Place) → (a ≡ b → ⊥) → find (begins a) (remove_found (begins b) ps) ≡ find (begins a) ps
found_removed_other a b [] n = refl
found_removed_other a b (p ∷ ps) n = elim (cases_Bool (begins b p)) [
  | inl e ↦
      let other : begins a p ≡ false = ne_eqb p.start a (λ f. n (sym f ∙ eqb-true p.start b e)) in
      rw (e, other) refl
  | inr e ↦ rw e (elim (cases_Bool (begins a p)) [ inl g ↦ rw g refl | inr g ↦ rw g (found_removed_other a b ps n) ])
]

starts_removed : (p : Place) (t : Place → Bool) (ps : List Place) → AllByRecursion (λ q. p.start ≡ q.start → ⊥) ps → AllByRecursion (λ q. p.start ≡ q.start → ⊥) (remove_found t ps)
starts_removed p t [] h = tt
starts_removed p t (q ∷ qs) h = elim (cases_Bool (t q)) [ inl e ↦ rw e h.1 | inr e ↦ rw e (h.0, starts_removed p t qs h.1) ]

pub own_removed : (t : Place → Bool) (ps : List Place) → HaveOwnStarts ps → HaveOwnStarts (remove_found t ps)
own_removed t [] h = tt
own_removed t (p ∷ ps) h = elim (cases_Bool (t p)) [ inl e ↦ rw e h.1 | inr e ↦ rw e (starts_removed p t ps h.0, own_removed t ps h.1) ]

---- One changed, where it is

module _ (f : Place → Place) (keeps : (p : Place) → (f p).start ≡ p.start) where
  pub any_changed : (a : ℕ) (t : Place → Bool) (ps : List Place) → list_any (begins a) (change_found t f ps) ≡ list_any (begins a) ps
  any_changed a t [] = refl
  any_changed a t (p ∷ ps) = elim (cases_Bool (t p)) [
    | inl e ↦ rw e (ap (λ (s : ℕ). eqb s a || list_any (begins a) ps) (keeps p))
    | inr e ↦ rw e (ap (λ b. begins a p || b) (any_changed a t ps))
  ]

  pub found_changed_other : (a b : ℕ) (ps : List Place) → (a ≡ b → ⊥) → find (begins a) (change_found (begins b) f ps) ≡ find (begins a) ps
  found_changed_other a b [] n = refl
  found_changed_other a b (p ∷ ps) n = elim (cases_Bool (begins b p)) [
    | inl e ↦
        let other : begins a p ≡ false = ne_eqb p.start a (λ g. n (sym g ∙ eqb-true p.start b e)) in
        let other_too : begins a (f p) ≡ false = ap (λ (s : ℕ). eqb s a) (keeps p) ∙ other in
        rw (e, other, other_too) refl
    | inr e ↦ rw e (elim (cases_Bool (begins a p)) [ inl g ↦ rw g refl | inr g ↦ rw g (found_changed_other a b ps n) ])
  ]

  pub found_changed_same : (b : ℕ) (ps : List Place) (p : Place) → find (begins b) ps ≡ Some p → find (begins b) (change_found (begins b) f ps) ≡ Some (f p)
  found_changed_same b [] p h = absurd (let z : ⊥ = cc in z)
  found_changed_same b (q ∷ qs) p h = elim (cases_Bool (begins b q)) [
    | inl e ↦
        let same : Some q ≡ Some p = (rw e at h) in
        let q_is : q ≡ p = cc in
        let too : begins b (f q) ≡ true = ap (λ (s : ℕ). eqb s b) (keeps q) ∙ e in
        rw (e, too) (ap (λ x. Some (f x)) q_is)
    | inr e ↦ rw (e, e) (found_changed_same b qs p (rw e at h))
  ]

  starts_changed : (s : ℕ) (t : Place → Bool) (ps : List Place) → AllByRecursion (λ q. s ≡ q.start → ⊥) ps → AllByRecursion (λ q. s ≡ q.start → ⊥) (change_found t f ps)
  starts_changed s t [] h = tt
  starts_changed s t (q ∷ qs) h = elim (cases_Bool (t q)) [
    | inl e ↦ rw e ((λ g. h.0 (g ∙ keeps q)), h.1)
    | inr e ↦ rw e (h.0, starts_changed s t qs h.1)
  ]

  pub own_changed : (t : Place → Bool) (ps : List Place) → HaveOwnStarts ps → HaveOwnStarts (change_found t f ps)
  own_changed t [] h = tt
  own_changed t (p ∷ ps) h = elim (cases_Bool (t p)) [
    | inl e ↦ rw e (as_before (f p).start (keeps p) h.0, h.1)
    | inr e ↦ rw e (starts_changed p.start t ps h.0, own_changed t ps h.1)
  ]
    where
      as_before : (s : ℕ) → s ≡ p.start → AllByRecursion (λ q. p.start ≡ q.start → ⊥) ps → AllByRecursion (λ q. s ≡ q.start → ⊥) ps
      as_before s e h = subst (λ (n : ℕ). AllByRecursion (λ q. n ≡ q.start → ⊥) ps) (sym e) h
