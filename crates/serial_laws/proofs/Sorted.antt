-- Places in the order of their addresses.
use Rattle.std.proofs.Common.{◌≡◌, ℕ, ◌<◌, ◌≤◌, Bool, true, false, ◌||◌, List, [], ◌∷◌, None, refl, sym, ap, ◌∙◌, arith, ltb, inl, inr}
use Rattle.std.specs.List.{find, list_any}
use Rattle.std.proofs.lemmas.Bool.{cases_Bool, lt-ltb, ltb-true, ltb-false}
use Rattle.heap_model.specs.State.{Place, insert_place, by_address, change_found, remove_found}

-- the first of the places, if there is one, does not begin before an address
abbrev pub BeginsFrom : ℕ → List Place → Type 0
BeginsFrom a [] = Unit {0}
BeginsFrom a (p ∷ ps) = a ≤ p.start

abbrev pub AreSorted : List Place → Type 0
AreSorted [] = Unit {0}
AreSorted (p ∷ ps) = BeginsFrom p.start ps × AreSorted ps

insert_sorted : (p : Place) (ps : List Place) → AreSorted ps → AreSorted (insert_place p ps)
insert_sorted p [] h = (tt, tt)
insert_sorted p (q ∷ qs) h = elim (cases_Bool (ltb p.start q.start)) [
  | inl e ↦ let l = ltb-true p.start q.start e in rw e (omega arith, (h.0, h.1))
  | inr e ↦ let l = ltb-false p.start q.start e in rw e (front qs h.0 l, insert_sorted p qs h.1)
]
  where
    front : (rs : List Place) → BeginsFrom q.start rs → q.start ≤ p.start → BeginsFrom q.start (insert_place p rs)
    front [] b l = l
    front (r ∷ rs) b l = elim (cases_Bool (ltb p.start r.start)) [ inl e ↦ rw e l | inr e ↦ rw e b ]

pub sorted : (ps : List Place) → AreSorted (by_address ps)
sorted [] = tt
sorted (p ∷ ps) = insert_sorted p (by_address ps) (sorted ps)

---- Tests

or_swap : (a b c : Bool) → (b || (a || c)) ≡ (a || (b || c))
or_swap true true c = refl
or_swap true false c = refl
or_swap false true c = refl
or_swap false false c = refl

any_inserted : (test : Place → Bool) (p : Place) (ps : List Place) → list_any test (insert_place p ps) ≡ (test p || list_any test ps)
any_inserted test p [] = refl
any_inserted test p (q ∷ qs) = elim (cases_Bool (ltb p.start q.start)) [
  | inl e ↦ rw e refl
  | inr e ↦ rw e (ap (λ (b : Bool). test q || b) (any_inserted test p qs) ∙ or_swap (test p) (test q) (list_any test qs))
]

-- some place passes, in order or not
pub any_sorted : (test : Place → Bool) (ps : List Place) → list_any test (by_address ps) ≡ list_any test ps
any_sorted test [] = refl
any_sorted test (p ∷ ps) = any_inserted test p (by_address ps) ∙ ap (λ (b : Bool). test p || b) (any_sorted test ps)

-- at most one place passes
abbrev pub OnlyOne : (Place → Bool) → List Place → Type 0
OnlyOne test [] = Unit {0}
OnlyOne test (p ∷ ps) = (test p ≡ true → list_any test ps ≡ false) × OnlyOne test ps

or_false : (a b : Bool) → (a || b) ≡ false → (a ≡ false) × (b ≡ false)
or_false true b h = absurd (let z : ⊥ = cc in z)
or_false false b h = (refl, h)

pub none_found : {A : Type 0} (test : A → Bool) (xs : List A) → list_any test xs ≡ false → find test xs ≡ None
none_found test [] h = refl
none_found test (x ∷ xs) h = let k = or_false (test x) (list_any test xs) h in let e = k.0 in rw e (none_found test xs k.1)

-- a list with one place inserted passes as the list with it in front does
one_inserted : (test : Place → Bool) (p : Place) (ps : List Place) → OnlyOne test (insert_place p ps) → OnlyOne test (p ∷ ps)
one_inserted test p [] h = h
one_inserted test p (q ∷ qs) h = go (one_inserted test p qs) (ltb p.start q.start) refl h
  where
    go : (OnlyOne test (insert_place p qs) → OnlyOne test (p ∷ qs)) → (b : Bool) → ltb p.start q.start ≡ b → OnlyOne test (insert_place p (q ∷ qs)) → OnlyOne test (p ∷ q ∷ qs)
    go again true e k = rw e at k
    go again false e k =
        let k1 : OnlyOne test (q ∷ insert_place p qs) = rw e at k in
        let rest = again k1.1 in
        let other : test q ≡ true → (test p || list_any test qs) ≡ false = λ t. sym (any_inserted test p qs) ∙ k1.0 t in (
          λ t. elim (cases_Bool (test q)) [
            | inl f ↦ let z = (or_false (test p) (list_any test qs) (other f)).0 in absurd (let y : true ≡ false = sym t ∙ z in let x : ⊥ = cc in x)
            | inr f ↦ rw f (rest.0 t)
          ],
          (λ t. (or_false (test p) (list_any test qs) (other t)).1, rest.1),
        )

-- so what is found does not depend on the order
found_inserted : (test : Place → Bool) (p : Place) (ps : List Place) → OnlyOne test (insert_place p ps) → find test (insert_place p ps) ≡ find test (p ∷ ps)
found_inserted test p [] h = refl
found_inserted test p (q ∷ qs) h = go (found_inserted test p qs) (ltb p.start q.start) refl h
  where
    go : (OnlyOne test (insert_place p qs) → find test (insert_place p qs) ≡ find test (p ∷ qs)) → (b : Bool) → ltb p.start q.start ≡ b → OnlyOne test (insert_place p (q ∷ qs)) → find test (insert_place p (q ∷ qs)) ≡ find test (p ∷ q ∷ qs)
    go again true e k = rw e refl
    go again false e k =
        let k1 : OnlyOne test (q ∷ insert_place p qs) = rw e at k in
        elim (cases_Bool (test q)) [
          | inl f ↦
              let none : test p ≡ false = (or_false (test p) (list_any test qs) (sym (any_inserted test p qs) ∙ k1.0 f)).0 in
              rw (e, none, f) refl
          | inr f ↦ elim (cases_Bool (test p)) [
            | inl g ↦ let r : find test (insert_place p qs) ≡ find test (p ∷ qs) = again k1.1 in rw (e, f, r, g) refl
            | inr g ↦ let r : find test (insert_place p qs) ≡ find test (p ∷ qs) = again k1.1 in rw (e, f, r, g) refl
          ]
        ]

pub found_sorted : (test : Place → Bool) (ps : List Place) → OnlyOne test (by_address ps) → find test (by_address ps) ≡ find test ps
found_sorted test [] h = refl
found_sorted test (p ∷ ps) h =
    let one = one_inserted test p (by_address ps) h in
    found_inserted test p (by_address ps) h ∙ elim (cases_Bool (test p)) [
      | inl e ↦ rw e refl
      | inr e ↦ rw e (found_sorted test ps one.1)
    ]

---- Without the one that passes

insert_front : (p : Place) (a : ℕ) (ps : List Place) → p.start < a → BeginsFrom a ps → insert_place p ps ≡ p ∷ ps
insert_front p a [] l h = refl
insert_front p a (q ∷ qs) l h = let e = lt-ltb p.start q.start (omega arith) in rw e refl

remove_here : (test : Place → Bool) (p : Place) (ps : List Place) → OnlyOne test (insert_place p ps) → test p ≡ true → remove_found test (insert_place p ps) ≡ ps
remove_here test p [] h t = rw t refl
remove_here test p (q ∷ qs) h t = go (remove_here test p qs) (ltb p.start q.start) refl h
  where
    go : (OnlyOne test (insert_place p qs) → test p ≡ true → remove_found test (insert_place p qs) ≡ qs) → (b : Bool) → ltb p.start q.start ≡ b → OnlyOne test (insert_place p (q ∷ qs)) → remove_found test (insert_place p (q ∷ qs)) ≡ q ∷ qs
    go again true e k = rw (e, t) refl
    go again false e k =
        let k1 : OnlyOne test (q ∷ insert_place p qs) = rw e at k in
        elim (cases_Bool (test q)) [
          | inl f ↦
              let none : test p ≡ false = (or_false (test p) (list_any test qs) (sym (any_inserted test p qs) ∙ k1.0 f)).0 in
              absurd (let y : true ≡ false = sym t ∙ none in let x : ⊥ = cc in x)
          | inr f ↦ rw (e, f) (ap (λ (rs : List Place). q ∷ rs) (again k1.1 t))
        ]

remove_there : (test : Place → Bool) (p : Place) (ps : List Place) → AreSorted ps → test p ≡ false → remove_found test (insert_place p ps) ≡ insert_place p (remove_found test ps)
remove_there test p [] h t = rw t refl
remove_there test p (q ∷ qs) h t = elim (cases_Bool (ltb p.start q.start)) [
  | inl e ↦ elim (cases_Bool (test q)) [
    | inl f ↦ rw (e, t, f) (sym (insert_front p q.start qs (ltb-true p.start q.start e) h.0))
    | inr f ↦ rw (e, t, f) (rw e refl)
  ]
  | inr e ↦ elim (cases_Bool (test q)) [
    | inl f ↦ rw (e, f) refl
    | inr f ↦ rw (e, f) (rw e (ap (λ (rs : List Place). q ∷ rs) (remove_there test p qs h.1 t)))
  ]
]

pub removed_sorted : (test : Place → Bool) (ps : List Place) → OnlyOne test (by_address ps) → by_address (remove_found test ps) ≡ remove_found test (by_address ps)
removed_sorted test [] h = refl
removed_sorted test (p ∷ ps) h =
    let one = one_inserted test p (by_address ps) h in
    elim (cases_Bool (test p)) [
      | inl e ↦ rw e (sym (remove_here test p (by_address ps) h e))
      | inr e ↦ rw e (ap (insert_place p) (removed_sorted test ps one.1) ∙ sym (remove_there test p (by_address ps) (sorted ps) e))
    ]

---- With the one that passes changed, where it is

module _ (test : Place → Bool) (f : Place → Place) (keeps : (p : Place) → (f p).start ≡ p.start) where
  change_here : (p : Place) (ps : List Place) → test p ≡ true → list_any test ps ≡ false → change_found test f (insert_place p ps) ≡ insert_place (f p) ps
  change_here p [] t n = rw t refl
  change_here p (q ∷ qs) t n =
      let k = keeps p in
      let none = or_false (test q) (list_any test qs) n in
      let other = none.0 in
      elim (cases_Bool (ltb p.start q.start)) [
        | inl e ↦ let d = ap (λ (a : ℕ). ltb a q.start) k ∙ e in rw (e, d, t) refl
        | inr e ↦ let d = ap (λ (a : ℕ). ltb a q.start) k ∙ e in rw (e, d, other) (ap (λ (rs : List Place). q ∷ rs) (change_here p qs t none.1))
      ]

  change_there : (p : Place) (ps : List Place) → test p ≡ false → change_found test f (insert_place p ps) ≡ insert_place p (change_found test f ps)
  change_there p [] t = rw t refl
  change_there p (q ∷ qs) t =
      let k = keeps q in
      elim (cases_Bool (test q)) [
        | inl g ↦ elim (cases_Bool (ltb p.start q.start)) [
          | inl e ↦ let d = ap (λ (a : ℕ). ltb p.start a) k ∙ e in rw (e, g, d, t) refl
          | inr e ↦ let d = ap (λ (a : ℕ). ltb p.start a) k ∙ e in rw (e, g, d) refl
        ]
        | inr g ↦ elim (cases_Bool (ltb p.start q.start)) [
          | inl e ↦ rw (g, e, t) (rw g refl)
          | inr e ↦ rw (g, e) (rw g (ap (λ (rs : List Place). q ∷ rs) (change_there p qs t)))
        ]
      ]

  pub changed_sorted : (ps : List Place) → OnlyOne test (by_address ps) → by_address (change_found test f ps) ≡ change_found test f (by_address ps)
  changed_sorted [] h = refl
  changed_sorted (p ∷ ps) h =
      let one = one_inserted test p (by_address ps) h in
      elim (cases_Bool (test p)) [
        | inl e ↦ rw e (sym (change_here p (by_address ps) e (one.0 e)))
        | inr e ↦ rw e (ap (insert_place p) (changed_sorted ps one.1) ∙ sym (change_there p (by_address ps) e))
      ]
