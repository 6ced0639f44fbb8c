-- The names of a text stand in the order of their numbers.
use Rattle.std.proofs.Common.{◌≡◌, ℕ, ◌+◌, ◌<◌, ◌≤◌, Bool, true, false, ◌&&◌, ◌||◌, cond, max, eqb, List, [], ◌∷◌, ◌++◌, is_some, refl, ap, sym, ◌∙◌, subst, arith, inl, inr, append_assoc, append-nil}
use Rattle.std.specs.List.{AllByRecursion}
use Rattle.std.specs.Str.{bytes_eq}
use Rattle.std.proofs.lemmas.Bool.{cases_Bool, cases_lt, and_parts, eqb-true, eqb-false}
use Rattle.script_text.specs.Lines.{fields_of, field}
use Rattle.script_text.specs.Words.{is_name, block_word}
use Rattle.script_text.specs.Names.{is_among, different, before_name, number_of_name, name_by, name_on, names_in}
use Rattle.script_text.proofs.NameLemmas.{same_bytes, bytes_same, before_known, before_new, different_push}
use Rattle.script_laws.specs.Printable.{AreNames, AreInOrder}
use Rattle.script_laws.proofs.WordLemmas.{numbers_of}

grows : (xs ys : List (List ℕ)) → different xs ≤ different (xs ++ ys)
grows xs [] = omega (arith, ap different (append-nil xs))
grows xs (y ∷ ys) = omega (arith, grows (xs ++ y ∷ []) ys, different_push xs y, ap different (append_assoc xs (y ∷ []) ys))

cut_name : (x : List ℕ) (ys : List (List ℕ)) → is_among ys x ≡ true → (rest : List (List ℕ)) × (before_name x ys ++ x ∷ rest ≡ ys) × (is_among (before_name x ys) x ≡ false)
cut_name x [] h = absurd (let z : ⊥ = cc in z)
cut_name x (y ∷ ys) h = elim (cases_Bool (bytes_eq x y)) [
  | inl a ↦
      let e : x ≡ y = same_bytes x y a in
      rw a (ys, ap (λ z. z ∷ ys) e, refl)
  | inr a ↦
      let k : is_among ys x ≡ true = rw a at h in
      let r = cut_name x ys k in
      rw a (r.0, ap (λ (zs : List (List ℕ)). y ∷ zs) r.1, rw a (r.2))
]

number_below : (x : List ℕ) (ys : List (List ℕ)) → is_among ys x ≡ true → number_of_name ys x < different ys
number_below x ys h =
    let r = cut_name x ys h in
    let a = r.2 in
    let p : different (before_name x ys ++ x ∷ []) ≡ different (before_name x ys) + 1 = rw a at (different_push (before_name x ys) x) in
    let g = grows (before_name x ys ++ x ∷ []) r.0 in
    let e : (before_name x ys ++ x ∷ []) ++ r.0 ≡ ys = append_assoc (before_name x ys) (x ∷ []) r.0 ∙ r.1 in
    let d = ap different e in
    omega (arith, p, g, d)

among_more : (xs ys : List (List ℕ)) (x : List ℕ) → is_among (xs ++ x ∷ ys) x ≡ true
among_more [] ys x = rw (bytes_same x) refl
among_more (z ∷ xs) ys x = or_right (bytes_eq x z) (is_among (xs ++ x ∷ ys) x) (among_more xs ys x)
  where
    or_right : (a b : Bool) → b ≡ true → (a || b) ≡ true
    or_right true b h = refl
    or_right false b h = h

-- behind one name more
record IsNext (done rest : List (List ℕ)) (x : List ℕ) : Type 0 where
  low : number_of_name (done ++ x ∷ rest) x ≤ different done
  next : max (different done) (number_of_name (done ++ x ∷ rest) x + 1) ≡ different (done ++ x ∷ [])

is_next : (done rest : List (List ℕ)) (x : List ℕ) → IsNext done rest x
is_next done rest x = elim (cases_Bool (is_among done x)) [
  | inl a ↦
      let k : number_of_name (done ++ x ∷ rest) x ≡ number_of_name done x = ap different (before_known x done (x ∷ rest) a) in
      let b = number_below x done a in
      let p : different (done ++ x ∷ []) ≡ different done + 0 = rw a at (different_push done x) in
      record { low = omega arith; next = omega arith }
  | inr a ↦
      let k : number_of_name (done ++ x ∷ rest) x ≡ different done = ap different (before_new x done rest a) in
      let p : different (done ++ x ∷ []) ≡ different done + 1 = rw a at (different_push done x) in
      record { low = omega arith; next = omega arith }
]

order_from : (all done rest : List (List ℕ)) → done ++ rest ≡ all → AreInOrder (different done) (different all) (numbers_of all rest)
order_from all done [] e = ap different (sym (append-nil done) ∙ e)
order_from all done (x ∷ rest) e =
    let i = is_next done rest x in
    let P : List (List ℕ) → Type 0 = λ zs. number_of_name zs x ≤ different done in
    let Q : List (List ℕ) → Type 0 = λ zs. max (different done) (number_of_name zs x + 1) ≡ different (done ++ x ∷ []) in
    let R : ℕ → Type 0 = λ n. AreInOrder n (different all) (numbers_of all rest) in (
      subst P e i.low,
      subst R (sym (subst Q e i.next)) (order_from all (done ++ x ∷ []) rest (append_assoc done (x ∷ []) rest ∙ e)),
    )

pub numbers_in_order : (all : List (List ℕ)) → AreInOrder 0 (different all) (numbers_of all all)
numbers_in_order all = order_from all [] all refl

---- The name of a number

record HasName (all : List (List ℕ)) (k : ℕ) : Type 0 where
  name : List ℕ
  among : is_among all name ≡ true
  number : number_of_name all name ≡ k

all_have : (all done rest : List (List ℕ)) → done ++ rest ≡ all → ((k : ℕ) → k < different done → HasName all k) → (k : ℕ) → k < different all → HasName all k
all_have all done [] e h k b = h k (omega (arith, ap different (sym (append-nil done) ∙ e)))
all_have all done (x ∷ rest) e h k b = all_have all (done ++ x ∷ []) rest (append_assoc done (x ∷ []) rest ∙ e) more k b
  where
    more : (k : ℕ) → k < different (done ++ x ∷ []) → HasName all k
    more k b = elim (cases_lt k (different done)) [
      | inl c ↦ h k c
      | inr c ↦ elim (cases_Bool (is_among done x)) [
        | inl a ↦
            let p : different (done ++ x ∷ []) ≡ different done + 0 = rw a at (different_push done x) in
            absurd (omega arith)
        | inr a ↦
            let p : different (done ++ x ∷ []) ≡ different done + 1 = rw a at (different_push done x) in
            let n : number_of_name (done ++ x ∷ rest) x ≡ different done = ap different (before_new x done rest a) in
            let P : List (List ℕ) → Type 0 = λ zs. is_among zs x ≡ true in
            let Q : List (List ℕ) → Type 0 = λ zs. number_of_name zs x ≡ different done in
            let m : different done ≡ k = omega arith in
            record { name = x; among = subst P e (among_more done rest x); number = subst Q e n ∙ m }
      ]
    ]

-- the first of some names that has a number in a text
abbrev pub name_of_number : (all : List (List ℕ)) → List (List ℕ) → ℕ → List ℕ
name_of_number all [] k = []
name_of_number all (y ∷ ys) k = cond (eqb (number_of_name all y) k) y (name_of_number all ys k)

is_named : (P : List ℕ → Type 0) (all : List (List ℕ)) (k : ℕ) (x : List ℕ) (ys : List (List ℕ)) → AllByRecursion P ys → is_among ys x ≡ true → number_of_name all x ≡ k →
    (number_of_name all (name_of_number all ys k) ≡ k) × P (name_of_number all ys k)
is_named P all k x [] p a n = absurd (let z : ⊥ = cc in z)
is_named P all k x (y ∷ ys) p a n = elim (cases_Bool (eqb (number_of_name all y) k)) [
  | inl b ↦ rw b (eqb-true (number_of_name all y) k b, p.0)
  | inr b ↦ rw b (elim (cases_Bool (bytes_eq x y)) [
    | inl c ↦
        let e : x ≡ y = same_bytes x y c in
        absurd (eqb-false (number_of_name all y) k b (ap (number_of_name all) (sym e) ∙ n))
    | inr c ↦ is_named P all k x ys p.1 (rw c at a) n
  ])
]

name_by_valid : (word first : List ℕ) → AllByRecursion (λ x. is_name x ≡ true) (name_by word first)
name_by_valid word first = elim (cases_Bool (is_some (block_word word) && is_name first)) [
  | inl a ↦
      let k = and_parts (is_some (block_word word)) (is_name first) a in
      rw a (k.1, tt)
  | inr a ↦ rw a tt
]

pub all_append : {X : Type 0} (P : X → Type 0) (xs ys : List X) → AllByRecursion P xs → AllByRecursion P ys → AllByRecursion P (xs ++ ys)
all_append P [] ys h k = k
all_append P (x ∷ xs) ys h k = (h.0, all_append P xs ys h.1 k)

names_valid : (lines : List (List ℕ)) → AllByRecursion (λ x. is_name x ≡ true) (names_in lines)
names_valid [] = tt
names_valid (line ∷ lines) = all_append (λ x. is_name x ≡ true) (name_on (fields_of line)) (names_in lines) (name_by_valid (field 0 (fields_of line)) (field 1 (fields_of line))) (names_valid lines)

pub name_found : (lines : List (List ℕ)) (k : ℕ) → k < different (names_in lines) →
    (number_of_name (names_in lines) (name_of_number (names_in lines) (names_in lines) k) ≡ k) × (is_name (name_of_number (names_in lines) (names_in lines) k) ≡ true)
name_found lines k b =
    let h = all_have (names_in lines) [] (names_in lines) refl (λ k c. absurd (omega arith)) k b in
    is_named (λ x. is_name x ≡ true) (names_in lines) k h.name (names_in lines) (names_valid lines) h.among h.number

pub text_names : (lines : List (List ℕ)) → AreNames (name_of_number (names_in lines) (names_in lines)) (different (names_in lines))
text_names lines = record {
  valid = λ k b. (name_found lines k b).1;
  different = λ j k a b e. sym (name_found lines j a).0 ∙ ap (number_of_name (names_in lines)) e ∙ (name_found lines k b).0;
}
