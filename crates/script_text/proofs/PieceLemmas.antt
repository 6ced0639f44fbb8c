-- One element more behind a list that is cut at marks.
use Rattle.std.proofs.Common.{◌≡◌, ◌+◌, Bool, true, false, ◌||◌, cond, max, List, [], ◌∷◌, ◌++◌, length, refl, arith, inl, inr}
use Rattle.std.specs.Prelude.{count_by}
use Rattle.std.specs.List.{list_any}
use Rattle.std.proofs.lemmas.Bool.{cases_Bool}
use Rattle.std.proofs.lemmas.List.Folds.{list_any-append}
use Rattle.std.proofs.lemmas.Grind.{fold-append}
use Rattle.script_text.specs.Pieces.{marked_pieces, cut_before, behind_last}

pub or_false : (b : Bool) → (b || false) ≡ b
or_false true = refl
or_false false = refl

or_true : (b : Bool) → (b || true) ≡ true
or_true true = refl
or_true false = refl

pub behind_last_push : {X : Type 0} (p : X → Bool) (xs : List X) (y : X) → behind_last p (xs ++ y ∷ []) ≡ cond (p y) [] (behind_last p xs ++ y ∷ [])
behind_last_push p [] y = elim (cases_Bool (p y)) [
  | inl h ↦ rw h refl
  | inr h ↦ rw h refl
]
behind_last_push p (x ∷ xs) y =
    let e = behind_last_push p xs y in
    elim (cases_Bool (p y)) [
      | inl h ↦
          let f : behind_last p (xs ++ y ∷ []) ≡ [] = rw h at e in
          rw (list_any-append p xs (y ∷ []), h, or_true (list_any p xs), or_true (p x)) f
      | inr h ↦
          let f : behind_last p (xs ++ y ∷ []) ≡ behind_last p xs ++ y ∷ [] = rw h at e in
          rw (list_any-append p xs (y ∷ []), h, or_false (list_any p xs)) (elim (cases_Bool (p x || list_any p xs)) [
            | inl k ↦ rw k f
            | inr k ↦ rw k refl
          ])
    ]

pub count_push : {X : Type 0} (p : X → Bool) (xs : List X) (y : X) → count_by p (xs ++ y ∷ []) ≡ count_by p xs + cond (p y) 1 0
count_push p xs y = fold-append (λ a x. a + cond (p x) 1 0) 0 xs (y ∷ [])

marked_push : {X : Type 0} (p : X → Bool) (xs : List X) (y : X) → length (marked_pieces p (xs ++ y ∷ [])) ≡ length (marked_pieces p xs) + cond (p y) 1 0
marked_push p [] y = elim (cases_Bool (p y)) [
  | inl h ↦ rw h refl
  | inr h ↦ rw h refl
]
marked_push p (x ∷ xs) y = elim (cases_Bool (p x)) [
  | inl h ↦ rw h (omega (arith, marked_push p xs y))
  | inr h ↦ rw h (marked_push p xs y)
]

pub cut_push : {X : Type 0} (p : X → Bool) (xs : List X) (y : X) → length (cut_before p (xs ++ y ∷ [])) ≡ cond (p y) (length (cut_before p xs) + 1) (max (length (cut_before p xs)) 1)
cut_push p [] y = elim (cases_Bool (p y)) [
  | inl h ↦ rw h refl
  | inr h ↦ rw h refl
]
cut_push p (x ∷ xs) y =
    let e = marked_push p xs y in
    elim (cases_Bool (p y)) [
      | inl h ↦ let f : length (marked_pieces p (xs ++ y ∷ [])) ≡ length (marked_pieces p xs) + 1 = rw h at e in rw h (omega arith)
      | inr h ↦ let f : length (marked_pieces p (xs ++ y ∷ [])) ≡ length (marked_pieces p xs) + 0 = rw h at e in rw h (omega arith)
    ]
