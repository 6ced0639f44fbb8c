-- Lists that are filled up.
use Rattle.std.proofs.Common.{◌≡◌, ℕ, ◌+◌, ◌-◌, ◌<◌, ◌≤◌, inl, inr, List, [], ◌∷◌, ◌++◌, length, get_or, set, replicate, refl, sym, ap, ◌∙◌, arith, append_assoc, length-append}
use Rattle.std.proofs.lemmas.Bool.{cases_lt}
use Rattle.std.proofs.lemmas.List.{append-nil, get_or_append_left, get_or-append_right, get_or-replicate, get_or_past, length-replicate, length-set, set-append_left, replicate-append-replicate}
use Rattle.vs_split.specs.Table.{filled_up}

length_is : {A : Type 0} → (n : ℕ) (d : A) (xs : List A) → length (filled_up n d xs) ≡ length xs + (n - length xs)
length_is n d xs = length-append xs (replicate (n - length xs) d) ∙ ap (λ (k : ℕ). length xs + k) (length-replicate (n - length xs) d)

pub long_enough : {A : Type 0} → (n : ℕ) (d : A) (xs : List A) → n ≤ length (filled_up n d xs)
long_enough n d xs = omega (arith, length_is n d xs)

pub not_longer : {A : Type 0} → (m n : ℕ) (d : A) (xs : List A) → length xs ≤ n → m ≤ n → length (filled_up m d xs) ≤ n
not_longer m n d xs l h = omega (arith, length_is m d xs)

pub as_long : {A B : Type 0} → (n : ℕ) (d : A) (e : B) (xs : List A) (ys : List B) → length ys ≡ length xs → length (filled_up n e ys) ≡ length (filled_up n d xs)
as_long n d e xs ys same = omega (arith, length_is n d xs, length_is n e ys)

pub empty_filled : {A : Type 0} → (n : ℕ) (d : A) → filled_up n d [] ≡ replicate n d
empty_filled n d = let e : n - 0 ≡ n = omega arith in ap (λ (k : ℕ). replicate k d) e

pub none_more : {A : Type 0} → (n : ℕ) (d : A) (xs : List A) → n ≤ length xs → filled_up n d xs ≡ xs
none_more n d xs l = let e : n - length xs ≡ 0 = omega arith in ap (λ (k : ℕ). xs ++ replicate k d) e ∙ append-nil xs

pub one_more : {A : Type 0} → (n : ℕ) (d : A) (xs : List A) → length xs ≤ n → filled_up n d xs ++ d ∷ [] ≡ filled_up (n + 1) d xs
one_more n d xs l =
    let e : n - length xs + 1 ≡ n + 1 - length xs = omega arith in
    append_assoc xs (replicate (n - length xs) d) (d ∷ []) ∙ ap (λ ys. xs ++ ys) (replicate-append-replicate (n - length xs) 1 d ∙ ap (λ (k : ℕ). replicate k d) e)

-- an element that it lacks counts as the one that it is filled up with
pub get_or_filled : {A : Type 0} → (n i : ℕ) (d : A) (xs : List A) → get_or (filled_up n d xs) i d ≡ get_or xs i d
get_or_filled n i d xs = elim (cases_lt i (length xs)) [
  | inl l ↦ get_or_append_left xs (replicate (n - length xs) d) d i l
  | inr l ↦ get_or-append_right xs (replicate (n - length xs) d) (length xs) i d refl l ∙ (all_equal (n - length xs) (i - length xs) ∙ sym (get_or_past xs i d l))
]
  where
    all_equal : (m k : ℕ) → get_or (replicate m d) k d ≡ d
    all_equal m k = elim (cases_lt k m) [
      | inl l ↦ get_or-replicate m k d d l
      | inr l ↦ get_or_past (replicate m d) k d (omega (arith, length-replicate m d))
    ]

-- to fill up in two steps is to fill up
pub filled_twice : {A : Type 0} → (m n : ℕ) (d : A) (xs : List A) → m ≤ n → filled_up n d (filled_up m d xs) ≡ filled_up n d xs
filled_twice m n d xs l =
    let k = m - length xs in
    let j = n - length (filled_up m d xs) in
    let e : k + j ≡ n - length xs = omega (arith, length_is m d xs) in
    append_assoc xs (replicate k d) (replicate j d) ∙ ap (λ ys. xs ++ ys) (replicate-append-replicate k j d ∙ ap (λ (z : ℕ). replicate z d) e)

set_filled : {A : Type 0} → (n i : ℕ) (d w : A) (xs : List A) → i < length xs → filled_up n d (set xs i w) ≡ set (filled_up n d xs) i w
set_filled n i d w xs l = ap (λ (k : ℕ). set xs i w ++ replicate (n - k) d) (length-set xs i w) ∙ sym (set-append_left xs (replicate (n - length xs) d) i w l)

-- an element is written, once there are so many
pub filled_set : {A : Type 0} → (n g : ℕ) (d w : A) (xs : List A) → g < n → filled_up n d (set (filled_up (g + 1) d xs) g w) ≡ set (filled_up n d xs) g w
filled_set n g d w xs l =
    let enough = long_enough (g + 1) d xs in
    set_filled n g d w (filled_up (g + 1) d xs) (omega arith) ∙ ap (λ ys. set ys g w) (filled_twice (g + 1) n d xs (omega arith))

pub length_filled : {A : Type 0} → (n : ℕ) (d : A) (xs : List A) → length xs ≤ n → length (filled_up n d xs) ≡ n
length_filled n d xs l = omega (arith, length_is n d xs)
