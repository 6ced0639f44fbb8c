-- The first field of a line, and the others.
use Rattle.std.proofs.Common.{◌≡◌, ℕ, Bool, true, false, not, cond, List, [], ◌∷◌, drop, get_or, refl, ap, ◌∙◌, inl, inr, one-add, add-one}
use Rattle.std.specs.Prelude.{filter}
use Rattle.std.specs.List.{list_all, before_first, after_first, position_or_len, slice_split, onto_first}
use Rattle.std.proofs.lemmas.Bool.{cases_Bool}
use Rattle.script_text.specs.Lines.{has_bytes}

abbrev pub pieces : (ℕ → Bool) → List ℕ → List (List ℕ)
pieces p cs = filter has_bytes (slice_split p cs)

abbrev pub start : (ℕ → Bool) → List ℕ → List ℕ
start p cs = drop (position_or_len (λ b. not (p b)) cs) cs

abbrev others : (ℕ → Bool) → List ℕ → List (List ℕ)
others p [] = []
others p (c ∷ cs) = cond (p c) (slice_split p cs) (others p cs)

split_head : (p : ℕ → Bool) (cs : List ℕ) → slice_split p cs ≡ before_first p cs ∷ others p cs
split_head p [] = refl
split_head p (c ∷ cs) = elim (cases_Bool (p c)) [
  | inl h ↦ rw h refl
  | inr h ↦ rw (h, one-add) (ap (onto_first c) (split_head p cs))
]

others_are : (p : ℕ → Bool) (cs : List ℕ) → filter has_bytes (others p cs) ≡ pieces p (after_first p cs)
others_are p [] = refl
others_are p (c ∷ cs) =
    let e = rw add-one at (others_are p cs) in
    elim (cases_Bool (p c)) [
      | inl h ↦ rw h refl
      | inr h ↦ rw (h, one-add, add-one) e
    ]

bare_head : (p : ℕ → Bool) (c : ℕ) (cs : List ℕ) → p c ≡ false → pieces p (c ∷ cs) ≡ before_first p (c ∷ cs) ∷ pieces p (after_first p (c ∷ cs))
bare_head p c cs h =
    let o = others_are p (c ∷ cs) in
    let f : pieces p (c ∷ cs) ≡ filter has_bytes (before_first p (c ∷ cs) ∷ others p (c ∷ cs)) = ap (filter has_bytes) (split_head p (c ∷ cs)) in
    let g : filter has_bytes (before_first p (c ∷ cs) ∷ others p (c ∷ cs)) ≡ before_first p (c ∷ cs) ∷ filter has_bytes (others p (c ∷ cs)) = rw (h, one-add) refl in
    f ∙ g ∙ ap (λ xs. before_first p (c ∷ cs) ∷ xs) o

pub first_piece : (p : ℕ → Bool) (cs : List ℕ) → (before_first p (start p cs) ≡ get_or (pieces p cs) 0 []) × (pieces p (after_first p (start p cs)) ≡ drop 1 (pieces p cs))
first_piece p [] = (refl, refl)
first_piece p (c ∷ cs) = elim (cases_Bool (p c)) [
  | inl h ↦ rw (h, one-add) (first_piece p cs)
  | inr h ↦
      let e = bare_head p c cs h in
      let s : start p (c ∷ cs) ≡ c ∷ cs = rw h refl in
      rw (s, e) (refl, refl)
]

pub all_have_bytes : (fs : List (List ℕ)) → list_all has_bytes (filter has_bytes fs) ≡ true
all_have_bytes [] = refl
all_have_bytes ([] ∷ fs) = all_have_bytes fs
all_have_bytes ((c ∷ cs) ∷ fs) = all_have_bytes fs
