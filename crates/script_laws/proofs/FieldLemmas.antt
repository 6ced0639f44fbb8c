-- The fields of a printed line.
use Rattle.std.proofs.Common.{◌≡◌, ℕ, ◌^◌, ◌<◌, ◌≤◌, true, false, ◌&&◌, eqb, leb, List, [], ◌∷◌, ◌++◌, length, flat_map, decimal, Ok, refl, ap, ◌∙◌, arith, inl, inr, rules, append-nil}
use Rattle.std.specs.Prelude.{filter}
use Rattle.std.specs.List.{list_all, slice_split, onto_first, AllByRecursion}
use Rattle.std.proofs.lemmas.Bool.{cases_Bool, and_parts, ne_eqb, le-leb, lt-leb, leb-true, leb-false, lt-ltb}
use Rattle.std.proofs.lemmas.List.Folds.{list_all-append}
use Rattle.std.proofs.lemmas.Fmt.{digits_decimal, digits_value-decimal, length-decimal-le, decimal_nonempty}
use Rattle.std.proofs.lemmas.Str.Parse.{IsNumeralModel, numerals_by_fold}
use Rattle.script_text.specs.Lines.{lines_of, is_blank, has_bytes, fields_of}
use Rattle.script_text.specs.Words.{is_digit, value_behind, suits_name, begins_name, is_name, number_field}
use Rattle.script_laws.specs.Printer.{spaced}

-- bytes that are no blanks and no line feeds
abbrev pub IsDark : List ℕ → Type 0
IsDark cs = list_all (leb 33) cs ≡ true

-- some of them
abbrev pub IsField : List ℕ → Type 0
IsField cs = (has_bytes cs ≡ true) × IsDark cs

dark_parts : (c : ℕ) (cs : List ℕ) → IsDark (c ∷ cs) → (33 ≤ c) × IsDark cs
dark_parts c cs h = let k = and_parts (leb 33 c) (list_all (leb 33) cs) h in (leb-true 33 c k.0, k.1)

no_blank : (c : ℕ) → 33 ≤ c → is_blank c ≡ false
no_blank c h =
    let a : eqb c 32 ≡ false = ne_eqb c 32 (λ e. omega arith) in
    let b : eqb c 9 ≡ false = ne_eqb c 9 (λ e. omega arith) in
    let d : eqb c 13 ≡ false = ne_eqb c 13 (λ e. omega arith) in
    rw (a, b, d) refl

split_on : (cs rest : List ℕ) → IsDark cs → slice_split is_blank (cs ++ 32 ∷ rest) ≡ cs ∷ slice_split is_blank rest
split_on [] rest h = refl
split_on (c ∷ cs) rest h = let k = dark_parts c cs h in rw (no_blank c k.0) (ap (onto_first c) (split_on cs rest k.1))

split_end : (cs : List ℕ) → IsDark cs → slice_split is_blank cs ≡ cs ∷ []
split_end [] h = refl
split_end (c ∷ cs) h = let k = dark_parts c cs h in rw (no_blank c k.0) (ap (onto_first c) (split_end cs k.1))

split_all : (f : List ℕ) (fs : List (List ℕ)) → IsField f → AllByRecursion IsField fs → slice_split is_blank (f ++ flat_map spaced fs) ≡ f ∷ fs
split_all f [] h hs = ap (slice_split is_blank) (append-nil f) ∙ split_end f h.1
split_all f (g ∷ gs) h hs = split_on f (g ++ flat_map spaced gs) h.1 ∙ ap (λ (zs : List (List ℕ)). f ∷ zs) (split_all g gs hs.0 hs.1)

all_kept : (fs : List (List ℕ)) → AllByRecursion IsField fs → filter has_bytes fs ≡ fs
all_kept [] h = refl
all_kept (f ∷ fs) h = rw (h.0.0) (ap (λ (zs : List (List ℕ)). f ∷ zs) (all_kept fs h.1))

-- fields that are printed are those that are read
pub fields_are : (f : List ℕ) (fs : List (List ℕ)) → IsField f → AllByRecursion IsField fs → fields_of (f ++ flat_map spaced fs) ≡ f ∷ fs
fields_are f fs h hs = ap (filter has_bytes) (split_all f fs h hs) ∙ all_kept (f ∷ fs) (h, hs)

---- No line feeds

abbrev pub IsOneLine : List ℕ → Type 0
IsOneLine cs = list_all (leb 32) cs ≡ true

dark_is_line : (cs : List ℕ) → IsDark cs → IsOneLine cs
dark_is_line [] h = refl
dark_is_line (c ∷ cs) h = let k = dark_parts c cs h in rw (le-leb 32 c (omega arith)) (dark_is_line cs k.1)

line_append : (xs ys : List ℕ) → IsOneLine xs → IsOneLine ys → IsOneLine (xs ++ ys)
line_append xs ys h k = rw (list_all-append (leb 32) xs ys, h) k

spaced_is_line : (fs : List (List ℕ)) → AllByRecursion IsField fs → IsOneLine (flat_map spaced fs)
spaced_is_line [] h = refl
spaced_is_line (f ∷ fs) h = line_append f (flat_map spaced fs) (dark_is_line f h.0.1) (spaced_is_line fs h.1)

pub one_line : (f : List ℕ) (fs : List (List ℕ)) → IsField f → AllByRecursion IsField fs → IsOneLine (f ++ flat_map spaced fs)
one_line f fs h hs = line_append f (flat_map spaced fs) (dark_is_line f h.1) (spaced_is_line fs hs)

pub line_cut : (cs rest : List ℕ) → IsOneLine cs → lines_of ((cs ++ 10 ∷ []) ++ rest) ≡ cs ∷ lines_of rest
line_cut [] rest h = refl
line_cut (c ∷ cs) rest h =
    let k = and_parts (leb 32 c) (list_all (leb 32) cs) h in
    let b = leb-true 32 c k.0 in
    let a : eqb c 10 ≡ false = ne_eqb c 10 (λ e. omega arith) in
    rw a (ap (onto_first c) (line_cut cs rest k.1))

---- Numbers

digit_from : (c : ℕ) → is_digit c ≡ true → (48 ≤ c) × (c ≤ 57)
digit_from c h = let k = and_parts (leb 48 c) (leb c 57) h in (leb-true 48 c k.0, leb-true c 57 k.1)

own : IsNumeralModel (λ ds. list_all is_digit ds ≡ true) (value_behind 0)
own = numerals_by_fold _ (search rules) value_behind (search rules)

digits_dark : (cs : List ℕ) → list_all is_digit cs ≡ true → IsDark cs
digits_dark [] h = refl
digits_dark (c ∷ cs) h =
    let k = and_parts (is_digit c) (list_all is_digit cs) h in
    let b = digit_from c k.0 in
    rw (le-leb 33 c (omega arith)) (digits_dark cs k.1)

some_bytes : (cs : List ℕ) → 0 < length cs → has_bytes cs ≡ true
some_bytes [] h = absurd (omega arith)
some_bytes (c ∷ cs) h = refl

pub decimal_is_field : (n : ℕ) → n < 2 ^ 64 → IsField (decimal n)
decimal_is_field n h = (some_bytes (decimal n) (decimal_nonempty n h), digits_dark (decimal n) (digits_decimal own n h))

-- a number that is printed is read
pub decimal_is_read : (n : ℕ) → n < 2 ^ 64 → number_field (decimal n) ≡ Ok n
decimal_is_read n h =
    let low = decimal_nonempty n h in
    let few : length (decimal n) ≤ 20 = length-decimal-le 20 n (omega arith) (omega arith) h in
    let a : leb 1 (length (decimal n)) ≡ true = le-leb 1 (length (decimal n)) (omega arith) in
    let b = le-leb (length (decimal n)) 20 few in
    let d : list_all is_digit (decimal n) ≡ true = digits_decimal own n h in
    let v : value_behind 0 (decimal n) ≡ n = digits_value-decimal own n h in
    let l = lt-ltb n (2 ^ 64) h in
    rw (a, b, d, v, l) refl

pub address_is_field : (n : ℕ) → n < 2 ^ 64 → IsField (64 ∷ decimal n)
address_is_field n h = (refl, (decimal_is_field n h).1)

---- Names

suits_dark : (c : ℕ) → suits_name c ≡ true → leb 33 c ≡ true
suits_dark c h = elim (cases_Bool (leb 33 c)) [
  | inl a ↦ a
  | inr a ↦
      let s = leb-false 33 c a in
      let b : leb 65 c ≡ false = lt-leb 65 c (omega arith) in
      let d : leb 97 c ≡ false = lt-leb 97 c (omega arith) in
      let e : leb 48 c ≡ false = lt-leb 48 c (omega arith) in
      let f : eqb c 95 ≡ false = ne_eqb c 95 (λ z. omega arith) in
      let g = rw (b, d, e, f) at h in
      absurd (let z : ⊥ = cc in z)
]

all_suit_dark : (cs : List ℕ) → list_all suits_name cs ≡ true → IsDark cs
all_suit_dark [] h = refl
all_suit_dark (c ∷ cs) h =
    let k = and_parts (suits_name c) (list_all suits_name cs) h in
    rw (suits_dark c k.0) (all_suit_dark cs k.1)

begins_bytes : (cs : List ℕ) → begins_name cs ≡ true → has_bytes cs ≡ true
begins_bytes [] h = h
begins_bytes (c ∷ cs) h = refl

pub name_is_field : (cs : List ℕ) → is_name cs ≡ true → IsField cs
name_is_field cs h =
    let k = and_parts (begins_name cs && leb (length cs) 32) (list_all suits_name cs) h in
    let m = and_parts (begins_name cs) (leb (length cs) 32) k.0 in
    (begins_bytes cs m.0, all_suit_dark cs k.1)
