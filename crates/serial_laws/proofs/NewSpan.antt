-- A place that no gap had, and a new span has, lies in this span.
use Rattle.std.proofs.Common.{◌≡◌, ℕ, zero, suc, ◌+◌, ◌*◌, ◌-◌, ◌≤◌, Bool, true, false, List, [], ◌∷◌, ◌++◌, Option, Some, None, refl, subst, arith, eqb, leb, ltb, option_map, if◌then◌else◌, inl, inr}
use Rattle.std.specs.Prelude.{filter}
use Rattle.std.specs.List.{AllByRecursion}
use Rattle.std.proofs.lemmas.Bool.{cases_Bool, and_from, le-leb, leb-true, leb-false, eqb-true}
use Rattle.heap_model.specs.declared.Kind.TheVariants as kinds
use Rattle.heap_model.specs.Geometry.{page_bytes, units_of}
use Rattle.heap_model.specs.Runs.{Run, joined, runs, fitting, least, least_of}
use Rattle.heap_model.specs.State.{Span, Place, insert_span}
use Rattle.heap_model.specs.Ranges.{is_of_kind, is_clear, gaps_in, gaps_of, is_smaller, taken_of, vs_place}
use Rattle.heap_model.specs.Legal.{lies_in}
use Rattle.serial_laws.specs.VsCalls.{vs_block, vs_span_for}

---- What holds of all runs that fit holds of the least

-- what a run has if it fits
abbrev IfFits : (Run → Type 0) → ℕ → Run → Type 0
IfFits Q k r = k ≤ r.count → Q r

least_of_fitting : (Q : Run → Type 0) (before : Run → Run → Bool) (k : ℕ) (r : Run) (ss : List Run) → Q r × (k ≤ r.count) → AllByRecursion (IfFits Q k) ss →
    Q (least_of before r (fitting k ss)) × (k ≤ (least_of before r (fitting k ss)).count)
least_of_fitting Q before k r [] h a = h
least_of_fitting Q before k r (s ∷ ss) h a = elim (cases_Bool (leb k s.count)) [
  | inl e ↦ let l = leb-true k s.count e in rw e (least_of_fitting Q before k (if before s r then s else r) ss (either (before s r) (a.0 l, l)) a.1)
  | inr e ↦ rw e (least_of_fitting Q before k r ss h a.1)
]
  where
    either : (b : Bool) → Q s × (k ≤ s.count) → Q (if b then s else r) × (k ≤ (if b then s else r).count)
    either true l = l
    either false l = h

least_fitting : (Q : Run → Type 0) (before : Run → Run → Bool) (k : ℕ) (r : Run) (ss : List Run) → AllByRecursion (IfFits Q k) ss → least before (fitting k ss) ≡ Some r → Q r × (k ≤ r.count)
least_fitting Q before k r [] a h = absurd (let z : ⊥ = cc in z)
least_fitting Q before k r (s ∷ ss) a h = elim (cases_Bool (leb k s.count)) [
  | inl e ↦
      let l = leb-true k s.count e in
      let f : Some (least_of before s (fitting k ss)) ≡ Some r = rw e at h in
      let g : least_of before s (fitting k ss) ≡ r = cc in
      subst (λ (q : Run). Q q × (k ≤ q.count)) g (least_of_fitting Q before k s ss (a.0 l, l) a.1)
  | inr e ↦ least_fitting Q before k r ss a.1 (rw e at h)
]

-- .. and it fits
pub least_fits : (before : Run → Run → Bool) (k : ℕ) (r : Run) (ss : List Run) → least before (fitting k ss) ≡ Some r → k ≤ r.count
least_fits before k r ss h = (least_fitting Any before k r ss (all ss) h).1
  where
    Any : Run → Type 0
    Any q = Unit {0}

    all : (rs : List Run) → AllByRecursion (IfFits Any k) rs
    all [] = tt
    all (q ∷ rs) = (λ l. tt, all rs)

-- where there is no place, no run fits
none_fits : (Q : Run → Type 0) (k : ℕ) (rs : List Run) → vs_place rs k ≡ None → AllByRecursion (IfFits Q k) rs
none_fits Q k [] h = tt
none_fits Q k (r ∷ rs) h = elim (cases_Bool (leb k r.count)) [
  | inl e ↦ absurd (let f = rw e at h in let z : ⊥ = cc in z)
  | inr e ↦ (λ l. absurd (let g = leb-false k r.count e in omega arith), none_fits Q k rs (rw e at h))
]

---- The gaps of a span lie in it

-- a run lies in a range of numbers
abbrev LiesBetween : ℕ → ℕ → Run → Type 0
LiesBetween low high r = (low ≤ r.first) × (r.first + r.count ≤ high)

all_lower : (at high : ℕ) (rs : List Run) → AllByRecursion (LiesBetween (suc at) high) rs → AllByRecursion (LiesBetween at high) rs
all_lower at high [] a = tt
all_lower at high (r ∷ rs) a = let k = a.0 in ((omega (arith, k.0), k.1), all_lower at high rs a.1)

joined_between : (at high : ℕ) (rs : List Run) → at + 1 ≤ high → AllByRecursion (LiesBetween (suc at) high) rs → AllByRecursion (LiesBetween at high) (joined at rs)
joined_between at high [] l a = ((omega arith, l), tt)
joined_between at high (r ∷ rs) l a = let k = a.0 in elim (cases_Bool (eqb r.first (suc at))) [
  | inl e ↦ let f = eqb-true r.first (suc at) e in rw e ((omega arith, omega (arith, k.1)), all_lower at high rs a.1)
  | inr e ↦ rw e ((omega arith, l), ((omega (arith, k.0), k.1), all_lower at high rs a.1))
]

runs_between : (test : ℕ → Bool) (at n : ℕ) → AllByRecursion (LiesBetween at (at + n)) (runs test at n)
runs_between test at zero = tt
runs_between test at (suc n) =
    let e : suc at + n ≡ at + suc n = omega arith in
    let rest = subst (λ (high : ℕ). AllByRecursion (LiesBetween (suc at) high) (runs test (suc at) n)) e (runs_between test (suc at) n) in
    elim (cases_Bool (test at)) [
      | inl t ↦ rw t (joined_between at (at + suc n) (runs test (suc at) n) (omega arith) rest)
      | inr t ↦ rw t (all_lower at (at + suc n) (runs test (suc at) n) rest)
    ]

all_append : (P : Run → Type 0) (rs ss : List Run) → AllByRecursion P rs → AllByRecursion P ss → AllByRecursion P (rs ++ ss)
all_append P [] ss a b = b
all_append P (r ∷ rs) ss a b = (a.0, all_append P rs ss a.1 b)

all_parts : (P : Run → Type 0) (rs ss : List Run) → AllByRecursion P (rs ++ ss) → AllByRecursion P rs × AllByRecursion P ss
all_parts P [] ss a = (tt, a)
all_parts P (r ∷ rs) ss a = let k = all_parts P rs ss a.1 in ((a.0, k.0), k.1)

all_of : (P Q : Run → Type 0) (rs : List Run) → ((r : Run) → P r → Q r) → AllByRecursion P rs → AllByRecursion Q rs
all_of P Q [] f a = tt
all_of P Q (r ∷ rs) f a = (f r a.0, all_of P Q rs f a.1)

-- what holds of the gaps from before and of those of a new span holds of all
all_with : (P : Run → Type 0) (ps : List Place) (x : Span) (xs : List Span) → is_of_kind kinds.Vs x ≡ true → AllByRecursion P (gaps_in ps x) → AllByRecursion P (gaps_of (filter (is_of_kind kinds.Vs) xs) ps) →
    AllByRecursion P (gaps_of (filter (is_of_kind kinds.Vs) (insert_span x xs)) ps)
all_with P ps x [] k h a = rw k (all_append P (gaps_in ps x) [] h tt)
all_with P ps x (y ∷ ys) k h a = elim (cases_Bool (ltb x.first y.first)) [
  | inl l ↦ rw (l, k) (all_append P (gaps_in ps x) (gaps_of (filter (is_of_kind kinds.Vs) (y ∷ ys)) ps) h a)
  | inr l ↦ rw l (elim (cases_Bool (is_of_kind kinds.Vs y)) [
    | inl e ↦ let q = all_parts P (gaps_in ps y) (gaps_of (filter (is_of_kind kinds.Vs) ys) ps) (rw e at a) in rw e (all_append P (gaps_in ps y) _ q.0 (all_with P ps x ys k h q.1))
    | inr e ↦ rw e (all_with P ps x ys k h (rw e at a))
  ])
]

---- So the place does

taken_within : (k all : ℕ) → k ≤ all → taken_of k all ≤ all
taken_within k all h = elim (cases_Bool (ltb (all - k) 2)) [ inl e ↦ rw e (omega arith) | inr e ↦ rw e h ]

module _ (xs : List Span) (ps : List Place) (first n : ℕ) where
  abbrev x : Span
  x = vs_span_for first n

  abbrev spaces : List Run
  spaces = gaps_of (filter (is_of_kind kinds.Vs) (insert_span x xs)) ps

  abbrev Inside : Run → Type 0
  Inside q = LiesBetween (256 * first + 3) (256 * first + 3 + (256 * x.pages - 3)) q

  all_inside : vs_place (gaps_of (filter (is_of_kind kinds.Vs) xs) ps) (units_of n) ≡ None → AllByRecursion (IfFits Inside (units_of n)) spaces
  all_inside none =
      all_with (IfFits Inside (units_of n)) ps x xs refl
      (all_of Inside (IfFits Inside (units_of n)) (gaps_in ps x) (λ q i l. i) (runs_between (is_clear ps) (256 * first + 3) (256 * x.pages - 3)))
      (none_fits Inside (units_of n) (gaps_of (filter (is_of_kind kinds.Vs) xs) ps) none)

  lies : (r : Run) (o : Option Run) → ((q : Run) → o ≡ Some q → Inside q × (units_of n ≤ q.count)) → option_map (λ (q : Run). record { first = q.first; count = taken_of (units_of n) q.count }) o ≡ Some r → lies_in page_bytes x (vs_block r n) ≡ true
  lies r None f e = absurd (let z : ⊥ = cc in z)
  lies r (Some q) f e =
      let g = f q refl in
      let t = taken_within (units_of n) q.count g.1 in
      let low = g.0.0 in
      let high = g.0.1 in
      let same : record { first = q.first; count = taken_of (units_of n) q.count } ≡ r = cc in
      subst (λ (p : Run). lies_in page_bytes x (vs_block p n) ≡ true) same
      (and_from (leb (4096 * first) (16 * q.first)) (leb (16 * q.first + 16 * taken_of (units_of n) q.count) (4096 * (first + x.pages))) (le-leb _ _ (omega arith)) (le-leb _ _ (omega arith)))

  pub lies_in_new_span : (r : Run) → vs_place (gaps_of (filter (is_of_kind kinds.Vs) xs) ps) (units_of n) ≡ None → vs_place spaces (units_of n) ≡ Some r → lies_in page_bytes x (vs_block r n) ≡ true
  lies_in_new_span r none h = lies r (least is_smaller (fitting (units_of n) spaces)) (λ q e. least_fitting Inside is_smaller (units_of n) q spaces (all_inside none) e) h
