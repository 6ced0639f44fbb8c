-- The gaps of VS spans as runs: where a new place goes, and what is free behind a place.
use Rattle.std.proofs.Common.{◌≡◌, ℕ, zero, suc, ◌+◌, ◌-◌, ◌*◌, ◌/◌, ◌<◌, ◌≤◌, Bool, true, false, List, [], ◌∷◌, ◌++◌, Option, Some, None, refl, sym, ◌∙◌, subst, arith, eqb, ltb, inl, inr, ◌⊎◌}
use Rattle.std.specs.Prelude.{filter, flat_map, option_map}
use Rattle.std.specs.List.{list_any, AllByRecursion}
use Rattle.std.proofs.lemmas.Bool.{cases_Bool, cases_eq, cases_lt, or_left, or_right, or_cases, both_ways, ltb-false, eqb-true, eq-eqb, false≢true}
use Rattle.heap_model.specs.declared.Kind.TheVariants as kinds
use Rattle.heap_model.specs.Geometry.{units_of}
use Rattle.heap_model.specs.Runs.{Run, joined, runs, IsRun, fitting, least}
use Rattle.heap_model.specs.State.{Span, Place}
use Rattle.heap_model.specs.Ranges.{is_clear, gaps_in, gaps_of, is_of_kind, is_smaller, taken_of, vs_place}
use Rattle.heap_soundness.specs.Sound.{IsOneOf, AreInOrder}
use Rattle.heap_soundness.specs.Invariant.{IsVsSound}
use Rattle.heap_soundness.proofs.Lists.{all_append}
use Rattle.heap_soundness.proofs.Enums.{kind_is}
use Rattle.heap_soundness.proofs.Spans.{above}
use Rattle.heap_soundness.proofs.Maximal.{runs_only}
use Rattle.heap_soundness.proofs.RunLemmas.{fitting_all, least_all}
use Rattle.heap_soundness.proofs.VsGaps.{vs_placed}

---- A run begins where the one before does not pass

abbrev begins : ℕ → Run → Bool
begins k r = eqb r.first k

joined_begins : (n : ℕ) (rs : List Run) → list_any (begins n) (joined n rs) ≡ true
joined_begins n [] = let e = eq-eqb n n refl in rw e refl
joined_begins n (r ∷ rs) = let e = eq-eqb n n refl in elim (cases_Bool (eqb r.first (suc n))) [ inl f ↦ rw (f, e) refl | inr f ↦ rw (f, e) refl ]

joined_keeps : (n k : ℕ) (rs : List Run) → (k ≡ suc n → ⊥) → list_any (begins k) rs ≡ true → list_any (begins k) (joined n rs) ≡ true
joined_keeps n k [] ne h = absurd (false≢true h)
joined_keeps n k (r ∷ rs) ne h = elim (cases_Bool (eqb r.first (suc n))) [
  | inl f ↦ rw f (elim (or_cases (eqb r.first k) (list_any (begins k) rs) h) [
    | inl e ↦ absurd (ne (sym (eqb-true r.first k e) ∙ eqb-true r.first (suc n) f))
    | inr e ↦ or_right (eqb n k) (list_any (begins k) rs) e
  ])
  | inr f ↦ rw f (or_right (eqb n k) (list_any (begins k) (r ∷ rs)) h)
]

pub runs_begin : (test : ℕ → Bool) (at n k : ℕ) → at ≤ k → k < at + n → test k ≡ true → ((j : ℕ) → suc j ≡ k → at ≤ j → test j ≡ false) → list_any (begins k) (runs test at n) ≡ true
runs_begin test at zero k l h t b = absurd (omega arith)
runs_begin test at (suc n) k l h t b = elim (cases_eq k at) [
  | inl e ↦ let f : test at ≡ true = subst (λ (x : ℕ). test x ≡ true) e t in rw f (subst (λ (x : ℕ). list_any (begins x) (joined at (runs test (suc at) n)) ≡ true) (sym e) (joined_begins at (runs test (suc at) n)))
  | inr ne ↦
      let later = runs_begin test (suc at) n k (higher ne l) (omega arith) t (λ j e g. b j e (omega arith)) in
      elim (cases_Bool (test at)) [
        | inl f ↦ rw f (joined_keeps at k (runs test (suc at) n) (λ e. both_ways (test at) (b at (sym e) (omega arith)) f) later)
        | inr f ↦ rw f later
      ]
]
  where
    higher : (k ≡ at → ⊥) → at ≤ k → suc at ≤ k
    higher ne l = omega arith

---- The gaps of all spans

pub filtered_cases : {A : Type 0} (t : A → Bool) (x : A) (xs : List A) → IsOneOf x (filter t xs) → IsOneOf x xs × (t x ≡ true)
filtered_cases t x [] i = absurd i
filtered_cases {A = A} t x (y ∷ ys) i = elim (cases_Bool (t y)) [
  | inl e ↦ elim (rw e at i) [ inl f ↦ (inl f, subst (λ (z : A). t z ≡ true) f e) | inr j ↦ let r = filtered_cases t x ys j in (inr r.0, r.1) ]
  | inr e ↦ let r = filtered_cases t x ys (rw e at i) in (inr r.0, r.1)
]

pub in_filtered : {A : Type 0} (t : A → Bool) (x : A) (xs : List A) → t x ≡ true → IsOneOf x xs → IsOneOf x (filter t xs)
in_filtered t x [] h i = absurd i
in_filtered {A = A} t x (y ∷ ys) h (inl e) = let f : t y ≡ true = subst (λ (z : A). t z ≡ true) (sym e) h in rw f (inl e)
in_filtered t x (y ∷ ys) h (inr i) = elim (cases_Bool (t y)) [ inl f ↦ rw f (inr (in_filtered t x ys h i)) | inr f ↦ rw f (in_filtered t x ys h i) ]

all_flat : {A B : Type 0} (P : B → Type 0) (f : A → List B) (xs : List A) → ((x : A) → IsOneOf x xs → AllByRecursion P (f x)) → AllByRecursion P (flat_map f xs)
all_flat P f [] h = tt
all_flat P f (x ∷ xs) h = all_append P (f x) (flat_map f xs) (h x (inl refl)) (all_flat P f xs (λ y i. h y (inr i)))

in_append : {A : Type 0} (t : A → Bool) (xs ys : List A) → (list_any t xs ≡ true) ⊎ (list_any t ys ≡ true) → list_any t (xs ++ ys) ≡ true
in_append t [] ys (inl h) = absurd (false≢true h)
in_append t [] ys (inr h) = h
in_append t (x ∷ xs) ys (inl h) = elim (or_cases (t x) (list_any t xs) h) [
  | inl e ↦ or_left (t x) (list_any t (xs ++ ys)) e
  | inr e ↦ or_right (t x) (list_any t (xs ++ ys)) (in_append t xs ys (inl e))
]
in_append t (x ∷ xs) ys (inr h) = or_right (t x) (list_any t (xs ++ ys)) (in_append t xs ys (inr h))

pub any_flat : {A B : Type 0} (t : B → Bool) (f : A → List B) (xs : List A) (x : A) → IsOneOf x xs → list_any t (f x) ≡ true → list_any t (flat_map f xs) ≡ true
any_flat t f [] x i h = absurd i
any_flat {A = A} t f (y ∷ ys) x (inl e) h = in_append t (f y) (flat_map f ys) (inl (subst (λ (z : A). list_any t (f z) ≡ true) (sym e) h))
any_flat t f (y ∷ ys) x (inr i) h = in_append t (f y) (flat_map f ys) (inr (any_flat t f ys x i h))

-- a gap is a maximal run of a VS span
pub record IsGap (xs : List Span) (ps : List Place) (r : Run) : Type 0 where
  pub span : Span
  pub there : IsOneOf span xs
  pub kind : span.kind ≡ kinds.Vs
  pub run : IsRun (is_clear ps) (256 * span.first + 3) (256 * span.first + 3 + (256 * span.pages - 3)) r

pub gaps_are : (xs : List Span) (ps : List Place) → AllByRecursion (IsGap xs ps) (gaps_of (filter (is_of_kind kinds.Vs) xs) ps)
gaps_are xs ps = all_flat (IsGap xs ps) (gaps_in ps) (filter (is_of_kind kinds.Vs) xs) (λ x i.
    let r = filtered_cases (is_of_kind kinds.Vs) x xs i in
    of_span x r.0 (kind_is x.kind kinds.Vs r.1) (gaps_in ps x) (runs_only (is_clear ps) (256 * x.first + 3) (256 * x.pages - 3)))
  where
    of_span : (x : Span) → IsOneOf x xs → x.kind ≡ kinds.Vs → (rs : List Run) → AllByRecursion (IsRun (is_clear ps) (256 * x.first + 3) (256 * x.first + 3 + (256 * x.pages - 3))) rs → AllByRecursion (IsGap xs ps) rs
    of_span x i k [] a = tt
    of_span x i k (r ∷ rs) a = (record { span = x; there = i; kind = k; run = a.0 }, of_span x i k rs a.1)

-- where no granule is clear alone, each gap has at least two
pub gaps_of_two : (xs : List Span) (ps : List Place) → AreInOrder 0 xs → IsVsSound xs ps → AllByRecursion (λ r. 2 ≤ r.count) (gaps_of (filter (is_of_kind kinds.Vs) xs) ps)
gaps_of_two xs ps a h = more (gaps_of (filter (is_of_kind kinds.Vs) xs) ps) (gaps_are xs ps)
  where
    two : (r : Run) → IsGap xs ps r → 2 ≤ r.count
    two r g =
        let i = g.run in
        let some = i.some in
        let below = i.below in
        let pages = (above 0 xs g.span a g.there).1 in
        let begin = i.above in
        elim (cases_lt 1 r.count) [
          | inl l ↦ omega arith
          | inr l ↦
              let here : is_clear ps r.first ≡ true = let e : r.first + 0 ≡ r.first = omega arith in subst (λ (k : ℕ). is_clear ps k ≡ true) e (i.passes 0 some) in
              elim (h.clear g.span g.there g.kind r.first begin (omega arith) here) [
                | inl q ↦ let e : r.first + r.count ≡ suc r.first = omega arith in absurd (both_ways _ (subst (λ (k : ℕ). is_clear ps k ≡ false) e (i.after (let q0 = q.0 in omega arith))) q.1)
                | inr q ↦ let q1 = q.1 in let q2 = q.2 in absurd (both_ways _ (i.before (omega arith) q.0 q1) q.3)
              ]
        ]

    more : (rs : List Run) → AllByRecursion (IsGap xs ps) rs → AllByRecursion (λ r. 2 ≤ r.count) rs
    more [] b = tt
    more (r ∷ rs) b = (two r b.0, more rs b.1)

---- Where a place goes

pub some_mapped : {A B : Type 0} (f : A → B) (o : Option A) (y : B) → option_map f o ≡ Some y → (x : A) × (o ≡ Some x) × (f x ≡ y)
some_mapped f None y h = absurd (let z : ⊥ = cc in z)
some_mapped f (Some x) y h = (x, refl, let e : f x ≡ y = cc in e)

pub taken_cases : (k all : ℕ) → k ≤ all → (k ≤ taken_of k all) × (taken_of k all ≤ all) × ((taken_of k all ≡ all) ⊎ (taken_of k all + 2 ≤ all))
taken_cases k all h = elim (cases_Bool (ltb (all - k) 2)) [
  | inl e ↦ rw e (h, omega arith, inl refl)
  | inr e ↦ let l = ltb-false (all - k) 2 e in rw e (omega arith, h, inr (omega arith))
]

units_two : (n : ℕ) → 2 ≤ units_of n
units_two n = omega arith

-- the range of a request is the front of a gap
pub record IsFront (xs : List Span) (ps : List Place) (k first count : ℕ) : Type 0 where
  pub run : Run
  pub gap : IsGap xs ps run
  pub begins : first ≡ run.first
  pub least : k ≤ count
  pub inside : count ≤ run.count
  pub left : (count ≡ run.count) ⊎ (count + 2 ≤ run.count)

pub front_of : (xs : List Span) (ps : List Place) (k : ℕ) (r : Run) → vs_place (gaps_of (filter (is_of_kind kinds.Vs) xs) ps) k ≡ Some r → IsFront xs ps k r.first r.count
front_of xs ps k r h =
    let spaces = gaps_of (filter (is_of_kind kinds.Vs) xs) ps in
    let q = some_mapped (λ (r : Run). record { first = r.first; count = taken_of k r.count }) (least is_smaller (fitting k spaces)) r h in
    let g = least_all (λ r. IsGap xs ps r × (k ≤ r.count)) is_smaller (fitting k spaces) q.0 (fitting_all (IsGap xs ps) k spaces (gaps_are xs ps)) q.1 in
    let t = taken_cases k q.0.count g.1 in
    subst (λ (z : Run). IsFront xs ps k z.first z.count) q.2 (record { run = q.0; gap = g.0; begins = refl; least = t.0; inside = t.1; left = t.2 })

pub vs_place_sound : (xs : List Span) (ps : List Place) (n : ℕ) (p : Place) → AreInOrder 0 xs → IsVsSound xs ps → (f : IsFront xs ps (units_of n) (p.start / 16) p.granules) → p.start ≡ 16 * (p.start / 16) → IsVsSound xs (p ∷ ps)
vs_place_sound xs ps n p a h f start =
    vs_placed xs p ps a (record { span = f.gap.span; there = f.gap.there; kind = f.gap.kind; behind = omega arith; before = omega arith; two = omega (arith, units_two n); aligned = omega arith }) h free
    (record { before = before; behind = behind })
  where
    i : IsRun (is_clear ps) (256 * f.gap.span.first + 3) (256 * f.gap.span.first + 3 + (256 * f.gap.span.pages - 3)) f.run
    i = f.gap.run

    free : (g : ℕ) → p.start / 16 ≤ g → g < p.start / 16 + p.granules → is_clear ps g ≡ true
    free g l u = let e : f.run.first + (g - f.run.first) ≡ g = omega (arith, f.begins) in subst (λ (k : ℕ). is_clear ps k ≡ true) e (i.passes (g - f.run.first) (omega (arith, f.begins, f.inside)))

    before : (k : ℕ) → suc k ≡ p.start / 16 → 256 * f.gap.span.first + 3 ≤ k → is_clear ps k ≡ true → (j : ℕ) × (suc j ≡ k) × (256 * f.gap.span.first + 3 ≤ j) × (is_clear ps j ≡ true)
    before k e l t = absurd (both_ways _ (i.before (omega (arith, f.begins)) k (e ∙ f.begins)) t)

    behind : p.start / 16 + p.granules < 256 * (f.gap.span.first + f.gap.span.pages) → is_clear ps (p.start / 16 + p.granules) ≡ true → (suc (p.start / 16 + p.granules) < 256 * (f.gap.span.first + f.gap.span.pages)) × (is_clear ps (suc (p.start / 16 + p.granules)) ≡ true)
    behind l t = by_rest f.left
      where
        by_rest : (p.granules ≡ f.run.count) ⊎ (p.granules + 2 ≤ f.run.count) → (suc (p.start / 16 + p.granules) < 256 * (f.gap.span.first + f.gap.span.pages)) × (is_clear ps (suc (p.start / 16 + p.granules)) ≡ true)
        by_rest (inl e) = let g : f.run.first + f.run.count ≡ p.start / 16 + p.granules = omega (arith, f.begins) in absurd (both_ways _ (subst (λ (k : ℕ). is_clear ps k ≡ false) g (i.after (omega arith))) t)
        by_rest (inr e) =
            let b = i.below in
            let g : f.run.first + suc p.granules ≡ suc (p.start / 16 + p.granules) = omega (arith, f.begins) in
            (omega (arith, f.begins), subst (λ (k : ℕ). is_clear ps k ≡ true) g (i.passes (suc p.granules) (omega arith)))
