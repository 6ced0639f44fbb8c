-- The free runs of the area are those that the words tell.
use Rattle.std.proofs.Common.{◌≡◌, ℕ, zero, suc, ◌+◌, ◌-◌, ◌*◌, ◌/◌, ◌<◌, ◌≤◌, ◌⊎◌, inl, inr, Bool, true, false, ◌&&◌, not, refl, ◌∙◌, sym, arith, subst, List, [], ◌∷◌, length, add-zero, zero-add, eqb, leb, ltb}
use Rattle.std.proofs.lemmas.Bool.{eq-eqb, eqb-true, eqb-false, ne_eqb, le-leb, lt-ltb, lt-leb, le-ltb, cases_Bool, and_from}
use Rattle.std.specs.List.{AllByRecursion, list_any}
use Rattle.heap_model.specs.declared.Kind.{Kind}
use Rattle.heap_model.specs.declared.Kind.TheVariants as kinds
use Rattle.heap_model.specs.declared.Run as real
use Rattle.heap_model.specs.Runs.{Run, runs, joined}
use Rattle.heap_model.specs.State.{Area, is_kind}
use Rattle.heap_model.specs.Backend.{in_span, is_free, free_runs}
use Rattle.page_ranges.specs.Words.{runs_of}
use Rattle.page_ranges.specs.Ranges.{AreRuns}
use Rattle.page_ranges.specs.Spans.{is_of_span, is_of_free, span_of, spans_in, frees_in, IsUsed, AreApart, AreSettled, area_in}
use Rattle.page_ranges.proofs.Runs.{runs_le, and_right_false}

---- The runs of a test lie apart

-- from low on, each behind a gap
abbrev AreSpread : ℕ → List Run → Type 0
AreSpread low [] = Unit {0}
AreSpread low (r ∷ rs) = (low ≤ r.first) × AreSpread (suc (r.first + r.count)) rs

lower : (low low' : ℕ) (rs : List Run) → low' ≤ low → AreSpread low rs → AreSpread low' rs
lower low low' [] l s = tt
lower low low' (r ∷ rs) l s = (omega (arith, s.0), s.1)

-- the runs behind a number that passes
joined_spread : (n : ℕ) (rs : List Run) → AreSpread (suc n) rs → AreSpread n (joined n rs)
joined_spread n [] s = (omega arith, tt)
joined_spread n (r ∷ rs) s = elim (cases_Bool (eqb r.first (suc n))) [
  | inl e ↦ let f = eqb-true r.first (suc n) e in rw e (omega arith, lower (suc (r.first + r.count)) (suc (n + suc r.count)) rs (omega arith) s.1)
  | inr e ↦ let f = eqb-false r.first (suc n) e in rw e (omega arith, (other f s.0, s.1))
]
  where
    other : (r.first ≡ suc n → ⊥) → suc n ≤ r.first → suc (n + 1) ≤ r.first
    other f l = omega arith

runs_spread : (test : ℕ → Bool) (at n : ℕ) → AreSpread at (runs test at n)
runs_spread test at zero = tt
runs_spread test at (suc n) = elim (cases_Bool (test at)) [
  | inl e ↦ rw e (joined_spread at (runs test (suc at) n) (runs_spread test (suc at) n))
  | inr e ↦ rw e (lower (suc at) at (runs test (suc at) n) (omega arith) (runs_spread test (suc at) n))
]

---- Runs of a test

runs_over_false : (test : ℕ → Bool) (c at n : ℕ) → ((k : ℕ) → k < c → test (at + k) ≡ false) → runs test at (c + n) ≡ runs test (at + c) n
runs_over_false test zero at n h = rw (zero-add, add-zero) refl
runs_over_false test (suc c) at n h =
    let e : suc c + n ≡ suc (c + n) = omega arith in
    let g : at + suc c ≡ suc at + c = omega arith in
    let z : at + 0 ≡ at = omega arith in
    let t : test at ≡ false = subst (λ x. test x ≡ false) z (h 0 (omega arith)) in
    rw (e, t, g) (runs_over_false test c (suc at) n (λ k l. let f : at + suc k ≡ suc at + k = omega arith in subst (λ x. test x ≡ false) f (h (suc k) (omega arith))))

runs_to_false : (test : ℕ → Bool) (n m at : ℕ) → ((k : ℕ) → k < m → test (at + n + k) ≡ false) → runs test at (n + m) ≡ runs test at n
runs_to_false test zero m at h =
    let e : zero + m ≡ m + 0 = omega arith in
    rw e (runs_over_false test m at 0 (λ k l. let f : at + 0 + k ≡ at + k = omega arith in subst (λ x. test x ≡ false) f (h k l)))
runs_to_false test (suc n) m at h =
    let e : suc n + m ≡ suc (n + m) = omega arith in
    let again = runs_to_false test n m (suc at) (λ k l. let f : at + suc n + k ≡ suc at + n + k = omega arith in subst (λ x. test x ≡ false) f (h k l)) in
    rw (e, again) refl

joined_alone : (at : ℕ) (rs : List Run) → AreSpread (suc (suc at)) rs → joined at rs ≡ record { first = at; count = 1 } ∷ rs
joined_alone at [] s = refl
joined_alone at (r ∷ rs) s = let t : eqb r.first (suc at) ≡ false = ne_eqb r.first (suc at) (λ e. omega (arith, s.0)) in rw t refl

one_run : (test : ℕ → Bool) (at n : ℕ) → (n ≡ 0) ⊎ (test (suc at) ≡ false) → joined at (runs test (suc at) n) ≡ record { first = at; count = 1 } ∷ runs test (suc at) n
one_run test at zero h = refl
one_run test at (suc n) (inl e) = absurd (omega arith)
one_run test at (suc n) (inr t) = rw t (joined_alone at (runs test (suc (suc at)) n) (runs_spread test (suc (suc at)) n))

runs_over_true : (test : ℕ → Bool) (c at n : ℕ) → ((k : ℕ) → k < suc c → test (at + k) ≡ true) → (n ≡ 0) ⊎ (test (at + suc c) ≡ false) →
    runs test at (suc c + n) ≡ record { first = at; count = suc c } ∷ runs test (at + suc c) n
runs_over_true test zero at n h o =
    let e : 1 + n ≡ suc n = omega arith in
    let g : at + 1 ≡ suc at = omega arith in
    let z : at + 0 ≡ at = omega arith in
    let t : test at ≡ true = subst (λ x. test x ≡ true) z (h 0 (omega arith)) in
    let p : (n ≡ 0) ⊎ (test (suc at) ≡ false) = subst (λ x. (n ≡ 0) ⊎ (test x ≡ false)) g o in
    rw (e, t, g) (one_run test at n p)
runs_over_true test (suc c) at n h o =
    let e : suc (suc c) + n ≡ suc (suc c + n) = omega arith in
    let g : at + suc (suc c) ≡ suc at + suc c = omega arith in
    let z : at + 0 ≡ at = omega arith in
    let t : test at ≡ true = subst (λ x. test x ≡ true) z (h 0 (omega arith)) in
    let p : (n ≡ 0) ⊎ (test (suc at + suc c) ≡ false) = subst (λ x. (n ≡ 0) ⊎ (test x ≡ false)) g o in
    let again = runs_over_true test c (suc at) n (λ k l. let f : at + suc k ≡ suc at + k = omega arith in subst (λ x. test x ≡ true) f (h (suc k) (omega arith))) p in
    let same : eqb (suc at) (suc at) ≡ true = eq-eqb (suc at) (suc at) refl in
    rw (e, t, again, same, g) refl

---- A test that goes by runs that follow each other

abbrev pub IsTested : (ℕ → Bool) → real.Run → Type 0
IsTested test r = (k : ℕ) → k < r.pages → test (r.first + k) ≡ is_of_free r.mark.kind

pub tiled_runs : (test : ℕ → Bool) (words : List ℕ) (from to : ℕ) (rs : List real.Run) (was_free : Bool) →
    AreRuns words from to rs → AllByRecursion (IsTested test) rs → AreApart was_free rs → runs test from (to - from) ≡ frees_in rs
tiled_runs test words from to [] was_free a t p = let e : to - from ≡ 0 = omega (arith, a) in rw e refl
tiled_runs test words from to (r ∷ rs) was_free a t p =
    let again = tiled_runs test words (from + r.pages) to rs (is_of_free r.mark.kind) a.2 t.1 p.1 in
    elim (cases_Bool (is_of_free r.mark.kind)) [
      | inl e ↦ rw (parts, e) (over_free again e r.pages refl)
      | inr e ↦ rw (parts, e) (runs_over_false test r.pages from (to - (from + r.pages)) (λ k l. at k l ∙ e) ∙ again)
    ]
  where
    le : from + r.pages ≤ to
    le = runs_le words (from + r.pages) to rs a.2

    parts : to - from ≡ r.pages + (to - (from + r.pages))
    parts = omega (arith, le)

    at : (k : ℕ) → k < r.pages → test (from + k) ≡ is_of_free r.mark.kind
    at k l = subst (λ x. test (x + k) ≡ is_of_free r.mark.kind) a.0 (t.0 k l)

    next : is_of_free r.mark.kind ≡ true → (qs : List real.Run) → AreRuns words (from + r.pages) to qs → AllByRecursion (IsTested test) qs → AreApart (is_of_free r.mark.kind) qs → (to - (from + r.pages) ≡ 0) ⊎ (test (from + r.pages) ≡ false)
    next e [] b s q = inl (omega (arith, b))
    next e (q ∷ qs) b s o =
        let z : q.first + 0 ≡ from + r.pages = omega (arith, b.0) in
        let not_free : (true && is_of_free q.mark.kind) ≡ false = subst (λ x. (x && is_of_free q.mark.kind) ≡ false) e o.0 in
        inr (subst (λ x. test x ≡ false) z (s.0 0 b.1.some ∙ not_free))

    over_free : runs test (from + r.pages) (to - (from + r.pages)) ≡ frees_in rs → is_of_free r.mark.kind ≡ true → (c : ℕ) → r.pages ≡ c → runs test from (r.pages + (to - (from + r.pages))) ≡ record { first = r.first; count = r.pages } ∷ frees_in rs
    over_free again e zero f = absurd (omega (arith, a.1.some))
    over_free again e (suc c) f =
        let n = next e rs a.2 t.1 p.1 in
        let m : (to - (from + r.pages) ≡ 0) ⊎ (test (from + suc c) ≡ false) = subst (λ x. (to - (from + r.pages) ≡ 0) ⊎ (test (from + x) ≡ false)) f n in
        let x = runs_over_true test c from (to - (from + r.pages)) (λ k l. at k (omega arith) ∙ e) m in
        let y : runs test from (r.pages + (to - (from + r.pages))) ≡ record { first = from; count = r.pages } ∷ runs test (from + r.pages) (to - (from + r.pages)) =
        subst (λ d. runs test from (d + (to - (from + r.pages))) ≡ record { first = from; count = d } ∷ runs test (from + d) (to - (from + r.pages))) (sym f) x in
        y ∙ rw (again, a.0) refl

---- The test of being free

above_none : (words : List ℕ) (from to page : ℕ) (rs : List real.Run) → AreRuns words from to rs → page < from → list_any (in_span page) (spans_in rs) ≡ false
above_none words from to page [] a l = refl
above_none words from to page (r ∷ rs) a l =
    let again = above_none words (from + r.pages) to page rs a.2 (omega arith) in
    elim (cases_Bool (is_of_span r.mark.kind)) [
      | inl e ↦ let t : leb r.first page ≡ false = lt-leb r.first page (omega (arith, a.0)) in rw (e, t) again
      | inr e ↦ rw e again
    ]

head_any : (page : ℕ) (r : real.Run) (rs : List real.Run) → in_span page (span_of r) ≡ true → list_any (in_span page) (spans_in rs) ≡ false → list_any (in_span page) (spans_in (r ∷ rs)) ≡ is_of_span r.mark.kind
head_any page r rs t n = elim (cases_Bool (is_of_span r.mark.kind)) [
  | inl e ↦ rw (e, t) refl
  | inr e ↦ rw e n
]

tail_any : (page : ℕ) (r : real.Run) (rs : List real.Run) → r.first + r.pages ≤ page → list_any (in_span page) (spans_in (r ∷ rs)) ≡ list_any (in_span page) (spans_in rs)
tail_any page r rs l = elim (cases_Bool (is_of_span r.mark.kind)) [
  | inl e ↦
      let t : in_span page (span_of r) ≡ false = outside in
      rw (e, t) refl
  | inr e ↦ rw e refl
]
  where
    outside : in_span page (span_of r) ≡ false
    outside = let z : ltb page (r.first + r.pages) ≡ false = le-ltb page (r.first + r.pages) l in rw z (and_right_false (leb r.first page))

kind_cases : (k : Kind) → (not (is_kind k kinds.Header) && not (is_of_span k)) ≡ is_of_free k
kind_cases kinds.Header = refl
kind_cases kinds.Free = refl
kind_cases kinds.Vs = refl
kind_cases kinds.Lfh = refl
kind_cases kinds.Back = refl

pub free_tested : (a : Area) (words : List ℕ) (from to : ℕ) (rs : List real.Run) →
    ((page : ℕ) → from ≤ page → list_any (in_span page) a.spans ≡ list_any (in_span page) (spans_in rs)) →
    AreRuns words from to rs → AllByRecursion (IsUsed a.reserved) rs → AllByRecursion (IsTested (is_free a)) rs
free_tested a words from to [] h r u = tt
free_tested a words from to (r ∷ rs) h b u = (here, free_tested a words (from + r.pages) to rs rest b.2 u.1)
  where
    here : IsTested (is_free a) r
    here k l =
        let page = r.first + k in
        let within : in_span page (span_of r) ≡ true = and_from (leb r.first page) (ltb page (r.first + r.pages)) (le-leb r.first page (omega arith)) (lt-ltb page (r.first + r.pages) (omega arith)) in
        let none = above_none words (from + r.pages) to page rs b.2 (omega (arith, b.0)) in
        let any = h page (omega (arith, b.0)) ∙ head_any page r rs within none in
        rw (u.0 k l, any) (kind_cases r.mark.kind)

    rest : (page : ℕ) → from + r.pages ≤ page → list_any (in_span page) a.spans ≡ list_any (in_span page) (spans_in rs)
    rest page l = h page (omega arith) ∙ tail_any page r rs (omega (arith, b.0))

pub frees_are : (reserved : ℕ) (committed : ℕ → Bool) (words : List ℕ) → AreSettled reserved words → free_runs (area_in reserved committed words) ≡ frees_in (runs_of words)
frees_are reserved committed words s =
    let a = area_in reserved committed words in
    let n = 256 * reserved in
    let m = length words - n in
    let le : n ≤ length words = s.inside in
    let e : n + m ≡ length words - 0 = omega arith in
    let beyond : (j : ℕ) → j < m → is_free a (0 + n + j) ≡ false = λ j l. let t : ltb ((0 + n + j) / 256) reserved ≡ false = le-ltb ((0 + n + j) / 256) reserved (omega arith) in rw t refl in
    let tested = free_tested a words 0 (length words) (runs_of words) (λ page l. refl) s.whole s.used in
    sym (runs_to_false (is_free a) n m 0 beyond) ∙ rw e (tiled_runs (is_free a) words 0 (length words) (runs_of words) false s.whole tested s.apart)
