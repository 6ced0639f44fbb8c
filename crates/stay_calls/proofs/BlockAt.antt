-- The block that begins at an address, among runs that tile pages.
use Rattle.std.proofs.Common.{◌≡◌, ℕ, ◌+◌, ◌*◌, ◌%◌, ◌<◌, ◌≤◌, ◌⊎◌, inl, inr, true, false, ◌&&◌, not, cond, List, [], ◌∷◌, map, Some, None, refl, sym, ap, subst, ◌∙◌, arith, eqb, leb, ltb}
use Rattle.std.specs.Prelude.{is_some}
use Rattle.std.specs.List.{AllByRecursion, find}
use Rattle.heap_model.specs.Search.{begins_at}
use Rattle.std.proofs.lemmas.Bool.{cases_Bool, and_parts, eq-eqb, ne_eqb, eqb-true, le-leb, lt-ltb, ltb-true}
use Rattle.heap_model.specs.declared.Kind.{Kind}
use Rattle.heap_model.specs.declared.Kind.TheVariants as kinds
use Rattle.heap_model.specs.declared.Run.{Run}
use Rattle.heap_model.specs.State.{is_kind}
use Rattle.page_ranges.specs.Ranges.{AreRuns, has_page}
use Rattle.page_ranges.specs.Spans.{is_of_span, span_of, taken_runs, is_usable_in, IsUsed}
use Rattle.backend_fit.specs.Kept.{is_block_at}

-- a run of the back end is a span
pub back_is_span : (k : Kind) → is_of_span k ≡ false → is_kind k kinds.Back ≡ false
back_is_span kinds.Header e = refl
back_is_span kinds.Free e = refl
back_is_span kinds.Vs e = refl
back_is_span kinds.Lfh e = refl
back_is_span kinds.Back e = e

-- what is found among the spans is found among all runs
pub found_taken : (addr : ℕ) (rs : List Run) → find (is_block_at addr) (taken_runs rs) ≡ find (is_block_at addr) rs
found_taken addr [] = refl
found_taken addr (r ∷ rs) = elim (cases_Bool (is_of_span r.mark.kind)) [
  | inl e ↦ elim (cases_Bool (is_block_at addr r)) [
    | inl f ↦ rw (e, f) refl
    | inr f ↦ rw (e, f) (found_taken addr rs)
  ]
  | inr e ↦ let f : is_block_at addr r ≡ false = ap (λ b. b && eqb (4096 * r.first) addr) (back_is_span r.mark.kind e) in rw (e, f) (found_taken addr rs)
]

pub elsewhere : (addr : ℕ) (r : Run) → (4096 * r.first ≡ addr → ⊥) → is_block_at addr r ≡ false
elsewhere addr r h = let e = ne_eqb (4096 * r.first) addr h in elim (cases_Bool (is_kind r.mark.kind kinds.Back)) [ inl k ↦ rw (k, e) refl | inr k ↦ rw k refl ]

-- no block begins at an address that is no page's
pub none_within : (addr : ℕ) (rs : List Run) → (addr % 4096 ≡ 0 → ⊥) → find (is_block_at addr) rs ≡ None
none_within addr [] h = refl
none_within addr (r ∷ rs) h = let e = elsewhere addr r (λ k. h (omega (arith, k))) in rw e (none_within addr rs h)

pub runs_end : (words : List ℕ) (from to : ℕ) (rs : List Run) → AreRuns words from to rs → from ≤ to
runs_end words from to [] a = rw a (omega arith)
runs_end words from to (r ∷ rs) a = let k = runs_end words (from + r.pages) to rs a.2 in omega arith

-- nor at a page behind the runs, or in front of them
pub none_outside : (words : List ℕ) (from to page : ℕ) (rs : List Run) → AreRuns words from to rs → (page < from) ⊎ (to ≤ page) → find (is_block_at (4096 * page)) rs ≡ None
none_outside words from to page [] a l = refl
none_outside words from to page (r ∷ rs) a (inl l) =
    let e = elsewhere (4096 * page) r (λ k. omega (arith, k, a.0, l)) in
    rw e (none_outside words (from + r.pages) to page rs a.2 (inl (omega arith)))
none_outside words from to page (r ∷ rs) a (inr l) =
    let end = runs_end words (from + r.pages) to rs a.2 in
    let e = elsewhere (4096 * page) r (λ k. omega (arith, k, a.0, a.1.some, end, l)) in
    rw e (none_outside words (from + r.pages) to page rs a.2 (inr l))

-- .. nor at a page that no one may use
pub none_unusable : (words : List ℕ) (reserved from to page : ℕ) (rs : List Run) → AreRuns words from to rs → AllByRecursion (IsUsed reserved) rs → is_usable_in reserved page ≡ false → find (is_block_at (4096 * page)) rs ≡ None
none_unusable words reserved from to page [] a u h = refl
none_unusable words reserved from to page (r ∷ rs) a u h =
    rw (here (cases_Bool (eqb (4096 * r.first) (4096 * page)))) (none_unusable words reserved (from + r.pages) to page rs a.2 u.1 h)
  where
    not_back : (k : Kind) → false ≡ not (is_kind k kinds.Header) → is_kind k kinds.Back ≡ false
    not_back kinds.Header e = refl
    not_back kinds.Free e = absurd (let z : ⊥ = cc in z)
    not_back kinds.Vs e = absurd (let z : ⊥ = cc in z)
    not_back kinds.Lfh e = absurd (let z : ⊥ = cc in z)
    not_back kinds.Back e = absurd (let z : ⊥ = cc in z)

    here : (eqb (4096 * r.first) (4096 * page) ≡ true) ⊎ (eqb (4096 * r.first) (4096 * page) ≡ false) → is_block_at (4096 * page) r ≡ false
    here (inr e) = elim (cases_Bool (is_kind r.mark.kind kinds.Back)) [ inl k ↦ rw (k, e) refl | inr k ↦ rw k refl ]
    here (inl e) =
        let same : page ≡ r.first + 0 = omega (arith, eqb-true (4096 * r.first) (4096 * page) e) in
        let used : is_usable_in reserved page ≡ not (is_kind r.mark.kind kinds.Header) = subst (λ (x : ℕ). is_usable_in reserved x ≡ not (is_kind r.mark.kind kinds.Header)) (sym same) (u.0 0 a.1.some) in
        let k = not_back r.mark.kind (sym h ∙ used) in
        rw k refl

-- At a page, it is the run of the page, if that begins there and is one of the back end.
pub at_page : (words : List ℕ) (from to page : ℕ) (rs : List Run) (r : Run) → AreRuns words from to rs → find (has_page page) rs ≡ Some r → find (is_block_at (4096 * page)) rs ≡ cond (is_block_at (4096 * page) r) (Some r) None
at_page words from to page [] r a f = absurd (let z : ⊥ = cc in z)
at_page words from to page (x ∷ xs) r a f = elim (cases_Bool (has_page page x)) [
  | inl e ↦
      let is : Some x ≡ Some r = rw e at f in
      let same : x ≡ r = cc in
      let p = and_parts (leb x.first page) (ltb page (x.first + x.pages)) e in
      let none = none_outside words (from + x.pages) to page xs a.2 (inl (omega (arith, a.0, ltb-true page (x.first + x.pages) p.1))) in
      elim (cases_Bool (is_block_at (4096 * page) x)) [
        | inl g ↦ rw g (subst (λ (y : Run). Some x ≡ cond (is_block_at (4096 * page) y) (Some y) None) same (rw g refl))
        | inr g ↦ rw g (none ∙ subst (λ (y : Run). None ≡ cond (is_block_at (4096 * page) y) (Some y) None) same (rw g refl))
      ]
  | inr e ↦
      let other = elsewhere (4096 * page) x (λ k. not_here x a.1.some (omega (arith, k)) e) in
      rw other (at_page words (from + x.pages) to page xs r a.2 (rw e at f))
]
  where
    not_here : (x : Run) → 0 < x.pages → x.first ≡ page → has_page page x ≡ false → ⊥
    not_here x some e h =
        let a = le-leb x.first page (omega arith) in
        let b = lt-ltb page (x.first + x.pages) (omega arith) in
        let t : has_page page x ≡ true = rw (a, b) refl in
        let z : true ≡ false = sym t ∙ h in
        let y : ⊥ = cc in y

-- a block that is found has its span
pub span_there : (addr : ℕ) (rs : List Run) (r : Run) → find (is_block_at addr) rs ≡ Some r → is_some (find (begins_at r.first) (map span_of rs)) ≡ true
span_there addr [] r f = absurd (let z : ⊥ = cc in z)
span_there addr (x ∷ xs) r f = elim (cases_Bool (eqb x.first r.first)) [
  | inl e ↦ rw e refl
  | inr e ↦ elim (cases_Bool (is_block_at addr x)) [
    | inl g ↦
        let is : Some x ≡ Some r = rw g at f in
        let same : x ≡ r = cc in
        let t : eqb x.first r.first ≡ true = eq-eqb x.first r.first (ap (λ (y : Run). y.first) same) in
        absurd (let z : true ≡ false = sym t ∙ e in let y : ⊥ = cc in y)
    | inr g ↦ rw e (span_there addr xs r (rw g at f))
  ]
]
