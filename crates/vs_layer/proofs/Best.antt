-- What the index answers is the gap that the definitions take.
use Rattle.std.proofs.Common.{◌≡◌, ℕ, ◌<◌, ◌≤◌, ◌⊎◌, inl, inr, true, false, ◌&&◌, not, eqb, leb, List, [], ◌∷◌, Option, Some, None, is_some, refl, sym, ap, subst, ◌∙◌, arith}
use Rattle.std.specs.Prelude.{option_map}
use Rattle.std.specs.Option.{MatchOption}
use Rattle.std.specs.FinSet as set
use Rattle.std.proofs.lemmas.Bool.{cases_Bool, cases_lt, cases_eq, cases_order, both_ways, eqb-true, eq-eqb, ne_eqb, lt-ltb, le-ltb, and_parts, and_from, leb-true, le-leb, not-true, cases_lt}
use Rattle.heap_model.specs.Runs.{Run, fitting, least_of, least}
use Rattle.heap_model.specs.Stay.{for_some}
use Rattle.heap_model.specs.Ranges.{is_smaller, taken_of, vs_place}
use Rattle.heap_soundness.specs.Sound.{IsOneOf}
use Rattle.vs_headers.specs.declared.Head.{Head}
use Rattle.vs_split.specs.Chunks.{Chunks, head_at}
use Rattle.vs_free_tree.specs.Gaps.{GapIndex, NoneFits, IsBest}
use Rattle.vs_free_tree.specs.Gaps as gaps
use Rattle.vs_layer.specs.Kept.{VsKept, gaps_in}
use Rattle.vs_layer.specs.Sound.{AreChunksSound, IsIndexOf, is_gap_at}
use Rattle.vs_layer.proofs.Gaps.{run_of, free_in, gap_free}

---- The least

-- it is smaller, or as large and not above
abbrev IsUpTo : Run → Run → Type 0
IsUpTo r s = (r.count < s.count) ⊎ ((r.count ≡ s.count) × (r.first ≤ s.first))

smaller_is : (r s : Run) → is_smaller s r ≡ true → (s.count < r.count) ⊎ ((s.count ≡ r.count) × (s.first < r.first))
smaller_is r s e = elim (cases_order s.count r.count) [
  | inr (inl less) ↦ inl less
  | inr (inr more) ↦ absurd (both_ways (is_smaller s r) (let a = le-ltb s.count r.count (omega arith) in let b = ne_eqb s.count r.count (λ e. omega arith) in rw (a, b) refl) e)
  | inl same ↦ elim (cases_lt s.first r.first) [
    | inl less ↦ inr (same, less)
    | inr more ↦ absurd (both_ways (is_smaller s r) (
        let a = le-ltb s.count r.count (omega arith) in
        let b = eq-eqb s.count r.count same in
        let c = le-ltb s.first r.first more in
        elim (cases_Bool (eqb s.first r.first)) [ inl d ↦ rw (a, b, c, d) refl | inr d ↦ rw (a, b, c, d) refl ]) e)
  ]
]

not_smaller : (r s : Run) → is_smaller s r ≡ false → IsUpTo r s
not_smaller r s e = elim (cases_order r.count s.count) [
  | inr (inl less) ↦ inl less
  | inr (inr more) ↦ absurd (both_ways (is_smaller s r) e (let a = lt-ltb s.count r.count more in rw a refl))
  | inl same ↦ elim (cases_lt s.first r.first) [
    | inr more ↦ inr (same, more)
    | inl less ↦ absurd (both_ways (is_smaller s r) e (
        let a = le-ltb s.count r.count (omega arith) in
        let b = eq-eqb s.count r.count (sym same) in
        let c = lt-ltb s.first r.first less in
        rw (a, b, c) refl))
  ]
]

both_up : (r s : Run) → IsUpTo r s → IsUpTo s r → s ≡ r
both_up r s (inl a) (inl b) = absurd (omega arith)
both_up r s (inl a) (inr b) = absurd (omega (arith, b.0))
both_up r s (inr a) (inl b) = absurd (omega (arith, a.0))
both_up r s (inr a) (inr b) =
    let first : s.first ≡ r.first = omega (arith, a.1, b.1) in
    ap (λ n. run_of n s.count) first ∙ ap (λ n. run_of r.first n) b.0

least_is : (r x : Run) (ss : List Run) → IsOneOf r (x ∷ ss) → ((s : Run) → IsOneOf s (x ∷ ss) → IsUpTo r s) → least_of is_smaller x ss ≡ r
least_is r x [] (inl e) f = e
least_is r x [] (inr i) f = absurd i
least_is r x (s ∷ ss) i f = elim (cases_Bool (is_smaller s x)) [
  | inl e ↦ rw e (least_is r s ss (elim i [
    | inr j ↦ j
    | inl same ↦ absurd (worse (f s (inr (inl refl))) (smaller_is r s (subst (λ (y : Run). is_smaller s y ≡ true) same e)))
  ]) (λ y j. f y (inr j)))
  | inr e ↦ rw e (least_is r x ss (elim i [
    | inl same ↦ inl same
    | inr (inl same) ↦ inl (both_up r x (f x (inl refl)) (subst (λ (y : Run). IsUpTo x y) same (not_smaller x s e)))
    | inr (inr j) ↦ inr j
  ]) (λ y j. f y (elim j [ inl a ↦ inl a | inr b ↦ inr (inr b) ])))
]
  where
    worse : IsUpTo r s → (s.count < r.count) ⊎ ((s.count ≡ r.count) × (s.first < r.first)) → ⊥
    worse (inl a) (inl b) = omega arith
    worse (inl a) (inr b) = omega (arith, b.0)
    worse (inr a) (inl b) = omega (arith, a.0)
    worse (inr a) (inr b) = omega (arith, a.1, b.1)

in_fitting : (n : ℕ) (r : Run) (rs : List Run) → n ≤ r.count → IsOneOf r rs → IsOneOf r (fitting n rs)
in_fitting n r [] l i = absurd i
in_fitting n r (x ∷ xs) l (inl e) = let f : leb n x.count ≡ true = le-leb n x.count (subst (λ (y : Run). n ≤ y.count) (sym e) l) in rw f (inl e)
in_fitting n r (x ∷ xs) l (inr i) = elim (cases_Bool (leb n x.count)) [ inl e ↦ rw e (inr (in_fitting n r xs l i)) | inr e ↦ rw e (in_fitting n r xs l i) ]

fitting_in : (n : ℕ) (r : Run) (rs : List Run) → IsOneOf r (fitting n rs) → IsOneOf r rs × (n ≤ r.count)
fitting_in n r [] i = absurd i
fitting_in n r (x ∷ xs) i = elim (cases_Bool (leb n x.count)) [
  | inl e ↦ elim (rw e at i) [
    | inl same ↦ (inl same, subst (λ (y : Run). n ≤ y.count) same (leb-true n x.count e))
    | inr j ↦ let q = fitting_in n r xs j in (inr q.0, q.1)
  ]
  | inr e ↦ let q = fitting_in n r xs (rw e at i) in (inr q.0, q.1)
]

least_some : (r : Run) (rs : List Run) → IsOneOf r rs → ((s : Run) → IsOneOf s rs → IsUpTo r s) → least is_smaller rs ≡ Some r
least_some r [] i f = absurd i
least_some r (x ∷ xs) i f = ap (λ y. let o : Option Run = Some y in o) (least_is r x xs i f)

least_none : (rs : List Run) → ((s : Run) → IsOneOf s rs → ⊥) → least is_smaller rs ≡ None
least_none [] f = refl
least_none (x ∷ xs) f = absurd (f x (inl refl))

-- the place, in the gap
pub placed_in : (n : ℕ) (r : Run) (rs : List Run) → IsOneOf r rs → n ≤ r.count → ((s : Run) → IsOneOf s rs → n ≤ s.count → IsUpTo r s) → vs_place rs n ≡ Some (run_of r.first (taken_of n r.count))
placed_in n r rs i l f =
    ap (option_map (λ (q : Run). run_of q.first (taken_of n q.count)))
    (least_some r (fitting n rs) (in_fitting n r rs l i) (λ s j. let q = fitting_in n s rs j in f s q.0 q.1))

pub placed_none : (n : ℕ) (rs : List Run) → ((s : Run) → IsOneOf s rs → s.count < n) → vs_place rs n ≡ None
placed_none n rs f =
    ap (option_map (λ (q : Run). run_of q.first (taken_of n q.count)))
    (least_none (fitting n rs) (λ s j. let q = fitting_in n s rs j in let l = f s q.0 in omega (arith, q.1)))

---- The index

-- a gap of the index is a free chunk
pub record IsGapHere (c : Chunks) (all g : ℕ) : Type 0 where
  pub head : Head
  pub there : head_at c g ≡ Some head
  pub free : head.busy ≡ false
  pub units : head.units ≡ all

pub gap_at_is : (c : Chunks) (units g : ℕ) → is_gap_at c units g ≡ true → IsGapHere c units g
gap_at_is c units g e = by (head_at c g) refl e
  where
    by : (o : Option Head) → head_at c g ≡ o → for_some o (λ h. not h.busy && eqb h.units units) ≡ true → IsGapHere c units g
    by None is f = absurd (let z : ⊥ = cc in z)
    by (Some h) is f = let p = and_parts (not h.busy) (eqb h.units units) f in record { head = h; there = is; free = not-true h.busy p.0; units = eqb-true h.units units p.1 }

pub gap_at_from : (c : Chunks) (units g : ℕ) (h : Head) → head_at c g ≡ Some h → h.busy ≡ false → h.units ≡ units → is_gap_at c units g ≡ true
gap_at_from c units g h is free e = ap (λ o. for_some o (λ h. not h.busy && eqb h.units units)) is ∙ and_from (not h.busy) (eqb h.units units) (ap not free) (eq-eqb h.units units e)

module _ (k : VsKept) (s : AreChunksSound k) (found : GapIndex) (index : IsIndexOf k.chunks found) where
  held : (r : Run) → IsOneOf r (gaps_in k) → set.contains found.gaps (r.count, r.first) ≡ true
  held r i = let f = gap_free k s r i in index.gaps r.count r.first ∙ gap_at_from k.chunks r.count r.first f.head f.there f.free f.units

  pub none_fits : (n : ℕ) → NoneFits n found.gaps → vs_place (gaps_in k) n ≡ None
  none_fits n f = placed_none n (gaps_in k) (λ r i. f (r.count, r.first) (held r i))

  pub best_gap : (n all g : ℕ) → set.contains found.gaps (all, g) ≡ true → IsGapHere k.chunks all g
  best_gap n all g e = gap_at_is k.chunks all g (sym (index.gaps all g) ∙ e)

  pub best_fits : (n all g : ℕ) → IsBest n found.gaps (all, g) → vs_place (gaps_in k) n ≡ Some (run_of g (taken_of n all))
  best_fits n all g b =
      let h = best_gap n all g b.held in
      let i : IsOneOf (run_of g all) (gaps_in k) = subst (λ u. IsOneOf (run_of g u) (gaps_in k)) h.units (free_in k s g h.head h.there h.free) in
      placed_in n (run_of g all) (gaps_in k) i b.fits (λ r j l. up r (b.least (r.count, r.first) (held r j) l))
    where
      up : (r : Run) → gaps.IsUpTo (all, g) (r.count, r.first) → IsUpTo (run_of g all) r
      up r q = elim (cases_eq all r.count) [ inl e ↦ inr (e, q.at e) | inr e ↦ inl (omega (arith, q.units)) ]

  -- as MatchOption has it
  pub best_is : (n : ℕ) (o : Option (ℕ × ℕ)) → MatchOption o (NoneFits n found.gaps) (IsBest n found.gaps) → is_some o ≡ is_some (vs_place (gaps_in k) n)
  best_is n None f = sym (ap is_some (none_fits n f))
  best_is n (Some b) f = sym (ap is_some (best_fits n b.0 b.1 f))
