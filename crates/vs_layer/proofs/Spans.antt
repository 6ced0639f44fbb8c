-- The spans, where it is told of each page how many pages the span has that starts there, before and after one page is told anew.
use Rattle.std.proofs.Common.{◌≡◌, ℕ, zero, suc, ◌+◌, ◌<◌, Bool, true, false, cond, List, [], ◌∷◌, length, get_or, refl, sym, ap, subst, ◌∙◌, arith, eqb, inl, inr, ◌⊎◌, replicate}
use Rattle.std.proofs.Math.ListN.{set}
use Rattle.std.proofs.lemmas.Bool.{cases_Bool, eq-eqb, ne_eqb, lt-ltb, le-ltb, false≢true}
use Rattle.heap_model.specs.State.{Span, insert_span, remove_found}
use Rattle.heap_model.specs.Search.{begins_at}
use Rattle.heap_soundness.specs.Sound.{IsOneOf}
use Rattle.vs_layer.specs.Kept.{vs_span}
use Rattle.vs_layer.specs.Sound.{spans_from}

abbrev here_or_not : ℕ → List Span → ℕ → Bool → List Span
here_or_not page xs n b = cond b xs (vs_span page n ∷ xs)

no_span : (page n : ℕ) (ns : List ℕ) → n ≡ 0 → spans_from page (n ∷ ns) ≡ spans_from (suc page) ns
no_span page n ns e = ap (here_or_not page (spans_from (suc page) ns) n) (eq-eqb n 0 e)

one_span : (page n : ℕ) (ns : List ℕ) → 0 < n → spans_from page (n ∷ ns) ≡ vs_span page n ∷ spans_from (suc page) ns
one_span page n ns l = ap (here_or_not page (spans_from (suc page) ns) n) (ne_eqb n 0 (λ e. omega arith))

-- a span starts at one of the pages, and has the pages that are told there
pub record IsToldAt (page : ℕ) (ns : List ℕ) (x : Span) : Type 0 where
  pub index : ℕ
  pub within : index < length ns
  pub first : x.first ≡ page + index
  pub pages : get_or ns index 0 ≡ x.pages
  pub some : 0 < x.pages
  pub is : vs_span x.first x.pages ≡ x

later : (page n : ℕ) (ns : List ℕ) (x : Span) → IsToldAt (suc page) ns x → IsToldAt page (n ∷ ns) x
later page n ns x t = record { index = suc t.index; within = omega (arith, t.within); first = omega (arith, t.first); pages = t.pages; some = t.some; is = t.is }

pub told_at : (page : ℕ) (ns : List ℕ) (x : Span) → IsOneOf x (spans_from page ns) → IsToldAt page ns x
told_at page [] x i = absurd i
told_at page (n ∷ ns) x i = elim (cases_Bool (eqb n 0)) [
  | inl e ↦ later page n ns x (told_at (suc page) ns x (rw e at i))
  | inr e ↦ more e (rw e at i) (told_at (suc page) ns x)
]
  where
    more : eqb n 0 ≡ false → IsOneOf x (vs_span page n ∷ spans_from (suc page) ns) → (IsOneOf x (spans_from (suc page) ns) → IsToldAt (suc page) ns x) → IsToldAt page (n ∷ ns) x
    more e (inl f) again =
        subst (IsToldAt page (n ∷ ns)) f
        (record { index = 0; within = omega arith; first = omega arith; pages = refl; some = omega (arith, some n e); is = refl })
      where
        some : (m : ℕ) → eqb m 0 ≡ false → 0 < m
        some zero e = absurd (false≢true (sym e ∙ eq-eqb 0 0 refl))
        some (suc m) e = omega arith
    more e (inr j) again = later page n ns x (again j)

-- the span of a page where one is told
pub span_there : (page index : ℕ) (ns : List ℕ) → index < length ns → 0 < get_or ns index 0 → IsOneOf (vs_span (page + index) (get_or ns index 0)) (spans_from page ns)
span_there page index [] l some = absurd (omega arith)
span_there page zero (n ∷ ns) l some =
    let same : page ≡ page + 0 = omega arith in
    subst (λ xs. IsOneOf (vs_span (page + 0) n) xs) (sym (one_span page n ns some)) (inl (ap (λ q. vs_span q n) same))
span_there page (suc index) (n ∷ ns) l some =
    let same : suc page + index ≡ page + suc index = omega arith in
    later_one (cases_Bool (eqb n 0)) (subst (λ q. IsOneOf (vs_span q (get_or ns index 0)) (spans_from (suc page) ns)) same (span_there (suc page) index ns (omega arith) some))
  where
    later_one : (eqb n 0 ≡ true) ⊎ (eqb n 0 ≡ false) → IsOneOf (vs_span (page + suc index) (get_or ns index 0)) (spans_from (suc page) ns) → IsOneOf (vs_span (page + suc index) (get_or ns index 0)) (spans_from page (n ∷ ns))
    later_one (inl e) i = rw e i
    later_one (inr e) i = rw e (inr i)

pub spans_none : (page n : ℕ) → spans_from page (replicate n 0) ≡ []
spans_none page zero = refl
spans_none page (suc n) = no_span page 0 (replicate n 0) refl ∙ spans_none (suc page) n

---- One page is told anew

in_front : (x : Span) (page : ℕ) (ns : List ℕ) → x.first < page → insert_span x (spans_from page ns) ≡ x ∷ spans_from page ns
in_front x page [] l = refl
in_front x page (n ∷ ns) l = elim (cases_Bool (eqb n 0)) [
  | inl e ↦ rw e (in_front x (suc page) ns (omega arith))
  | inr e ↦ rw (e, lt-ltb x.first page l) refl
]

behind_all : (first page : ℕ) (ns : List ℕ) → first < page → remove_found (begins_at first) (spans_from page ns) ≡ spans_from page ns
behind_all first page [] l = refl
behind_all first page (n ∷ ns) l = elim (cases_Bool (eqb n 0)) [
  | inl e ↦ rw e (behind_all first (suc page) ns (omega arith))
  | inr e ↦ rw (e, ne_eqb page first (λ f. omega arith)) (ap (λ xs. vs_span page n ∷ xs) (behind_all first (suc page) ns (omega arith)))
]

-- where none was told, one more span
pub inserted_from : (page index n : ℕ) (ns : List ℕ) → index < length ns → get_or ns index 0 ≡ 0 → 0 < n
    → spans_from page (set ns index n) ≡ insert_span (vs_span (page + index) n) (spans_from page ns)
inserted_from page index n [] l none some = absurd (omega arith)
inserted_from page zero n (m ∷ ns) l none some =
    let same : page ≡ page + 0 = omega arith in
    one_span page n ns some
    ∙ ap (λ q. vs_span q n ∷ spans_from (suc page) ns) same
    ∙ sym (in_front (vs_span (page + 0) n) (suc page) ns (omega arith))
    ∙ ap (insert_span (vs_span (page + 0) n)) (sym (no_span page m ns none))
inserted_from page (suc index) n (m ∷ ns) l none some =
    let same : suc page + index ≡ page + suc index = omega arith in
    by (cases_Bool (eqb m 0)) (subst (λ q. spans_from (suc page) (set ns index n) ≡ insert_span (vs_span q n) (spans_from (suc page) ns)) same (inserted_from (suc page) index n ns (omega arith) none some))
  where
    by : (eqb m 0 ≡ true) ⊎ (eqb m 0 ≡ false) → spans_from (suc page) (set ns index n) ≡ insert_span (vs_span (page + suc index) n) (spans_from (suc page) ns)
        → spans_from page (m ∷ set ns index n) ≡ insert_span (vs_span (page + suc index) n) (spans_from page (m ∷ ns))
    by (inl e) again = rw e again
    by (inr e) again = rw (e, le-ltb (page + suc index) page (omega arith)) (ap (λ xs. vs_span page m ∷ xs) again)

pub span_inserted : (told : List ℕ) (first pages : ℕ) → first < length told → get_or told first 0 ≡ 0 → 0 < pages
    → spans_from 0 (set told first pages) ≡ insert_span (vs_span first pages) (spans_from 0 told)
span_inserted told first pages l none some =
    subst (λ q. spans_from 0 (set told first pages) ≡ insert_span (vs_span q pages) (spans_from 0 told)) (let same : 0 + first ≡ first = omega arith in same) (inserted_from 0 first pages told l none some)

-- where one is told no more, that one less
pub removed_from : (page index : ℕ) (ns : List ℕ) → index < length ns
    → spans_from page (set ns index 0) ≡ remove_found (begins_at (page + index)) (spans_from page ns)
removed_from page index [] l = absurd (omega arith)
removed_from page zero (m ∷ ns) l =
    let same : page ≡ page + 0 = omega arith in
    no_span page 0 ns refl ∙ elim (cases_Bool (eqb m 0)) [
      | inl e ↦ rw e (sym (behind_all (page + 0) (suc page) ns (omega arith)))
      | inr e ↦ rw (e, eq-eqb page (page + 0) same) refl
    ]
removed_from page (suc index) (m ∷ ns) l =
    let same : suc page + index ≡ page + suc index = omega arith in
    by (cases_Bool (eqb m 0)) (subst (λ q. spans_from (suc page) (set ns index 0) ≡ remove_found (begins_at q) (spans_from (suc page) ns)) same (removed_from (suc page) index ns (omega arith)))
  where
    by : (eqb m 0 ≡ true) ⊎ (eqb m 0 ≡ false) → spans_from (suc page) (set ns index 0) ≡ remove_found (begins_at (page + suc index)) (spans_from (suc page) ns)
        → spans_from page (m ∷ set ns index 0) ≡ remove_found (begins_at (page + suc index)) (spans_from page (m ∷ ns))
    by (inl e) again = rw e again
    by (inr e) again = rw (e, ne_eqb page (page + suc index) (λ f. omega arith)) (ap (λ xs. vs_span page m ∷ xs) again)

pub span_removed : (told : List ℕ) (first : ℕ) → first < length told
    → spans_from 0 (set told first 0) ≡ remove_found (begins_at first) (spans_from 0 told)
span_removed told first l =
    subst (λ q. spans_from 0 (set told first 0) ≡ remove_found (begins_at q) (spans_from 0 told)) (let same : 0 + first ≡ first = omega arith in same) (removed_from 0 first told l)

-- what is told of the first page of a span
pub pages_told : (told : List ℕ) (x : Span) → IsOneOf x (spans_from 0 told) → (x.first < length told) × (get_or told x.first 0 ≡ x.pages)
pages_told told x i =
    let t = told_at 0 told x i in
    let same : t.index ≡ x.first = omega (arith, t.first) in
    (omega (arith, t.within), subst (λ q. get_or told q 0 ≡ x.pages) same t.pages)
