-- What the rows say, part by part.
use Rattle.std.proofs.Common.{◌≡◌, ℕ, ◌/◌, ◌<◌, ◌≤◌, true, ◌&&◌, cond, List, Some, arith, eqb, leb, inl, inr}
use Rattle.std.proofs.lemmas.Bool.{eqb-true, leb-true, leb-false, ltb-true, cases_Bool, false≢true, and_parts}
use Rattle.std.specs.Prelude.{is_none}
use Rattle.std.proofs.lemmas.Bool.Decides.{nat_tests}
use Rattle.heap_model.specs.declared.Kind.{Kind}
use Rattle.heap_model.specs.declared.Kind.TheVariants as kinds
use Rattle.heap_model.specs.Geometry.{route_of, is_paged, is_huge, pages_of, span_pages_of, units_of}
use Rattle.heap_model.specs.Buckets.{bucket_pages}
use Rattle.heap_model.specs.Runs.{Run}
use Rattle.heap_model.specs.State.{Setting, Area, is_kind, Span}
use Rattle.heap_model.specs.Backend.{back_place}
use Rattle.heap_model.specs.Ranges.{vs_place}
use Rattle.heap_model.specs.CallState.{CallerView}
use Rattle.heap_model.specs.Search.{Request, asked, is_spent, search_key_of}
use Rattle.heap_model.specs.Legal.{may_span, may_span_for}
use Rattle.heap_model.proofs.ListLemmas.{for_some_parts, is_some_of_parts}

pub record SpanRow (s : Setting) (a : Area) (spaces : List Run) (c : ℕ) (k : CallerView) (request : Request) (x : Span) : Type 0 where
  pub entered : k.entered ≡ true
  pub holds : k.back ≡ true
  pub place : back_place a s.limits.segments x.pages ≡ Some x.first
  pub reserved : x.first / 256 < a.reserved
  pub names : cond (is_kind x.kind kinds.Lfh) (eqb x.slot (s.slot c)) (eqb x.bucket 0 && eqb x.slot 0) ≡ true
  pub owner : may_span_for s a spaces c k request x.pages x.bucket x.kind ≡ true

pub span_row : (s : Setting) (a : Area) (spaces : List Run) (c : ℕ) (k : CallerView) (request : Request) (x : Span) → may_span s a spaces c k request x ≡ true → SpanRow s a spaces c k request x
span_row s a spaces c k request x h =
    let h1 = and_parts _ _ h in
    let h2 = and_parts _ _ h1.0 in
    let h3 = and_parts _ _ h2.0 in
    let h4 = and_parts _ _ h3.0 in
    let h5 = and_parts _ _ h4.0 in
    record {
      entered = h5.0;
      holds = h5.1;
      place = is_some_of_parts _ x.first h4.1;
      reserved = ltb-true _ _ h3.1;
      names = h2.1;
      owner = h1.1;
    }

pub paged_above : (n : ℕ) → is_paged (route_of n) ≡ true → 131072 < n
paged_above n h = elim (cases_Bool (leb n 16368)) [
  | inl e ↦ let k = rw e at h in absurd (false≢true k)
  | inr e ↦ elim (cases_Bool (leb n 131072)) [
    | inl f ↦ let k = rw (e, f) at h in absurd (false≢true k)
    | inr f ↦ leb-false n 131072 f
  ]
]

pub paged_below : (n : ℕ) → is_paged (route_of n) ≡ true → n ≤ 520192
paged_below n h = elim (cases_Bool (leb n 16368)) [
  | inl e ↦ let k = rw e at h in absurd (false≢true k)
  | inr e ↦ elim (cases_Bool (leb n 131072)) [
    | inl f ↦ let k = rw (e, f) at h in absurd (false≢true k)
    | inr f ↦ elim (cases_Bool (leb n 520192)) [
      | inl g ↦ leb-true n 520192 g
      | inr g ↦ let k = rw (e, f, g) at h in absurd (false≢true k)
    ]
  ]
]

pub huge_above : (n : ℕ) → is_huge (route_of n) ≡ true → 520192 < n
huge_above n h = elim (cases_Bool (leb n 16368)) [
  | inl e ↦ let k = rw e at h in absurd (false≢true k)
  | inr e ↦ elim (cases_Bool (leb n 131072)) [
    | inl f ↦ let k = rw (e, f) at h in absurd (false≢true k)
    | inr f ↦ elim (cases_Bool (leb n 520192)) [
      | inl g ↦ let k = rw (e, f, g) at h in absurd (false≢true k)
      | inr g ↦ leb-false n 520192 g
    ]
  ]
]

-- how many pages a block of the back end, and of the large area, can have
pub paged_pages : (n : ℕ) → is_paged (route_of n) ≡ true → (33 ≤ pages_of n) × (pages_of n ≤ 127)
paged_pages n h = let l = paged_above n h in let u = paged_below n h in (omega arith, omega arith)

pub huge_pages : (n : ℕ) → is_huge (route_of n) ≡ true → 128 ≤ pages_of n
huge_pages n h = let l = huge_above n h in omega arith

bucket_pages_above : (b : ℕ) → 0 < bucket_pages b
bucket_pages_above b = grind (arith, nat_tests)

-- a span that may come next is not empty
pub span_not_empty : (s : Setting) (a : Area) (spaces : List Run) (c : ℕ) (k : CallerView) (request : Request) (pages bucket : ℕ) (kind : Kind) → may_span_for s a spaces c k request pages bucket kind ≡ true → 0 < pages
span_not_empty s a spaces c k request pages bucket kinds.Back h =
    let p = for_some_parts request.size (λ n. is_paged (route_of n) && eqb pages (pages_of n)) h in
    let q = and_parts (is_paged (route_of p.0)) (eqb pages (pages_of p.0)) p.2 in
    let above = (paged_pages p.0 q.0).0 in
    let e = eqb-true pages (pages_of p.0) q.1 in
    omega arith
span_not_empty s a spaces c k request pages bucket kinds.Vs h =
    let q = (and_parts k.vs _ h).1 in
    let p = for_some_parts (asked k.call) (λ n. is_none (vs_place spaces (units_of n)) && eqb pages (span_pages_of n)) q in
    let e = eqb-true pages (span_pages_of p.0) (and_parts (is_none (vs_place spaces (units_of p.0))) (eqb pages (span_pages_of p.0)) p.2).1 in
    omega arith
span_not_empty s a spaces c k request pages bucket kinds.Lfh h =
    let p = for_some_parts request.search (λ b. eqb bucket b && is_spent a k (search_key_of s c k.call b) && eqb pages (bucket_pages b)) h in
    let e = eqb-true pages (bucket_pages p.0) (and_parts _ (eqb pages (bucket_pages p.0)) p.2).1 in
    let above = bucket_pages_above p.0 in
    omega arith
span_not_empty s a spaces c k request pages bucket kinds.Header h = absurd (false≢true h)
span_not_empty s a spaces c k request pages bucket kinds.Free h = absurd (false≢true h)
