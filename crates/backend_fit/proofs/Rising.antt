-- Runs of blocks in the order of their pages, and the places that they are.
use Rattle.std.proofs.Common.{◌≡◌, ℕ, ◌+◌, ◌*◌, ◌<◌, ◌≤◌, Bool, true, false, ◌&&◌, ◌||◌, List, [], ◌∷◌, map, Some, None, refl, sym, ap, subst, ◌∙◌, arith, eqb, leb, ltb, inl, inr}
use Rattle.std.specs.Prelude.{option_map, filter}
use Rattle.std.specs.List.{AllByRecursion, find, list_any}
use Rattle.std.proofs.lemmas.Bool.{cases_Bool, and_from, and_parts, eq-eqb, ne_eqb, eqb-true, le-leb, lt-leb, lt-ltb, le-ltb, ltb-true, ltb-false, or_left, or_right}
use Rattle.heap_model.specs.declared.Kind.{Kind}
use Rattle.heap_model.specs.declared.Kind.TheVariants as kinds
use Rattle.heap_model.specs.declared.Run.{Run}
use Rattle.heap_model.specs.State.{Place, is_kind, insert_place, remove_found}
use Rattle.heap_model.specs.Search.{begins_at}
use Rattle.heap_model.specs.Legal.{lies_in, has_place, are_used}
use Rattle.page_ranges.specs.Spans.{span_of, AreRising}
use Rattle.backend_fit.specs.Effects.{insert_run, starts_at}
use Rattle.serial_laws.proofs.Sorted.{OnlyOne}
use Rattle.backend_fit.specs.Effects.{place_of}
use Rattle.backend_fit.specs.Kept.{is_block_run, is_block_at, IsBlockRun}

block_kind : (k : Kind) → k ≡ kinds.Back → is_kind k kinds.Back ≡ true
block_kind k e = ap (λ (x : Kind). is_kind x kinds.Back) e

pub is_at : (addr : ℕ) (r : Run) → IsBlockRun r → is_block_at addr r ≡ eqb (4096 * r.first) addr
is_at addr r b = ap (λ t. t && eqb (4096 * r.first) addr) (block_kind r.mark.kind b.kind)

-- the pages of what is found
pub found_from : (addr from : ℕ) (rs : List Run) (r : Run) → AreRising from rs → find (is_block_at addr) rs ≡ Some r → (from ≤ r.first) × (0 < r.pages)
found_from addr from [] r a f = absurd (let z : ⊥ = cc in z)
found_from addr from (x ∷ xs) r a f = elim (cases_Bool (is_block_at addr x)) [
  | inl e ↦
      let is : Some x ≡ Some r = rw e at f in
      let same : x ≡ r = cc in
      subst (λ (y : Run). (from ≤ y.first) × (0 < y.pages)) same (a.0, a.1)
  | inr e ↦ let rest = found_from addr (x.first + x.pages) xs r a.2 (rw e at f) in (omega (arith, rest.0, a.0, a.1), rest.1)
]

pub found_addr : (addr : ℕ) (rs : List Run) (r : Run) → find (is_block_at addr) rs ≡ Some r → 4096 * r.first ≡ addr
found_addr addr [] r f = absurd (let z : ⊥ = cc in z)
found_addr addr (x ∷ xs) r f = elim (cases_Bool (is_block_at addr x)) [
  | inl e ↦
      let is : Some x ≡ Some r = rw e at f in
      let same : x ≡ r = cc in
      ap (λ (y : Run). 4096 * y.first) (sym same) ∙ eqb-true (4096 * x.first) addr (and_parts (is_kind x.mark.kind kinds.Back) _ e).1
  | inr e ↦ found_addr addr xs r (rw e at f)
]

-- .. and it is a block
pub found_block : (P : Run → Type 0) (addr : ℕ) (rs : List Run) (r : Run) → AllByRecursion P rs → find (is_block_at addr) rs ≡ Some r → P r
found_block P addr [] r b f = absurd (let z : ⊥ = cc in z)
found_block P addr (x ∷ xs) r b f = elim (cases_Bool (is_block_at addr x)) [
  | inl e ↦ let is : Some x ≡ Some r = rw e at f in let same : x ≡ r = cc in subst P same b.0
  | inr e ↦ found_block P addr xs r b.1 (rw e at f)
]

---- A test of places that is one of their address

module _ (test : Place → Bool) (addr : ℕ) (same : (r : Run) → test (place_of r) ≡ eqb (4096 * r.first) addr) where
  none_later : (from : ℕ) (rs : List Run) → AreRising from rs → addr < 4096 * from → list_any test (map place_of rs) ≡ false
  none_later from [] a l = refl
  none_later from (r ∷ rs) a l =
      let e : test (place_of r) ≡ false = same r ∙ ne_eqb (4096 * r.first) addr (λ k. omega (arith, k, a.0, l)) in
      rw e (none_later (r.first + r.pages) rs a.2 (omega (arith, a.0, l)))

  -- at most one place passes
  pub only_one : (from : ℕ) (rs : List Run) → AreRising from rs → OnlyOne test (map place_of rs)
  only_one from [] a = tt
  only_one from (r ∷ rs) a =
      (λ t. none_later (r.first + r.pages) rs a.2 (omega (arith, eqb-true (4096 * r.first) addr (sym (same r) ∙ t), a.1)), only_one (r.first + r.pages) rs a.2)

  pub found_place : (rs : List Run) → AllByRecursion IsBlockRun rs → find test (map place_of rs) ≡ option_map place_of (find (is_block_at addr) rs)
  found_place [] b = refl
  found_place (r ∷ rs) b =
      let here = is_at addr r b.0 in
      elim (cases_Bool (eqb (4096 * r.first) addr)) [
        | inl e ↦ rw (same r, here, e) refl
        | inr e ↦ rw (same r, here, e) (found_place rs b.1)
      ]

  pub any_place : (rs : List Run) → AllByRecursion IsBlockRun rs → find (is_block_at addr) rs ≡ None → list_any test (map place_of rs) ≡ false
  any_place [] b f = refl
  any_place (r ∷ rs) b f = elim (cases_Bool (eqb (4096 * r.first) addr)) [
    | inl e ↦ let t = is_at addr r b.0 ∙ e in let z : Some r ≡ None = rw t at f in absurd (let y : ⊥ = cc in y)
    | inr e ↦ let t = is_at addr r b.0 ∙ e in rw (same r, e) (any_place rs b.1 (rw t at f))
  ]

  pub removed_place : (first : ℕ) (rs : List Run) → addr ≡ 4096 * first → remove_found test (map place_of rs) ≡ map place_of (remove_found (starts_at first) rs)
  removed_place first [] k = refl
  removed_place first (r ∷ rs) k = elim (cases_Bool (eqb r.first first)) [
    | inl e ↦ let t : test (place_of r) ≡ true = same r ∙ eq-eqb (4096 * r.first) addr (omega (arith, eqb-true r.first first e, k)) in rw (t, e) refl
    | inr e ↦ let t : test (place_of r) ≡ false = same r ∙ ne_eqb (4096 * r.first) addr (λ z. differ r first e (omega (arith, z, k))) in rw (t, e) (ap (λ (ps : List Place). place_of r ∷ ps) (removed_place first rs k))
  ]
    where
      differ : (r : Run) (first : ℕ) → eqb r.first first ≡ false → r.first ≡ first → ⊥
      differ r first e d = let t = eq-eqb r.first first d in let z : true ≡ false = sym t ∙ e in let y : ⊥ = cc in y

---- Where places lie

outside_front : (r q : Run) → q.first < r.first → lies_in 4096 (span_of r) (place_of q) ≡ false
outside_front r q l = let e = lt-leb (4096 * r.first) (4096 * q.first) (omega arith) in rw e refl

outside_behind : (r q : Run) → r.first + r.pages ≤ q.first → 0 < q.pages → lies_in 4096 (span_of r) (place_of q) ≡ false
outside_behind r q l s =
    let e = lt-leb (4096 * q.first + 16 * (256 * q.pages)) (4096 * (r.first + r.pages)) (omega arith) in
    elim (cases_Bool (leb (4096 * r.first) (4096 * q.first))) [ inl k ↦ rw (k, e) refl | inr k ↦ rw k refl ]

none_behind : (r : Run) (from : ℕ) (rs : List Run) → AreRising from rs → r.first + r.pages ≤ from → list_any (lies_in 4096 (span_of r)) (map place_of rs) ≡ false
none_behind r from [] a l = refl
none_behind r from (q ∷ qs) a l =
    let e = outside_behind r q (omega (arith, a.0, l)) a.1 in
    rw e (none_behind r (q.first + q.pages) qs a.2 (omega (arith, a.0, l)))

-- no other place lies in the span of a block
pub no_other : (addr from : ℕ) (rs : List Run) (r : Run) → AreRising from rs → AllByRecursion IsBlockRun rs → find (is_block_at addr) rs ≡ Some r →
    list_any (lies_in 4096 (span_of r)) (map place_of (remove_found (starts_at r.first) rs)) ≡ false
no_other addr from [] r a b f = refl
no_other addr from (x ∷ xs) r a b f = elim (cases_Bool (is_block_at addr x)) [
  | inl e ↦
      let is : Some x ≡ Some r = rw e at f in
      let same : x ≡ r = cc in
      let t = eq-eqb x.first r.first (ap (λ (y : Run). y.first) same) in
      rw t (none_behind r (x.first + x.pages) xs a.2 (omega (arith, ap (λ (y : Run). y.first + y.pages) same)))
  | inr e ↦
      let g = rw e at f in
      let behind = found_from addr (x.first + x.pages) xs r a.2 g in
      let t = ne_eqb x.first r.first (λ k. omega (arith, k, behind.0, a.1)) in
      let out = outside_front r x (omega (arith, behind.0, a.1)) in
      rw t (rw out (no_other addr (x.first + x.pages) xs r a.2 b.1 g))
]

-- its own place does
own_place : (r : Run) → lies_in 4096 (span_of r) (place_of r) ≡ true
own_place r =
    let a = le-leb (4096 * r.first) (4096 * r.first) (omega arith) in
    let b = le-leb (4096 * r.first + 16 * (256 * r.pages)) (4096 * (r.first + r.pages)) (omega arith) in
    rw (a, b) refl

-- each span of the back end has its place among places that have those of its blocks
pub all_used : (ps : List Place) (rs : List Run) → ((test : Place → Bool) → list_any test (map place_of (filter is_block_run rs)) ≡ true → list_any test ps ≡ true) → are_used 4096 kinds.Back ps (map span_of rs) ≡ true
all_used ps [] h = refl
all_used ps (r ∷ rs) h = elim (cases_Bool (is_block_run r)) [
  | inl e ↦
      let k : (test : Place → Bool) → (test (place_of r) || list_any test (map place_of (filter is_block_run rs))) ≡ true → list_any test ps ≡ true = rw e at h in
      let rest = all_used ps rs (λ test l. k test (or_right (test (place_of r)) (list_any test (map place_of (filter is_block_run rs))) l)) in
      rw e (and_from (has_place 4096 ps (span_of r)) _ (k (lies_in 4096 (span_of r)) (or_left (lies_in 4096 (span_of r) (place_of r)) (list_any (lies_in 4096 (span_of r)) (map place_of (filter is_block_run rs))) (own_place r))) rest)
  | inr e ↦ let k : (test : Place → Bool) → list_any test (map place_of (filter is_block_run rs)) ≡ true → list_any test ps ≡ true = rw e at h in rw e (all_used ps rs k)
]

---- One more, and one less

pub place_inserted : (r : Run) (rs : List Run) → insert_place (place_of r) (map place_of rs) ≡ map place_of (insert_run r rs)
place_inserted r [] = refl
place_inserted r (q ∷ qs) = elim (cases_Bool (ltb r.first q.first)) [
  | inl e ↦ let t = lt-ltb (4096 * r.first) (4096 * q.first) (omega (arith, ltb-true r.first q.first e)) in rw (e, t) refl
  | inr e ↦ let t = le-ltb (4096 * r.first) (4096 * q.first) (omega (arith, ltb-false r.first q.first e)) in rw (e, t) (ap (λ (ps : List Place). place_of q ∷ ps) (place_inserted r qs))
]

pub all_inserted : (P : Run → Type 0) (r : Run) (rs : List Run) → P r → AllByRecursion P rs → AllByRecursion P (insert_run r rs)
all_inserted P r [] b h = (b, tt)
all_inserted P r (q ∷ qs) b h = elim (cases_Bool (ltb r.first q.first)) [
  | inl e ↦ rw e (b, h)
  | inr e ↦ rw e (h.0, all_inserted P r qs b h.1)
]

pub all_removed : (P : Run → Type 0) (first : ℕ) (rs : List Run) → AllByRecursion P rs → AllByRecursion P (remove_found (starts_at first) rs)
all_removed P first [] h = tt
all_removed P first (q ∷ qs) h = elim (cases_Bool (eqb q.first first)) [
  | inl e ↦ rw e h.1
  | inr e ↦ rw e (h.0, all_removed P first qs h.1)
]

-- the run of a block that is found is that of its first page
pub start_found : (addr from : ℕ) (rs : List Run) (r : Run) → AreRising from rs → find (is_block_at addr) rs ≡ Some r → find (starts_at r.first) rs ≡ Some r
start_found addr from [] r a f = absurd (let z : ⊥ = cc in z)
start_found addr from (x ∷ xs) r a f = elim (cases_Bool (is_block_at addr x)) [
  | inl e ↦
      let is : Some x ≡ Some r = rw e at f in
      let same : x ≡ r = cc in
      let k = eq-eqb x.first r.first (ap (λ (y : Run). y.first) same) in
      rw k (ap Some same)
  | inr e ↦
      let g = rw e at f in
      let behind = found_from addr (x.first + x.pages) xs r a.2 g in
      let k = ne_eqb x.first r.first (λ z. omega (arith, z, behind.0, a.1)) in
      rw k (start_found addr (x.first + x.pages) xs r a.2 g)
]

-- .. and so is its span
pub span_found : (first : ℕ) (rs : List Run) (r : Run) → find (starts_at first) rs ≡ Some r → find (begins_at first) (map span_of rs) ≡ Some (span_of r)
span_found first [] r f = absurd (let z : ⊥ = cc in z)
span_found first (x ∷ xs) r f = elim (cases_Bool (eqb x.first first)) [
  | inl e ↦
      let is : Some x ≡ Some r = rw e at f in
      let same : x ≡ r = cc in
      rw e (ap (λ (y : Run). Some (span_of y)) same)
  | inr e ↦ rw e (span_found first xs r (rw e at f))
]
