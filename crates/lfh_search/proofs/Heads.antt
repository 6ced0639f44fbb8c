-- The first pages of the subsegments of a bucket and a slot, as the descriptor words show them.
use Rattle.std.proofs.Common.{◌≡◌, ℕ, zero, suc, ◌+◌, ◌-◌, ◌*◌, ◌/◌, ◌%◌, ◌<◌, ◌≤◌, Bool, true, false, ◌&&◌, not, List, [], ◌∷◌, Some, None, inl, inr, refl, sym, ap, ◌∙◌, subst, arith, eqb, eq-eqb, bit_and, add-zero}
use Rattle.std.specs.Prelude.{slice_index, filter, nat_lt}
use Rattle.std.proofs.lemmas.Bool.{cases_Bool, cases_lt, and_from, and_parts, eqb-true, lt-ltb, le-ltb}
use Rattle.std.proofs.lemmas.Nat.{and_mask, and_block}
use Rattle.heap_model.specs.declared.Kind.{Kind}
use Rattle.heap_model.specs.declared.Kind.TheVariants as kinds
use Rattle.heap_model.specs.declared.Mark.{Mark}
use Rattle.heap_model.specs.declared.Run.{Run}
use Rattle.heap_model.specs.State.{Span, is_kind, kind_number}
use Rattle.heap_model.specs.Search.{is_span_of, first_of}
use Rattle.heap_soundness.specs.Sound.{IsOneOf, AreInOrder}
use Rattle.heap_soundness.proofs.Enums.{kind_is}
use Rattle.heap_soundness.proofs.Spans.{above}
use Rattle.page_ranges.specs.Words.{later_word, word_in, header_run}
use Rattle.page_ranges.specs.Ranges.{IsRun, IsMarkedRun, AreRuns}
use Rattle.page_ranges.specs.Spans.{is_of_span, span_of, spans_in}
use Rattle.page_ranges.proofs.Decode.{kind_small}
use Rattle.page_ranges.proofs.Runs.{runs_le}
use Rattle.lfh_search.specs.Descriptors.{head_mask, head_mark}

---- What the mask leaves

masked : (n : ℕ) → bit_and n head_mask ≡ n / 16777216 % 65536 * 16777216 + n % 16777216 % 16
masked n =
    let low : n % 16777216 < 16777216 = omega arith in
    let parts : n ≡ n / 16777216 * 16777216 + n % 16777216 = omega arith in
    ap (λ (m : ℕ). bit_and m head_mask) parts
    ∙ (and_block 24 (n / 16777216) 65535 (n % 16777216) 15 low (omega arith)
    ∙ (λ j. and_mask (n / 16777216) 16 j * 16777216 + and_mask (n % 16777216) 4 j))

module _ (k p b s u : ℕ) (hk : k < 5) (hp : p < 65536) (hb : b < 256) (hs : s < 256) (hu : u < 65536) where
  abbrev w : ℕ
  w = k + 8 + 256 * p + 16777216 * b + 4294967296 * s + 1099511627776 * u

  w_high : w / 16777216 % 65536 ≡ b + 256 * s
  w_high = omega arith

  w_low : w % 16777216 % 16 ≡ k + 8
  w_low = omega arith

  w_masked : bit_and w head_mask ≡ (b + 256 * s) * 16777216 + (k + 8)
  w_masked = masked w ∙ (λ j. w_high j * 16777216 + w_low j)

  is_mark : (b' t : ℕ) → k ≡ 3 → b ≡ b' → s ≡ t → bit_and w head_mask ≡ head_mark b' t
  is_mark b' t e f g = w_masked ∙ omega arith

  by_mark : (b' t : ℕ) → b' < 256 → bit_and w head_mask ≡ head_mark b' t → (k ≡ 3) × (b ≡ b') × (s ≡ t)
  by_mark b' t l e =
      let z : (b + 256 * s) * 16777216 + (k + 8) ≡ head_mark b' t = sym w_masked ∙ e in
      (omega arith, omega arith, omega arith)

-- another page shows no head
later_none : (k : ℕ) (m : Mark) (b t : ℕ) → bit_and (later_word k m) head_mask ≡ head_mark b t → ⊥
later_none k m b t e =
    let small = kind_small m.kind in
    let z : later_word k m / 16777216 % 65536 * 16777216 + later_word k m % 16777216 % 16 ≡ head_mark b t = sym (masked (later_word k m)) ∙ e in
    let low : later_word k m % 16777216 % 16 ≡ kind_number m.kind = omega arith in
    omega arith

zero_none : (b t : ℕ) → bit_and 0 head_mask ≡ head_mark b t → ⊥
zero_none b t e = let z : 0 ≡ head_mark b t = sym (masked 0) ∙ e in omega arith

---- The runs of the words

is_mine : (b t : ℕ) (r : Run) → r.mark.kind ≡ kinds.Lfh → r.mark.bucket ≡ b → r.mark.slot ≡ t → is_span_of b t (span_of r) ≡ true
is_mine b t r k e f = and_from (is_kind r.mark.kind kinds.Lfh && eqb r.mark.bucket b) (eqb r.mark.slot t)
    (and_from (is_kind r.mark.kind kinds.Lfh) (eqb r.mark.bucket b) (ap (λ (x : Kind). is_kind x kinds.Lfh) k) (eq-eqb r.mark.bucket b e)) (eq-eqb r.mark.slot t f)

pub mine_parts : (b t : ℕ) (x : Span) → is_span_of b t x ≡ true → (x.kind ≡ kinds.Lfh) × (x.bucket ≡ b) × (x.slot ≡ t)
mine_parts b t x h =
    let p = and_parts (is_kind x.kind kinds.Lfh && eqb x.bucket b) (eqb x.slot t) h in
    let q = and_parts (is_kind x.kind kinds.Lfh) (eqb x.bucket b) p.0 in
    (kind_is x.kind kinds.Lfh q.0, eqb-true x.bucket b q.1, eqb-true x.slot t p.1)

module _ (words : List ℕ) (b t : ℕ) (small : b < 256) where
  -- a run that is one of these subsegments shows so on its first page
  shows : (r : Run) → IsRun words r → is_span_of b t (span_of r) ≡ true → bit_and (slice_index words r.first) head_mask ≡ head_mark b t
  shows r i m = elim i.kept [
    | inl e ↦ absurd (header e.0)
    | inr k ↦ marked k
  ]
    where
      header : r ≡ header_run r.first → ⊥
      header e = let z : header_run r.first ≡ header_run r.first = refl in let k : r.mark.kind ≡ kinds.Header = ap (λ (q : Run). q.mark.kind) e in let n : kind_number kinds.Header ≡ kind_number kinds.Lfh = ap kind_number (sym k ∙ (mine_parts b t (span_of r) m).0) in omega (arith, n)

      marked : IsMarkedRun words r → bit_and (slice_index words r.first) head_mask ≡ head_mark b t
      marked k =
          let p = mine_parts b t (span_of r) m in
          let at : slice_index words r.first ≡ word_in r 0 = ap (slice_index words) (sym (add-zero r.first)) ∙ k.marked 0 i.some in
          ap (λ (n : ℕ). bit_and n head_mask) at
          ∙ is_mark (kind_number r.mark.kind) r.pages r.mark.bucket r.mark.slot r.mark.unused (kind_small r.mark.kind) k.pages k.fields.bucket k.fields.slot k.fields.unused b t (ap kind_number p.0) p.1 p.2

  -- a page of a run that shows one is its first, and the run is that subsegment
  shown_by : (r : Run) (k : ℕ) → IsRun words r → k < r.pages → bit_and (slice_index words (r.first + k)) head_mask ≡ head_mark b t → (k ≡ 0) × (is_span_of b t (span_of r) ≡ true) × (is_of_span r.mark.kind ≡ true)
  shown_by r k i l e = elim i.kept [
    | inl h ↦ absurd (header h.0 h.1)
    | inr m ↦ marked k m l e
  ]
    where
      header : r ≡ header_run r.first → slice_index words r.first ≡ 0 → ⊥
      header h z =
          let one : r.pages ≡ 1 = ap (λ (q : Run). q.pages) h in
          let k0 : k ≡ 0 = omega (arith, one, l) in
          zero_none b t (ap (λ (n : ℕ). bit_and n head_mask) (sym (ap (slice_index words) (ap (λ (n : ℕ). r.first + n) k0 ∙ add-zero r.first) ∙ z)) ∙ e)

      by_kind : (x : Kind) → kind_number x ≡ 3 → x ≡ kinds.Lfh
      by_kind kinds.Lfh n = refl
      by_kind kinds.Header n = absurd (omega (arith, n))
      by_kind kinds.Free n = absurd (omega (arith, n))
      by_kind kinds.Vs n = absurd (omega (arith, n))
      by_kind kinds.Back n = absurd (omega (arith, n))

      marked : (k : ℕ) → IsMarkedRun words r → k < r.pages → bit_and (slice_index words (r.first + k)) head_mask ≡ head_mark b t → (k ≡ 0) × (is_span_of b t (span_of r) ≡ true) × (is_of_span r.mark.kind ≡ true)
      marked zero m l e =
          let at : slice_index words (r.first + 0) ≡ word_in r 0 = m.marked 0 l in
          let p = by_mark (kind_number r.mark.kind) r.pages r.mark.bucket r.mark.slot r.mark.unused (kind_small r.mark.kind) m.pages m.fields.bucket m.fields.slot m.fields.unused b t small (ap (λ (n : ℕ). bit_and n head_mask) (sym at) ∙ e) in
          let k = by_kind r.mark.kind p.0 in
          (refl, is_mine b t r k p.1 p.2, ap is_of_span k)
      marked (suc j) m l e =
          let at : slice_index words (r.first + suc j) ≡ word_in r (suc j) = m.marked (suc j) l in
          absurd (later_none (suc j) r.mark b t (ap (λ (n : ℕ). bit_and n head_mask) (sym at) ∙ e))

  abbrev pub mine : List Run → List Span
  mine rs = filter (is_span_of b t) (spans_in rs)

  abbrev pub IsHead : ℕ → Type 0
  IsHead page = bit_and (slice_index words page) head_mask ≡ head_mark b t

  -- the subsegments of the runs are shown on their first pages, which rise
  pub heads_shown : (from to : ℕ) (rs : List Run) → AreRuns words from to rs → (x : Span) → IsOneOf x (mine rs) → IsHead x.first × (from ≤ x.first) × (x.first < to)
  heads_shown from to [] a x i = absurd i
  heads_shown from to (r ∷ rs) a x i = by (heads_shown (from + r.pages) to rs a.2 x)
    where
      by : (IsOneOf x (mine rs) → IsHead x.first × (from + r.pages ≤ x.first) × (x.first < to)) → IsHead x.first × (from ≤ x.first) × (x.first < to)
      by more = elim (cases_Bool (is_of_span r.mark.kind)) [
        | inr n ↦ rest (rw n at i)
        | inl y ↦ elim (cases_Bool (is_span_of b t (span_of r))) [
          | inr n ↦ rest (rw (y, n) at i)
          | inl m ↦ first m (rw (y, m) at i)
        ]
      ]
        where
          rest : IsOneOf x (mine rs) → IsHead x.first × (from ≤ x.first) × (x.first < to)
          rest j = let h = more j in let l = h.1 in (h.0, omega (arith, l), h.2)

          first : is_span_of b t (span_of r) ≡ true → IsOneOf x (span_of r ∷ mine rs) → IsHead x.first × (from ≤ x.first) × (x.first < to)
          first m (inr j) = rest j
          first m (inl e) =
              let le = runs_le words (from + r.pages) to rs a.2 in
              let some = a.1.some in
              let at = a.0 in
              subst (λ (y : Span). IsHead y.first × (from ≤ y.first) × (y.first < to)) e (shows r a.1 m, omega (arith, at), omega (arith, at, le, some))

  -- .. and a page that shows one is the first of one
  pub head_is : (from to : ℕ) (rs : List Run) (page : ℕ) → AreRuns words from to rs → from ≤ page → page < to → IsHead page → (x : Span) × IsOneOf x (mine rs) × (x.first ≡ page)
  head_is from to [] page a l m h = absurd (omega (arith, a, l, m))
  head_is from to (r ∷ rs) page a l m h = elim (cases_lt page (from + r.pages)) [
    | inl n ↦ here n
    | inr n ↦ let f = head_is (from + r.pages) to rs page a.2 n m h in (f.0, behind f.0 f.1, f.2)
  ]
    where
      behind : (x : Span) → IsOneOf x (mine rs) → IsOneOf x (mine (r ∷ rs))
      behind x j = elim (cases_Bool (is_of_span r.mark.kind)) [
        | inr n ↦ rw n j
        | inl y ↦ elim (cases_Bool (is_span_of b t (span_of r))) [ inr n ↦ rw (y, n) j | inl k ↦ rw (y, k) (inr j) ]
      ]

      here : page < from + r.pages → (x : Span) × IsOneOf x (mine (r ∷ rs)) × (x.first ≡ page)
      here n =
          let at = a.0 in
          let e : page ≡ r.first + (page - r.first) = omega (arith, at, l) in
          let p = shown_by r (page - r.first) a.1 (omega (arith, at, l, n)) (subst IsHead e h) in
          let p0 = p.0 in
          let y = p.2 in
          let k = p.1 in
          (span_of r, rw (y, k) (inl refl), omega (arith, at, l, p0))

  -- the subsegments rise
  pub mine_rise : (from to : ℕ) (rs : List Run) → AreRuns words from to rs → AreInOrder from (mine rs)
  mine_rise from to [] a = tt
  mine_rise from to (r ∷ rs) a = by (mine_rise (from + r.pages) to rs a.2)
    where
      lower : (low high : ℕ) (xs : List Span) → low ≤ high → AreInOrder high xs → AreInOrder low xs
      lower low high [] l h = tt
      lower low high (x ∷ xs) l h = let h0 = h.0 in (omega (arith, l, h0), h.1, h.2)

      by : AreInOrder (from + r.pages) (mine rs) → AreInOrder from (mine (r ∷ rs))
      by more = elim (cases_Bool (is_of_span r.mark.kind)) [
        | inr n ↦ rw n (lower from (from + r.pages) (mine rs) (omega arith) more)
        | inl y ↦ elim (cases_Bool (is_span_of b t (span_of r))) [
          | inr n ↦ rw (y, n) (lower from (from + r.pages) (mine rs) (omega arith) more)
          | inl m ↦ rw (y, m) (let at = a.0 in (omega (arith, at), a.1.some, subst (λ (n : ℕ). AreInOrder (n + r.pages) (mine rs)) (sym at) more))
        ]
      ]

---- The first that was not read

-- Where a test passes exactly those from a page on, and the next of them begins at another, that is the first to pass.
pub first_from : (low from page : ℕ) (xs : List Span) (test : Span → Bool) → AreInOrder low xs → ((x : Span) → IsOneOf x xs → test x ≡ not (nat_lt x.first from)) → from ≤ page
    → ((x : Span) → IsOneOf x xs → from ≤ x.first → page ≤ x.first) → (y : Span) → IsOneOf y xs → y.first ≡ page → first_of (filter test xs) ≡ Some page
first_from low from page [] test a h l next y i e = absurd i
first_from low from page (x ∷ xs) test a h l next y i e = by i (first_from (x.first + x.pages) from page xs test a.2 (λ z j. h z (inr j)) l (λ z j. next z (inr j)) y)
  where
    by : IsOneOf y (x ∷ xs) → (IsOneOf y xs → y.first ≡ page → first_of (filter test xs) ≡ Some page) → first_of (filter test (x ∷ xs)) ≡ Some page
    by i more = elim (cases_lt x.first from) [
      | inl b ↦ let t : test x ≡ false = h x (inl refl) ∙ ap not (lt-ltb x.first from b) in rw t (later b i)
      | inr n ↦ let t : test x ≡ true = h x (inl refl) ∙ ap not (le-ltb x.first from n) in rw t (ap Some (here n i))
    ]
      where
        later : x.first < from → IsOneOf y (x ∷ xs) → first_of (filter test xs) ≡ Some page
        later b (inl q) = let f : x.first ≡ page = ap (λ (z : Span). z.first) q ∙ e in absurd (omega (arith, b, f, l))
        later b (inr j) = more j e

        here : from ≤ x.first → IsOneOf y (x ∷ xs) → x.first ≡ page
        here n (inl q) = ap (λ (z : Span). z.first) q ∙ e
        here n (inr j) =
            let u = (above (x.first + x.pages) xs y a.2 j).0 in
            let g = next x (inl refl) n in
            omega (arith, u, g, e)

-- none passes where all begin before
pub none_from : (from : ℕ) (xs : List Span) (test : Span → Bool) → ((x : Span) → IsOneOf x xs → test x ≡ not (nat_lt x.first from)) → ((x : Span) → IsOneOf x xs → x.first < from) → first_of (filter test xs) ≡ None
none_from from [] test h l = refl
none_from from (x ∷ xs) test h l = let t : test x ≡ false = h x (inl refl) ∙ ap not (lt-ltb x.first from (l x (inl refl))) in rw t (none_from from xs test (λ z j. h z (inr j)) (λ z j. l z (inr j)))
