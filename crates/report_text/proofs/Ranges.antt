-- The page ranges of an image that shows a state are those of the state.
use Rattle.std.proofs.Common.{◌≡◌, ℕ, ◌+◌, ◌<◌, ◌≤◌, Bool, List, [], ◌∷◌, length, map, refl, sym, ap, ◌∙◌, arith, inl, inr}
use Rattle.std.proofs.lemmas.Bool.{lt-ltb, le-ltb}
use Rattle.heap_model.specs.declared.Kind.{Kind}
use Rattle.heap_model.specs.declared.Kind.TheVariants as kinds
use Rattle.heap_model.specs.declared.Run.{Run}
use Rattle.heap_model.specs.State.{Area, Span, Place}
use Rattle.heap_model.specs.Backend.{free_runs}
use Rattle.heap_model.specs.Layout.{PageRange, span_range, free_range, insert_range, insert_ranges}
use Rattle.page_ranges.specs.Words.{runs_of}
use Rattle.page_ranges.specs.Ranges.{AreRuns, IsRun}
use Rattle.page_ranges.specs.Spans.{taken_runs, frees_in, span_of, plain}
use Rattle.layout_decode.specs.Shows.{run_of_span}
use Rattle.report_text.specs.Image.{range_of, shown_runs}
use Rattle.report_text.specs.Laws.{RangesAreOfTheState}

-- the range of a run that is a span
abbrev taken_range : Run → PageRange
taken_range r = span_range (span_of r)

abbrev free_ranges : Area → List Run → List PageRange
free_ranges a rs = map (free_range a) (frees_in rs)

abbrev taken_ranges : List Run → List PageRange
taken_ranges rs = map taken_range (taken_runs rs)

-- they begin at a page or behind it
abbrev AreBehind : ℕ → List PageRange → Type 0
AreBehind low [] = Unit {0}
AreBehind low (x ∷ xs) = (low ≤ x.first) × AreBehind low xs

behind_lower : (low from : ℕ) (xs : List PageRange) → low ≤ from → AreBehind from xs → AreBehind low xs
behind_lower low from [] l b = tt
behind_lower low from (x ∷ xs) l b = (omega (arith, b.0), behind_lower low from xs l b.1)

-- what lies behind a range is put in behind it
put_behind : (x : PageRange) (low : ℕ) (fs xs : List PageRange) → x.first < low → AreBehind low fs → insert_ranges fs (x ∷ xs) ≡ x ∷ insert_ranges fs xs
put_behind x low [] xs l b = refl
put_behind x low (f ∷ fs) xs l b =
    let e = le-ltb f.first x.first (omega (arith, b.0)) in
    rw (put_behind x low fs xs l b.1, e) refl

-- what lies before all others is put in front
put_in_front : (x : PageRange) (low : ℕ) (xs : List PageRange) → x.first < low → AreBehind low xs → insert_range x xs ≡ x ∷ xs
put_in_front x low [] l b = refl
put_in_front x low (y ∷ ys) l b = let e = lt-ltb x.first y.first (omega (arith, b.0)) in rw e refl

frees_behind : (a : Area) (words : List ℕ) (from to : ℕ) (rs : List Run) → AreRuns words from to rs → AreBehind from (free_ranges a rs)
frees_behind a words from to [] t = tt
frees_behind a words from to (r ∷ rs) t = by_kind r.mark.kind refl (behind_lower from (from + r.pages) (free_ranges a rs) (omega arith) (frees_behind a words (from + r.pages) to rs t.2))
  where
    by_kind : (k : Kind) → r.mark.kind ≡ k → AreBehind from (free_ranges a rs) → AreBehind from (free_ranges a (r ∷ rs))
    by_kind kinds.Header e b = rw e b
    by_kind kinds.Free e b = rw e (omega (arith, t.0), b)
    by_kind kinds.Vs e b = rw e b
    by_kind kinds.Lfh e b = rw e b
    by_kind kinds.Back e b = rw e b

shown_behind : (committed : ℕ → Bool) (words : List ℕ) (from to : ℕ) (rs : List Run) → AreRuns words from to rs → AreBehind from (map (range_of committed) (shown_runs rs))
shown_behind committed words from to [] t = tt
shown_behind committed words from to (r ∷ rs) t = by_kind r.mark.kind refl (behind_lower from (from + r.pages) (map (range_of committed) (shown_runs rs)) (omega arith) (shown_behind committed words (from + r.pages) to rs t.2))
  where
    by_kind : (k : Kind) → r.mark.kind ≡ k → AreBehind from (map (range_of committed) (shown_runs rs)) → AreBehind from (map (range_of committed) (shown_runs (r ∷ rs)))
    by_kind kinds.Header e b = rw e b
    by_kind kinds.Free e b = rw e (omega (arith, t.0), b)
    by_kind kinds.Vs e b = rw e (omega (arith, t.0), b)
    by_kind kinds.Lfh e b = rw e (omega (arith, t.0), b)
    by_kind kinds.Back e b = rw e (omega (arith, t.0), b)

-- A free run has no bucket and no slot.
no_bucket : (words : List ℕ) (r : Run) → IsRun words r → r.mark.kind ≡ kinds.Free → (r.mark.bucket ≡ 0) × (r.mark.slot ≡ 0)
no_bucket words r i e = elim i.kept [
  | inl h ↦ let k : r.mark.kind ≡ kinds.Header = ap (λ (q : Run). q.mark.kind) h.0 in let z : kinds.Header ≡ kinds.Free = sym k ∙ e in absurd (let y : ⊥ = cc in y)
  | inr m ↦ m.mark.of_lfh (rw e refl)
]

free_same : (a : Area) (r : Run) → r.mark.kind ≡ kinds.Free → (r.mark.bucket ≡ 0) × (r.mark.slot ≡ 0) → range_of a.committed r ≡ free_range a (plain r)
free_same a r e z = rw (e, z.0, z.1) refl

module _ (a : Area) (words : List ℕ) (from to : ℕ) (r : Run) (rs : List Run) (t : AreRuns words from to (r ∷ rs)) where
  first_below : r.first < from + r.pages
  first_below = omega (arith, t.0, t.1.some)

  spans_on : insert_ranges (free_ranges a rs) (taken_range r ∷ taken_ranges rs) ≡ taken_range r ∷ insert_ranges (free_ranges a rs) (taken_ranges rs)
  spans_on = put_behind (taken_range r) (from + r.pages) (free_ranges a rs) (taken_ranges rs) first_below (frees_behind a words (from + r.pages) to rs t.2)

  of_span : range_of a.committed r ≡ taken_range r → map (range_of a.committed) (shown_runs rs) ≡ insert_ranges (free_ranges a rs) (taken_ranges rs) →
      range_of a.committed r ∷ map (range_of a.committed) (shown_runs rs) ≡ insert_ranges (free_ranges a rs) (taken_range r ∷ taken_ranges rs)
  of_span s h = ap (λ (x : PageRange). x ∷ map (range_of a.committed) (shown_runs rs)) s ∙ ap (λ (xs : List PageRange). taken_range r ∷ xs) h ∙ sym spans_on

  of_free : range_of a.committed r ≡ free_range a (plain r) → map (range_of a.committed) (shown_runs rs) ≡ insert_ranges (free_ranges a rs) (taken_ranges rs) →
      range_of a.committed r ∷ map (range_of a.committed) (shown_runs rs) ≡ insert_range (free_range a (plain r)) (insert_ranges (free_ranges a rs) (taken_ranges rs))
  of_free s h =
      ap (λ (x : PageRange). x ∷ map (range_of a.committed) (shown_runs rs)) s
      ∙ sym (put_in_front (free_range a (plain r)) (from + r.pages) (map (range_of a.committed) (shown_runs rs)) first_below (shown_behind a.committed words (from + r.pages) to rs t.2))
      ∙ ap (insert_range (free_range a (plain r))) h

abbrev run_at : Run → Kind → Run
run_at r k = record { first = r.first; pages = r.pages; mark = record { kind = k; bucket = r.mark.bucket; slot = r.mark.slot; unused = r.mark.unused } }

-- one more run in front
put_one : (a : Area) (words : List ℕ) (from to : ℕ) (r : Run) (k : Kind) (rs : List Run) → AreRuns words from to (run_at r k ∷ rs) →
    map (range_of a.committed) (shown_runs rs) ≡ insert_ranges (free_ranges a rs) (taken_ranges rs) →
    map (range_of a.committed) (shown_runs (run_at r k ∷ rs)) ≡ insert_ranges (free_ranges a (run_at r k ∷ rs)) (taken_ranges (run_at r k ∷ rs))
put_one a words from to r kinds.Header rs t h = h
put_one a words from to r kinds.Free rs t h =
    let x = run_at r kinds.Free in of_free a words from to x rs t (free_same a x refl (no_bucket words x t.1 refl)) h
put_one a words from to r kinds.Vs rs t h = of_span a words from to (run_at r kinds.Vs) rs t refl h
put_one a words from to r kinds.Lfh rs t h = of_span a words from to (run_at r kinds.Lfh) rs t refl h
put_one a words from to r kinds.Back rs t h = of_span a words from to (run_at r kinds.Back) rs t refl h

-- The free ranges put in among the spans are all ranges, in order.
put_together : (a : Area) (words : List ℕ) (from to : ℕ) (rs : List Run) → AreRuns words from to rs → map (range_of a.committed) (shown_runs rs) ≡ insert_ranges (free_ranges a rs) (taken_ranges rs)
put_together a words from to [] t = refl
put_together a words from to (r ∷ rs) t = put_one a words from to r r.mark.kind rs t (put_together a words (from + r.pages) to rs t.2)

span_ranges : (places : List Place) (xs : List Span) → map span_range xs ≡ map taken_range (map (run_of_span places) xs)
span_ranges places [] = refl
span_ranges places (x ∷ xs) = ap (λ (ys : List PageRange). span_range x ∷ ys) (span_ranges places xs)

pub ranges_are : RangesAreOfTheState
ranges_are image s st shown =
    let a = st.back.area in
    let rs = runs_of image.descs in
    let spans : taken_ranges rs ≡ map span_range a.spans = ap (map taken_range) shown.spans ∙ sym (span_ranges st.back.places a.spans) in
    let frees : free_ranges a rs ≡ map (free_range a) (free_runs a) = ap (map (free_range a)) shown.free in
    ap (λ (committed : ℕ → Bool). map (range_of committed) (shown_runs rs)) shown.committed
    ∙ put_together a image.descs 0 (length image.descs) rs shown.whole
    ∙ ap (λ (xs : List PageRange). insert_ranges xs (taken_ranges rs)) frees
    ∙ ap (insert_ranges (map (free_range a) (free_runs a))) spans
