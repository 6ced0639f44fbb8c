-- A span that grows or shrinks.
use Rattle.std.proofs.Common.{◌≡◌, ℕ, ◌+◌, ◌-◌, ◌*◌, ◌<◌, ◌≤◌, ◌⊎◌, inl, inr, true, false, refl, ap, ◌∙◌, sym, arith, subst, List, [], ◌∷◌, ◌++◌, length, option_map, unwrap_or, map, Option, Some, None, IsSome, IfSome, eqb, leb, ltb, ◌/◌, ◌%◌}
use Rattle.std.proofs.lemmas.Bool.{cases_Bool, ne_eqb, eq-eqb, cases_lt, ltb-true, and_parts}
use Rattle.std.specs.List.{find}
use Rattle.heap_model.specs.declared.Mark.{Mark}
use Rattle.heap_model.specs.declared.Kind.TheVariants as kinds
use Rattle.heap_model.specs.declared.Run as real
use Rattle.heap_model.specs.Runs.{Run}
use Rattle.heap_model.specs.State.{Area, Span, is_kind, change_found}
use Rattle.heap_model.specs.Backend.{free_runs}
use Rattle.heap_model.specs.Stay.{run_from}
use Rattle.heap_model.specs.Legal.{commit, with_pages}
use Rattle.heap_model.specs.Search.{span_at}
use Rattle.page_region.specs.Held.{Held, IsHeld, committed_of}
use Rattle.page_ranges.specs.Words.{runs_of, run_of_page}
use Rattle.page_ranges.specs.Ranges.{AreRuns, IsRun, IsMarked, IsInSegment, has_page}
use Rattle.heap_model.specs.Marks.{free_mark}
use Rattle.page_ranges.proofs.Runs.{runs_le, Parts}
use Rattle.page_ranges.specs.Spans.{is_of_span, is_of_free, taken_runs, span_of, frees_in, is_usable_in}
use Rattle.backend_fit.specs.Pages.{Pages, pages_area, taken_in}
use Rattle.backend_fit.specs.Effects.{starts_at, marked_run, marked_span, with_mark, with_size, reach_of}
use Rattle.heap_model.specs.Marks.{back_mark}
use Rattle.backend_fit.specs.Sound.{AreSound, IsSpan, IsSpanMark, end_of}
use Rattle.backend_fit.proofs.Tiled.{Tiled, tells, sound_of, change_front, spans_change}
use Rattle.backend_fit.proofs.KindLemmas.{span_not_free}
use Rattle.backend_fit.proofs.Sides.{RightSide, run_tells, run_is}
use Rattle.backend_fit.proofs.Freed.{parts, used, apart, usable, right, bounds, some_of, span_here, shown_run}
use Rattle.backend_fit.proofs.Carved.{IsBeside, carved}
use Rattle.backend_fit.proofs.Area.{area_is}
use Rattle.backend_fit.proofs.Segment.{frees_of, in_segment}

-- the free run that begins at a page, behind and before other runs
abbrev pub found_at : List real.Run → ℕ → Option Run
found_at rs page = find (λ (q : Run). eqb q.first page) (frees_in rs)

over_before : (words : List ℕ) (from to page : ℕ) (xs ys : List real.Run) → AreRuns words from to xs → to ≤ page → found_at (xs ++ ys) page ≡ found_at ys page
over_before words from to page [] ys a l = refl
over_before words from to page (r ∷ rs) ys a l =
    let again = over_before words (from + r.pages) to page rs ys a.2 l in
    let le = runs_le words (from + r.pages) to rs a.2 in
    elim (cases_Bool (is_of_free r.mark.kind)) [
      | inl e ↦ let t : eqb r.first page ≡ false = ne_eqb r.first page (λ g. omega (arith, a.0, a.1.some)) in rw (e, t) again
      | inr e ↦ rw e again
    ]

none_above : (words : List ℕ) (from to page : ℕ) (rs : List real.Run) → AreRuns words from to rs → page < from → found_at rs page ≡ None
none_above words from to page [] a l = refl
none_above words from to page (r ∷ rs) a l =
    let again = none_above words (from + r.pages) to page rs a.2 (omega arith) in
    elim (cases_Bool (is_of_free r.mark.kind)) [
      | inl e ↦ let t : eqb r.first page ≡ false = ne_eqb r.first page (λ g. omega (arith, a.0)) in rw (e, t) again
      | inr e ↦ rw e again
    ]

after_reach : (words : List ℕ) (page : ℕ) (after : List real.Run) → AreRuns words page (length words) after → unwrap_or (option_map (λ (q : Run). q.count) (found_at after page)) 0 ≡ end_of words page - page
after_reach words page [] a =
    let t : eqb page (length words) ≡ true = eq-eqb page (length words) a in
    rw t (omega arith)
after_reach words page (r ∷ rs) a =
    let le = runs_le words (page + r.pages) (length words) rs a.2 in
    let t : eqb page (length words) ≡ false = ne_eqb page (length words) (λ e. omega (arith, a.1.some, le)) in
    let tells : run_of_page words page ≡ r = subst (λ x. run_of_page words x ≡ r) a.0 (run_tells words r a.1) in
    let none = none_above words (page + r.pages) (length words) page rs a.2 (omega (arith, a.1.some)) in
    elim (cases_Bool (is_of_free r.mark.kind)) [
      | inl e ↦ let g : eqb r.first page ≡ true = eq-eqb r.first page a.0 in rw (t, tells, e, g) (omega arith)
      | inr e ↦ rw (t, tells, e, none) (omega arith)
    ]

-- What the words tell after the change.
pub record IsResized (old new : List ℕ) (reserved first n : ℕ) (m : Mark) : Type 0 where
  pub runs : List real.Run
  pub same_length : length new ≡ length old
  pub tiled : Tiled new reserved runs
  pub taken : taken_runs runs ≡ change_found (starts_at first) (with_mark n m) (taken_runs (runs_of old))

find_front : (words : List ℕ) (from first : ℕ) (xs zs : List real.Run) → AreRuns words from first xs → find (starts_at first) (taken_runs (xs ++ zs)) ≡ find (starts_at first) (taken_runs zs)
find_front words from first [] zs a = refl
find_front words from first (r ∷ rs) zs a =
    let again = find_front words (from + r.pages) first rs zs a.2 in
    let le = runs_le words (from + r.pages) first rs a.2 in
    elim (cases_Bool (is_of_span r.mark.kind)) [
      | inl s ↦ let t : eqb r.first first ≡ false = ne_eqb r.first first (λ e. omega (arith, a.0, a.1.some)) in rw (s, t) again
      | inr s ↦ rw s again
    ]

module _ (k : Pages) (r : real.Run) (s : AreSound k) (i : IsSpan k.words r) where
  pub reach_is : run_from (free_runs (pages_area k)) (r.first + r.pages) ≡ end_of k.words (r.first + r.pages) - (r.first + r.pages)
  reach_is =
      let p = parts k r s i in
      let e = r.first + r.pages in
      let not_free = span_not_free r.mark.kind i.span in
      let front = over_before k.words 0 r.first e p.before (r ∷ p.after) p.front (omega arith) in
      let here : found_at (r ∷ p.after) e ≡ found_at p.after e = rw not_free refl in
      let at : found_at (runs_of k.words) e ≡ found_at p.after e = ap (λ (qs : List real.Run). found_at qs e) p.parts ∙ front ∙ here in
      ap (λ (qs : List Run). run_from qs e) (frees_of k s) ∙ ap (λ (o : Option Run). unwrap_or (option_map (λ (q : Run). q.count) o) 0) at ∙ after_reach k.words e p.after p.back

  beside : (p : Parts k.words 0 (length k.words) (runs_of k.words) r) (h : RightSide k.words k.region.reserved (r.first + r.pages) (end_of k.words (r.first + r.pages)) p.after) →
      IsBeside k.words k.region.reserved r.first (end_of k.words (r.first + r.pages)) p.before h.rest
  beside p h =
      let stop = end_of k.words (r.first + r.pages) in
      let u = used k r s i p in
      let a = apart k r s i p in
      record {
        front = p.front;
        back = h.back;
        used_before = u.0;
        used_after = h.used;
        apart_before = a.0;
        apart_after = h.apart;
        usable = λ page x y. elim (cases_lt page (r.first + r.pages)) [
          | inl b ↦ usable k r s i p page x b
          | inr b ↦ h.usable page b y
        ];
        few = omega (arith, runs_le k.words stop (length k.words) h.rest h.back, s.pages, s.held.few);
      }

  pub end_inside : end_of k.words (r.first + r.pages) ≤ length k.words
  end_inside = let p = parts k r s i in let h = right k r s i p in runs_le k.words (end_of k.words (r.first + r.pages)) (length k.words) h.rest h.back

  pub end_reserved : end_of k.words (r.first + r.pages) ≤ 256 * k.region.reserved
  end_reserved =
      let p = parts k r s i in
      let h = right k r s i p in
      let stop = end_of k.words (r.first + r.pages) in
      let some = p.is_run.some in
      let high = h.high in
      let b = beside p h in
      let u : is_usable_in k.region.reserved (stop - 1) ≡ true = b.usable (stop - 1) (omega arith) (omega arith) in
      let l : (stop - 1) / 256 < k.region.reserved = ltb-true ((stop - 1) / 256) k.region.reserved (and_parts (ltb ((stop - 1) / 256) k.region.reserved) (leb 2 ((stop - 1) % 256)) u).0 in
      omega arith

  pub span_in : (n stop : ℕ) → stop ≡ end_of k.words (r.first + r.pages) → 0 < n → r.first + n ≤ stop → IsInSegment k.words r.first n
  span_in n stop e some l =
      let p = parts k r s i in
      let b = beside p (right k r s i p) in
      in_segment k r.first n s some (λ page x y. b.usable page x (omega arith))

  pub found_run : find (starts_at r.first) (taken_in k.words) ≡ Some r
  found_run =
      let p = parts k r s i in
      let t : eqb r.first r.first ≡ true = eq-eqb r.first r.first refl in
      let here : find (starts_at r.first) (taken_runs (r ∷ p.after)) ≡ Some r = rw (i.span, t) refl in
      ap (λ (rs : List real.Run). find (starts_at r.first) (taken_runs rs)) p.parts ∙ find_front k.words 0 r.first p.before (r ∷ p.after) p.front ∙ here

  pub resized : (middle new : List ℕ) (stop n : ℕ) (m : Mark) → stop ≡ end_of k.words (r.first + r.pages) → 0 < n → r.first + n ≤ stop → IsSpanMark m →
      IsMarked k.words middle (record { first = r.first; pages = n; mark = m }) →
      ((stop ≤ r.first + n) × (new ≡ middle)) ⊎ ((r.first + n < stop) × IsMarked middle new (record { first = r.first + n; pages = stop - (r.first + n); mark = free_mark })) →
      IsResized k.words new k.region.reserved r.first n m
  resized middle new stop n m es some fits m_is w o =
      let p = parts k r s i in
      let h = right k r s i p in
      let b : IsBeside k.words k.region.reserved r.first stop p.before h.rest = rw es (beside p h) in
      let c = carved k.words k.region.reserved r.first stop n m p.before h.rest b some fits m_is middle new w o in
      let x = marked_run r.first n m in
      let e : eqb r.first r.first ≡ true = eq-eqb r.first r.first refl in
      let here : change_found (starts_at r.first) (with_mark n m) (taken_runs (r ∷ p.after)) ≡ x ∷ taken_runs p.after = rw (i.span, e) refl in
      let old : change_found (starts_at r.first) (with_mark n m) (taken_runs (runs_of k.words)) ≡ taken_runs p.before ++ x ∷ taken_runs p.after =
      ap (λ (rs : List real.Run). change_found (starts_at r.first) (with_mark n m) (taken_runs rs)) p.parts ∙ change_front k.words 0 r.first (with_mark n m) p.before (r ∷ p.after) p.front
      ∙ ap (λ (xs : List real.Run). taken_runs p.before ++ xs) here in
      record {
        runs = c.runs;
        same_length = c.same_length;
        tiled = c.tiled;
        taken = c.taken ∙ ap (λ (xs : List real.Run). taken_runs p.before ++ x ∷ xs) h.taken ∙ sym old;
      }

module _ (k : Pages) (region : Held) (new : List ℕ) (first n : ℕ) (m : Mark) (s : AreSound k) (f : IsResized k.words new k.region.reserved first n m) (held : IsHeld region) (reserved : region.reserved ≡ k.region.reserved) (segments : region.segments ≡ k.region.segments) where
  pub resized_sound : AreSound (record { region = region; words = new })
  resized_sound =
      let t : Tiled new region.reserved f.runs = subst (λ x. Tiled new x f.runs) (sym reserved) f.tiled in
      sound_of (record { region = region; words = new }) f.runs held (f.same_length ∙ s.pages ∙ ap (λ x. 256 * x) (sym segments)) t

  pub resized_taken : taken_in new ≡ change_found (starts_at first) (with_mark n m) (taken_in k.words)
  resized_taken = ap taken_runs (tells new k.region.reserved f.runs f.tiled) ∙ f.taken

  pub resized_area : (r : real.Run) → find (starts_at first) (taken_in k.words) ≡ Some r → is_kind r.mark.kind kinds.Back ≡ true → span_of (with_mark n m r) ≡ with_pages n (span_of r) →
      committed_of region ≡ commit first n (committed_of k.region) → pages_area (record { region = region; words = new }) ≡ with_size (pages_area k) first n
  resized_area r g b e c = area_is (pages_area (record { region = region; words = new })) (with_size (pages_area k) first n) reserved c (ap (map span_of) resized_taken ∙ spans_change first n m (taken_in k.words) r g b e)

---- What a back end shows

-- a mark of kind Back changes the span of a back-end block in its pages alone
pub same_span : (words : List ℕ) (r : real.Run) (n unused : ℕ) → IsRun words r → r.mark.kind ≡ kinds.Back →
    marked_span r.first n (back_mark unused) ≡ with_pages n (span_of r)
same_span words r n unused i e = elim i.kept [
  | inl h ↦ let f : r.mark.kind ≡ kinds.Header = ap (λ (q : real.Run). q.mark.kind) h.0 in let no : ⊥ = cc in absurd no
  | inr m ↦
      let t : is_kind r.mark.kind kinds.Lfh ≡ false = rw e refl in
      let z = m.mark.of_lfh t in
      rw (e, z.0, z.1) refl
]

pub block_mark_is : (unused : ℕ) → IsSpanMark (back_mark unused)
block_mark_is unused = record { mark = record { used = refl; of_lfh = λ e. (refl, refl); of_back = λ e. let no : ⊥ = cc in absurd no }; kind = refl }

span_is : (k : Pages) (first : ℕ) (r : real.Run) (x : Span) → AreSound k → span_at (pages_area k) first ≡ Some x → find (has_page first) (runs_of k.words) ≡ Some r → marked_span r.first r.pages r.mark ≡ x
span_is k first r x s e f =
    let h = span_here k.words 0 (runs_of k.words) first x s.whole e in
    let is = run_is k.words first r s.whole h.inside f in
    let q = run_of_page k.words first in
    let a : marked_span q.first q.pages q.mark ≡ x = ap (λ n. marked_span n q.pages q.mark) h.begins ∙ h.same in
    subst (λ (w : real.Run). marked_span w.first w.pages w.mark ≡ x) (sym is) a

-- the span that is read, where a back end shows one
shown_span : (k v : Pages) (first : ℕ) (r : real.Run) → k ≡ v → AreSound k → IsSome (span_at (pages_area v) first) → find (has_page first) (runs_of k.words) ≡ Some r →
    span_at (pages_area v) first ≡ Some (marked_span r.first r.pages r.mark)
shown_span k v first r e s h f =
    let o = some_of (span_at (pages_area k) first) (subst (λ (w : Pages). IsSome (span_at (pages_area w) first)) (sym e) h) in
    let x = span_is k first r o.0 s o.1 f in
    let here : span_at (pages_area k) first ≡ Some (marked_span r.first r.pages r.mark) = o.1 ∙ ap (λ (y : Span). Some y) (sym x) in
    subst (λ (w : Pages). span_at (pages_area w) first ≡ Some (marked_span r.first r.pages r.mark)) e here

pub shown_reach : (k v : Pages) (first end : ℕ) (r : real.Run) → k ≡ v → AreSound k → IsSome (span_at (pages_area v) first) → find (has_page first) (runs_of k.words) ≡ Some r → end ≡ end_of k.words (r.first + r.pages) →
    reach_of (pages_area v) (span_at (pages_area v) first) ≡ end - r.first
shown_reach k v first end r e s h f g =
    let i = (shown_run k v first r e s h f).0 in
    let b = bounds k r s i in
    let reach = reach_is k r s i in
    let from : run_from (free_runs (pages_area v)) (r.first + r.pages) ≡ end_of k.words (r.first + r.pages) - (r.first + r.pages) = subst (λ (w : Pages). run_from (free_runs (pages_area w)) (r.first + r.pages) ≡ end_of k.words (r.first + r.pages) - (r.first + r.pages)) e reach in
    ap (reach_of (pages_area v)) (shown_span k v first r e s h f) ∙ rw from (omega (arith, b))

pub shown_kind : (k v : Pages) (first : ℕ) (r : real.Run) → k ≡ v → AreSound k → IsSome (span_at (pages_area v) first) → IfSome (span_at (pages_area v) first) (λ (x : Span). x.kind ≡ kinds.Back) → find (has_page first) (runs_of k.words) ≡ Some r → r.mark.kind ≡ kinds.Back
shown_kind k v first r e s h j f =
    let is = shown_span k v first r e s h f in
    let t : IfSome (Some (marked_span r.first r.pages r.mark)) (λ (x : Span). x.kind ≡ kinds.Back) = subst (λ (o : Option Span). IfSome o (λ (x : Span). x.kind ≡ kinds.Back)) is j in
    t

pub shown_same : (k v : Pages) (first n unused : ℕ) (r : real.Run) → k ≡ v → AreSound k → IsSome (span_at (pages_area v) first) → IfSome (span_at (pages_area v) first) (λ (x : Span). x.kind ≡ kinds.Back) → find (has_page first) (runs_of k.words) ≡ Some r →
    marked_span r.first n (back_mark unused) ≡ with_pages n (span_of r)
shown_same k v first n unused r e s h j f =
    let i = (shown_run k v first r e s h f).0 in
    let p = parts k r s i in
    same_span k.words r n unused p.is_run (shown_kind k v first r e s h j f)

pub shown_size : (k v : Pages) (a : Area) (first first' n : ℕ) → k ≡ v → first ≡ first' → a ≡ with_size (pages_area k) first n → a ≡ with_size (pages_area v) first' n
shown_size k v a first first' n e f g = g ∙ ap (λ m. with_size (pages_area k) m n) f ∙ ap (λ (w : Pages). with_size (pages_area w) first' n) e

pub shown_change : (k v : Pages) (new : List ℕ) (first first' n : ℕ) (m : Mark) → k ≡ v → first ≡ first' → taken_in new ≡ change_found (starts_at first) (with_mark n m) (taken_in k.words) → taken_in new ≡ change_found (starts_at first') (with_mark n m) (taken_in v.words)
shown_change k v new first first' n m e f g = g ∙ ap (λ x. change_found (starts_at x) (with_mark n m) (taken_in k.words)) f ∙ ap (λ (w : Pages). change_found (starts_at first') (with_mark n m) (taken_in w.words)) e
