-- A span that goes back.
use Rattle.std.proofs.Common.{◌≡◌, ℕ, ◌+◌, ◌-◌, ◌<◌, ◌≤◌, ◌⊎◌, true, false, inl, inr, refl, ap, ◌∙◌, sym, arith, subst, List, [], ◌∷◌, ◌++◌, length, get_or, Some, None, Option, eqb, leb, ltb, ◌/◌, ◌%◌, IsSome, IfSome, map}
use Rattle.std.proofs.lemmas.Bool.{cases_Bool, eq-eqb, eqb-true, cases_lt, leb-true, and_parts}
use Rattle.std.specs.List.{AllByRecursion, find}
use Rattle.heap_model.specs.declared.Run as real
use Rattle.heap_model.specs.State.{Area, Span, remove_found}
use Rattle.heap_model.specs.Search.{begins_at, span_at}
use Rattle.page_ranges.specs.Words.{runs_of, run_of_page}
use Rattle.page_ranges.specs.Ranges.{AreRuns, IsRun, IsMarked, IsInSegment, has_page}
use Rattle.heap_model.specs.Marks.{free_mark}
use Rattle.page_ranges.proofs.Runs.{runs_le, Parts, parts_of}
use Rattle.page_ranges.specs.Spans.{is_of_span, taken_runs, span_of, spans_in, is_usable_in, IsUsed, AreApart}
use Rattle.backend_fit.specs.Pages.{Pages, pages_area, taken_in}
use Rattle.backend_fit.specs.Effects.{starts_at, marked_span, without_span}
use Rattle.backend_fit.specs.Sound.{AreSound, IsSpan, start_of, end_of}
use Rattle.backend_fit.proofs.Tiled.{all_parts, last_free, apart_append, apart_parts, Tiled, tells, changed, sound_of, remove_front, spans_remove}
use Rattle.page_ranges.proofs.Blocks.{taken_append}
use Rattle.backend_fit.proofs.KindLemmas.{span_not_free, span_not_header}
use Rattle.backend_fit.proofs.Sides.{LeftSide, RightSide, left_side, right_side, run_tells, run_is}
use Rattle.backend_fit.proofs.Area.{area_is}
use Rattle.backend_fit.proofs.Segment.{in_segment}

pub record IsFreed (old new : List ℕ) (reserved first : ℕ) : Type 0 where
  pub runs : List real.Run
  pub same_length : length new ≡ length old
  pub tiled : Tiled new reserved runs
  pub taken : taken_runs runs ≡ remove_found (starts_at first) (taken_runs (runs_of old))

module _ (k : Pages) (r : real.Run) (s : AreSound k) (i : IsSpan k.words r) where
  pub parts : Parts k.words 0 (length k.words) (runs_of k.words) r
  parts = parts_of k.words 0 (length k.words) (runs_of k.words) (has_page r.first) r s.whole i.finds

  pub used : (p : Parts k.words 0 (length k.words) (runs_of k.words) r) → AllByRecursion (IsUsed k.region.reserved) p.before × AllByRecursion (IsUsed k.region.reserved) (r ∷ p.after)
  used p = all_parts (IsUsed k.region.reserved) p.before (r ∷ p.after) (subst (AllByRecursion (IsUsed k.region.reserved)) p.parts s.used)

  pub apart : (p : Parts k.words 0 (length k.words) (runs_of k.words) r) → AreApart false p.before × AreApart (last_free false p.before) (r ∷ p.after)
  apart p = apart_parts false p.before (r ∷ p.after) (subst (AreApart false) p.parts s.apart)

  pub usable : (p : Parts k.words 0 (length k.words) (runs_of k.words) r) (page : ℕ) → r.first ≤ page → page < r.first + r.pages → is_usable_in k.region.reserved page ≡ true
  usable p page l h =
      let e : r.first + (page - r.first) ≡ page = omega arith in
      let u = used p in
      let t : is_usable_in k.region.reserved (r.first + (page - r.first)) ≡ true = u.1.0 (page - r.first) (omega arith) ∙ rw (span_not_header r.mark.kind i.span) refl in
      subst (λ x. is_usable_in k.region.reserved x ≡ true) e t

  pub span_inside : r.first + r.pages ≤ length k.words
  span_inside = let p = parts in runs_le k.words (r.first + r.pages) (length k.words) p.after p.back

  pub span_some : 0 < r.pages
  span_some = let p = parts in p.is_run.some

  pub span_behind : 2 ≤ r.first
  span_behind =
      let p = parts in
      let u : is_usable_in k.region.reserved r.first ≡ true = usable p r.first (omega arith) (omega (arith, p.is_run.some)) in
      let l : 2 ≤ r.first % 256 = leb-true 2 (r.first % 256) (and_parts (ltb (r.first / 256) k.region.reserved) (leb 2 (r.first % 256)) u).1 in
      omega arith

  left : (p : Parts k.words 0 (length k.words) (runs_of k.words) r) → LeftSide k.words k.region.reserved r.first (start_of k.words r.first) p.before
  left p =
      let u = used p in
      let a = apart p in
      left_side k.words k.region.reserved r.first p.before p.front u.0 a.0 (omega (arith, span_behind))

  pub right : (p : Parts k.words 0 (length k.words) (runs_of k.words) r) → RightSide k.words k.region.reserved (r.first + r.pages) (end_of k.words (r.first + r.pages)) p.after
  right p =
      let u = used p in
      let a = apart p in
      right_side k.words k.region.reserved (r.first + r.pages) p.after p.back u.1.1 (subst (λ w. AreApart w p.after) (span_not_free r.mark.kind i.span) a.1.1)

  pub bounds : (start_of k.words r.first ≤ r.first) × (r.first + r.pages ≤ end_of k.words (r.first + r.pages)) × (end_of k.words (r.first + r.pages) ≤ length k.words)
  bounds =
      let p = parts in
      let l = left p in
      let h = right p in
      (l.low, h.high, runs_le k.words (end_of k.words (r.first + r.pages)) (length k.words) h.rest h.back)

  pub joined_in : (start stop : ℕ) → start ≡ start_of k.words r.first → stop ≡ end_of k.words (r.first + r.pages) → IsInSegment k.words start (stop - start)
  joined_in start stop es et =
      let p = parts in
      let l : LeftSide k.words k.region.reserved r.first start p.before = rw es (left p) in
      let h : RightSide k.words k.region.reserved (r.first + r.pages) stop p.after = rw et (right p) in
      let low = l.low in
      let high = h.high in
      let some = p.is_run.some in
      in_segment k start (stop - start) s (omega arith) (λ page x y. elim (cases_lt page r.first) [
        | inl a ↦ l.usable page x a
        | inr a ↦ elim (cases_lt page (r.first + r.pages)) [
          | inl b ↦ usable p page a b
          | inr b ↦ h.usable page b (omega arith)
        ]
      ])

  pub freed : (new : List ℕ) (start stop : ℕ) → start ≡ start_of k.words r.first → stop ≡ end_of k.words (r.first + r.pages) →
      IsMarked k.words new (record { first = start; pages = stop - start; mark = free_mark }) → IsFreed k.words new k.region.reserved r.first
  freed new start stop es et w =
      let p = parts in
      let l : LeftSide k.words k.region.reserved r.first start p.before = rw es (left p) in
      let h : RightSide k.words k.region.reserved (r.first + r.pages) stop p.after = rw et (right p) in
      let low = l.low in
      let high = h.high in
      let some = p.is_run.some in
      let few : stop ≤ 4096 = omega (arith, runs_le k.words stop (length k.words) h.rest h.back, s.pages, s.held.few) in
      let free : real.Run = record { first = start; pages = stop - start; mark = free_mark } in
      let run : IsRun new free = w.run in
      let e : start + (stop - start) ≡ stop = omega arith in
      let others : (page : ℕ) → (page < start) ⊎ (stop ≤ page) → get_or new page 0 ≡ get_or k.words page 0 = λ page o. w.others page (rw e o) in
      let mid : AreRuns new start stop (free ∷ []) = (refl, run, e) in
      let all_usable : IsUsed k.region.reserved free = λ j m. inside l h (start + j) (omega arith) (omega arith) in
      record {
        runs = l.rest ++ ((free ∷ []) ++ h.rest);
        same_length = w.same_length;
        tiled = changed k.words new k.region.reserved start stop l.rest (free ∷ []) h.rest l.front h.back mid w.same_length others l.used (all_usable, tt) h.used
            (apart_append false l.rest (free ∷ h.rest) l.apart (rw l.last refl, h.apart));
        taken = taken p l h;
      }
    where
      inside : LeftSide k.words k.region.reserved r.first start parts.before → RightSide k.words k.region.reserved (r.first + r.pages) stop parts.after → (page : ℕ) → start ≤ page → page < stop → is_usable_in k.region.reserved page ≡ true
      inside l h page x y = elim (cases_lt page r.first) [
        | inl a ↦ l.usable page x a
        | inr a ↦ elim (cases_lt page (r.first + r.pages)) [
          | inl b ↦ usable parts page a b
          | inr b ↦ h.usable page b y
        ]
      ]

      taken : (p : Parts k.words 0 (length k.words) (runs_of k.words) r) (l : LeftSide k.words k.region.reserved r.first start p.before) (h : RightSide k.words k.region.reserved (r.first + r.pages) stop p.after) →
          taken_runs (l.rest ++ (record { first = start; pages = stop - start; mark = free_mark } ∷ h.rest)) ≡ remove_found (starts_at r.first) (taken_runs (runs_of k.words))
      taken p l h =
          let gone : remove_found (starts_at r.first) (taken_runs (r ∷ p.after)) ≡ taken_runs p.after = rw (i.span, eq-eqb r.first r.first refl) refl in
          let new : taken_runs (l.rest ++ (record { first = start; pages = stop - start; mark = free_mark } ∷ h.rest)) ≡ taken_runs p.before ++ taken_runs p.after =
          taken_append l.rest (record { first = start; pages = stop - start; mark = free_mark } ∷ h.rest) ∙ rw (l.taken, h.taken) refl in
          let old : remove_found (starts_at r.first) (taken_runs (runs_of k.words)) ≡ taken_runs p.before ++ taken_runs p.after =
          ap (λ (rs : List real.Run). remove_found (starts_at r.first) (taken_runs rs)) p.parts ∙ remove_front k.words 0 r.first p.before (r ∷ p.after) p.front ∙ ap (λ (xs : List real.Run). taken_runs p.before ++ xs) gone in
          new ∙ sym old

module _ (k : Pages) (new : List ℕ) (first : ℕ) (s : AreSound k) (f : IsFreed k.words new k.region.reserved first) where
  pub freed_sound : AreSound (record { region = k.region; words = new })
  freed_sound = sound_of (record { region = k.region; words = new }) f.runs s.held (f.same_length ∙ s.pages) f.tiled

  pub freed_taken : taken_in new ≡ remove_found (starts_at first) (taken_in k.words)
  freed_taken = ap taken_runs (tells new k.region.reserved f.runs f.tiled) ∙ f.taken

  pub freed_area : pages_area (record { region = k.region; words = new }) ≡ without_span (pages_area k) first
  freed_area = area_is (pages_area (record { region = k.region; words = new })) (without_span (pages_area k) first) refl refl (ap (map span_of) freed_taken ∙ spans_remove first (taken_in k.words))

-- the run of words at which a span starts
pub record SpanHere (words : List ℕ) (first : ℕ) (x : Span) : Type 0 where
  pub inside : first < length words
  pub begins : (run_of_page words first).first ≡ first
  pub span : is_of_span (run_of_page words first).mark.kind ≡ true
  pub same : marked_span first (run_of_page words first).pages (run_of_page words first).mark ≡ x

pub span_here : (words : List ℕ) (from : ℕ) (rs : List real.Run) (first : ℕ) (x : Span) → AreRuns words from (length words) rs → find (begins_at first) (spans_in rs) ≡ Some x → SpanHere words first x
span_here words from [] first x a e = absurd (let no : ⊥ = cc in no)
span_here words from (r ∷ rs) first x a e = elim (cases_Bool (is_of_span r.mark.kind)) [
  | inl t ↦
      let e' = rw t at e in
      elim (cases_Bool (eqb r.first first)) [
        | inl g ↦ here t (eqb-true r.first first g) (rw g at e')
        | inr g ↦ span_here words (from + r.pages) rs first x a.2 (rw g at e')
      ]
  | inr t ↦ span_here words (from + r.pages) rs first x a.2 (rw t at e)
]
  where
    here : is_of_span r.mark.kind ≡ true → r.first ≡ first → Some (marked_span r.first r.pages r.mark) ≡ Some x → SpanHere words first x
    here t g e =
        let same : marked_span r.first r.pages r.mark ≡ x = cc in
        let tells = sym (run_tells words r a.1) in
        let it : SpanHere words r.first (marked_span r.first r.pages r.mark) = record {
          inside = omega (arith, a.0, a.1.some, runs_le words (from + r.pages) (length words) rs a.2);
          begins = subst (λ (q : real.Run). q.first ≡ r.first) tells refl;
          span = subst (λ (q : real.Run). is_of_span q.mark.kind ≡ true) tells t;
          same = subst (λ (q : real.Run). marked_span r.first q.pages q.mark ≡ marked_span r.first r.pages r.mark) tells refl;
        } in
        subst (λ n. SpanHere words n x) g (subst (SpanHere words r.first) same it)

-- what an option has
pub some_of : {A : Type 0} → (o : Option A) → IsSome o → (x : A) × (o ≡ Some x)
some_of (Some x) h = (x, refl)
some_of None h = let no : ⊥ = cc in absurd no

-- the run that is read where a span starts
pub span_run : (k : Pages) (first : ℕ) (r : real.Run) (x : Span) → AreSound k → span_at (pages_area k) first ≡ Some x → find (has_page first) (runs_of k.words) ≡ Some r → IsSpan k.words r × (r.first ≡ first) × (r.pages ≡ x.pages)
span_run k first r x s e f =
    let h = span_here k.words 0 (runs_of k.words) first x s.whole e in
    let is = run_is k.words first r s.whole h.inside f in
    let begins : r.first ≡ first = rw is h.begins in
    let span : is_of_span r.mark.kind ≡ true = rw is h.span in
    let pages : r.pages ≡ x.pages = rw is (ap (λ (y : Span). y.pages) h.same) in
    (record { finds = subst (λ n. find (has_page n) (runs_of k.words) ≡ Some r) (sym begins) f; span = span }, begins, pages)

pub span_in_pages : (k : Pages) (first : ℕ) (x : Span) → AreSound k → span_at (pages_area k) first ≡ Some x → first < length k.words
span_in_pages k first x s e = let h = span_here k.words 0 (runs_of k.words) first x s.whole e in h.inside

---- The same, from what a back end shows

pub shown_inside : (k v : Pages) (first : ℕ) → k ≡ v → AreSound k → IsSome (span_at (pages_area v) first) → first < length k.words
shown_inside k v first e s h =
    let o = some_of (span_at (pages_area k) first) (subst (λ (w : Pages). IsSome (span_at (pages_area w) first)) (sym e) h) in
    span_in_pages k first o.0 s o.1

pub shown_run : (k v : Pages) (first : ℕ) (r : real.Run) → k ≡ v → AreSound k → IsSome (span_at (pages_area v) first) → find (has_page first) (runs_of k.words) ≡ Some r →
    IsSpan k.words r × (r.first ≡ first) × IfSome (span_at (pages_area v) first) (λ (x : Span). r.pages ≡ x.pages)
shown_run k v first r e s h f =
    let o = some_of (span_at (pages_area k) first) (subst (λ (w : Pages). IsSome (span_at (pages_area w) first)) (sym e) h) in
    let p = span_run k first r o.0 s o.1 f in
    let g : IfSome (Some o.0) (λ (x : Span). r.pages ≡ x.pages) = p.2 in
    let pages : IfSome (span_at (pages_area k) first) (λ (x : Span). r.pages ≡ x.pages) = subst (λ (q : Option Span). IfSome q (λ (x : Span). r.pages ≡ x.pages)) (sym o.1) g in
    (p.0, p.1, subst (λ (w : Pages). IfSome (span_at (pages_area w) first) (λ (x : Span). r.pages ≡ x.pages)) e pages)

pub shown_area : (k v : Pages) (a : Area) (first first' : ℕ) → k ≡ v → first ≡ first' → a ≡ without_span (pages_area k) first → a ≡ without_span (pages_area v) first'
shown_area k v a first first' e f g = g ∙ ap (λ n. without_span (pages_area k) n) f ∙ ap (λ (w : Pages). without_span (pages_area w) first') e

pub shown_taken : (k v : Pages) (new : List ℕ) (first first' : ℕ) → k ≡ v → first ≡ first' → taken_in new ≡ remove_found (starts_at first) (taken_in k.words) → taken_in new ≡ remove_found (starts_at first') (taken_in v.words)
shown_taken k v new first first' e f g = g ∙ ap (λ n. remove_found (starts_at n) (taken_in k.words)) f ∙ ap (λ (w : Pages). remove_found (starts_at first') (taken_in w.words)) e
