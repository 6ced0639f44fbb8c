-- Another segment.
use Rattle.std.proofs.Common.{◌≡◌, ℕ, ◌+◌, ◌-◌, ◌*◌, ◌/◌, ◌%◌, ◌<◌, ◌≤◌, ◌⊎◌, inl, inr, Bool, true, false, not, refl, ap, ◌∙◌, sym, arith, subst, List, [], ◌∷◌, ◌++◌, length, leb, ltb}
use Rattle.std.proofs.lemmas.Bool.{cases_lt, le-ltb, lt-ltb, lt-leb, le-leb}
use Rattle.std.specs.List.{AllByRecursion}
use Rattle.heap_model.specs.declared.Kind.{Kind}
use Rattle.heap_model.specs.declared.Kind.TheVariants as kinds
use Rattle.heap_model.specs.declared.Run as real
use Rattle.heap_model.specs.State.{is_kind}
use Rattle.page_ranges.specs.Words.{runs_of, run_of_page}
use Rattle.page_ranges.specs.Ranges.{AreRuns, IsRun, IsMarked}
use Rattle.heap_model.specs.Marks.{free_mark}
use Rattle.page_ranges.proofs.Runs.{runs_le, found, and_right_false}
use Rattle.page_ranges.proofs.Next.{header_has_one}
use Rattle.page_ranges.specs.Spans.{is_of_span, is_of_free, taken_runs, is_usable_in, IsUsed, AreApart}
use Rattle.backend_fit.specs.Pages.{Pages}
use Rattle.backend_fit.specs.Sound.{AreSound}
use Rattle.backend_fit.proofs.Tiled.{all_parts, last_free, apart_append, apart_parts, Tiled, changed}
use Rattle.page_ranges.proofs.Blocks.{taken_append}
use Rattle.backend_fit.proofs.BestFit.{header_only}

is_header : (k : Kind) → not (is_kind k kinds.Header) ≡ false → k ≡ kinds.Header
is_header kinds.Header h = refl
is_header kinds.Free h = let no : ⊥ = cc in absurd no
is_header kinds.Vs h = let no : ⊥ = cc in absurd no
is_header kinds.Lfh h = let no : ⊥ = cc in absurd no
is_header kinds.Back h = let no : ⊥ = cc in absurd no

pub beyond : (reserved page : ℕ) → 256 * reserved ≤ page → is_usable_in reserved page ≡ false
beyond reserved page l = let t : ltb (page / 256) reserved ≡ false = le-ltb (page / 256) reserved (omega arith) in rw t refl

-- a run of pages that no one may use is a header page
unusable_header : (reserved : ℕ) (r : real.Run) → IsUsed reserved r → 0 < r.pages → is_usable_in reserved (r.first + 0) ≡ false → r.mark.kind ≡ kinds.Header
unusable_header reserved r u some h = is_header r.mark.kind (sym (u 0 some) ∙ h)

-- behind the reserved segments there are header pages alone
no_taken : (words : List ℕ) (reserved from to : ℕ) (rs : List real.Run) → AreRuns words from to rs → AllByRecursion (IsUsed reserved) rs → 256 * reserved ≤ from → taken_runs rs ≡ []
no_taken words reserved from to [] a u l = refl
no_taken words reserved from to (r ∷ rs) a u l =
    let h = unusable_header reserved r u.0 a.1.some (beyond reserved (r.first + 0) (omega (arith, a.0))) in
    let t : is_of_span r.mark.kind ≡ false = ap is_of_span h in
    rw t (no_taken words reserved (from + r.pages) to rs a.2 u.1 (omega arith))

headers_apart : (words : List ℕ) (reserved from to : ℕ) (rs : List real.Run) (was : Bool) → AreRuns words from to rs → AllByRecursion (IsUsed reserved) rs → 256 * reserved ≤ from → AreApart was rs
headers_apart words reserved from to [] was a u l = tt
headers_apart words reserved from to (r ∷ rs) was a u l =
    let h = unusable_header reserved r u.0 a.1.some (beyond reserved (r.first + 0) (omega (arith, a.0))) in
    let t : is_of_free r.mark.kind ≡ false = ap is_of_free h in
    (rw t (and_right_false was), headers_apart words reserved (from + r.pages) to rs (is_of_free r.mark.kind) a.2 u.1 (omega arith))

-- what may be used among these pages is the same
used_same : (words : List ℕ) (reserved reserved' from to : ℕ) (rs : List real.Run) → ((page : ℕ) → from ≤ page → page < to → is_usable_in reserved' page ≡ is_usable_in reserved page) →
    AreRuns words from to rs → AllByRecursion (IsUsed reserved) rs → AllByRecursion (IsUsed reserved') rs
used_same words reserved reserved' from to [] h a u = tt
used_same words reserved reserved' from to (r ∷ rs) h a u =
    let le = runs_le words (from + r.pages) to rs a.2 in (
      λ j l. h (r.first + j) (omega (arith, a.0)) (omega (arith, a.0, le)) ∙ u.0 j l,
      used_same words reserved reserved' (from + r.pages) to rs (λ page x y. h page (omega arith) y) a.2 u.1,
    )

-- the last run is a header where the last page is one
last_header : (words : List ℕ) (reserved from to : ℕ) (rs : List real.Run) (was : Bool) → (was ≡ false) ⊎ (from < to) → is_usable_in reserved (to - 1) ≡ false →
    AreRuns words from to rs → AllByRecursion (IsUsed reserved) rs → last_free was rs ≡ false
last_header words reserved from to [] was (inl e) h a u = e
last_header words reserved from to [] was (inr l) h a u = absurd (omega (arith, a))
last_header words reserved from to (r ∷ rs) was o h a u = last_header words reserved (from + r.pages) to rs (is_of_free r.mark.kind) next h a.2 u.1
  where
    le : from + r.pages ≤ to
    le = runs_le words (from + r.pages) to rs a.2

    next : (is_of_free r.mark.kind ≡ false) ⊎ (from + r.pages < to)
    next = elim (cases_lt (from + r.pages) to) [
      | inl l ↦ inr l
      | inr l ↦
          let e : to - 1 ≡ r.first + (r.pages - 1) = omega (arith, a.0, a.1.some, le) in
          let t : not (is_kind r.mark.kind kinds.Header) ≡ false = sym (u.0 (r.pages - 1) (omega (arith, a.1.some))) ∙ (rw e at h) in
          inl (header_only r.mark.kind t)
    ]

-- The runs before and behind a header page.
record Cut (words : List ℕ) (reserved page : ℕ) (rs : List real.Run) : Type 0 where
  before : List real.Run
  run : real.Run
  after : List real.Run
  parts : rs ≡ before ++ run ∷ after
  front : AreRuns words 0 page before
  here : AreRuns words page (length words) (run ∷ after)
  back : AreRuns words (page + 1) (length words) after
  used_before : AllByRecursion (IsUsed reserved) before
  used_here : AllByRecursion (IsUsed reserved) (run ∷ after)

cut : (k : Pages) (page : ℕ) → AreSound k → 256 * k.region.reserved ≤ page → page < length k.words → Cut k.words k.region.reserved page (runs_of k.words)
cut k page s low l =
    let f = found k.words 0 (length k.words) (runs_of k.words) page s.whole (omega arith) l in
    let r = run_of_page k.words page in
    let u = all_parts (IsUsed k.region.reserved) f.before (r ∷ f.after) (subst (λ (qs : List real.Run). AllByRecursion (IsUsed k.region.reserved) qs) f.parts s.used) in
    let at = f.low in
    let high = f.high in
    let e : r.first + (page - r.first) ≡ page = omega arith in
    let t = u.1.0 (page - r.first) (omega arith) in
    let not_usable : is_usable_in k.region.reserved (r.first + (page - r.first)) ≡ false = beyond k.region.reserved (r.first + (page - r.first)) (omega arith) in
    let h = is_header r.mark.kind (sym t ∙ not_usable) in
    let one = header_has_one k.words r f.is_run h in
    let same : r.first ≡ page = omega arith in
    let back : AreRuns k.words (page + 1) (length k.words) f.after = subst (λ x. AreRuns k.words x (length k.words) f.after) (let g : r.first + r.pages ≡ page + 1 = omega arith in g) f.back in
    record {
      before = f.before;
      run = r;
      after = f.after;
      parts = f.parts;
      front = subst (λ x. AreRuns k.words 0 x f.before) same f.front;
      here = (same, f.is_run, subst (λ x. AreRuns k.words (page + x) (length k.words) f.after) (sym one) back);
      back = back;
      used_before = u.0;
      used_here = u.1;
    }

usable_below : (reserved page : ℕ) → page < 256 * reserved + 2 → is_usable_in (reserved + 1) page ≡ is_usable_in reserved page
usable_below reserved page l = elim (cases_lt page (256 * reserved)) [
  | inl m ↦
      let a : ltb (page / 256) (reserved + 1) ≡ true = lt-ltb (page / 256) (reserved + 1) (omega arith) in
      let b : ltb (page / 256) reserved ≡ true = lt-ltb (page / 256) reserved (omega arith) in
      rw (a, b) refl
  | inr m ↦
      let c : leb 2 (page % 256) ≡ false = lt-leb 2 (page % 256) (omega arith) in
      rw (c, and_right_false (ltb (page / 256) (reserved + 1)), and_right_false (ltb (page / 256) reserved)) refl
]

usable_beyond : (reserved page : ℕ) → 256 * reserved + 256 ≤ page → is_usable_in (reserved + 1) page ≡ is_usable_in reserved page
usable_beyond reserved page l = beyond (reserved + 1) page (omega arith) ∙ sym (beyond reserved page (omega arith))

usable_new : (reserved j : ℕ) → j < 254 → is_usable_in (reserved + 1) (256 * reserved + 2 + j) ≡ true
usable_new reserved j l =
    let a : ltb ((256 * reserved + 2 + j) / 256) (reserved + 1) ≡ true = lt-ltb ((256 * reserved + 2 + j) / 256) (reserved + 1) (omega arith) in
    let b : leb 2 ((256 * reserved + 2 + j) % 256) ≡ true = le-leb 2 ((256 * reserved + 2 + j) % 256) (omega arith) in
    rw (a, b) refl

-- What the words tell when a segment was opened.
pub record IsOpened (old new : List ℕ) (reserved : ℕ) : Type 0 where
  pub runs : List real.Run
  pub same_length : length new ≡ length old
  pub tiled : Tiled new (reserved + 1) runs
  pub taken : taken_runs runs ≡ taken_runs (runs_of old)
  pub is_run : IsRun new (record { first = 256 * reserved + 2; pages = 254; mark = free_mark })

pub opened : (k : Pages) (new : List ℕ) → AreSound k → k.region.reserved < k.region.segments → IsMarked k.words new (record { first = 256 * k.region.reserved + 2; pages = 254; mark = free_mark }) → IsOpened k.words new k.region.reserved
opened k new s less i =
    let old = k.words in
    let n = k.region.reserved in
    let low = 256 * n + 2 in
    let fits : 256 * n + 256 ≤ length old = omega (arith, s.pages) in
    let free : real.Run = record { first = low; pages = 254; mark = free_mark } in
    let run : IsRun new free = i.run in
    let a = cut k low s (omega arith) (omega arith) in
    let b = cut k (256 * n + 255) s (omega arith) (omega arith) in
    let e : 256 * n + 255 + 1 ≡ low + 254 = omega arith in
    let back : AreRuns old (low + 254) (length old) b.after = subst (λ x. AreRuns old x (length old) b.after) e b.back in
    let apart = apart_parts false a.before (a.run ∷ a.after) (subst (λ (qs : List real.Run). AreApart false qs) a.parts s.apart) in
    let last = last_header old n 0 low a.before false (inl refl) (beyond n (low - 1) (omega arith)) a.front a.used_before in
    let between : AreApart (last_free false a.before) (free ∷ b.after) = (rw last refl, headers_apart old n (low + 254) (length old) b.after true back b.used_here.1 (omega arith)) in
    record {
      runs = a.before ++ ((free ∷ []) ++ b.after);
      same_length = i.same_length;
      is_run = run;
      tiled = changed old new (n + 1) low (low + 254) a.before (free ∷ []) b.after a.front back (refl, run, refl) i.same_length (λ page h. i.others page h)
          (used_same old n (n + 1) 0 low a.before (λ page x y. usable_below n page y) a.front a.used_before)
          (λ j l. usable_new n j l, tt)
          (used_same old n (n + 1) (low + 254) (length old) b.after (λ page x y. usable_beyond n page (omega arith)) back b.used_here.1)
          (apart_append false a.before (free ∷ b.after) apart.0 between);
      taken =
          taken_append a.before (free ∷ b.after)
          ∙ ap (λ (xs : List real.Run). taken_runs a.before ++ xs) (no_taken old n (low + 254) (length old) b.after back b.used_here.1 (omega arith) ∙ sym (no_taken old n low (length old) (a.run ∷ a.after) a.here a.used_here (omega arith)))
          ∙ sym (taken_append a.before (a.run ∷ a.after))
          ∙ ap taken_runs (sym a.parts);
    }
