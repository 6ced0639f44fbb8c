-- The free pages that lose their marks, run by run.
use Rattle.std.proofs.Common.{◌≡◌, ℕ, zero, suc, ◌+◌, ◌-◌, ◌*◌, ◌/◌, ◌%◌, ◌<◌, ◌≤◌, Bool, true, false, cond, ◌&&◌, ◌⊎◌, not, inl, inr, refl, ap, ◌∙◌, sym, arith, subst, List, length, leb, ltb, count_by, zero-add, add-zero}
use Rattle.std.proofs.lemmas.Bool.{cases_lt, le-leb, lt-leb, lt-ltb, le-ltb, ltb-true, and_parts}
use Rattle.std.proofs.lemmas.List.Sums.{sum_by-cons}
use Rattle.std.proofs.Math.Path.{fun_ext}
use Rattle.std.specs.List.{AllByRecursion, list_any}
use Rattle.heap_model.specs.declared.Run.{Run}
use Rattle.heap_model.specs.State.{Area}
use Rattle.heap_model.specs.Backend.{is_free, is_usable, in_span, numbers}
use Rattle.page_region.specs.Held.{committed_of, decommit}
use Rattle.page_ranges.specs.Words.{runs_of, runs_from}
use Rattle.page_ranges.specs.Ranges.{AreRuns}
use Rattle.page_ranges.proofs.Runs.{Step, and_right_false}
use Rattle.page_ranges.specs.Spans.{is_of_free}
use Rattle.backend_fit.specs.Pages.{Pages, pages_area}
use Rattle.backend_fit.specs.Effects.{is_idle}
use Rattle.backend_fit.specs.Sound.{AreSound}
use Rattle.page_ranges.proofs.FreeRuns.{IsTested, free_tested}

-- counts of the same numbers, and of none
count_same : (f g : ℕ → Bool) (at n : ℕ) → ((j : ℕ) → j < n → f (at + j) ≡ g (at + j)) → count_by f (numbers at n) ≡ count_by g (numbers at n)
count_same f g at zero h = refl
count_same f g at (suc n) h =
    let z : at + 0 ≡ at = omega arith in
    let e : f at ≡ g at = subst (λ x. f x ≡ g x) z (h 0 (omega arith)) in
    let again = count_same f g (at + 1) n (λ j l. let y : at + suc j ≡ at + 1 + j = omega arith in subst (λ x. f x ≡ g x) y (h (suc j) (omega arith))) in
    let cf : ℕ → ℕ = λ x. cond (f x) 1 0 in
    let cg : ℕ → ℕ = λ x. cond (g x) 1 0 in
    let same : cf at ≡ cg at = ap (λ b. cond b 1 0) e in
    omega (arith, again, same, sum_by-cons cf at (numbers (at + 1) n), sum_by-cons cg at (numbers (at + 1) n))

count_none : (at n : ℕ) → count_by (λ (x : ℕ). false) (numbers at n) ≡ 0
count_none at zero = refl
count_none at (suc n) = rw (count_none (at + 1) n) refl

count_append : (f : ℕ → Bool) (at n m : ℕ) → count_by f (numbers at (n + m)) ≡ count_by f (numbers at n) + count_by f (numbers (at + n) m)
count_append f at zero m = rw (zero-add, add-zero) (omega arith)
count_append f at (suc n) m =
    let e : suc n + m ≡ suc (n + m) = omega arith in
    let y : at + suc n ≡ at + 1 + n = omega arith in
    let again = count_append f (at + 1) n m in
    let g : ℕ → ℕ = λ x. cond (f x) 1 0 in
    rw (e, y) (omega (arith, again, sum_by-cons g at (numbers (at + 1) (n + m)), sum_by-cons g at (numbers (at + 1) n)))

-- the marks when the free pages below a page have lost theirs
abbrev pub cleared_below : Area → ℕ → ℕ → Bool
cleared_below a page u = a.committed u && not (is_free a u && ltb u page)

-- What the sweep knows at a page.
pub record IsSweep (words : List ℕ) (a : Area) (page : ℕ) (committed : ℕ → Bool) (cleared : ℕ) : Type 0 where
  pub runs : AreRuns words page (length words) (runs_from words page)
  pub tested : AllByRecursion (IsTested (is_free a)) (runs_from words page)
  pub marks : (u : ℕ) → committed u ≡ cleared_below a page u
  pub count : cleared ≡ count_by (is_idle a) (numbers 0 page)

pub sweep_begins : (k : Pages) → AreSound k → IsSweep k.words (pages_area k) 0 (committed_of k.region) 0
sweep_begins k s = record {
  runs = s.whole;
  tested = free_tested (pages_area k) k.words 0 (length k.words) (runs_of k.words) (λ page l. refl) s.whole s.used;
  marks = λ u. sym (rw (le-ltb u 0 (omega arith), and_right_false (is_free (pages_area k) u)) (and_right_true (committed_of k.region u)));
  count = refl;
}
  where
    and_right_true : (b : Bool) → (b && true) ≡ b
    and_right_true true = refl
    and_right_true false = refl

module _ (words : List ℕ) (a : Area) (page cleared : ℕ) (committed : ℕ → Bool) (r : Run) (w : IsSweep words a page committed cleared) (t : Step words page r) where
  here : (u : ℕ) → page ≤ u → u < page + r.pages → is_free a u ≡ is_of_free r.mark.kind
  here u l h =
      let begins = t.begins in
      let e : r.first + (u - page) ≡ u = omega arith in
      let tested = w.tested in
      let all = rw t.read at tested in
      subst (λ x. is_free a x ≡ is_of_free r.mark.kind) e (all.0 (u - page) (omega arith))

  further : AllByRecursion (IsTested (is_free a)) (runs_from words (page + r.pages))
  further = let tested = w.tested in let all = rw t.read at tested in all.1

  pub free_fits : is_of_free r.mark.kind ≡ true → 0 < r.pages → page + r.pages ≤ 256 * a.reserved
  free_fits e some =
      let last = page + (r.pages - 1) in
      let free : is_free a last ≡ true = here last (omega arith) (omega arith) ∙ e in
      let usable = (and_parts (is_usable a last) (not (list_any (in_span last) a.spans)) free).0 in
      let l : last / 256 < a.reserved = ltb-true (last / 256) a.reserved (and_parts (ltb (last / 256) a.reserved) (leb 2 (last % 256)) usable).0 in
      omega arith

  -- outside the run nothing changes
  outside : (u : ℕ) → (u < page) ⊎ (page + r.pages ≤ u) → cleared_below a (page + r.pages) u ≡ cleared_below a page u
  outside u (inl l) = rw (lt-ltb u (page + r.pages) (omega arith), lt-ltb u page l) refl
  outside u (inr l) = rw (le-ltb u (page + r.pages) l, le-ltb u page (omega arith)) refl

  pub over_other : is_of_free r.mark.kind ≡ false → IsSweep words a (page + r.pages) committed cleared
  over_other e = record {
    runs = t.rest;
    tested = further;
    marks = λ u. w.marks u ∙ same u;
    count = w.count ∙ sym (count_append (is_idle a) 0 page r.pages ∙ rw (none) (omega arith));
  }
    where
      same : (u : ℕ) → cleared_below a page u ≡ cleared_below a (page + r.pages) u
      same u = elim (cases_lt u page) [
        | inl l ↦ sym (outside u (inl l))
        | inr l ↦ elim (cases_lt u (page + r.pages)) [
          | inl m ↦ rw (here u l m, e) refl
          | inr m ↦ sym (outside u (inr m))
        ]
      ]

      none : count_by (is_idle a) (numbers (0 + page) r.pages) ≡ 0
      none = count_same (is_idle a) (λ x. false) (0 + page) r.pages (λ j l. rw (here (0 + page + j) (omega arith) (omega arith), e) (and_right_false (a.committed (0 + page + j)))) ∙ count_none (0 + page) r.pages

  pub over_free : is_of_free r.mark.kind ≡ true → IsSweep words a (page + r.pages) (decommit page r.pages committed) (cleared + count_by committed (numbers page r.pages))
  over_free e = record {
    runs = t.rest;
    tested = further;
    marks = λ u. same u;
    count = sym (count_append (is_idle a) 0 page r.pages ∙ rw (more, w.count) refl);
  }
    where
      beyond : (u : ℕ) → page ≤ u → page + r.pages ≤ u → decommit page r.pages committed u ≡ committed u
      beyond u l m = rw (le-leb page u l, le-ltb u (page + r.pages) m) refl

      same : (u : ℕ) → decommit page r.pages committed u ≡ cleared_below a (page + r.pages) u
      same u = elim (cases_lt u page) [
        | inl l ↦ rw (lt-leb page u l) (w.marks u ∙ sym (outside u (inl l)))
        | inr l ↦ elim (cases_lt u (page + r.pages)) [
          | inl m ↦ rw (le-leb page u l, lt-ltb u (page + r.pages) m, here u l m, e) (sym (and_right_false (a.committed u)))
          | inr m ↦ beyond u l m ∙ w.marks u ∙ sym (outside u (inr m))
        ]
      ]

      more : count_by (is_idle a) (numbers (0 + page) r.pages) ≡ count_by committed (numbers page r.pages)
      more = rw zero-add (count_same (is_idle a) committed page r.pages (λ j l. at (page + j) (omega arith) (omega arith)))
        where
          at : (u : ℕ) → page ≤ u → u < page + r.pages → is_idle a u ≡ committed u
          at u l m = rw (here u l m, e) (sym (w.marks u ∙ rw (le-ltb u page l, and_right_false (is_free a u)) refl))

pub count_small : (f : ℕ → Bool) (at n : ℕ) → count_by f (numbers at n) ≤ n
count_small f at zero = omega arith
count_small f at (suc n) =
    let g : ℕ → ℕ = λ x. cond (f x) 1 0 in
    omega (arith, count_small f (at + 1) n, sum_by-cons g at (numbers (at + 1) n), small (f at))
  where
    small : (b : Bool) → cond b 1 0 ≤ 1
    small true = omega arith
    small false = omega arith

-- the sweep is over where the reserved segments end
pub swept_marks : (k : Pages) (page cleared : ℕ) (committed : ℕ → Bool) → IsSweep k.words (pages_area k) page committed cleared → 256 * k.region.reserved ≤ page → committed ≡ (λ u. committed_of k.region u && not (is_free (pages_area k) u))
swept_marks k page cleared committed w l = fun_ext each
  where
    and_right_true : (b : Bool) → (b && true) ≡ b
    and_right_true true = refl
    and_right_true false = refl

    each : (u : ℕ) → committed u ≡ (committed_of k.region u && not (is_free (pages_area k) u))
    each u = elim (cases_lt u page) [
      | inl m ↦ w.marks u ∙ rw (lt-ltb u page m) (ap (λ b. committed_of k.region u && not b) (and_right_true (is_free (pages_area k) u)))
      | inr m ↦
          let out : ltb (u / 256) k.region.reserved ≡ false = le-ltb (u / 256) k.region.reserved (omega arith) in
          w.marks u ∙ rw (le-ltb u page m, out) refl
    ]

pub swept_count : (k : Pages) (page cleared : ℕ) (committed : ℕ → Bool) → IsSweep k.words (pages_area k) page committed cleared → 256 * k.region.reserved ≤ page → cleared ≡ count_by (is_idle (pages_area k)) (numbers 0 (256 * k.region.reserved))
swept_count k page cleared committed w l =
    let n = 256 * k.region.reserved in
    let e : page ≡ n + (page - n) = omega arith in
    let a = pages_area k in
    let none : count_by (is_idle a) (numbers (0 + n) (page - n)) ≡ 0 = count_same (is_idle a) (λ x. false) (0 + n) (page - n) (λ j m. outside (0 + n + j) (omega arith)) ∙ count_none (0 + n) (page - n) in
    w.count ∙ ap (λ x. count_by (is_idle a) (numbers 0 x)) e ∙ count_append (is_idle a) 0 n (page - n) ∙ rw none (omega arith)
  where
    outside : (u : ℕ) → 256 * k.region.reserved ≤ u → is_idle (pages_area k) u ≡ false
    outside u m = let out : ltb (u / 256) k.region.reserved ≡ false = le-ltb (u / 256) k.region.reserved (omega arith) in rw out (and_right_false (committed_of k.region u))
