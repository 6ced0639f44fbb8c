-- A span at the front of a free run.
use Rattle.std.proofs.Common.{◌≡◌, ℕ, ◌+◌, ◌-◌, ◌<◌, ◌≤◌, ◌⊎◌, inl, inr, true, false, ◌&&◌, refl, ap, ◌∙◌, sym, arith, subst, List, [], ◌∷◌, ◌++◌, length, get_or}
use Rattle.std.specs.List.{AllByRecursion}
use Rattle.heap_model.specs.declared.Mark.{Mark}
use Rattle.heap_model.specs.declared.Run as real
use Rattle.page_ranges.specs.Words.{runs_of}
use Rattle.page_ranges.specs.Ranges.{IsRun, IsMarked}
use Rattle.heap_model.specs.Marks.{free_mark}
use Rattle.page_ranges.specs.Spans.{is_of_free, taken_runs, is_usable_in, IsUsed, AreApart}
use Rattle.page_ranges.proofs.Runs.{runs_le, run_kept, Parts, and_right_false}
use Rattle.backend_fit.specs.Pages.{Pages}
use Rattle.backend_fit.specs.Effects.{marked_run, insert_run}
use Rattle.backend_fit.specs.Sound.{AreSound, IsSpanMark}
use Rattle.backend_fit.proofs.KindLemmas.{span_not_header, free_not_header, span_not_free, free_not_span}
use Rattle.backend_fit.proofs.Tiled.{all_parts, last_free, apart_append, apart_parts, apart_weaker, Tiled, changed, insert_front, insert_here}

-- What the words then tell.
pub record IsPlaced (old new : List ℕ) (reserved : ℕ) (r : real.Run) (n : ℕ) (m : Mark) : Type 0 where
  pub runs : List real.Run
  pub same_length : length new ≡ length old
  pub tiled : Tiled new reserved runs
  pub taken : taken_runs runs ≡ insert_run (marked_run r.first n m) (taken_runs (runs_of old))

module _ (k : Pages) (r : real.Run) (n : ℕ) (m : Mark) (s : AreSound k)
    (p : Parts k.words 0 (length k.words) (runs_of k.words) r) (free : is_of_free r.mark.kind ≡ true)
    (some : 0 < n) (m_is : IsSpanMark m) where
  abbrev the_taken : real.Run
  the_taken = record { first = r.first; pages = n; mark = m }

  abbrev left : real.Run
  left = record { first = r.first + n; pages = r.pages - n; mark = free_mark }

  fits : r.first + r.pages ≤ length k.words
  fits = runs_le k.words (r.first + r.pages) (length k.words) p.after p.back

  few : length k.words ≤ 4096
  few = omega (arith, s.pages, s.held.few)

  used : AllByRecursion (IsUsed k.region.reserved) p.before × AllByRecursion (IsUsed k.region.reserved) (r ∷ p.after)
  used = all_parts (IsUsed k.region.reserved) p.before (r ∷ p.after) (subst (λ (qs : List real.Run). AllByRecursion (IsUsed k.region.reserved) qs) p.parts s.used)

  apart : AreApart false p.before × AreApart (last_free false p.before) (r ∷ p.after)
  apart = apart_parts false p.before (r ∷ p.after) (subst (λ (qs : List real.Run). AreApart false qs) p.parts s.apart)

  apart_after : AreApart true p.after
  apart_after = let a = apart in subst (λ b. AreApart b p.after) free a.1.1

  usable : (j : ℕ) → j < r.pages → is_usable_in k.region.reserved (r.first + j) ≡ true
  usable j l = let u = used in u.1.0 j l ∙ rw (free_not_header r.mark.kind free) refl

  taken_used : n ≤ r.pages → IsUsed k.region.reserved the_taken
  taken_used h j l = usable j (omega arith) ∙ rw (span_not_header m.kind m_is.kind) refl

  left_used : n < r.pages → IsUsed k.region.reserved left
  left_used h j l = let e : r.first + (n + j) ≡ r.first + n + j = omega arith in subst (λ x. is_usable_in k.region.reserved x ≡ true) e (usable (n + j) (omega arith))

  span_here : (qs : List real.Run) → taken_runs qs ≡ marked_run r.first n m ∷ taken_runs p.after → taken_runs (p.before ++ qs) ≡ insert_run (marked_run r.first n m) (taken_runs (runs_of k.words))
  span_here qs e =
      let x = marked_run r.first n m in
      let here = insert_here k.words (r.first + r.pages) (length k.words) p.after x p.back (omega (arith, p.is_run.some)) in
      let same : taken_runs (r ∷ p.after) ≡ taken_runs p.after = rw (free_not_span r.mark.kind free) refl in
      let at : taken_runs qs ≡ insert_run x (taken_runs (r ∷ p.after)) = e ∙ here ∙ ap (insert_run x) (sym same) in
      insert_front k.words 0 r.first p.before (r ∷ p.after) qs x p.front (omega arith) at ∙ ap (λ (rs : List real.Run). insert_run x (taken_runs rs)) (sym p.parts)

  apart_to : (qs : List real.Run) → AreApart false qs → AreApart false (p.before ++ the_taken ∷ qs)
  apart_to qs a =
      let f = span_not_free m.kind m_is.kind in
      let both : (last_free false p.before && is_of_free m.kind) ≡ false = rw f (and_right_false (last_free false p.before)) in
      let b = apart in
      apart_append false p.before (the_taken ∷ qs) b.0 (both, subst (λ w. AreApart w qs) (sym f) a)

  -- all of the run is the_taken
  pub placed_whole : (new : List ℕ) → n ≡ r.pages → IsMarked k.words new the_taken → IsPlaced k.words new k.region.reserved r n m
  placed_whole new e i =
      let u = used in
      let run : IsRun new the_taken = i.run in
      record {
        runs = p.before ++ ((the_taken ∷ []) ++ p.after);
        same_length = i.same_length;
        tiled = changed k.words new k.region.reserved r.first (r.first + r.pages) p.before (the_taken ∷ []) p.after p.front p.back
            (refl, run, omega arith) i.same_length (λ page h. i.others page (ends page h)) u.0 (taken_used (omega arith), tt) u.1.1 (apart_to p.after (apart_weaker true p.after apart_after));
        taken = span_here (the_taken ∷ p.after) (rw m_is.kind refl);
      }
    where
      ends : (page : ℕ) → (page < r.first) ⊎ (r.first + r.pages ≤ page) → (page < r.first) ⊎ (r.first + n ≤ page)
      ends page (inl l) = inl l
      ends page (inr l) = inr (omega arith)

  -- some of it is left
  pub placed_part : (middle new : List ℕ) → n < r.pages → IsMarked k.words middle the_taken → IsMarked middle new left → IsPlaced k.words new k.region.reserved r n m
  placed_part middle new h i j =
      let u = used in
      let run : IsRun new the_taken = run_kept middle new the_taken (λ page x y. j.others page (inl (omega arith))) i.run in
      let rest : IsRun new left = j.run in
      record {
        runs = p.before ++ ((the_taken ∷ left ∷ []) ++ p.after);
        same_length = j.same_length ∙ i.same_length;
        tiled = changed k.words new k.region.reserved r.first (r.first + r.pages) p.before (the_taken ∷ left ∷ []) p.after p.front p.back
            (refl, run, (refl, rest, omega arith)) (j.same_length ∙ i.same_length) (λ page o. ends page o) u.0 (taken_used (omega arith), (left_used h, tt)) u.1.1 (apart_to (left ∷ p.after) (refl, apart_after));
        taken = span_here (the_taken ∷ left ∷ p.after) (rw m_is.kind refl);
      }
    where
      ends : (page : ℕ) → (page < r.first) ⊎ (r.first + r.pages ≤ page) → get_or new page 0 ≡ get_or k.words page 0
      ends page (inl l) = j.others page (inl (omega arith)) ∙ i.others page (inl l)
      ends page (inr l) = j.others page (inr (omega arith)) ∙ i.others page (inr (omega arith))
