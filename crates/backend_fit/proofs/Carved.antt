-- A span at the front of pages that may be used, and a free run behind it.
use Rattle.std.proofs.Common.{◌≡◌, ℕ, ◌+◌, ◌-◌, ◌<◌, ◌≤◌, ◌⊎◌, inl, inr, true, false, ◌&&◌, refl, ◌∙◌, sym, arith, subst, List, [], ◌∷◌, ◌++◌, length, get_or}
use Rattle.std.specs.List.{AllByRecursion}
use Rattle.heap_model.specs.declared.Mark.{Mark}
use Rattle.heap_model.specs.declared.Run as real
use Rattle.page_ranges.specs.Ranges.{AreRuns, IsRun, IsMarked}
use Rattle.heap_model.specs.Marks.{free_mark}
use Rattle.page_ranges.proofs.Runs.{run_kept, and_right_false}
use Rattle.page_ranges.proofs.Blocks.{taken_append}
use Rattle.page_ranges.specs.Spans.{is_of_free, taken_runs, is_usable_in, IsUsed, AreApart}
use Rattle.backend_fit.specs.Effects.{marked_run}
use Rattle.backend_fit.specs.Sound.{IsSpanMark}
use Rattle.backend_fit.proofs.Tiled.{last_free, apart_append, apart_weaker, Tiled, changed}
use Rattle.backend_fit.proofs.KindLemmas.{span_not_header, span_not_free}

-- The runs beside the pages from first to stop.
pub record IsBeside (words : List ℕ) (reserved first stop : ℕ) (before after : List real.Run) : Type 0 where
  pub front : AreRuns words 0 first before
  pub back : AreRuns words stop (length words) after
  pub used_before : AllByRecursion (IsUsed reserved) before
  pub used_after : AllByRecursion (IsUsed reserved) after
  pub apart_before : AreApart false before
  pub apart_after : AreApart true after
  pub usable : (page : ℕ) → first ≤ page → page < stop → is_usable_in reserved page ≡ true
  pub few : stop ≤ 4096

pub record IsCarved (old new : List ℕ) (reserved first n : ℕ) (m : Mark) (before after : List real.Run) : Type 0 where
  pub runs : List real.Run
  pub same_length : length new ≡ length old
  pub tiled : Tiled new reserved runs
  pub taken : taken_runs runs ≡ taken_runs before ++ marked_run first n m ∷ taken_runs after

module _ (old : List ℕ) (reserved first stop n : ℕ) (m : Mark) (before after : List real.Run) (b : IsBeside old reserved first stop before after) (some : 0 < n) (fits : first + n ≤ stop) (m_is : IsSpanMark m) where
  abbrev the_taken : real.Run
  the_taken = record { first = first; pages = n; mark = m }

  abbrev left : real.Run
  left = record { first = first + n; pages = stop - (first + n); mark = free_mark }

  taken_used : IsUsed reserved the_taken
  taken_used j l = b.usable (first + j) (omega arith) (omega arith) ∙ rw (span_not_header m.kind m_is.kind) refl

  left_used : IsUsed reserved left
  left_used j l = b.usable (first + n + j) (omega arith) (omega arith)

  apart_to : (qs : List real.Run) → AreApart false qs → AreApart false (before ++ the_taken ∷ qs)
  apart_to qs a =
      let f = span_not_free m.kind m_is.kind in
      let both : (last_free false before && is_of_free m.kind) ≡ false = rw f (and_right_false (last_free false before)) in
      apart_append false before (the_taken ∷ qs) b.apart_before (both, subst (λ w. AreApart w qs) (sym f) a)

  carved_whole : (new : List ℕ) → stop ≡ first + n → IsMarked old new the_taken → IsCarved old new reserved first n m before after
  carved_whole new e i =
      let few = b.few in
      let run : IsRun new the_taken = i.run in
      record {
        runs = before ++ ((the_taken ∷ []) ++ after);
        same_length = i.same_length;
        tiled = changed old new reserved first stop before (the_taken ∷ []) after b.front b.back (refl, run, sym e) i.same_length (λ page h. i.others page (rw (sym e) h))
            b.used_before (taken_used, tt) b.used_after (apart_to after (apart_weaker true after b.apart_after));
        taken = taken_append before (the_taken ∷ after) ∙ rw m_is.kind refl;
      }

  carved_part : (middle new : List ℕ) → first + n < stop → IsMarked old middle the_taken → IsMarked middle new left → IsCarved old new reserved first n m before after
  carved_part middle new h i j =
      let few = b.few in
      let run : IsRun new the_taken = run_kept middle new the_taken (λ page x y. j.others page (inl (omega arith))) i.run in
      let rest : IsRun new left = j.run in
      record {
        runs = before ++ ((the_taken ∷ left ∷ []) ++ after);
        same_length = j.same_length ∙ i.same_length;
        tiled = changed old new reserved first stop before (the_taken ∷ left ∷ []) after b.front b.back (refl, run, (refl, rest, omega arith)) (j.same_length ∙ i.same_length) (λ page o. ends page o)
            b.used_before (taken_used, (left_used, tt)) b.used_after (apart_to (left ∷ after) (refl, b.apart_after));
        taken = taken_append before (the_taken ∷ left ∷ after) ∙ rw m_is.kind refl;
      }
    where
      ends : (page : ℕ) → (page < first) ⊎ (stop ≤ page) → get_or new page 0 ≡ get_or old page 0
      ends page (inl l) = j.others page (inl (omega arith)) ∙ i.others page (inl l)
      ends page (inr l) = j.others page (inr (omega arith)) ∙ i.others page (inr (omega arith))

  pub carved : (middle new : List ℕ) → IsMarked old middle the_taken → ((stop ≤ first + n) × (new ≡ middle)) ⊎ ((first + n < stop) × IsMarked middle new left) → IsCarved old new reserved first n m before after
  carved middle new i (inl h) = carved_whole new (omega (arith, h.0)) (rw h.1 i)
  carved middle new i (inr h) = carved_part middle new h.0 i h.1
