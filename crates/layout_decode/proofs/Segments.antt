-- The words of a segment where pages were marked one run behind the other.
use Rattle.std.proofs.Common.{◌≡◌, ℕ, ◌+◌, ◌-◌, ◌<◌, ◌≤◌, inl, List, [], ◌∷◌, length, refl, ◌∙◌, arith, get_or}
use Rattle.heap_model.specs.declared.Mark.{Mark}
use Rattle.heap_model.specs.declared.Run.{Run}
use Rattle.page_ranges.specs.Words.{header_run, runs_of}
use Rattle.page_ranges.specs.Ranges.{AreRuns, IsMarked, IsWhole, opened_runs}
use Rattle.heap_model.specs.Marks.{free_mark}
use Rattle.page_ranges.proofs.Runs.{run_kept, runs_only}
use Rattle.page_ranges.proofs.Marked.{whole_from}

-- two runs of so many pages behind the header, and the rest, which is free
module _ (m n : Mark) (p q : ℕ) where
  abbrev pub first_run : Run
  first_run = record { first = 2; pages = p; mark = m }

  abbrev pub second_run : Run
  second_run = record { first = 2 + p; pages = q; mark = n }

  abbrev pub rest_run : Run
  rest_run = record { first = 2 + p + q; pages = 254 - (p + q); mark = free_mark }

  abbrev pub two_runs : List Run
  two_runs = header_run 0 ∷ header_run 1 ∷ first_run ∷ second_run ∷ rest_run ∷ []

  pub record AreOfTwo (words : List ℕ) : Type 0 where
    pub whole : IsWhole words
    pub runs : runs_of words ≡ two_runs

  pub marked : (opened first second new : List ℕ) → p + q ≤ 254 → length new ≡ 256 → AreRuns opened 0 256 (opened_runs 0) → IsMarked opened first first_run → IsMarked first second second_run → IsMarked second new rest_run → AreOfTwo new
  marked opened first second new fit len a i j k = record { whole = whole_from new two_runs all; runs = runs_only new 0 two_runs all }
    where
      header : (page : ℕ) → page < 2 → get_or new page 0 ≡ get_or opened page 0
      header page l = k.others page (inl (omega arith)) ∙ j.others page (inl (omega arith)) ∙ i.others page (inl (omega arith))

      all : AreRuns new 0 (length new) two_runs
      all =
          let zero_one = run_kept opened new (header_run 0) (λ page l h. header page (omega arith)) a.1 in
          let one_one = run_kept opened new (header_run 1) (λ page l h. header page (omega arith)) a.2.1 in
          let tiled = run_kept first new first_run (λ page l h. k.others page (inl (omega arith)) ∙ j.others page (inl (omega arith))) i.run in
          let taken = run_kept second new second_run (λ page l h. k.others page (inl (omega arith))) j.run in
          (refl, zero_one, (refl, one_one, (refl, tiled, (refl, taken, (refl, k.run, omega arith)))))
