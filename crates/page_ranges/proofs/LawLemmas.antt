-- What a mark makes of the runs.
use Rattle.std.proofs.Common.{◌≡◌, ℕ, ◌+◌, ◌-◌, ◌<◌, inl, inr, ap, ◌∙◌, arith, subst, List, [], ◌∷◌, ◌++◌, length, Some, zero-add}
use Rattle.std.proofs.lemmas.List.Sums.{sum_by-cons}
use Rattle.heap_model.specs.declared.Run.{Run}
use Rattle.page_ranges.specs.Words.{run_of_page, runs_of}
use Rattle.page_ranges.specs.Ranges.{AreRuns}
use Rattle.page_ranges.specs.Laws.{MarkedRunIsReadBack, MarkLeavesOtherRuns, MarkReplacesRuns, MarksReplaceRuns, FoundRunStandsAmong, RunsAreReadInOrder, pages_in}
use Rattle.page_ranges.proofs.Runs.{runs_only, page_tells, finds_run, runs_le, run_kept, runs_kept, runs_append, parts_of}
use Rattle.page_ranges.proofs.Marked.{whole_from}

pub read_back : MarkedRunIsReadBack
read_back old new r page m w low high inside =
    let e : page ≡ r.first + (page - r.first) = omega arith in
    let tells : run_of_page new page ≡ r = rw e (page_tells new r (page - r.first) m.run (omega arith)) in
    finds_run new page w inside ∙ ap Some tells

pub left : MarkLeavesOtherRuns
left old new r q m apart i = run_kept old new q (λ page low high. m.others page (elim apart [ inl a ↦ inl (omega arith) | inr a ↦ inr (omega arith) ])) i

---- The pages of runs that follow each other

ends_behind : (words : List ℕ) (from to : ℕ) (rs : List Run) → AreRuns words from to rs → to ≡ from + pages_in rs
ends_behind words from to [] a = omega (arith, a)
ends_behind words from to (r ∷ rs) a = let e = ends_behind words (from + r.pages) to rs a.2 in omega (arith, sum_by-cons (λ (q : Run). q.pages) r rs)

-- two rows of runs, one behind the other
pub record AreTwoRows (words : List ℕ) (from to : ℕ) (xs ys : List Run) : Type 0 where
  pub front : AreRuns words from (from + pages_in xs) xs
  pub back : AreRuns words (from + pages_in xs) to ys

two_rows : (words : List ℕ) (from to : ℕ) (xs ys : List Run) → AreRuns words from to (xs ++ ys) → AreTwoRows words from to xs ys
two_rows words from to [] ys a = let e : from ≡ from + pages_in [] = omega arith in record { front = e; back = subst (λ n. AreRuns words n to ys) e a }
two_rows words from to (x ∷ xs) ys a =
    let e : from + x.pages + pages_in xs ≡ from + pages_in (x ∷ xs) = omega (arith, sum_by-cons (λ (q : Run). q.pages) x xs) in
    let rest = two_rows words (from + x.pages) to xs ys a.2 in
    record {
      front = (a.0, a.1, subst (λ n. AreRuns words (from + x.pages) n xs) e rest.front);
      back = subst (λ n. AreRuns words n to ys) e rest.back;
    }

-- .. from page 0 on
rows_of : (words : List ℕ) (to : ℕ) (xs ys : List Run) → AreRuns words 0 to (xs ++ ys) → AreRuns words 0 (pages_in xs) xs × AreRuns words (pages_in xs) to ys
rows_of words to xs ys a =
    let rows = two_rows words 0 to xs ys a in
    let e = zero-add (pages_in xs) in
    (subst (λ n. AreRuns words 0 n xs) e rows.front, subst (λ n. AreRuns words n to ys) e rows.back)

---- Runs that take the place of others

pub replaced : MarksReplaceRuns
replaced old new before middle after rs w e same outside marked =
    let low = pages_in before in
    let high = low + pages_in middle in
    let whole : AreRuns old 0 (length old) (before ++ (middle ++ after)) = subst (AreRuns old 0 (length old)) e w in
    let first = rows_of old (length old) before (middle ++ after) whole in
    let second = two_rows old low (length old) middle after first.1 in
    let front = runs_kept old new 0 low before (λ page l h. outside page (inl h)) first.0 in
    let back = runs_kept old new high (length old) after (λ page l h. outside page (inr l)) second.back in
    let behind : AreRuns new high (length new) after = rw same back in
    let all = runs_append new 0 low (length new) before (rs ++ after) front (runs_append new low high (length new) rs after marked behind) in
    (whole_from new (before ++ (rs ++ after)) all, runs_only new 0 (before ++ (rs ++ after)) all)

pub replaced_by_one : MarkReplacesRuns
replaced_by_one old new before middle after r w e first pages m =
    let low = pages_in before in
    let high = low + pages_in middle in
    replaced old new before middle after (r ∷ []) w e m.same_length
    (λ page o. m.others page (elim o [ inl l ↦ inl (omega arith) | inr l ↦ inr (omega arith) ]))
    (first, m.run, omega arith)

---- Runs that are found

pub stands_among : FoundRunStandsAmong
stands_among words test r w f =
    let p = parts_of words 0 (length words) (runs_of words) test r w f in
    record {
      before = p.before;
      after = p.after;
      parts = p.parts;
      first = ends_behind words 0 r.first p.before p.front ∙ zero-add (pages_in p.before);
      is_run = p.is_run;
    }

pub read_in_order : RunsAreReadInOrder
read_in_order words before after r w e =
    let page = pages_in before in
    let whole : AreRuns words 0 (length words) (before ++ r ∷ after) = subst (AreRuns words 0 (length words)) e w in
    let back = (rows_of words (length words) before (r ∷ after) whole).1 in
    let inside : page < length words = omega (arith, back.1.some, runs_le words (page + r.pages) (length words) after back.2) in
    let z : r.first + 0 ≡ page = omega (arith, back.0) in
    let tells : run_of_page words page ≡ r = subst (λ n. run_of_page words n ≡ r) z (page_tells words r 0 back.1 back.1.some) in
    finds_run words page w inside ∙ ap Some tells
