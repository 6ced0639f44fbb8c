use Rattle.std.proofs.Common.{◌≡◌, ℕ, ◌<◌, inl, List, [], ◌∷◌, length, refl, ap, ◌∙◌, arith, get_or}
use Rattle.std.proofs.lemmas.List.{length-replicate}
use Rattle.heap_model.specs.declared.Mark.{Mark}
use Rattle.page_region.specs.Held.{Held}
use Rattle.heap_model.specs.declared.Run.{Run}
use Rattle.page_ranges.specs.Words.{header_run}
use Rattle.page_ranges.specs.Ranges.{AreRuns, IsMarked, opened_runs}
use Rattle.heap_model.specs.Marks.{free_mark}
use Rattle.page_ranges.proofs.Runs.{run_kept, runs_only}
use Rattle.page_ranges.proofs.Marked.{whole_from}
use Rattle.vs_split.specs.Chunks.{Chunks}
use Rattle.layout_decode.proofs.Told.{tells_nothing}
use Rattle.layout_decode.proofs.tests.one_block.Goals as goal

abbrev block : Mark → Run
block m = record { first = 2; pages = 33; mark = m }

abbrev behind : Run
behind = record { first = 35; pages = 221; mark = free_mark }

abbrev all : Mark → List Run
all m = header_run 0 ∷ header_run 1 ∷ block m ∷ behind ∷ []

-- the words of a segment whose first 33 pages behind the header are marked
two_marked : (m : Mark) (opened middle new : List ℕ) → length new ≡ 256 → AreRuns opened 0 256 (opened_runs 0) → IsMarked opened middle (block m) → IsMarked middle new behind → AreRuns new 0 (length new) (all m)
two_marked m opened middle new len a i j =
    let header : (page : ℕ) → page < 2 → get_or new page 0 ≡ get_or opened page 0 = λ page l. j.others page (inl (omega arith)) ∙ i.others page (inl (omega arith)) in
    let zero_one = run_kept opened new (header_run 0) (λ page l h. header page (omega arith)) a.1 in
    let one_one = run_kept opened new (header_run 1) (λ page l h. header page (omega arith)) a.2.1 in
    let taken = run_kept middle new (block m) (λ page l h. j.others page (inl (omega arith))) i.run in
    let tile : AreRuns new 0 256 (all m) = (refl, zero_one, (refl, one_one, (refl, taken, (refl, j.run, refl)))) in
    rw len tile

pub mark-requires-2-clause-inside : goal.mark-requires-2-clause-inside
mark-requires-2-clause-inside c = record { behind = omega arith; below = omega arith; open_one = c.mark.ensures.same_open 0 ∙ c.open_segment.ensures.open_one }

pub returns : goal.returns
returns c =
    let words = c.mark-2.new.self in
    let v = c.in_ok-heads.heads in
    let len : length words ≡ 256 =
    c.mark-2.ensures.marked.same_length ∙ c.mark.ensures.marked.same_length ∙ c.open_segment.ensures.marked.same_length ∙ ap length c.in_ok-descs.ensures.words ∙ length-replicate {A = ℕ} 256 0 in
    let tile = two_marked _ c.open_segment.new.self c.mark.new.self words len c.open_segment.ensures.segment c.mark.ensures.marked c.mark-2.ensures.marked in
    let only = runs_only words 0 (all _) tile in
    record {
      readable = record {
        whole = whole_from words (all _) tile;
        rows = rw only (tt, (tt, (tt, (tt, tt))));
        told = tells_nothing v 11400714819323198527 65536 (ap (λ (x : Chunks). x.heads) c.in_ok-heads.ensures);
        subsegments = rw only (tt, (tt, (tt, (tt, tt))));
        fits = rw only (tt, (tt, (tt, (tt, tt))));
        words = c.in_ok-words.ensures;
        segments = ap (λ (h : Held). h.segments) c.in_ok-region.ensures;
        pages = len;
        large = c.in_ok-large.ensures.limits;
      };
    }
