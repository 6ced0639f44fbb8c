use Rattle.std.proofs.Common.{◌≡◌, ◌*◌, ℕ, length, sym, ap, ◌∙◌, arith}
use Rattle.std.proofs.lemmas.List.{length-replicate}
use Rattle.page_region.specs.Held.{Held}
use Rattle.heap_model.specs.declared.Limits.{Limits}
use Rattle.large_blocks.specs.Table.{LargeTable}
use Rattle.vs_split.specs.Chunks.{Chunks, head_at}
use Rattle.vs_split.proofs.TileLemmas.{none_or_some}
use Rattle.vs_split.proofs.TiledLemmas.{none_at}
use Rattle.layout_decode.specs.declared.tests.TheConstants.{ONE_SEGMENT}
use Rattle.layout_decode.proofs.Told.{opened_tells}
use Rattle.layout_decode.proofs.Segments.{marked}
use Rattle.layout_decode.proofs.tests.four_blocks.Goals as goal

pub open_span-requires-clause-clear : goal.open_span-requires-clause-clear
open_span-requires-clause-clear g c = λ k h is.
    absurd (none_or_some (head_at c.in_ok-heads.heads k) h (none_at c.in_ok-heads.heads 65536 (ap (λ (v : Chunks). v.heads) c.in_ok-heads.ensures) k) is)

pub mark-requires-2-clause-inside : goal.mark-requires-2-clause-inside
mark-requires-2-clause-inside g c = record { behind = omega arith; below = omega arith; open_one = c.mark.ensures.same_open 0 ∙ c.open_segment.ensures.open_one }

pub mark-requires-3-clause-inside : goal.mark-requires-3-clause-inside
mark-requires-3-clause-inside g c =
    record { behind = omega arith; below = omega arith; open_one = c.mark-2.ensures.same_open 0 ∙ c.mark.ensures.same_open 0 ∙ c.open_segment.ensures.open_one }

pub could_cut-requires-clause-told : goal.could_cut-requires-clause-told
could_cut-requires-clause-told g c =
    opened_tells c.in_ok-heads.heads c.open_span.new.self 11400714819323198527 65536 515 4093 (ap (λ (x : Chunks). x.heads) c.in_ok-heads.ensures) (ap (λ (x : Chunks). x.key) c.in_ok-heads.ensures) (omega arith) c.open_span.ensures

pub returns : goal.returns
returns g c =
    let image = c.could_cut-4.new.image in
    let words = c.mark-3.new.self in
    let same : image.descs ≡ words = c.could_cut-4.ensures.descs ∙ c.could_cut-3.ensures.descs ∙ c.could_cut-2.ensures.descs ∙ c.could_cut.ensures.descs in
    let limits : image.limits ≡ ONE_SEGMENT = c.could_cut-4.ensures.limits ∙ c.could_cut-3.ensures.limits ∙ c.could_cut-2.ensures.limits ∙ c.could_cut.ensures.limits in
    let region : image.region ≡ c.in_ok-region.region = c.could_cut-4.ensures.region ∙ c.could_cut-3.ensures.region ∙ c.could_cut-2.ensures.region ∙ c.could_cut.ensures.region in
    let large : image.large ≡ c.in_ok-large.large = c.could_cut-4.ensures.large ∙ c.could_cut-3.ensures.large ∙ c.could_cut-2.ensures.large ∙ c.could_cut.ensures.large in
    let table : image.words ≡ c.in_ok-words.words = c.could_cut-4.ensures.words ∙ c.could_cut-3.ensures.words ∙ c.could_cut-2.ensures.words ∙ c.could_cut.ensures.words in
    let len : length words ≡ 256 =
    c.mark-3.ensures.marked.same_length ∙ c.mark-2.ensures.marked.same_length ∙ c.mark.ensures.marked.same_length ∙ c.open_segment.ensures.marked.same_length ∙ ap length c.in_ok-descs.ensures.words ∙ length-replicate {A = ℕ} 256 0 in
    let two = marked _ _ 16 33 c.open_segment.new.self c.mark.new.self c.mark-2.new.self words (omega arith) len c.open_segment.ensures.segment c.mark.ensures.marked c.mark-2.ensures.marked c.mark-3.ensures.marked in
    let runs = two.runs in
    let row = c.is_row.ensures (cc) in
    record {
      readable = record {
        whole = rw same two.whole;
        rows = rw (same, runs) (tt, (tt, (row, (tt, (tt, tt)))));
        told = c.could_cut-4.ensures.told;
        subsegments = rw (same, runs) (tt, (tt, (tt, (tt, (tt, tt)))));
        fits = rw (same, runs) (tt, (tt, (tt, (tt, (tt, tt)))));
        words = rw (limits, table) c.in_ok-words.ensures;
        segments = ap (λ (h : Held). h.segments) (region ∙ c.in_ok-region.ensures) ∙ sym (ap (λ (l : Limits). l.segments) limits);
        pages = ap length same ∙ len ∙ sym (ap (λ (l : Limits). 256 * l.segments) limits);
        large = ap (λ (t : LargeTable). t.limits) large ∙ c.in_ok-large.ensures.limits ∙ sym limits;
      };
    }
