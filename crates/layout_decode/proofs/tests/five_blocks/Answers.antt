use Rattle.std.proofs.Common.{◌≡◌, ℕ, length, refl, ap, ◌∙◌, arith}
use Rattle.std.proofs.lemmas.List.{length-replicate}
use Rattle.page_region.specs.Held.{Held}
use Rattle.heap_model.specs.declared.Kind.TheVariants as kinds
use Rattle.heap_model.specs.declared.Limits.{Limits}
use Rattle.heap_model.specs.declared.Run.{Run}
use Rattle.vs_split.specs.Chunks.{Chunks}
use Rattle.layout_decode.specs.declared.Image.{Image}
use Rattle.layout_decode.specs.declared.tests.TheConstants.{ONE_SEGMENT}
use Rattle.layout_decode.specs.Decode.{IsOfBucket}
use Rattle.layout_decode.proofs.Told.{tells_nothing}
use Rattle.layout_decode.proofs.Segments.{marked}
use Rattle.layout_decode.proofs.SubsegmentLemmas.{fit_small}
use Rattle.layout_decode.proofs.tests.five_blocks.Goals as goal

abbrev run : Run
run = record { first = 2; pages = 1; mark = record { kind = kinds.Lfh; bucket = 2; slot = 0; unused = 0 } }

subsegment : (l : Limits) → l.segments ≡ 1 → IsOfBucket l run
subsegment l e = record { bucket = (omega arith, omega arith); pages = refl; inside = omega arith }

pub mark-requires-2-clause-inside : goal.mark-requires-2-clause-inside
mark-requires-2-clause-inside g c = record { behind = omega arith; below = omega arith; open_one = c.mark.ensures.same_open 0 ∙ c.open_segment.ensures.open_one }

pub mark-requires-3-clause-inside : goal.mark-requires-3-clause-inside
mark-requires-3-clause-inside g c =
    record { behind = omega arith; below = omega arith; open_one = c.mark-2.ensures.same_open 0 ∙ c.mark.ensures.same_open 0 ∙ c.open_segment.ensures.open_one }

pub returns : goal.returns
returns g c =
    let words = c.mark-3.new.self in
    let v = c.in_ok-heads.heads in
    let len : length words ≡ 256 =
    c.mark-3.ensures.marked.same_length ∙ c.mark-2.ensures.marked.same_length ∙ c.mark.ensures.marked.same_length ∙ c.open_segment.ensures.marked.same_length ∙ ap length c.in_ok-descs.ensures.words ∙ length-replicate {A = ℕ} 256 0 in
    let two = marked _ _ 1 33 c.open_segment.new.self c.mark.new.self c.mark-2.new.self words (omega arith) len c.open_segment.ensures.segment c.mark.ensures.marked c.mark-2.ensures.marked c.mark-3.ensures.marked in
    let runs = two.runs in
    let image : Image = record { limits = ONE_SEGMENT; region = c.in_ok-region.region; descs = words; key = 11400714819323198527; heads = v; large = c.in_ok-large.large; words = c.in_ok-words.words } in
    let fits = fit_small image run (subsegment image.limits refl) (c.are_small.ensures (cc)) in
    record {
      readable = record {
        whole = two.whole;
        rows = rw runs (tt, (tt, (tt, (tt, (tt, tt)))));
        told = tells_nothing v 11400714819323198527 65536 (ap (λ (x : Chunks). x.heads) c.in_ok-heads.ensures);
        subsegments = rw runs (tt, (tt, (subsegment image.limits refl, (tt, (tt, tt)))));
        fits = rw runs (tt, (tt, (fits, (tt, (tt, tt)))));
        words = c.in_ok-words.ensures;
        segments = ap (λ (h : Held). h.segments) c.in_ok-region.ensures;
        pages = len;
        large = c.in_ok-large.ensures.limits;
      };
    }
