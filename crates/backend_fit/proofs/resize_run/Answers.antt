use Rattle.std.proofs.Common.{◌≡◌, ◌+◌, ◌-◌, inl, inr, arith, refl, subst}
use Rattle.backend_fit.specs.Pages.{Pages}
use Rattle.heap_model.specs.declared.Mark.{Mark}
use Rattle.heap_model.specs.Marks.{back_mark}
use Rattle.backend_fit.proofs.Resized.{end_reserved, IsResized, resized, resized_sound, resized_area, resized_taken, span_in, found_run, same_span, block_mark_is}
use Rattle.backend_fit.proofs.Freed.{parts}
use Rattle.backend_fit.proofs.Segment.{rest_in}
use Rattle.page_ranges.specs.Ranges.{IsInSegment, IsMarked}
use Rattle.backend_fit.proofs.resize_run.Goals as goal
use Rattle.backend_fit.proofs.resize_run.Goals.{then-rest-end, else-rest-end, After-commit}

pub mark-requires-clause-inside : goal.mark-requires-clause-inside
mark-requires-clause-inside c =
    let k : Pages = record { region = c.args.region.now; words = c.args.descs.now } in
    span_in k c.args.run c.requires.sound c.requires.span c.args.n c.args.end c.requires.end c.requires.some c.requires.within

pub mark-requires-then-rest-end-clause-inside : goal.mark-requires-then-rest-end-clause-inside
mark-requires-then-rest-end-clause-inside c =
    let k : Pages = record { region = c.args.region.now; words = c.args.descs.now } in
    let first = c.args.run.first in
    let whole = span_in k c.args.run c.requires.sound c.requires.span (c.args.end - first) c.args.end c.requires.end (omega arith) (omega arith) in
    let rest = rest_in c.args.descs.now c.mark.new.self first c.args.n (c.args.end - first) whole (omega arith) c.mark.ensures.same_open in
    let e : c.args.end - first - c.args.n ≡ c.args.end - (first + c.args.n) = omega arith in
    subst (λ x. IsInSegment c.mark.new.self (first + c.args.n) x) e rest

pub commit-requires : goal.commit-requires
commit-requires c =
    let k : Pages = record { region = c.args.region.now; words = c.args.descs.now } in
    omega (arith, end_reserved k c.args.run c.requires.sound c.requires.span)

is_resized : (c : After-commit) → IsResized c.args.descs.now c.if-rest-end.descs c.args.region.now.reserved c.args.run.first c.args.n (back_mark c.args.unused)
is_resized c =
    let k : Pages = record { region = c.args.region.now; words = c.args.descs.now } in
    resized k c.args.run c.requires.sound c.requires.span c.mark.new.self c.if-rest-end.descs c.args.end c.args.n (back_mark c.args.unused) c.requires.end c.requires.some c.requires.within (block_mark_is c.args.unused)
    (subst (λ (m : Mark). IsMarked c.args.descs.now c.mark.new.self (record { first = c.args.run.first; pages = c.args.n; mark = m })) c.back.ensures c.mark.ensures.marked)
    (elim c.if-rest-end.branch [
      | then-rest-end w ↦ inr (w.if-rest-end.true, rw w.descs-is w.mark-then-rest-end.ensures.marked)
      | else-rest-end w ↦ inl (w.if-rest-end.false, w.descs-is)
    ])

pub returns-clause-area : goal.returns-clause-area
returns-clause-area c =
    let k : Pages = record { region = c.args.region.now; words = c.args.descs.now } in
    let i = c.requires.span in
    let p = parts k c.args.run c.requires.sound i in
    resized_area k c.commit.new.self c.if-rest-end.descs c.args.run.first c.args.n (back_mark c.args.unused) c.requires.sound (is_resized (goal.at.returns-clause-area c).After-commit) c.commit.ensures.held c.commit.ensures.reserved c.commit.ensures.segments
    c.args.run (found_run k c.args.run c.requires.sound i) (rw c.requires.kind refl) (same_span k.words c.args.run c.args.n c.args.unused p.is_run c.requires.kind) c.commit.ensures.marks

pub returns-clause-marks : goal.returns-clause-marks
returns-clause-marks c =
    let k : Pages = record { region = c.args.region.now; words = c.args.descs.now } in
    resized_taken k c.commit.new.self c.if-rest-end.descs c.args.run.first c.args.n (back_mark c.args.unused) c.requires.sound (is_resized (goal.at.returns-clause-marks c).After-commit) c.commit.ensures.held c.commit.ensures.reserved c.commit.ensures.segments

pub returns-clause-sound : goal.returns-clause-sound
returns-clause-sound c =
    let k : Pages = record { region = c.args.region.now; words = c.args.descs.now } in
    resized_sound k c.commit.new.self c.if-rest-end.descs c.args.run.first c.args.n (back_mark c.args.unused) c.requires.sound (is_resized (goal.at.returns-clause-sound c).After-commit) c.commit.ensures.held c.commit.ensures.reserved c.commit.ensures.segments
