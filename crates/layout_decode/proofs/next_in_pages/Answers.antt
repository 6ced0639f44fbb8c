use Rattle.std.proofs.Common.{◌≡◌, ℕ, ◌/◌, None, sym, ap, ◌∙◌, arith}
use Rattle.std.specs.List.{find}
use Rattle.page_ranges.specs.Words.{runs_of}
use Rattle.page_ranges.specs.Ranges.{begins_from}
use Rattle.layout_decode.specs.Decode.{is_at_or_after}
use Rattle.layout_decode.proofs.Images.{next, run_is, none_next, none_beyond, starts_at, none_past, found_here, found_behind}
use Rattle.layout_decode.proofs.next_in_pages.Goals as goal

pub returns-then-at-from : goal.returns-then-at-from
returns-then-at-from c =
    sym (none_past c.args.image.now c.requires c.tiled.ensures c.args.from (omega (arith, c.if-at-from.true, c.from.ensures, c.pages-end.ensures.pages)))

pub loop-page-init : goal.loop-page-init
loop-page-init c = starts_at c.args.image.now c.requires c.tiled.ensures c.args.from (c.args.from / 4096) c.run_at-page.result (omega arith) c.run_at-page.ensures

pub returns-in_err-run : goal.returns-in_err-run
returns-in_err-run c =
    let image = c.args.image.now in
    let page : ℕ = c.loop-page.page in
    let none : find (begins_from page) (runs_of image.descs) ≡ None = sym c.next_run.ensures ∙ c.in_err-run.was in
    c.from_residual.ensures ∙ sym (ap (find (is_at_or_after c.args.from)) (none_next image c.requires c.tiled.ensures page none)) ∙ c.loop-page.invariant

pub next_in-requires-clause-chunks : goal.next_in-requires-clause-chunks
next_in-requires-clause-chunks c =
    (run_is c.args.image.now c.requires c.tiled.ensures c.loop-page.page c.in_ok-run.run' (sym c.next_run.ensures ∙ c.in_ok-run.was)).chunks

pub next_in-requires-clause-subsegment : goal.next_in-requires-clause-subsegment
next_in-requires-clause-subsegment c =
    (run_is c.args.image.now c.requires c.tiled.ensures c.loop-page.page c.in_ok-run.run' (sym c.next_run.ensures ∙ c.in_ok-run.was)).subsegment

pub next_in-requires-clause-inside : goal.next_in-requires-clause-inside
next_in-requires-clause-inside c =
    let s = next c.args.image.now c.requires c.tiled.ensures c.loop-page.page c.in_ok-run.run' (sym c.next_run.ensures ∙ c.in_ok-run.was) in
    omega (arith, s.below, c.pages-end.ensures.headered.few)

pub returns-in-Some : goal.returns-in-Some
returns-in-Some c =
    sym (found_here c.args.image.now c.requires c.tiled.ensures c.args.from c.loop-page.page c.in_ok-run.run' c.in-Some.block (sym c.next_run.ensures ∙ c.in_ok-run.was) (sym c.next_in.ensures ∙ c.in-Some.is))
    ∙ c.loop-page.invariant

pub overflow_add-page : goal.overflow_add-page
overflow_add-page c =
    let s = next c.args.image.now c.requires c.tiled.ensures c.loop-page.page c.in_ok-run.run' (sym c.next_run.ensures ∙ c.in_ok-run.was) in
    omega (arith, s.below, c.pages-end.ensures.headered.few)

pub loop-page-smaller : goal.loop-page-smaller
loop-page-smaller c =
    let s = next c.args.image.now c.requires c.tiled.ensures c.loop-page.page c.in_ok-run.run' (sym c.next_run.ensures ∙ c.in_ok-run.was) in
    omega (arith, s.below, s.above, s.some, c.pages-end.ensures.pages)

pub loop-page-preserved : goal.loop-page-preserved
loop-page-preserved c =
    sym (found_behind c.args.image.now c.requires c.tiled.ensures c.args.from c.loop-page.page c.in_ok-run.run' (sym c.next_run.ensures ∙ c.in_ok-run.was) (sym c.next_in.ensures ∙ c.in_default.is))
    ∙ c.loop-page.invariant

pub returns : goal.returns
returns c =
    let image = c.args.image.now in
    sym (ap (find (is_at_or_after c.args.from)) (none_beyond image c.requires c.tiled.ensures c.loop-page.page (omega (arith, c.pages-end.ensures.pages, c.loop-page-test.false)))) ∙ c.loop-page.invariant
