use Rattle.std.proofs.Common.{◌<◌, unwrap_or, ℕ, length, arith, sym, ap, subst, ◌∙◌, Option, List}
use Rattle.heap_model.specs.Search.{first_of, is_span_of}
use Rattle.std.specs.Prelude.{filter}
use Rattle.page_ranges.specs.Words.{runs_of}
use Rattle.page_ranges.specs.Spans.{spans_in}
use Rattle.page_ranges.specs.Ranges.{IsWhole}
use Rattle.page_ranges.proofs.Runs.{Step, step_at}
use Rattle.lfh_spans.proofs.Lowest.{found, passed}
use Rattle.lfh_spans.proofs.search.lowest.Goals as goal
use Rattle.lfh_spans.proofs.search.lowest.Goals.{After-run_at-run}

step : (c : After-run_at-run) → Step c.descs-descs.result.now c.loop-page.page c.run_at-run.result
step c =
    let l : c.loop-page.page < length c.descs-descs.result.now = omega (arith, c.loop-page-test.true, c.pages-end.ensures.pages) in
    step_at c.descs-descs.result.now c.loop-page.page c.run_at-run.result (subst IsWhole (sym c.descs-descs.ensures.words) c.descs-descs.ensures.sound.whole) c.loop-page.invariant.above.runs l c.run_at-run.ensures

pub returns-then-is_of : goal.returns-then-is_of
returns-then-is_of c =
    let s = step (goal.at.returns-then-is_of c).After-run_at-run in
    let e = found c.descs-descs.result.now c.loop-page.page c.args.bucket c.args.slot c.run_at-run.result c.loop-page.invariant.above s (sym c.is_of.ensures ∙ c.if-is_of.true) in
    sym (ap (λ (ws : List ℕ). unwrap_or (first_of (filter (is_span_of c.args.bucket c.args.slot) (spans_in (runs_of ws)))) 0) (sym c.descs-descs.ensures.words) ∙ ap (λ (o : Option ℕ). unwrap_or o 0) e)

pub overflow_add-page : goal.overflow_add-page
overflow_add-page c = let s = step (goal.at.overflow_add-page c).After-run_at-run in omega (arith, s.fits, c.pages-end.ensures.pages)

pub loop-page-smaller : goal.loop-page-smaller
loop-page-smaller c = let s = step (goal.at.loop-page-smaller c).After-run_at-run in omega (arith, s.is_run.some, c.loop-page-test.true)

pub loop-page-preserved : goal.loop-page-preserved
loop-page-preserved c =
    let s = step (goal.at.loop-page-preserved c).After-run_at-run in
    record { above = passed c.descs-descs.result.now c.loop-page.page c.args.bucket c.args.slot c.run_at-run.result c.loop-page.invariant.above s (sym c.is_of.ensures ∙ c.if-is_of.false) }
