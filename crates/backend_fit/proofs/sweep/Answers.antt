use Rattle.std.proofs.Common.{◌+◌, ◌<◌, length, arith, sym, refl, ◌∙◌}
use Rattle.page_region.specs.Held.{committed_of}
use Rattle.page_ranges.proofs.Runs.{Step, step_at}
use Rattle.backend_fit.specs.Pages.{Pages, pages_area}
use Rattle.backend_fit.proofs.Decommit.{IsSweep, sweep_begins, free_fits, over_other, over_free, count_small, swept_count}
use Rattle.backend_fit.proofs.sweep.Goals as goal
use Rattle.backend_fit.proofs.sweep.Goals.{then-is_free, else-is_free, After-run_at-run}

step : (c : After-run_at-run) → Step c.args.descs.now c.loop-page.page c.run_at-run.result
step c =
    let l : c.loop-page.page < length c.args.descs.now = omega arith in
    step_at c.args.descs.now c.loop-page.page c.run_at-run.result c.requires.whole c.loop-page.invariant.sweep.runs l c.run_at-run.ensures

pub loop-page-init : goal.loop-page-init
loop-page-init c =
    let k : Pages = record { region = c.args.region.now; words = c.args.descs.now } in
    record { sweep = sweep_begins k c.requires; reserved = refl; segments = refl; held = c.requires.held }

pub decommit-cleared-requires : goal.decommit-cleared-requires
decommit-cleared-requires c =
    let k : Pages = record { region = c.args.region.now; words = c.args.descs.now } in
    let s = step (goal.at.decommit-cleared-requires c).After-run_at-run in
    rw c.loop-page.invariant.reserved (free_fits c.args.descs.now (pages_area k) c.loop-page.page c.loop-page.cleared (committed_of c.loop-page.region) c.run_at-run.result c.loop-page.invariant.sweep s (sym c.is_free.ensures ∙ c.if-is_free.true) s.is_run.some)

pub overflow_add-cleared : goal.overflow_add-cleared
overflow_add-cleared c =
    let s = step (goal.at.overflow_add-cleared c).After-run_at-run in
    omega (arith, s.fits, c.loop-page.invariant.sweep.count, count_small, c.decommit-cleared.ensures.cleared)

pub overflow_add-page : goal.overflow_add-page
overflow_add-page c = let s = step (goal.at.overflow_add-page c).After-run_at-run in omega (arith, s.fits)

pub loop-page-smaller : goal.loop-page-smaller
loop-page-smaller c = let s = step (goal.at.loop-page-smaller c).After-run_at-run in omega (arith, s.is_run.some)

pub loop-page-preserved : goal.loop-page-preserved
loop-page-preserved c =
    let k : Pages = record { region = c.args.region.now; words = c.args.descs.now } in
    let s = step (goal.at.loop-page-preserved c).After-run_at-run in
    let a = pages_area k in
    let page = c.loop-page.page in
    let r = c.run_at-run.result in
    let w = c.loop-page.invariant.sweep in
    elim c.if-is_free.branch [
      | then-is_free b ↦
          let next = over_free c.args.descs.now a page c.loop-page.cleared (committed_of c.loop-page.region) r w s (sym c.is_free.ensures ∙ b.if-is_free.true) in
          let marks = b.decommit-cleared.ensures.marks in
          let sweep : IsSweep c.args.descs.now a (page + r.pages) (committed_of b.decommit-cleared.new.self) (c.loop-page.cleared + b.decommit-cleared.result) =
          rw (marks, b.decommit-cleared.ensures.cleared) next in
          rw (b.region-is, b.cleared-is) (record {
            sweep = sweep;
            reserved = b.decommit-cleared.ensures.reserved ∙ c.loop-page.invariant.reserved;
            segments = b.decommit-cleared.ensures.segments ∙ c.loop-page.invariant.segments;
            held = b.decommit-cleared.ensures.held;
          })
      | else-is_free b ↦
          let next = over_other c.args.descs.now a page c.loop-page.cleared (committed_of c.loop-page.region) r w s (sym c.is_free.ensures ∙ b.if-is_free.false) in
          rw (b.region-is, b.cleared-is) (record {
            sweep = next;
            reserved = c.loop-page.invariant.reserved;
            segments = c.loop-page.invariant.segments;
            held = c.loop-page.invariant.held;
          })
    ]

pub returns-clause-cleared : goal.returns-clause-cleared
returns-clause-cleared c =
    let k : Pages = record { region = c.args.region.now; words = c.args.descs.now } in
    swept_count k c.loop-page.page c.loop-page.cleared (committed_of c.loop-page.region) c.loop-page.invariant.sweep (omega arith)
