use Rattle.std.proofs.Common.{◌≡◌, ◌∙◌, [], ap, sym, arith, List, option_map}
use Rattle.heap_model.specs.Runs.{Run, fitting, least}
use Rattle.heap_model.specs.Backend.{is_better, free_runs}
use Rattle.page_ranges.specs.Words.{runs_of}
use Rattle.page_ranges.specs.Spans.{frees_in}
use Rattle.backend_fit.specs.Pages.{Pages, pages_area}
use Rattle.backend_fit.specs.Best.{run_in}
use Rattle.backend_fit.proofs.Segment.{frees_of}
use Rattle.backend_fit.proofs.Starts.{none_fits, IsNext, next_inside, behind_none}
use Rattle.backend_fit.proofs.Better.{candidate_later}
use Rattle.backend_fit.proofs.BestFit.{search_goes_on, search_ends}
use Rattle.backend_fit.proofs.search.best_fit.Goals as goal
use Rattle.backend_fit.proofs.search.best_fit.Goals.{In-Some, In_default}

next : (c : In-Some) → IsNext c.args.descs.now c.loop-run.from c.in-Some.run'
next c = next_inside c.args.descs.now c.loop-run.from c.in-Some.run' c.requires.whole (sym c.in-Some.ensures)

pub returns-then-n-longest : goal.returns-then-n-longest
returns-then-n-longest c =
    let k : Pages = record { region = c.args.region.now; words = c.args.descs.now } in
    let none : fitting c.args.n (free_runs (pages_area k)) ≡ [] =
    ap (fitting c.args.n) (frees_of k c.requires) ∙ none_fits c.longest.result c.args.n (frees_in (runs_of c.args.descs.now)) c.if-n-longest.true c.longest.ensures in
    sym (ap (least (is_better (pages_area k))) none)

pub better_of-best-requires-clause-run : goal.better_of-best-requires-clause-run
better_of-best-requires-clause-run c = let s = next (goal.at.better_of-best-requires-clause-run c).In-Some in omega (arith, s.inside)

pub better_of-best-requires-clause-best : goal.better_of-best-requires-clause-best
better_of-best-requires-clause-best c =
    let s = next (goal.at.better_of-best-requires-clause-best c).In-Some in
    candidate_later c.args.region.now c.loop-run.from c.in-Some.run'.first c.loop-run.best s.low c.loop-run.invariant.candidate

pub overflow_add-from : goal.overflow_add-from
overflow_add-from c = let s = next (goal.at.overflow_add-from c).In-Some in omega (arith, s.inside, s.some)

pub loop-run-smaller : goal.loop-run-smaller
loop-run-smaller c = let s = next (goal.at.loop-run-smaller c).In-Some in omega (arith, s.inside, s.some, s.low)

pub loop-run-preserved : goal.loop-run-preserved
loop-run-preserved c =
    let k : Pages = record { region = c.args.region.now; words = c.args.descs.now } in
    record {
      search = rw c.better_of-best.ensures.best (search_goes_on c.args.descs.now (is_better (pages_area k)) c.args.n c.loop-run.from (option_map run_in c.loop-run.best) c.in-Some.run' c.requires.whole c.loop-run.invariant.search (sym c.in-Some.ensures));
      candidate = c.better_of-best.ensures.candidate;
    }

ended : (c : In_default) → option_map run_in c.loop-run.best ≡ least (is_better (pages_area (record { region = c.args.region.now; words = c.args.descs.now }))) (fitting c.args.n (free_runs (pages_area (record { region = c.args.region.now; words = c.args.descs.now }))))
ended c =
    let k : Pages = record { region = c.args.region.now; words = c.args.descs.now } in
    search_ends c.args.descs.now (is_better (pages_area k)) c.args.n c.loop-run.from (option_map run_in c.loop-run.best) c.loop-run.invariant.search (sym c.in_default.ensures)
    ∙ ap (λ (fs : List Run). least (is_better (pages_area k)) (fitting c.args.n fs)) (sym (frees_of k c.requires))

pub returns-in-Some-best : goal.returns-in-Some-best
returns-in-Some-best c = rw c.in-Some-best.is at (ended (goal.at.returns-in-Some-best c).In_default)

pub returns-in-None : goal.returns-in-None
returns-in-None c = rw c.in-None.is at (ended (goal.at.returns-in-None c).In_default)

pub next_free-requires-clause-none : goal.next_free-requires-clause-none
next_free-requires-clause-none c = rw c.reserved-end.ensures.reserved (behind_none (record { region = c.args.region.now; words = c.args.descs.now }) c.requires)
