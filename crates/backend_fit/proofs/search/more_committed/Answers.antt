use Rattle.std.proofs.Common.{◌≤◌, arith, refl, []}
use Rattle.heap_model.specs.Backend.{committed_in}
use Rattle.page_region.specs.Held.{committed_of}
use Rattle.page_ranges.specs.Spans.{plain}
use Rattle.backend_fit.specs.Pages.{pages_area}
use Rattle.backend_fit.proofs.Better.{higher_is_not}
use Rattle.backend_fit.proofs.Decommit.{count_small}
use Rattle.backend_fit.proofs.search.more_committed.Goals as goal
use Rattle.backend_fit.proofs.search.more_committed.Goals.{then-most-run+else-most-committed, else-most-run}

pub returns-clause-best : goal.returns-clause-best
returns-clause-best c =
    let a = pages_area (record { region = c.args.region.now; words = [] }) in
    let r = plain c.args.run in
    let s = plain c.args.best.run in
    let below = c.requires.best.below in
    let most = c.committed_in-most.ensures in
    let no_more : committed_in a r ≤ committed_in a s = elim c.if-most-run.branch [
      | then-most-run+else-most-committed w ↦ let n = w.count_committed-committed.ensures in let l = w.if-most-committed.false in omega arith
      | else-most-run w ↦ let l = w.if-most-run.false in omega (arith, count_small (committed_of c.args.region.now) c.args.run.first c.args.run.pages)
    ] in
    rw (higher_is_not a r s c.requires.equal below no_more) refl
