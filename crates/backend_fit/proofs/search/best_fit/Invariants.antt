use Rattle.std.proofs.Common.{◌-◌, option_map, IfSome, length}
use Rattle.heap_model.specs.Backend.{is_better}
use Rattle.backend_fit.specs.Pages.{pages_area}
use Rattle.backend_fit.specs.Best.{run_in, IsCandidate}
use Rattle.backend_fit.proofs.BestFit.{IsSearch}
use Rattle.backend_fit.proofs.search.best_fit.Given as goal

abbrev pub invariant-loop-run : goal.invariant-loop-run
invariant-loop-run l = record {
  search : IsSearch l.descs (is_better (pages_area (record { region = l.region; words = l.descs }))) l.n l.from (option_map run_in l.best);
  candidate : IfSome l.best (IsCandidate l.region l.from);
}

abbrev pub decreases-loop-run : goal.decreases-loop-run
decreases-loop-run l = length l.descs - l.from
