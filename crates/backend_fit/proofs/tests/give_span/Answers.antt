use Rattle.std.proofs.Common.{◌≡◌, ◌∙◌, sym, ap, true}
use Rattle.heap_model.specs.Backend.{is_usable}
use Rattle.page_ranges.specs.Words.{runs_of}
use Rattle.page_ranges.specs.Spans.{is_of_span}
use Rattle.backend_fit.specs.Kept.{area_of}
use Rattle.backend_fit.proofs.Shown.{shown_starts}
use Rattle.backend_fit.proofs.tests.give_span.Goals as goal

pub give-requires : goal.give-requires
give-requires c =
    let k = c.args.back.now in
    let r = c.in_ok-run.run' in
    let b : is_of_span r.mark.kind ≡ true = ap is_of_span c.in-Back.is in
    shown_starts (is_usable (area_of k) c.args.first) c.args.first (runs_of k.words) r (sym c.in_ok-run.was ∙ c.run_at.ensures) c.if-run-first.true b
