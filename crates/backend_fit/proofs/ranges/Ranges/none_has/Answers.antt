use Rattle.std.proofs.Common.{◌≡◌, List, ℕ, [], subst, sym}
use Rattle.heap_model.specs.Runs.{fitting}
use Rattle.page_ranges.specs.Words.{runs_of}
use Rattle.page_ranges.specs.Ranges.{IsWhole}
use Rattle.page_ranges.specs.Spans.{frees_in}
use Rattle.backend_fit.proofs.Starts.{shorter}
use Rattle.backend_fit.proofs.ranges.Ranges.none_has.Goals as goal

pub invariant_of-self : goal.invariant_of-self
invariant_of-self c =
    let words = c.self.inside.descs in
    let whole = subst IsWhole (sym c.self.view_is) c.requires.whole in
    let none = subst (λ (ws : List ℕ). fitting c.args.n (frees_in (runs_of ws)) ≡ []) (sym c.self.view_is) c.requires.none in
    shorter c.self.inside.starts.value c.self.inside.longest words c.self.invariant whole c.args.n c.min-self-inside.result c.requires.some none c.min-self-inside.ensures
