use Rattle.std.proofs.Common.{◌≡◌, List, ℕ, Some, subst, sym, ◌∙◌}
use Rattle.std.specs.List.{find}
use Rattle.page_ranges.specs.Words.{runs_of}
use Rattle.page_ranges.specs.Ranges.{has_page}
use Rattle.backend_fit.specs.Starts.{AreStarts}
use Rattle.backend_fit.proofs.Starts.{no_next, next_is}
use Rattle.backend_fit.proofs.ranges.Ranges.next_free.Goals as goal

pub returns-in_err-page : goal.returns-in_err-page
returns-in_err-page c =
    let told = subst (AreStarts c.self.inside.starts.value c.self.inside.longest) c.self.view_is c.self.invariant in
    let bits = subst (λ (bits : List ℕ). AreStarts bits c.self.inside.longest c.args.self.now) (sym c.deref.ensures) told in
    c.from_residual.ensures
    ∙ sym (no_next c.deref.result.now c.self.inside.longest c.args.self.now bits c.requires.whole c.args.to c.requires.inside c.requires.none c.args.from c.in_err-page.ensures)

pub returns : goal.returns
returns c =
    let told = subst (AreStarts c.self.inside.starts.value c.self.inside.longest) c.self.view_is c.self.invariant in
    let bits = subst (λ (bits : List ℕ). AreStarts bits c.self.inside.longest c.args.self.now) (sym c.deref.ensures) told in
    let at = subst (λ (ws : List ℕ). find (has_page c.in_ok-page.page) (runs_of ws) ≡ Some c.run_at.result) c.self.view_is c.run_at.ensures in
    next_is c.deref.result.now c.self.inside.longest c.args.self.now bits c.requires.whole c.args.to c.requires.inside c.requires.none c.args.from c.in_ok-page.page c.run_at.result c.in_ok-page.ensures at
