use Rattle.std.proofs.Common.{◌≡◌, ◌∙◌, ℕ, List, sym, subst}
use Rattle.std.proofs.lemmas.Bool.{ne_eqb}
use Rattle.std.specs.Prelude.{Some}
use Rattle.std.specs.List.{find}
use Rattle.page_ranges.specs.Words.{runs_of}
use Rattle.page_ranges.specs.Ranges.{has_page}
use Rattle.compact_calls.proofs.Emptying.{begins_here, begins_not}
use Rattle.compact_calls.proofs.empties.begins_at.Goals as goal

pub returns-then-run-page : goal.returns-then-run-page
returns-then-run-page c =
    let k = c.args.back.now in let page = c.args.page in let r = c.run_at-run.result in
    let f = subst (λ (w : List ℕ). find (has_page page) (runs_of w) ≡ Some r) c.descs.ensures.words c.run_at-run.ensures in
    c.is_lfh.ensures ∙ begins_here k page r c.descs.ensures.sound f c.if-run-page.true

pub returns-else-run-page : goal.returns-else-run-page
returns-else-run-page c =
    let k = c.args.back.now in let page = c.args.page in let r = c.run_at-run.result in
    let f = subst (λ (w : List ℕ). find (has_page page) (runs_of w) ≡ Some r) c.descs.ensures.words c.run_at-run.ensures in
    ne_eqb r.first page c.if-run-page.false ∙ sym (begins_not k page r c.descs.ensures.sound f c.if-run-page.false)
