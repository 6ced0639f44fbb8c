use Rattle.std.proofs.Common.{◌++◌, ◌∙◌, List, ℕ, sym, ap, arith, string_bytes}
use Rattle.page_region.specs.Held.{committed_of}
use Rattle.page_ranges.specs.Words.{runs_of}
use Rattle.report_text.proofs.LayoutLemmas.{step, all_lines, range_put, none_left, beyond_all}
use Rattle.report_text.proofs.layout.push_layout.Goals as goal

pub returns-in_default : goal.returns-in_default
returns-in_default c =
    none_left (committed_of c.args.image.now.region) c.loop-page.page (runs_of c.args.image.now.descs) _ _ (sym c.in_default.is ∙ c.next_run.ensures) c.loop-page.invariant
    ∙ ap (λ (xs : List ℕ). string_bytes c.args.text.now ++ xs) (all_lines (committed_of c.args.image.now.region) (runs_of c.args.image.now.descs))

pub push_range-requires : goal.push_range-requires
push_range-requires c =
    let s = step c.args.image.now.descs c.loop-page.page (runs_of c.args.image.now.descs) c.in-Some.run' c.requires.whole (sym c.in-Some.is ∙ c.next_run.ensures) in
    omega (arith, s.below, c.requires.same)

pub overflow_add-page : goal.overflow_add-page
overflow_add-page c =
    let s = step c.args.image.now.descs c.loop-page.page (runs_of c.args.image.now.descs) c.in-Some.run' c.requires.whole (sym c.in-Some.is ∙ c.next_run.ensures) in
    omega (arith, s.below, c.pages-end.ensures.headered.few)

pub loop-page-smaller : goal.loop-page-smaller
loop-page-smaller c =
    let s = step c.args.image.now.descs c.loop-page.page (runs_of c.args.image.now.descs) c.in-Some.run' c.requires.whole (sym c.in-Some.is ∙ c.next_run.ensures) in
    omega (arith, s.above, s.some, s.below)

pub loop-page-preserved : goal.loop-page-preserved
loop-page-preserved c =
    let s = step c.args.image.now.descs c.loop-page.page (runs_of c.args.image.now.descs) c.in-Some.run' c.requires.whole (sym c.in-Some.is ∙ c.next_run.ensures) in
    range_put (committed_of c.args.image.now.region) c.loop-page.page _ (runs_of c.args.image.now.descs) c.in-Some.run' _ _ _ s.picked c.in_ok-push_range.ensures c.loop-page.invariant

pub returns : goal.returns
returns c =
    beyond_all (committed_of c.args.image.now.region) c.args.image.now.descs c.loop-page.page (runs_of c.args.image.now.descs) _ _ c.requires.whole (rw c.pages-end.ensures.pages at c.loop-page-test.false) c.loop-page.invariant
    ∙ ap (λ (xs : List ℕ). string_bytes c.args.text.now ++ xs) (all_lines (committed_of c.args.image.now.region) (runs_of c.args.image.now.descs))
