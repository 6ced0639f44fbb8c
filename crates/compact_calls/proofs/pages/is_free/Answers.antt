use Rattle.std.proofs.Common.{◌≡◌, ◌∙◌, Bool, true, ◌&&◌, sym, ap}
use Rattle.std.proofs.lemmas.Bool.{and_from}
use Rattle.heap_model.specs.Backend.{is_free as free_at}
use Rattle.page_region.specs.Held.{Held, committed_of}
use Rattle.page_ranges.specs.Spans.{is_of_free}
use Rattle.page_ranges.proofs.Runs.{and_right_false}
use Rattle.backend_fit.specs.Kept.{area_of}
use Rattle.compact_calls.proofs.Decommitting.{not_free}
use Rattle.compact_calls.proofs.Sweeping.{idle_run, idle_none}
use Rattle.compact_calls.proofs.pages.is_free.Goals as goal

pub returns-in-Free : goal.returns-in-Free
returns-in-Free c =
    let k = c.args.back.now in let page = c.args.page in
    let committed : (area_of k).committed page ≡ true = ap (λ (h : Held). committed_of h page) (sym c.region.ensures.region) ∙ (sym c.is_committed.ensures ∙ c.if-not-is_committed.false) in
    let free = idle_run k page c.region.ensures.sound c.in-Some.run' (sym c.in-Some.is ∙ c.run_at.ensures) in
    sym (and_from ((area_of k).committed page) (free_at (area_of k) page) committed (free ∙ ap is_of_free c.in-Free.is))

pub returns-in_default : goal.returns-in_default
returns-in_default c =
    let k = c.args.back.now in let page = c.args.page in
    let free = idle_run k page c.region.ensures.sound c.in-Some.run' (sym c.in-Some.is ∙ c.run_at.ensures) in
    sym (ap (λ (b : Bool). (area_of k).committed page && b) (free ∙ not_free c.in-Some.run'.mark.kind c.in_default.not-Free) ∙ and_right_false ((area_of k).committed page))

pub returns-in-None : goal.returns-in-None
returns-in-None c =
    let k = c.args.back.now in let page = c.args.page in
    let free = idle_none k page c.region.ensures.sound (sym c.in-None.is ∙ c.run_at.ensures) in
    sym (ap (λ (b : Bool). (area_of k).committed page && b) free ∙ and_right_false ((area_of k).committed page))
