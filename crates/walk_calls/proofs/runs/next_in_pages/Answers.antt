use Rattle.std.proofs.Common.{◌≡◌, ℕ, ◌/◌, None, sym, ap, ◌∙◌, subst, arith}
use Rattle.std.specs.List.{find}
use Rattle.heap_model.specs.declared.Opening.{Opening}
use Rattle.page_ranges.specs.Words.{runs_of}
use Rattle.page_ranges.specs.Ranges.{begins_from}
use Rattle.layout_decode.specs.declared.Image.{Image}
use Rattle.layout_decode.specs.Decode.{page_blocks, is_at_or_after, IsRunOfBlocks}
use Rattle.layout_decode.proofs.Images.{of_run, left_from}
use Rattle.walk_calls.proofs.Looking.{looks_none, looks_then, owner_then}
use Rattle.walk_calls.proofs.Pages.{next_step, next_chunks, next_blocks, starts, past, none, beyond, here, behind, pages_before, pages_behind}
use Rattle.walk_calls.proofs.runs.next_in_pages.Goals as goal

pub returns-then-at-from-clause-looks : goal.returns-then-at-from-clause-looks
returns-then-at-from-clause-looks c = looks_none c.args.c.now c.requires.owner

pub returns-then-at-from-clause-found : goal.returns-then-at-from-clause-found
returns-then-at-from-clause-found c = λ s q image x. sym (past image _ _ _ _ x c.tiled.ensures c.args.from (omega (arith, c.if-at-from.true, c.from.ensures, c.pages-end.ensures.pages)))

pub loop-page-init : goal.loop-page-init
loop-page-init c = record {
  looks = looks_none c.args.c.now c.requires.owner;
  left = λ s q image x. starts image _ _ _ _ x c.tiled.ensures c.args.from (c.args.from / 4096) c.run_at-page.result (omega arith) c.run_at-page.ensures;
}

pub returns-in_err-run-clause-looks : goal.returns-in_err-run-clause-looks
returns-in_err-run-clause-looks c = c.loop-page.invariant.looks

pub returns-in_err-run-clause-found : goal.returns-in_err-run-clause-found
returns-in_err-run-clause-found c = λ s q image x.
    let page : ℕ = c.loop-page.page in
    let no : find (begins_from page) (runs_of c.args.descs.now) ≡ None = sym c.next_run.ensures ∙ c.in_err-run.was in
    c.from_residual.ensures ∙ sym (ap (find (is_at_or_after c.args.from)) (none image _ _ _ _ x c.tiled.ensures page no)) ∙ c.loop-page.invariant.left s q image x

pub next_in-requires-clause-table : goal.next_in-requires-clause-table
next_in-requires-clause-table c = let g = c.loop-page.invariant.looks.goes in (g.table ∙ c.requires.table.0, g.opening ∙ c.requires.table.1)

pub next_in-requires-clause-owner : goal.next_in-requires-clause-owner
next_in-requires-clause-owner c = owner_then c.args.c.now c.loop-page.c c.requires.owner c.loop-page.invariant.looks

pub next_in-requires-clause-chunks : goal.next_in-requires-clause-chunks
next_in-requires-clause-chunks c = next_chunks _ _ _ c.requires.readable c.loop-page.page c.in_ok-run.run' (sym c.next_run.ensures ∙ c.in_ok-run.was)

pub next_in-requires-clause-subsegment : goal.next_in-requires-clause-subsegment
next_in-requires-clause-subsegment c =
    let r = c.in_ok-run.run' in
    subst (λ (o : Opening). IsRunOfBlocks o.limits r r.mark.kind) (sym c.loop-page.invariant.looks.goes.opening) (next_blocks _ _ _ c.requires.readable c.loop-page.page r (sym c.next_run.ensures ∙ c.in_ok-run.was))

pub next_in-requires-clause-some : goal.next_in-requires-clause-some
next_in-requires-clause-some c = (next_step _ _ _ c.requires.readable c.loop-page.page c.in_ok-run.run' (sym c.next_run.ensures ∙ c.in_ok-run.was)).some

pub next_in-requires-clause-inside : goal.next_in-requires-clause-inside
next_in-requires-clause-inside c =
    let s = next_step _ _ _ c.requires.readable c.loop-page.page c.in_ok-run.run' (sym c.next_run.ensures ∙ c.in_ok-run.was) in
    omega (arith, s.below, c.pages-end.ensures.headered.few)

pub returns-in-Some-clause-looks : goal.returns-in-Some-clause-looks
returns-in-Some-clause-looks c = looks_then c.args.c.now c.loop-page.c c.next_in.new.c c.loop-page.invariant.looks c.next_in.ensures.looks

pub returns-in-Some-clause-found : goal.returns-in-Some-clause-found
returns-in-Some-clause-found c = λ s q image x.
    let a = c.args.c.now in let old = c.loop-page.c in let new = c.next_in.new.c in let r = c.in_ok-run.run' in let inv = c.loop-page.invariant in let from = c.args.from in let descs = c.args.descs.now in let v = c.args.heads.now in
    let f = pages_behind a old new descs v (λ (i : Image). c.next_in.result ≡ find (is_at_or_after from) (of_run i r)) inv.looks c.next_in.ensures.looks c.next_in.ensures.found s q image x in
    let left = pages_before a old new descs v (λ (i : Image). find (is_at_or_after from) (left_from i c.loop-page.page) ≡ find (is_at_or_after from) (page_blocks i)) c.next_in.ensures.looks inv.left s q image x in
    sym (here image _ _ _ _ x c.tiled.ensures from c.loop-page.page r c.in-Some.block (sym c.next_run.ensures ∙ c.in_ok-run.was) (sym f ∙ c.in-Some.is)) ∙ left

pub overflow_add-page : goal.overflow_add-page
overflow_add-page c =
    let s = next_step _ _ _ c.requires.readable c.loop-page.page c.in_ok-run.run' (sym c.next_run.ensures ∙ c.in_ok-run.was) in
    omega (arith, s.below, c.pages-end.ensures.headered.few)

pub loop-page-smaller : goal.loop-page-smaller
loop-page-smaller c =
    let s = next_step _ _ _ c.requires.readable c.loop-page.page c.in_ok-run.run' (sym c.next_run.ensures ∙ c.in_ok-run.was) in
    omega (arith, s.below, s.above, s.some, c.pages-end.ensures.pages)

pub loop-page-preserved : goal.loop-page-preserved
loop-page-preserved c =
    let a = c.args.c.now in let old = c.loop-page.c in let new = c.next_in.new.c in let r = c.in_ok-run.run' in let inv = c.loop-page.invariant in let from = c.args.from in let descs = c.args.descs.now in let v = c.args.heads.now in
    record {
      looks = looks_then a old new inv.looks c.next_in.ensures.looks;
      left = λ s q image x.
          let f = pages_behind a old new descs v (λ (i : Image). c.next_in.result ≡ find (is_at_or_after from) (of_run i r)) inv.looks c.next_in.ensures.looks c.next_in.ensures.found s q image x in
          let left = pages_before a old new descs v (λ (i : Image). find (is_at_or_after from) (left_from i c.loop-page.page) ≡ find (is_at_or_after from) (page_blocks i)) c.next_in.ensures.looks inv.left s q image x in
          sym (behind image _ _ _ _ x c.tiled.ensures from c.loop-page.page r (sym c.next_run.ensures ∙ c.in_ok-run.was) (sym f ∙ c.in_default.is)) ∙ left;
    }

pub returns-clause-found : goal.returns-clause-found
returns-clause-found c = λ s q image x.
    sym (ap (find (is_at_or_after c.args.from)) (beyond image _ _ _ _ x c.tiled.ensures c.loop-page.page (omega (arith, c.pages-end.ensures.pages, c.loop-page-test.false)))) ∙ c.loop-page.invariant.left s q image x
