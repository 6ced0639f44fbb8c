use Rattle.std.proofs.Common.{◌≡◌, arith, sym, ap, ◌∙◌}
use Rattle.heap_model.specs.declared.Run.{Run}
use Rattle.page_ranges.specs.Words.{run_of_page}
use Rattle.page_ranges.proofs.Next.{none_behind, at_first, at_end, it}
use Rattle.page_ranges.proofs.next_in.Goals as goal
use Rattle.page_ranges.proofs.next_in.Goals.{then-run-from, else-run-from}

pub returns-then-from-words : goal.returns-then-from-words
returns-then-from-words c = sym (none_behind c.args.words.now c.args.from c.requires.whole c.if-from-words.true)

pub loop-page-init : goal.loop-page-init
loop-page-init c =
    let l = c.if-from-words.false in
    let same = c.run_in-run.ensures in
    let r = run_of_page c.args.words.now c.args.from in
    elim c.if-run-from.branch [
      | then-run-from w ↦
          let e : r.first ≡ c.args.from = ap (λ (q : Run). q.first) (sym same) ∙ w.if-run-from.true in
          rw w.start-is (record { at = at_first c.args.words.now c.args.from c.requires.whole l e; low = omega arith })
      | else-run-from w ↦
          let ne : r.first ≡ c.args.from → ⊥ = λ e. w.if-run-from.false (ap (λ (q : Run). q.first) same ∙ e) in
          let high = (it c.args.words.now c.args.from c.requires.whole l).high in
          rw (w.start-is, same) (record { at = at_end c.args.words.now c.args.from c.requires.whole l ne; low = omega arith })
    ]
