use Rattle.std.proofs.Common.{◌≡◌, ℕ, inl, inr, length, arith, ap, sym, ◌∙◌}
use Rattle.std.proofs.lemmas.Bool.{cases_lt}
use Rattle.vs_split.specs.Table.{filled_up}
use Rattle.vs_split.proofs.FillLemmas.{none_more}
use Rattle.vs_split.proofs.table.fill_up.Goals as goal

pub returns-clause-items : goal.returns-clause-items
returns-clause-items g c =
    let old = c.args.values.now.items in
    let low = c.loop.invariant.low in
    let high = c.loop.invariant.high in
    let end = c.loop-test.false in
    c.loop.invariant.items ∙ elim (cases_lt c.args.n (length old)) [
      | inl l ↦ none_more c.loop.counter c.args.value old (omega arith) ∙ sym (none_more c.args.n c.args.value old (omega arith))
      | inr l ↦ let e : c.loop.counter ≡ c.args.n = omega arith in ap (λ (k : ℕ). filled_up k c.args.value old) e
    ]
