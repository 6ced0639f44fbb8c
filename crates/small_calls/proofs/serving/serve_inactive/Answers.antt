use Rattle.std.proofs.Common.{[], refl, ◌∙◌}
use Rattle.small_calls.specs.declared.by_vs.SmallTry.TheVariants as tries
use Rattle.small_calls.proofs.Backs.{backs_before, tried_inactive, back_call}
use Rattle.small_calls.proofs.ForVs.{tried_before}
use Rattle.small_calls.proofs.Refusals.{refused_any, with_vs_table}
use Rattle.small_calls.proofs.serving.serve_inactive.Goals as goal

pub try_inactive-requires-clause-asking : goal.try_inactive-requires-clause-asking
try_inactive-requires-clause-asking c = c.requires.inactive.1.asking

pub returns-in-Placed-clause-serves : goal.returns-in-Placed-clause-serves
returns-in-Placed-clause-serves c = λ first x. tried_before first c.args.c.now c.try_inactive.new.c c.args.n c.args.zero x (tries.Placed c.in-Placed.addr) c.in-Placed.ensures.tries

pub returns-in-Refused-clause-serves : goal.returns-in-Refused-clause-serves
returns-in-Refused-clause-serves c = λ first x.
    refused_any c.args.n first c.try_inactive.new.c c.in-Refused.no
    (tried_before first c.args.c.now c.try_inactive.new.c c.args.n c.args.zero x (tries.Refused c.in-Refused.no) c.in-Refused.ensures.tries)

pub serve_spent_with_vs-requires-clause-table : goal.serve_spent_with_vs-requires-clause-table
serve_spent_with_vs-requires-clause-table c =
    let t = with_vs_table c.args.c.now c.try_inactive.new.c c.args.n c.in-SpentUnderVs.bucket c.in-SpentUnderVs.draw.value c.in-SpentUnderVs.lost c.args.zero c.in-SpentUnderVs.vs c.in-SpentUnderVs.ensures.tries.1 in
    (t.0 ∙ c.requires.table.0, t.1 ∙ c.requires.table.1)

pub serve_spent_with_vs-requires-clause-bucket : goal.serve_spent_with_vs-requires-clause-bucket
serve_spent_with_vs-requires-clause-bucket c = c.in-SpentUnderVs.ensures.tries.0

pub serve_spent_with_vs-requires-clause-spent : goal.serve_spent_with_vs-requires-clause-spent
serve_spent_with_vs-requires-clause-spent c = (c.args.c.now, c.in-SpentUnderVs.ensures.tries.1)

pub returns-in-SpentUnderVs-clause-serves : goal.returns-in-SpentUnderVs-clause-serves
returns-in-SpentUnderVs-clause-serves c = λ first x.
    let t = tried_before first c.args.c.now c.try_inactive.new.c c.args.n c.args.zero x (tries.SpentUnderVs c.in-SpentUnderVs.vs c.in-SpentUnderVs.bucket c.in-SpentUnderVs.lost c.in-SpentUnderVs.draw) c.in-SpentUnderVs.ensures.tries in
    c.serve_spent_with_vs.ensures.serves first t.1

pub returns-in-Placed-clause-backs : goal.returns-in-Placed-clause-backs
returns-in-Placed-clause-backs c first x = backs_before first c.args.c.now c.try_inactive.new.c c.args.n [] x.goes refl c.in-Placed.ensures.backs

pub returns-in-Refused-clause-backs : goal.returns-in-Refused-clause-backs
returns-in-Refused-clause-backs c first x = backs_before first c.args.c.now c.try_inactive.new.c c.args.n [] x.goes refl c.in-Refused.ensures.backs

pub returns-in-SpentUnderVs-clause-backs : goal.returns-in-SpentUnderVs-clause-backs
returns-in-SpentUnderVs-clause-backs c first x =
    let y = c.in-SpentUnderVs.ensures.tries in let g = c.serve_spent_with_vs.ensures.goes in
    back_call first c.serve_spent_with_vs.new.c c.args.n
    (tried_inactive first c.args.c.now c.try_inactive.new.c c.serve_spent_with_vs.new.c c.args.n c.in-SpentUnderVs.bucket c.in-SpentUnderVs.draw.value c.in-SpentUnderVs.lost c.args.zero c.in-SpentUnderVs.vs x y.1 y.0 g.0 g.1)
    c.serve_spent_with_vs.result
