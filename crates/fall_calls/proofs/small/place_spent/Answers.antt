use Rattle.std.proofs.Common.{sym, ◌∙◌}
use Rattle.std.proofs.lemmas.Result.{IfOk-weaker, IfErr-weaker}
use Rattle.small_calls.proofs.Backs.{tried_spent, back_call}
use Rattle.small_calls.proofs.Late.{late_call}
use Rattle.small_calls.proofs.Refusals.{spent_table}
use Rattle.fall_calls.proofs.small.place_spent.Goals as goal

pub finish-requires : goal.finish-requires
finish-requires c =
    let r = c.requires.spent in
    let t = spent_table r.0 c.args.c.now c.args.n c.args.bucket c.args.draw.value c.args.lost c.args.zero r.1 in
    record { came = (r.0, sym t.0 ∙ c.requires.table.0, sym t.1 ∙ c.requires.table.1, c.serve_spent-came.ensures.serves r.0 r.1) }

pub returns-clause-placed : goal.returns-clause-placed
returns-clause-placed c = IfOk-weaker c.finish.result _ _ (λ addr p first x. p first (c.serve_spent-came.ensures.serves first x)) c.finish.ensures.placed

pub returns-clause-refused : goal.returns-clause-refused
returns-clause-refused c = IfErr-weaker c.finish.result _ _ (λ no p first x. p first (c.serve_spent-came.ensures.serves first x)) c.finish.ensures.refused

pub returns-clause-late : goal.returns-clause-late
returns-clause-late c = λ first x.
    let came = c.serve_spent-came.result in
    c.finish.ensures.late first
    (late_call first c.args.c.now c.serve_spent-came.new.c c.args.n c.args.bucket c.args.draw.value c.args.lost c.args.zero x c.serve_spent-came.ensures.late c.requires.bucket came (c.serve_spent-came.ensures.serves first x))

pub returns-clause-backs : goal.returns-clause-backs
returns-clause-backs c = λ first x.
    let l = c.serve_spent-came.ensures.late in
    c.finish.ensures.backs first
    (back_call first c.serve_spent-came.new.c c.args.n
    (tried_spent first c.args.c.now c.serve_spent-came.new.c c.args.n c.args.bucket c.args.draw.value c.args.lost c.args.zero x c.requires.bucket l.rest l.goes) c.serve_spent-came.result)
