use Rattle.std.proofs.Common.{sym, ◌∙◌}
use Rattle.std.proofs.lemmas.Result.{IfOk-weaker, IfErr-weaker}
use Rattle.fall_calls.proofs.small.place_inactive.Goals as goal

pub finish-requires : goal.finish-requires
finish-requires c =
    let r = c.requires.inactive in
    record { came = (r.0, sym r.1.goes.table ∙ c.requires.table.0, sym r.1.goes.opening ∙ c.requires.table.1, c.serve_inactive-came.ensures.serves r.0 r.1) }

pub returns-clause-placed : goal.returns-clause-placed
returns-clause-placed c = IfOk-weaker c.finish.result _ _ (λ addr p first x. p first (c.serve_inactive-came.ensures.serves first x)) c.finish.ensures.placed

pub returns-clause-refused : goal.returns-clause-refused
returns-clause-refused c = IfErr-weaker c.finish.result _ _ (λ no p first x. p first (c.serve_inactive-came.ensures.serves first x)) c.finish.ensures.refused

pub returns-clause-backs : goal.returns-clause-backs
returns-clause-backs c = λ first x. c.finish.ensures.backs first (c.serve_inactive-came.ensures.backs first x)
