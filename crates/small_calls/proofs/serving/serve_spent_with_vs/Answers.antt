use Rattle.std.proofs.Common.{inr}
use Rattle.small_calls.proofs.serving.serve_spent_with_vs.Goals as goal

pub returns-in-Busy-clause-serves : goal.returns-in-Busy-clause-serves
returns-in-Busy-clause-serves c = λ first h. inr (record { bucket = c.args.bucket; bucket_is = c.requires.bucket; draw = c.args.draw.value; lost = c.args.lost; meets = λ call e. inr (inr (c.in-Busy.ensures.gone first h call e)) })

pub returns-in-Placed-clause-serves : goal.returns-in-Placed-clause-serves
returns-in-Placed-clause-serves c = λ first h. c.in-Placed.ensures.gone first h

pub returns-in-ForVs-clause-serves : goal.returns-in-ForVs-clause-serves
returns-in-ForVs-clause-serves c = λ first h. (c.args.bucket, c.requires.bucket, c.in-ForVs.ensures.gone first h)
