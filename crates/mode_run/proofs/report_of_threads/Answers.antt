use Rattle.std.proofs.Common.{arith}
use Rattle.mode_run.proofs.Read.{few, balanced}
use Rattle.mode_run.proofs.report_of_threads.Goals as goal

pub run_rounds-requires-clause-callers : goal.run_rounds-requires-clause-callers
run_rounds-requires-clause-callers g c κs within =
    omega (arith, few c.requires.read.0 c.args.script.now c.requires.read.1, c.requires.limits.callers)

pub run_rounds-requires-clause-balanced : goal.run_rounds-requires-clause-balanced
run_rounds-requires-clause-balanced g c κs within = balanced c.requires.read.0 c.args.script.now c.requires.read.1
