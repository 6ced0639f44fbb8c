use Rattle.script_laws.proofs.ScriptLemmas.{read_script}
use Rattle.round_runs.proofs.tests.script_of.Goals as goal

pub returns-in-Ok : goal.returns-in-Ok
returns-in-Ok c = (read_script c.as_bytes.result.now c.in-Ok.script c.in-Ok.ensures.script).printable.locks
