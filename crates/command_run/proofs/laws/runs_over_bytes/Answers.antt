use Rattle.command_run.proofs.BytesLemmas.{over_bytes}
use Rattle.command_run.proofs.laws.runs_over_bytes.Goals as goal

pub returns : goal.returns
returns c = over_bytes
