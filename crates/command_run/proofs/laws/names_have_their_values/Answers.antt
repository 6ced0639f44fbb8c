use Rattle.command_run.proofs.NameLemmas.{valued}
use Rattle.command_run.proofs.laws.names_have_their_values.Goals as goal

pub returns : goal.returns
returns c = valued
