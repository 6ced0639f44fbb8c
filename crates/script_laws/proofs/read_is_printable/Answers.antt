use Rattle.script_laws.proofs.ScriptLemmas.{read_script}
use Rattle.script_laws.proofs.read_is_printable.Goals as goal

pub returns : goal.returns
returns c = read_script
