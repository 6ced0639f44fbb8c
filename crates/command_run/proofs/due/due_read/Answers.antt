use Rattle.script_laws.proofs.ScriptLemmas.{read_script}
use Rattle.command_run.proofs.due.due_read.Goals as goal

pub due_in-requires-clause-balanced : goal.due_in-requires-clause-balanced
due_in-requires-clause-balanced g c =
    let given = rw c.in-Script.is at c.in_ok-script.ensures.given in
    (read_script given.1 c.in-Script.script given.3).printable.locks
