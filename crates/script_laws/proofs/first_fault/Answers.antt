use Rattle.script_laws.proofs.FaultLemmas.{refused_text, accepted_text}
use Rattle.script_laws.proofs.first_fault.Goals as goal

pub returns-clause-refused : goal.returns-clause-refused
returns-clause-refused c = refused_text

pub returns-clause-accepted : goal.returns-clause-accepted
returns-clause-accepted c = accepted_text
