use Rattle.script_text.specs.Reading.{reading_of}
use Rattle.script_laws.proofs.FaultLemmas.{same_script}
use Rattle.script_laws.proofs.one_script.Goals as goal

pub returns : goal.returns
returns c = λ text s t e f. same_script (reading_of text) s t e f
