use Rattle.heap_model.specs.History.{configuration_of}
use Rattle.decode_laws.proofs.Shown.{showable}
use Rattle.decode_laws.proofs.Known.{known_state}
use Rattle.decode_laws.proofs.shown_is_showable.Goals as goal

pub returns : goal.returns
returns c = λ s es image valid legal shown. showable s (configuration_of s es).state image (known_state s es valid legal) shown
