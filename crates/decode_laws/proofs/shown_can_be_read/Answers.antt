use Rattle.heap_model.specs.History.{configuration_of}
use Rattle.decode_laws.proofs.Shown.{can_read}
use Rattle.decode_laws.proofs.Known.{known_state}
use Rattle.decode_laws.proofs.shown_can_be_read.Goals as goal

pub returns : goal.returns
returns c = λ s es image valid legal shown hands. can_read s (configuration_of s es).state image (known_state s es valid legal) shown hands
