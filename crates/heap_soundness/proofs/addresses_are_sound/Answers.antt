use Rattle.heap_model.specs.History.{configuration_of}
use Rattle.heap_soundness.proofs.Kept.{keeps_all}
use Rattle.heap_soundness.proofs.Addresses.{addresses_sound}
use Rattle.heap_soundness.proofs.addresses_are_sound.Goals as goal

pub returns : goal.returns
returns c = λ s es valid legal. addresses_sound s (configuration_of s es) (keeps_all s es valid legal)
