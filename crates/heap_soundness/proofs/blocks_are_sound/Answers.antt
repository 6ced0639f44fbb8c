use Rattle.heap_model.specs.History.{configuration_of}
use Rattle.heap_soundness.proofs.Kept.{keeps_all}
use Rattle.heap_soundness.proofs.Addresses.{blocks_sound}
use Rattle.heap_soundness.proofs.blocks_are_sound.Goals as goal

pub returns : goal.returns
returns c = λ s es valid legal. blocks_sound s (configuration_of s es) (keeps_all s es valid legal)
