use Rattle.heap_model.specs.History.{configuration_of}
use Rattle.heap_soundness.proofs.Kept.{keeps_all}
use Rattle.heap_soundness.proofs.Whole.{sound_now}
use Rattle.heap_soundness.proofs.stays_sound.Goals as goal

pub returns : goal.returns
returns c = λ s es valid legal. sound_now s (configuration_of s es) valid (keeps_all s es valid legal)
