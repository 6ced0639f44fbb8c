use Rattle.std.proofs.Common.{refl}
use Rattle.rand_pcg.specs.Lcg.{state_after}
use Rattle.heap_model.specs.Search.{draw_of}
use Rattle.heap_laws.proofs.histories.slot_is_off_limits.Goals as goal

pub returns : goal.returns
unfolding draw_of state_after
returns c = record { legal = refl; slot = refl }
