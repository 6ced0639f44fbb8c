use Rattle.std.proofs.Common.{refl}
use Rattle.heap_model.specs.declared.Layer.TheVariants as layers
use Rattle.heap_model.specs.State.{Live}
use Rattle.heap_laws.proofs.calls.grows_nowhere_at_all.Goals as goal

pub returns : goal.returns
returns c = record {
  no_fit = record { legal = refl; answered = record { one = (refl, refl); shape = (refl, record { old = record { start = 1048576; granules = 32768; layer = layers.Large; status = Live 520193 }; size = 520193; there = refl; leaves = (refl, refl); acts_are = refl }) } };
  room = refl;
}
