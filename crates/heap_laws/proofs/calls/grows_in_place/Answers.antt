use Rattle.std.proofs.Common.{refl, inl}
use Rattle.heap_model.specs.declared.Layer.TheVariants as layers
use Rattle.heap_model.specs.State.{Live}
use Rattle.heap_laws.proofs.calls.grows_in_place.Goals as goal

pub returns : goal.returns
returns c = record {
  worked = record { legal = refl; answered = record { one = (refl, refl); shape = inl (refl, inl (record { old = record { start = 8240; granules = 3; layer = layers.Vs; status = Live 24 }; size = 24; granules = 4; live = refl; stays = (refl, refl); acts_are = refl })) } };
  too_long = refl;
}
