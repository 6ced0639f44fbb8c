-- Locks that are given back: no shape shows it.
use Rattle.std.proofs.Common.{◌≡◌, true, [], refl}
use Rattle.heap_model.specs.Shape.{shape_of}
use Rattle.call_parts.proofs.Serving.{none_begins}
use Rattle.move_calls.specs.declared.held.Held.{Held}
use Rattle.move_calls.specs.declared.held.Held.TheVariants as helds
use Rattle.move_calls.specs.Holds.{gives_of}

pub none_in : (h : Held) → none_begins (gives_of h) ≡ true
none_in (helds.Vs vs) = refl
none_in (helds.Low vs back) = refl
none_in (helds.LowThenLarge vs back large) = refl
none_in (helds.Large large) = refl
none_in (helds.LargeThenVs large vs) = refl
none_in (helds.LargeThenLow large vs back) = refl

pub hidden_in : (h : Held) → shape_of (gives_of h) ≡ []
hidden_in (helds.Vs vs) = refl
hidden_in (helds.Low vs back) = refl
hidden_in (helds.LowThenLarge vs back large) = refl
hidden_in (helds.Large large) = refl
hidden_in (helds.LargeThenVs large vs) = refl
hidden_in (helds.LargeThenLow large vs back) = refl
