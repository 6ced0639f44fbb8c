use Rattle.vs_layer.proofs.Told.{place_is}
use Rattle.vs_layer.proofs.laws.places_are_the_heaps.Goals as goal

pub returns : goal.returns
returns c = λ o st k n t. place_is o st k t n
