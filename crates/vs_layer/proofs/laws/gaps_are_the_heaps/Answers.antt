use Rattle.vs_layer.proofs.Told.{gaps_are}
use Rattle.vs_layer.proofs.laws.gaps_are_the_heaps.Goals as goal

pub returns : goal.returns
returns c = λ o st k t. gaps_are o st k t
