use Rattle.vs_layer.proofs.Told.{block_is}
use Rattle.vs_layer.proofs.laws.blocks_are_places.Goals as goal

pub returns : goal.returns
returns c = λ o st k addr t. block_is o st k t addr
