use Rattle.backend_fit.proofs.Told.{place_at_address}
use Rattle.backend_fit.proofs.laws.blocks_are_places.Goals as goal

pub returns : goal.returns
returns c = λ o st k addr t s. place_at_address o st k t s addr
