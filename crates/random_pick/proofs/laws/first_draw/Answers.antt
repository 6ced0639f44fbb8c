-- It is the generator of the caller.
use Rattle.random_pick.proofs.DrawLemmas.{is_made}
use Rattle.random_pick.proofs.laws.first_draw.Goals as goal

pub returns : goal.returns
returns c = is_made
