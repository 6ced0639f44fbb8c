use Rattle.block_steps.proofs.Claims.{claim_law}
use Rattle.block_steps.proofs.laws.claim_keeps.Goals as goal

pub returns : goal.returns
returns g c = claim_law g.T.Stands.stands
