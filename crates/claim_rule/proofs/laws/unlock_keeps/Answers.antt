use Rattle.claim_rule.proofs.HeapLock.{unlocks}
use Rattle.claim_rule.proofs.laws.unlock_keeps.Goals as goal

pub returns : goal.returns
returns g c = unlocks g.T.Stands.stands
