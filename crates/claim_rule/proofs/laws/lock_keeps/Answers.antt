use Rattle.claim_rule.proofs.HeapLock.{locks}
use Rattle.claim_rule.proofs.laws.lock_keeps.Goals as goal

pub returns : goal.returns
returns g c = locks g.T.Stands.stands
