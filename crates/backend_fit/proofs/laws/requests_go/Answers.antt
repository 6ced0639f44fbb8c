use Rattle.backend_fit.proofs.Told.{goes_somewhere}
use Rattle.backend_fit.proofs.laws.requests_go.Goals as goal

pub returns : goal.returns
returns c = λ o st k n first t s p. goes_somewhere o st k t s n first p
