use Rattle.backend_fit.proofs.Told.{spans_used}
use Rattle.backend_fit.proofs.laws.spans_have_places.Goals as goal

pub returns : goal.returns
returns c = λ o st k t. spans_used o st k t
