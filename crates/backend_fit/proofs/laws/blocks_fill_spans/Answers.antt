use Rattle.backend_fit.proofs.Told.{fills}
use Rattle.backend_fit.proofs.laws.blocks_fill_spans.Goals as goal

pub returns : goal.returns
returns c = λ o st k addr r t s f. fills o st k t s addr r f
