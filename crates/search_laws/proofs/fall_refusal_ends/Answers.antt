use Rattle.search_laws.proofs.Fallen.{fall_refusal}
use Rattle.search_laws.proofs.fall_refusal_ends.Goals as goal

pub returns : goal.returns
returns c = fall_refusal
