use Rattle.span_steps.proofs.Stores.{clear_tag_law}
use Rattle.span_steps.proofs.laws.clear_tag_keeps.Goals as goal

pub returns : goal.returns
returns g c = clear_tag_law g.T.Stands.stands
