use Rattle.span_steps.proofs.Stores.{put_tag_law}
use Rattle.span_steps.proofs.laws.put_tag_keeps.Goals as goal

pub returns : goal.returns
returns g c = put_tag_law g.T.Stands.stands
