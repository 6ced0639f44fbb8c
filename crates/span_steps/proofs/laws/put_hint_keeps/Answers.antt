use Rattle.span_steps.proofs.Stores.{put_hint_law}
use Rattle.span_steps.proofs.laws.put_hint_keeps.Goals as goal

pub returns : goal.returns
returns g c = put_hint_law g.T.Stands.stands
