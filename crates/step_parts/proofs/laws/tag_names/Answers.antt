use Rattle.step_parts.proofs.Tags.{seen_by_tag}
use Rattle.step_parts.proofs.laws.tag_names.Goals as goal

pub returns : goal.returns
returns c = λ m page word h. seen_by_tag m page word h
