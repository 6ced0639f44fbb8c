use Rattle.claim_rule.proofs.Exact.{zero_hint}
use Rattle.claim_rule.proofs.laws.zero_hint_is_read_rightly.Goals as goal

pub returns : goal.returns
returns c = zero_hint
