use Rattle.claim_rule.proofs.Exact.{free_words}
use Rattle.claim_rule.proofs.laws.free_words_are_exact.Goals as goal

pub returns : goal.returns
returns c = free_words
