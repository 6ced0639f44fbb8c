use Rattle.one_caller_laws.proofs.WorkedPairs.{two_replies}
use Rattle.one_caller_laws.proofs.two_replies.Goals as goal

pub returns : goal.returns
returns c = two_replies
