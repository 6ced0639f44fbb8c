use Rattle.one_caller_laws.proofs.Words.{put_determined}
use Rattle.one_caller_laws.proofs.put_is_determined.Goals as goal

pub returns : goal.returns
returns c = put_determined
