use Rattle.one_caller_laws.proofs.Compact.{compact_determined}
use Rattle.one_caller_laws.proofs.compaction_is_determined.Goals as goal

pub returns : goal.returns
returns c = compact_determined
