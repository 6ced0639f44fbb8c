use Rattle.call_laws.proofs.Words.{copies_keep}
use Rattle.call_laws.proofs.copies_keep.Goals as goal

pub returns : goal.returns
returns c = copies_keep
