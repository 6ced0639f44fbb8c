use Rattle.call_laws.proofs.Words.{by_stores}
use Rattle.call_laws.proofs.words_change_by_stores.Goals as goal

pub returns : goal.returns
returns c = by_stores
