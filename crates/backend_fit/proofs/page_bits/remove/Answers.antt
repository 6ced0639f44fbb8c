use Rattle.backend_fit.proofs.Bits.{removed, removed_other}
use Rattle.backend_fit.proofs.page_bits.remove.Goals as goal

pub returns-clause-gone : goal.returns-clause-gone
returns-clause-gone c = removed c.args.bits.now c.args.page c.requires

pub returns-clause-others : goal.returns-clause-others
returns-clause-others c = removed_other c.args.bits.now c.args.page c.requires
