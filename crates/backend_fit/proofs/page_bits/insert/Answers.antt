use Rattle.backend_fit.proofs.Bits.{inserted, inserted_other}
use Rattle.backend_fit.proofs.page_bits.insert.Goals as goal

pub returns-clause-there : goal.returns-clause-there
returns-clause-there c = inserted c.args.bits.now c.args.page c.requires

pub returns-clause-others : goal.returns-clause-others
returns-clause-others c = inserted_other c.args.bits.now c.args.page c.requires
