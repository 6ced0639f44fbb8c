use Rattle.one_caller_laws.proofs.Others.{each_all}
use Rattle.one_caller_laws.proofs.each_then_all.Goals as goal

pub returns : goal.returns
returns c = each_all
