use Rattle.one_caller_laws.proofs.Reallocs.{in_place_determined}
use Rattle.one_caller_laws.proofs.in_place_is_determined.Goals as goal

pub returns : goal.returns
returns c = in_place_determined
