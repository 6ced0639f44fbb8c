use Rattle.std.proofs.Common.{subst}
use Rattle.backend_fit.specs.Starts.{AreStarts}
use Rattle.backend_fit.proofs.Starts.{none_longer}
use Rattle.backend_fit.proofs.ranges.Ranges.longest.Goals as goal

pub returns : goal.returns
returns c =
    let starts = c.self.inside.starts.value in
    let longest = c.self.inside.longest in
    none_longer starts longest c.args.self.now (subst (AreStarts starts longest) c.self.view_is c.self.invariant) c.requires
