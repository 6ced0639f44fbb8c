use Rattle.std.proofs.Common.{List, ℕ, ◌*◌, replicate, subst, sym}
use Rattle.backend_fit.specs.Starts.{AreStarts}
use Rattle.backend_fit.proofs.Starts.{fresh_starts}
use Rattle.backend_fit.proofs.ranges.Ranges.new.Goals as goal

pub invariant_of-result : goal.invariant_of-result
invariant_of-result c =
    rw c.in_ok-descs.ensures.words (subst (λ (bits : List ℕ). AreStarts bits 0 (replicate (256 * c.args.limits.now.segments) 0)) (sym c.in-Ok.ensures.ok) (fresh_starts _))
