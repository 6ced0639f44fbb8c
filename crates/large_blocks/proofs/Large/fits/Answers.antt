use Rattle.std.proofs.Common.{rules, ◌≡◌, ◌∙◌, ap, is_some}
use Rattle.heap_model.specs.Geometry.{pages_of}
use Rattle.heap_model.specs.Ranges.{large_place}
use Rattle.large_blocks.specs.Table.{places_of}
use Rattle.large_blocks.proofs.Standing.{same_place}
use Rattle.large_blocks.proofs.Large.fits.Goals as goal

pub returns-clause-in_each : goal.returns-clause-in_each
returns-clause-in_each c =
    let e : c.is_some.result ≡ is_some (large_place c.args.self.now.limits (places_of c.args.self.now) (pages_of c.args.n)) = search rules in
    λ o st h. e ∙ ap is_some (same_place c.args.self.now o st h (pages_of c.args.n))
