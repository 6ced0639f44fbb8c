use Rattle.std.proofs.Common.{◌≡◌, ◌∙◌, Some, subst}
use Rattle.heap_model.specs.Geometry.{units_of}
use Rattle.heap_model.specs.Ranges.{taken_of}
use Rattle.heap_model.specs.State.{Place}
use Rattle.std.specs.Bool.{OnTrue}
use Rattle.vs_layer.specs.Kept.{VsKept, block_at, reach_of}
use Rattle.vs_layer.specs.Standing.{Becomes, with_length}
use Rattle.vs_layer.proofs.boxed.Vs.resize_in_place.Goals as goal

pub returns-clause-stands : goal.returns-clause-stands
returns-clause-stands c =
    subst
    (λ (old : VsKept). OnTrue c.resize_in_place.result ((p : Place) → block_at old c.args.addr ≡ Some p → Becomes old c.resize_in_place.new.self (λ v. with_length v c.args.addr (taken_of (units_of c.args.n) (reach_of old p)) c.args.n) (λ xs. xs)))
    (c.deref_mut.ensures.value ∙ c.self.view_is)
    c.resize_in_place.ensures.stands
