-- What fits stands on the right of a node that is too small, and otherwise on its left, or is its own gap.
use Rattle.vs_free_tree.proofs.Found.{left_of, right_of, left_lower, right_lower, found_right, found_left, found_itself}
use Rattle.vs_free_tree.proofs.tree.+best.Goals as goal

pub best-requires : goal.best-requires
best-requires t c = (
  rw (← c.decreases) (right_lower c.args.nodes.now c.args.root c.args.units c.if-root-eq-NONE.false c.requires),
  right_of c.args.nodes.now c.args.root c.args.units c.if-root-eq-NONE.false c.requires,
)

pub returns-then-slot-units : goal.returns-then-slot-units
returns-then-slot-units t c =
    found_right c.args.nodes.now c.args.root c.args.units c.if-root-eq-NONE.false c.best.result c.if-slot-units.true c.best.ensures

pub best-requires-2 : goal.best-requires-2
best-requires-2 t c = (
  rw (← c.decreases) (left_lower c.args.nodes.now c.args.root c.args.units c.if-root-eq-NONE.false c.requires),
  left_of c.args.nodes.now c.args.root c.args.units c.if-root-eq-NONE.false c.requires,
)

pub returns-in-Some : goal.returns-in-Some
returns-in-Some t c = found_left c.args.nodes.now c.args.root c.args.units c.if-root-eq-NONE.false c.in-Some.gap c.in-Some.ensures

pub returns-in-None : goal.returns-in-None
returns-in-None t c = found_itself c.args.nodes.now c.args.root c.args.units c.if-root-eq-NONE.false c.if-slot-units.false c.in-None.ensures
