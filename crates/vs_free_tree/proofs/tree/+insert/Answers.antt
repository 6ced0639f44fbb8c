-- The new node stands in the side where its gap belongs, and the node above it joins the two sides again.
use Rattle.std.proofs.Common.{sym, ◌∙◌}
use Rattle.vs_free_tree.proofs.Inserted.{left_of, right_of, left_lower, right_lower, join_left_of, join_right_of, inserted_left_of, inserted_right_of, inserted_none}
use Rattle.vs_free_tree.proofs.tree.+insert.Goals as goal

pub returns-then-root-eq-NONE : goal.returns-then-root-eq-NONE
returns-then-root-eq-NONE t c =
    inserted_none c.args.nodes.now c.args.root c.args.gap c.args.fresh c.requires.1.tree.fits c.if-root-eq-NONE.true

pub insert-left-requires : goal.insert-left-requires
insert-left-requires t c = (
  rw (← c.decreases) (left_lower c.args.nodes.now c.args.root c.args.gap c.args.fresh c.if-root-eq-NONE.false c.requires),
  left_of c.args.nodes.now c.args.root c.args.gap c.args.fresh c.if-root-eq-NONE.false c.requires,
)

pub join-requires : goal.join-requires
join-requires t c =
    join_left_of c.args.nodes.now c.args.root c.args.gap c.args.fresh c.if-root-eq-NONE.false c.insert-left.new.nodes c.insert-left.result
    (sym c.comes_before.ensures ∙ c.if-comes_before.true) c.insert-left.ensures c.requires

pub returns-then-comes_before : goal.returns-then-comes_before
returns-then-comes_before t c =
    inserted_left_of c.args.nodes.now c.args.root c.args.gap c.args.fresh c.if-root-eq-NONE.false c.insert-left.new.nodes c.insert-left.result c.join.new.nodes c.join.result
    (sym c.comes_before.ensures ∙ c.if-comes_before.true) c.insert-left.ensures c.join.ensures

pub insert-right-requires : goal.insert-right-requires
insert-right-requires t c = (
  rw (← c.decreases) (right_lower c.args.nodes.now c.args.root c.args.gap c.args.fresh c.if-root-eq-NONE.false c.requires),
  right_of c.args.nodes.now c.args.root c.args.gap c.args.fresh c.if-root-eq-NONE.false c.requires,
)

pub join-requires-2 : goal.join-requires-2
join-requires-2 t c =
    join_right_of c.args.nodes.now c.args.root c.args.gap c.args.fresh c.if-root-eq-NONE.false c.insert-right.new.nodes c.insert-right.result
    (sym c.comes_before.ensures ∙ c.if-comes_before.false) c.insert-right.ensures c.requires

pub returns : goal.returns
returns t c =
    inserted_right_of c.args.nodes.now c.args.root c.args.gap c.args.fresh c.if-root-eq-NONE.false c.insert-right.new.nodes c.insert-right.result c.join-2.new.nodes c.join-2.result
    (sym c.comes_before.ensures ∙ c.if-comes_before.false) c.insert-right.ensures c.join-2.ensures
