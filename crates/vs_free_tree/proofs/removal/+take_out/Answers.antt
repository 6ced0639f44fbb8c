-- The node is taken out of the side where its gap belongs, or its two sides are merged.
use Rattle.std.proofs.Common.{Option, sym, subst, ◌∙◌}
use Rattle.vs_free_tree.specs.declared.removal.Taken.{Taken}
use Rattle.vs_free_tree.specs.Slots.{IsTakenOut}
use Rattle.vs_free_tree.proofs.TakenOut.{left_of, right_of, left_lower, right_lower, can_merge, merged_of, lacks_left_of, lacks_right_of, join_left_of, join_right_of, taken_left_of, taken_right_of}
use Rattle.vs_free_tree.proofs.removal.+take_out.Goals as goal

pub take_out-requires : goal.take_out-requires
take_out-requires t c = (
  rw (← c.decreases) (left_lower c.args.nodes.now c.args.root c.args.gap c.if-root-eq-NONE.false c.requires),
  left_of c.args.nodes.now c.args.root c.args.gap c.if-root-eq-NONE.false c.requires,
)

pub returns-in_err-rest : goal.returns-in_err-rest
returns-in_err-rest t c =
    subst (λ (r : Option Taken). IsTakenOut c.args.nodes.now c.take_out.new.nodes c.args.root c.args.gap r) (sym c.from_residual.ensures)
    (lacks_left_of c.args.nodes.now c.args.root c.args.gap c.if-root-eq-NONE.false c.take_out.new.nodes (sym c.comes_before.ensures ∙ c.if-comes_before.true) c.in_err-rest.ensures)

pub join-requires : goal.join-requires
join-requires t c =
    join_left_of c.args.nodes.now c.args.root c.args.gap c.if-root-eq-NONE.false c.take_out.new.nodes c.in_ok-rest.rest c.in_ok-rest.ensures c.requires

pub returns-then-comes_before : goal.returns-then-comes_before
returns-then-comes_before t c =
    taken_left_of c.args.nodes.now c.args.root c.args.gap c.if-root-eq-NONE.false c.take_out.new.nodes c.in_ok-rest.rest c.join.new.nodes c.join.result c.in_ok-rest.ensures c.join.ensures

pub take_out-requires-then-comes_before-2 : goal.take_out-requires-then-comes_before-2
take_out-requires-then-comes_before-2 t c = (
  rw (← c.decreases) (right_lower c.args.nodes.now c.args.root c.args.gap c.if-root-eq-NONE.false c.requires),
  right_of c.args.nodes.now c.args.root c.args.gap c.if-root-eq-NONE.false c.requires,
)

pub returns-in_err-rest-2 : goal.returns-in_err-rest-2
returns-in_err-rest-2 t c =
    subst (λ (r : Option Taken). IsTakenOut c.args.nodes.now c.take_out-then-comes_before-2.new.nodes c.args.root c.args.gap r)
    (sym c.from_residual-in_err-rest-2.ensures)
    (lacks_right_of c.args.nodes.now c.args.root c.args.gap c.if-root-eq-NONE.false c.take_out-then-comes_before-2.new.nodes
    (sym c.comes_before-2.ensures ∙ c.if-comes_before-2.true) c.in_err-rest-2.ensures)

pub join-requires-then-comes_before-2 : goal.join-requires-then-comes_before-2
join-requires-then-comes_before-2 t c =
    join_right_of c.args.nodes.now c.args.root c.args.gap c.if-root-eq-NONE.false c.take_out-then-comes_before-2.new.nodes c.in_ok-rest-2.rest c.in_ok-rest-2.ensures c.requires

pub returns-then-comes_before-2 : goal.returns-then-comes_before-2
returns-then-comes_before-2 t c =
    taken_right_of c.args.nodes.now c.args.root c.args.gap c.if-root-eq-NONE.false c.take_out-then-comes_before-2.new.nodes c.in_ok-rest-2.rest
    c.join-then-comes_before-2.new.nodes c.join-then-comes_before-2.result c.in_ok-rest-2.ensures c.join-then-comes_before-2.ensures

pub merge-requires : goal.merge-requires
merge-requires t c = can_merge c.args.nodes.now c.args.root c.args.gap c.if-root-eq-NONE.false c.requires

pub returns : goal.returns
returns t c =
    merged_of c.args.nodes.now c.args.root c.args.gap c.if-root-eq-NONE.false c.merge.new.nodes c.merge.result (sym c.comes_before.ensures ∙ c.if-comes_before.false)
    (sym c.comes_before-2.ensures ∙ c.if-comes_before-2.false) c.merge.ensures
