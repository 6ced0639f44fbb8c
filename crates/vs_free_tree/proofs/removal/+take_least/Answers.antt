-- The least node is that of the left side, unless that is empty.
use Rattle.vs_free_tree.proofs.LeastTaken.{least_itself, can_take_left, left_lower, can_join_of, taken_of}
use Rattle.vs_free_tree.proofs.removal.+take_least.Goals as goal

pub returns-then-slot : goal.returns-then-slot
returns-then-slot t c = least_itself c.args.nodes.now c.args.root c.if-slot.true

pub take_least-rest-requires : goal.take_least-rest-requires
take_least-rest-requires t c =
    (rw (← c.decreases) (left_lower c.args.nodes.now c.args.root c.if-slot.false c.requires), can_take_left c.args.nodes.now c.args.root c.if-slot.false c.requires)

pub join-requires : goal.join-requires
join-requires t c =
    can_join_of c.args.nodes.now c.args.root c.if-slot.false c.take_least-rest.new.nodes c.take_least-rest.result c.take_least-rest.ensures c.requires

pub returns : goal.returns
returns t c =
    taken_of c.args.nodes.now c.args.root c.if-slot.false c.take_least-rest.new.nodes c.take_least-rest.result c.take_least-rest.ensures c.join.new.nodes c.join.result
    c.join.ensures
