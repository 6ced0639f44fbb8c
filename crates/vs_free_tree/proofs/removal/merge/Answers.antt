-- The least node of the right tree stands between the left tree and the rest.
use Rattle.vs_free_tree.proofs.Merged.{merged_left, can_take_least, can_join_of, merged_of}
use Rattle.vs_free_tree.proofs.removal.merge.Goals as goal

pub returns-then-right-eq-NONE : goal.returns-then-right-eq-NONE
returns-then-right-eq-NONE c = merged_left c.args.nodes.now c.args.left c.args.right c.if-right-eq-NONE.true

pub take_least-rest-requires : goal.take_least-rest-requires
take_least-rest-requires c = can_take_least c.args.nodes.now c.args.left c.args.right c.if-right-eq-NONE.false c.requires

pub join-requires : goal.join-requires
join-requires c =
    can_join_of c.args.nodes.now c.args.left c.args.right c.if-right-eq-NONE.false c.take_least-rest.new.nodes c.take_least-rest.result c.take_least-rest.ensures c.requires

pub returns : goal.returns
returns c =
    merged_of c.args.nodes.now c.args.left c.args.right c.if-right-eq-NONE.false c.take_least-rest.new.nodes c.take_least-rest.result c.take_least-rest.ensures c.join.new.nodes
    c.join.result c.join.ensures
