-- The node of the gap becomes the first free one, or nothing changes.
use Rattle.std.proofs.Common.{sym}
use Rattle.vs_free_tree.proofs.ViewLemmas.{can_take, absent_gap, untaken, taken_within, held_gap, taken_out}
use Rattle.vs_free_tree.proofs.FreeIndex.remove.Goals as goal

pub take_out-requires : goal.take_out-requires
take_out-requires c =
    can_take c.self.inside c.args.self.now c.self.invariant c.self.view_is (c.args.units, c.args.at) c.deref_mut.result.now c.deref_mut.ensures.value

pub returns-in_default-clause-found : goal.returns-in_default-clause-found
returns-in_default-clause-found c =
    sym (absent_gap c.self.inside c.args.self.now c.self.invariant c.self.view_is (c.args.units, c.args.at) c.deref_mut.result.now c.take_out.new.nodes c.deref_mut.ensures.value
    c.in_default.ensures)

pub returns-in_default-clause-gaps : goal.returns-in_default-clause-gaps
returns-in_default-clause-gaps c =
    untaken c.self.inside c.args.self.now c.self.invariant c.self.view_is (c.args.units, c.args.at) c.deref_mut.result.now c.take_out.new.nodes c.deref_mut.ensures.value
    c.in_default.ensures

pub index_mut-requires : goal.index_mut-requires
index_mut-requires c =
    taken_within c.self.inside c.args.self.now c.self.invariant c.self.view_is (c.args.units, c.args.at) c.deref_mut.result.now c.take_out.new.nodes c.deref_mut.ensures.value
    c.in-Some.taken c.in-Some.ensures

pub invariant_of-self-2 : goal.invariant_of-self-2
invariant_of-self-2 c =
    (taken_out c.self.inside c.args.self.now c.self.invariant c.self.view_is (c.args.units, c.args.at) c.deref_mut.result.now c.take_out.new.nodes c.deref_mut.ensures.value
    c.in-Some.taken c.in-Some.ensures c.free.result c.free.ensures).keeps

pub returns-clause-found : goal.returns-clause-found
returns-clause-found c =
    sym (held_gap c.self.inside c.args.self.now c.self.invariant c.self.view_is (c.args.units, c.args.at) c.deref_mut.result.now c.take_out.new.nodes c.deref_mut.ensures.value
    c.in-Some.taken c.in-Some.ensures)

pub returns-clause-gaps : goal.returns-clause-gaps
returns-clause-gaps c =
    (taken_out c.self.inside c.args.self.now c.self.invariant c.self.view_is (c.args.units, c.args.at) c.deref_mut.result.now c.take_out.new.nodes c.deref_mut.ensures.value
    c.in-Some.taken c.in-Some.ensures c.free.result c.free.ensures).gaps

pub returns-clause-changed : goal.returns-clause-changed
returns-clause-changed c =
    (taken_out c.self.inside c.args.self.now c.self.invariant c.self.view_is (c.args.units, c.args.at) c.deref_mut.result.now c.take_out.new.nodes c.deref_mut.ensures.value
    c.in-Some.taken c.in-Some.ensures c.free.result c.free.ensures).changes
