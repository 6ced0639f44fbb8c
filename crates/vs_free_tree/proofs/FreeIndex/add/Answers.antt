-- The first free node takes the gap.
use Rattle.vs_free_tree.proofs.ViewLemmas.{spare_some, free_within, can_put, put_in}
use Rattle.vs_free_tree.proofs.FreeIndex.add.Goals as goal

pub index-requires : goal.index-requires
index-requires c = free_within c.self.inside c.args.self.now c.self.invariant c.self.view_is (c.args.units, c.args.at) c.requires.room c.requires.absent

pub overflow_sub-self : goal.overflow_sub-self
overflow_sub-self c = spare_some c.self.inside c.args.self.now c.self.invariant c.self.view_is (c.args.units, c.args.at) c.requires.room c.requires.absent

pub insert-self-inside-requires : goal.insert-self-inside-requires
insert-self-inside-requires c =
    can_put c.self.inside c.args.self.now c.self.invariant c.self.view_is (c.args.units, c.args.at) c.requires.room c.requires.absent c.deref_mut.result.now
    c.deref_mut.ensures.value

pub invariant_of-self : goal.invariant_of-self
invariant_of-self c =
    (put_in c.self.inside c.args.self.now c.self.invariant c.self.view_is (c.args.units, c.args.at) c.requires.room c.requires.absent c.deref_mut.result.now
    c.insert-self-inside.new.nodes c.insert-self-inside.result c.index.result.now c.deref_mut.ensures.value c.insert-self-inside.ensures c.index.ensures).keeps

pub returns-clause-gaps : goal.returns-clause-gaps
returns-clause-gaps c =
    (put_in c.self.inside c.args.self.now c.self.invariant c.self.view_is (c.args.units, c.args.at) c.requires.room c.requires.absent c.deref_mut.result.now
    c.insert-self-inside.new.nodes c.insert-self-inside.result c.index.result.now c.deref_mut.ensures.value c.insert-self-inside.ensures c.index.ensures).gaps

pub returns-clause-changed : goal.returns-clause-changed
returns-clause-changed c =
    (put_in c.self.inside c.args.self.now c.self.invariant c.self.view_is (c.args.units, c.args.at) c.requires.room c.requires.absent c.deref_mut.result.now
    c.insert-self-inside.new.nodes c.insert-self-inside.result c.index.result.now c.deref_mut.ensures.value c.insert-self-inside.ensures c.index.ensures).changes
