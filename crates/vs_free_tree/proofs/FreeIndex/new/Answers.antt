-- Each node that is made is free, and there is room for all.
use Rattle.std.proofs.Common.{◌≡◌, ◌++◌, ◌∷◌, [], ap, subst, ◌∙◌, arith}
use Rattle.std.specs.Vec.{vec_capacity}
use Rattle.vs_free_tree.specs.declared.tree.Slot.{Slot}
use Rattle.vs_free_tree.proofs.NewLemmas.{AreNew, new_none, new_more, kept_new, seen_new}
use Rattle.vs_free_tree.proofs.FreeIndex.new.Goals as goal

pub loop-number-init : goal.loop-number-init
loop-number-init c = record { new = new_none c.in_ok-nodes.nodes.items c.in_ok-nodes.ensures.items; room = c.in_ok-nodes.ensures.capacity }

pub unwrap-requires : goal.unwrap-requires
unwrap-requires c =
    c.push.ensures.succeeds (omega (arith, c.loop-number.nodes.ok.0, c.loop-number.invariant.new.long, c.loop-number.invariant.room, c.loop-number-test.true))

pub loop-number-preserved : goal.loop-number-preserved
loop-number-preserved c =
    let items = rw c.unwrap.ensures at c.push.ensures.items in
    record {
      new =
          new_more c.loop-number.nodes.items c.push.new.self.items c.loop-number.free c.loop-number.number c.loop-number.invariant.new
          (items ∙ ap (λ (v : Slot). c.loop-number.nodes.items ++ v ∷ []) c.free.ensures);
      room = omega (arith, c.loop-number.invariant.room, c.push.ensures.capacity);
    }

pub invariant_of-result : goal.invariant_of-result
invariant_of-result c =
    let all : c.loop-number.number ≡ c.args.capacity = omega arith in
    kept_new c.loop-number.nodes.items c.loop-number.free c.args.capacity (omega arith)
    (subst (λ n. AreNew c.loop-number.nodes.items c.loop-number.free n) all c.loop-number.invariant.new)

pub returns : goal.returns
returns c =
    let all : c.loop-number.number ≡ c.args.capacity = omega arith in
    seen_new c.loop-number.nodes.items c.loop-number.free c.args.capacity (omega arith)
    (subst (λ n. AreNew c.loop-number.nodes.items c.loop-number.free n) all c.loop-number.invariant.new) (vec_capacity c.loop-number.nodes)
