use Rattle.std.proofs.Common.{Result, Ok, Err, subst}
use Rattle.std.specs.Prelude.{OnOk}
use Rattle.one_heap.specs.Lone.{LoneHeap, Walks, seen_by}
use Rattle.one_heap.proofs.Locks.{walks}
use Rattle.one_heap.proofs.OneHeap.walk.Goals as goal

on_ok : {A E : Type 0} (r : Result A E) (P Q : Type 0) → (P → Q) → OnOk r P → OnOk r Q
on_ok (Ok a) P Q f p = f p
on_ok (Err e) P Q f p = tt

pub returns : goal.returns
returns c =
    let i = c.self.inside in
    let d = c.walk.new.c in
    on_ok c.walk.result _ _ (λ w. (w.0, w.1, subst (λ (old : LoneHeap). Walks old (seen_by i.heap d) w.0) c.self.view_is (walks i.heap i.root i.caller d c.self.invariant w.0 w.2))) c.walk.ensures.walked
