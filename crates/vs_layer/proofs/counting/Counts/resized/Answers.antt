use Rattle.std.proofs.Common.{arith, ◌≡◌, ◌<◌, ◌∙◌, length, Some, ap, subst, sym}
use Rattle.std.proofs.lemmas.List.{get_or_read}
use Rattle.heap_model.specs.Buckets.{bucket_of}
use Rattle.vs_layer.specs.Counted.{CanGrow}
use Rattle.vs_layer.proofs.Counts.{still_can_grow, less_length, has_counter}
use Rattle.vs_layer.proofs.counting.Counts.resized.Goals as goal

pub overflow_add-index_mut : goal.overflow_add-index_mut
overflow_add-index_mut c =
    let live = c.dropped.new.self.live.items in
    let grows : CanGrow live = subst CanGrow (sym c.dropped.ensures.live) (still_can_grow (bucket_of c.args.old) c.args.self.now.live.items c.requires.room) in
    let bucket : bucket_of c.args.new ≡ Some c.in-Some.bucket = sym c.bucket_of.ensures ∙ c.in-Some.is in
    let long : length live ≡ 129 = ap length c.dropped.ensures.live ∙ less_length (bucket_of c.args.old) c.args.self.now.live.items ∙ c.requires.live_for in
    let few : c.from.result < length live = omega (arith, has_counter c.args.new c.in-Some.bucket bucket) in
    let read = get_or_read live c.from.result c.index_mut.result.now few c.index_mut.ensures.value 0 in
    omega (arith, read, grows c.from.result)
