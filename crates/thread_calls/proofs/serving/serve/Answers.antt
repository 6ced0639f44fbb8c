use Rattle.heap_model.specs.declared.Call.TheVariants as calls
use Rattle.thread_calls.proofs.Served.{serves_alloc, serves_realloc, serves_free, serves_size, serves_get, serves_put, serves_compact, at_call, at_depth, kept_depth}
use Rattle.thread_calls.proofs.serving.serve.Goals as goal

pub returns-in-Alloc-clause-served : goal.returns-in-Alloc-clause-served
returns-in-Alloc-clause-served g c =
    let a = c.args.c.now in let b = c.place.new.c in
    at_call a b c.args.call (calls.Alloc c.in-Alloc.n c.in-Alloc.flags) c.place.result c.in-Alloc.is (serves_alloc a b c.place.result c.in-Alloc.n c.in-Alloc.flags c.place.ensures.gets)

pub returns-in-Realloc-clause-served : goal.returns-in-Realloc-clause-served
returns-in-Realloc-clause-served g c =
    let a = c.args.c.now in let b = c.change.new.c in
    let i = c.in-Realloc in at_call a b c.args.call (calls.Realloc i.addr i.n i.flags) c.change.result i.is (serves_realloc a b c.change.result i.addr i.n i.flags c.change.ensures.gets)

pub returns-in-Free-clause-served : goal.returns-in-Free-clause-served
returns-in-Free-clause-served g c =
    let a = c.args.c.now in let b = c.give_up.new.c in
    at_call a b c.args.call (calls.Free c.in-Free.addr) c.give_up.result c.in-Free.is (serves_free a b c.give_up.result c.in-Free.addr c.give_up.ensures.gets)

pub returns-in-Size-clause-served : goal.returns-in-Size-clause-served
returns-in-Size-clause-served g c =
    let a = c.args.c.now in let b = c.ask.new.c in
    at_call a b c.args.call (calls.Size c.in-Size.addr) c.ask.result c.in-Size.is (serves_size a b c.ask.result c.in-Size.addr c.ask.ensures.gets)

pub returns-in-Get-clause-served : goal.returns-in-Get-clause-served
returns-in-Get-clause-served g c =
    let a = c.args.c.now in let b = c.read.new.c in
    at_call a b c.args.call (calls.Get c.in-Get.addr c.in-Get.index) c.read.result c.in-Get.is (serves_get a b c.read.result c.in-Get.addr c.in-Get.index c.read.ensures.gets)

pub returns-in-Put-clause-served : goal.returns-in-Put-clause-served
returns-in-Put-clause-served g c =
    let a = c.args.c.now in let b = c.write.new.c in
    at_call a b c.args.call (calls.Put c.in-Put.addr c.in-Put.index c.in-Put.value) c.write.result c.in-Put.is
    (serves_put a b c.write.result c.in-Put.addr c.in-Put.index c.in-Put.value c.write.ensures.gets)

pub returns-in-Compact-clause-served : goal.returns-in-Compact-clause-served
returns-in-Compact-clause-served g c =
    let a = c.args.c.now in let b = c.press.new.c in at_call a b c.args.call calls.Compact c.press.result c.in-Compact.is (serves_compact a b c.press.result c.press.ensures.gets)

pub returns-in-Alloc-clause-depth : goal.returns-in-Alloc-clause-depth
returns-in-Alloc-clause-depth g c =
    let a = c.args.c.now in let b = c.place.new.c in at_depth a.depth b.depth c.args.call (calls.Alloc c.in-Alloc.n c.in-Alloc.flags) c.in-Alloc.is (kept_depth a b (calls.Alloc c.in-Alloc.n c.in-Alloc.flags) c.place.result c.place.ensures.gets)

pub returns-in-Realloc-clause-depth : goal.returns-in-Realloc-clause-depth
returns-in-Realloc-clause-depth g c =
    let a = c.args.c.now in let b = c.change.new.c in
    let i = c.in-Realloc in at_depth a.depth b.depth c.args.call (calls.Realloc i.addr i.n i.flags) i.is (kept_depth a b (calls.Realloc i.addr i.n i.flags) c.change.result c.change.ensures.gets)

pub returns-in-Free-clause-depth : goal.returns-in-Free-clause-depth
returns-in-Free-clause-depth g c =
    let a = c.args.c.now in let b = c.give_up.new.c in at_depth a.depth b.depth c.args.call (calls.Free c.in-Free.addr) c.in-Free.is (kept_depth a b (calls.Free c.in-Free.addr) c.give_up.result c.give_up.ensures.gets)

pub returns-in-Size-clause-depth : goal.returns-in-Size-clause-depth
returns-in-Size-clause-depth g c =
    let a = c.args.c.now in let b = c.ask.new.c in at_depth a.depth b.depth c.args.call (calls.Size c.in-Size.addr) c.in-Size.is (kept_depth a b (calls.Size c.in-Size.addr) c.ask.result c.ask.ensures.gets)

pub returns-in-Get-clause-depth : goal.returns-in-Get-clause-depth
returns-in-Get-clause-depth g c =
    let a = c.args.c.now in let b = c.read.new.c in at_depth a.depth b.depth c.args.call (calls.Get c.in-Get.addr c.in-Get.index) c.in-Get.is (kept_depth a b (calls.Get c.in-Get.addr c.in-Get.index) c.read.result c.read.ensures.gets)

pub returns-in-Put-clause-depth : goal.returns-in-Put-clause-depth
returns-in-Put-clause-depth g c =
    let a = c.args.c.now in let b = c.write.new.c in at_depth a.depth b.depth c.args.call (calls.Put c.in-Put.addr c.in-Put.index c.in-Put.value) c.in-Put.is (kept_depth a b (calls.Put c.in-Put.addr c.in-Put.index c.in-Put.value) c.write.result c.write.ensures.gets)

pub returns-in-Compact-clause-depth : goal.returns-in-Compact-clause-depth
returns-in-Compact-clause-depth g c =
    let a = c.args.c.now in let b = c.press.new.c in at_depth a.depth b.depth c.args.call calls.Compact c.in-Compact.is (kept_depth a b calls.Compact c.press.result c.press.ensures.gets)
