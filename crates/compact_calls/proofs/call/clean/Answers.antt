use Rattle.std.proofs.Common.{[], refl}
use Rattle.heap_model.specs.declared.Call.TheVariants as calls
use Rattle.heap_model.specs.declared.What.TheVariants as whats
use Rattle.backend_fit.specs.Kept.{layer_of}
use Rattle.compact_calls.proofs.Doing.{did_take}
use Rattle.compact_calls.proofs.Calling.{cleaned}
use Rattle.compact_calls.proofs.call.clean.Goals as goal

pub returns : goal.returns
returns c =
    let e = c.decommit_pages-number.ensures in
    cleaned c.args.c.now c.own_back-back.new.c c.retire_empties.new.c c.decommit_pages-number.new.c c.retire_empties.new.back c.decommit_pages-number.new.back c.decommit_pages-number.result
    (did_take layer_of c.args.c.now c.own_back-back.new.c calls.Compact [] whats.Back c.own_back-back.result refl c.requires.owning c.own_back-back.ensures)
    c.retire_empties.ensures.did c.retire_empties.ensures.back c.retire_empties.ensures.used e.did e.number e.back e.spans e.clean e.front
