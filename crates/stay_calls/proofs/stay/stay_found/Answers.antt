use Rattle.heap_model.specs.declared.Call.TheVariants as calls
use Rattle.stay_calls.proofs.stay.stay_found.Goals as goal

pub returns-in-Nowhere : goal.returns-in-Nowhere
returns-in-Nowhere c = (c.say_none.ensures (calls.Realloc c.args.addr c.args.n c.args.flags) c.requires.call).makes
