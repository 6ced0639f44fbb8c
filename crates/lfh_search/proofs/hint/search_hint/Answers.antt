use Rattle.std.proofs.lemmas.Bool.{both_ways}
use Rattle.heap_model.specs.declared.What.TheVariants as whats
use Rattle.heap_gate.specs.Token.{is_out}
use Rattle.lfh_search.proofs.hint.search_hint.Goals as goal

pub pass_from_hint-requires-clause-paid : goal.pass_from_hint-requires-clause-paid
pass_from_hint-requires-clause-paid g c = λ o. absurd (both_ways (is_out whats.Back c.args.c.now.out) c.requires.free o)

pub pass_from_hint-requires-clause-hint : goal.pass_from_hint-requires-clause-hint
pass_from_hint-requires-clause-hint g c = λ o. absurd (both_ways (is_out whats.Back c.args.c.now.out) c.requires.free o)
