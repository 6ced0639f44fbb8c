use Rattle.std.proofs.Common.{ℕ, ◌∙◌, Option, sym, subst, ap}
use Rattle.heap_model.specs.declared.Opening.{Opening}
use Rattle.heap_model.specs.Limits.{AreValid}
use Rattle.paged_calls.specs.Parts.{Measures}
use Rattle.address_calls.proofs.Parts.{call_of, measured_more, measured_words}
use Rattle.address_calls.specs.Tagged.{MeasuresAsFront}
use Rattle.address_calls.proofs.AtOnce.{measured_front}
use Rattle.address_calls.proofs.blocks.measure_there.Goals as goal

pub hear_slots-requires-clause-table : goal.hear_slots-requires-clause-table
hear_slots-requires-clause-table c =
    let a = c.args.c.now in let k = call_of a c.args.addr c.args.found c.requires.found in
    let f = subst (λ (o : Option ℕ). Measures a c.measure_found.new.c c.args.addr o) c.in-Some.is c.measure_found.ensures.measured in
    (f k.0 k.1).goes.table ∙ c.requires.table.0

pub hear_slots-requires-clause-whole : goal.hear_slots-requires-clause-whole
hear_slots-requires-clause-whole c =
    let a = c.args.c.now in let k = call_of a c.args.addr c.args.found c.requires.found in
    let f = subst (λ (o : Option ℕ). Measures a c.measure_found.new.c c.args.addr o) c.in-Some.is c.measure_found.ensures.measured in
    (f k.0 k.1).stands.whole

pub returns-clause-measured : goal.returns-clause-measured
returns-clause-measured c =
    let a = c.args.c.now in
    let f = subst (λ (o : Option ℕ). Measures a c.measure_found.new.c c.args.addr o) c.in-Some.is c.measure_found.ensures.measured in
    measured_more a c.measure_found.new.c c.hear_slots.new.c c.args.addr c.in-Some.size f c.hear_slots.ensures.runs c.hear_slots.ensures.stands

pub returns-clause-words : goal.returns-clause-words
returns-clause-words c =
    let a = c.args.c.now in let d = c.hear_slots.new.c in let k = call_of a c.args.addr c.args.found c.requires.found in
    let f = subst (λ (o : Option ℕ). Measures a c.measure_found.new.c c.args.addr o) c.in-Some.is c.measure_found.ensures.measured in
    let g = measured_more a c.measure_found.new.c d c.args.addr c.in-Some.size f c.hear_slots.ensures.runs c.hear_slots.ensures.stands in
    let valid = subst AreValid (c.limits-limits.ensures.limits ∙ ap (λ (o : Opening). o.limits) (sym c.requires.table.1)) c.limits-limits.ensures.valid in
    measured_words a d c.args.addr c.in-Some.size k.0 k.1 valid g c.check.ensures.legal c.hear_slots.ensures.slots

pub returns-clause-front : goal.returns-clause-front
returns-clause-front c =
    let a = c.args.c.now in let b = c.measure_found.new.c in
    let f = subst (λ (o : Option ℕ). MeasuresAsFront c.args.found a b c.args.addr o) c.in-Some.is c.measure_found.ensures.front in
    measured_front c.args.found a b c.hear_slots.new.c c.args.addr c.in-Some.size f c.hear_slots.ensures.runs c.hear_slots.ensures.stands
