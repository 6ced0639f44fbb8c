use Rattle.std.proofs.Common.{◌/◌, ◌*◌, ◌<◌, ◌∙◌, refl, sym, subst, arith}
use Rattle.heap_model.specs.declared.Opening.{Opening}
use Rattle.lfh_buckets.proofs.BlockLemmas.{size_in_granules}
use Rattle.heap_gate.specs.Token.{Token}
use Rattle.call_parts.proofs.Handing.{zeroed}
use Rattle.small_calls.specs.Fronts.{IsHandedOver}
use Rattle.small_calls.proofs.Given.{ends_within, may_publish, rests, handed_over}
use Rattle.small_calls.proofs.front.hand_over_front.Goals as goal

pub zero_words-requires-clause-whole : goal.zero_words-requires-clause-whole
zero_words-requires-clause-whole c = c.requires.one.3.whole

pub zero_words-requires-clause-inside : goal.zero_words-requires-clause-inside
zero_words-requires-clause-inside c = c.requires.one.3.inside

pub zero_words-requires-clause-there : goal.zero_words-requires-clause-there
zero_words-requires-clause-there c =
    let one = c.requires.one in
    let e = ends_within c.args.c.now one.0 c.args.addr one.3 c.check.ensures.legal in
    let w = c.div_ceil.ensures in let l = one.2 in
    omega (arith, e, w, l)

pub publish-requires-clause-table : goal.publish-requires-clause-table
publish-requires-clause-table c =
    let z = zeroed c.args.c.now c.zero_words.new.c (c.args.addr / 8) c.div_ceil.result c.args.zero c.requires.one.3.whole c.zero_words.ensures in
    (z.added.goes.table ∙ c.requires.table.0, z.added.goes.opening ∙ c.requires.table.1)

pub publish-requires-clause-whole : goal.publish-requires-clause-whole
publish-requires-clause-whole c = (zeroed c.args.c.now c.zero_words.new.c (c.args.addr / 8) c.div_ceil.result c.args.zero c.requires.one.3.whole c.zero_words.ensures).whole

pub publish-requires-clause-inside : goal.publish-requires-clause-inside
publish-requires-clause-inside c = (zeroed c.args.c.now c.zero_words.new.c (c.args.addr / 8) c.div_ceil.result c.args.zero c.requires.one.3.whole c.zero_words.ensures).added.steady.inside ∙ c.requires.one.3.inside

pub publish-requires-clause-there : goal.publish-requires-clause-there
publish-requires-clause-there c =
    let one = c.requires.one in
    let z = zeroed c.args.c.now c.zero_words.new.c (c.args.addr / 8) c.div_ceil.result c.args.zero one.3.whole c.zero_words.ensures in
    let e = ends_within c.args.c.now one.0 c.args.addr one.3 c.check.ensures.legal in
    let some = (size_in_granules one.0 one.1).1 in
    subst (λ (o : Opening). c.args.addr < 1048576 * o.limits.segments) (sym z.added.goes.opening) (omega (arith, e, some))

pub publish-requires-clause-may : goal.publish-requires-clause-may
publish-requires-clause-may c =
    let one = c.requires.one in
    let z = zeroed c.args.c.now c.zero_words.new.c (c.args.addr / 8) c.div_ceil.result c.args.zero one.3.whole c.zero_words.ensures in
    may_publish c.args.c.now c.zero_words.new.c one.0 c.args.addr c.args.n (c.args.addr / 8) c.div_ceil.result c.args.zero one.3 z c.check-2.ensures.stands one.2 c.requires.size

pub rest-requires : goal.rest-requires
rest-requires c =
    let one = c.requires.one in
    let z = zeroed c.args.c.now c.zero_words.new.c (c.args.addr / 8) c.div_ceil.result c.args.zero one.3.whole c.zero_words.ensures in
    record { rests = rests c.args.c.now c.zero_words.new.c one.0 c.args.addr c.args.n (c.args.addr / 8) c.div_ceil.result c.args.zero one.3 z c.check-2.ensures.stands c.publish.new.c c.publish.ensures c.check-3.ensures.stands }

pub returns : goal.returns
returns c =
    let one = c.requires.one in
    let z = zeroed c.args.c.now c.zero_words.new.c (c.args.addr / 8) c.div_ceil.result c.args.zero one.3.whole c.zero_words.ensures in
    subst (λ (t : Token). IsHandedOver c.args.c.now t c.args.addr c.args.n c.args.zero) (sym c.rest.ensures)
    (handed_over c.args.c.now c.zero_words.new.c one.0 c.args.addr c.args.n (c.args.addr / 8) c.div_ceil.result c.args.zero one.3 z c.check-2.ensures.stands c.publish.new.c c.publish.ensures c.check-3.ensures.stands
    c.zero_words.ensures refl (omega (arith, c.div_ceil.ensures)))
