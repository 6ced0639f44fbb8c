use Rattle.std.proofs.Common.{◌+◌, ◌-◌, ◌/◌, sym, subst, arith, leb}
use Rattle.std.proofs.lemmas.Bool.{and_from, le-leb}
use Rattle.heap_model.specs.declared.Call.TheVariants as calls
use Rattle.heap_model.specs.Buckets.{block_size}
use Rattle.heap_model.specs.Geometry.{words_of}
use Rattle.heap_gate.specs.Token.{Token}
use Rattle.call_parts.proofs.Handing.{zeroed}
use Rattle.front_calls.proofs.Steps.{found_none}
use Rattle.small_calls.proofs.Given.{ends_within, may_publish, rests}
use Rattle.stay_calls.specs.Stays.{StaysAt}
use Rattle.stay_calls.proofs.FrontStays.{has_one, given_again}
use Rattle.stay_calls.proofs.front.give_again.Goals as goal

pub returns-in_default : goal.returns-in_default
returns-in_default c =
    let v = c.requires.front.free in
    (found_none c.args.c.now c.take_live.new.c v.0 c.args.addr v.1 c.in_default.ensures.none (calls.Realloc c.args.addr c.args.n c.args.flags) c.requires.call).makes

pub zero_gained-requires-clause-there : goal.zero_gained-requires-clause-there
zero_gained-requires-clause-there c =
    let a = c.args.c.now in let b = c.take_live.new.c in let v = c.requires.front.free in
    let one = has_one a b v.0 c.args.tag c.args.addr c.in-Some.size c.args.n c.args.flags v.1 c.check.ensures.stands c.in-Some.ensures.taken in
    let e = ends_within b c.args.tag.bucket c.args.addr one c.check-2.ensures.legal in let l = c.requires.keeps.1 in
    omega (arith, e, l)

pub publish-requires-clause-may : goal.publish-requires-clause-may
publish-requires-clause-may c =
    let a = c.args.c.now in let b = c.take_live.new.c in let z = c.zero_gained.new.c in let v = c.requires.front.free in let size = c.in-Some.size in let n = c.args.n in let x = c.in-Some.ensures.taken in let flags = c.args.flags in let addr = c.args.addr in
    let one = has_one a b v.0 c.args.tag addr size n flags v.1 c.check.ensures.stands x in
    let zz = zeroed b z (addr / 8 + words_of size) (words_of n - words_of size) flags.zero x.stands.whole c.zero_gained.ensures in
    may_publish b z c.args.tag.bucket addr n (addr / 8 + words_of size) (words_of n - words_of size) flags.zero one zz c.check-3.ensures.stands c.requires.keeps.1 c.requires.keeps.0

pub rest-requires : goal.rest-requires
rest-requires c =
    let a = c.args.c.now in let b = c.take_live.new.c in let z = c.zero_gained.new.c in let v = c.requires.front.free in let size = c.in-Some.size in let n = c.args.n in let x = c.in-Some.ensures.taken in let flags = c.args.flags in let addr = c.args.addr in
    let one = has_one a b v.0 c.args.tag addr size n flags v.1 c.check.ensures.stands x in
    let zz = zeroed b z (addr / 8 + words_of size) (words_of n - words_of size) flags.zero x.stands.whole c.zero_gained.ensures in
    record { rests = rests b z c.args.tag.bucket addr n (addr / 8 + words_of size) (words_of n - words_of size) flags.zero one zz c.check-3.ensures.stands c.publish.new.c c.publish.ensures c.check-4.ensures.stands }

pub returns : goal.returns
returns c =
    let a = c.args.c.now in let b = c.take_live.new.c in let z = c.zero_gained.new.c in let v = c.requires.front.free in let size = c.in-Some.size in let n = c.args.n in let x = c.in-Some.ensures.taken in let flags = c.args.flags in let addr = c.args.addr in
    let zz = zeroed b z (addr / 8 + words_of size) (words_of n - words_of size) flags.zero x.stands.whole c.zero_gained.ensures in
    let stays = and_from (leb n 16368) (leb n (block_size c.args.tag.bucket)) (le-leb n 16368 c.requires.keeps.0) (le-leb n (block_size c.args.tag.bucket) c.requires.keeps.1) in
    subst (λ (t : Token). StaysAt a t addr n flags) (sym c.rest.ensures)
    (given_again a b v.0 c.args.tag addr size n flags v.1 c.check.ensures.stands x z zz c.publish.new.c c.publish.ensures c.check-2.ensures.legal c.requires.call stays)
