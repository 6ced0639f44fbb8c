use Rattle.std.proofs.Common.{sym, ◌∙◌, arith}
use Rattle.lfh_claims.specs.Search.{own_slot}
use Rattle.lfh_search.proofs.Passing.{can_read, all_read}
use Rattle.lfh_search.proofs.Passed.{begins, claimed, beaten, goes_on, still, passed, match_is, none_is, page_there}
use Rattle.lfh_search.proofs.pass.read_all.Goals as goal

pub loop-page-init : goal.loop-page-init
loop-page-init g c = begins c.args.c.now c.args.back.now c.args.course.now c.args.lost c.requires.whole c.requires.inside

pub read_subsegment-requires-clause-there : goal.read_subsegment-requires-clause-there
read_subsegment-requires-clause-there g c =
    let p = c.requires.passing in let z = c.loop-page.invariant.goes p.0 p.1 in
    let m = match_is c.words-words.result.now c.args.back.now.words c.mark_of-mark.result c.args.course.now.bucket c.slot.result (own_slot c.loop-page.c) c.loop-page.from c.in-Some.page (c.words-words.ensures.words ∙ c.descs.ensures.words) c.mark_of-mark.ensures (c.slot.ensures ∙ sym c.loop-page.invariant.same.slot) c.in-Some.ensures.found in
    page_there c.loop-page.c c.args.back.now c.in-Some.page z.passing.back_is c.descs.ensures.sound m.in_range

pub read_subsegment-requires-clause-can : goal.read_subsegment-requires-clause-can
read_subsegment-requires-clause-can g c =
    let p = c.requires.passing in let z = c.loop-page.invariant.goes p.0 p.1 in
    let b = c.requires.course.bucket.last in
    let m = match_is c.words-words.result.now c.args.back.now.words c.mark_of-mark.result c.args.course.now.bucket c.slot.result (own_slot c.loop-page.c) c.loop-page.from c.in-Some.page (c.words-words.ensures.words ∙ c.descs.ensures.words) c.mark_of-mark.ensures (c.slot.ensures ∙ sym c.loop-page.invariant.same.slot) c.in-Some.ensures.found in
    (z.search, can_read c.loop-page.c c.args.back.now c.args.course.now z.search c.loop-page.from c.loop-page.so_far z.passing c.descs.ensures.sound.whole (omega (arith, b)) c.in-Some.page m)

pub returns-in-Claimed : goal.returns-in-Claimed
returns-in-Claimed g c = λ f pass.
    let z = c.loop-page.invariant.goes f pass in
    let b = c.requires.course.bucket.last in
    let m = match_is c.words-words.result.now c.args.back.now.words c.mark_of-mark.result c.args.course.now.bucket c.slot.result (own_slot c.loop-page.c) c.loop-page.from c.in-Some.page (c.words-words.ensures.words ∙ c.descs.ensures.words) c.mark_of-mark.ensures (c.slot.ensures ∙ sym c.loop-page.invariant.same.slot) c.in-Some.ensures.found in
    let can = can_read c.loop-page.c c.args.back.now c.args.course.now z.search c.loop-page.from c.loop-page.so_far z.passing c.descs.ensures.sound.whole (omega (arith, b)) c.in-Some.page m in
    claimed c.args.c.now c.loop-page.c c.args.back.now c.args.course.now c.args.lost c.loop-page.from c.loop-page.so_far c.loop-page.invariant.same z c.descs.ensures.sound.whole (omega (arith, b)) c.read_subsegment.new.c c.in-Some.page m c.in-Claimed.index (c.in-Claimed.ensures z.search can)

pub returns-in-Beaten : goal.returns-in-Beaten
returns-in-Beaten g c = λ f pass.
    let z = c.loop-page.invariant.goes f pass in
    let b = c.requires.course.bucket.last in
    let m = match_is c.words-words.result.now c.args.back.now.words c.mark_of-mark.result c.args.course.now.bucket c.slot.result (own_slot c.loop-page.c) c.loop-page.from c.in-Some.page (c.words-words.ensures.words ∙ c.descs.ensures.words) c.mark_of-mark.ensures (c.slot.ensures ∙ sym c.loop-page.invariant.same.slot) c.in-Some.ensures.found in
    let can = can_read c.loop-page.c c.args.back.now c.args.course.now z.search c.loop-page.from c.loop-page.so_far z.passing c.descs.ensures.sound.whole (omega (arith, b)) c.in-Some.page m in
    beaten c.args.c.now c.loop-page.c c.args.back.now c.args.course.now c.args.lost c.loop-page.from c.loop-page.so_far c.loop-page.invariant.same z c.descs.ensures.sound.whole (omega (arith, b)) c.read_subsegment.new.c c.in-Some.page m (c.in-Beaten.ensures z.search can)

pub loop-page-preserved : goal.loop-page-preserved
loop-page-preserved g c =
    record {
      same = let f = c.requires.passing.0 in let pass = c.requires.passing.1 in
          let z = c.loop-page.invariant.goes f pass in
          let b = c.requires.course.bucket.last in
          let m = match_is c.words-words.result.now c.args.back.now.words c.mark_of-mark.result c.args.course.now.bucket c.slot.result (own_slot c.loop-page.c) c.loop-page.from c.in-Some.page (c.words-words.ensures.words ∙ c.descs.ensures.words) c.mark_of-mark.ensures (c.slot.ensures ∙ sym c.loop-page.invariant.same.slot) c.in-Some.ensures.found in
          let can = can_read c.loop-page.c c.args.back.now c.args.course.now z.search c.loop-page.from c.loop-page.so_far z.passing c.descs.ensures.sound.whole (omega (arith, b)) c.in-Some.page m in
          still c.args.c.now c.loop-page.c c.args.back.now c.args.course.now c.args.lost c.loop-page.from c.loop-page.so_far c.loop-page.invariant.same z c.descs.ensures.sound.whole (omega (arith, b)) c.read_subsegment.new.c c.in-Some.page m c.in-Dry.more (c.in-Dry.ensures z.search can);
      goes = λ f pass.
          let z = c.loop-page.invariant.goes f pass in
          let b = c.requires.course.bucket.last in
          let m = match_is c.words-words.result.now c.args.back.now.words c.mark_of-mark.result c.args.course.now.bucket c.slot.result (own_slot c.loop-page.c) c.loop-page.from c.in-Some.page (c.words-words.ensures.words ∙ c.descs.ensures.words) c.mark_of-mark.ensures (c.slot.ensures ∙ sym c.loop-page.invariant.same.slot) c.in-Some.ensures.found in
          let can = can_read c.loop-page.c c.args.back.now c.args.course.now z.search c.loop-page.from c.loop-page.so_far z.passing c.descs.ensures.sound.whole (omega (arith, b)) c.in-Some.page m in
          goes_on c.args.c.now c.loop-page.c c.args.back.now c.args.course.now c.args.lost c.loop-page.from c.loop-page.so_far c.loop-page.invariant.same z c.descs.ensures.sound.whole (omega (arith, b)) c.read_subsegment.new.c c.in-Some.page m c.in-Dry.more (c.in-Dry.ensures z.search can);
    }

pub returns : goal.returns
returns g c = λ f pass.
    let z = c.loop-page.invariant.goes f pass in
    let b = c.requires.course.bucket.last in
    passed c.args.c.now c.loop-page.c c.args.back.now c.args.course.now c.args.lost c.loop-page.from c.loop-page.so_far z
    (all_read c.loop-page.c c.args.back.now c.args.course.now z.search c.loop-page.from c.loop-page.so_far z.passing c.descs.ensures.sound.whole (omega (arith, b))
    (none_is c.words-words.result.now c.args.back.now.words c.mark_of-mark.result c.args.course.now.bucket c.slot.result (own_slot c.loop-page.c) c.loop-page.from (c.words-words.ensures.words ∙ c.descs.ensures.words) c.mark_of-mark.ensures (c.slot.ensures ∙ sym c.loop-page.invariant.same.slot) c.in_default.ensures.none))
