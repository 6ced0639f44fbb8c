use Rattle.std.proofs.Common.{ℕ, ◌+◌, ◌*◌, ◌<◌, Some, None, sym, ap, ◌∙◌, subst, arith}
use Rattle.heap_model.specs.declared.Opening.{Opening}
use Rattle.lfh_search.proofs.WordLoop.{begins, pick_is, seeing, dry, may_claim, here, hinted, claimed, goes_on, small, beaten, next}
use Rattle.lfh_search.proofs.reading.read_word.Goals as goal

pub loop-so_far-init : goal.loop-so_far-init
loop-so_far-init g c = begins c.args.c.now c.args.course.now c.args.head c.args.word c.args.lost c.requires.whole c.requires.inside c.requires.at.2.at.few

pub see-bits-requires-clause-may : goal.see-bits-requires-clause-may
see-bits-requires-clause-may g c =
    let at = c.requires.at in let z = (c.loop-so_far.invariant.goes at.0 at.1 at.2).more c.loop-so_far-test.true in let few = z.few in
    seeing c.loop-so_far.c c.args.course.now at.0 c.args.head c.args.word at.1 c.loop-so_far.so_far z

pub returns-in_default : goal.returns-in_default
returns-in_default g c = λ f k at.
    let few = at.few in
    dry c.args.c.now c.loop-so_far.c c.args.course.now f c.args.head c.args.word k c.args.lost c.loop-so_far.so_far (c.loop-so_far.invariant.goes f k at) c.loop-so_far-test.true (omega (arith, few)) c.loop-so_far.invariant.slot
    c.see-bits.new.c c.see-bits.result c.see-bits.ensures (pick_is c.args.course.now c.args.word c.see-bits.result c.valid.result c.pick.result None c.requires.course c.valid.ensures c.pick.ensures c.in_default.is)

pub claim-requires-clause-there : goal.claim-requires-clause-there
claim-requires-clause-there g c = let at = c.requires.at in let few = at.2.few in
    let p = pick_is c.args.course.now c.args.word c.see-bits.result c.valid.result c.pick.result (Some c.in-Some.bit) c.requires.course c.valid.ensures c.pick.ensures c.in-Some.is in
    let b = small c.args.c.now c.loop-so_far.c c.args.course.now at.0 c.args.head c.args.word at.1 c.args.lost c.loop-so_far.so_far (c.loop-so_far.invariant.goes at.0 at.1 at.2) c.loop-so_far-test.true (omega (arith, few)) c.loop-so_far.invariant.slot c.see-bits.new.c c.see-bits.result c.see-bits.ensures c.requires.course.bucket c.in-Some.bit (64 * c.args.word + c.from.result) p (ap (λ (n : ℕ). 64 * c.args.word + n) c.from.ensures) in let h = c.requires.there.0 in
    (subst (λ (n : ℕ). c.args.head < 256 * n) (ap (λ (o : Opening). o.limits.segments) (sym (c.see-bits.ensures.runs.does.opening ∙ c.loop-so_far.invariant.opening))) h, omega (arith, b))

pub claim-requires-clause-slot : goal.claim-requires-clause-slot
claim-requires-clause-slot g c = let at = c.requires.at in let few = at.2.few in
    let p = pick_is c.args.course.now c.args.word c.see-bits.result c.valid.result c.pick.result (Some c.in-Some.bit) c.requires.course c.valid.ensures c.pick.ensures c.in-Some.is in
    let e = here c.args.c.now c.loop-so_far.c c.args.course.now at.0 c.args.head c.args.word at.1 c.args.lost c.loop-so_far.so_far (c.loop-so_far.invariant.goes at.0 at.1 at.2) c.loop-so_far-test.true (omega (arith, few)) c.loop-so_far.invariant.slot c.see-bits.new.c c.see-bits.result c.see-bits.ensures c.requires.course.bucket c.in-Some.bit (64 * c.args.word + c.from.result) p (ap (λ (n : ℕ). 64 * c.args.word + n) c.from.ensures) in let f = c.loop-so_far.invariant.slot in subst (λ (n : ℕ). n < 16) (sym (e ∙ f)) c.requires.slot

pub claim-requires-clause-may : goal.claim-requires-clause-may
claim-requires-clause-may g c = let at = c.requires.at in let few = at.2.few in
    let p = pick_is c.args.course.now c.args.word c.see-bits.result c.valid.result c.pick.result (Some c.in-Some.bit) c.requires.course c.valid.ensures c.pick.ensures c.in-Some.is in
    may_claim c.args.c.now c.loop-so_far.c c.args.course.now at.0 c.args.head c.args.word at.1 c.args.lost c.loop-so_far.so_far (c.loop-so_far.invariant.goes at.0 at.1 at.2) c.loop-so_far-test.true (omega (arith, few)) c.loop-so_far.invariant.slot c.see-bits.new.c c.see-bits.result c.see-bits.ensures c.requires.course.bucket c.in-Some.bit (64 * c.args.word + c.from.result) p (ap (λ (n : ℕ). 64 * c.args.word + n) c.from.ensures)

pub claim-requires-clause-hint : goal.claim-requires-clause-hint
claim-requires-clause-hint g c = let at = c.requires.at in let few = at.2.few in
    let p = pick_is c.args.course.now c.args.word c.see-bits.result c.valid.result c.pick.result (Some c.in-Some.bit) c.requires.course c.valid.ensures c.pick.ensures c.in-Some.is in
    λ o. (hinted c.args.c.now c.loop-so_far.c c.args.course.now at.0 c.args.head c.args.word at.1 c.args.lost c.loop-so_far.so_far (c.loop-so_far.invariant.goes at.0 at.1 at.2) c.loop-so_far-test.true (omega (arith, few)) c.loop-so_far.invariant.slot c.see-bits.new.c c.see-bits.result c.see-bits.ensures c.requires.course.bucket c.in-Some.bit (64 * c.args.word + c.from.result) p (ap (λ (n : ℕ). 64 * c.args.word + n) c.from.ensures) o).known o

pub returns-then-claim : goal.returns-then-claim
returns-then-claim g c = λ f k at. let few = at.few in
    let p = pick_is c.args.course.now c.args.word c.see-bits.result c.valid.result c.pick.result (Some c.in-Some.bit) c.requires.course c.valid.ensures c.pick.ensures c.in-Some.is in
    claimed c.args.c.now c.loop-so_far.c c.args.course.now f c.args.head c.args.word k c.args.lost c.loop-so_far.so_far (c.loop-so_far.invariant.goes f k at) c.loop-so_far-test.true (omega (arith, few)) c.loop-so_far.invariant.slot c.see-bits.new.c c.see-bits.result c.see-bits.ensures c.requires.course.bucket c.in-Some.bit (64 * c.args.word + c.from.result) p (ap (λ (n : ℕ). 64 * c.args.word + n) c.from.ensures) c.claim.new.c (c.claim.ensures.claimed c.if-claim.true)

pub loop-so_far-preserved : goal.loop-so_far-preserved
loop-so_far-preserved g c = let at = c.requires.at in let few = at.2.few in
    let p = pick_is c.args.course.now c.args.word c.see-bits.result c.valid.result c.pick.result (Some c.in-Some.bit) c.requires.course c.valid.ensures c.pick.ensures c.in-Some.is in
    next c.args.c.now c.loop-so_far.c c.args.course.now at.0 c.args.head c.args.word at.1 c.args.lost c.loop-so_far.so_far (c.loop-so_far.invariant.goes at.0 at.1 at.2) c.loop-so_far-test.true (omega (arith, few)) c.loop-so_far.invariant.slot c.see-bits.new.c c.see-bits.result c.see-bits.ensures c.requires.course.bucket c.in-Some.bit (64 * c.args.word + c.from.result) p (ap (λ (n : ℕ). 64 * c.args.word + n) c.from.ensures) c.claim.new.c (c.claim.ensures.lost c.if-claim.false) c.loop-so_far.invariant (λ f k at.
    let few = at.few in goes_on c.args.c.now c.loop-so_far.c c.args.course.now f c.args.head c.args.word k c.args.lost c.loop-so_far.so_far (c.loop-so_far.invariant.goes f k at) c.loop-so_far-test.true (omega (arith, few)) c.loop-so_far.invariant.slot c.see-bits.new.c c.see-bits.result c.see-bits.ensures c.requires.course.bucket c.in-Some.bit (64 * c.args.word + c.from.result) p (ap (λ (n : ℕ). 64 * c.args.word + n) c.from.ensures) c.claim.new.c (c.claim.ensures.lost c.if-claim.false))

pub returns : goal.returns
returns g c = λ f k at. beaten c.args.c.now c.loop-so_far.c c.args.course.now f c.args.head c.args.word k c.args.lost c.loop-so_far.so_far c.loop-so_far.invariant.few c.loop-so_far-test.false (c.loop-so_far.invariant.goes f k at)
