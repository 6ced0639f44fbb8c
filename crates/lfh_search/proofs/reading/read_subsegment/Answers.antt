use Rattle.std.proofs.Common.{◌≡◌, ℕ, ◌*◌, ◌<◌, sym, ◌∙◌, subst, arith}
use Rattle.heap_model.specs.declared.Opening.{Opening}
use Rattle.lfh_search.proofs.Subsegment.{begins, at_word, dries, next, word_below, others}
use Rattle.lfh_search.proofs.reading.read_subsegment.Goals as goal

pub loop-dry-init : goal.loop-dry-init
loop-dry-init g c = begins c.args.c.now c.args.course.now c.args.head c.args.lost c.requires.course c.requires.whole c.requires.inside

pub read_word-requires-clause-table : goal.read_word-requires-clause-table
read_word-requires-clause-table g c = let s = c.loop-dry.invariant.same in (s.table ∙ c.requires.table.0, s.opening ∙ c.requires.table.1)

pub read_word-requires-clause-whole : goal.read_word-requires-clause-whole
read_word-requires-clause-whole g c = c.loop-dry.invariant.same.whole

pub read_word-requires-clause-inside : goal.read_word-requires-clause-inside
read_word-requires-clause-inside g c = c.loop-dry.invariant.same.inside

pub read_word-requires-clause-there : goal.read_word-requires-clause-there
read_word-requires-clause-there g c = (
  subst (λ (o : Opening). c.args.head < 256 * o.limits.segments) (sym c.loop-dry.invariant.same.opening) c.requires.there,
  (word_below c.args.c.now c.loop-dry.c c.args.course.now c.args.head c.args.lost c.loop-dry.dry c.loop-dry.so_far c.loop-dry.word c.loop-dry.invariant c.requires.course).1,
)

pub read_word-requires-clause-slot : goal.read_word-requires-clause-slot
read_word-requires-clause-slot g c = subst (λ (n : ℕ). n < 16) (sym c.loop-dry.invariant.same.slot) c.requires.slot

pub read_word-requires-clause-at : goal.read_word-requires-clause-at
read_word-requires-clause-at g c =
    let can = c.requires.can in let m = subst (λ (n : ℕ). c.loop-dry.dry < n) c.requires.course.words c.loop-dry-test.true in
    (can.0, c.loop-dry.dry, at_word c.args.c.now c.loop-dry.c c.args.course.now can.0 c.args.head c.loop-dry.dry c.args.lost c.loop-dry.so_far c.loop-dry.word (c.loop-dry.invariant.goes can.0 can.1) m c.loop-dry.invariant c.requires.course)

pub returns-in_default : goal.returns-in_default
returns-in_default g c = λ f can.
    let m = subst (λ (n : ℕ). c.loop-dry.dry < n) c.requires.course.words c.loop-dry-test.true in
    others c.args.c.now c.loop-dry.c c.read_word.new.c c.args.course.now f c.args.head c.loop-dry.dry c.args.lost c.loop-dry.so_far c.loop-dry.word c.loop-dry.invariant c.requires.course m can
    c.read_word.result c.in_default.not-Dry (c.read_word.ensures f c.loop-dry.dry)

pub loop-dry-preserved : goal.loop-dry-preserved
loop-dry-preserved g c =
    let can = c.requires.can in let m = subst (λ (n : ℕ). c.loop-dry.dry < n) c.requires.course.words c.loop-dry-test.true in
    next c.args.c.now c.loop-dry.c c.read_word.new.c c.args.course.now c.args.head c.args.lost c.loop-dry.dry c.loop-dry.so_far c.loop-dry.word c.in-Dry.more c.behind-word.result c.loop-dry.invariant c.requires.course m
    (λ f. c.in-Dry.ensures f c.loop-dry.dry) can.0 can.1 c.behind-word.ensures

pub returns : goal.returns
returns g c = λ f can. dries c.args.c.now c.loop-dry.c c.args.course.now f c.args.head c.loop-dry.dry c.args.lost c.loop-dry.so_far (c.loop-dry.invariant.goes f can)
    (let a = c.loop-dry-test.false in let b = c.loop-dry.auto.dry-end in let e : c.loop-dry.dry ≡ c.args.course.now.words = omega (arith, a, b) in e ∙ c.requires.course.words)

pub behind-word-requires : goal.behind-word-requires
behind-word-requires g c = subst (λ (n : ℕ). c.loop-dry.word < n) (sym c.requires.course.words)
    (word_below c.args.c.now c.loop-dry.c c.args.course.now c.args.head c.args.lost c.loop-dry.dry c.loop-dry.so_far c.loop-dry.word c.loop-dry.invariant c.requires.course).0
