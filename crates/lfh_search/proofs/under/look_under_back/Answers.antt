use Rattle.std.proofs.Common.{ℕ, ◌<◌, sym, ap, ◌∙◌, subst, arith}
use Rattle.heap_model.specs.declared.Opening.{Opening}
use Rattle.heap_model.specs.Limits.{AreValid}
use Rattle.lfh_search.proofs.Entering.{slot_on, begins_pass}
use Rattle.lfh_search.proofs.Looking.{head_small, out2, slot2, hint2, served, dry, beaten, spent_before}
use Rattle.lfh_search.proofs.NoneThere.{spent_at_once}
use Rattle.lfh_search.proofs.under.look_under_back.Goals as goal

pub returns-then-lost-eq-LOSSES : goal.returns-then-lost-eq-LOSSES
returns-then-lost-eq-LOSSES g c = λ f u. spent_before c.args.c.now c.args.back.now c.args.course.now f c.args.lost u c.check.ensures.stands c.if-lost-eq-LOSSES.true

pub read_all-requires-clause-slot : goal.read_all-requires-clause-slot
read_all-requires-clause-slot g c =
    let p = c.requires.under in
    subst (λ (n : ℕ). n < 16) (sym (slot_on c.args.c.now c.hint_under_back.new.c c.args.back.now c.args.course.now p.0 c.args.lost p.1 c.check.ensures.stands c.hint_under_back.result c.hint_under_back.ensures)) c.requires.slot

pub read_all-requires-clause-passing : goal.read_all-requires-clause-passing
read_all-requires-clause-passing g c =
    let p = c.requires.under in
    let few : c.args.lost < 8 = let l = p.1.few in let ne = c.if-lost-eq-LOSSES.false in omega (arith, l, ne) in
    let pass = begins_pass c.args.c.now c.hint_under_back.new.c c.args.back.now c.args.course.now p.0 c.args.lost p.1 c.check.ensures.stands c.hint_under_back.result c.hint_under_back.ensures few in
    (p.0, pass)

pub set_hint-requires-clause-table : goal.set_hint-requires-clause-table
set_hint-requires-clause-table g c =
    let p = c.requires.under in
    let few : c.args.lost < 8 = let l = p.1.few in let ne = c.if-lost-eq-LOSSES.false in omega (arith, l, ne) in
    let pass = begins_pass c.args.c.now c.hint_under_back.new.c c.args.back.now c.args.course.now p.0 c.args.lost p.1 c.check.ensures.stands c.hint_under_back.result c.hint_under_back.ensures few in
    let to = c.in-Claimed.ensures p.0 pass in
    (to.placed.moves.does.table ∙ (c.hint_under_back.ensures.runs.does.table ∙ c.requires.table.0), to.placed.moves.does.opening ∙ (c.hint_under_back.ensures.runs.does.opening ∙ c.requires.table.1))

pub set_hint-requires-clause-whole : goal.set_hint-requires-clause-whole
set_hint-requires-clause-whole g c =
    let p = c.requires.under in
    let few : c.args.lost < 8 = let l = p.1.few in let ne = c.if-lost-eq-LOSSES.false in omega (arith, l, ne) in
    let pass = begins_pass c.args.c.now c.hint_under_back.new.c c.args.back.now c.args.course.now p.0 c.args.lost p.1 c.check.ensures.stands c.hint_under_back.result c.hint_under_back.ensures few in
    let to = c.in-Claimed.ensures p.0 pass in
    to.placed.stands.whole

pub set_hint-requires-clause-slot : goal.set_hint-requires-clause-slot
set_hint-requires-clause-slot g c =
    let p = c.requires.under in
    let few : c.args.lost < 8 = let l = p.1.few in let ne = c.if-lost-eq-LOSSES.false in omega (arith, l, ne) in
    let pass = begins_pass c.args.c.now c.hint_under_back.new.c c.args.back.now c.args.course.now p.0 c.args.lost p.1 c.check.ensures.stands c.hint_under_back.result c.hint_under_back.ensures few in
    let to = c.in-Claimed.ensures p.0 pass in
    subst (λ (n : ℕ). n < 16) (sym (slot2 c.args.c.now c.hint_under_back.new.c c.args.back.now c.args.course.now p.0 c.args.lost p.1 c.check.ensures.stands c.hint_under_back.result c.hint_under_back.ensures c.read_all.new.c c.in-Claimed.head c.in-Claimed.index to c.region-sound.ensures.sound)) c.requires.slot

pub set_hint-requires-clause-back : goal.set_hint-requires-clause-back
set_hint-requires-clause-back g c =
    let p = c.requires.under in
    let few : c.args.lost < 8 = let l = p.1.few in let ne = c.if-lost-eq-LOSSES.false in omega (arith, l, ne) in
    let pass = begins_pass c.args.c.now c.hint_under_back.new.c c.args.back.now c.args.course.now p.0 c.args.lost p.1 c.check.ensures.stands c.hint_under_back.result c.hint_under_back.ensures few in
    let to = c.in-Claimed.ensures p.0 pass in
    out2 c.args.c.now c.hint_under_back.new.c c.args.back.now c.args.course.now p.0 c.args.lost p.1 c.check.ensures.stands c.hint_under_back.result c.hint_under_back.ensures c.read_all.new.c c.in-Claimed.head c.in-Claimed.index to c.region-sound.ensures.sound

pub set_hint-requires-clause-head : goal.set_hint-requires-clause-head
set_hint-requires-clause-head g c =
    let p = c.requires.under in
    let few : c.args.lost < 8 = let l = p.1.few in let ne = c.if-lost-eq-LOSSES.false in omega (arith, l, ne) in
    let pass = begins_pass c.args.c.now c.hint_under_back.new.c c.args.back.now c.args.course.now p.0 c.args.lost p.1 c.check.ensures.stands c.hint_under_back.result c.hint_under_back.ensures few in
    let to = c.in-Claimed.ensures p.0 pass in
    hint2 c.args.c.now c.hint_under_back.new.c c.args.back.now c.args.course.now p.0 c.args.lost p.1 c.check.ensures.stands c.hint_under_back.result c.hint_under_back.ensures c.read_all.new.c c.in-Claimed.head c.in-Claimed.index to c.region-sound.ensures.sound

pub block_at-requires-clause-head : goal.block_at-requires-clause-head
block_at-requires-clause-head g c =
    let p = c.requires.under in
    let few : c.args.lost < 8 = let l = p.1.few in let ne = c.if-lost-eq-LOSSES.false in omega (arith, l, ne) in
    let pass = begins_pass c.args.c.now c.hint_under_back.new.c c.args.back.now c.args.course.now p.0 c.args.lost p.1 c.check.ensures.stands c.hint_under_back.result c.hint_under_back.ensures few in
    let to = c.in-Claimed.ensures p.0 pass in
    let v = subst AreValid (c.limits-limits.ensures.limits ∙ ap (λ (o : Opening). o.limits) (sym c.requires.table.1)) c.limits-limits.ensures.valid in
    head_small c.args.c.now c.hint_under_back.new.c c.args.back.now c.args.course.now p.0 c.args.lost p.1 c.check.ensures.stands c.hint_under_back.result c.hint_under_back.ensures c.read_all.new.c c.in-Claimed.head c.in-Claimed.index to c.region-sound.ensures.sound v.segments

pub block_at-requires-clause-index : goal.block_at-requires-clause-index
block_at-requires-clause-index g c =
    let p = c.requires.under in
    let few : c.args.lost < 8 = let l = p.1.few in let ne = c.if-lost-eq-LOSSES.false in omega (arith, l, ne) in
    let pass = begins_pass c.args.c.now c.hint_under_back.new.c c.args.back.now c.args.course.now p.0 c.args.lost p.1 c.check.ensures.stands c.hint_under_back.result c.hint_under_back.ensures few in
    let to = c.in-Claimed.ensures p.0 pass in
    to.placed.below

pub returns-in-Dry : goal.returns-in-Dry
returns-in-Dry g c = λ f u.
    let few : c.args.lost < 8 = let l = u.few in let ne = c.if-lost-eq-LOSSES.false in omega (arith, l, ne) in
    let pass = begins_pass c.args.c.now c.hint_under_back.new.c c.args.back.now c.args.course.now f c.args.lost u c.check.ensures.stands c.hint_under_back.result c.hint_under_back.ensures few in
    dry c.args.c.now c.hint_under_back.new.c c.args.back.now c.args.course.now f c.args.lost u c.check.ensures.stands c.hint_under_back.result c.hint_under_back.ensures c.read_all.new.c c.in-Dry.lost (c.in-Dry.ensures f pass)

pub returns-in-Beaten : goal.returns-in-Beaten
returns-in-Beaten g c = λ f u.
    let few : c.args.lost < 8 = let l = u.few in let ne = c.if-lost-eq-LOSSES.false in omega (arith, l, ne) in
    let pass = begins_pass c.args.c.now c.hint_under_back.new.c c.args.back.now c.args.course.now f c.args.lost u c.check.ensures.stands c.hint_under_back.result c.hint_under_back.ensures few in
    beaten c.args.c.now c.hint_under_back.new.c c.args.back.now c.args.course.now f c.args.lost u c.check.ensures.stands c.hint_under_back.result c.hint_under_back.ensures c.read_all.new.c (c.in-Beaten.ensures f pass) c.check-in-Beaten.ensures.stands

pub returns-in-Claimed : goal.returns-in-Claimed
returns-in-Claimed g c = λ f u.
    let few : c.args.lost < 8 = let l = u.few in let ne = c.if-lost-eq-LOSSES.false in omega (arith, l, ne) in
    let pass = begins_pass c.args.c.now c.hint_under_back.new.c c.args.back.now c.args.course.now f c.args.lost u c.check.ensures.stands c.hint_under_back.result c.hint_under_back.ensures few in
    served c.args.c.now c.hint_under_back.new.c c.args.back.now c.args.course.now f c.args.lost u c.check.ensures.stands c.hint_under_back.result c.hint_under_back.ensures c.read_all.new.c c.in-Claimed.head c.in-Claimed.index (c.in-Claimed.ensures f pass) c.region-sound.ensures.sound c.set_hint.new.c c.set_hint.ensures.runs c.set_hint.ensures.stands c.block_at.result c.block_at.ensures

pub returns-in_default : goal.returns-in_default
returns-in_default g c = λ f u.
    let few : c.args.lost < 8 = let l = u.few in let ne = c.if-lost-eq-LOSSES.false in omega (arith, l, ne) in
    spent_at_once c.args.c.now c.hint_under_back.new.c c.args.back.now c.args.course.now f c.args.lost u c.check.ensures.stands c.hint_under_back.result c.hint_under_back.ensures c.in_default.is few c.region-sound.ensures.sound
