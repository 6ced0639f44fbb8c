use Rattle.std.proofs.Common.{◌≡◌, ℕ, ◌-◌, ◌∷◌, [], true, sym, ap, ◌∙◌, arith}
use Rattle.std.proofs.lemmas.Bool.{ne_eqb}
use Rattle.heap_model.specs.declared.Layer.TheVariants as layers
use Rattle.heap_model.specs.declared.Opening.{Opening}
use Rattle.heap_model.specs.Buckets.{block_address}
use Rattle.call_parts.proofs.Joining.{setting_before}
use Rattle.layout_decode.specs.Decode.{is_taken_in}
use Rattle.layout_decode.proofs.SubsegmentLemmas.{seat_of}
use Rattle.walk_calls.proofs.Looking.{not_taken, no_size, taken_with, then_looks, both_look, size_here}
use Rattle.walk_calls.proofs.subsegments.block_of.Goals as goal

pub returns-then-not-is_taken-clause-block : goal.returns-then-not-is_taken-clause-block
returns-then-not-is_taken-clause-block c = λ s q image x. not_taken image c.args.run.now c.args.index (sym (c.is_taken.ensures.taken s q image x) ∙ c.if-not-is_taken.true)

pub owner_size-word-requires-clause-there : goal.owner_size-word-requires-clause-there
owner_size-word-requires-clause-there c =
    let o = c.args.c.now.opening in
    let seat = seat_of o.limits c.args.run.now c.args.index c.requires.subsegment c.requires.index in
    let at = c.block_at-addr.ensures in
    let same = ap (λ (y : Opening). y.limits.segments) c.is_taken.ensures.looks.goes.opening in
    omega (arith, seat.granule, at, same)

pub returns-then-word-eq0-clause-looks : goal.returns-then-word-eq0-clause-looks
returns-then-word-eq0-clause-looks c = both_look c.args.c.now c.is_taken.new.c c.owner_size-word.new.c c.args.run.now c.args.index c.requires.subsegment c.requires.index c.requires.owner c.is_taken.ensures.looks c.check.ensures.stands c.owner_size-word.ensures.runs c.owner_size-word.ensures.stands

pub returns-then-word-eq0-clause-block : goal.returns-then-word-eq0-clause-block
returns-then-word-eq0-clause-block c = λ s q image x.
    let size = size_here c.args.c.now c.is_taken.new.c c.owner_size-word.new.c c.args.run.now c.args.index c.requires.subsegment c.requires.index c.requires.owner c.is_taken.ensures.looks c.check.ensures.stands c.owner_size-word.ensures.runs c.owner_size-word.ensures.stands
    c.owner_size-word.result c.block_at-addr.result c.block_at-addr.ensures c.owner_size-word.ensures.word s q image x in
    no_size image c.args.run.now c.args.index (sym size ∙ c.if-word-eq0.true)

pub returns-clause-looks : goal.returns-clause-looks
returns-clause-looks c = both_look c.args.c.now c.is_taken.new.c c.owner_size-word.new.c c.args.run.now c.args.index c.requires.subsegment c.requires.index c.requires.owner c.is_taken.ensures.looks c.check.ensures.stands c.owner_size-word.ensures.runs c.owner_size-word.ensures.stands

pub returns-clause-block : goal.returns-clause-block
returns-clause-block c = λ s q image x.
    let a = c.args.c.now in let b = c.is_taken.new.c in let d = c.owner_size-word.new.c in let r = c.args.run.now in let i : ℕ = c.args.index in let word : ℕ = c.owner_size-word.result in
    let then_looked = then_looks a b d r i c.requires.subsegment c.requires.index c.requires.owner c.is_taken.ensures.looks c.check.ensures.stands c.owner_size-word.ensures.runs c.owner_size-word.ensures.stands in
    let size = size_here a b d r i c.requires.subsegment c.requires.index c.requires.owner c.is_taken.ensures.looks c.check.ensures.stands c.owner_size-word.ensures.runs c.owner_size-word.ensures.stands
    word c.block_at-addr.result c.block_at-addr.ensures c.owner_size-word.ensures.word s q image x in
    let taken : is_taken_in image r i ≡ true = sym (c.is_taken.ensures.taken s (setting_before b d [] then_looked.goes s q) image x) ∙ c.if-not-is_taken.false in
    let at : c.block_at-addr.result ≡ block_address r.mark.bucket r.first i = c.block_at-addr.ensures in
    ap (λ (n : ℕ). record { addr = n; size = word - 1; layer = layers.Lfh } ∷ []) at ∙ taken_with image r i word taken (sym size) (ne_eqb word 0 c.if-word-eq0.false)
