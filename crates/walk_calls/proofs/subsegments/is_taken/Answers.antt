use Rattle.std.proofs.Common.{◌≡◌, ℕ, ◌/◌, ◌%◌, ap, ◌∙◌, arith}
use Rattle.heap_model.specs.Bits.{has_bit}
use Rattle.layout_decode.specs.Decode.{is_taken_in}
use Rattle.layout_decode.proofs.SubsegmentLemmas.{seat_of, bucket_is}
use Rattle.lfh_buckets.proofs.BlockLemmas.{few_blocks}
use Rattle.heap_gate.specs.Token.{now}
use Rattle.walk_calls.proofs.Looking.{looks_runs, bits_are}
use Rattle.walk_calls.proofs.subsegments.is_taken.Goals as goal

pub returns-clause-looks : goal.returns-clause-looks
returns-clause-looks c = looks_runs c.args.c.now c.owner_bits-bits.new.c c.check.ensures.stands c.requires.owner.owns c.owner_bits-bits.ensures.runs c.owner_bits-bits.ensures.stands

pub returns-clause-taken : goal.returns-clause-taken
returns-clause-taken c = λ s q image x.
    let a = c.args.c.now in
    let r = c.args.run.now in
    let i : ℕ = c.from-index.result in
    let same : i ≡ c.args.index = c.from-index.ensures in
    let low = c.requires.index in
    let few = (few_blocks r.mark.bucket (bucket_is a.opening.limits r c.requires.subsegment)).1 in
    let seat = seat_of a.opening.limits r c.args.index c.requires.subsegment low in
    let bits = bits_are image a.opening.limits (now s a).state x r.first (i / 64) c.owner_bits-bits.result (omega (arith, seat.from, seat.page)) (omega (arith, low, few, same)) (c.owner_bits-bits.ensures.bits s q).shown in
    c.bit_at.ensures ∙ (ap (λ (w : ℕ). has_bit w (i % 64)) bits ∙ ap (is_taken_in image r) same)
