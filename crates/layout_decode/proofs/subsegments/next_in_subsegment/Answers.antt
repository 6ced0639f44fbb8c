use Rattle.std.proofs.Common.{ℕ, ◌≤◌, sym, ap, ◌∙◌, arith}
use Rattle.std.specs.List.{find}
use Rattle.std.proofs.lemmas.Nat.{mul-le}
use Rattle.heap_model.specs.Buckets.{block_size, block_count, block_address}
use Rattle.layout_decode.specs.Decode.{is_at_or_after}
use Rattle.layout_decode.proofs.SubsegmentLemmas.{next_free, found, begins_at}
use Rattle.layout_decode.proofs.subsegments.next_in_subsegment.Goals as goal

pub loop-index-init : goal.loop-index-init
loop-index-init c =
    let first = c.first_from-first in
    begins_at c.args.image.now c.args.run.now c.args.from (block_count c.args.run.now.mark.bucket) first.result first.ensures.most first.ensures.before

-- a block behind another begins behind it
behind : (b head i j : ℕ) → i ≤ j → block_address b head i ≤ block_address b head j
behind b head i j l = omega (arith, mul-le i (block_size b) j (block_size b) l (omega arith))

pub returns-in-Some : goal.returns-in-Some
returns-in-Some c =
    let image = c.args.image.now in
    let r = c.args.run.now in
    let n : ℕ = block_count r.mark.bucket in
    let i : ℕ = c.loop-index.index in
    let first = c.first_from-first in
    let more = behind r.mark.bucket r.first first.result i c.loop-index.auto.index in
    let high = first.ensures.reached (omega (arith, c.loop-index.auto.index)) in
    sym (found image r c.args.from n i c.in-Some.block (omega arith) (omega arith) c.in-Some.ensures) ∙ c.loop-index.invariant

pub loop-index-preserved : goal.loop-index-preserved
loop-index-preserved c =
    let n : ℕ = block_count c.args.run.now.mark.bucket in
    sym (ap (find (is_at_or_after c.args.from)) (next_free c.args.image.now c.args.run.now n c.loop-index.index (omega arith) c.in_default.ensures)) ∙ c.loop-index.invariant
