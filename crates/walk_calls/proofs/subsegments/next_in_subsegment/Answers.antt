use Rattle.std.proofs.Common.{◌≡◌, ℕ, ◌-◌, ◌≤◌, ◌∷◌, [], sym, ap, ◌∙◌, subst, arith}
use Rattle.std.specs.List.{find}
use Rattle.std.proofs.lemmas.Nat.{mul-le}
use Rattle.heap_model.specs.declared.Kind.TheVariants as kinds
use Rattle.heap_model.specs.declared.Opening.{Opening}
use Rattle.heap_model.specs.Buckets.{block_size, block_count, block_address}
use Rattle.layout_decode.specs.declared.Image.{Image}
use Rattle.layout_decode.specs.Decode.{blocks_of, block_at_bit, blocks_at_bits, is_at_or_after, IsOfBucket}
use Rattle.layout_decode.proofs.SubsegmentLemmas.{next_free, found, begins_at, none_left}
use Rattle.walk_calls.proofs.Looking.{looks_none, looks_then, owner_then, told_before, told_behind}
use Rattle.walk_calls.proofs.subsegments.next_in_subsegment.Goals as goal

pub loop-index-init : goal.loop-index-init
loop-index-init c =
    let first = c.first_from-first in
    let n : ℕ = block_count c.args.run.now.mark.bucket in
    record { looks = looks_none c.args.c.now c.requires.owner; left = λ s q image x. begins_at image c.args.run.now c.args.from n first.result first.ensures.most first.ensures.before }

pub block_of-requires-clause-table : goal.block_of-requires-clause-table
block_of-requires-clause-table c = let g = c.loop-index.invariant.looks.goes in (g.table ∙ c.requires.table.0, g.opening ∙ c.requires.table.1)

pub block_of-requires-clause-owner : goal.block_of-requires-clause-owner
block_of-requires-clause-owner c = owner_then c.args.c.now c.loop-index.c c.requires.owner c.loop-index.invariant.looks

pub block_of-requires-clause-subsegment : goal.block_of-requires-clause-subsegment
block_of-requires-clause-subsegment c = subst (λ (o : Opening). IsOfBucket o.limits c.args.run.now) (sym c.loop-index.invariant.looks.goes.opening) c.requires.subsegment

-- a block behind another begins behind it
behind : (b head i j : ℕ) → i ≤ j → block_address b head i ≤ block_address b head j
behind b head i j l = omega (arith, mul-le i (block_size b) j (block_size b) l (omega arith))

pub returns-in-Some-clause-looks : goal.returns-in-Some-clause-looks
returns-in-Some-clause-looks c = looks_then c.args.c.now c.loop-index.c c.block_of.new.c c.loop-index.invariant.looks c.in-Some.ensures.looks

pub returns-in-Some-clause-found : goal.returns-in-Some-clause-found
returns-in-Some-clause-found c = λ s q image x.
    let a = c.args.c.now in
    let old = c.loop-index.c in
    let new = c.block_of.new.c in
    let r = c.args.run.now in
    let n : ℕ = block_count r.mark.bucket in
    let i : ℕ = c.loop-index.index in
    let inv = c.loop-index.invariant in
    let first = c.first_from-first in
    let more = behind r.mark.bucket r.first first.result i c.loop-index.auto.index in
    let high = first.ensures.reached (omega (arith, c.loop-index.auto.index)) in
    let block = told_behind a old new (λ (y : Image). c.in-Some.block ∷ [] ≡ block_at_bit y r i) inv.looks c.in-Some.ensures.looks c.in-Some.ensures.block s q image x in
    let left = told_before a old new (λ (y : Image). find (is_at_or_after c.args.from) (blocks_at_bits y r (n - i) i) ≡ find (is_at_or_after c.args.from) (blocks_of y r kinds.Lfh)) c.in-Some.ensures.looks inv.left s q image x in
    sym (found image r c.args.from n i c.in-Some.block (omega arith) (omega arith) block) ∙ left

pub loop-index-preserved : goal.loop-index-preserved
loop-index-preserved c =
    let a = c.args.c.now in
    let old = c.loop-index.c in
    let new = c.block_of.new.c in
    let r = c.args.run.now in
    let n : ℕ = block_count r.mark.bucket in
    let i : ℕ = c.loop-index.index in
    let inv = c.loop-index.invariant in
    record {
      looks = looks_then a old new inv.looks c.in_default.ensures.looks;
      left = λ s q image x.
          let none = told_behind a old new (λ (y : Image). [] ≡ block_at_bit y r i) inv.looks c.in_default.ensures.looks c.in_default.ensures.block s q image x in
          let left = told_before a old new (λ (y : Image). find (is_at_or_after c.args.from) (blocks_at_bits y r (n - i) i) ≡ find (is_at_or_after c.args.from) (blocks_of y r kinds.Lfh)) c.in_default.ensures.looks inv.left s q image x in
          sym (ap (find (is_at_or_after c.args.from)) (next_free image r n i (omega arith) none)) ∙ left;
    }

pub returns-clause-found : goal.returns-clause-found
returns-clause-found c = λ s q image x.
    let r = c.args.run.now in
    let n : ℕ = block_count r.mark.bucket in
    let over = c.loop-index-test.false in
    sym (ap (find (is_at_or_after c.args.from)) (none_left image r n c.loop-index.index (omega (arith, over, c.count-index-end.ensures)))) ∙ c.loop-index.invariant.left s q image x
