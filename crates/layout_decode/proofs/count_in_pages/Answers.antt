use Rattle.std.proofs.Common.{length, sym, ap, ◌∙◌, arith}
use Rattle.heap_model.specs.declared.Block.{Block}
use Rattle.layout_decode.specs.Decode.{total_of}
use Rattle.layout_decode.proofs.Images.{next, run_is, none_next, none_beyond, all_from, few_blocks, count_next}
use Rattle.layout_decode.proofs.count_in_pages.Goals as goal

pub loop-page-init : goal.loop-page-init
loop-page-init c =
    let all = all_from c.args.image.now c.requires c.tiled.ensures in
    record { blocks = omega (arith, ap (length {A = Block}) all); bytes = omega (arith, ap total_of all) }

pub returns-in_default-clause-blocks : goal.returns-in_default-clause-blocks
returns-in_default-clause-blocks c =
    let none = none_next c.args.image.now c.requires c.tiled.ensures c.loop-page.page (sym c.next_run.ensures ∙ c.in_default.is) in
    omega (arith, ap (length {A = Block}) none, c.loop-page.invariant.blocks)

pub returns-in_default-clause-bytes : goal.returns-in_default-clause-bytes
returns-in_default-clause-bytes c =
    let none = none_next c.args.image.now c.requires c.tiled.ensures c.loop-page.page (sym c.next_run.ensures ∙ c.in_default.is) in
    omega (arith, ap total_of none, c.loop-page.invariant.bytes)

pub count_in-counted-requires-clause-chunks : goal.count_in-counted-requires-clause-chunks
count_in-counted-requires-clause-chunks c =
    (run_is c.args.image.now c.requires c.tiled.ensures c.loop-page.page c.in-Some.run' (sym c.next_run.ensures ∙ c.in-Some.is)).chunks

pub count_in-counted-requires-clause-subsegment : goal.count_in-counted-requires-clause-subsegment
count_in-counted-requires-clause-subsegment c =
    (run_is c.args.image.now c.requires c.tiled.ensures c.loop-page.page c.in-Some.run' (sym c.next_run.ensures ∙ c.in-Some.is)).subsegment

pub count_in-counted-requires-clause-fit : goal.count_in-counted-requires-clause-fit
count_in-counted-requires-clause-fit c =
    (run_is c.args.image.now c.requires c.tiled.ensures c.loop-page.page c.in-Some.run' (sym c.next_run.ensures ∙ c.in-Some.is)).fit

pub count_in-counted-requires-clause-inside : goal.count_in-counted-requires-clause-inside
count_in-counted-requires-clause-inside c =
    let s = next c.args.image.now c.requires c.tiled.ensures c.loop-page.page c.in-Some.run' (sym c.next_run.ensures ∙ c.in-Some.is) in
    omega (arith, s.below, c.pages-end.ensures.headered.few)

pub overflow_add-blocks : goal.overflow_add-blocks
overflow_add-blocks c =
    let image = c.args.image.now in
    let n = count_next image c.requires c.tiled.ensures c.loop-page.page c.in-Some.run' (sym c.next_run.ensures ∙ c.in-Some.is) in
    let b = few_blocks image c.requires c.tiled.ensures in
    omega (arith, n.0, b.0, c.loop-page.invariant.blocks, c.count_in-counted.ensures.blocks, c.pages-end.ensures.headered.few)

pub overflow_add-bytes : goal.overflow_add-bytes
overflow_add-bytes c =
    let image = c.args.image.now in
    let n = count_next image c.requires c.tiled.ensures c.loop-page.page c.in-Some.run' (sym c.next_run.ensures ∙ c.in-Some.is) in
    let b = few_blocks image c.requires c.tiled.ensures in
    omega (arith, n.1, b.1, c.loop-page.invariant.bytes, c.count_in-counted.ensures.bytes, c.pages-end.ensures.headered.few)

pub overflow_add-page : goal.overflow_add-page
overflow_add-page c =
    let s = next c.args.image.now c.requires c.tiled.ensures c.loop-page.page c.in-Some.run' (sym c.next_run.ensures ∙ c.in-Some.is) in
    omega (arith, s.below, c.pages-end.ensures.headered.few)

pub loop-page-smaller : goal.loop-page-smaller
loop-page-smaller c =
    let s = next c.args.image.now c.requires c.tiled.ensures c.loop-page.page c.in-Some.run' (sym c.next_run.ensures ∙ c.in-Some.is) in
    omega (arith, s.below, s.above, s.some, c.pages-end.ensures.pages)

pub loop-page-preserved : goal.loop-page-preserved
loop-page-preserved c =
    let n = count_next c.args.image.now c.requires c.tiled.ensures c.loop-page.page c.in-Some.run' (sym c.next_run.ensures ∙ c.in-Some.is) in
    record {
      blocks = omega (arith, n.0, c.loop-page.invariant.blocks, c.count_in-counted.ensures.blocks);
      bytes = omega (arith, n.1, c.loop-page.invariant.bytes, c.count_in-counted.ensures.bytes);
    }

-- nothing is left to count
pub returns-clause-blocks : goal.returns-clause-blocks
returns-clause-blocks c =
    let none = none_beyond c.args.image.now c.requires c.tiled.ensures c.loop-page.page (omega (arith, c.pages-end.ensures.pages, c.loop-page-test.false)) in
    omega (arith, ap (length {A = Block}) none, c.loop-page.invariant.blocks)

pub returns-clause-bytes : goal.returns-clause-bytes
returns-clause-bytes c =
    let none = none_beyond c.args.image.now c.requires c.tiled.ensures c.loop-page.page (omega (arith, c.pages-end.ensures.pages, c.loop-page-test.false)) in
    omega (arith, ap total_of none, c.loop-page.invariant.bytes)

pub returns-in_default-clause-few : goal.returns-in_default-clause-few
returns-in_default-clause-few c =
    let b = few_blocks c.args.image.now c.requires c.tiled.ensures in
    (omega (arith, b.0, c.loop-page.invariant.blocks, c.pages-end.ensures.headered.few), omega (arith, b.1, c.loop-page.invariant.bytes, c.pages-end.ensures.headered.few))

pub returns-clause-few : goal.returns-clause-few
returns-clause-few c =
    let b = few_blocks c.args.image.now c.requires c.tiled.ensures in
    (omega (arith, b.0, c.loop-page.invariant.blocks, c.pages-end.ensures.headered.few), omega (arith, b.1, c.loop-page.invariant.bytes, c.pages-end.ensures.headered.few))
