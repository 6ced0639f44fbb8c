-- Each step of the turn finds its trees, and the last leaves one tree of all.
use Rattle.std.proofs.Common.{◌<◌, ◌≤◌, arith}
use Rattle.vs_free_tree.specs.Slots.{height_at, slot_at}
use Rattle.vs_free_tree.proofs.Lowered.{once, twice}
use Rattle.vs_free_tree.proofs.tree.lower_left.Goals as goal

pub link-requires : goal.link-requires
link-requires c =
    let low : height_at c.args.nodes.now (slot_at c.args.nodes.now c.args.left).right ≤ height_at c.args.nodes.now (slot_at c.args.nodes.now c.args.left).left =
    omega arith in
    (once c.args.nodes.now c.args.node c.args.left c.args.right low c.requires.l c.requires.r c.requires.sides c.requires.high).within

pub link-requires-then-height : goal.link-requires-then-height
link-requires-then-height c =
    let low : height_at c.args.nodes.now (slot_at c.args.nodes.now c.args.left).right ≤ height_at c.args.nodes.now (slot_at c.args.nodes.now c.args.left).left =
    omega arith in
    rw c.link.ensures (once c.args.nodes.now c.args.node c.args.left c.args.right low c.requires.l c.requires.r c.requires.sides c.requires.high).raise

pub returns-then-height : goal.returns-then-height
returns-then-height c =
    let low : height_at c.args.nodes.now (slot_at c.args.nodes.now c.args.left).right ≤ height_at c.args.nodes.now (slot_at c.args.nodes.now c.args.left).left =
    omega arith in
    rw (c.link-then-height.ensures, c.link.ensures)
    (once c.args.nodes.now c.args.node c.args.left c.args.right low c.requires.l c.requires.r c.requires.sides c.requires.high).joins

pub link-requires-3 : goal.link-requires-3
link-requires-3 c =
    let low : height_at c.args.nodes.now (slot_at c.args.nodes.now c.args.left).left < height_at c.args.nodes.now (slot_at c.args.nodes.now c.args.left).right =
    omega arith in
    rw c.link-2.ensures (twice c.args.nodes.now c.args.node c.args.left c.args.right low c.requires.l c.requires.r c.requires.sides c.requires.high).second

pub link-requires-4 : goal.link-requires-4
link-requires-4 c =
    let low : height_at c.args.nodes.now (slot_at c.args.nodes.now c.args.left).left < height_at c.args.nodes.now (slot_at c.args.nodes.now c.args.left).right =
    omega arith in
    rw (c.link-3.ensures, c.link-2.ensures)
    (twice c.args.nodes.now c.args.node c.args.left c.args.right low c.requires.l c.requires.r c.requires.sides c.requires.high).third

pub returns : goal.returns
returns c =
    let low : height_at c.args.nodes.now (slot_at c.args.nodes.now c.args.left).left < height_at c.args.nodes.now (slot_at c.args.nodes.now c.args.left).right =
    omega arith in
    rw (c.link-4.ensures, c.link-3.ensures, c.link-2.ensures)
    (twice c.args.nodes.now c.args.node c.args.left c.args.right low c.requires.l c.requires.r c.requires.sides c.requires.high).joins
