-- The heights of the slots are those of the sides, and tell which turn they need.
use Rattle.std.proofs.Common.{arith}
use Rattle.vs_free_tree.specs.Tree.{fork}
use Rattle.vs_free_tree.specs.Slots.{entry_at}
use Rattle.vs_free_tree.proofs.Joined.{left_height, right_height, can_link, joined}
use Rattle.vs_free_tree.proofs.tree.join.Goals as goal

pub overflow_add-right_height : goal.overflow_add-right_height
overflow_add-right_height c =
    let q = right_height c.args.nodes.now c.args.node c.args.left c.args.right c.requires.l c.requires.r c.requires.sides in
    omega (arith, q, c.requires.sides.right_low)

pub overflow_add-left_height : goal.overflow_add-left_height
overflow_add-left_height c =
    let p = left_height c.args.nodes.now c.args.node c.args.left c.args.right c.requires.l c.requires.r c.requires.sides in
    omega (arith, p, c.requires.sides.left_low)

pub lower_left-requires : goal.lower_left-requires
lower_left-requires c =
    let p = left_height c.args.nodes.now c.args.node c.args.left c.args.right c.requires.l c.requires.r c.requires.sides in
    let q = right_height c.args.nodes.now c.args.node c.args.left c.args.right c.requires.l c.requires.r c.requires.sides in
    record { l = c.requires.l; r = c.requires.r; sides = c.requires.sides; high = omega (arith, p, q, c.requires.left_near) }

pub lower_right-requires : goal.lower_right-requires
lower_right-requires c =
    let p = left_height c.args.nodes.now c.args.node c.args.left c.args.right c.requires.l c.requires.r c.requires.sides in
    let q = right_height c.args.nodes.now c.args.node c.args.left c.args.right c.requires.l c.requires.r c.requires.sides in
    record { l = c.requires.l; r = c.requires.r; sides = c.requires.sides; high = omega (arith, p, q, c.requires.right_near) }

pub link-requires : goal.link-requires
link-requires c = can_link c.args.nodes.now c.args.node c.args.left c.args.right c.requires.l c.requires.r c.requires.sides

pub returns-then-left_height-right_height : goal.returns-then-left_height-right_height
returns-then-left_height-right_height c = λ l r sides near other.
    let p = left_height c.args.nodes.now c.args.node c.args.left c.args.right l r sides in
    let q = right_height c.args.nodes.now c.args.node c.args.left c.args.right l r sides in
    c.lower_left.ensures l r sides (omega (arith, p, q, near))

pub returns-then-right_height-left_height : goal.returns-then-right_height-left_height
returns-then-right_height-left_height c = λ l r sides near other.
    let p = left_height c.args.nodes.now c.args.node c.args.left c.args.right l r sides in
    let q = right_height c.args.nodes.now c.args.node c.args.left c.args.right l r sides in
    c.lower_right.ensures l r sides (omega (arith, p, q, other))

pub returns : goal.returns
returns c = λ l r sides near other.
    let p = left_height c.args.nodes.now c.args.node c.args.left c.args.right l r sides in
    let q = right_height c.args.nodes.now c.args.node c.args.left c.args.right l r sides in
    rw c.link.ensures
    (fork l (entry_at c.args.nodes.now c.args.node) r, joined c.args.nodes.now c.args.node c.args.left c.args.right l r sides (omega (arith, p, q)) (omega (arith, p, q)))
