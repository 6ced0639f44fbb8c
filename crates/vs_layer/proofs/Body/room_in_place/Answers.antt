use Rattle.std.proofs.Common.{◌-◌, ◌/◌, ◌+◌, is_some, sym, ap, subst, ◌∙◌}
use Rattle.vs_split.specs.Chunks.{chunk_at}
use Rattle.vs_layer.specs.Kept.{VsKept}
use Rattle.vs_layer.specs.Sound.{AreChunksSound}
use Rattle.vs_layer.specs.Steps.{gap_behind, units_of_gap}
use Rattle.vs_layer.proofs.Blocks.{chunk_asked}
use Rattle.vs_layer.proofs.Reach.{stays_if}
use Rattle.vs_layer.proofs.Body.room_in_place.Goals as goal

pub overflow_sub-start : goal.overflow_sub-start
overflow_sub-start c = (chunk_asked c.args.self.now c.args.addr c.requires.0 c.requires.1).low

pub unwrap-head-requires : goal.unwrap-head-requires
unwrap-head-requires c =
    let b = chunk_asked c.args.self.now c.args.addr c.requires.0 c.requires.1 in
    ap is_some (c.chunk_at.ensures.head ∙ ap (λ (k : VsKept). chunk_at k.chunks (c.args.addr - 16)) c.self.view_is ∙ b.there)

pub returns-then-n-le-MOST_VARIABLE : goal.returns-then-n-le-MOST_VARIABLE
returns-then-n-le-MOST_VARIABLE c p e =
    let now = c.args.self.now in
    let addr = c.args.addr in
    let head = c.unwrap-head.result in
    let sound = subst AreChunksSound c.self.view_is c.self.invariant.0.chunks in
    let there = ap (λ (k : VsKept). chunk_at k.chunks (addr - 16)) (sym c.self.view_is) ∙ sym c.chunk_at.ensures.head ∙ c.unwrap-head.ensures in
    let reach = c.reach.ensures ∙ ap (λ (k : VsKept). head.units + units_of_gap (gap_behind k.chunks ((addr - 16) / 16) head)) c.self.view_is in
    stays_if now sound addr c.args.n c.units_for.result c.reach.result head p e there c.if-n-le-MOST_VARIABLE.true c.units_for.ensures reach
