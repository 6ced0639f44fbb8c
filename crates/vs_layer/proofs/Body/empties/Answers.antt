use Rattle.std.proofs.Common.{◌-◌, ◌/◌, ◌&&◌, is_some, sym, ap, subst, ◌∙◌}
use Rattle.vs_split.specs.Chunks.{chunk_at}
use Rattle.vs_layer.specs.Kept.{VsKept}
use Rattle.vs_layer.specs.Effects.{TellsLast}
use Rattle.vs_layer.specs.Sound.{AreChunksSound}
use Rattle.vs_layer.specs.Steps.{is_free_before, is_free_after}
use Rattle.vs_layer.proofs.Blocks.{chunk_asked, busy_found}
use Rattle.vs_layer.proofs.LastBlock.{tells_last}
use Rattle.vs_layer.proofs.Body.empties.Goals as goal

pub overflow_sub-start : goal.overflow_sub-start
overflow_sub-start c = (chunk_asked c.args.self.now c.args.addr c.requires.0 c.requires.1).low

pub unwrap-head-requires : goal.unwrap-head-requires
unwrap-head-requires c =
    let b = chunk_asked c.args.self.now c.args.addr c.requires.0 c.requires.1 in
    ap is_some (c.chunk_at.ensures.head ∙ ap (λ (k : VsKept). chunk_at k.chunks (c.args.addr - 16)) c.self.view_is ∙ b.there)

pub returns-then-is_free_up_to : goal.returns-then-is_free_up_to
returns-then-is_free_up_to c =
    let now = c.args.self.now in
    let addr = c.args.addr in
    let head = c.unwrap-head.result in
    let sound = subst AreChunksSound c.self.view_is c.self.invariant.0.chunks in
    let there = ap (λ (k : VsKept). chunk_at k.chunks (addr - 16)) (sym c.self.view_is) ∙ sym c.chunk_at.ensures.head ∙ c.unwrap-head.ensures in
    let low = (chunk_asked now addr c.requires.0 c.requires.1).low in
    let busy = busy_found now addr c.requires.0 head c.requires.1 there in
    let before = ap (λ (k : VsKept). is_free_before k.chunks ((addr - 16) / 16) head) (sym c.self.view_is) ∙ sym c.is_free_up_to.ensures ∙ c.if-is_free_up_to.true in
    let after = ap (λ (k : VsKept). is_free_after k.chunks ((addr - 16) / 16) head) (sym c.self.view_is) ∙ sym c.is_free_behind.ensures in
    let same = ap (λ b. b && is_free_after now.chunks ((addr - 16) / 16) head) before ∙ after in
    subst (TellsLast now addr) same (tells_last now sound addr head low there busy)

pub returns-else-is_free_up_to : goal.returns-else-is_free_up_to
returns-else-is_free_up_to c =
    let now = c.args.self.now in
    let addr = c.args.addr in
    let head = c.unwrap-head.result in
    let sound = subst AreChunksSound c.self.view_is c.self.invariant.0.chunks in
    let there = ap (λ (k : VsKept). chunk_at k.chunks (addr - 16)) (sym c.self.view_is) ∙ sym c.chunk_at.ensures.head ∙ c.unwrap-head.ensures in
    let low = (chunk_asked now addr c.requires.0 c.requires.1).low in
    let busy = busy_found now addr c.requires.0 head c.requires.1 there in
    let before = ap (λ (k : VsKept). is_free_before k.chunks ((addr - 16) / 16) head) (sym c.self.view_is) ∙ sym c.is_free_up_to.ensures ∙ c.if-is_free_up_to.false in
    let same = ap (λ b. b && is_free_after now.chunks ((addr - 16) / 16) head) before ∙ sym c.if-is_free_up_to.false in
    subst (TellsLast now addr) same (tells_last now sound addr head low there busy)
