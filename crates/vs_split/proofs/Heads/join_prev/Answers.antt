use Rattle.std.proofs.Common.{◌≡◌, ℕ, ◌+◌, ◌-◌, ◌*◌, ◌<◌, sym, ap, subst, ◌∙◌, arith}
use Rattle.vs_headers.specs.declared.Head.{Head}
use Rattle.vs_split.specs.Chunks.{Chunks, chunk_at}
use Rattle.vs_split.specs.Tiles.{IsTiled}
use Rattle.vs_split.proofs.TileLemmas.{same_head}
use Rattle.vs_split.proofs.TiledLemmas.{prev_chunk, prev_below, prev_meets}
use Rattle.vs_split.proofs.Heads.join_prev.Goals as goal

pub overflow_sub-start : goal.overflow_sub-start
overflow_sub-start c =
    omega (arith, c.from.ensures, prev_below c.self.inside.table c.self.invariant c.args.addr c.chunk.result.1 c.chunk.ensures.head)

pub join_next-requires : goal.join_next-requires
join_next-requires c =
    let tiled = subst IsTiled c.self.view_is c.self.invariant in
    let there = ap (λ (v : Chunks). chunk_at v c.args.addr) (sym c.self.view_is) ∙ c.chunk.ensures.head in
    let same = same_head c.requires.head c.chunk.result.1 (sym c.requires.there ∙ there) in
    let some : 0 < c.chunk.result.1.prev = omega (arith, c.requires.some, ap (λ (h : Head). h.prev) same) in
    prev_chunk c.args.self.now tiled c.args.addr c.chunk.result.1 there some _
    (omega (arith, c.from.ensures, prev_below c.args.self.now tiled c.args.addr c.chunk.result.1 there))

pub returns-clause-start : goal.returns-clause-start
returns-clause-start c = λ h there.
    let tiled = subst IsTiled c.self.view_is c.self.invariant in
    let chunk = ap (λ (v : Chunks). chunk_at v c.args.addr) (sym c.self.view_is) ∙ c.chunk.ensures.head in
    let same = same_head c.chunk.result.1 h (sym chunk ∙ there) in
    omega (arith, c.from.ensures, ap (λ (k : Head). k.prev) same, prev_below c.args.self.now tiled c.args.addr h there)

pub returns-clause-chunks : goal.returns-clause-chunks
returns-clause-chunks c = λ p h there front.
    let tiled = subst IsTiled c.self.view_is c.self.invariant in
    let chunk = ap (λ (v : Chunks). chunk_at v c.args.addr) (sym c.self.view_is) ∙ c.chunk.ensures.head in
    let same = same_head c.chunk.result.1 h (sym chunk ∙ there) in
    let asked = same_head c.requires.head h (sym c.requires.there ∙ there) in
    let start : ℕ = c.args.addr - 16 * c.from.result in
    let some : 0 < h.prev = omega (arith, c.requires.some, ap (λ (k : Head). k.prev) asked) in
    let from : start + 16 * h.prev ≡ c.args.addr = omega (arith, c.from.ensures, ap (λ (k : Head). k.prev) same, prev_below c.args.self.now tiled c.args.addr h there) in
    c.join_next.ensures p h front (prev_meets c.args.self.now tiled c.args.addr h there some start from p front)
