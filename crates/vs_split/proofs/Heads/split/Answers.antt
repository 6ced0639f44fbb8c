use Rattle.std.proofs.Common.{◌≡◌, ◌+◌, ◌≤◌, length, Some, sym, ap, subst, ◌∙◌, arith, rules}
use Rattle.vs_headers.specs.declared.Head.{Head}
use Rattle.vs_split.specs.Chunks.{Chunks, chunk_at, split_chunk}
use Rattle.vs_split.specs.Tiles.{IsTiled}
use Rattle.vs_split.proofs.TileLemmas.{same_head}
use Rattle.vs_split.proofs.TiledLemmas.{tiled_split, second_in, as_long}
use Rattle.vs_split.proofs.Heads.split.Goals as goal

pub put-requires-2 : goal.put-requires-2
put-requires-2 c =
    let same = same_head c.requires.head c.chunk-at.result.1 (sym c.requires.there ∙ ap (λ (v : Chunks). chunk_at v c.args.addr) (sym c.self.view_is) ∙ c.chunk-at.ensures.head) in
    let back : c.args.units + 2 ≤ c.chunk-at.result.1.units = omega (arith, c.requires.back, ap (λ (h : Head). h.units) same) in
    let within = second_in c.self.inside.table c.self.invariant c.chunk-at.result.0 c.args.units c.chunk-at.result.1 c.chunk-at.ensures.start c.requires.front back in
    omega (arith, within, c.from.ensures, ap (λ (v : Chunks). length v.heads) c.put.ensures, as_long c.self.inside.table c.chunk-at.result.0 (Some (record c.chunk-at.result.1 { units = c.args.units })))

pub invariant_of-self : goal.invariant_of-self
invariant_of-self c =
    let same = same_head c.requires.head c.chunk-at.result.1 (sym c.requires.there ∙ ap (λ (v : Chunks). chunk_at v c.args.addr) (sym c.self.view_is) ∙ c.chunk-at.ensures.head) in
    let back : c.args.units + 2 ≤ c.chunk-at.result.1.units = omega (arith, c.requires.back, ap (λ (h : Head). h.units) same) in
    let cut : c.set_prev.new.self ≡ split_chunk c.self.inside.table c.chunk-at.result.0 c.chunk-at.result.1 c.args.units = search rules in
    subst IsTiled (sym cut) (tiled_split c.self.inside.table c.self.invariant c.chunk-at.result.0 c.args.units c.chunk-at.result.1 c.chunk-at.ensures.start c.requires.front back)
