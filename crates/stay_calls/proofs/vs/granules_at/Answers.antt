use Rattle.std.proofs.Common.{◌≡◌, ◌-◌, Some, is_some, sym, ap, ◌∙◌}
use Rattle.heap_model.specs.State.{Place}
use Rattle.vs_headers.specs.declared.Head.{Head}
use Rattle.vs_split.specs.Chunks.{Chunks, chunk_at}
use Rattle.vs_layer.proofs.Blocks.{chunk_asked}
use Rattle.stay_calls.proofs.vs.granules_at.Goals as goal

pub overflow_sub-start : goal.overflow_sub-start
overflow_sub-start c = (chunk_asked c.args.vs.now c.args.addr c.requires.0 c.requires.1).low

pub unwrap-requires : goal.unwrap-requires
unwrap-requires c =
    ap is_some
    (c.chunk_at.ensures.head
    ∙ (ap (λ (v : Chunks). chunk_at v (c.args.addr - 16)) c.heads.ensures.chunks ∙ (chunk_asked c.args.vs.now c.args.addr c.requires.0 c.requires.1).there))

pub returns : goal.returns
returns c = λ p e.
    let b = chunk_asked c.args.vs.now c.args.addr p e in
    let one : Some c.unwrap.result ≡ Some b.head = sym c.unwrap.ensures ∙ (c.chunk_at.ensures.head ∙ (ap (λ (v : Chunks). chunk_at v (c.args.addr - 16)) c.heads.ensures.chunks ∙ b.there)) in
    let same : c.unwrap.result ≡ b.head = cc in
    c.from.ensures ∙ (ap (λ (h : Head). h.units) same ∙ ap (λ (q : Place). q.granules) b.is)
