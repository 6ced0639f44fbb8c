use Rattle.std.proofs.Common.{sym, ap, ◌∙◌, arith}
use Rattle.vs_split.specs.Chunks.{Chunks}
use Rattle.layout_decode.proofs.Told.{cut}
use Rattle.layout_decode.proofs.tests.could_cut.Goals as goal

pub set-requires : goal.set-requires
set-requires c =
    let v = c.args.image.now.heads in
    let d = cut v c.split.new.self c.args.image.now.key c.args.addr c.args.units c.in-Some.head c.chunk_at.ensures.tiled c.requires.told c.requires.key (sym c.chunk_at.ensures.head ∙ c.in-Some.is) (omega arith) (omega arith) (c.split.ensures c.in-Some.head (sym c.chunk_at.ensures.head ∙ c.in-Some.is)) in
    (d.front, d.there)

pub returns-clause-told : goal.returns-clause-told
returns-clause-told c =
    let v = c.args.image.now.heads in
    let d = cut v c.split.new.self c.args.image.now.key c.args.addr c.args.units c.in-Some.head c.chunk_at.ensures.tiled c.requires.told c.requires.key (sym c.chunk_at.ensures.head ∙ c.in-Some.is) (omega arith) (omega arith) (c.split.ensures c.in-Some.head (sym c.chunk_at.ensures.head ∙ c.in-Some.is)) in
    d.told c.set.new.self c.args.unused c.args.busy (omega arith) (c.set.ensures d.front d.there)

pub returns-clause-key : goal.returns-clause-key
returns-clause-key c =
    let v = c.args.image.now.heads in
    let d = cut v c.split.new.self c.args.image.now.key c.args.addr c.args.units c.in-Some.head c.chunk_at.ensures.tiled c.requires.told c.requires.key (sym c.chunk_at.ensures.head ∙ c.in-Some.is) (omega arith) (omega arith) (c.split.ensures c.in-Some.head (sym c.chunk_at.ensures.head ∙ c.in-Some.is)) in
    ap (λ (x : Chunks). x.key) (c.set.ensures d.front d.there) ∙ d.same_key
