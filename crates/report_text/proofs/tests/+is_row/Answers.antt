use Rattle.std.proofs.Common.{ℕ, ◌+◌, ◌∷◌, subst, arith}
use Rattle.vs_headers.specs.declared.Head.{Head}
use Rattle.vs_split.specs.Laws.{IsRow}
use Rattle.layout_decode.proofs.Rows.{read_at}
use Rattle.report_text.proofs.tests.+is_row.Goals as goal

pub is_row-requires : goal.is_row-requires
is_row-requires t c =
    let g : ℕ = c.args.from in
    let at = read_at c.args.heads.now g _ _ _ c.from.ensures c.chunk_at.ensures.head c.in-Some.is in
    let some = (c.chunk_at.ensures.tiled.tiles g c.in-Some.head at).some in
    (omega (arith, some, c.from-then-head-prev.ensures, c.if-from-to.false, c.decreases), c.requires)

pub returns-then-head-prev : goal.returns-then-head-prev
returns-then-head-prev t c = λ e.
    let v = c.args.heads.now in
    let g : ℕ = c.args.from in
    let h : Head = c.in-Some.head in
    let at = read_at v g _ _ _ c.from.ensures c.chunk_at.ensures.head c.in-Some.is in
    let rest = c.is_row.ensures e in
    (h ∷ rest.0, (at, c.if-head-prev.true, subst (λ n. IsRow v h.units (g + n) c.args.to rest.0) c.from-then-head-prev.ensures rest.1))
