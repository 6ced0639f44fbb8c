use Rattle.std.proofs.Common.{ap, arith, false, length}
use Rattle.vs_split.specs.Chunks.{Chunks}
use Rattle.vs_split.specs.Table.{filled_up}
use Rattle.vs_split.proofs.TableLemmas.{granules}
use Rattle.vs_split.proofs.TiledLemmas.{chunk_of, granule_within}
use Rattle.vs_split.proofs.table.HeadTable.chunk.Goals as goal

pub overflow_cast-granule : goal.overflow_cast-granule
overflow_cast-granule c =
    let at = chunk_of c.args.self.now c.args.addr c.requires.0 c.requires.1 in
    omega (arith, granule_within c.args.self.now _ _ at.head, ap (λ (v : Chunks). length v.heads) c.self.view_is, granules c.self.inside.key (filled_up c.self.inside.granules 0 c.self.inside.words.items) (filled_up c.self.inside.granules false c.self.inside.starts.items) c.self.invariant.0, c.self.invariant.0.few)
