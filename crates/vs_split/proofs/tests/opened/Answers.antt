-- No chunk stands in an empty table.
use Rattle.std.proofs.Common.{ap}
use Rattle.vs_split.specs.Chunks.{Chunks, head_at}
use Rattle.vs_split.proofs.TileLemmas.{none_or_some}
use Rattle.vs_split.proofs.TiledLemmas.{none_at}
use Rattle.vs_split.proofs.tests.opened.Goals as goal

pub open_span-requires-clause-clear : goal.open_span-requires-clause-clear
open_span-requires-clause-clear c = λ g h is.
    absurd (none_or_some (head_at c.in_ok-heads.heads g) h (none_at c.in_ok-heads.heads 65536 (ap (λ (v : Chunks). v.heads) c.in_ok-heads.ensures) g) is)
