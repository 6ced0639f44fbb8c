use Rattle.std.proofs.Common.{subst}
use Rattle.vs_split.specs.Tiles.{IsTiled}
use Rattle.stay_calls.proofs.VsStays.{low_address, words_within}
use Rattle.stay_calls.proofs.vs.lies_within.Goals as goal

pub overflow_sub-addr : goal.overflow_sub-addr
overflow_sub-addr c = low_address c.args.vs.now c.args.addr c.requires

pub returns : goal.returns
returns c = λ size e. words_within c.args.vs.now c.args.addr size (subst IsTiled c.heads.ensures.chunks c.chunk_at-head.ensures.tiled) c.heads.ensures.granules e
