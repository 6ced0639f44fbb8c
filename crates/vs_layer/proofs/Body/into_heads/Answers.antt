use Rattle.std.proofs.Common.{subst}
use Rattle.vs_layer.specs.Effects.{ShowsChunks}
use Rattle.vs_layer.proofs.Shown.{shows_chunks}
use Rattle.vs_layer.proofs.Body.into_heads.Goals as goal

pub returns-clause-shown : goal.returns-clause-shown
returns-clause-shown c = subst ShowsChunks c.self.view_is (shows_chunks _ c.self.invariant.0.chunks c.self.invariant.0.plain)
