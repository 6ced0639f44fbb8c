use Rattle.std.proofs.Common.{◌≡◌, ◌*◌, length, subst, arith}
use Rattle.heap_soundness.specs.Sound.{AreInOrder, AreAt, IsInVs}
use Rattle.vs_layer.specs.Kept.{VsKept, places_of}
use Rattle.vs_layer.specs.Effects.{ShowsChunks}
use Rattle.vs_layer.proofs.Inside.{in_spans}
use Rattle.vs_layer.proofs.Shown.{shows_chunks}
use Rattle.vs_layer.proofs.Body.heads.Goals as goal

pub returns-clause-shown : goal.returns-clause-shown
returns-clause-shown c = subst ShowsChunks c.self.view_is (shows_chunks _ c.self.invariant.0.chunks c.self.invariant.0.plain)

pub returns-clause-in_order : goal.returns-clause-in_order
returns-clause-in_order c = subst (λ (k : VsKept). AreInOrder 0 k.spans) c.self.view_is c.self.invariant.0.chunks.in_order

pub returns-clause-granules : goal.returns-clause-granules
returns-clause-granules c =
    subst (λ (k : VsKept). length k.chunks.heads ≡ 65536 * k.limits.segments) c.self.view_is (omega (arith, c.self.invariant.0.granules, c.self.invariant.5))

pub returns-clause-inside : goal.returns-clause-inside
returns-clause-inside c =
    subst (λ (k : VsKept). AreAt (IsInVs k.spans) (places_of k)) c.self.view_is (in_spans _ c.self.inside.pages.items c.self.invariant.0.spans c.self.invariant.0.chunks)
