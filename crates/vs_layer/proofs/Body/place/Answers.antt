use Rattle.std.proofs.Common.{◌+◌, ◌*◌, is_some, refl, ap, ◌∙◌}
use Rattle.heap_model.specs.Ranges.{vs_place}
use Rattle.vs_layer.specs.Kept.{gaps_in}
use Rattle.vs_layer.specs.declared.Tiling.{Tiling}
use Rattle.vs_layer.proofs.Best.{best_is}
use Rattle.vs_layer.proofs.Placed.{room, absent, chunk_cut, sound_placed, result_placed, counters_grow, best_from, of_same}
use Rattle.heap_model.specs.Buckets.{bucket_of}
use Rattle.vs_layer.specs.Kept.{VsKept}
use Rattle.vs_layer.specs.Sound.{spans_from}
use Rattle.vs_layer.proofs.Counts.{more_room, once_room}
use Rattle.vs_layer.proofs.Standing.{places}
use Rattle.vs_layer.proofs.Body.place.Goals as goal

pub unwrap-all-requires : goal.unwrap-all-requires
unwrap-all-requires c =
    best_is _ c.self.invariant.0.chunks c.self.inside.tiling.index c.self.invariant.0.index c.units_for-units.result c.best.result c.best.ensures
    ∙ ap (λ k. is_some (vs_place (gaps_in k) c.units_for-units.result)) c.self.view_is
    ∙ ap (λ n. is_some (vs_place (gaps_in c.args.self.now) n)) c.units_for-units.ensures
    ∙ c.requires.fits

pub cut-taken-requires-clause-room : goal.cut-taken-requires-clause-room
cut-taken-requires-clause-room c =
    room _ c.self.inside.pages.items c.self.inside.counts.live.items c.self.inside.tiling.index c.self.invariant.0 c.args.n c.units_for-units.result c.unwrap-all.result.0 c.unwrap-all.result.1
    c.requires.size c.units_for-units.ensures (best_from c.units_for-units.result c.self.inside.tiling.index.gaps c.best.result c.unwrap-all.result c.unwrap-all.ensures c.best.ensures)
    c.remove.new.self c.remove.ensures.gaps

pub cut-taken-requires-clause-absent : goal.cut-taken-requires-clause-absent
cut-taken-requires-clause-absent c =
    absent _ c.self.inside.pages.items c.self.inside.counts.live.items c.self.inside.tiling.index c.self.invariant.0 c.args.n c.units_for-units.result c.unwrap-all.result.0 c.unwrap-all.result.1
    c.requires.size c.units_for-units.ensures (best_from c.units_for-units.result c.self.inside.tiling.index.gaps c.best.result c.unwrap-all.result c.unwrap-all.ensures c.best.ensures)
    c.remove.new.self c.remove.ensures.gaps (16 * c.from-start.result) (ap (λ g. 16 * g) c.from-start.ensures)

pub set-requires : goal.set-requires
set-requires c = (
  _,
  chunk_cut _ c.self.inside.pages.items c.self.inside.counts.live.items c.self.inside.tiling.index c.self.invariant.0 c.args.n c.units_for-units.result c.unwrap-all.result.0 c.unwrap-all.result.1
      c.requires.size c.units_for-units.ensures (best_from c.units_for-units.result c.self.inside.tiling.index.gaps c.best.result c.unwrap-all.result c.unwrap-all.ensures c.best.ensures)
      c.remove.new.self c.remove.ensures.gaps (16 * c.from-start.result) (ap (λ g. 16 * g) c.from-start.ensures)
      c.cut-taken.new.self.heads c.cut-taken.new.self.index c.cut-taken.result c.cut-taken.ensures.taken
      (λ l. (ap (λ (t : Tiling). t.heads) (c.cut-taken.ensures.whole l), ap (λ (t : Tiling). t.index) (c.cut-taken.ensures.whole l)))
      c.cut-taken.ensures.chunks c.cut-taken.ensures.index,
)

pub placed-requires-clause-room : goal.placed-requires-clause-room
placed-requires-clause-room c = counters_grow _ c.self.inside.pages.items c.self.inside.counts.live.items c.self.inside.tiling.index c.self.invariant.0

pub invariant_of-self : goal.invariant_of-self
invariant_of-self c = (
  sound_placed _ c.self.inside.pages.items c.self.inside.counts.live.items c.self.inside.tiling.index c.self.invariant.0 c.args.n c.units_for-units.result c.unwrap-all.result.0 c.unwrap-all.result.1
      c.requires.size c.units_for-units.ensures (best_from c.units_for-units.result c.self.inside.tiling.index.gaps c.best.result c.unwrap-all.result c.unwrap-all.ensures c.best.ensures)
      c.remove.new.self c.remove.ensures.gaps (16 * c.from-start.result) (ap (λ g. 16 * g) c.from-start.ensures)
      c.cut-taken.new.self.heads c.cut-taken.new.self.index c.cut-taken.result c.cut-taken.ensures.taken
      (λ l. (ap (λ (t : Tiling). t.heads) (c.cut-taken.ensures.whole l), ap (λ (t : Tiling). t.index) (c.cut-taken.ensures.whole l)))
      c.cut-taken.ensures.chunks c.cut-taken.ensures.index
      c.unused_in.result c.unused_in.ensures c.set.new.self c.set.ensures
      _ refl refl c.placed.ensures.served refl _ c.placed.ensures.live,
  c.self.invariant.1,
  c.self.invariant.2,
  more_room (bucket_of c.args.n) c.self.inside.counts.live.items c.placed.new.self.live.items _ _ c.self.invariant.3 c.placed.ensures.live_room c.placed.ensures.live,
  once_room (bucket_of c.args.n) c.self.inside.counts.served.items c.placed.new.self.served.items _ _ c.self.invariant.4 c.placed.ensures.served_room c.placed.ensures.served,
  c.self.invariant.5,
)

pub returns-clause-placed : goal.returns-clause-placed
returns-clause-placed c = of_same _ _ _ c.args.n (16 * c.from-start.result + 16) c.self.view_is (
    result_placed _ c.self.inside.pages.items c.self.inside.counts.live.items c.self.inside.tiling.index c.self.invariant.0 c.args.n c.units_for-units.result c.unwrap-all.result.0 c.unwrap-all.result.1
    c.requires.size c.units_for-units.ensures (best_from c.units_for-units.result c.self.inside.tiling.index.gaps c.best.result c.unwrap-all.result c.unwrap-all.ensures c.best.ensures)
    c.remove.new.self c.remove.ensures.gaps (16 * c.from-start.result) (ap (λ g. 16 * g) c.from-start.ensures)
    c.cut-taken.new.self.heads c.cut-taken.new.self.index c.cut-taken.result c.cut-taken.ensures.taken
    (λ l. (ap (λ (t : Tiling). t.heads) (c.cut-taken.ensures.whole l), ap (λ (t : Tiling). t.index) (c.cut-taken.ensures.whole l)))
    c.cut-taken.ensures.chunks c.cut-taken.ensures.index
    c.unused_in.result c.unused_in.ensures c.set.new.self c.set.ensures
    _ refl refl c.placed.ensures.served refl)

pub returns-clause-stands : goal.returns-clause-stands
returns-clause-stands c =
    let new : VsKept = record { limits = c.self.inside.limits; spans = spans_from 0 c.self.inside.pages.items; chunks = c.set.new.self; served = c.placed.new.self.served.items; active = c.self.inside.active.items } in
    places c.args.self.now new (ap (λ (k : VsKept). k.limits) c.self.view_is) c.args.n (16 * c.from-start.result + 16) (returns-clause-placed c)
