use Rattle.std.proofs.Common.{◌≡◌, ◌-◌, ◌/◌, Vec, true, is_some, length, refl, sym, ap, subst, ◌∙◌}
use Rattle.heap_model.specs.Geometry.{units_of}
use Rattle.vs_split.specs.Chunks.{chunk_at}
use Rattle.vs_layer.specs.Kept.{VsKept, place_of, lets_stay}
use Rattle.vs_layer.specs.contracts.Body.{the_view}
use Rattle.vs_layer.specs.declared.Tiling.{Tiling}
use Rattle.vs_layer.proofs.Blocks.{chunk_asked}
use Rattle.vs_layer.proofs.Placed.{counters_grow}
use Rattle.vs_layer.proofs.Resized.{IsHere, here_from, stays_from, unused_within, size_left, most, two, tiled, chunk_joined, room, absent, needed, chunk_cut, sound_resized, result_resized, of_same_resized}
use Rattle.std.specs.Vec.{vec_capacity}
use Rattle.heap_model.specs.Buckets.{bucket_of}
use Rattle.vs_layer.specs.Counted.{one_less}
use Rattle.vs_layer.specs.Sound.{spans_from}
use Rattle.vs_layer.proofs.Counts.{more_room, less_room}
use Rattle.vs_layer.proofs.Standing.{resizes}
use Rattle.vs_layer.proofs.Body.resize_in_place.Goals as goal
use Rattle.vs_layer.proofs.Body.resize_in_place.Goals.{After-unwrap-head}

here : (c : After-unwrap-head) → IsHere (the_view c.self.inside) c.args.addr c.unwrap-head.result
here c = here_from (the_view c.self.inside) c.args.self.now c.args.addr c.requires.0 c.unwrap-head.result c.chunk_at.result c.self.view_is c.requires.1 c.chunk_at.ensures.head c.unwrap-head.ensures

stays : (c : After-unwrap-head) → lets_stay (the_view c.self.inside) (place_of ((c.args.addr - 16) / 16) c.unwrap-head.result) c.args.n ≡ true
stays c =
    stays_from (the_view c.self.inside) c.args.self.now c.args.addr c.args.n c.unwrap-head.result c.room_in_place.result c.self.view_is (here c) c.room_in_place.ensures c.if-not-room_in_place.false

pub overflow_sub-start : goal.overflow_sub-start
overflow_sub-start c = (chunk_asked c.args.self.now c.args.addr c.requires.0 c.requires.1).low

pub unwrap-head-requires : goal.unwrap-head-requires
unwrap-head-requires c =
    let b = chunk_asked c.args.self.now c.args.addr c.requires.0 c.requires.1 in
    ap is_some (c.chunk_at.ensures.head ∙ ap (λ (k : VsKept). chunk_at k.chunks (c.args.addr - 16)) c.self.view_is ∙ b.there)

pub cut-taken-requires-clause-tiled : goal.cut-taken-requires-clause-tiled
cut-taken-requires-clause-tiled c =
    tiled _ c.self.inside.pages.items c.self.inside.counts.live.items c.self.inside.tiling.index c.self.invariant.0 c.args.addr c.args.n c.unwrap-head.result (here (goal.at.cut-taken-requires-clause-tiled c).After-unwrap-head) (stays (goal.at.cut-taken-requires-clause-tiled c).After-unwrap-head)
    c.units_for.result c.units_for.ensures c.reach-all.result c.reach-all.ensures c.join_gap_behind.new.self.heads c.join_gap_behind.new.self.index (c.join_gap_behind.ensures c.unwrap-head.result (here (goal.at.cut-taken-requires-clause-tiled c).After-unwrap-head).there)

pub cut-taken-requires-clause-there : goal.cut-taken-requires-clause-there
cut-taken-requires-clause-there c =
    chunk_joined _ c.self.inside.pages.items c.self.inside.counts.live.items c.self.inside.tiling.index c.self.invariant.0 c.args.addr c.args.n c.unwrap-head.result (here (goal.at.cut-taken-requires-clause-there c).After-unwrap-head) (stays (goal.at.cut-taken-requires-clause-there c).After-unwrap-head)
    c.units_for.result c.units_for.ensures c.reach-all.result c.reach-all.ensures c.join_gap_behind.new.self.heads c.join_gap_behind.new.self.index (c.join_gap_behind.ensures c.unwrap-head.result (here (goal.at.cut-taken-requires-clause-there c).After-unwrap-head).there)

pub cut-taken-requires-clause-units : goal.cut-taken-requires-clause-units
cut-taken-requires-clause-units c =
    two _ c.self.inside.pages.items c.self.inside.counts.live.items c.self.inside.tiling.index c.self.invariant.0 c.args.addr c.args.n c.unwrap-head.result (here (goal.at.cut-taken-requires-clause-units c).After-unwrap-head) (stays (goal.at.cut-taken-requires-clause-units c).After-unwrap-head)
    c.units_for.result c.units_for.ensures c.reach-all.result c.reach-all.ensures c.join_gap_behind.new.self.heads c.join_gap_behind.new.self.index (c.join_gap_behind.ensures c.unwrap-head.result (here (goal.at.cut-taken-requires-clause-units c).After-unwrap-head).there)

pub cut-taken-requires-clause-room : goal.cut-taken-requires-clause-room
cut-taken-requires-clause-room c =
    room _ c.self.inside.pages.items c.self.inside.counts.live.items c.self.inside.tiling.index c.self.invariant.0 c.args.addr c.args.n c.unwrap-head.result (here (goal.at.cut-taken-requires-clause-room c).After-unwrap-head) (stays (goal.at.cut-taken-requires-clause-room c).After-unwrap-head)
    c.units_for.result c.units_for.ensures c.reach-all.result c.reach-all.ensures c.join_gap_behind.new.self.heads c.join_gap_behind.new.self.index (c.join_gap_behind.ensures c.unwrap-head.result (here (goal.at.cut-taken-requires-clause-room c).After-unwrap-head).there)

pub cut-taken-requires-clause-absent : goal.cut-taken-requires-clause-absent
cut-taken-requires-clause-absent c =
    absent _ c.self.inside.pages.items c.self.inside.counts.live.items c.self.inside.tiling.index c.self.invariant.0 c.args.addr c.args.n c.unwrap-head.result (here (goal.at.cut-taken-requires-clause-absent c).After-unwrap-head) (stays (goal.at.cut-taken-requires-clause-absent c).After-unwrap-head)
    c.units_for.result c.units_for.ensures c.reach-all.result c.reach-all.ensures c.join_gap_behind.new.self.heads c.join_gap_behind.new.self.index (c.join_gap_behind.ensures c.unwrap-head.result (here (goal.at.cut-taken-requires-clause-absent c).After-unwrap-head).there)

pub units_for-requires : goal.units_for-requires
units_for-requires c =
    most _ c.self.inside.pages.items c.self.inside.counts.live.items c.self.inside.tiling.index c.self.invariant.0 c.args.addr c.args.n c.unwrap-head.result (here (goal.at.units_for-requires c).After-unwrap-head) (stays (goal.at.units_for-requires c).After-unwrap-head)
    (units_of c.args.n) refl c.reach-all.result c.reach-all.ensures c.join_gap_behind.new.self.heads c.join_gap_behind.new.self.index (c.join_gap_behind.ensures c.unwrap-head.result (here (goal.at.units_for-requires c).After-unwrap-head).there)

pub unused_in-requires-clause-size : goal.unused_in-requires-clause-size
unused_in-requires-clause-size c =
    most _ c.self.inside.pages.items c.self.inside.counts.live.items c.self.inside.tiling.index c.self.invariant.0 c.args.addr c.args.n c.unwrap-head.result (here (goal.at.unused_in-requires-clause-size c).After-unwrap-head) (stays (goal.at.unused_in-requires-clause-size c).After-unwrap-head)
    c.units_for.result c.units_for.ensures c.reach-all.result c.reach-all.ensures c.join_gap_behind.new.self.heads c.join_gap_behind.new.self.index (c.join_gap_behind.ensures c.unwrap-head.result (here (goal.at.unused_in-requires-clause-size c).After-unwrap-head).there)

pub unused_in-requires-clause-units : goal.unused_in-requires-clause-units
unused_in-requires-clause-units c =
    needed _ c.self.inside.pages.items c.self.inside.counts.live.items c.self.inside.tiling.index c.self.invariant.0 c.args.addr c.args.n c.unwrap-head.result (here (goal.at.unused_in-requires-clause-units c).After-unwrap-head) (stays (goal.at.unused_in-requires-clause-units c).After-unwrap-head)
    c.units_for.result c.units_for.ensures c.reach-all.result c.reach-all.ensures c.join_gap_behind.new.self.heads c.join_gap_behind.new.self.index (c.join_gap_behind.ensures c.unwrap-head.result (here (goal.at.unused_in-requires-clause-units c).After-unwrap-head).there)
    c.cut-taken.new.self.heads c.cut-taken.new.self.index c.cut-taken.result c.cut-taken.ensures.taken
    (λ l. (ap (λ (t : Tiling). t.heads) (c.cut-taken.ensures.whole l), ap (λ (t : Tiling). t.index) (c.cut-taken.ensures.whole l)))
    c.cut-taken.ensures.chunks c.cut-taken.ensures.index

pub set-requires : goal.set-requires
set-requires c =
    chunk_cut _ c.self.inside.pages.items c.self.inside.counts.live.items c.self.inside.tiling.index c.self.invariant.0 c.args.addr c.args.n c.unwrap-head.result (here (goal.at.set-requires c).After-unwrap-head) (stays (goal.at.set-requires c).After-unwrap-head)
    c.units_for.result c.units_for.ensures c.reach-all.result c.reach-all.ensures c.join_gap_behind.new.self.heads c.join_gap_behind.new.self.index (c.join_gap_behind.ensures c.unwrap-head.result (here (goal.at.set-requires c).After-unwrap-head).there)
    c.cut-taken.new.self.heads c.cut-taken.new.self.index c.cut-taken.result c.cut-taken.ensures.taken
    (λ l. (ap (λ (t : Tiling). t.heads) (c.cut-taken.ensures.whole l), ap (λ (t : Tiling). t.index) (c.cut-taken.ensures.whole l)))
    c.cut-taken.ensures.chunks c.cut-taken.ensures.index

pub size_in-requires-clause-within : goal.size_in-requires-clause-within
size_in-requires-clause-within c =
    unused_within _ c.self.inside.pages.items c.self.inside.counts.live.items c.self.inside.tiling.index c.self.invariant.0 c.args.addr c.args.n c.unwrap-head.result (here (goal.at.size_in-requires-clause-within c).After-unwrap-head)

pub resized-requires-clause-room : goal.resized-requires-clause-room
resized-requires-clause-room c =
    counters_grow _ c.self.inside.pages.items c.self.inside.counts.live.items c.self.inside.tiling.index c.self.invariant.0

pub resized-requires-clause-some : goal.resized-requires-clause-some
resized-requires-clause-some c =
    size_left _ c.self.inside.pages.items c.self.inside.counts.live.items c.self.inside.tiling.index c.self.invariant.0 c.args.addr c.args.n c.unwrap-head.result (here (goal.at.resized-requires-clause-some c).After-unwrap-head) c.size_in.result c.size_in.ensures

pub invariant_of-self : goal.invariant_of-self
invariant_of-self c = (
  sound_resized _ c.self.inside.pages.items c.self.inside.counts.live.items c.self.inside.tiling.index c.self.invariant.0 c.args.addr c.args.n c.unwrap-head.result (here (goal.at.invariant_of-self c).After-unwrap-head) (stays (goal.at.invariant_of-self c).After-unwrap-head)
      c.units_for.result c.units_for.ensures c.reach-all.result c.reach-all.ensures c.join_gap_behind.new.self.heads c.join_gap_behind.new.self.index (c.join_gap_behind.ensures c.unwrap-head.result (here (goal.at.invariant_of-self c).After-unwrap-head).there)
      c.cut-taken.new.self.heads c.cut-taken.new.self.index c.cut-taken.result c.cut-taken.ensures.taken
      (λ l. (ap (λ (t : Tiling). t.heads) (c.cut-taken.ensures.whole l), ap (λ (t : Tiling). t.index) (c.cut-taken.ensures.whole l)))
      c.cut-taken.ensures.chunks c.cut-taken.ensures.index
      c.unused_in.result c.unused_in.ensures c.set.new.self c.set.ensures
      _ refl refl (ap (λ (v : Vec _ _). v.items) c.resized.ensures.served) refl c.size_in.result c.size_in.ensures _ c.resized.ensures.live,
  c.self.invariant.1,
  c.self.invariant.2,
  more_room (bucket_of c.args.n) (one_less (bucket_of c.size_in.result) c.self.inside.counts.live.items) c.resized.new.self.live.items _ _
      (less_room (bucket_of c.size_in.result) c.self.inside.counts.live.items _ _ _ c.self.invariant.3 refl refl) c.resized.ensures.live_room c.resized.ensures.live,
  subst (λ (v : Vec _ _). vec_capacity v ≡ length v.items) (sym c.resized.ensures.served) c.self.invariant.4,
  c.self.invariant.5,
)

pub returns-clause-resizes : goal.returns-clause-resizes
returns-clause-resizes c =
    of_same_resized _ _ _ c.args.addr c.args.n c.self.view_is (
    result_resized _ c.self.inside.pages.items c.self.inside.counts.live.items c.self.inside.tiling.index c.self.invariant.0 c.args.addr c.args.n c.unwrap-head.result (here (goal.at.returns-clause-resizes c).After-unwrap-head) (stays (goal.at.returns-clause-resizes c).After-unwrap-head)
    c.units_for.result c.units_for.ensures c.reach-all.result c.reach-all.ensures c.join_gap_behind.new.self.heads c.join_gap_behind.new.self.index (c.join_gap_behind.ensures c.unwrap-head.result (here (goal.at.returns-clause-resizes c).After-unwrap-head).there)
    c.cut-taken.new.self.heads c.cut-taken.new.self.index c.cut-taken.result c.cut-taken.ensures.taken
    (λ l. (ap (λ (t : Tiling). t.heads) (c.cut-taken.ensures.whole l), ap (λ (t : Tiling). t.index) (c.cut-taken.ensures.whole l)))
    c.cut-taken.ensures.chunks c.cut-taken.ensures.index
    c.unused_in.result c.unused_in.ensures c.set.new.self c.set.ensures
    _ refl refl (ap (λ (v : Vec _ _). v.items) c.resized.ensures.served) refl)

pub returns-clause-stands : goal.returns-clause-stands
returns-clause-stands c =
    let new : VsKept = record { limits = c.self.inside.limits; spans = spans_from 0 c.self.inside.pages.items; chunks = c.set.new.self; served = c.resized.new.self.served.items; active = c.self.inside.active.items } in
    resizes c.args.self.now new (ap (λ (k : VsKept). k.limits) c.self.view_is) c.args.addr c.args.n (returns-clause-resizes c)
