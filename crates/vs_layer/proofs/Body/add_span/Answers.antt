use Rattle.std.proofs.Common.{◌-◌, ◌*◌, refl, sym, ap, subst, ◌∙◌, arith}
use Rattle.std.proofs.Math.ListN.{set, length-set}
use Rattle.heap_model.specs.State.{insert_span}
use Rattle.vs_split.specs.Chunks.{Chunks}
use Rattle.vs_split.specs.Tiles.{AreSpanPages}
use Rattle.std.specs.List.{AllByRecursion}
use Rattle.vs_layer.specs.Kept.{VsKept, places_of, places_from, vs_span}
use Rattle.vs_layer.specs.Effects.{LieApart}
use Rattle.vs_layer.proofs.Opened.{clear, absent_opened, is_sound_opened, spans_opened, places_opened}
use Rattle.vs_layer.proofs.Room.{spare_room}
use Rattle.vs_layer.specs.Kept.{part_of}
use Rattle.vs_layer.specs.Sound.{spans_from}
use Rattle.vs_layer.proofs.Standing.{adds}
use Rattle.vs_layer.proofs.Body.add_span.Goals as goal

pub open_span-requires-clause-clear : goal.open_span-requires-clause-clear
open_span-requires-clause-clear c =
    clear _ c.self.invariant.0.chunks c.args.first c.args.pages
    (subst (λ (k : VsKept). AreSpanPages k.chunks c.args.first c.args.pages) (sym c.self.view_is) c.requires.pages)
    (subst (λ (k : VsKept). AllByRecursion (LieApart c.args.first c.args.pages) k.spans) (sym c.self.view_is) c.requires.apart)

pub add-requires-clause-room : goal.add-requires-clause-room
add-requires-clause-room c =
    let pages = subst (λ (k : VsKept). AreSpanPages k.chunks c.args.first c.args.pages) (sym c.self.view_is) c.requires.pages in
    let spare = spare_room c.self.inside.tiling.heads c.self.inside.tiling.index c.self.invariant.0.chunks.tiled c.self.invariant.0.chunks.joined c.self.invariant.0.index (omega (arith, pages.there, pages.least)) in
    omega (arith, spare)

pub add-requires-clause-absent : goal.add-requires-clause-absent
add-requires-clause-absent c =
    absent_opened _ c.self.invariant.0.chunks c.args.first c.args.pages
    (subst (λ (k : VsKept). AreSpanPages k.chunks c.args.first c.args.pages) (sym c.self.view_is) c.requires.pages)
    (subst (λ (k : VsKept). AllByRecursion (LieApart c.args.first c.args.pages) k.spans) (sym c.self.view_is) c.requires.apart)
    c.self.inside.tiling.index c.self.invariant.0.index (256 * c.args.pages - 3)

pub invariant_of-self : goal.invariant_of-self
invariant_of-self c = (
  is_sound_opened _ c.self.inside.pages.items c.self.inside.counts.live.items c.self.inside.tiling.index c.self.invariant.0 c.args.first c.args.pages
      (subst (λ (k : VsKept). AreSpanPages k.chunks c.args.first c.args.pages) (sym c.self.view_is) c.requires.pages)
      (subst (λ (k : VsKept). AllByRecursion (LieApart c.args.first c.args.pages) k.spans) (sym c.self.view_is) c.requires.apart)
      _ _ refl c.open_span.ensures refl refl c.add.ensures,
  c.self.invariant.1 ∙ sym (length-set c.self.inside.pages.items c.args.first c.args.pages),
  c.self.invariant.2,
  c.self.invariant.3,
  c.self.invariant.4,
  length-set c.self.inside.pages.items c.args.first c.args.pages ∙ c.self.invariant.5,
)

pub returns-clause-spans : goal.returns-clause-spans
returns-clause-spans c =
    spans_opened _ c.self.inside.pages.items c.self.inside.counts.live.items c.self.inside.tiling.index c.self.invariant.0 c.args.first c.args.pages
    (subst (λ (k : VsKept). AreSpanPages k.chunks c.args.first c.args.pages) (sym c.self.view_is) c.requires.pages)
    (subst (λ (k : VsKept). AllByRecursion (LieApart c.args.first c.args.pages) k.spans) (sym c.self.view_is) c.requires.apart)
    ∙ ap (λ (k : VsKept). insert_span (vs_span c.args.first c.args.pages) k.spans) c.self.view_is

pub returns-clause-places : goal.returns-clause-places
returns-clause-places c =
    ap (λ (v : Chunks). places_from 0 v.heads) c.open_span.ensures
    ∙ places_opened _ c.self.invariant.0.chunks c.args.first c.args.pages
    (subst (λ (k : VsKept). AreSpanPages k.chunks c.args.first c.args.pages) (sym c.self.view_is) c.requires.pages)
    (subst (λ (k : VsKept). AllByRecursion (LieApart c.args.first c.args.pages) k.spans) (sym c.self.view_is) c.requires.apart)
    ∙ ap places_of c.self.view_is

pub returns-clause-stands : goal.returns-clause-stands
returns-clause-stands c =
    let new : VsKept = record { limits = c.self.inside.limits; spans = spans_from 0 (set c.self.inside.pages.items c.args.first c.args.pages); chunks = c.open_span.new.self; served = c.self.inside.counts.served.items; active = c.self.inside.active.items } in
    adds c.args.self.now new (ap (λ (k : VsKept). k.limits) c.self.view_is) c.args.first c.args.pages (returns-clause-spans c) (returns-clause-places c)
    (ap (λ (k : VsKept). (part_of k).active) c.self.view_is) (ap (λ (k : VsKept). (part_of k).served) c.self.view_is)
    (ap (λ (v : Chunks). v.key) c.open_span.ensures ∙ ap (λ (k : VsKept). k.chunks.key) c.self.view_is)
