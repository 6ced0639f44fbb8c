use Rattle.std.proofs.Common.{ℕ, ◌<◌, sym, ap, ◌∙◌, subst, arith}
use Rattle.heap_model.specs.Limits.{AreValid}
use Rattle.heap_model.specs.declared.Opening.{Opening}
use Rattle.page_region.specs.Held.{Held}
use Rattle.backend_fit.specs.Kept.{Kept}
use Rattle.lfh_spans.specs.Subsegments.{IsBackOf}
use Rattle.lfh_spans.proofs.Installed.{Looked, installs_by, within_by, tags_by, hint_by, back_by, installed_by, pages_some}
use Rattle.lfh_spans.proofs.Drawn.{own_fits}
use Rattle.lfh_spans.proofs.install_again.Goals as goal

pub returns-in_err-head-clause-back : goal.returns-in_err-head-clause-back
returns-in_err-head-clause-back g c = subst (λ (k : Kept). IsBackOf c.args.c.now k) (sym c.in_err-head.ensures.none) c.requires.back

pub make-requires-clause-there : goal.make-requires-clause-there
make-requires-clause-there g c =
    let r : Looked c.args.c.now c.look_hint-hint.new.c c.args.back.now c.take.new.self c.args.bucket c.slot-slot.result c.args.draw.value c.in_ok-head.head c.look_hint-hint.result c.pages-pages.result c.reserved-reserved.result c.own_block-index.result c.lfh.result = record {
      high = c.requires.bucket.last;
      few = subst (λ (x : ℕ). x < 16) (sym c.slot-slot.ensures) c.requires.slot;
      slot_is = c.slot-slot.ensures;
      known = c.look_hint-hint.ensures.known;
      below = c.own_block-index.ensures.below;
      drawn = c.own_block-index.ensures.drawn;
      pages_are = c.pages-pages.ensures;
      reserved_is = c.reserved-reserved.ensures.reserved ∙ ap (λ (x : Held). x.reserved) c.region.ensures.region;
      mark_is = c.lfh.ensures;
      at0 = c.check.ensures.stands;
      whole = c.requires.whole;
      inside = c.requires.inside;
      out = c.requires.held;
      paid = c.requires.paid;
      back0 = c.requires.back;
      may0 = c.requires.may;
      sound0 = c.region.ensures.sound;
      sound1 = c.region-sound.ensures.sound;
      limits_are = c.in_ok-head.ensures.limits;
      area = c.in_ok-head.ensures.area;
      place = c.in_ok-head.ensures.place;
      becomes = c.in_ok-head.ensures.stands;
      look = c.look_hint-hint.ensures.runs;
      looks = c.look_hint-hint.ensures.stands;
      at1 = c.check-2.ensures.stands;
      word = c.look_hint-hint.ensures.word;
    } in
    let w = within_by c.args.c.now c.look_hint-hint.new.c c.args.back.now c.take.new.self c.args.bucket c.slot-slot.result c.args.draw.value c.in_ok-head.head c.look_hint-hint.result c.pages-pages.result c.reserved-reserved.result c.own_block-index.result c.lfh.result r in let e = ap (λ (o : Opening). o.limits.segments) c.look_hint-hint.ensures.runs.does.opening in let p = pages_some c.args.bucket in let q = c.pages-pages.ensures in omega (arith, w, e, p, q)

pub make-requires-clause-index : goal.make-requires-clause-index
make-requires-clause-index g c =
    let f = (own_fits c.args.bucket 0 c.args.draw.value c.requires.bucket).1 in let d = c.own_block-index.ensures.drawn in omega (arith, f, d)

pub make-requires-clause-may : goal.make-requires-clause-may
make-requires-clause-may g c =
    let r : Looked c.args.c.now c.look_hint-hint.new.c c.args.back.now c.take.new.self c.args.bucket c.slot-slot.result c.args.draw.value c.in_ok-head.head c.look_hint-hint.result c.pages-pages.result c.reserved-reserved.result c.own_block-index.result c.lfh.result = record {
      high = c.requires.bucket.last;
      few = subst (λ (x : ℕ). x < 16) (sym c.slot-slot.ensures) c.requires.slot;
      slot_is = c.slot-slot.ensures;
      known = c.look_hint-hint.ensures.known;
      below = c.own_block-index.ensures.below;
      drawn = c.own_block-index.ensures.drawn;
      pages_are = c.pages-pages.ensures;
      reserved_is = c.reserved-reserved.ensures.reserved ∙ ap (λ (x : Held). x.reserved) c.region.ensures.region;
      mark_is = c.lfh.ensures;
      at0 = c.check.ensures.stands;
      whole = c.requires.whole;
      inside = c.requires.inside;
      out = c.requires.held;
      paid = c.requires.paid;
      back0 = c.requires.back;
      may0 = c.requires.may;
      sound0 = c.region.ensures.sound;
      sound1 = c.region-sound.ensures.sound;
      limits_are = c.in_ok-head.ensures.limits;
      area = c.in_ok-head.ensures.area;
      place = c.in_ok-head.ensures.place;
      becomes = c.in_ok-head.ensures.stands;
      look = c.look_hint-hint.ensures.runs;
      looks = c.look_hint-hint.ensures.stands;
      at1 = c.check-2.ensures.stands;
      word = c.look_hint-hint.ensures.word;
    } in
    installs_by c.args.c.now c.look_hint-hint.new.c c.args.back.now c.take.new.self c.args.bucket c.slot-slot.result c.args.draw.value c.in_ok-head.head c.look_hint-hint.result c.pages-pages.result c.reserved-reserved.result c.own_block-index.result c.lfh.result r

pub tag_pages-requires-clause-few : goal.tag_pages-requires-clause-few
tag_pages-requires-clause-few g c =
    let r : Looked c.args.c.now c.look_hint-hint.new.c c.args.back.now c.take.new.self c.args.bucket c.slot-slot.result c.args.draw.value c.in_ok-head.head c.look_hint-hint.result c.pages-pages.result c.reserved-reserved.result c.own_block-index.result c.lfh.result = record {
      high = c.requires.bucket.last;
      few = subst (λ (x : ℕ). x < 16) (sym c.slot-slot.ensures) c.requires.slot;
      slot_is = c.slot-slot.ensures;
      known = c.look_hint-hint.ensures.known;
      below = c.own_block-index.ensures.below;
      drawn = c.own_block-index.ensures.drawn;
      pages_are = c.pages-pages.ensures;
      reserved_is = c.reserved-reserved.ensures.reserved ∙ ap (λ (x : Held). x.reserved) c.region.ensures.region;
      mark_is = c.lfh.ensures;
      at0 = c.check.ensures.stands;
      whole = c.requires.whole;
      inside = c.requires.inside;
      out = c.requires.held;
      paid = c.requires.paid;
      back0 = c.requires.back;
      may0 = c.requires.may;
      sound0 = c.region.ensures.sound;
      sound1 = c.region-sound.ensures.sound;
      limits_are = c.in_ok-head.ensures.limits;
      area = c.in_ok-head.ensures.area;
      place = c.in_ok-head.ensures.place;
      becomes = c.in_ok-head.ensures.stands;
      look = c.look_hint-hint.ensures.runs;
      looks = c.look_hint-hint.ensures.stands;
      at1 = c.check-2.ensures.stands;
      word = c.look_hint-hint.ensures.word;
    } in
    let w = within_by c.args.c.now c.look_hint-hint.new.c c.args.back.now c.take.new.self c.args.bucket c.slot-slot.result c.args.draw.value c.in_ok-head.head c.look_hint-hint.result c.pages-pages.result c.reserved-reserved.result c.own_block-index.result c.lfh.result r in let e = ap (λ (o : Opening). o.limits.segments) (c.make.ensures.does.opening ∙ c.look_hint-hint.ensures.runs.does.opening) in let f = r.few in (omega (arith, w, e), f)

pub tag_pages-requires-clause-tags : goal.tag_pages-requires-clause-tags
tag_pages-requires-clause-tags g c =
    let r : Looked c.args.c.now c.look_hint-hint.new.c c.args.back.now c.take.new.self c.args.bucket c.slot-slot.result c.args.draw.value c.in_ok-head.head c.look_hint-hint.result c.pages-pages.result c.reserved-reserved.result c.own_block-index.result c.lfh.result = record {
      high = c.requires.bucket.last;
      few = subst (λ (x : ℕ). x < 16) (sym c.slot-slot.ensures) c.requires.slot;
      slot_is = c.slot-slot.ensures;
      known = c.look_hint-hint.ensures.known;
      below = c.own_block-index.ensures.below;
      drawn = c.own_block-index.ensures.drawn;
      pages_are = c.pages-pages.ensures;
      reserved_is = c.reserved-reserved.ensures.reserved ∙ ap (λ (x : Held). x.reserved) c.region.ensures.region;
      mark_is = c.lfh.ensures;
      at0 = c.check.ensures.stands;
      whole = c.requires.whole;
      inside = c.requires.inside;
      out = c.requires.held;
      paid = c.requires.paid;
      back0 = c.requires.back;
      may0 = c.requires.may;
      sound0 = c.region.ensures.sound;
      sound1 = c.region-sound.ensures.sound;
      limits_are = c.in_ok-head.ensures.limits;
      area = c.in_ok-head.ensures.area;
      place = c.in_ok-head.ensures.place;
      becomes = c.in_ok-head.ensures.stands;
      look = c.look_hint-hint.ensures.runs;
      looks = c.look_hint-hint.ensures.stands;
      at1 = c.check-2.ensures.stands;
      word = c.look_hint-hint.ensures.word;
    } in
    tags_by c.args.c.now c.look_hint-hint.new.c c.args.back.now c.take.new.self c.args.bucket c.slot-slot.result c.args.draw.value c.in_ok-head.head c.look_hint-hint.result c.pages-pages.result c.reserved-reserved.result c.own_block-index.result c.lfh.result r c.make.new.c c.make.ensures

pub put_hint-requires-clause-head : goal.put_hint-requires-clause-head
put_hint-requires-clause-head g c =
    let r : Looked c.args.c.now c.look_hint-hint.new.c c.args.back.now c.take.new.self c.args.bucket c.slot-slot.result c.args.draw.value c.in_ok-head.head c.look_hint-hint.result c.pages-pages.result c.reserved-reserved.result c.own_block-index.result c.lfh.result = record {
      high = c.requires.bucket.last;
      few = subst (λ (x : ℕ). x < 16) (sym c.slot-slot.ensures) c.requires.slot;
      slot_is = c.slot-slot.ensures;
      known = c.look_hint-hint.ensures.known;
      below = c.own_block-index.ensures.below;
      drawn = c.own_block-index.ensures.drawn;
      pages_are = c.pages-pages.ensures;
      reserved_is = c.reserved-reserved.ensures.reserved ∙ ap (λ (x : Held). x.reserved) c.region.ensures.region;
      mark_is = c.lfh.ensures;
      at0 = c.check.ensures.stands;
      whole = c.requires.whole;
      inside = c.requires.inside;
      out = c.requires.held;
      paid = c.requires.paid;
      back0 = c.requires.back;
      may0 = c.requires.may;
      sound0 = c.region.ensures.sound;
      sound1 = c.region-sound.ensures.sound;
      limits_are = c.in_ok-head.ensures.limits;
      area = c.in_ok-head.ensures.area;
      place = c.in_ok-head.ensures.place;
      becomes = c.in_ok-head.ensures.stands;
      look = c.look_hint-hint.ensures.runs;
      looks = c.look_hint-hint.ensures.stands;
      at1 = c.check-2.ensures.stands;
      word = c.look_hint-hint.ensures.word;
    } in
    hint_by c.args.c.now c.look_hint-hint.new.c c.args.back.now c.take.new.self c.args.bucket c.slot-slot.result c.args.draw.value c.in_ok-head.head c.look_hint-hint.result c.pages-pages.result c.reserved-reserved.result c.own_block-index.result c.lfh.result r c.make.new.c c.make.ensures c.tag_pages.new.c c.tag_pages.ensures.runs

pub block_at-requires-clause-head : goal.block_at-requires-clause-head
block_at-requires-clause-head g c =
    let r : Looked c.args.c.now c.look_hint-hint.new.c c.args.back.now c.take.new.self c.args.bucket c.slot-slot.result c.args.draw.value c.in_ok-head.head c.look_hint-hint.result c.pages-pages.result c.reserved-reserved.result c.own_block-index.result c.lfh.result = record {
      high = c.requires.bucket.last;
      few = subst (λ (x : ℕ). x < 16) (sym c.slot-slot.ensures) c.requires.slot;
      slot_is = c.slot-slot.ensures;
      known = c.look_hint-hint.ensures.known;
      below = c.own_block-index.ensures.below;
      drawn = c.own_block-index.ensures.drawn;
      pages_are = c.pages-pages.ensures;
      reserved_is = c.reserved-reserved.ensures.reserved ∙ ap (λ (x : Held). x.reserved) c.region.ensures.region;
      mark_is = c.lfh.ensures;
      at0 = c.check.ensures.stands;
      whole = c.requires.whole;
      inside = c.requires.inside;
      out = c.requires.held;
      paid = c.requires.paid;
      back0 = c.requires.back;
      may0 = c.requires.may;
      sound0 = c.region.ensures.sound;
      sound1 = c.region-sound.ensures.sound;
      limits_are = c.in_ok-head.ensures.limits;
      area = c.in_ok-head.ensures.area;
      place = c.in_ok-head.ensures.place;
      becomes = c.in_ok-head.ensures.stands;
      look = c.look_hint-hint.ensures.runs;
      looks = c.look_hint-hint.ensures.stands;
      at1 = c.check-2.ensures.stands;
      word = c.look_hint-hint.ensures.word;
    } in
    let w = within_by c.args.c.now c.look_hint-hint.new.c c.args.back.now c.take.new.self c.args.bucket c.slot-slot.result c.args.draw.value c.in_ok-head.head c.look_hint-hint.result c.pages-pages.result c.reserved-reserved.result c.own_block-index.result c.lfh.result r in let v = subst AreValid (c.limits-bounds.ensures.limits ∙ ap (λ (o : Opening). o.limits) (sym c.requires.table.1)) c.limits-bounds.ensures.valid in let s = v.segments in let p = pages_some c.args.bucket in let q = c.pages-pages.ensures in omega (arith, w, s, p, q)

pub returns-clause-made : goal.returns-clause-made
returns-clause-made g c =
    let r : Looked c.args.c.now c.look_hint-hint.new.c c.args.back.now c.take.new.self c.args.bucket c.slot-slot.result c.args.draw.value c.in_ok-head.head c.look_hint-hint.result c.pages-pages.result c.reserved-reserved.result c.own_block-index.result c.lfh.result = record {
      high = c.requires.bucket.last;
      few = subst (λ (x : ℕ). x < 16) (sym c.slot-slot.ensures) c.requires.slot;
      slot_is = c.slot-slot.ensures;
      known = c.look_hint-hint.ensures.known;
      below = c.own_block-index.ensures.below;
      drawn = c.own_block-index.ensures.drawn;
      pages_are = c.pages-pages.ensures;
      reserved_is = c.reserved-reserved.ensures.reserved ∙ ap (λ (x : Held). x.reserved) c.region.ensures.region;
      mark_is = c.lfh.ensures;
      at0 = c.check.ensures.stands;
      whole = c.requires.whole;
      inside = c.requires.inside;
      out = c.requires.held;
      paid = c.requires.paid;
      back0 = c.requires.back;
      may0 = c.requires.may;
      sound0 = c.region.ensures.sound;
      sound1 = c.region-sound.ensures.sound;
      limits_are = c.in_ok-head.ensures.limits;
      area = c.in_ok-head.ensures.area;
      place = c.in_ok-head.ensures.place;
      becomes = c.in_ok-head.ensures.stands;
      look = c.look_hint-hint.ensures.runs;
      looks = c.look_hint-hint.ensures.stands;
      at1 = c.check-2.ensures.stands;
      word = c.look_hint-hint.ensures.word;
    } in
    installed_by c.args.c.now c.look_hint-hint.new.c c.args.back.now c.take.new.self c.args.bucket c.slot-slot.result c.args.draw.value c.in_ok-head.head c.look_hint-hint.result c.pages-pages.result c.reserved-reserved.result c.own_block-index.result c.lfh.result r c.make.new.c c.make.ensures c.tag_pages.new.c c.put_hint.new.c c.tag_pages.ensures.runs c.tag_pages.ensures.stands c.put_hint.ensures.runs c.put_hint.ensures.stands c.block_at.result c.block_at.ensures

pub returns-clause-back : goal.returns-clause-back
returns-clause-back g c =
    let r : Looked c.args.c.now c.look_hint-hint.new.c c.args.back.now c.take.new.self c.args.bucket c.slot-slot.result c.args.draw.value c.in_ok-head.head c.look_hint-hint.result c.pages-pages.result c.reserved-reserved.result c.own_block-index.result c.lfh.result = record {
      high = c.requires.bucket.last;
      few = subst (λ (x : ℕ). x < 16) (sym c.slot-slot.ensures) c.requires.slot;
      slot_is = c.slot-slot.ensures;
      known = c.look_hint-hint.ensures.known;
      below = c.own_block-index.ensures.below;
      drawn = c.own_block-index.ensures.drawn;
      pages_are = c.pages-pages.ensures;
      reserved_is = c.reserved-reserved.ensures.reserved ∙ ap (λ (x : Held). x.reserved) c.region.ensures.region;
      mark_is = c.lfh.ensures;
      at0 = c.check.ensures.stands;
      whole = c.requires.whole;
      inside = c.requires.inside;
      out = c.requires.held;
      paid = c.requires.paid;
      back0 = c.requires.back;
      may0 = c.requires.may;
      sound0 = c.region.ensures.sound;
      sound1 = c.region-sound.ensures.sound;
      limits_are = c.in_ok-head.ensures.limits;
      area = c.in_ok-head.ensures.area;
      place = c.in_ok-head.ensures.place;
      becomes = c.in_ok-head.ensures.stands;
      look = c.look_hint-hint.ensures.runs;
      looks = c.look_hint-hint.ensures.stands;
      at1 = c.check-2.ensures.stands;
      word = c.look_hint-hint.ensures.word;
    } in
    back_by c.args.c.now c.look_hint-hint.new.c c.args.back.now c.take.new.self c.args.bucket c.slot-slot.result c.args.draw.value c.in_ok-head.head c.look_hint-hint.result c.pages-pages.result c.reserved-reserved.result c.own_block-index.result c.lfh.result r c.make.new.c c.make.ensures c.tag_pages.new.c c.put_hint.new.c c.tag_pages.ensures.runs c.tag_pages.ensures.stands c.put_hint.ensures.runs c.put_hint.ensures.stands
