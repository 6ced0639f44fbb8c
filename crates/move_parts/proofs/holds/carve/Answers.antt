use Rattle.move_parts.proofs.Carving.{carved}
use Rattle.move_parts.proofs.holds.carve.Goals as goal

pub returns : goal.returns
returns c =
    carved c.args.back.now c.take-first.new.self c.args.n c.pages_for-pages.result c.back-mark.result c.take-first.result c.pages_for-pages.ensures.pages c.back-mark.ensures c.take-first.ensures.place c.take-first.ensures.none
    c.take-first.ensures.stands c.take-first.ensures.spans c.take-first.ensures.limits c.region-region.ensures.sound
