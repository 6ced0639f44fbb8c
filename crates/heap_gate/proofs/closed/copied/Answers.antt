use Rattle.std.proofs.Common.{◌∙◌, ◌<◌, length, sym, ap, arith}
use Rattle.std.proofs.Math.ListN.{length-set}
use Rattle.std.proofs.lemmas.List.{ext_get_or}
use Rattle.std.specs.Slots.{slots_items}
use Rattle.heap_gate.proofs.Filling.{filled_more}
use Rattle.heap_gate.proofs.closed.copied.Goals as goal

pub loop-i-preserved : goal.loop-i-preserved
loop-i-preserved g c =
    let here : c.loop-i.i < length c.loop-i.words = omega (arith, c.loop-i.invariant.0, c.requires.room, c.requires.many, ap length c.as_slice-count.ensures) in (
      ap length c.set.ensures ∙ (simp length-set c.loop-i.invariant.0),
      λ k l. ap (λ ws. Rattle.std.proofs.Common.get_or ws k 0) c.set.ensures ∙ filled_more c.loop-i.words (slots_items c.args.closed.now.words) c.loop-i.i c.word.result here c.word.ensures c.loop-i.invariant.1 k l,
    )

pub returns : goal.returns
returns g c =
    let e = ap length c.as_slice-count.ensures in
    ext_get_or 0 c.loop-i.words (slots_items c.args.closed.now.words) (c.loop-i.invariant.0 ∙ (c.requires.room ∙ sym c.requires.many)) (λ k l. c.loop-i.invariant.1 k (omega (arith, c.loop-i.invariant.0, e)))
