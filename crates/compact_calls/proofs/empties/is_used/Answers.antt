use Rattle.std.proofs.Common.{◌∷◌, []}
use Rattle.heap_model.specs.declared.Call.TheVariants as calls
use Rattle.claim_rule.specs.Places.{back_slot}
use Rattle.call_parts.proofs.Joining.{setting_before}
use Rattle.heap_gate.specs.Token.{now}
use Rattle.compact_calls.proofs.Emptying.{looked_runs, looked_then, blocks_by}
use Rattle.compact_calls.proofs.empties.is_used.Goals as goal

pub hear_sound-requires-clause-whole : goal.hear_sound-requires-clause-whole
hear_sound-requires-clause-whole c = c.has_bits-used.ensures.looked.did.owning.whole

pub returns-clause-looked : goal.returns-clause-looked
returns-clause-looked c =
    let a = c.args.c.now in let b = c.has_bits-used.new.c in let d = c.hear_sound.new.c in
    looked_then a b d calls.Compact (back_slot ∷ []) c.has_bits-used.ensures.looked
    (looked_runs b d calls.Compact (back_slot ∷ []) c.check.ensures.stands c.has_bits-used.ensures.looked.did.owning c.hear_sound.ensures.runs c.hear_sound.ensures.stands)

pub returns-clause-blocks : goal.returns-clause-blocks
returns-clause-blocks c = λ s q.
    let b = c.has_bits-used.new.c in let d = c.hear_sound.new.c in
    let l = looked_runs b d calls.Compact (back_slot ∷ []) c.check.ensures.stands c.has_bits-used.ensures.looked.did.owning c.hear_sound.ensures.runs c.hear_sound.ensures.stands in
    blocks_by c.has_bits-used.result d.opening.limits (now s d) (now s b) c.args.head (l.heap s q) (c.hear_sound.ensures.sound s q) (c.has_bits-used.ensures.bits s (setting_before b d [] l.did.goes s q))
