use Rattle.std.proofs.Common.{refl, ap, ◌∙◌}
use Rattle.std.specs.Prelude.{Result, Ok, Err, IfOk}
use Rattle.heap_model.specs.declared.Busy.{Busy}
use Rattle.heap_model.specs.declared.What.TheVariants as whats
use Rattle.large_blocks.specs.Table as larges
use Rattle.large_blocks.specs.Table.{LargeTable}
use Rattle.heap_gate.specs.Calls.{HasTaken}
use Rattle.heap_gate.specs.Token.{Token, is_out}
use Rattle.move_parts.specs.Moves.{TellsLarge}
use Rattle.move_calls.proofs.Carrying.{all_locked, all_missed, all_still}
use Rattle.move_calls.proofs.carries.large_too.Goals as goal

pub take_large-taken-requires-clause-lock : goal.take_large-taken-requires-clause-lock
take_large-taken-requires-clause-lock c = let g = c.requires.carrying in ap (is_out whats.Large) g.7.bringing.holds.out_is ∙ g.8

pub returns-clause-ok : goal.returns-clause-ok
returns-clause-ok c = all_locked larges.layer_of c.args.c.now c.take_large-taken.new.c whats.Large c.lock_keeps.ensures refl c.take_large-taken.result c.take_large-taken.ensures.ok c.check.ensures.stands

tells_ok : (c d : Token) (r : Result LargeTable Busy) → IfOk r (λ state. HasTaken larges.layer_of c d whats.Large state) → IfOk r (λ state. TellsLarge d state)
tells_ok c d (Ok state) x = x.tells_it
tells_ok c d (Err b) x = tt

pub returns-clause-tells : goal.returns-clause-tells
returns-clause-tells c = tells_ok c.args.c.now c.take_large-taken.new.c c.take_large-taken.result c.take_large-taken.ensures.ok

pub returns-clause-busy : goal.returns-clause-busy
returns-clause-busy c = all_missed larges.layer_of c.args.c.now c.take_large-taken.new.c whats.Large c.miss_keeps.ensures (λ e. let bad : ⊥ = cc (e) in bad) c.take_large-taken.result c.take_large-taken.ensures.busy c.check.ensures.stands

pub returns-clause-still : goal.returns-clause-still
returns-clause-still c = all_still larges.layer_of c.args.c.now c.take_large-taken.new.c whats.Large c.take_large-taken.result c.take_large-taken.ensures.ok c.take_large-taken.ensures.busy c.check.ensures.stands c.check-2.ensures.stands
