use Rattle.std.proofs.Common.{refl, ap, ◌∙◌}
use Rattle.std.specs.Prelude.{Result, Ok, Err, IfOk}
use Rattle.heap_model.specs.declared.Busy.{Busy}
use Rattle.heap_model.specs.declared.What.TheVariants as whats
use Rattle.backend_fit.specs.Kept as backs
use Rattle.backend_fit.specs.Kept.{Kept}
use Rattle.heap_gate.specs.Calls.{HasTaken}
use Rattle.heap_gate.specs.Token.{Token, is_out}
use Rattle.move_parts.specs.Moves.{TellsBack}
use Rattle.move_calls.proofs.Carrying.{all_locked, all_missed, all_still}
use Rattle.move_calls.proofs.carries.back_too.Goals as goal

pub take_back-taken-requires-clause-lock : goal.take_back-taken-requires-clause-lock
take_back-taken-requires-clause-lock c = let g = c.requires.carrying in ap (is_out whats.Back) g.7.bringing.holds.out_is ∙ g.8

pub returns-clause-ok : goal.returns-clause-ok
returns-clause-ok c = all_locked backs.layer_of c.args.c.now c.take_back-taken.new.c whats.Back c.lock_keeps.ensures refl c.take_back-taken.result c.take_back-taken.ensures.ok c.check.ensures.stands

tells_ok : (c d : Token) (r : Result Kept Busy) → IfOk r (λ state. HasTaken backs.layer_of c d whats.Back state) → IfOk r (λ state. TellsBack d state)
tells_ok c d (Ok state) x = x.tells_it
tells_ok c d (Err b) x = tt

pub returns-clause-tells : goal.returns-clause-tells
returns-clause-tells c = tells_ok c.args.c.now c.take_back-taken.new.c c.take_back-taken.result c.take_back-taken.ensures.ok

pub returns-clause-busy : goal.returns-clause-busy
returns-clause-busy c = all_missed backs.layer_of c.args.c.now c.take_back-taken.new.c whats.Back c.miss_keeps.ensures (λ e. let bad : ⊥ = cc (e) in bad) c.take_back-taken.result c.take_back-taken.ensures.busy c.check.ensures.stands

pub returns-clause-still : goal.returns-clause-still
returns-clause-still c = all_still backs.layer_of c.args.c.now c.take_back-taken.new.c whats.Back c.take_back-taken.result c.take_back-taken.ensures.ok c.take_back-taken.ensures.busy c.check.ensures.stands c.check-2.ensures.stands
