use Rattle.std.proofs.Common.{refl, ap, ◌∙◌}
use Rattle.std.specs.Prelude.{Result, Ok, Err, IfOk}
use Rattle.heap_model.specs.declared.Busy.{Busy}
use Rattle.heap_model.specs.declared.What.TheVariants as whats
use Rattle.vs_layer.specs.Standing as vss
use Rattle.vs_layer.specs.Kept.{VsKept}
use Rattle.heap_gate.specs.Calls.{HasTaken}
use Rattle.heap_gate.specs.Token.{Token, is_out}
use Rattle.move_parts.specs.Moves.{TellsVs}
use Rattle.move_calls.proofs.Carrying.{all_locked, all_missed, all_still}
use Rattle.move_calls.proofs.carries.vs_too.Goals as goal

pub take_vs-taken-requires-clause-lock : goal.take_vs-taken-requires-clause-lock
take_vs-taken-requires-clause-lock c = let g = c.requires.carrying in ap (is_out whats.Vs) g.7.bringing.holds.out_is ∙ g.8

pub returns-clause-ok : goal.returns-clause-ok
returns-clause-ok c = all_locked vss.layer_of c.args.c.now c.take_vs-taken.new.c whats.Vs c.lock_keeps.ensures refl c.take_vs-taken.result c.take_vs-taken.ensures.ok c.check.ensures.stands

tells_ok : (c d : Token) (r : Result VsKept Busy) → IfOk r (λ state. HasTaken vss.layer_of c d whats.Vs state) → IfOk r (λ state. TellsVs d state)
tells_ok c d (Ok state) x = record { tells = x.tells_it; used = x.used refl }
tells_ok c d (Err b) x = tt

pub returns-clause-tells : goal.returns-clause-tells
returns-clause-tells c = tells_ok c.args.c.now c.take_vs-taken.new.c c.take_vs-taken.result c.take_vs-taken.ensures.ok

pub returns-clause-busy : goal.returns-clause-busy
returns-clause-busy c = all_missed vss.layer_of c.args.c.now c.take_vs-taken.new.c whats.Vs c.miss_keeps.ensures (λ e. let bad : ⊥ = cc (e) in bad) c.take_vs-taken.result c.take_vs-taken.ensures.busy c.check.ensures.stands

pub returns-clause-still : goal.returns-clause-still
returns-clause-still c = all_still vss.layer_of c.args.c.now c.take_vs-taken.new.c whats.Vs c.take_vs-taken.result c.take_vs-taken.ensures.ok c.take_vs-taken.ensures.busy c.check.ensures.stands c.check-2.ensures.stands
