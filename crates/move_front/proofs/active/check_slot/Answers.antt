use Rattle.std.proofs.Common.{◌≡◌, subst}
use Rattle.lfh_claims.specs.Search.{own_slot}
use Rattle.heap_gate.specs.Token.{Token, Always}
use Rattle.move_front.proofs.active.check_slot.Goals as goal

pub returns : goal.returns
returns c = subst (λ (t : Token). Always t (λ s. s.slot t.number ≡ own_slot t)) c.c.view_is (λ s q. q.slot c.c.inside.number c.c.invariant.known)
