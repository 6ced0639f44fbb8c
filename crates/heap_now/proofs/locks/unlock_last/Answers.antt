use Rattle.std.proofs.Common.{◌≡◌, ◌∙◌, false, length, ap, subst, arith}
use Rattle.std.specs.Prelude.{OnOk, OnErr}
use Rattle.heap_gate.specs.Token.{Token}
use Rattle.heap_gate.specs.Calls.{IsShallower}
use Rattle.heap_now.proofs.Locking.{given_last}
use Rattle.heap_now.proofs.locks.unlock_last.Goals as goal

pub begin-requires-clause-room : goal.begin-requires-clause-room
begin-requires-clause-room c = let e : length c.args.c.now.prepared ≡ 0 = ap length c.requires.ready.ready.prepared in omega (arith, e)

pub begin-requires-clause-outside : goal.begin-requires-clause-outside
begin-requires-clause-outside c = c.requires.ready.ready.outside

pub begin-requires-clause-out : goal.begin-requires-clause-out
begin-requires-clause-out c = c.requires.ready.ready.out

pub unlock_gate-given-requires-clause-table : goal.unlock_gate-given-requires-clause-table
unlock_gate-given-requires-clause-table c = ap (λ (t : Token). t.table) c.begin.ensures ∙ c.requires.table

pub unlock_gate-given-requires-clause-outside : goal.unlock_gate-given-requires-clause-outside
unlock_gate-given-requires-clause-outside c = ap (λ (t : Token). t.inside) c.begin.ensures ∙ c.requires.ready.ready.outside

pub unlock_gate-given-requires-clause-out : goal.unlock_gate-given-requires-clause-out
unlock_gate-given-requires-clause-out c = ap (λ (t : Token). t.out) c.begin.ensures ∙ c.requires.ready.ready.out

pub returns : goal.returns
returns c =
    let a = c.args.c.now in let b = c.unlock_gate-given.new.c in
    given_last a b c.requires.ready c.unlock_gate-given.result c.requires.last
    (subst (λ (t : Token). OnOk c.unlock_gate-given.result (IsShallower false t b)) c.begin.ensures c.unlock_gate-given.ensures.given)
    (subst (λ (t : Token). OnErr c.unlock_gate-given.result ((t.depth ≡ 0) × (b ≡ t))) c.begin.ensures c.unlock_gate-given.ensures.refused)
