use Rattle.std.proofs.Common.{sym, subst}
use Rattle.random_pick.specs.CallerDraws.{words_of}
use Rattle.heap_gate.specs.Token.{Token, IsCaller, Always, now}
use Rattle.heap_gate.specs.Seated.{Face, tok}
use Rattle.heap_gate.specs.Calls.{HasRested}
use Rattle.heap_gate.proofs.Preparation.{rests_so}
use Rattle.heap_gate.proofs.entries.rest.Goals as goal

pub invariant_of-c : goal.invariant_of-c
invariant_of-c g c =
    let i = c.c.inside in let f : Face = record { number = i.number; prepared = i.prepared.items; pending = i.pending; call = i.call.value; fresh = i.fresh.value; locked = i.locked.value; inside = i.inside; depth = i.depth; whole = i.whole.value; free = i.free.value; drawn = i.drawn.value } in let h = c.c.invariant in let z = i.place.table_id in let me = i.place.me in let stream = words_of i.draws in let v = c.c.view_is in
    subst (λ (x : Face). IsCaller me (tok z me x) i.slot stream) (λ j. record f { whole = sym c.of-c-inside.ensures j; free = sym c.of-c-inside-2.ensures j })
    (rests_so z me f i.slot stream h (subst (λ (t : Token). Always t (λ s. HasRested (now s t) t.number)) (sym v) c.requires.rests))
