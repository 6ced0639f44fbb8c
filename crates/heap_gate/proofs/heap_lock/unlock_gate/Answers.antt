use Rattle.std.proofs.Common.{◌≡◌, ◌∙◌, ◌-◌, ◌==◌, false, not, sym, ap, arith, ne_eqb}
use Rattle.random_pick.specs.CallerDraws.{words_of}
use Rattle.heap_gate.specs.Seated.{Face}
use Rattle.heap_gate.proofs.Tokens.{deeper}
use Rattle.heap_gate.proofs.heap_lock.unlock_gate.Goals as goal

pub invariant_of-c : goal.invariant_of-c
invariant_of-c g c =
    let i = c.c.inside in let f : Face = record { number = i.number; prepared = i.prepared.items; pending = i.pending; call = i.call.value; fresh = i.fresh.value; locked = i.locked.value; inside = i.inside; depth = i.depth; whole = i.whole.value; free = i.free.value; drawn = i.drawn.value } in let h = c.c.invariant in let z = i.place.table_id in let me = i.place.me in let stream = words_of i.draws in let v = c.c.view_is in
    let a : (i.depth == 0) ≡ false = ne_eqb i.depth 0 (λ e. let x : ⊥ = omega arith in x) in
    let b : (i.depth - 1 == 0) ≡ false = ne_eqb (i.depth - 1) 0 (λ e. let x : ⊥ = omega arith in x) in
    deeper z me f i.slot stream h (i.depth - 1) (ap not a ∙ sym (ap not b))
