use Rattle.std.proofs.Common.{◌≡◌, ◌∙◌, Bool, true, sym, subst, ap}
use Rattle.random_pick.specs.CallerDraws.{words_of}
use Rattle.claim_rule.specs.Rule.{ready_after}
use Rattle.heap_model.specs.declared.Act.TheVariants as acts
use Rattle.heap_gate.specs.Token.{Token, IsAt, outs}
use Rattle.heap_gate.specs.Seated.{Face, tok}
use Rattle.heap_model.specs.declared.Opening.{Opening}
use Rattle.claim_rule.specs.Steps.{MayGoOut}
use Rattle.look_steps.specs.Denials.{MayDeny}
use Rattle.heap_gate.specs.Token.{HeapToken, Always, now}
use Rattle.heap_gate.specs.Calls.{HasLeft}
use Rattle.heap_gate.proofs.Standing.{out_of}
use Rattle.heap_gate.proofs.Tokens.{faced, goes_by, may_by}
use Rattle.heap_gate.proofs.Denying.{two, behind_left, denied_leaving, has_denied_left}
use Rattle.heap_gate.proofs.caller.leave_denying.Goals as goal

pub deny_leave_by-requires-clause-may : goal.deny_leave_by-requires-clause-may
deny_leave_by-requires-clause-may g c =
    let i = c.c.inside in let f : Face = record { number = i.number; prepared = i.prepared.items; pending = i.pending; call = i.call.value; fresh = i.fresh.value; locked = i.locked.value; inside = i.inside; depth = i.depth; whole = i.whole.value; free = i.free.value; drawn = i.drawn.value } in let h = c.c.invariant in let z = i.place.table_id in let me = i.place.me in let stream = words_of i.draws in let v = c.c.view_is in
    let inside = ap (λ (t : Token). t.inside) v ∙ c.requires.inside in
    let free = ap (λ (t : Token). t.free) v ∙ c.requires.free in
    may_by z me f i.slot stream h MayGoOut (λ s q. out_of (ready_after s me.0 f.prepared) i.number i.call.value i.depth (outs me.1) i.fresh.value i.whole.value (ap (λ (t : Token). t.out) v ∙ c.requires.out)
    (subst (λ (b : Bool). IsAt (ready_after s me.0 f.prepared) i.number i.call.value i.fresh.value true i.depth (outs me.1) i.whole.value b) free
    (subst (λ (b : Bool). IsAt (ready_after s me.0 f.prepared) i.number i.call.value i.fresh.value b i.depth (outs me.1) i.whole.value i.free.value) inside (h.at s q))))

pub deny_leave_by-requires-clause-none : goal.deny_leave_by-requires-clause-none
deny_leave_by-requires-clause-none g c =
    let i = c.c.inside in let f : Face = record { number = i.number; prepared = i.prepared.items; pending = i.pending; call = i.call.value; fresh = i.fresh.value; locked = i.locked.value; inside = i.inside; depth = i.depth; whole = i.whole.value; free = i.free.value; drawn = i.drawn.value } in let h = c.c.invariant in let z = i.place.table_id in let me = i.place.me in let stream = words_of i.draws in let v = c.c.view_is in
    let same : me.0.opening ≡ c.heap.inside.table.shared.key = ap (λ (t : Token). t.opening) v ∙ (c.requires.opening ∙ (ap (λ (t : HeapToken). t.opening) (sym c.heap.view_is) ∙ sym c.heap.invariant.same)) in
    let none = subst (λ (t : Token). Always t (λ s. MayDeny t.opening.limits (now s t) t.number c.args.addr)) (sym v) c.requires.none in
    may_by z me f i.slot stream h (λ m n. MayDeny c.heap.inside.table.shared.key.limits m n c.args.addr) (λ s q. subst (λ (o : Opening). MayDeny o.limits (ready_after s me.0 f.prepared) i.number c.args.addr) same (none s q))

pub invariant_of-c : goal.invariant_of-c
invariant_of-c g c =
    let i = c.c.inside in let f : Face = record { number = i.number; prepared = i.prepared.items; pending = i.pending; call = i.call.value; fresh = i.fresh.value; locked = i.locked.value; inside = i.inside; depth = i.depth; whole = i.whole.value; free = i.free.value; drawn = i.drawn.value } in let h = c.c.invariant in let z = i.place.table_id in let me = i.place.me in let stream = words_of i.draws in let v = c.c.view_is in
    let p = c.deny_leave_by.new.place in let told = c.deny_leave_by.ensures.told.1 in
    let w = ap (λ (t : Token). t.whole) v ∙ c.requires.whole in
    let inside = ap (λ (t : Token). t.inside) v ∙ c.requires.inside in
    let free = ap (λ (t : Token). t.free) v ∙ c.requires.free in
    let drawn = ap (λ (t : Token). t.searched) v ∙ (c.requires.drawn ∙ ap (λ (t : Token). t.drawn) (sym v)) in
    let addr = c.args.addr in
    let go = goes_by z me f i.slot stream h p.me.0 (λ n. two n (acts.NotLive addr) acts.Leave) told.goes in
    (denied_leaving z me f i.slot stream h w addr p.me p.table_id c.deny_leave_by.ensures.table c.clear.new.self.items c.clear.ensures go told.slot told.owes inside free drawn).caller

pub returns : goal.returns
returns g c =
    let i = c.c.inside in let f : Face = record { number = i.number; prepared = i.prepared.items; pending = i.pending; call = i.call.value; fresh = i.fresh.value; locked = i.locked.value; inside = i.inside; depth = i.depth; whole = i.whole.value; free = i.free.value; drawn = i.drawn.value } in let h = c.c.invariant in let z = i.place.table_id in let me = i.place.me in let stream = words_of i.draws in let v = c.c.view_is in
    let p = c.deny_leave_by.new.place in let told = c.deny_leave_by.ensures.told.1 in
    let w = ap (λ (t : Token). t.whole) v ∙ c.requires.whole in
    let inside = ap (λ (t : Token). t.inside) v ∙ c.requires.inside in
    let free = ap (λ (t : Token). t.free) v ∙ c.requires.free in
    let drawn = ap (λ (t : Token). t.searched) v ∙ (c.requires.drawn ∙ ap (λ (t : Token). t.drawn) (sym v)) in
    let addr = c.args.addr in
    let go = goes_by z me f i.slot stream h p.me.0 (λ n. two n (acts.NotLive addr) acts.Leave) told.goes in
    subst (λ (t : Token). HasLeft t (tok p.table_id p.me (faced z me f i.slot stream h (behind_left z me f i.slot stream h w addr p.me p.table_id c.deny_leave_by.ensures.table c.clear.new.self.items c.clear.ensures go told.slot told.owes inside free drawn) c.clear.new.self.items)) (two t.number (acts.NotLive addr) acts.Leave)) v
    (has_denied_left z me f i.slot stream h w addr p.me p.table_id c.deny_leave_by.ensures.table c.clear.new.self.items c.clear.ensures go told.slot told.owes inside free drawn)
