use Rattle.std.proofs.Common.{◌∙◌, Bool, [], ◌∷◌, true, sym, subst, ap}
use Rattle.random_pick.specs.CallerDraws.{words_of}
use Rattle.claim_rule.specs.Entries.{entry}
use Rattle.claim_rule.specs.Rule.{ready_after}
use Rattle.heap_model.specs.declared.Act.TheVariants as acts
use Rattle.heap_gate.specs.Token.{Token, IsAt, outs}
use Rattle.heap_gate.specs.Seated.{Face, tok}
use Rattle.claim_rule.specs.Steps.{MayGoOut}
use Rattle.heap_gate.specs.Calls.{HasLeft}
use Rattle.heap_gate.proofs.Standing.{out_of}
use Rattle.heap_gate.proofs.Tokens.{faced, goes_by, may_by}
use Rattle.heap_gate.proofs.Acting.{behind_leave, leaving, has_left}
use Rattle.heap_gate.proofs.caller.leave.Goals as goal

pub leave_as-requires-clause-may : goal.leave_as-requires-clause-may
leave_as-requires-clause-may g c =
    let i = c.c.inside in let f : Face = record { number = i.number; prepared = i.prepared.items; pending = i.pending; call = i.call.value; fresh = i.fresh.value; locked = i.locked.value; inside = i.inside; depth = i.depth; whole = i.whole.value; free = i.free.value; drawn = i.drawn.value } in let h = c.c.invariant in let z = i.place.table_id in let me = i.place.me in let stream = words_of i.draws in let v = c.c.view_is in
    let inside = ap (λ (t : Token). t.inside) v ∙ c.requires.inside in
    let free = ap (λ (t : Token). t.free) v ∙ c.requires.free in
    may_by z me f i.slot stream h MayGoOut (λ s q. out_of (ready_after s me.0 f.prepared) i.number i.call.value i.depth (outs me.1) i.fresh.value i.whole.value (ap (λ (t : Token). t.out) v ∙ c.requires.out)
    (subst (λ (b : Bool). IsAt (ready_after s me.0 f.prepared) i.number i.call.value i.fresh.value true i.depth (outs me.1) i.whole.value b) free
    (subst (λ (b : Bool). IsAt (ready_after s me.0 f.prepared) i.number i.call.value i.fresh.value b i.depth (outs me.1) i.whole.value i.free.value) inside (h.at s q))))

pub invariant_of-c : goal.invariant_of-c
invariant_of-c g c =
    let i = c.c.inside in let f : Face = record { number = i.number; prepared = i.prepared.items; pending = i.pending; call = i.call.value; fresh = i.fresh.value; locked = i.locked.value; inside = i.inside; depth = i.depth; whole = i.whole.value; free = i.free.value; drawn = i.drawn.value } in let h = c.c.invariant in let z = i.place.table_id in let me = i.place.me in let stream = words_of i.draws in let v = c.c.view_is in
    let p = c.leave_as.new.place in let told = c.leave_as.ensures.told.1 in
    let w = ap (λ (t : Token). t.whole) v ∙ c.requires.whole in
    let inside = ap (λ (t : Token). t.inside) v ∙ c.requires.inside in
    let free = ap (λ (t : Token). t.free) v ∙ c.requires.free in
    let drawn = ap (λ (t : Token). t.searched) v ∙ (c.requires.drawn ∙ ap (λ (t : Token). t.drawn) (sym v)) in
    let go = goes_by z me f i.slot stream h p.me.0 (λ n. entry n acts.Leave ∷ []) told.0 in
    (leaving z me f i.slot stream h w p.me told.1 told.2 p.table_id c.leave_as.ensures.table c.clear.new.self.items c.clear.ensures go inside free drawn).caller

pub returns : goal.returns
returns g c =
    let i = c.c.inside in let f : Face = record { number = i.number; prepared = i.prepared.items; pending = i.pending; call = i.call.value; fresh = i.fresh.value; locked = i.locked.value; inside = i.inside; depth = i.depth; whole = i.whole.value; free = i.free.value; drawn = i.drawn.value } in let h = c.c.invariant in let z = i.place.table_id in let me = i.place.me in let stream = words_of i.draws in let v = c.c.view_is in
    let p = c.leave_as.new.place in let told = c.leave_as.ensures.told.1 in
    let w = ap (λ (t : Token). t.whole) v ∙ c.requires.whole in
    let inside = ap (λ (t : Token). t.inside) v ∙ c.requires.inside in
    let free = ap (λ (t : Token). t.free) v ∙ c.requires.free in
    let drawn = ap (λ (t : Token). t.searched) v ∙ (c.requires.drawn ∙ ap (λ (t : Token). t.drawn) (sym v)) in
    let go = goes_by z me f i.slot stream h p.me.0 (λ n. entry n acts.Leave ∷ []) told.0 in
    subst (λ (t : Token). HasLeft t (tok p.table_id p.me (faced z me f i.slot stream h (behind_leave z me f i.slot stream h w p.me told.1 told.2 p.table_id c.leave_as.ensures.table c.clear.new.self.items c.clear.ensures go inside free drawn) c.clear.new.self.items)) (entry t.number acts.Leave ∷ [])) v
    (has_left z me f i.slot stream h w p.me told.1 told.2 p.table_id c.leave_as.ensures.table c.clear.new.self.items c.clear.ensures go inside free drawn)
