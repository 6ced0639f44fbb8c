use Rattle.std.proofs.Common.{◌∙◌, Bool, [], ◌∷◌, subst, ap}
use Rattle.random_pick.specs.CallerDraws.{words_of}
use Rattle.claim_rule.specs.Entries.{entry}
use Rattle.claim_rule.specs.Rule.{ready_after}
use Rattle.heap_model.specs.declared.Act.TheVariants as acts
use Rattle.heap_gate.specs.Token.{Token, IsAt, outs}
use Rattle.heap_gate.specs.Seated.{Face, tok}
use Rattle.claim_rule.specs.Steps.{MayGiveUp}
use Rattle.heap_gate.specs.Calls.{HasUnlocked, stance}
use Rattle.heap_gate.proofs.Standing.{give_up_of}
use Rattle.heap_gate.proofs.Tokens.{faced, goes_by, may_by, ready_by}
use Rattle.heap_gate.proofs.Acting.{behind_unlock, unlocking, has_unlocked}
use Rattle.heap_gate.proofs.heap_lock.give.Goals as goal

pub unlock_as-requires-clause-ready : goal.unlock_as-requires-clause-ready
unlock_as-requires-clause-ready g c =
    let i = c.c.inside in let f : Face = record { number = i.number; prepared = i.prepared.items; pending = i.pending; call = i.call.value; fresh = i.fresh.value; locked = i.locked.value; inside = i.inside; depth = i.depth; whole = i.whole.value; free = i.free.value; drawn = i.drawn.value } in let h = c.c.invariant in let z = i.place.table_id in let me = i.place.me in let stream = words_of i.draws in let v = c.c.view_is in
    ready_by z me f i.slot stream h (h.even.whole (ap (λ (t : Token). t.inside) v ∙ c.requires.outside) (ap (λ (t : Token). t.out) v ∙ c.requires.out))

pub unlock_as-requires-clause-may : goal.unlock_as-requires-clause-may
unlock_as-requires-clause-may g c =
    let i = c.c.inside in let f : Face = record { number = i.number; prepared = i.prepared.items; pending = i.pending; call = i.call.value; fresh = i.fresh.value; locked = i.locked.value; inside = i.inside; depth = i.depth; whole = i.whole.value; free = i.free.value; drawn = i.drawn.value } in let h = c.c.invariant in let z = i.place.table_id in let me = i.place.me in let stream = words_of i.draws in let v = c.c.view_is in
    let outside = ap (λ (t : Token). t.inside) v ∙ c.requires.outside in
    may_by z me f i.slot stream h MayGiveUp (λ s q. give_up_of (ready_after s me.0 f.prepared) i.number i.call.value i.depth (outs me.1) i.fresh.value i.whole.value i.free.value (ap (λ (t : Token). t.out) v ∙ c.requires.out) (ap (λ (t : Token). t.depth) v ∙ c.requires.owns)
    (subst (λ (b : Bool). IsAt (ready_after s me.0 f.prepared) i.number i.call.value i.fresh.value b i.depth (outs me.1) i.whole.value i.free.value) outside (h.at s q)))

pub invariant_of-c : goal.invariant_of-c
invariant_of-c g c =
    let i = c.c.inside in let f : Face = record { number = i.number; prepared = i.prepared.items; pending = i.pending; call = i.call.value; fresh = i.fresh.value; locked = i.locked.value; inside = i.inside; depth = i.depth; whole = i.whole.value; free = i.free.value; drawn = i.drawn.value } in let h = c.c.invariant in let z = i.place.table_id in let me = i.place.me in let stream = words_of i.draws in let v = c.c.view_is in
    let p = c.unlock_as.new.place in let told = c.unlock_as.ensures.told.1 in
    let outside = ap (λ (t : Token). t.inside) v ∙ c.requires.outside in
    let w = h.even.whole outside (ap (λ (t : Token). t.out) v ∙ c.requires.out) in
    let go = goes_by z me f i.slot stream h p.me.0 (λ n. entry n acts.Unlock ∷ []) told.0 in
    (unlocking z me f i.slot stream h w p.me told.1 told.2 p.table_id c.unlock_as.ensures.table c.clear.new.self.items c.clear.ensures outside go).caller

pub returns : goal.returns
returns g c =
    let i = c.c.inside in let f : Face = record { number = i.number; prepared = i.prepared.items; pending = i.pending; call = i.call.value; fresh = i.fresh.value; locked = i.locked.value; inside = i.inside; depth = i.depth; whole = i.whole.value; free = i.free.value; drawn = i.drawn.value } in let h = c.c.invariant in let z = i.place.table_id in let me = i.place.me in let stream = words_of i.draws in let v = c.c.view_is in
    let p = c.unlock_as.new.place in let told = c.unlock_as.ensures.told.1 in
    let outside = ap (λ (t : Token). t.inside) v ∙ c.requires.outside in
    let w = h.even.whole outside (ap (λ (t : Token). t.out) v ∙ c.requires.out) in
    let go = goes_by z me f i.slot stream h p.me.0 (λ n. entry n acts.Unlock ∷ []) told.0 in
    subst (λ (t : Token). HasUnlocked t (tok p.table_id p.me (faced z me f i.slot stream h (behind_unlock z me f i.slot stream h w p.me told.1 told.2 p.table_id c.unlock_as.ensures.table c.clear.new.self.items c.clear.ensures outside go) c.clear.new.self.items)) (stance t) (entry t.number acts.Unlock ∷ [])) v
    (has_unlocked z me f i.slot stream h w p.me told.1 told.2 p.table_id c.unlock_as.ensures.table c.clear.new.self.items c.clear.ensures outside go)
