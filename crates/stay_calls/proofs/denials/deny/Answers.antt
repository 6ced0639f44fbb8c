use Rattle.std.proofs.Common.{◌≡◌, ◌∙◌, [], ◌∷◌, sym, subst, ap}
use Rattle.random_pick.specs.CallerDraws.{words_of}
use Rattle.heap_model.specs.declared.Act.TheVariants as acts
use Rattle.heap_model.specs.declared.Opening.{Opening}
use Rattle.claim_rule.specs.Entries.{entry}
use Rattle.claim_rule.specs.Rule.{ready_after}
use Rattle.look_steps.specs.Denials.{MayDeny}
use Rattle.heap_gate.specs.Token.{Token, HeapToken, Always, now}
use Rattle.heap_gate.specs.Seated.{Face, tok}
use Rattle.heap_gate.proofs.Tokens.{goes_by, as_was, faced, may_by}
use Rattle.lfh_claims.specs.Blocks.{HasFoundNone}
use Rattle.lfh_claims.proofs.Exchanges.{denying, has_found_none}
use Rattle.stay_calls.proofs.denials.deny.Goals as goal

pub deny_by-requires-clause-may : goal.deny_by-requires-clause-may
deny_by-requires-clause-may c =
    let i = c.c.inside in let f : Face = record { number = i.number; prepared = i.prepared.items; pending = i.pending; call = i.call.value; fresh = i.fresh.value; locked = i.locked.value; inside = i.inside; depth = i.depth; whole = i.whole.value; free = i.free.value; drawn = i.drawn.value } in let h = c.c.invariant in let z = i.place.table_id in let me = i.place.me in let stream = words_of i.draws in let v = c.c.view_is in
    let same : me.0.opening ≡ c.heap.inside.table.shared.key = ap (λ (t : Token). t.opening) v ∙ (c.requires.table.1 ∙ (ap (λ (t : HeapToken). t.opening) (sym c.heap.view_is) ∙ sym c.heap.invariant.same)) in
    let none = subst (λ (t : Token). Always t (λ s. MayDeny t.opening.limits (now s t) t.number c.args.addr)) (sym v) c.requires.none in
    may_by z me f i.slot stream h (λ m n. MayDeny c.heap.inside.table.shared.key.limits m n c.args.addr) (λ s q. subst (λ (o : Opening). MayDeny o.limits (ready_after s me.0 f.prepared) i.number c.args.addr) same (none s q))

pub invariant_of-c : goal.invariant_of-c
invariant_of-c c =
    let i = c.c.inside in let f : Face = record { number = i.number; prepared = i.prepared.items; pending = i.pending; call = i.call.value; fresh = i.fresh.value; locked = i.locked.value; inside = i.inside; depth = i.depth; whole = i.whole.value; free = i.free.value; drawn = i.drawn.value } in let h = c.c.invariant in let z = i.place.table_id in let me = i.place.me in let stream = words_of i.draws in let v = c.c.view_is in
    let w = ap (λ (t : Token). t.whole) v ∙ c.requires.whole in
    let p = c.deny_by.new.place in let none = c.deny_by.ensures.told.1 in let addr = c.args.addr in
    let go = goes_by z me f i.slot stream h p.me.0 (λ n. entry n (acts.NotLive addr) ∷ []) none.adds in
    (denying z me f i.slot stream h w p.me none.slot p.table_id c.deny_by.ensures.table c.clear.new.self.items c.clear.ensures none.owes addr go).caller

pub returns : goal.returns
returns c =
    let i = c.c.inside in let f : Face = record { number = i.number; prepared = i.prepared.items; pending = i.pending; call = i.call.value; fresh = i.fresh.value; locked = i.locked.value; inside = i.inside; depth = i.depth; whole = i.whole.value; free = i.free.value; drawn = i.drawn.value } in let h = c.c.invariant in let z = i.place.table_id in let me = i.place.me in let stream = words_of i.draws in let v = c.c.view_is in
    let w = ap (λ (t : Token). t.whole) v ∙ c.requires.whole in
    let p = c.deny_by.new.place in let none = c.deny_by.ensures.told.1 in let addr = c.args.addr in
    let go = goes_by z me f i.slot stream h p.me.0 (λ n. entry n (acts.NotLive addr) ∷ []) none.adds in
    subst (λ (t : Token). HasFoundNone t (tok p.table_id p.me (faced z me f i.slot stream h (as_was z me f i.slot stream h) c.clear.new.self.items)) addr) v (has_found_none z me f i.slot stream h w p.me none.slot p.table_id c.deny_by.ensures.table c.clear.new.self.items c.clear.ensures none.owes addr go)
