use Rattle.std.proofs.Common.{◌-◌, ◌∙◌, Bool, false, [], ◌∷◌, sym, subst, ap}
use Rattle.random_pick.specs.CallerDraws.{words_of}
use Rattle.heap_model.specs.declared.Act.TheVariants as acts
use Rattle.claim_rule.specs.Entries.{entry}
use Rattle.heap_gate.specs.Token.{Token, IsCaller, Always, now}
use Rattle.heap_gate.specs.Seated.{Face, tok}
use Rattle.heap_gate.proofs.Tokens.{goes_by, as_was, faced}
use Rattle.block_steps.specs.Blocks.{MayAsk}
use Rattle.lfh_claims.specs.Blocks.{HasTakenLive, HasFoundNone}
use Rattle.lfh_claims.proofs.Acting.{may_in}
use Rattle.lfh_claims.proofs.Exchanges.{denying, has_found_none, taking_block, taken_face, has_taken_live}
use Rattle.lfh_claims.proofs.blocks.take_live.Goals as goal

pub take_by-word-requires-clause-may : goal.take_by-word-requires-clause-may
take_by-word-requires-clause-may g c =
    let i = c.c.inside in let f : Face = record { number = i.number; prepared = i.prepared.items; pending = i.pending; call = i.call.value; fresh = i.fresh.value; locked = i.locked.value; inside = i.inside; depth = i.depth; whole = i.whole.value; free = i.free.value; drawn = i.drawn.value } in let h = c.c.invariant in let z = i.place.table_id in let me = i.place.me in let stream = words_of i.draws in let v = c.c.view_is in
    let w = ap (λ (t : Token). t.whole) v ∙ c.requires.whole in
    let tag = c.args.tag in let addr = c.args.addr in
    let may = subst (λ (t : Token). Always t (λ s. MayAsk (now s t) t.number tag.head tag.bucket tag.slot addr)) (sym v) c.requires.may in
    may_in z me f i.slot stream h w (λ s m n. MayAsk m n tag.head tag.bucket tag.slot addr) may

pub invariant_of-c : goal.invariant_of-c
invariant_of-c g c =
    let i = c.c.inside in let f : Face = record { number = i.number; prepared = i.prepared.items; pending = i.pending; call = i.call.value; fresh = i.fresh.value; locked = i.locked.value; inside = i.inside; depth = i.depth; whole = i.whole.value; free = i.free.value; drawn = i.drawn.value } in let h = c.c.invariant in let z = i.place.table_id in let me = i.place.me in let stream = words_of i.draws in let v = c.c.view_is in
    let w = ap (λ (t : Token). t.whole) v ∙ c.requires.whole in
    let p = c.take_by-word.new.place in let told = c.take_by-word.ensures.told in
    let tag = c.args.tag in let addr = c.args.addr in let word = c.take_by-word.result in
    let none = told.none c.if-word-eq0.true in
    let go = goes_by z me f i.slot stream h p.me.0 (λ n. entry n (acts.NotLive addr) ∷ []) none.adds in
    (denying z me f i.slot stream h w p.me none.slot p.table_id c.take_by-word.ensures.table c.clear.new.self.items c.clear.ensures none.owes addr go).caller

pub returns-then-word-eq0-clause-none : goal.returns-then-word-eq0-clause-none
returns-then-word-eq0-clause-none g c =
    let i = c.c.inside in let f : Face = record { number = i.number; prepared = i.prepared.items; pending = i.pending; call = i.call.value; fresh = i.fresh.value; locked = i.locked.value; inside = i.inside; depth = i.depth; whole = i.whole.value; free = i.free.value; drawn = i.drawn.value } in let h = c.c.invariant in let z = i.place.table_id in let me = i.place.me in let stream = words_of i.draws in let v = c.c.view_is in
    let w = ap (λ (t : Token). t.whole) v ∙ c.requires.whole in
    let p = c.take_by-word.new.place in let told = c.take_by-word.ensures.told in
    let tag = c.args.tag in let addr = c.args.addr in let word = c.take_by-word.result in
    let none = told.none c.if-word-eq0.true in
    let go = goes_by z me f i.slot stream h p.me.0 (λ n. entry n (acts.NotLive addr) ∷ []) none.adds in
    subst (λ (t : Token). HasFoundNone t (tok p.table_id p.me (faced z me f i.slot stream h (as_was z me f i.slot stream h) c.clear.new.self.items)) addr) v (has_found_none z me f i.slot stream h w p.me none.slot p.table_id c.take_by-word.ensures.table c.clear.new.self.items c.clear.ensures none.owes addr go)

pub invariant_of-c-2 : goal.invariant_of-c-2
invariant_of-c-2 g c =
    let i = c.c.inside in let f : Face = record { number = i.number; prepared = i.prepared.items; pending = i.pending; call = i.call.value; fresh = i.fresh.value; locked = i.locked.value; inside = i.inside; depth = i.depth; whole = i.whole.value; free = i.free.value; drawn = i.drawn.value } in let h = c.c.invariant in let z = i.place.table_id in let me = i.place.me in let stream = words_of i.draws in let v = c.c.view_is in
    let w = ap (λ (t : Token). t.whole) v ∙ c.requires.whole in
    let p = c.take_by-word.new.place in let told = c.take_by-word.ensures.told in
    let tag = c.args.tag in let addr = c.args.addr in let word = c.take_by-word.result in
    let in_is = ap (λ (t : Token). t.inside) v ∙ c.requires.inside in
    let live = told.live c.if-word-eq0.false in
    let go = goes_by z me f i.slot stream h p.me.0 (λ n. entry n (acts.Take addr (word - 1)) ∷ []) live.adds in
    subst (λ (b : Bool). IsCaller p.me (tok p.table_id p.me (record { number = i.number; prepared = c.clear.new.self.items; pending = false; call = i.call.value; fresh = i.fresh.value; locked = i.locked.value; inside = i.inside; depth = i.depth; whole = i.whole.value; free = b; drawn = i.drawn.value })) i.slot stream) (sym c.of-c-inside.ensures)
    ((taking_block z me f i.slot stream h w p.me live.slot p.table_id c.take_by-word.ensures.table c.clear.new.self.items c.clear.ensures in_is live.owes tag addr (word - 1) go live.number live.tells).caller)

pub returns-clause-taken : goal.returns-clause-taken
returns-clause-taken g c =
    let i = c.c.inside in let f : Face = record { number = i.number; prepared = i.prepared.items; pending = i.pending; call = i.call.value; fresh = i.fresh.value; locked = i.locked.value; inside = i.inside; depth = i.depth; whole = i.whole.value; free = i.free.value; drawn = i.drawn.value } in let h = c.c.invariant in let z = i.place.table_id in let me = i.place.me in let stream = words_of i.draws in let v = c.c.view_is in
    let w = ap (λ (t : Token). t.whole) v ∙ c.requires.whole in
    let p = c.take_by-word.new.place in let told = c.take_by-word.ensures.told in
    let tag = c.args.tag in let addr = c.args.addr in let word = c.take_by-word.result in
    let in_is = ap (λ (t : Token). t.inside) v ∙ c.requires.inside in
    let live = told.live c.if-word-eq0.false in
    let go = goes_by z me f i.slot stream h p.me.0 (λ n. entry n (acts.Take addr (word - 1)) ∷ []) live.adds in
    subst (λ (b : Bool). HasTakenLive c.args.c.now (tok p.table_id p.me (record { number = i.number; prepared = c.clear.new.self.items; pending = false; call = i.call.value; fresh = i.fresh.value; locked = i.locked.value; inside = i.inside; depth = i.depth; whole = i.whole.value; free = b; drawn = i.drawn.value })) tag addr (word - 1)) (sym c.of-c-inside.ensures)
    (subst (λ (t : Token). HasTakenLive t (tok p.table_id p.me (taken_face z me f i.slot stream h w p.me live.slot p.table_id c.take_by-word.ensures.table c.clear.new.self.items c.clear.ensures in_is live.owes tag addr (word - 1) go live.number live.tells)) tag addr (word - 1)) v (has_taken_live z me f i.slot stream h w p.me live.slot p.table_id c.take_by-word.ensures.table c.clear.new.self.items c.clear.ensures in_is live.owes tag addr (word - 1) go live.number live.tells))
