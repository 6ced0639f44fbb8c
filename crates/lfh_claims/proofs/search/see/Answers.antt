use Rattle.std.proofs.Common.{◌∙◌, [], ◌∷◌, sym, subst, ap}
use Rattle.random_pick.specs.CallerDraws.{words_of}
use Rattle.heap_model.specs.declared.Act.TheVariants as acts
use Rattle.claim_rule.specs.Entries.{entry}
use Rattle.heap_gate.specs.Token.{Token, Always, now}
use Rattle.heap_gate.specs.Seated.{Face, tok}
use Rattle.heap_gate.proofs.Tokens.{goes_by}
use Rattle.block_steps.specs.Searches.{MaySee}
use Rattle.lfh_claims.specs.Search.{sought, own_slot, HasSeen}
use Rattle.lfh_claims.proofs.Acting.{may_in}
use Rattle.lfh_claims.proofs.Claiming.{seeing, seen_face, has_seen}
use Rattle.lfh_claims.proofs.search.see.Goals as goal

pub see_by-bits-requires-clause-may : goal.see_by-bits-requires-clause-may
see_by-bits-requires-clause-may g c =
    let i = c.c.inside in let f : Face = record { number = i.number; prepared = i.prepared.items; pending = i.pending; call = i.call.value; fresh = i.fresh.value; locked = i.locked.value; inside = i.inside; depth = i.depth; whole = i.whole.value; free = i.free.value; drawn = i.drawn.value } in let h = c.c.invariant in let z = i.place.table_id in let me = i.place.me in let stream = words_of i.draws in let v = c.c.view_is in
    let w = ap (λ (t : Token). t.whole) v ∙ c.requires.whole in
    let head = c.args.head in let word = c.args.word in
    let may = subst (λ (t : Token). Always t (λ s. MaySee s (now s t) t.number head (sought t) (own_slot t) word)) (sym v) c.requires.may in
    may_in z me f i.slot stream h w (λ s m n. MaySee s m n head (sought (tok z me f)) (own_slot (tok z me f)) word) may

pub invariant_of-c : goal.invariant_of-c
invariant_of-c g c =
    let i = c.c.inside in let f : Face = record { number = i.number; prepared = i.prepared.items; pending = i.pending; call = i.call.value; fresh = i.fresh.value; locked = i.locked.value; inside = i.inside; depth = i.depth; whole = i.whole.value; free = i.free.value; drawn = i.drawn.value } in let h = c.c.invariant in let z = i.place.table_id in let me = i.place.me in let stream = words_of i.draws in let v = c.c.view_is in
    let w = ap (λ (t : Token). t.whole) v ∙ c.requires.whole in
    let in_is = ap (λ (t : Token). t.inside) v ∙ c.requires.inside in
    let p = c.see_by-bits.new.place in let told = c.see_by-bits.ensures.told in
    let head = c.args.head in let word = c.args.word in let bits = c.see_by-bits.result in
    let go = goes_by z me f i.slot stream h p.me.0 (λ n. entry n (acts.Saw head word bits) ∷ []) told.adds in
    (seeing z me f i.slot stream h w in_is p.me told.slot p.table_id c.see_by-bits.ensures.table c.clear.new.self.items c.clear.ensures told.owes head word bits go).caller

pub returns : goal.returns
returns g c =
    let i = c.c.inside in let f : Face = record { number = i.number; prepared = i.prepared.items; pending = i.pending; call = i.call.value; fresh = i.fresh.value; locked = i.locked.value; inside = i.inside; depth = i.depth; whole = i.whole.value; free = i.free.value; drawn = i.drawn.value } in let h = c.c.invariant in let z = i.place.table_id in let me = i.place.me in let stream = words_of i.draws in let v = c.c.view_is in
    let w = ap (λ (t : Token). t.whole) v ∙ c.requires.whole in
    let in_is = ap (λ (t : Token). t.inside) v ∙ c.requires.inside in
    let p = c.see_by-bits.new.place in let told = c.see_by-bits.ensures.told in
    let head = c.args.head in let word = c.args.word in let bits = c.see_by-bits.result in
    let go = goes_by z me f i.slot stream h p.me.0 (λ n. entry n (acts.Saw head word bits) ∷ []) told.adds in
    subst (λ (t : Token). HasSeen t (tok p.table_id p.me (seen_face z me f i.slot stream h w in_is p.me told.slot p.table_id c.see_by-bits.ensures.table c.clear.new.self.items c.clear.ensures told.owes head word bits go)) head word bits) v (has_seen z me f i.slot stream h w in_is p.me told.slot p.table_id c.see_by-bits.ensures.table c.clear.new.self.items c.clear.ensures told.owes head word bits go)
