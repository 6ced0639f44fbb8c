use Rattle.std.proofs.Common.{◌≡◌, ◌/◌, ◌%◌, ◌^◌, ◌∙◌, ℕ, Bool, false, [], ◌∷◌, sym, subst, ap}
use Rattle.random_pick.specs.CallerDraws.{words_of}
use Rattle.heap_model.specs.declared.Act.TheVariants as acts
use Rattle.claim_rule.specs.Entries.{entry}
use Rattle.heap_gate.specs.Token.{Token, IsCaller, Always, now}
use Rattle.heap_gate.specs.Seated.{Face, tok}
use Rattle.heap_gate.proofs.Tokens.{goes_by}
use Rattle.heap_model.specs.declared.Layer.TheVariants as layers
use Rattle.heap_model.specs.declared.What.TheVariants as whats
use Rattle.heap_model.specs.Buckets.{block_address, block_size}
use Rattle.step_parts.specs.Claims.{MayClaim, IsUnder}
use Rattle.heap_gate.specs.Token.{is_out, outs}
use Rattle.lfh_claims.specs.Search.{sought, own_slot, own_hint, IsHintKnown, HasClaimed, HasLost}
use Rattle.lfh_claims.proofs.Acting.{may_in}
use Rattle.lfh_claims.proofs.Claiming.{losing, lost_face, has_lost, claiming, claimed_face, has_claimed}
use Rattle.lfh_claims.proofs.Looking.{clear_bit, set_bit}
use Rattle.lfh_claims.proofs.search.claim.Goals as goal

pub claim_by-bits-requires-clause-may : goal.claim_by-bits-requires-clause-may
claim_by-bits-requires-clause-may g c =
    let i = c.c.inside in let f : Face = record { number = i.number; prepared = i.prepared.items; pending = i.pending; call = i.call.value; fresh = i.fresh.value; locked = i.locked.value; inside = i.inside; depth = i.depth; whole = i.whole.value; free = i.free.value; drawn = i.drawn.value } in let h = c.c.invariant in let z = i.place.table_id in let me = i.place.me in let stream = words_of i.draws in let v = c.c.view_is in
    let w = ap (λ (t : Token). t.whole) v ∙ c.requires.whole in
    let head = c.args.head in let index = c.args.index in
    let may = subst (λ (t : Token). Always t (λ s. MayClaim s (now s t) t.number head (sought t) (own_slot t) index)) (sym v) c.requires.may in
    let hint = subst IsHintKnown (sym v) c.requires.hint in
    may_in z me f i.slot stream h w (λ s m n. MayClaim s m n head (sought (tok z me f)) (own_slot (tok z me f)) index × IsUnder m n (sought (tok z me f)) (own_slot (tok z me f)) (is_out whats.Back (outs me.1)) (own_hint (tok z me f)) me.0.owes)
    (λ s q. (may s q, record { holds_it = (h.at s q).locks whats.Back; hint_is = λ held. hint held s q }))

pub invariant_of-c : goal.invariant_of-c
invariant_of-c g c =
    let i = c.c.inside in let f : Face = record { number = i.number; prepared = i.prepared.items; pending = i.pending; call = i.call.value; fresh = i.fresh.value; locked = i.locked.value; inside = i.inside; depth = i.depth; whole = i.whole.value; free = i.free.value; drawn = i.drawn.value } in let h = c.c.invariant in let z = i.place.table_id in let me = i.place.me in let stream = words_of i.draws in let v = c.c.view_is in
    let w = ap (λ (t : Token). t.whole) v ∙ c.requires.whole in
    let in_is = ap (λ (t : Token). t.inside) v ∙ c.requires.inside in
    let p = c.claim_by-bits.new.place in let told = c.claim_by-bits.ensures.told in
    let head = c.args.head in let index = c.args.index in let bits = c.claim_by-bits.result in
    let zero = subst (λ (k : ℕ). bits / 2 ^ (k % 64) % 2 ≡ 0) c.from-number.ensures c.if-free.true in
    let free = told.free (clear_bit (bits / 2 ^ (index % 64)) zero) in
    let go = goes_by z me f i.slot stream h p.me.0 (λ n. entry n (acts.Place (block_address (sought (tok z me f)) head index) (block_size (sought (tok z me f)) / 16) layers.Lfh) ∷ []) free.adds in
    subst (λ (b : Bool). IsCaller p.me (tok p.table_id p.me (record { number = i.number; prepared = c.clear.new.self.items; pending = false; call = i.call.value; fresh = i.fresh.value; locked = i.locked.value; inside = i.inside; depth = i.depth; whole = i.whole.value; free = b; drawn = i.drawn.value })) i.slot stream) (sym c.of-c-inside.ensures)
    ((claiming z me f i.slot stream h w in_is p.me free.slot p.table_id c.claim_by-bits.ensures.table c.clear.new.self.items c.clear.ensures head index free.owes go).caller)

pub invariant_of-c-else-free : goal.invariant_of-c-else-free
invariant_of-c-else-free g c =
    let i = c.c.inside in let f : Face = record { number = i.number; prepared = i.prepared.items; pending = i.pending; call = i.call.value; fresh = i.fresh.value; locked = i.locked.value; inside = i.inside; depth = i.depth; whole = i.whole.value; free = i.free.value; drawn = i.drawn.value } in let h = c.c.invariant in let z = i.place.table_id in let me = i.place.me in let stream = words_of i.draws in let v = c.c.view_is in
    let w = ap (λ (t : Token). t.whole) v ∙ c.requires.whole in
    let in_is = ap (λ (t : Token). t.inside) v ∙ c.requires.inside in
    let p = c.claim_by-bits.new.place in let told = c.claim_by-bits.ensures.told in
    let head = c.args.head in let index = c.args.index in let bits = c.claim_by-bits.result in
    let nz = subst (λ (k : ℕ). bits / 2 ^ (k % 64) % 2 ≡ 0 → ⊥) c.from-number.ensures c.if-free.false in
    let lost = told.taken (set_bit (bits / 2 ^ (index % 64)) nz) in
    let go = goes_by z me f i.slot stream h p.me.0 (λ n. entry n (acts.Lost head index) ∷ []) lost.adds in
    (losing z me f i.slot stream h w in_is p.me lost.slot p.table_id c.claim_by-bits.ensures.table c.clear.new.self.items c.clear.ensures lost.owes head index go).caller

pub returns-then-free-clause-claimed : goal.returns-then-free-clause-claimed
returns-then-free-clause-claimed g c =
    let i = c.c.inside in let f : Face = record { number = i.number; prepared = i.prepared.items; pending = i.pending; call = i.call.value; fresh = i.fresh.value; locked = i.locked.value; inside = i.inside; depth = i.depth; whole = i.whole.value; free = i.free.value; drawn = i.drawn.value } in let h = c.c.invariant in let z = i.place.table_id in let me = i.place.me in let stream = words_of i.draws in let v = c.c.view_is in
    let w = ap (λ (t : Token). t.whole) v ∙ c.requires.whole in
    let in_is = ap (λ (t : Token). t.inside) v ∙ c.requires.inside in
    let p = c.claim_by-bits.new.place in let told = c.claim_by-bits.ensures.told in
    let head = c.args.head in let index = c.args.index in let bits = c.claim_by-bits.result in
    let zero = subst (λ (k : ℕ). bits / 2 ^ (k % 64) % 2 ≡ 0) c.from-number.ensures c.if-free.true in
    let free = told.free (clear_bit (bits / 2 ^ (index % 64)) zero) in
    let go = goes_by z me f i.slot stream h p.me.0 (λ n. entry n (acts.Place (block_address (sought (tok z me f)) head index) (block_size (sought (tok z me f)) / 16) layers.Lfh) ∷ []) free.adds in
    λ _. subst (λ (b : Bool). HasClaimed c.args.c.now (tok p.table_id p.me (record { number = i.number; prepared = c.clear.new.self.items; pending = false; call = i.call.value; fresh = i.fresh.value; locked = i.locked.value; inside = i.inside; depth = i.depth; whole = i.whole.value; free = b; drawn = i.drawn.value })) head index) (sym c.of-c-inside.ensures)
    (subst (λ (t : Token). HasClaimed t (tok p.table_id p.me (claimed_face z me f i.slot stream h w in_is p.me free.slot p.table_id c.claim_by-bits.ensures.table c.clear.new.self.items c.clear.ensures head index free.owes go)) head index) v (has_claimed z me f i.slot stream h w in_is p.me free.slot p.table_id c.claim_by-bits.ensures.table c.clear.new.self.items c.clear.ensures head index free.owes go free.tells))

pub returns-else-free-clause-lost : goal.returns-else-free-clause-lost
returns-else-free-clause-lost g c =
    let i = c.c.inside in let f : Face = record { number = i.number; prepared = i.prepared.items; pending = i.pending; call = i.call.value; fresh = i.fresh.value; locked = i.locked.value; inside = i.inside; depth = i.depth; whole = i.whole.value; free = i.free.value; drawn = i.drawn.value } in let h = c.c.invariant in let z = i.place.table_id in let me = i.place.me in let stream = words_of i.draws in let v = c.c.view_is in
    let w = ap (λ (t : Token). t.whole) v ∙ c.requires.whole in
    let in_is = ap (λ (t : Token). t.inside) v ∙ c.requires.inside in
    let p = c.claim_by-bits.new.place in let told = c.claim_by-bits.ensures.told in
    let head = c.args.head in let index = c.args.index in let bits = c.claim_by-bits.result in
    let nz = subst (λ (k : ℕ). bits / 2 ^ (k % 64) % 2 ≡ 0 → ⊥) c.from-number.ensures c.if-free.false in
    let lost = told.taken (set_bit (bits / 2 ^ (index % 64)) nz) in
    let go = goes_by z me f i.slot stream h p.me.0 (λ n. entry n (acts.Lost head index) ∷ []) lost.adds in
    λ _. subst (λ (t : Token). HasLost t (tok p.table_id p.me (lost_face z me f i.slot stream h w in_is p.me lost.slot p.table_id c.claim_by-bits.ensures.table c.clear.new.self.items c.clear.ensures lost.owes head index go)) head index) v (has_lost z me f i.slot stream h w in_is p.me lost.slot p.table_id c.claim_by-bits.ensures.table c.clear.new.self.items c.clear.ensures lost.owes head index go)
