use Rattle.std.proofs.Common.{◌≡◌, ◌+◌, ◌-◌, arith, ◌∙◌, ℕ, [], ◌∷◌, sym, subst, ap}
use Rattle.random_pick.specs.CallerDraws.{words_of}
use Rattle.heap_model.specs.declared.Act.TheVariants as acts
use Rattle.claim_rule.specs.Entries.{entry}
use Rattle.claim_rule.specs.Plays.{Goes}
use Rattle.heap_gate.specs.Token.{Token, Always, now}
use Rattle.heap_gate.specs.Seated.{Face, tok}
use Rattle.heap_gate.proofs.Tokens.{goes_by}
use Rattle.span_steps.specs.Stores.{MayActivate}
use Rattle.heap_gate.specs.Calls.{Runs, Stands, stance}
use Rattle.lfh_claims.proofs.Acting.{may_in}
use Rattle.lfh_claims.proofs.Exchanges.{activating, active_face, has_activated}
use Rattle.lfh_claims.proofs.looks.set_active.Goals as goal

pub activate_by-requires-clause-may : goal.activate_by-requires-clause-may
activate_by-requires-clause-may g c =
    let i = c.c.inside in let f : Face = record { number = i.number; prepared = i.prepared.items; pending = i.pending; call = i.call.value; fresh = i.fresh.value; locked = i.locked.value; inside = i.inside; depth = i.depth; whole = i.whole.value; free = i.free.value; drawn = i.drawn.value } in let h = c.c.invariant in let z = i.place.table_id in let me = i.place.me in let stream = words_of i.draws in let v = c.c.view_is in
    let w = ap (λ (t : Token). t.whole) v ∙ c.requires.whole in
    let may = subst (λ (t : Token). Always t (λ s. MayActivate s (now s t) t.number (c.args.bucket - 1))) (sym v) c.requires.may in
    may_in z me f i.slot stream h w (λ s m n. MayActivate s m n (c.args.bucket - 1)) may

pub invariant_of-c : goal.invariant_of-c
invariant_of-c g c =
    let i = c.c.inside in let f : Face = record { number = i.number; prepared = i.prepared.items; pending = i.pending; call = i.call.value; fresh = i.fresh.value; locked = i.locked.value; inside = i.inside; depth = i.depth; whole = i.whole.value; free = i.free.value; drawn = i.drawn.value } in let h = c.c.invariant in let z = i.place.table_id in let me = i.place.me in let stream = words_of i.draws in let v = c.c.view_is in
    let w = ap (λ (t : Token). t.whole) v ∙ c.requires.whole in
    let p = c.activate_by.new.place in let told = c.activate_by.ensures.told in
    let eb : c.args.bucket - 1 + 1 ≡ c.args.bucket = let one = c.requires.bucket.first in omega arith in
    let go = subst (λ (b : ℕ). Goes i.number me.0 p.me.0 f.prepared (entry i.number (acts.Active b) ∷ [])) eb (goes_by z me f i.slot stream h p.me.0 (λ n. entry n (acts.Active (c.args.bucket - 1 + 1)) ∷ []) told.adds) in
    (activating z me f i.slot stream h w p.me told.slot p.table_id c.activate_by.ensures.table c.clear.new.self.items c.clear.ensures told.owes c.args.bucket go).caller

pub returns-clause-runs : goal.returns-clause-runs
returns-clause-runs g c =
    let i = c.c.inside in let f : Face = record { number = i.number; prepared = i.prepared.items; pending = i.pending; call = i.call.value; fresh = i.fresh.value; locked = i.locked.value; inside = i.inside; depth = i.depth; whole = i.whole.value; free = i.free.value; drawn = i.drawn.value } in let h = c.c.invariant in let z = i.place.table_id in let me = i.place.me in let stream = words_of i.draws in let v = c.c.view_is in
    let w = ap (λ (t : Token). t.whole) v ∙ c.requires.whole in
    let p = c.activate_by.new.place in let told = c.activate_by.ensures.told in
    let eb : c.args.bucket - 1 + 1 ≡ c.args.bucket = let one = c.requires.bucket.first in omega arith in
    let go = subst (λ (b : ℕ). Goes i.number me.0 p.me.0 f.prepared (entry i.number (acts.Active b) ∷ [])) eb (goes_by z me f i.slot stream h p.me.0 (λ n. entry n (acts.Active (c.args.bucket - 1 + 1)) ∷ []) told.adds) in
    subst (λ (t : Token). Runs t (tok p.table_id p.me (active_face z me f i.slot stream h w p.me told.slot p.table_id c.activate_by.ensures.table c.clear.new.self.items c.clear.ensures told.owes c.args.bucket go)) (entry t.number (acts.Active c.args.bucket) ∷ [])) v (has_activated z me f i.slot stream h w p.me told.slot p.table_id c.activate_by.ensures.table c.clear.new.self.items c.clear.ensures told.owes c.args.bucket go)

pub returns-clause-stands : goal.returns-clause-stands
returns-clause-stands g c =
    let i = c.c.inside in let f : Face = record { number = i.number; prepared = i.prepared.items; pending = i.pending; call = i.call.value; fresh = i.fresh.value; locked = i.locked.value; inside = i.inside; depth = i.depth; whole = i.whole.value; free = i.free.value; drawn = i.drawn.value } in let h = c.c.invariant in let z = i.place.table_id in let me = i.place.me in let stream = words_of i.draws in let v = c.c.view_is in
    let w = ap (λ (t : Token). t.whole) v ∙ c.requires.whole in
    let p = c.activate_by.new.place in let told = c.activate_by.ensures.told in
    let eb : c.args.bucket - 1 + 1 ≡ c.args.bucket = let one = c.requires.bucket.first in omega arith in
    let go = subst (λ (b : ℕ). Goes i.number me.0 p.me.0 f.prepared (entry i.number (acts.Active b) ∷ [])) eb (goes_by z me f i.slot stream h p.me.0 (λ n. entry n (acts.Active (c.args.bucket - 1 + 1)) ∷ []) told.adds) in
    subst (λ (t : Token). Stands (tok p.table_id p.me (active_face z me f i.slot stream h w p.me told.slot p.table_id c.activate_by.ensures.table c.clear.new.self.items c.clear.ensures told.owes c.args.bucket go)) (stance t)) v (activating z me f i.slot stream h w p.me told.slot p.table_id c.activate_by.ensures.table c.clear.new.self.items c.clear.ensures told.owes c.args.bucket go).stands
