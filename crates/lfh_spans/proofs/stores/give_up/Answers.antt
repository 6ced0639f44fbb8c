use Rattle.std.proofs.Common.{ℕ, ◌∙◌, [], ◌∷◌, sym, subst, ap}
use Rattle.random_pick.specs.CallerDraws.{words_of}
use Rattle.claim_rule.specs.Rule.{ready_after}
use Rattle.heap_gate.specs.Token.{Token, Always, now}
use Rattle.heap_gate.specs.Seated.{Face, tok}
use Rattle.heap_gate.specs.Calls.{Runs, Stands, stance}
use Rattle.heap_gate.proofs.Tokens.{as_was, faced, goes_by}
use Rattle.claim_rule.specs.Plays.{number_of}
use Rattle.claim_rule.specs.Entries.{entry}
use Rattle.heap_model.specs.declared.Act.TheVariants as acts
use Rattle.span_steps.specs.Retires.{MayRetire, owed_by_retire}
use Rattle.lfh_spans.proofs.Making.{is_given_up, gives_up}
use Rattle.lfh_spans.proofs.stores.give_up.Goals as goal

pub retire_by-requires-clause-may : goal.retire_by-requires-clause-may
retire_by-requires-clause-may g c =
    let i = c.c.inside in let f : Face = record { number = i.number; prepared = i.prepared.items; pending = i.pending; call = i.call.value; fresh = i.fresh.value; locked = i.locked.value; inside = i.inside; depth = i.depth; whole = i.whole.value; free = i.free.value; drawn = i.drawn.value } in let h = c.c.invariant in let z = i.place.table_id in let me = i.place.me in let stream = words_of i.draws in let v = c.c.view_is in
    let at = c.args.at in let hint = c.args.hint in
    λ s q. subst (λ (x : ℕ). MayRetire s (ready_after s me.0 f.prepared) x at.head at.pages at.bucket at.slot hint me.0.owes) (sym (ap number_of h.role))
    (subst (λ (t : Token). Always t (λ s. MayRetire s (now s t) t.number at.head at.pages at.bucket at.slot hint t.owes)) (sym v) c.requires.may s q)

pub invariant_of-c : goal.invariant_of-c
invariant_of-c g c =
    let i = c.c.inside in let f : Face = record { number = i.number; prepared = i.prepared.items; pending = i.pending; call = i.call.value; fresh = i.fresh.value; locked = i.locked.value; inside = i.inside; depth = i.depth; whole = i.whole.value; free = i.free.value; drawn = i.drawn.value } in let h = c.c.invariant in let z = i.place.table_id in let me = i.place.me in let stream = words_of i.draws in let v = c.c.view_is in
    let at = c.args.at in
    let p = c.retire_by.new.place in let told = c.retire_by.ensures.told in
    let w = ap (λ (t : Token). t.whole) v ∙ c.requires.whole in
    let go = goes_by z me f i.slot stream h p.me.0 (λ n. entry n (acts.Unspan at.head) ∷ []) told.adds in
    (is_given_up z me f i.slot stream h w p.me told.slot p.table_id c.retire_by.ensures.table c.clear.new.self.items c.clear.ensures at.head at.pages at.bucket at.slot told.owes go).caller

pub returns-clause-runs : goal.returns-clause-runs
returns-clause-runs g c =
    let i = c.c.inside in let f : Face = record { number = i.number; prepared = i.prepared.items; pending = i.pending; call = i.call.value; fresh = i.fresh.value; locked = i.locked.value; inside = i.inside; depth = i.depth; whole = i.whole.value; free = i.free.value; drawn = i.drawn.value } in let h = c.c.invariant in let z = i.place.table_id in let me = i.place.me in let stream = words_of i.draws in let v = c.c.view_is in
    let at = c.args.at in
    let p = c.retire_by.new.place in let told = c.retire_by.ensures.told in
    let w = ap (λ (t : Token). t.whole) v ∙ c.requires.whole in
    let go = goes_by z me f i.slot stream h p.me.0 (λ n. entry n (acts.Unspan at.head) ∷ []) told.adds in
    subst (λ (t : Token). Runs t (tok p.table_id p.me (faced z me f i.slot stream h (as_was z me f i.slot stream h) c.clear.new.self.items)) (entry t.number (acts.Unspan at.head) ∷ [])) v (gives_up z me f i.slot stream h w p.me told.slot p.table_id c.retire_by.ensures.table c.clear.new.self.items c.clear.ensures at.head at.pages at.bucket at.slot told.owes go)

pub returns-clause-stands : goal.returns-clause-stands
returns-clause-stands g c =
    let i = c.c.inside in let f : Face = record { number = i.number; prepared = i.prepared.items; pending = i.pending; call = i.call.value; fresh = i.fresh.value; locked = i.locked.value; inside = i.inside; depth = i.depth; whole = i.whole.value; free = i.free.value; drawn = i.drawn.value } in let h = c.c.invariant in let z = i.place.table_id in let me = i.place.me in let stream = words_of i.draws in let v = c.c.view_is in
    let at = c.args.at in
    let p = c.retire_by.new.place in let told = c.retire_by.ensures.told in
    let w = ap (λ (t : Token). t.whole) v ∙ c.requires.whole in
    let go = goes_by z me f i.slot stream h p.me.0 (λ n. entry n (acts.Unspan at.head) ∷ []) told.adds in
    subst (λ (t : Token). Stands (tok p.table_id p.me (faced z me f i.slot stream h (as_was z me f i.slot stream h) c.clear.new.self.items)) (record (stance t) { owes = owed_by_retire at.bucket at.slot at.head at.pages t.owes })) v (is_given_up z me f i.slot stream h w p.me told.slot p.table_id c.retire_by.ensures.table c.clear.new.self.items c.clear.ensures at.head at.pages at.bucket at.slot told.owes go).stands
