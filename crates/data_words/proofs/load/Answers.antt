use Rattle.std.proofs.Common.{◌∙◌, [], ◌∷◌, subst, ap}
use Rattle.random_pick.specs.CallerDraws.{words_of}
use Rattle.heap_model.specs.declared.Act.TheVariants as acts
use Rattle.claim_rule.specs.Entries.{entry}
use Rattle.heap_gate.specs.Token.{Token}
use Rattle.heap_gate.specs.Seated.{Face, tok}
use Rattle.heap_gate.specs.Calls.{Runs, Stands, stance}
use Rattle.heap_gate.proofs.Tokens.{as_was, faced, goes_by}
use Rattle.data_words.proofs.Loading.{inside_by, loading, loaded_runs}
use Rattle.data_words.proofs.load.Goals as goal

pub load_by-value-requires-clause-may : goal.load_by-value-requires-clause-may
load_by-value-requires-clause-may g c =
    let i = c.c.inside in let f : Face = record { number = i.number; prepared = i.prepared.items; pending = i.pending; call = i.call.value; fresh = i.fresh.value; locked = i.locked.value; inside = i.inside; depth = i.depth; whole = i.whole.value; free = i.free.value; drawn = i.drawn.value } in let h = c.c.invariant in let z = i.place.table_id in let me = i.place.me in let stream = words_of i.draws in let v = c.c.view_is in
    inside_by z me f i.slot stream h (ap (λ (t : Token). t.whole) v ∙ c.requires.whole) (ap (λ (t : Token). t.inside) v ∙ c.requires.inside)

pub invariant_of-c : goal.invariant_of-c
invariant_of-c g c =
    let i = c.c.inside in let f : Face = record { number = i.number; prepared = i.prepared.items; pending = i.pending; call = i.call.value; fresh = i.fresh.value; locked = i.locked.value; inside = i.inside; depth = i.depth; whole = i.whole.value; free = i.free.value; drawn = i.drawn.value } in let h = c.c.invariant in let z = i.place.table_id in let me = i.place.me in let stream = words_of i.draws in let v = c.c.view_is in
    let p = c.load_by-value.new.place in let told = c.load_by-value.ensures.told in let word = c.args.word in let value = c.load_by-value.result in
    let w = ap (λ (t : Token). t.whole) v ∙ c.requires.whole in
    let go = goes_by z me f i.slot stream h p.me.0 (λ n. entry n (acts.Load word value) ∷ []) told.adds in
    (loading z me f i.slot stream h w p.me told.slot told.owes p.table_id c.load_by-value.ensures.table c.clear.new.self.items c.clear.ensures word value go).caller

pub returns-clause-runs : goal.returns-clause-runs
returns-clause-runs g c =
    let i = c.c.inside in let f : Face = record { number = i.number; prepared = i.prepared.items; pending = i.pending; call = i.call.value; fresh = i.fresh.value; locked = i.locked.value; inside = i.inside; depth = i.depth; whole = i.whole.value; free = i.free.value; drawn = i.drawn.value } in let h = c.c.invariant in let z = i.place.table_id in let me = i.place.me in let stream = words_of i.draws in let v = c.c.view_is in
    let p = c.load_by-value.new.place in let told = c.load_by-value.ensures.told in let word = c.args.word in let value = c.load_by-value.result in
    let w = ap (λ (t : Token). t.whole) v ∙ c.requires.whole in
    let go = goes_by z me f i.slot stream h p.me.0 (λ n. entry n (acts.Load word value) ∷ []) told.adds in
    subst (λ (t : Token). Runs t (tok p.table_id p.me (faced z me f i.slot stream h (as_was z me f i.slot stream h) c.clear.new.self.items)) (entry t.number (acts.Load word value) ∷ [])) v
    (loaded_runs z me f i.slot stream h w p.me told.slot told.owes p.table_id c.load_by-value.ensures.table c.clear.new.self.items c.clear.ensures word value go)

pub returns-clause-stands : goal.returns-clause-stands
returns-clause-stands g c =
    let i = c.c.inside in let f : Face = record { number = i.number; prepared = i.prepared.items; pending = i.pending; call = i.call.value; fresh = i.fresh.value; locked = i.locked.value; inside = i.inside; depth = i.depth; whole = i.whole.value; free = i.free.value; drawn = i.drawn.value } in let h = c.c.invariant in let z = i.place.table_id in let me = i.place.me in let stream = words_of i.draws in let v = c.c.view_is in
    let p = c.load_by-value.new.place in let told = c.load_by-value.ensures.told in let word = c.args.word in let value = c.load_by-value.result in
    let w = ap (λ (t : Token). t.whole) v ∙ c.requires.whole in
    let go = goes_by z me f i.slot stream h p.me.0 (λ n. entry n (acts.Load word value) ∷ []) told.adds in
    subst (λ (t : Token). Stands (tok p.table_id p.me (faced z me f i.slot stream h (as_was z me f i.slot stream h) c.clear.new.self.items)) (stance t)) v
    (loading z me f i.slot stream h w p.me told.slot told.owes p.table_id c.load_by-value.ensures.table c.clear.new.self.items c.clear.ensures word value go).stands
