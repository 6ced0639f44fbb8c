use Rattle.std.proofs.Common.{◌∙◌, [], subst, ap}
use Rattle.random_pick.specs.CallerDraws.{words_of}
use Rattle.heap_gate.specs.Token.{Token}
use Rattle.heap_gate.specs.Seated.{Face, tok}
use Rattle.heap_gate.specs.Calls.{Runs, Stands, stance}
use Rattle.heap_gate.proofs.Tokens.{as_was, faced, goes_by}
use Rattle.heap_gate.proofs.Acting.{looking, looked_runs}
use Rattle.stay_calls.proofs.hearing.hear.Goals as goal

pub invariant_of-c : goal.invariant_of-c
invariant_of-c c =
    let i = c.c.inside in let f : Face = record { number = i.number; prepared = i.prepared.items; pending = i.pending; call = i.call.value; fresh = i.fresh.value; locked = i.locked.value; inside = i.inside; depth = i.depth; whole = i.whole.value; free = i.free.value; drawn = i.drawn.value } in let h = c.c.invariant in let z = i.place.table_id in let me = i.place.me in let stream = words_of i.draws in let v = c.c.view_is in
    let p = c.hear_by.new.place in let told = c.hear_by.ensures.told.1 in
    let w = ap (λ (t : Token). t.whole) v ∙ c.requires.whole in
    let go = goes_by z me f i.slot stream h p.me.0 (λ _. []) told.goes in
    (looking z me f i.slot stream h w p.me told.slot told.owes p.table_id c.hear_by.ensures.table c.clear.new.self.items c.clear.ensures go).caller

pub returns-clause-runs : goal.returns-clause-runs
returns-clause-runs c =
    let i = c.c.inside in let f : Face = record { number = i.number; prepared = i.prepared.items; pending = i.pending; call = i.call.value; fresh = i.fresh.value; locked = i.locked.value; inside = i.inside; depth = i.depth; whole = i.whole.value; free = i.free.value; drawn = i.drawn.value } in let h = c.c.invariant in let z = i.place.table_id in let me = i.place.me in let stream = words_of i.draws in let v = c.c.view_is in
    let p = c.hear_by.new.place in let told = c.hear_by.ensures.told.1 in
    let w = ap (λ (t : Token). t.whole) v ∙ c.requires.whole in
    let go = goes_by z me f i.slot stream h p.me.0 (λ _. []) told.goes in
    subst (λ (t : Token). Runs t (tok p.table_id p.me (faced z me f i.slot stream h (as_was z me f i.slot stream h) c.clear.new.self.items)) []) v
    (looked_runs z me f i.slot stream h w p.me told.slot told.owes p.table_id c.hear_by.ensures.table c.clear.new.self.items c.clear.ensures go)

pub returns-clause-stands : goal.returns-clause-stands
returns-clause-stands c =
    let i = c.c.inside in let f : Face = record { number = i.number; prepared = i.prepared.items; pending = i.pending; call = i.call.value; fresh = i.fresh.value; locked = i.locked.value; inside = i.inside; depth = i.depth; whole = i.whole.value; free = i.free.value; drawn = i.drawn.value } in let h = c.c.invariant in let z = i.place.table_id in let me = i.place.me in let stream = words_of i.draws in let v = c.c.view_is in
    let p = c.hear_by.new.place in let told = c.hear_by.ensures.told.1 in
    let w = ap (λ (t : Token). t.whole) v ∙ c.requires.whole in
    let go = goes_by z me f i.slot stream h p.me.0 (λ _. []) told.goes in
    subst (λ (t : Token). Stands (tok p.table_id p.me (faced z me f i.slot stream h (as_was z me f i.slot stream h) c.clear.new.self.items)) (stance t)) v
    (looking z me f i.slot stream h w p.me told.slot told.owes p.table_id c.hear_by.ensures.table c.clear.new.self.items c.clear.ensures go).stands

pub returns-clause-slots : goal.returns-clause-slots
returns-clause-slots c = c.hear_by.ensures.told.1.slots

pub returns-clause-names : goal.returns-clause-names
returns-clause-names c = c.hear_by.ensures.told.1.names
