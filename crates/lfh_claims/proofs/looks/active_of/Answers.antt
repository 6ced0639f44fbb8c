use Rattle.std.proofs.Common.{◌≡◌, ◌∙◌, ℕ, [], sym, subst, ap}
use Rattle.random_pick.specs.CallerDraws.{words_of}
use Rattle.heap_gate.specs.Token.{Token}
use Rattle.heap_gate.specs.Seated.{Face, tok}
use Rattle.heap_gate.proofs.Tokens.{goes_by, as_was, faced, with_left}
use Rattle.heap_gate.specs.Calls.{Runs, Stands, stance}
use Rattle.heap_gate.proofs.Acting.{looking, looked_runs}
use Rattle.std.proofs.Common.{◌+◌, ◌-◌, ◌==◌, arith}
use Rattle.claim_rule.specs.Shown.{flag}
use Rattle.lfh_claims.proofs.Looking.{flag_told}
use Rattle.lfh_claims.proofs.looks.active_of.Goals as goal

pub invariant_of-c : goal.invariant_of-c
invariant_of-c g c =
    let i = c.c.inside in let f : Face = record { number = i.number; prepared = i.prepared.items; pending = i.pending; call = i.call.value; fresh = i.fresh.value; locked = i.locked.value; inside = i.inside; depth = i.depth; whole = i.whole.value; free = i.free.value; drawn = i.drawn.value } in let h = c.c.invariant in let z = i.place.table_id in let me = i.place.me in let stream = words_of i.draws in let v = c.c.view_is in
    let w = ap (λ (t : Token). t.whole) v ∙ c.requires.whole in
    let p = c.active_by-word.new.place in let told = c.active_by-word.ensures.told in
    let go = goes_by z me f i.slot stream h p.me.0 (λ n. []) told.goes in
    (looking z me f i.slot stream h w p.me told.slot told.owes p.table_id c.active_by-word.ensures.table c.clear.new.self.items c.clear.ensures go).caller

pub returns-clause-runs : goal.returns-clause-runs
returns-clause-runs g c =
    let i = c.c.inside in let f : Face = record { number = i.number; prepared = i.prepared.items; pending = i.pending; call = i.call.value; fresh = i.fresh.value; locked = i.locked.value; inside = i.inside; depth = i.depth; whole = i.whole.value; free = i.free.value; drawn = i.drawn.value } in let h = c.c.invariant in let z = i.place.table_id in let me = i.place.me in let stream = words_of i.draws in let v = c.c.view_is in
    let w = ap (λ (t : Token). t.whole) v ∙ c.requires.whole in
    let p = c.active_by-word.new.place in let told = c.active_by-word.ensures.told in
    let go = goes_by z me f i.slot stream h p.me.0 (λ n. []) told.goes in
    subst (λ (t : Token). Runs t (tok p.table_id p.me (faced z me f i.slot stream h (as_was z me f i.slot stream h) c.clear.new.self.items)) []) v (looked_runs z me f i.slot stream h w p.me told.slot told.owes p.table_id c.active_by-word.ensures.table c.clear.new.self.items c.clear.ensures go)

pub returns-clause-stands : goal.returns-clause-stands
returns-clause-stands g c =
    let i = c.c.inside in let f : Face = record { number = i.number; prepared = i.prepared.items; pending = i.pending; call = i.call.value; fresh = i.fresh.value; locked = i.locked.value; inside = i.inside; depth = i.depth; whole = i.whole.value; free = i.free.value; drawn = i.drawn.value } in let h = c.c.invariant in let z = i.place.table_id in let me = i.place.me in let stream = words_of i.draws in let v = c.c.view_is in
    let w = ap (λ (t : Token). t.whole) v ∙ c.requires.whole in
    let p = c.active_by-word.new.place in let told = c.active_by-word.ensures.told in
    let go = goes_by z me f i.slot stream h p.me.0 (λ n. []) told.goes in
    subst (λ (t : Token). Stands (tok p.table_id p.me (faced z me f i.slot stream h (as_was z me f i.slot stream h) c.clear.new.self.items)) (stance t)) v (looking z me f i.slot stream h w p.me told.slot told.owes p.table_id c.active_by-word.ensures.table c.clear.new.self.items c.clear.ensures go).stands

pub returns-clause-active : goal.returns-clause-active
returns-clause-active g c =
    let i = c.c.inside in let f : Face = record { number = i.number; prepared = i.prepared.items; pending = i.pending; call = i.call.value; fresh = i.fresh.value; locked = i.locked.value; inside = i.inside; depth = i.depth; whole = i.whole.value; free = i.free.value; drawn = i.drawn.value } in let h = c.c.invariant in let z = i.place.table_id in let me = i.place.me in let stream = words_of i.draws in let v = c.c.view_is in
    let w = ap (λ (t : Token). t.whole) v ∙ c.requires.whole in
    let p = c.active_by-word.new.place in let told = c.active_by-word.ensures.told in
    let go = goes_by z me f i.slot stream h p.me.0 (λ n. []) told.goes in
    let eb : c.args.bucket - 1 + 1 ≡ c.args.bucket = let one = c.requires.bucket.first in omega arith in
    let word = c.active_by-word.result in
    with_left z me f i.slot stream h p.me c.clear.new.self.items c.clear.ensures (λ s m. m.state.vs.active c.args.bucket ≡ (word == 1))
    (λ s q. sym (ap (λ (x : ℕ). x == 1) (told.tells s q ∙ ap (λ (b : ℕ). flag ((Rattle.heap_model.specs.History.configuration_of s p.me.0.seen).state.vs.active b)) eb) ∙ flag_told ((Rattle.heap_model.specs.History.configuration_of s p.me.0.seen).state.vs.active c.args.bucket)))
