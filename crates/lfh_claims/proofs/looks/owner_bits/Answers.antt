use Rattle.std.proofs.Common.{◌≡◌, ◌∙◌, [], sym, subst, ap}
use Rattle.random_pick.specs.CallerDraws.{words_of}
use Rattle.heap_model.specs.State.{Setting}
use Rattle.claim_rule.specs.Entries.{IsSettingOf}
use Rattle.heap_gate.specs.Token.{Token, now}
use Rattle.heap_gate.specs.Seated.{Face, tok}
use Rattle.heap_gate.proofs.Tokens.{goes_by, as_was, faced}
use Rattle.heap_gate.specs.Calls.{Runs, Stands, stance}
use Rattle.heap_gate.proofs.Acting.{looking, looked_runs}
use Rattle.look_steps.specs.Looks.{IsBitsWord}
use Rattle.lfh_claims.proofs.Looking.{owns_it}
use Rattle.lfh_claims.proofs.looks.owner_bits.Goals as goal

pub invariant_of-c : goal.invariant_of-c
invariant_of-c g c =
    let i = c.c.inside in let f : Face = record { number = i.number; prepared = i.prepared.items; pending = i.pending; call = i.call.value; fresh = i.fresh.value; locked = i.locked.value; inside = i.inside; depth = i.depth; whole = i.whole.value; free = i.free.value; drawn = i.drawn.value } in let h = c.c.invariant in let z = i.place.table_id in let me = i.place.me in let stream = words_of i.draws in let v = c.c.view_is in
    let w = ap (λ (t : Token). t.whole) v ∙ c.requires.whole in
    let p = c.bits_by-bits.new.place in let told = c.bits_by-bits.ensures.told in
    let go = goes_by z me f i.slot stream h p.me.0 (λ n. []) told.goes in
    (looking z me f i.slot stream h w p.me told.slot told.owes p.table_id c.bits_by-bits.ensures.table c.clear.new.self.items c.clear.ensures go).caller

pub returns-clause-runs : goal.returns-clause-runs
returns-clause-runs g c =
    let i = c.c.inside in let f : Face = record { number = i.number; prepared = i.prepared.items; pending = i.pending; call = i.call.value; fresh = i.fresh.value; locked = i.locked.value; inside = i.inside; depth = i.depth; whole = i.whole.value; free = i.free.value; drawn = i.drawn.value } in let h = c.c.invariant in let z = i.place.table_id in let me = i.place.me in let stream = words_of i.draws in let v = c.c.view_is in
    let w = ap (λ (t : Token). t.whole) v ∙ c.requires.whole in
    let p = c.bits_by-bits.new.place in let told = c.bits_by-bits.ensures.told in
    let go = goes_by z me f i.slot stream h p.me.0 (λ n. []) told.goes in
    subst (λ (t : Token). Runs t (tok p.table_id p.me (faced z me f i.slot stream h (as_was z me f i.slot stream h) c.clear.new.self.items)) []) v (looked_runs z me f i.slot stream h w p.me told.slot told.owes p.table_id c.bits_by-bits.ensures.table c.clear.new.self.items c.clear.ensures go)

pub returns-clause-stands : goal.returns-clause-stands
returns-clause-stands g c =
    let i = c.c.inside in let f : Face = record { number = i.number; prepared = i.prepared.items; pending = i.pending; call = i.call.value; fresh = i.fresh.value; locked = i.locked.value; inside = i.inside; depth = i.depth; whole = i.whole.value; free = i.free.value; drawn = i.drawn.value } in let h = c.c.invariant in let z = i.place.table_id in let me = i.place.me in let stream = words_of i.draws in let v = c.c.view_is in
    let w = ap (λ (t : Token). t.whole) v ∙ c.requires.whole in
    let p = c.bits_by-bits.new.place in let told = c.bits_by-bits.ensures.told in
    let go = goes_by z me f i.slot stream h p.me.0 (λ n. []) told.goes in
    subst (λ (t : Token). Stands (tok p.table_id p.me (faced z me f i.slot stream h (as_was z me f i.slot stream h) c.clear.new.self.items)) (stance t)) v (looking z me f i.slot stream h w p.me told.slot told.owes p.table_id c.bits_by-bits.ensures.table c.clear.new.self.items c.clear.ensures go).stands

pub returns-clause-bits : goal.returns-clause-bits
returns-clause-bits g c =
    let i = c.c.inside in let f : Face = record { number = i.number; prepared = i.prepared.items; pending = i.pending; call = i.call.value; fresh = i.fresh.value; locked = i.locked.value; inside = i.inside; depth = i.depth; whole = i.whole.value; free = i.free.value; drawn = i.drawn.value } in let h = c.c.invariant in let z = i.place.table_id in let me = i.place.me in let stream = words_of i.draws in let v = c.c.view_is in
    let w = ap (λ (t : Token). t.whole) v ∙ c.requires.whole in
    let p = c.bits_by-bits.new.place in let told = c.bits_by-bits.ensures.told in
    let go = goes_by z me f i.slot stream h p.me.0 (λ n. []) told.goes in
    let nz : f.depth ≡ 0 → ⊥ = λ e. c.requires.owner (sym (ap (λ (t : Token). t.depth) v) ∙ e) in
    let R : Token → Setting → Type 0 = λ t s. IsBitsWord (now s t).state.lfh (now s t).state.back.area c.args.head c.args.word c.bits_by-bits.result in
    subst (λ (t : Token). (s : Setting) → IsSettingOf p.me.0.opening p.me.0.roll s → R t s) v (λ s q. told.owner s q (owns_it z me f i.slot stream h p.me go nz s q))
