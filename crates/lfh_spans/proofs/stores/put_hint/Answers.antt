use Rattle.std.proofs.Common.{◌≡◌, ◌∙◌, true, [], sym, subst, ap}
use Rattle.random_pick.specs.CallerDraws.{words_of}
use Rattle.claim_rule.specs.Places.{hint_at}
use Rattle.claim_rule.specs.Shown.{hint_word}
use Rattle.heap_model.specs.State.{holds}
use Rattle.heap_model.specs.declared.What.TheVariants as whats
use Rattle.heap_gate.specs.Token.{Token, Always, now, is_out}
use Rattle.heap_gate.specs.Seated.{Face, tok}
use Rattle.heap_gate.specs.Calls.{Runs, Stands, stance}
use Rattle.heap_gate.proofs.Tokens.{as_was, faced, goes_by, may_by}
use Rattle.span_steps.specs.Stores.{paid_off}
use Rattle.lfh_spans.proofs.Quiet.{quiet, quiet_runs, has_back}
use Rattle.lfh_spans.proofs.stores.put_hint.Goals as goal

pub put_hint_by-requires-clause-may : goal.put_hint_by-requires-clause-may
put_hint_by-requires-clause-may g c =
    let i = c.c.inside in let f : Face = record { number = i.number; prepared = i.prepared.items; pending = i.pending; call = i.call.value; fresh = i.fresh.value; locked = i.locked.value; inside = i.inside; depth = i.depth; whole = i.whole.value; free = i.free.value; drawn = i.drawn.value } in let h = c.c.invariant in let z = i.place.table_id in let me = i.place.me in let stream = words_of i.draws in let v = c.c.view_is in
    let b = c.args.bucket in let t = c.args.slot in let head = c.args.head in let value : head ≡ c.from-value.result = sym c.from-value.ensures in let o = ap (λ (t : Token). is_out whats.Back t.out) v ∙ c.requires.held in
    may_by z me f i.slot stream h (λ m n. (holds m.state.gate n whats.Back ≡ true) × (hint_word m.state.back.area m.now.span_history b t ≡ c.from-value.result))
    (λ s q. (has_back z me f i.slot stream h o s q, subst (λ (y : Token). Always y (λ s. hint_word (now s y).state.back.area (now s y).now.span_history b t ≡ head)) (sym v) c.requires.head s q ∙ value))

pub invariant_of-c : goal.invariant_of-c
invariant_of-c g c =
    let i = c.c.inside in let f : Face = record { number = i.number; prepared = i.prepared.items; pending = i.pending; call = i.call.value; fresh = i.fresh.value; locked = i.locked.value; inside = i.inside; depth = i.depth; whole = i.whole.value; free = i.free.value; drawn = i.drawn.value } in let h = c.c.invariant in let z = i.place.table_id in let me = i.place.me in let stream = words_of i.draws in let v = c.c.view_is in
    let p = c.put_hint_by.new.place in let told = c.put_hint_by.ensures.told in
    let w = ap (λ (t : Token). t.whole) v ∙ c.requires.whole in
    let go = goes_by z me f i.slot stream h p.me.0 (λ n. []) told.goes in
    (quiet z me f i.slot stream h w p.me told.slot (paid_off (hint_at c.args.bucket c.args.slot) me.0.owes) told.owes p.table_id c.put_hint_by.ensures.table c.clear.new.self.items c.clear.ensures go).caller

pub returns-clause-runs : goal.returns-clause-runs
returns-clause-runs g c =
    let i = c.c.inside in let f : Face = record { number = i.number; prepared = i.prepared.items; pending = i.pending; call = i.call.value; fresh = i.fresh.value; locked = i.locked.value; inside = i.inside; depth = i.depth; whole = i.whole.value; free = i.free.value; drawn = i.drawn.value } in let h = c.c.invariant in let z = i.place.table_id in let me = i.place.me in let stream = words_of i.draws in let v = c.c.view_is in
    let p = c.put_hint_by.new.place in let told = c.put_hint_by.ensures.told in
    let w = ap (λ (t : Token). t.whole) v ∙ c.requires.whole in
    let go = goes_by z me f i.slot stream h p.me.0 (λ n. []) told.goes in
    subst (λ (t : Token). Runs t (tok p.table_id p.me (faced z me f i.slot stream h (as_was z me f i.slot stream h) c.clear.new.self.items)) []) v (quiet_runs z me f i.slot stream h w p.me told.slot (paid_off (hint_at c.args.bucket c.args.slot) me.0.owes) told.owes p.table_id c.put_hint_by.ensures.table c.clear.new.self.items c.clear.ensures go)

pub returns-clause-stands : goal.returns-clause-stands
returns-clause-stands g c =
    let i = c.c.inside in let f : Face = record { number = i.number; prepared = i.prepared.items; pending = i.pending; call = i.call.value; fresh = i.fresh.value; locked = i.locked.value; inside = i.inside; depth = i.depth; whole = i.whole.value; free = i.free.value; drawn = i.drawn.value } in let h = c.c.invariant in let z = i.place.table_id in let me = i.place.me in let stream = words_of i.draws in let v = c.c.view_is in
    let p = c.put_hint_by.new.place in let told = c.put_hint_by.ensures.told in
    let w = ap (λ (t : Token). t.whole) v ∙ c.requires.whole in
    let go = goes_by z me f i.slot stream h p.me.0 (λ n. []) told.goes in
    subst (λ (t : Token). Stands (tok p.table_id p.me (faced z me f i.slot stream h (as_was z me f i.slot stream h) c.clear.new.self.items)) (record (stance t) { owes = paid_off (hint_at c.args.bucket c.args.slot) t.owes })) v (quiet z me f i.slot stream h w p.me told.slot (paid_off (hint_at c.args.bucket c.args.slot) me.0.owes) told.owes p.table_id c.put_hint_by.ensures.table c.clear.new.self.items c.clear.ensures go).stands
