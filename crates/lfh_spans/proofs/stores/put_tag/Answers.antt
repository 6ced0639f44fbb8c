use Rattle.std.proofs.Common.{◌≡◌, ◌∙◌, true, [], sym, subst, ap, arith}
use Rattle.random_pick.specs.CallerDraws.{words_of}
use Rattle.claim_rule.specs.Places.{tag_at}
use Rattle.claim_rule.specs.Shown.{lfh_spans, tag_word}
use Rattle.heap_model.specs.State.{holds}
use Rattle.heap_model.specs.declared.What.TheVariants as whats
use Rattle.heap_gate.specs.Token.{Token, Always, now, is_out}
use Rattle.heap_gate.specs.Seated.{Face, tok}
use Rattle.heap_gate.specs.Calls.{Runs, Stands, stance}
use Rattle.heap_gate.proofs.Tokens.{as_was, faced, goes_by, may_by}
use Rattle.span_steps.specs.Stores.{paid_off}
use Rattle.lfh_spans.specs.Stores.{AreTagged}
use Rattle.lfh_spans.proofs.Quiet.{quiet, quiet_runs, has_back}
use Rattle.lfh_spans.proofs.stores.put_tag.Goals as goal

pub put_tag_by-requires-clause-may : goal.put_tag_by-requires-clause-may
put_tag_by-requires-clause-may g c =
    let i = c.c.inside in let f : Face = record { number = i.number; prepared = i.prepared.items; pending = i.pending; call = i.call.value; fresh = i.fresh.value; locked = i.locked.value; inside = i.inside; depth = i.depth; whole = i.whole.value; free = i.free.value; drawn = i.drawn.value } in let h = c.c.invariant in let z = i.place.table_id in let me = i.place.me in let stream = words_of i.draws in let v = c.c.view_is in
    let page = c.args.page in let tag = c.args.tag in let o = ap (λ (t : Token). is_out whats.Back t.out) v ∙ c.requires.held in
    may_by z me f i.slot stream h (λ m n. (holds m.state.gate n whats.Back ≡ true) × (tag_word (lfh_spans m.state.back.area) page ≡ tag))
    (λ s q. (has_back z me f i.slot stream h o s q, subst (λ (t : Token). Always t (λ s. AreTagged (now s t) page 1 tag)) (sym v) c.requires.tag s q page (omega arith) (omega arith)))

pub invariant_of-c : goal.invariant_of-c
invariant_of-c g c =
    let i = c.c.inside in let f : Face = record { number = i.number; prepared = i.prepared.items; pending = i.pending; call = i.call.value; fresh = i.fresh.value; locked = i.locked.value; inside = i.inside; depth = i.depth; whole = i.whole.value; free = i.free.value; drawn = i.drawn.value } in let h = c.c.invariant in let z = i.place.table_id in let me = i.place.me in let stream = words_of i.draws in let v = c.c.view_is in
    let p = c.put_tag_by.new.place in let told = c.put_tag_by.ensures.told in
    let w = ap (λ (t : Token). t.whole) v ∙ c.requires.whole in
    let go = goes_by z me f i.slot stream h p.me.0 (λ n. []) told.goes in
    (quiet z me f i.slot stream h w p.me told.slot (paid_off (tag_at c.args.page) me.0.owes) told.owes p.table_id c.put_tag_by.ensures.table c.clear.new.self.items c.clear.ensures go).caller

pub returns-clause-runs : goal.returns-clause-runs
returns-clause-runs g c =
    let i = c.c.inside in let f : Face = record { number = i.number; prepared = i.prepared.items; pending = i.pending; call = i.call.value; fresh = i.fresh.value; locked = i.locked.value; inside = i.inside; depth = i.depth; whole = i.whole.value; free = i.free.value; drawn = i.drawn.value } in let h = c.c.invariant in let z = i.place.table_id in let me = i.place.me in let stream = words_of i.draws in let v = c.c.view_is in
    let p = c.put_tag_by.new.place in let told = c.put_tag_by.ensures.told in
    let w = ap (λ (t : Token). t.whole) v ∙ c.requires.whole in
    let go = goes_by z me f i.slot stream h p.me.0 (λ n. []) told.goes in
    subst (λ (t : Token). Runs t (tok p.table_id p.me (faced z me f i.slot stream h (as_was z me f i.slot stream h) c.clear.new.self.items)) []) v (quiet_runs z me f i.slot stream h w p.me told.slot (paid_off (tag_at c.args.page) me.0.owes) told.owes p.table_id c.put_tag_by.ensures.table c.clear.new.self.items c.clear.ensures go)

pub returns-clause-stands : goal.returns-clause-stands
returns-clause-stands g c =
    let i = c.c.inside in let f : Face = record { number = i.number; prepared = i.prepared.items; pending = i.pending; call = i.call.value; fresh = i.fresh.value; locked = i.locked.value; inside = i.inside; depth = i.depth; whole = i.whole.value; free = i.free.value; drawn = i.drawn.value } in let h = c.c.invariant in let z = i.place.table_id in let me = i.place.me in let stream = words_of i.draws in let v = c.c.view_is in
    let p = c.put_tag_by.new.place in let told = c.put_tag_by.ensures.told in
    let w = ap (λ (t : Token). t.whole) v ∙ c.requires.whole in
    let go = goes_by z me f i.slot stream h p.me.0 (λ n. []) told.goes in
    subst (λ (t : Token). Stands (tok p.table_id p.me (faced z me f i.slot stream h (as_was z me f i.slot stream h) c.clear.new.self.items)) (record (stance t) { owes = paid_off (tag_at c.args.page) t.owes })) v (quiet z me f i.slot stream h w p.me told.slot (paid_off (tag_at c.args.page) me.0.owes) told.owes p.table_id c.put_tag_by.ensures.table c.clear.new.self.items c.clear.ensures go).stands
