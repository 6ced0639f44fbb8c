use Rattle.std.proofs.Common.{ℕ, ◌∙◌, [], subst, ap}
use Rattle.random_pick.specs.CallerDraws.{words_of}
use Rattle.heap_gate.specs.Token.{Token, Always, now}
use Rattle.heap_gate.specs.Seated.{Face, tok}
use Rattle.heap_gate.specs.Calls.{Runs, Stands, stance}
use Rattle.heap_gate.proofs.Tokens.{as_was, faced, goes_by, with_left}
use Rattle.claim_rule.specs.Plays.{number_of}
use Rattle.heap_model.specs.History.{configuration_of}
use Rattle.look_steps.specs.Looks.{IsTagWord}
use Rattle.lfh_spans.proofs.Quiet.{quiet, quiet_runs}
use Rattle.lfh_spans.proofs.stores.look_tag.Goals as goal

pub invariant_of-c : goal.invariant_of-c
invariant_of-c g c =
    let i = c.c.inside in let f : Face = record { number = i.number; prepared = i.prepared.items; pending = i.pending; call = i.call.value; fresh = i.fresh.value; locked = i.locked.value; inside = i.inside; depth = i.depth; whole = i.whole.value; free = i.free.value; drawn = i.drawn.value } in let h = c.c.invariant in let z = i.place.table_id in let me = i.place.me in let stream = words_of i.draws in let v = c.c.view_is in
    let p = c.look_tag_by-word.new.place in let told = c.look_tag_by-word.ensures.told in
    let w = ap (λ (t : Token). t.whole) v ∙ c.requires.whole in
    let go = goes_by z me f i.slot stream h p.me.0 (λ n. []) told.goes in
    (quiet z me f i.slot stream h w p.me told.slot (me.0.owes) told.owes p.table_id c.look_tag_by-word.ensures.table c.clear.new.self.items c.clear.ensures go).caller

pub returns-clause-runs : goal.returns-clause-runs
returns-clause-runs g c =
    let i = c.c.inside in let f : Face = record { number = i.number; prepared = i.prepared.items; pending = i.pending; call = i.call.value; fresh = i.fresh.value; locked = i.locked.value; inside = i.inside; depth = i.depth; whole = i.whole.value; free = i.free.value; drawn = i.drawn.value } in let h = c.c.invariant in let z = i.place.table_id in let me = i.place.me in let stream = words_of i.draws in let v = c.c.view_is in
    let p = c.look_tag_by-word.new.place in let told = c.look_tag_by-word.ensures.told in
    let w = ap (λ (t : Token). t.whole) v ∙ c.requires.whole in
    let go = goes_by z me f i.slot stream h p.me.0 (λ n. []) told.goes in
    subst (λ (t : Token). Runs t (tok p.table_id p.me (faced z me f i.slot stream h (as_was z me f i.slot stream h) c.clear.new.self.items)) []) v (quiet_runs z me f i.slot stream h w p.me told.slot (me.0.owes) told.owes p.table_id c.look_tag_by-word.ensures.table c.clear.new.self.items c.clear.ensures go)

pub returns-clause-stands : goal.returns-clause-stands
returns-clause-stands g c =
    let i = c.c.inside in let f : Face = record { number = i.number; prepared = i.prepared.items; pending = i.pending; call = i.call.value; fresh = i.fresh.value; locked = i.locked.value; inside = i.inside; depth = i.depth; whole = i.whole.value; free = i.free.value; drawn = i.drawn.value } in let h = c.c.invariant in let z = i.place.table_id in let me = i.place.me in let stream = words_of i.draws in let v = c.c.view_is in
    let p = c.look_tag_by-word.new.place in let told = c.look_tag_by-word.ensures.told in
    let w = ap (λ (t : Token). t.whole) v ∙ c.requires.whole in
    let go = goes_by z me f i.slot stream h p.me.0 (λ n. []) told.goes in
    subst (λ (t : Token). Stands (tok p.table_id p.me (faced z me f i.slot stream h (as_was z me f i.slot stream h) c.clear.new.self.items)) (stance t)) v (quiet z me f i.slot stream h w p.me told.slot (me.0.owes) told.owes p.table_id c.look_tag_by-word.ensures.table c.clear.new.self.items c.clear.ensures go).stands

pub returns-clause-word : goal.returns-clause-word
returns-clause-word g c =
    let i = c.c.inside in let f : Face = record { number = i.number; prepared = i.prepared.items; pending = i.pending; call = i.call.value; fresh = i.fresh.value; locked = i.locked.value; inside = i.inside; depth = i.depth; whole = i.whole.value; free = i.free.value; drawn = i.drawn.value } in let h = c.c.invariant in let z = i.place.table_id in let me = i.place.me in let stream = words_of i.draws in let v = c.c.view_is in
    let p = c.look_tag_by-word.new.place in let told = c.look_tag_by-word.ensures.told in
    let w = ap (λ (t : Token). t.whole) v ∙ c.requires.whole in
    let go = goes_by z me f i.slot stream h p.me.0 (λ n. []) told.goes in
    subst (λ (t : Token). Always (tok p.table_id p.me (faced z me f i.slot stream h (as_was z me f i.slot stream h) c.clear.new.self.items)) (λ s. IsTagWord (now s (tok p.table_id p.me (faced z me f i.slot stream h (as_was z me f i.slot stream h) c.clear.new.self.items))) t.number c.args.page t.owes c.look_tag_by-word.result)) v
    (with_left z me f i.slot stream h p.me c.clear.new.self.items c.clear.ensures (λ s m. IsTagWord m f.number c.args.page me.0.owes c.look_tag_by-word.result)
    (λ s q. subst (λ (n : ℕ). IsTagWord (configuration_of s p.me.0.seen) n c.args.page me.0.owes c.look_tag_by-word.result) (ap number_of h.role) (told.tells s q)))
