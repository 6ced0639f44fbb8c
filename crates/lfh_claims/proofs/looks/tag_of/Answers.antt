use Rattle.std.proofs.Common.{◌≡◌, eq-eqb, ne_eqb, Some, None, arith, ◌∙◌, [], refl, subst, ap}
use Rattle.random_pick.specs.CallerDraws.{words_of}
use Rattle.claim_rule.specs.Entries.{setting_of}
use Rattle.heap_gate.specs.Token.{Token}
use Rattle.heap_gate.specs.Seated.{Face, tok}
use Rattle.heap_gate.proofs.Tokens.{goes_by, as_was, faced, with_left}
use Rattle.heap_model.specs.History.{configuration_of}
use Rattle.claim_rule.proofs.Advance.{some_setting}
use Rattle.step_parts.specs.Seen.{bucket_of_tag, slot_of_tag, first_of_tag}
use Rattle.look_steps.specs.Looks.{IsTagWord}
use Rattle.heap_gate.proofs.Acting.{looking, looked_runs}
use Rattle.lfh_claims.specs.Blocks.{HasTag, tag_told}
use Rattle.lfh_claims.proofs.Acting.{told_in}
use Rattle.lfh_claims.proofs.Looking.{parts_told}
use Rattle.lfh_claims.proofs.looks.tag_of.Goals as goal

pub invariant_of-c : goal.invariant_of-c
invariant_of-c g c =
    let i = c.c.inside in let f : Face = record { number = i.number; prepared = i.prepared.items; pending = i.pending; call = i.call.value; fresh = i.fresh.value; locked = i.locked.value; inside = i.inside; depth = i.depth; whole = i.whole.value; free = i.free.value; drawn = i.drawn.value } in let h = c.c.invariant in let z = i.place.table_id in let me = i.place.me in let stream = words_of i.draws in let v = c.c.view_is in
    let w = ap (λ (t : Token). t.whole) v ∙ c.requires.whole in
    let p = c.tag_by-word.new.place in let told = c.tag_by-word.ensures.told in
    let word = c.tag_by-word.result in
    let go = goes_by z me f i.slot stream h p.me.0 (λ n. []) told.goes in
    (looking z me f i.slot stream h w p.me told.slot told.owes p.table_id c.tag_by-word.ensures.table c.clear.new.self.items c.clear.ensures go).caller

pub returns-then-word-eq0-clause-tag : goal.returns-then-word-eq0-clause-tag
returns-then-word-eq0-clause-tag g c =
    let i = c.c.inside in let f : Face = record { number = i.number; prepared = i.prepared.items; pending = i.pending; call = i.call.value; fresh = i.fresh.value; locked = i.locked.value; inside = i.inside; depth = i.depth; whole = i.whole.value; free = i.free.value; drawn = i.drawn.value } in let h = c.c.invariant in let z = i.place.table_id in let me = i.place.me in let stream = words_of i.draws in let v = c.c.view_is in
    let w = ap (λ (t : Token). t.whole) v ∙ c.requires.whole in
    let p = c.tag_by-word.new.place in let told = c.tag_by-word.ensures.told in
    let word = c.tag_by-word.result in
    let go = goes_by z me f i.slot stream h p.me.0 (λ n. []) told.goes in
    let told_is : None ≡ tag_told word = let e = eq-eqb word 0 c.if-word-eq0.true in rw e refl in
    let tells = told_in z me f i.slot stream h w p.me (λ m n. IsTagWord m n c.args.page me.0.owes word) told.tells in
    subst (λ (t : Token). HasTag t (tok p.table_id p.me (faced z me f i.slot stream h (as_was z me f i.slot stream h) c.clear.new.self.items)) c.args.page None) v
    (record {
      runs = looked_runs z me f i.slot stream h w p.me told.slot told.owes p.table_id c.tag_by-word.ensures.table c.clear.new.self.items c.clear.ensures go;
      stands = (looking z me f i.slot stream h w p.me told.slot told.owes p.table_id c.tag_by-word.ensures.table c.clear.new.self.items c.clear.ensures go).stands;
      word = word;
      told_is = told_is;
      tells = with_left z me f i.slot stream h p.me c.clear.new.self.items c.clear.ensures (λ s m. IsTagWord m i.number c.args.page me.0.owes word) tells;
    })

pub overflow_cast-result-2 : goal.overflow_cast-result-2
overflow_cast-result-2 g c =
    let i = c.c.inside in let f : Face = record { number = i.number; prepared = i.prepared.items; pending = i.pending; call = i.call.value; fresh = i.fresh.value; locked = i.locked.value; inside = i.inside; depth = i.depth; whole = i.whole.value; free = i.free.value; drawn = i.drawn.value } in let h = c.c.invariant in let z = i.place.table_id in let me = i.place.me in let stream = words_of i.draws in let v = c.c.view_is in
    let p = c.tag_by-word.new.place in let told = c.tag_by-word.ensures.told in
    let word = c.tag_by-word.result in
    let s = setting_of p.me.0.opening p.me.0.roll in
    let parts = parts_told (configuration_of s p.me.0.seen) c.args.page word ((told.tells s (some_setting p.me.0.opening p.me.0.roll)).tagged c.if-word-eq0.false) in
    let small = parts.1 in omega arith

pub invariant_of-c-2 : goal.invariant_of-c-2
invariant_of-c-2 g c =
    let i = c.c.inside in let f : Face = record { number = i.number; prepared = i.prepared.items; pending = i.pending; call = i.call.value; fresh = i.fresh.value; locked = i.locked.value; inside = i.inside; depth = i.depth; whole = i.whole.value; free = i.free.value; drawn = i.drawn.value } in let h = c.c.invariant in let z = i.place.table_id in let me = i.place.me in let stream = words_of i.draws in let v = c.c.view_is in
    let w = ap (λ (t : Token). t.whole) v ∙ c.requires.whole in
    let p = c.tag_by-word.new.place in let told = c.tag_by-word.ensures.told in
    let word = c.tag_by-word.result in
    let go = goes_by z me f i.slot stream h p.me.0 (λ n. []) told.goes in
    (looking z me f i.slot stream h w p.me told.slot told.owes p.table_id c.tag_by-word.ensures.table c.clear.new.self.items c.clear.ensures go).caller

pub returns-clause-tag : goal.returns-clause-tag
returns-clause-tag g c =
    let i = c.c.inside in let f : Face = record { number = i.number; prepared = i.prepared.items; pending = i.pending; call = i.call.value; fresh = i.fresh.value; locked = i.locked.value; inside = i.inside; depth = i.depth; whole = i.whole.value; free = i.free.value; drawn = i.drawn.value } in let h = c.c.invariant in let z = i.place.table_id in let me = i.place.me in let stream = words_of i.draws in let v = c.c.view_is in
    let w = ap (λ (t : Token). t.whole) v ∙ c.requires.whole in
    let p = c.tag_by-word.new.place in let told = c.tag_by-word.ensures.told in
    let word = c.tag_by-word.result in
    let go = goes_by z me f i.slot stream h p.me.0 (λ n. []) told.goes in
    let told_is : (Some (record { bucket = bucket_of_tag word; slot = slot_of_tag word; head = first_of_tag word })) ≡ tag_told word = let e = ne_eqb word 0 c.if-word-eq0.false in rw e refl in
    let tells = told_in z me f i.slot stream h w p.me (λ m n. IsTagWord m n c.args.page me.0.owes word) told.tells in
    subst (λ (t : Token). HasTag t (tok p.table_id p.me (faced z me f i.slot stream h (as_was z me f i.slot stream h) c.clear.new.self.items)) c.args.page (Some (record { bucket = bucket_of_tag word; slot = slot_of_tag word; head = first_of_tag word }))) v
    (record {
      runs = looked_runs z me f i.slot stream h w p.me told.slot told.owes p.table_id c.tag_by-word.ensures.table c.clear.new.self.items c.clear.ensures go;
      stands = (looking z me f i.slot stream h w p.me told.slot told.owes p.table_id c.tag_by-word.ensures.table c.clear.new.self.items c.clear.ensures go).stands;
      word = word;
      told_is = told_is;
      tells = with_left z me f i.slot stream h p.me c.clear.new.self.items c.clear.ensures (λ s m. IsTagWord m i.number c.args.page me.0.owes word) tells;
    })

pub returns-clause-parts : goal.returns-clause-parts
returns-clause-parts g c =
    let i = c.c.inside in let f : Face = record { number = i.number; prepared = i.prepared.items; pending = i.pending; call = i.call.value; fresh = i.fresh.value; locked = i.locked.value; inside = i.inside; depth = i.depth; whole = i.whole.value; free = i.free.value; drawn = i.drawn.value } in let h = c.c.invariant in let z = i.place.table_id in let me = i.place.me in let stream = words_of i.draws in let v = c.c.view_is in
    let p = c.tag_by-word.new.place in let told = c.tag_by-word.ensures.told in
    let word = c.tag_by-word.result in
    let s = setting_of p.me.0.opening p.me.0.roll in
    let parts = parts_told (configuration_of s p.me.0.seen) c.args.page word ((told.tells s (some_setting p.me.0.opening p.me.0.roll)).tagged c.if-word-eq0.false) in
    parts
