use Rattle.std.proofs.Common.{◌∙◌, [], ◌∷◌, sym, subst, ap}
use Rattle.random_pick.specs.CallerDraws.{words_of}
use Rattle.heap_model.specs.declared.Act.TheVariants as acts
use Rattle.heap_model.specs.State.{Setting}
use Rattle.claim_rule.specs.Entries.{IsSettingOf, entry}
use Rattle.heap_gate.specs.Token.{Token, Always, now}
use Rattle.heap_gate.specs.Seated.{Face, tok}
use Rattle.heap_gate.proofs.Tokens.{goes_by}
use Rattle.block_steps.specs.Blocks.{MayPublish}
use Rattle.lfh_claims.specs.Blocks.{HasPublished}
use Rattle.lfh_claims.proofs.Acting.{may_in}
use Rattle.lfh_claims.proofs.Exchanges.{publishing, published_face, has_published}
use Rattle.lfh_claims.proofs.blocks.publish.Goals as goal

pub publish_by-requires-clause-may : goal.publish_by-requires-clause-may
publish_by-requires-clause-may g c =
    let i = c.c.inside in let f : Face = record { number = i.number; prepared = i.prepared.items; pending = i.pending; call = i.call.value; fresh = i.fresh.value; locked = i.locked.value; inside = i.inside; depth = i.depth; whole = i.whole.value; free = i.free.value; drawn = i.drawn.value } in let h = c.c.invariant in let z = i.place.table_id in let me = i.place.me in let stream = words_of i.draws in let v = c.c.view_is in
    let w = ap (λ (t : Token). t.whole) v ∙ c.requires.whole in
    let addr = c.args.addr in let size = c.args.size in
    let may = subst (λ (t : Token). Always t (λ s. MayPublish s (now s t) t.number addr size)) (sym v) c.requires.may in
    may_in z me f i.slot stream h w (λ s m n. MayPublish s m n addr size) may

pub invariant_of-c : goal.invariant_of-c
invariant_of-c g c =
    let i = c.c.inside in let f : Face = record { number = i.number; prepared = i.prepared.items; pending = i.pending; call = i.call.value; fresh = i.fresh.value; locked = i.locked.value; inside = i.inside; depth = i.depth; whole = i.whole.value; free = i.free.value; drawn = i.drawn.value } in let h = c.c.invariant in let z = i.place.table_id in let me = i.place.me in let stream = words_of i.draws in let v = c.c.view_is in
    let w = ap (λ (t : Token). t.whole) v ∙ c.requires.whole in
    let p = c.publish_by.new.place in let told = c.publish_by.ensures.told in
    let addr = c.args.addr in let size = c.args.size in
    let may = subst (λ (t : Token). Always t (λ s. MayPublish s (now s t) t.number addr size)) (sym v) c.requires.may in
    let held = λ (s : Setting) (q : IsSettingOf me.0.opening me.0.roll s). (may s q).hand in
    let go = goes_by z me f i.slot stream h p.me.0 (λ n. entry n (acts.Give addr size) ∷ []) told.adds in
    (publishing z me f i.slot stream h w p.me told.slot p.table_id c.publish_by.ensures.table c.clear.new.self.items c.clear.ensures told.owes addr size go held).caller

pub returns : goal.returns
returns g c =
    let i = c.c.inside in let f : Face = record { number = i.number; prepared = i.prepared.items; pending = i.pending; call = i.call.value; fresh = i.fresh.value; locked = i.locked.value; inside = i.inside; depth = i.depth; whole = i.whole.value; free = i.free.value; drawn = i.drawn.value } in let h = c.c.invariant in let z = i.place.table_id in let me = i.place.me in let stream = words_of i.draws in let v = c.c.view_is in
    let w = ap (λ (t : Token). t.whole) v ∙ c.requires.whole in
    let p = c.publish_by.new.place in let told = c.publish_by.ensures.told in
    let addr = c.args.addr in let size = c.args.size in
    let may = subst (λ (t : Token). Always t (λ s. MayPublish s (now s t) t.number addr size)) (sym v) c.requires.may in
    let held = λ (s : Setting) (q : IsSettingOf me.0.opening me.0.roll s). (may s q).hand in
    let go = goes_by z me f i.slot stream h p.me.0 (λ n. entry n (acts.Give addr size) ∷ []) told.adds in
    subst (λ (t : Token). HasPublished t (tok p.table_id p.me (published_face z me f i.slot stream h w p.me told.slot p.table_id c.publish_by.ensures.table c.clear.new.self.items c.clear.ensures told.owes addr size go held)) addr size) v (has_published z me f i.slot stream h w p.me told.slot p.table_id c.publish_by.ensures.table c.clear.new.self.items c.clear.ensures told.owes addr size go held)
