use Rattle.std.proofs.Common.{◌≡◌, arith, ◌∙◌, ℕ, [], ◌∷◌, sym, subst, ap}
use Rattle.random_pick.specs.CallerDraws.{words_of}
use Rattle.heap_model.specs.declared.Act.TheVariants as acts
use Rattle.heap_model.specs.State.{Setting}
use Rattle.claim_rule.specs.Entries.{IsSettingOf, entry, setting_of}
use Rattle.claim_rule.specs.Plays.{Goes}
use Rattle.heap_gate.specs.Token.{Token, Always, now}
use Rattle.heap_gate.specs.Seated.{Face, tok}
use Rattle.heap_gate.proofs.Tokens.{goes_by}
use Rattle.heap_model.specs.declared.Opening.{Opening}
use Rattle.heap_model.specs.Buckets.{block_address}
use Rattle.heap_model.specs.Limits.{AreValid}
use Rattle.lfh_buckets.proofs.BlockLemmas.{few_blocks}
use Rattle.claim_rule.specs.Rule.{ready_after}
use Rattle.claim_rule.proofs.Advance.{some_setting}
use Rattle.step_parts.specs.InHand.{IsInHand}
use Rattle.block_steps.specs.Blocks.{MayClear}
use Rattle.lfh_claims.specs.Blocks.{HasCleared}
use Rattle.lfh_claims.proofs.Acting.{may_in}
use Rattle.lfh_claims.proofs.Exchanges.{clearing, cleared_face, has_cleared}
use Rattle.lfh_claims.proofs.blocks.clear.Goals as goal

pub number_at-index-requires-clause-head : goal.number_at-index-requires-clause-head
number_at-index-requires-clause-head g c =
    let v = subst AreValid (c.limits-limits.ensures.limits ∙ ap (λ (o : Opening). o.limits) (sym c.requires.table.1)) c.limits-limits.ensures.valid in
    let s = v.segments in let r = c.requires.there in omega arith

pub number_at-index-requires-clause-block : goal.number_at-index-requires-clause-block
number_at-index-requires-clause-block g c =
    let s = setting_of c.args.c.now.opening c.args.c.now.roll in
    (c.requires.may.0, record { index = (c.requires.may.2 s (some_setting c.args.c.now.opening c.args.c.now.roll)).below; address = sym c.requires.may.1 })

pub bitmap_at-at-requires-clause-word : goal.bitmap_at-at-requires-clause-word
bitmap_at-at-requires-clause-word g c =
    let number = c.requires.may.0 in
    let s = setting_of c.args.c.now.opening c.args.c.now.roll in
    let below = (c.requires.may.2 s (some_setting c.args.c.now.opening c.args.c.now.roll)).below in
    let is : number ≡ c.number_at-index.result = c.number_at-index.ensures number (record { index = below; address = sym c.requires.may.1 }) in
    let few = (few_blocks c.args.tag.bucket c.requires.bucket).1 in let same = c.from-number.ensures in omega arith

pub clear_by-bits-requires-clause-may : goal.clear_by-bits-requires-clause-may
clear_by-bits-requires-clause-may g c =
    let i = c.c.inside in let f : Face = record { number = i.number; prepared = i.prepared.items; pending = i.pending; call = i.call.value; fresh = i.fresh.value; locked = i.locked.value; inside = i.inside; depth = i.depth; whole = i.whole.value; free = i.free.value; drawn = i.drawn.value } in let h = c.c.invariant in let z = i.place.table_id in let me = i.place.me in let stream = words_of i.draws in let v = c.c.view_is in
    let w = ap (λ (t : Token). t.whole) v ∙ c.requires.whole in
    let tag = c.args.tag in let index = c.number_at-index.result in
    let number = c.requires.may.0 in
    let s = setting_of c.args.c.now.opening c.args.c.now.roll in
    let below = (c.requires.may.2 s (some_setting c.args.c.now.opening c.args.c.now.roll)).below in
    let is : number ≡ c.number_at-index.result = c.number_at-index.ensures number (record { index = below; address = sym c.requires.may.1 }) in
    let may = subst (λ (t : Token). Always t (λ s. MayClear s (now s t) t.number tag.head tag.bucket tag.slot index)) (sym v) (subst (λ (k : ℕ). Always c.args.c.now (λ s. MayClear s (now s c.args.c.now) c.args.c.now.number tag.head tag.bucket tag.slot k)) is c.requires.may.2) in
    may_in z me f i.slot stream h w (λ s m n. MayClear s m n tag.head tag.bucket tag.slot index) may

pub invariant_of-c : goal.invariant_of-c
invariant_of-c g c =
    let i = c.c.inside in let f : Face = record { number = i.number; prepared = i.prepared.items; pending = i.pending; call = i.call.value; fresh = i.fresh.value; locked = i.locked.value; inside = i.inside; depth = i.depth; whole = i.whole.value; free = i.free.value; drawn = i.drawn.value } in let h = c.c.invariant in let z = i.place.table_id in let me = i.place.me in let stream = words_of i.draws in let v = c.c.view_is in
    let w = ap (λ (t : Token). t.whole) v ∙ c.requires.whole in
    let tag = c.args.tag in let index = c.number_at-index.result in
    let number = c.requires.may.0 in
    let s = setting_of c.args.c.now.opening c.args.c.now.roll in
    let below = (c.requires.may.2 s (some_setting c.args.c.now.opening c.args.c.now.roll)).below in
    let is : number ≡ c.number_at-index.result = c.number_at-index.ensures number (record { index = below; address = sym c.requires.may.1 }) in
    let may = subst (λ (t : Token). Always t (λ s. MayClear s (now s t) t.number tag.head tag.bucket tag.slot index)) (sym v) (subst (λ (k : ℕ). Always c.args.c.now (λ s. MayClear s (now s c.args.c.now) c.args.c.now.number tag.head tag.bucket tag.slot k)) is c.requires.may.2) in
    let p = c.clear_by-bits.new.place in let told = c.clear_by-bits.ensures.told in
    let addr = c.args.addr in
    let start : block_address tag.bucket tag.head index ≡ addr = sym (c.requires.may.1 ∙ ap (block_address tag.bucket tag.head) is) in
    let held = λ (s : Setting) (q : IsSettingOf me.0.opening me.0.roll s). subst (IsInHand (ready_after s me.0 f.prepared) i.number) start (may s q).hand in
    let go = subst (λ (a : ℕ). Goes i.number me.0 p.me.0 f.prepared (entry i.number (acts.Drop a) ∷ [])) start (goes_by z me f i.slot stream h p.me.0 (λ n. entry n (acts.Drop (block_address tag.bucket tag.head index)) ∷ []) told.adds) in
    (clearing z me f i.slot stream h w p.me told.slot p.table_id c.clear_by-bits.ensures.table c.clear.new.self.items c.clear.ensures told.owes addr go held).caller

pub returns : goal.returns
returns g c =
    let i = c.c.inside in let f : Face = record { number = i.number; prepared = i.prepared.items; pending = i.pending; call = i.call.value; fresh = i.fresh.value; locked = i.locked.value; inside = i.inside; depth = i.depth; whole = i.whole.value; free = i.free.value; drawn = i.drawn.value } in let h = c.c.invariant in let z = i.place.table_id in let me = i.place.me in let stream = words_of i.draws in let v = c.c.view_is in
    let w = ap (λ (t : Token). t.whole) v ∙ c.requires.whole in
    let tag = c.args.tag in let index = c.number_at-index.result in
    let number = c.requires.may.0 in
    let s = setting_of c.args.c.now.opening c.args.c.now.roll in
    let below = (c.requires.may.2 s (some_setting c.args.c.now.opening c.args.c.now.roll)).below in
    let is : number ≡ c.number_at-index.result = c.number_at-index.ensures number (record { index = below; address = sym c.requires.may.1 }) in
    let may = subst (λ (t : Token). Always t (λ s. MayClear s (now s t) t.number tag.head tag.bucket tag.slot index)) (sym v) (subst (λ (k : ℕ). Always c.args.c.now (λ s. MayClear s (now s c.args.c.now) c.args.c.now.number tag.head tag.bucket tag.slot k)) is c.requires.may.2) in
    let p = c.clear_by-bits.new.place in let told = c.clear_by-bits.ensures.told in
    let addr = c.args.addr in
    let start : block_address tag.bucket tag.head index ≡ addr = sym (c.requires.may.1 ∙ ap (block_address tag.bucket tag.head) is) in
    let held = λ (s : Setting) (q : IsSettingOf me.0.opening me.0.roll s). subst (IsInHand (ready_after s me.0 f.prepared) i.number) start (may s q).hand in
    let go = subst (λ (a : ℕ). Goes i.number me.0 p.me.0 f.prepared (entry i.number (acts.Drop a) ∷ [])) start (goes_by z me f i.slot stream h p.me.0 (λ n. entry n (acts.Drop (block_address tag.bucket tag.head index)) ∷ []) told.adds) in
    subst (λ (t : Token). HasCleared t (tok p.table_id p.me (cleared_face z me f i.slot stream h w p.me told.slot p.table_id c.clear_by-bits.ensures.table c.clear.new.self.items c.clear.ensures told.owes addr go held)) addr) v (has_cleared z me f i.slot stream h w p.me told.slot p.table_id c.clear_by-bits.ensures.table c.clear.new.self.items c.clear.ensures told.owes addr go held)
