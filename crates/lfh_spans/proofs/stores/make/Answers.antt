use Rattle.std.proofs.Common.{ℕ, Bool, false, ◌/◌, ◌++◌, ◌∙◌, [], ◌∷◌, sym, subst, ap}
use Rattle.random_pick.specs.CallerDraws.{words_of}
use Rattle.claim_rule.specs.Rule.{ready_after}
use Rattle.heap_model.specs.State.{Setting}
use Rattle.heap_gate.specs.Token.{Token, IsCaller, Always, now}
use Rattle.heap_gate.specs.Seated.{Face, tok}
use Rattle.heap_gate.proofs.Tokens.{faced, goes_by}
use Rattle.claim_rule.specs.Plays.{number_of}
use Rattle.claim_rule.specs.Entries.{entry, IsSettingOf}
use Rattle.heap_model.specs.declared.Act.TheVariants as acts
use Rattle.heap_model.specs.declared.Layer.TheVariants as layers
use Rattle.heap_model.specs.History.{configuration_of}
use Rattle.heap_model.specs.Buckets.{block_size, block_address}
use Rattle.span_steps.specs.Installs.{MayInstall, IsReserving, making}
use Rattle.step_parts.specs.InHand.{HasBlock}
use Rattle.lfh_spans.specs.Stores.{reserving_in, HasMade}
use Rattle.lfh_spans.proofs.Making.{reserves, behind_make, is_made, has_made}
use Rattle.lfh_spans.proofs.stores.make.Goals as goal

pub install_by-requires-clause-reserve : goal.install_by-requires-clause-reserve
install_by-requires-clause-reserve g c =
    let i = c.c.inside in let f : Face = record { number = i.number; prepared = i.prepared.items; pending = i.pending; call = i.call.value; fresh = i.fresh.value; locked = i.locked.value; inside = i.inside; depth = i.depth; whole = i.whole.value; free = i.free.value; drawn = i.drawn.value } in let h = c.c.invariant in let z = i.place.table_id in let me = i.place.me in let stream = words_of i.draws in let v = c.c.view_is in
    subst (λ (x : ℕ). IsReserving x (reserving_in i.number c.args.reserved c.args.at.head)) (sym (ap number_of h.role)) (reserves i.number c.args.reserved c.args.at.head)

pub install_by-requires-clause-may : goal.install_by-requires-clause-may
install_by-requires-clause-may g c =
    let i = c.c.inside in let f : Face = record { number = i.number; prepared = i.prepared.items; pending = i.pending; call = i.call.value; fresh = i.fresh.value; locked = i.locked.value; inside = i.inside; depth = i.depth; whole = i.whole.value; free = i.free.value; drawn = i.drawn.value } in let h = c.c.invariant in let z = i.place.table_id in let me = i.place.me in let stream = words_of i.draws in let v = c.c.view_is in
    let at = c.args.at in let index = c.args.index in let hint = c.args.hint in let reserved = c.args.reserved in
    λ s q. subst (λ (x : ℕ). MayInstall s (ready_after s me.0 f.prepared) x (reserving_in f.number reserved at.head) at.head at.pages at.bucket at.slot index hint me.0.owes) (sym (ap number_of h.role))
    (subst (λ (t : Token). Always t (λ s. MayInstall s (now s t) t.number (reserving_in t.number reserved at.head) at.head at.pages at.bucket at.slot index hint t.owes)) (sym v) c.requires.may s q)

pub invariant_of-c : goal.invariant_of-c
invariant_of-c g c =
    let i = c.c.inside in let f : Face = record { number = i.number; prepared = i.prepared.items; pending = i.pending; call = i.call.value; fresh = i.fresh.value; locked = i.locked.value; inside = i.inside; depth = i.depth; whole = i.whole.value; free = i.free.value; drawn = i.drawn.value } in let h = c.c.invariant in let z = i.place.table_id in let me = i.place.me in let stream = words_of i.draws in let v = c.c.view_is in
    let at = c.args.at in let index = c.args.index in let hint = c.args.hint in let reserved = c.args.reserved in
    let p = c.install_by.new.place in let told = c.install_by.ensures.told in
    let w = ap (λ (t : Token). t.whole) v ∙ c.requires.whole in
    let inside = ap (λ (t : Token). t.inside) v ∙ c.requires.inside in
    let go = goes_by z me f i.slot stream h p.me.0 (λ n. making n (reserving_in f.number reserved at.head) at.head at.pages at.bucket at.slot ++ entry n (acts.Place (block_address at.bucket at.head index) (block_size at.bucket / 16) layers.Lfh) ∷ []) told.goes in
    let tells = λ (s : Setting) (q : IsSettingOf p.me.0.opening p.me.0.roll s). subst (λ (n : ℕ). HasBlock (configuration_of s p.me.0.seen) n at.bucket (block_address at.bucket at.head index)) (ap number_of h.role) (told.tells s q) in
    subst (λ (b : Bool). IsCaller p.me (tok p.table_id p.me (record { number = i.number; prepared = c.clear.new.self.items; pending = false; call = i.call.value; fresh = i.fresh.value; locked = i.locked.value; inside = i.inside; depth = i.depth; whole = i.whole.value; free = b; drawn = i.drawn.value })) i.slot stream) (sym c.of-c-inside.ensures)
    ((is_made z me f i.slot stream h w p.me told.slot p.table_id c.install_by.ensures.table c.clear.new.self.items c.clear.ensures inside reserved at.head at.pages at.bucket at.slot index hint told.owes go tells).caller)

pub returns : goal.returns
returns g c =
    let i = c.c.inside in let f : Face = record { number = i.number; prepared = i.prepared.items; pending = i.pending; call = i.call.value; fresh = i.fresh.value; locked = i.locked.value; inside = i.inside; depth = i.depth; whole = i.whole.value; free = i.free.value; drawn = i.drawn.value } in let h = c.c.invariant in let z = i.place.table_id in let me = i.place.me in let stream = words_of i.draws in let v = c.c.view_is in
    let at = c.args.at in let index = c.args.index in let hint = c.args.hint in let reserved = c.args.reserved in
    let p = c.install_by.new.place in let told = c.install_by.ensures.told in
    let w = ap (λ (t : Token). t.whole) v ∙ c.requires.whole in
    let inside = ap (λ (t : Token). t.inside) v ∙ c.requires.inside in
    let go = goes_by z me f i.slot stream h p.me.0 (λ n. making n (reserving_in f.number reserved at.head) at.head at.pages at.bucket at.slot ++ entry n (acts.Place (block_address at.bucket at.head index) (block_size at.bucket / 16) layers.Lfh) ∷ []) told.goes in
    let tells = λ (s : Setting) (q : IsSettingOf p.me.0.opening p.me.0.roll s). subst (λ (n : ℕ). HasBlock (configuration_of s p.me.0.seen) n at.bucket (block_address at.bucket at.head index)) (ap number_of h.role) (told.tells s q) in
    subst (λ (b : Bool). HasMade c.args.c.now (tok p.table_id p.me (record { number = i.number; prepared = c.clear.new.self.items; pending = false; call = i.call.value; fresh = i.fresh.value; locked = i.locked.value; inside = i.inside; depth = i.depth; whole = i.whole.value; free = b; drawn = i.drawn.value })) (reserving_in c.args.c.now.number reserved at.head) at.head at.pages at.bucket at.slot index hint) (sym c.of-c-inside.ensures)
    (subst (λ (t : Token). HasMade t (tok p.table_id p.me (faced z me f i.slot stream h (behind_make z me f i.slot stream h w p.me told.slot p.table_id c.install_by.ensures.table c.clear.new.self.items c.clear.ensures inside reserved at.head at.pages at.bucket at.slot index hint told.owes go tells) c.clear.new.self.items)) (reserving_in t.number reserved at.head) at.head at.pages at.bucket at.slot index hint) v (has_made z me f i.slot stream h w p.me told.slot p.table_id c.install_by.ensures.table c.clear.new.self.items c.clear.ensures inside reserved at.head at.pages at.bucket at.slot index hint told.owes go tells))
