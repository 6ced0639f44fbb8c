use Rattle.std.proofs.Common.{◌≡◌, ◌∙◌, [], ◌∷◌, true, sym, subst, ap}
use Rattle.random_pick.specs.CallerDraws.{words_of}
use Rattle.claim_rule.specs.Entries.{entry}
use Rattle.claim_rule.specs.Rule.{ready_after}
use Rattle.heap_model.specs.declared.Act.TheVariants as acts
use Rattle.heap_gate.specs.Token.{Token, outs}
use Rattle.heap_gate.specs.Seated.{Face, tok}
use Rattle.std.specs.Prelude.{not, ◌||◌, ◌==◌}
use Rattle.heap_model.specs.Legal.{leaves_whole}
use Rattle.claim_rule.specs.Home.{slot_of, Tells}
use Rattle.lock_steps.specs.Locks.{MayGiveBack}
use Rattle.heap_gate.specs.Token.{AreOut, is_out, Always, now}
use Rattle.heap_gate.specs.Calls.{HasGiven}
use Rattle.heap_gate.proofs.Standing.{give_of}
use Rattle.heap_gate.proofs.Tokens.{faced, goes_by, may_by}
use Rattle.heap_gate.proofs.Taking.{out_head, out_top, behind_give, giving, has_given}
use Rattle.heap_gate.proofs.locks.give_lock.Goals as goal

pub give_by-requires-clause-out : goal.give_by-requires-clause-out
give_by-requires-clause-out g c =
    let i = c.c.inside in let f : Face = record { number = i.number; prepared = i.prepared.items; pending = i.pending; call = i.call.value; fresh = i.fresh.value; locked = i.locked.value; inside = i.inside; depth = i.depth; whole = i.whole.value; free = i.free.value; drawn = i.drawn.value } in let h = c.c.invariant in let z = i.place.table_id in let me = i.place.me in let stream = words_of i.draws in let v = c.c.view_is in
    let x = out_head me.1 (slot_of c.args.what) c.requires.lock.0 h.slots (ap (λ (t : Token). t.out) v ∙ c.requires.lock.1) in (x.0, x.1)

pub give_by-requires-clause-may : goal.give_by-requires-clause-may
give_by-requires-clause-may g c =
    let i = c.c.inside in let f : Face = record { number = i.number; prepared = i.prepared.items; pending = i.pending; call = i.call.value; fresh = i.fresh.value; locked = i.locked.value; inside = i.inside; depth = i.depth; whole = i.whole.value; free = i.free.value; drawn = i.drawn.value } in let h = c.c.invariant in let z = i.place.table_id in let me = i.place.me in let stream = words_of i.draws in let v = c.c.view_is in
    let what = c.args.what in
    let inside = (λ j. (ap (λ (t : Token). t.inside || not (t.depth == 0)) v) j) ∙ c.requires.inside in
    let tells = subst (λ (t : Token). Always t (λ s. (leaves_whole (now s t).state what ≡ true) × Tells what t.opening (now s t).state (g.T.Stands.stands c.args.state))) (sym v) c.requires.tells in
    let top = ap (is_out what) (ap (λ (t : Token). t.out) v ∙ c.requires.lock.1) ∙ out_top what c.requires.lock.0 c.requires.slot in
    may_by z me f i.slot stream h (λ m n. MayGiveBack m n what × Tells what me.0.opening m.state (g.T.Stands.stands c.args.state))
    (λ s q. let t = tells s q in (give_of (ready_after s me.0 f.prepared) i.number i.call.value i.depth (outs me.1) i.fresh.value i.inside i.whole.value i.free.value what inside top t.0 (h.at s q), t.1))

pub invariant_of-c : goal.invariant_of-c
invariant_of-c g c =
    let i = c.c.inside in let f : Face = record { number = i.number; prepared = i.prepared.items; pending = i.pending; call = i.call.value; fresh = i.fresh.value; locked = i.locked.value; inside = i.inside; depth = i.depth; whole = i.whole.value; free = i.free.value; drawn = i.drawn.value } in let h = c.c.invariant in let z = i.place.table_id in let me = i.place.me in let stream = words_of i.draws in let v = c.c.view_is in
    let p = c.give_by.new.place in let what = c.args.what in let told = c.give_by.ensures.told in
    let w = ap (λ (t : Token). t.whole) v ∙ c.requires.whole in
    let out = ap (λ (t : Token). t.out) v ∙ c.requires.lock.1 in
    let head = out_head me.1 (slot_of what) c.requires.lock.0 h.slots out in
    let slots = c.give_by.ensures.slot head.0 head.1 in
    let go = goes_by z me f i.slot stream h p.me.0 (λ n. entry n (acts.GiveLock what) ∷ []) told.0 in
    (giving z me f i.slot stream h w what c.requires.slot p.me p.table_id c.give_by.ensures.table c.clear.new.self.items c.clear.ensures go c.requires.lock.0 out c.requires.lock.2 (subst AreOut (sym slots) head.3) (ap outs slots ∙ head.2) told.1).caller

pub returns : goal.returns
returns g c =
    let i = c.c.inside in let f : Face = record { number = i.number; prepared = i.prepared.items; pending = i.pending; call = i.call.value; fresh = i.fresh.value; locked = i.locked.value; inside = i.inside; depth = i.depth; whole = i.whole.value; free = i.free.value; drawn = i.drawn.value } in let h = c.c.invariant in let z = i.place.table_id in let me = i.place.me in let stream = words_of i.draws in let v = c.c.view_is in
    let p = c.give_by.new.place in let what = c.args.what in let told = c.give_by.ensures.told in
    let w = ap (λ (t : Token). t.whole) v ∙ c.requires.whole in
    let out = ap (λ (t : Token). t.out) v ∙ c.requires.lock.1 in
    let head = out_head me.1 (slot_of what) c.requires.lock.0 h.slots out in
    let slots = c.give_by.ensures.slot head.0 head.1 in
    let go = goes_by z me f i.slot stream h p.me.0 (λ n. entry n (acts.GiveLock what) ∷ []) told.0 in
    subst (λ (t : Token). HasGiven t (tok p.table_id p.me (faced z me f i.slot stream h (behind_give z me f i.slot stream h w what c.requires.slot p.me p.table_id c.give_by.ensures.table c.clear.new.self.items c.clear.ensures go c.requires.lock.0 out c.requires.lock.2 (subst AreOut (sym slots) head.3) (ap outs slots ∙ head.2) told.1) c.clear.new.self.items)) what (entry t.number (acts.GiveLock what) ∷ [])) v
    (has_given z me f i.slot stream h w what c.requires.slot p.me p.table_id c.give_by.ensures.table c.clear.new.self.items c.clear.ensures go c.requires.lock.0 out c.requires.lock.2 (subst AreOut (sym slots) head.3) (ap outs slots ∙ head.2) told.1)
