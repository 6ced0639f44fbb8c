use Rattle.std.proofs.Common.{◌≡◌, ◌∙◌, ℕ, Bool, [], ◌∷◌, true, false, cond, sym, subst, ap}
use Rattle.random_pick.specs.CallerDraws.{words_of}
use Rattle.claim_rule.specs.Entries.{entry}
use Rattle.claim_rule.specs.Plays.{Goes, number_of}
use Rattle.claim_rule.specs.Rule.{ready_after}
use Rattle.heap_model.specs.declared.Act.{Act}
use Rattle.heap_model.specs.declared.Act.TheVariants as acts
use Rattle.heap_model.specs.declared.What.TheVariants as whats
use Rattle.heap_gate.specs.Token.{Token, IsAt, IsCaller, outs}
use Rattle.heap_gate.specs.Seated.{Face, tok}
use Rattle.heap_model.specs.History.{configuration_of}
use Rattle.claim_rule.specs.Plays.{gate_act}
use Rattle.claim_rule.specs.Steps.{MayGoOut, MayPass}
use Rattle.heap_gate.specs.Calls.{HasEntered, HasTurnedBack, stance, may_enter_by}
use Rattle.heap_gate.proofs.Standing.{pass_of}
use Rattle.heap_gate.proofs.Tokens.{faced, goes_by, may_by, ready_by}
use Rattle.heap_gate.proofs.Turning.{may_turn}
use Rattle.heap_gate.proofs.Acting.{behind_enter, entering, has_entered, behind_turn, turning_back, has_turned_back}
use Rattle.heap_gate.proofs.caller.pass.Goals as goal

acts_by : (n word : ℕ) (b : Bool) → may_enter_by word n ≡ b → gate_act n word ≡ cond b acts.Enter (acts.Blocked whats.Gate word)
acts_by n word b e = ap (λ (b : Bool). cond b acts.Enter (acts.Blocked whats.Gate word)) e

pub enter_as-word-requires-clause-ready : goal.enter_as-word-requires-clause-ready
enter_as-word-requires-clause-ready g c =
    let i = c.c.inside in let f : Face = record { number = i.number; prepared = i.prepared.items; pending = i.pending; call = i.call.value; fresh = i.fresh.value; locked = i.locked.value; inside = i.inside; depth = i.depth; whole = i.whole.value; free = i.free.value; drawn = i.drawn.value } in let h = c.c.invariant in let z = i.place.table_id in let me = i.place.me in let stream = words_of i.draws in let v = c.c.view_is in
    ready_by z me f i.slot stream h (h.even.whole (ap (λ (t : Token). t.inside) v ∙ c.requires.outside) (ap (λ (t : Token). t.out) v ∙ c.requires.out))

pub enter_as-word-requires-clause-may : goal.enter_as-word-requires-clause-may
enter_as-word-requires-clause-may g c =
    let i = c.c.inside in let f : Face = record { number = i.number; prepared = i.prepared.items; pending = i.pending; call = i.call.value; fresh = i.fresh.value; locked = i.locked.value; inside = i.inside; depth = i.depth; whole = i.whole.value; free = i.free.value; drawn = i.drawn.value } in let h = c.c.invariant in let z = i.place.table_id in let me = i.place.me in let stream = words_of i.draws in let v = c.c.view_is in
    let call = ap (λ (t : Token). t.call) v ∙ c.requires.call.1 in
    let fresh = ap (λ (t : Token). t.fresh) v ∙ c.requires.fresh in
    let outside = ap (λ (t : Token). t.inside) v ∙ c.requires.outside in
    may_by z me f i.slot stream h MayPass (λ s q. pass_of (ready_after s me.0 f.prepared) i.number i.call.value i.depth (outs me.1) i.whole.value i.free.value c.requires.call.0 call c.requires.call.2
    (subst (λ (b : Bool). IsAt (ready_after s me.0 f.prepared) i.number i.call.value true b i.depth (outs me.1) i.whole.value i.free.value) outside
    (subst (λ (b : Bool). IsAt (ready_after s me.0 f.prepared) i.number i.call.value b i.inside i.depth (outs me.1) i.whole.value i.free.value) fresh (h.at s q))))

pub invariant_of-c : goal.invariant_of-c
invariant_of-c g c =
    let i = c.c.inside in let f : Face = record { number = i.number; prepared = i.prepared.items; pending = i.pending; call = i.call.value; fresh = i.fresh.value; locked = i.locked.value; inside = i.inside; depth = i.depth; whole = i.whole.value; free = i.free.value; drawn = i.drawn.value } in let h = c.c.invariant in let z = i.place.table_id in let me = i.place.me in let stream = words_of i.draws in let v = c.c.view_is in
    let p = c.enter_as-word.new.place in let told = c.enter_as-word.ensures.told in let word = c.enter_as-word.result in
    let outside = ap (λ (t : Token). t.inside) v ∙ c.requires.outside in
    let call = ap (λ (t : Token). t.call) v ∙ c.requires.call.1 in
    let w = h.even.whole outside (ap (λ (t : Token). t.out) v ∙ c.requires.out) in
    let yes = acts_by i.number word true (sym c.enters.ensures ∙ c.if-enters.true) in
    let go = subst (λ (a : Act). Goes i.number me.0 p.me.0 f.prepared (entry i.number a ∷ [])) yes (goes_by z me f i.slot stream h p.me.0 (λ n. entry n (gate_act n word) ∷ []) told.0) in
    subst (λ (b : Bool). IsCaller p.me (tok p.table_id p.me (record { number = i.number; prepared = c.clear.new.self.items; pending = false; call = i.call.value; fresh = b; locked = i.locked.value; inside = true; depth = i.depth; whole = i.whole.value; free = i.free.value; drawn = i.drawn.value })) i.slot stream) (sym c.of-c-inside.ensures)
    ((entering z me f i.slot stream h w p.me told.1 told.2 p.table_id c.enter_as-word.ensures.table c.clear.new.self.items c.clear.ensures go outside c.requires.call.0 call).caller)

pub returns-then-enters-clause-ok : goal.returns-then-enters-clause-ok
returns-then-enters-clause-ok g c =
    let i = c.c.inside in let f : Face = record { number = i.number; prepared = i.prepared.items; pending = i.pending; call = i.call.value; fresh = i.fresh.value; locked = i.locked.value; inside = i.inside; depth = i.depth; whole = i.whole.value; free = i.free.value; drawn = i.drawn.value } in let h = c.c.invariant in let z = i.place.table_id in let me = i.place.me in let stream = words_of i.draws in let v = c.c.view_is in
    let p = c.enter_as-word.new.place in let told = c.enter_as-word.ensures.told in let word = c.enter_as-word.result in
    let outside = ap (λ (t : Token). t.inside) v ∙ c.requires.outside in
    let call = ap (λ (t : Token). t.call) v ∙ c.requires.call.1 in
    let w = h.even.whole outside (ap (λ (t : Token). t.out) v ∙ c.requires.out) in
    let yes = acts_by i.number word true (sym c.enters.ensures ∙ c.if-enters.true) in
    let go = subst (λ (a : Act). Goes i.number me.0 p.me.0 f.prepared (entry i.number a ∷ [])) yes (goes_by z me f i.slot stream h p.me.0 (λ n. entry n (gate_act n word) ∷ []) told.0) in
    subst (λ (b : Bool). HasEntered c.args.c.now (tok p.table_id p.me (record { number = i.number; prepared = c.clear.new.self.items; pending = false; call = i.call.value; fresh = b; locked = i.locked.value; inside = true; depth = i.depth; whole = i.whole.value; free = i.free.value; drawn = i.drawn.value })) (stance c.args.c.now) (entry c.args.c.now.number acts.Enter ∷ [])) (sym c.of-c-inside.ensures)
    (subst (λ (t : Token). HasEntered t (tok p.table_id p.me (faced z me f i.slot stream h (behind_enter z me f i.slot stream h w p.me told.1 told.2 p.table_id c.enter_as-word.ensures.table c.clear.new.self.items c.clear.ensures go outside c.requires.call.0 call) c.clear.new.self.items)) (stance t) (entry t.number acts.Enter ∷ [])) v
    (has_entered z me f i.slot stream h w p.me told.1 told.2 p.table_id c.enter_as-word.ensures.table c.clear.new.self.items c.clear.ensures go outside c.requires.call.0 call))

pub leave_as-requires-clause-may : goal.leave_as-requires-clause-may
leave_as-requires-clause-may g c =
    let i = c.c.inside in let f : Face = record { number = i.number; prepared = i.prepared.items; pending = i.pending; call = i.call.value; fresh = i.fresh.value; locked = i.locked.value; inside = i.inside; depth = i.depth; whole = i.whole.value; free = i.free.value; drawn = i.drawn.value } in let h = c.c.invariant in let z = i.place.table_id in let me = i.place.me in let stream = words_of i.draws in let v = c.c.view_is in
    let p = c.enter_as-word.new.place in let told = c.enter_as-word.ensures.told in let word = c.enter_as-word.result in
    let outside = ap (λ (t : Token). t.inside) v ∙ c.requires.outside in
    let call = ap (λ (t : Token). t.call) v ∙ c.requires.call.1 in
    let w = h.even.whole outside (ap (λ (t : Token). t.out) v ∙ c.requires.out) in
    let another = acts_by i.number word false (sym c.enters.ensures ∙ c.if-enters.false) in
    let go = subst (λ (a : Act). Goes i.number me.0 p.me.0 f.prepared (entry i.number a ∷ [])) another (goes_by z me f i.slot stream h p.me.0 (λ n. entry n (gate_act n word) ∷ []) told.0) in
    λ s q. subst (MayGoOut (configuration_of s p.me.0.seen)) (sym (ap number_of (go.role ∙ h.role))) (may_turn z me f i.slot stream h c.requires.call.0 outside call c.requires.call.2 word p.me.0 go s q)

pub invariant_of-c-2 : goal.invariant_of-c-2
invariant_of-c-2 g c =
    let i = c.c.inside in let f : Face = record { number = i.number; prepared = i.prepared.items; pending = i.pending; call = i.call.value; fresh = i.fresh.value; locked = i.locked.value; inside = i.inside; depth = i.depth; whole = i.whole.value; free = i.free.value; drawn = i.drawn.value } in let h = c.c.invariant in let z = i.place.table_id in let me = i.place.me in let stream = words_of i.draws in let v = c.c.view_is in
    let p = c.enter_as-word.new.place in let told = c.enter_as-word.ensures.told in let word = c.enter_as-word.result in
    let outside = ap (λ (t : Token). t.inside) v ∙ c.requires.outside in
    let call = ap (λ (t : Token). t.call) v ∙ c.requires.call.1 in
    let w = h.even.whole outside (ap (λ (t : Token). t.out) v ∙ c.requires.out) in
    let another = acts_by i.number word false (sym c.enters.ensures ∙ c.if-enters.false) in
    let go = subst (λ (a : Act). Goes i.number me.0 p.me.0 f.prepared (entry i.number a ∷ [])) another (goes_by z me f i.slot stream h p.me.0 (λ n. entry n (gate_act n word) ∷ []) told.0) in
    let q = c.leave_as.new.place in let then = c.leave_as.ensures.told.1 in
    let go' = subst (λ (n : ℕ). Goes n p.me.0 q.me.0 [] (entry n acts.Leave ∷ [])) (ap number_of (go.role ∙ h.role)) then.0 in
    subst (λ (b : Bool). IsCaller q.me (tok q.table_id q.me (record { number = i.number; prepared = c.clear.new.self.items; pending = false; call = i.call.value; fresh = b; locked = i.locked.value; inside = i.inside; depth = i.depth; whole = i.whole.value; free = i.free.value; drawn = i.drawn.value })) i.slot stream) (sym c.of-c-inside.ensures)
    ((turning_back z me f i.slot stream h w c.requires.call.0 outside call c.requires.call.2 word p.me go q.me go' (then.1 ∙ told.1) (then.2 ∙ told.2) q.table_id (c.leave_as.ensures.table ∙ c.enter_as-word.ensures.table) c.clear.new.self.items c.clear.ensures).caller)

pub returns-clause-busy : goal.returns-clause-busy
returns-clause-busy g c =
    let i = c.c.inside in let f : Face = record { number = i.number; prepared = i.prepared.items; pending = i.pending; call = i.call.value; fresh = i.fresh.value; locked = i.locked.value; inside = i.inside; depth = i.depth; whole = i.whole.value; free = i.free.value; drawn = i.drawn.value } in let h = c.c.invariant in let z = i.place.table_id in let me = i.place.me in let stream = words_of i.draws in let v = c.c.view_is in
    let p = c.enter_as-word.new.place in let told = c.enter_as-word.ensures.told in let word = c.enter_as-word.result in
    let outside = ap (λ (t : Token). t.inside) v ∙ c.requires.outside in
    let call = ap (λ (t : Token). t.call) v ∙ c.requires.call.1 in
    let w = h.even.whole outside (ap (λ (t : Token). t.out) v ∙ c.requires.out) in
    let another = acts_by i.number word false (sym c.enters.ensures ∙ c.if-enters.false) in
    let go = subst (λ (a : Act). Goes i.number me.0 p.me.0 f.prepared (entry i.number a ∷ [])) another (goes_by z me f i.slot stream h p.me.0 (λ n. entry n (gate_act n word) ∷ []) told.0) in
    let q = c.leave_as.new.place in let then = c.leave_as.ensures.told.1 in
    let go' = subst (λ (n : ℕ). Goes n p.me.0 q.me.0 [] (entry n acts.Leave ∷ [])) (ap number_of (go.role ∙ h.role)) then.0 in
    subst (λ (b : Bool). HasTurnedBack c.args.c.now (tok q.table_id q.me (record { number = i.number; prepared = c.clear.new.self.items; pending = false; call = i.call.value; fresh = b; locked = i.locked.value; inside = i.inside; depth = i.depth; whole = i.whole.value; free = i.free.value; drawn = i.drawn.value })) (stance c.args.c.now) whats.Gate word (entry c.args.c.now.number (acts.Blocked whats.Gate word) ∷ entry c.args.c.now.number acts.Leave ∷ [])) (sym c.of-c-inside.ensures)
    (subst (λ (t : Token). HasTurnedBack t (tok q.table_id q.me (faced z me f i.slot stream h (behind_turn z me f i.slot stream h w c.requires.call.0 outside call c.requires.call.2 word p.me go q.me go' (then.1 ∙ told.1) (then.2 ∙ told.2) q.table_id (c.leave_as.ensures.table ∙ c.enter_as-word.ensures.table) c.clear.new.self.items c.clear.ensures) c.clear.new.self.items)) (stance t) whats.Gate word (entry t.number (acts.Blocked whats.Gate word) ∷ entry t.number acts.Leave ∷ [])) v
    (has_turned_back z me f i.slot stream h w c.requires.call.0 outside call c.requires.call.2 word p.me go q.me go' (then.1 ∙ told.1) (then.2 ∙ told.2) q.table_id (c.leave_as.ensures.table ∙ c.enter_as-word.ensures.table) c.clear.new.self.items c.clear.ensures
    (sym c.enters.ensures ∙ c.if-enters.false)))
