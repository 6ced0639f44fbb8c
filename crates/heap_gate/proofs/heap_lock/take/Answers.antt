use Rattle.std.proofs.Common.{◌≡◌, ◌∙◌, ℕ, Bool, [], ◌∷◌, true, false, cond, sym, subst, ap}
use Rattle.random_pick.specs.CallerDraws.{words_of}
use Rattle.claim_rule.specs.Entries.{entry}
use Rattle.claim_rule.specs.Plays.{Goes}
use Rattle.claim_rule.specs.Rule.{ready_after}
use Rattle.heap_model.specs.declared.Act.{Act}
use Rattle.heap_model.specs.declared.Act.TheVariants as acts
use Rattle.heap_model.specs.declared.What.TheVariants as whats
use Rattle.heap_gate.specs.Token.{Token, IsAt, IsCaller, outs}
use Rattle.heap_gate.specs.Seated.{Face, tok}
use Rattle.std.specs.Prelude.{◌==◌}
use Rattle.std.proofs.Common.{eq-eqb, ne_eqb}
use Rattle.claim_rule.specs.Plays.{lock_act}
use Rattle.claim_rule.specs.Steps.{MayTryLock}
use Rattle.heap_gate.specs.Calls.{HasLocked, HasMissedGate, stance}
use Rattle.heap_gate.proofs.Standing.{try_of}
use Rattle.heap_gate.proofs.Tokens.{as_was, faced, goes_by, may_by, ready_by}
use Rattle.heap_gate.proofs.Acting.{behind_lock, locking, has_locked, missing, has_missed}
use Rattle.heap_gate.proofs.heap_lock.take.Goals as goal

acts_by : (word : ℕ) (b : Bool) → (word == 0) ≡ b → lock_act word ≡ cond b acts.Lock (acts.Blocked whats.Gate word)
acts_by word b e = ap (λ (b : Bool). cond b acts.Lock (acts.Blocked whats.Gate word)) e

pub lock_as-word-requires-clause-ready : goal.lock_as-word-requires-clause-ready
lock_as-word-requires-clause-ready g c =
    let i = c.c.inside in let f : Face = record { number = i.number; prepared = i.prepared.items; pending = i.pending; call = i.call.value; fresh = i.fresh.value; locked = i.locked.value; inside = i.inside; depth = i.depth; whole = i.whole.value; free = i.free.value; drawn = i.drawn.value } in let h = c.c.invariant in let z = i.place.table_id in let me = i.place.me in let stream = words_of i.draws in let v = c.c.view_is in
    ready_by z me f i.slot stream h (h.even.whole (ap (λ (t : Token). t.inside) v ∙ c.requires.outside) (ap (λ (t : Token). t.out) v ∙ c.requires.out))

pub lock_as-word-requires-clause-may : goal.lock_as-word-requires-clause-may
lock_as-word-requires-clause-may g c =
    let i = c.c.inside in let f : Face = record { number = i.number; prepared = i.prepared.items; pending = i.pending; call = i.call.value; fresh = i.fresh.value; locked = i.locked.value; inside = i.inside; depth = i.depth; whole = i.whole.value; free = i.free.value; drawn = i.drawn.value } in let h = c.c.invariant in let z = i.place.table_id in let me = i.place.me in let stream = words_of i.draws in let v = c.c.view_is in
    let call = ap (λ (t : Token). t.call) v ∙ c.requires.call.1 in
    let outside = ap (λ (t : Token). t.inside) v ∙ c.requires.outside in
    may_by z me f i.slot stream h MayTryLock (λ s q. try_of (ready_after s me.0 f.prepared) i.number i.call.value i.depth (outs me.1) i.fresh.value i.whole.value i.free.value c.requires.call.0 call c.requires.call.2 (ap (λ (t : Token). t.depth) v ∙ c.requires.free)
    (subst (λ (b : Bool). IsAt (ready_after s me.0 f.prepared) i.number i.call.value i.fresh.value b i.depth (outs me.1) i.whole.value i.free.value) outside (h.at s q)))

pub invariant_of-c : goal.invariant_of-c
invariant_of-c g c =
    let i = c.c.inside in let f : Face = record { number = i.number; prepared = i.prepared.items; pending = i.pending; call = i.call.value; fresh = i.fresh.value; locked = i.locked.value; inside = i.inside; depth = i.depth; whole = i.whole.value; free = i.free.value; drawn = i.drawn.value } in let h = c.c.invariant in let z = i.place.table_id in let me = i.place.me in let stream = words_of i.draws in let v = c.c.view_is in
    let p = c.lock_as-word.new.place in let told = c.lock_as-word.ensures.told in let word = c.lock_as-word.result in
    let outside = ap (λ (t : Token). t.inside) v ∙ c.requires.outside in
    let call = ap (λ (t : Token). t.call) v ∙ c.requires.call.1 in
    let w = h.even.whole outside (ap (λ (t : Token). t.out) v ∙ c.requires.out) in
    let yes = acts_by word true (eq-eqb word 0 c.if-word-eq0.true) in
    let go = subst (λ (a : Act). Goes i.number me.0 p.me.0 f.prepared (entry i.number a ∷ [])) yes (goes_by z me f i.slot stream h p.me.0 (λ n. entry n (lock_act word) ∷ []) told.0) in
    subst (λ (b : Bool). IsCaller p.me (tok p.table_id p.me (record { number = i.number; prepared = c.clear.new.self.items; pending = false; call = i.call.value; fresh = i.fresh.value; locked = b; inside = i.inside; depth = 1; whole = i.whole.value; free = i.free.value; drawn = i.drawn.value })) i.slot stream) (sym c.of-c-inside.ensures)
    ((locking z me f i.slot stream h w p.me told.1 told.2 p.table_id c.lock_as-word.ensures.table c.clear.new.self.items c.clear.ensures outside go c.requires.call.0 call).caller)

pub returns-then-word-eq0-clause-ok : goal.returns-then-word-eq0-clause-ok
returns-then-word-eq0-clause-ok g c =
    let i = c.c.inside in let f : Face = record { number = i.number; prepared = i.prepared.items; pending = i.pending; call = i.call.value; fresh = i.fresh.value; locked = i.locked.value; inside = i.inside; depth = i.depth; whole = i.whole.value; free = i.free.value; drawn = i.drawn.value } in let h = c.c.invariant in let z = i.place.table_id in let me = i.place.me in let stream = words_of i.draws in let v = c.c.view_is in
    let p = c.lock_as-word.new.place in let told = c.lock_as-word.ensures.told in let word = c.lock_as-word.result in
    let outside = ap (λ (t : Token). t.inside) v ∙ c.requires.outside in
    let call = ap (λ (t : Token). t.call) v ∙ c.requires.call.1 in
    let w = h.even.whole outside (ap (λ (t : Token). t.out) v ∙ c.requires.out) in
    let yes = acts_by word true (eq-eqb word 0 c.if-word-eq0.true) in
    let go = subst (λ (a : Act). Goes i.number me.0 p.me.0 f.prepared (entry i.number a ∷ [])) yes (goes_by z me f i.slot stream h p.me.0 (λ n. entry n (lock_act word) ∷ []) told.0) in
    subst (λ (b : Bool). HasLocked c.args.c.now (tok p.table_id p.me (record { number = i.number; prepared = c.clear.new.self.items; pending = false; call = i.call.value; fresh = i.fresh.value; locked = b; inside = i.inside; depth = 1; whole = i.whole.value; free = i.free.value; drawn = i.drawn.value })) (stance c.args.c.now) (entry c.args.c.now.number acts.Lock ∷ [])) (sym c.of-c-inside.ensures)
    (subst (λ (t : Token). HasLocked t (tok p.table_id p.me (faced z me f i.slot stream h (behind_lock z me f i.slot stream h w p.me told.1 told.2 p.table_id c.lock_as-word.ensures.table c.clear.new.self.items c.clear.ensures outside go c.requires.call.0 call) c.clear.new.self.items)) (stance t) (entry t.number acts.Lock ∷ [])) v
    (has_locked z me f i.slot stream h w p.me told.1 told.2 p.table_id c.lock_as-word.ensures.table c.clear.new.self.items c.clear.ensures outside go c.requires.call.0 call))

pub invariant_of-c-else-word-eq0 : goal.invariant_of-c-else-word-eq0
invariant_of-c-else-word-eq0 g c =
    let i = c.c.inside in let f : Face = record { number = i.number; prepared = i.prepared.items; pending = i.pending; call = i.call.value; fresh = i.fresh.value; locked = i.locked.value; inside = i.inside; depth = i.depth; whole = i.whole.value; free = i.free.value; drawn = i.drawn.value } in let h = c.c.invariant in let z = i.place.table_id in let me = i.place.me in let stream = words_of i.draws in let v = c.c.view_is in
    let p = c.lock_as-word.new.place in let told = c.lock_as-word.ensures.told in let word = c.lock_as-word.result in
    let outside = ap (λ (t : Token). t.inside) v ∙ c.requires.outside in
    let call = ap (λ (t : Token). t.call) v ∙ c.requires.call.1 in
    let w = h.even.whole outside (ap (λ (t : Token). t.out) v ∙ c.requires.out) in
    let another = acts_by word false (ne_eqb word 0 c.if-word-eq0.false) in
    let go = subst (λ (a : Act). Goes i.number me.0 p.me.0 f.prepared (entry i.number a ∷ [])) another (goes_by z me f i.slot stream h p.me.0 (λ n. entry n (lock_act word) ∷ []) told.0) in
    (missing z me f i.slot stream h w p.me told.1 told.2 p.table_id c.lock_as-word.ensures.table c.clear.new.self.items c.clear.ensures outside word go c.requires.call.0 call c.requires.call.2 c.if-word-eq0.false).caller

pub returns-clause-busy : goal.returns-clause-busy
returns-clause-busy g c =
    let i = c.c.inside in let f : Face = record { number = i.number; prepared = i.prepared.items; pending = i.pending; call = i.call.value; fresh = i.fresh.value; locked = i.locked.value; inside = i.inside; depth = i.depth; whole = i.whole.value; free = i.free.value; drawn = i.drawn.value } in let h = c.c.invariant in let z = i.place.table_id in let me = i.place.me in let stream = words_of i.draws in let v = c.c.view_is in
    let p = c.lock_as-word.new.place in let told = c.lock_as-word.ensures.told in let word = c.lock_as-word.result in
    let outside = ap (λ (t : Token). t.inside) v ∙ c.requires.outside in
    let call = ap (λ (t : Token). t.call) v ∙ c.requires.call.1 in
    let w = h.even.whole outside (ap (λ (t : Token). t.out) v ∙ c.requires.out) in
    let another = acts_by word false (ne_eqb word 0 c.if-word-eq0.false) in
    let go = subst (λ (a : Act). Goes i.number me.0 p.me.0 f.prepared (entry i.number a ∷ [])) another (goes_by z me f i.slot stream h p.me.0 (λ n. entry n (lock_act word) ∷ []) told.0) in
    subst (λ (t : Token). HasMissedGate t (tok p.table_id p.me (faced z me f i.slot stream h (as_was z me f i.slot stream h) c.clear.new.self.items)) (stance t) whats.Gate word (entry t.number (acts.Blocked whats.Gate word) ∷ [])) v
    (has_missed z me f i.slot stream h w p.me told.1 told.2 p.table_id c.lock_as-word.ensures.table c.clear.new.self.items c.clear.ensures outside word go c.requires.call.0 call c.requires.call.2 c.if-word-eq0.false)
