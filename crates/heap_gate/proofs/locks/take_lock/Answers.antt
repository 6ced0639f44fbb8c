use Rattle.std.proofs.Common.{◌≡◌, ◌∙◌, ℕ, [], ◌∷◌, Some, sym, subst, ap}
use Rattle.random_pick.specs.CallerDraws.{words_of}
use Rattle.claim_rule.specs.Entries.{entry}
use Rattle.claim_rule.specs.Plays.{Goes, number_of}
use Rattle.claim_rule.specs.Rule.{ready_after}
use Rattle.heap_model.specs.declared.Act.TheVariants as acts
use Rattle.heap_gate.specs.Token.{Token, outs}
use Rattle.heap_gate.specs.Seated.{Face, tok}
use Rattle.std.proofs.Common.{Option, None, inl, inr}
use Rattle.std.specs.Prelude.{not, ◌||◌, ◌==◌}
use Rattle.std.proofs.lemmas.Bool.{cases_Bool, eqb-true, eqb-false}
use Rattle.heap_model.specs.History.{configuration_of}
use Rattle.claim_rule.specs.declared.views.View.{View}
use Rattle.claim_rule.specs.Home.{Tells}
use Rattle.lock_steps.specs.Locks.{MayTake}
use Rattle.heap_gate.specs.Token.{is_out}
use Rattle.heap_gate.specs.Calls.{HasTaken, HasMissed}
use Rattle.heap_gate.proofs.Standing.{take_of}
use Rattle.heap_gate.proofs.Tokens.{as_was, faced, goes_by, may_by}
use Rattle.heap_gate.proofs.Taking.{behind_take, taking, has_taken, missing_lock, has_missed_lock}
use Rattle.heap_gate.proofs.locks.take_lock.Goals as goal

some_none : {A : Type 0} (a : A) → Some a ≡ None → ⊥
some_none a e = let no : ⊥ = cc in no

some_is : {A : Type 0} (a b : A) → Some a ≡ Some b → a ≡ b
some_is a b e = cc (e)

-- a state came out, so the word was 0
zero_of : {A : Type 0} (word : ℕ) (o : Option A) (t : A) → o ≡ Some t → ((word ≡ 0 → ⊥) → o ≡ None) → word ≡ 0
zero_of word o t e f = elim (cases_Bool (word == 0)) [ inl x ↦ eqb-true word 0 x | inr x ↦ absurd (some_none t (sym e ∙ f (eqb-false word 0 x))) ]

pub take_by-found-requires-clause-may : goal.take_by-found-requires-clause-may
take_by-found-requires-clause-may g c =
    let i = c.c.inside in let f : Face = record { number = i.number; prepared = i.prepared.items; pending = i.pending; call = i.call.value; fresh = i.fresh.value; locked = i.locked.value; inside = i.inside; depth = i.depth; whole = i.whole.value; free = i.free.value; drawn = i.drawn.value } in let h = c.c.invariant in let z = i.place.table_id in let me = i.place.me in let stream = words_of i.draws in let v = c.c.view_is in
    let what = c.args.what in
    let inside = (λ j. (ap (λ (t : Token). t.inside || not (t.depth == 0)) v) j) ∙ c.requires.inside in
    let free = ap (is_out what) (ap (λ (t : Token). t.out) v) ∙ c.requires.lock in
    may_by z me f i.slot stream h (λ m n. MayTake m n what) (λ s q. take_of (ready_after s me.0 f.prepared) i.number i.call.value i.depth (outs me.1) i.fresh.value i.inside i.whole.value i.free.value what inside free (h.at s q))

pub invariant_of-c : goal.invariant_of-c
invariant_of-c g c =
    let i = c.c.inside in let f : Face = record { number = i.number; prepared = i.prepared.items; pending = i.pending; call = i.call.value; fresh = i.fresh.value; locked = i.locked.value; inside = i.inside; depth = i.depth; whole = i.whole.value; free = i.free.value; drawn = i.drawn.value } in let h = c.c.invariant in let z = i.place.table_id in let me = i.place.me in let stream = words_of i.draws in let v = c.c.view_is in
    let p = c.take_by-found.new.place in let word = c.take_by-found.result.0 in let what = c.args.what in
    let w = ap (λ (t : Token). t.whole) v ∙ c.requires.whole in
    let told = c.take_by-found.ensures.told in
    let nz : word ≡ 0 → ⊥ = λ e. let x = c.take_by-found.ensures.free e in c.in_default.not-Some x.0 x.1 in
    let missed = told.1.missed nz in
    let go = goes_by z me f i.slot stream h p.me.0 (λ n. entry n (acts.Blocked what word) ∷ []) (subst (λ (x : View). Goes (number_of me.0.role) me.0 x f.prepared (entry (number_of me.0.role) (acts.Blocked what word) ∷ [])) (sym told.2) missed.adds) in
    let slots = (c.take_by-found.ensures.busy nz).1 in
    let owes = ap (λ (x : View). x.owes) told.2 ∙ missed.owes in
    (missing_lock z me f i.slot stream h w what c.requires.slot p.me p.table_id c.take_by-found.ensures.table c.clear.new.self.items c.clear.ensures word go slots owes).caller

pub returns-in_default-clause-busy : goal.returns-in_default-clause-busy
returns-in_default-clause-busy g c =
    let i = c.c.inside in let f : Face = record { number = i.number; prepared = i.prepared.items; pending = i.pending; call = i.call.value; fresh = i.fresh.value; locked = i.locked.value; inside = i.inside; depth = i.depth; whole = i.whole.value; free = i.free.value; drawn = i.drawn.value } in let h = c.c.invariant in let z = i.place.table_id in let me = i.place.me in let stream = words_of i.draws in let v = c.c.view_is in
    let p = c.take_by-found.new.place in let word = c.take_by-found.result.0 in let what = c.args.what in
    let w = ap (λ (t : Token). t.whole) v ∙ c.requires.whole in
    let told = c.take_by-found.ensures.told in
    let nz : word ≡ 0 → ⊥ = λ e. let x = c.take_by-found.ensures.free e in c.in_default.not-Some x.0 x.1 in
    let missed = told.1.missed nz in
    let go = goes_by z me f i.slot stream h p.me.0 (λ n. entry n (acts.Blocked what word) ∷ []) (subst (λ (x : View). Goes (number_of me.0.role) me.0 x f.prepared (entry (number_of me.0.role) (acts.Blocked what word) ∷ [])) (sym told.2) missed.adds) in
    let slots = (c.take_by-found.ensures.busy nz).1 in
    let owes = ap (λ (x : View). x.owes) told.2 ∙ missed.owes in
    subst (λ (t : Token). HasMissed t (tok p.table_id p.me (faced z me f i.slot stream h (as_was z me f i.slot stream h) c.clear.new.self.items)) what what word) v
    (has_missed_lock z me f i.slot stream h w what c.requires.slot p.me p.table_id c.take_by-found.ensures.table c.clear.new.self.items c.clear.ensures word go slots owes)

pub invariant_of-c-2 : goal.invariant_of-c-2
invariant_of-c-2 g c =
    let i = c.c.inside in let f : Face = record { number = i.number; prepared = i.prepared.items; pending = i.pending; call = i.call.value; fresh = i.fresh.value; locked = i.locked.value; inside = i.inside; depth = i.depth; whole = i.whole.value; free = i.free.value; drawn = i.drawn.value } in let h = c.c.invariant in let z = i.place.table_id in let me = i.place.me in let stream = words_of i.draws in let v = c.c.view_is in
    let p = c.take_by-found.new.place in let word = c.take_by-found.result.0 in let what = c.args.what in
    let w = ap (λ (t : Token). t.whole) v ∙ c.requires.whole in
    let told = c.take_by-found.ensures.told in
    let z0 = zero_of word c.take_by-found.result.1 c.in-Some.state c.in-Some.is (λ nz. (c.take_by-found.ensures.busy nz).0) in
    let taken = told.1.taken z0 in
    let go = goes_by z me f i.slot stream h p.me.0 (λ n. entry n (acts.TakeLock what) ∷ []) (subst (λ (x : View). Goes (number_of me.0.role) me.0 x f.prepared (entry (number_of me.0.role) (acts.TakeLock what) ∷ [])) (sym told.2) taken.adds) in
    let free = c.take_by-found.ensures.free z0 in
    let owes = ap (λ (x : View). x.owes) told.2 ∙ taken.owes in
    (taking z me f i.slot stream h w what c.requires.slot p.me p.table_id c.take_by-found.ensures.table c.clear.new.self.items c.clear.ensures go free.2 owes).caller

pub returns-clause-ok : goal.returns-clause-ok
returns-clause-ok g c =
    let i = c.c.inside in let f : Face = record { number = i.number; prepared = i.prepared.items; pending = i.pending; call = i.call.value; fresh = i.fresh.value; locked = i.locked.value; inside = i.inside; depth = i.depth; whole = i.whole.value; free = i.free.value; drawn = i.drawn.value } in let h = c.c.invariant in let z = i.place.table_id in let me = i.place.me in let stream = words_of i.draws in let v = c.c.view_is in
    let p = c.take_by-found.new.place in let word = c.take_by-found.result.0 in let what = c.args.what in
    let w = ap (λ (t : Token). t.whole) v ∙ c.requires.whole in
    let told = c.take_by-found.ensures.told in
    let z0 = zero_of word c.take_by-found.result.1 c.in-Some.state c.in-Some.is (λ nz. (c.take_by-found.ensures.busy nz).0) in
    let taken = told.1.taken z0 in
    let go = goes_by z me f i.slot stream h p.me.0 (λ n. entry n (acts.TakeLock what) ∷ []) (subst (λ (x : View). Goes (number_of me.0.role) me.0 x f.prepared (entry (number_of me.0.role) (acts.TakeLock what) ∷ [])) (sym told.2) taken.adds) in
    let free = c.take_by-found.ensures.free z0 in
    let owes = ap (λ (x : View). x.owes) told.2 ∙ taken.owes in
    let is : free.0 ≡ c.in-Some.state = some_is free.0 c.in-Some.state (sym free.1 ∙ c.in-Some.is) in
    subst (λ (t : Token). HasTaken g.T.Stands.stands t (tok p.table_id p.me (faced z me f i.slot stream h (behind_take z me f i.slot stream h w what c.requires.slot p.me p.table_id c.take_by-found.ensures.table c.clear.new.self.items c.clear.ensures go free.2 owes) c.clear.new.self.items)) what c.in-Some.state) v
    (has_taken z me f i.slot stream h w what c.requires.slot p.me p.table_id c.take_by-found.ensures.table c.clear.new.self.items c.clear.ensures go free.2 owes g.T.Stands.stands c.in-Some.state
    (λ s q. subst (λ u. Tells what p.me.0.opening (configuration_of s p.me.0.seen).state (g.T.Stands.stands u)) is (free.3 s q)))
