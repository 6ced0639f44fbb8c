use Rattle.std.proofs.Common.{◌≡◌, ℕ, ◌∙◌, true, [], ◌∷◌, sym, subst, ap, arith, ◌==◌, inl, inr}
use Rattle.random_pick.specs.CallerDraws.{words_of}
use Rattle.claim_rule.specs.Rule.{ready_after}
use Rattle.heap_gate.specs.Token.{Token, Always, now}
use Rattle.heap_gate.specs.Seated.{Face, tok}
use Rattle.heap_gate.specs.Calls.{Runs}
use Rattle.heap_gate.proofs.Tokens.{as_was, faced, goes_by, with_left}
use Rattle.lfh_spans.proofs.Quiet.{quiet, quiet_runs}
use Rattle.std.specs.Prelude.{Option, IfSome, IfNone}
use Rattle.std.proofs.lemmas.Bool.{cases_Bool, eqb-true, eqb-false}
use Rattle.heap_model.specs.Limits.{AreValid}
use Rattle.heap_model.specs.declared.Opening.{Opening}
use Rattle.heap_model.specs.declared.Act.TheVariants as acts
use Rattle.heap_model.specs.History.{configuration_of}
use Rattle.claim_rule.specs.Entries.{entry, setting_of}
use Rattle.claim_rule.specs.Plays.{number_of}
use Rattle.claim_rule.proofs.Advance.{some_setting}
use Rattle.block_steps.specs.Searches.{MayHint, IsHinted}
use Rattle.lfh_spans.specs.Hints.{own_slot, FindsHint, FindsNoHint}
use Rattle.lfh_spans.proofs.Heads.{seen_small}
use Rattle.lfh_spans.proofs.Missing.{missed_caller, missed_runs, missed_stands}
use Rattle.lfh_spans.proofs.hint_of.Goals as goal

pub hint_by-word-requires-clause-may : goal.hint_by-word-requires-clause-may
hint_by-word-requires-clause-may g c =
    let i = c.c.inside in let f : Face = record { number = i.number; prepared = i.prepared.items; pending = i.pending; call = i.call.value; fresh = i.fresh.value; locked = i.locked.value; inside = i.inside; depth = i.depth; whole = i.whole.value; free = i.free.value; drawn = i.drawn.value } in let h = c.c.invariant in let z = i.place.table_id in let me = i.place.me in let stream = words_of i.draws in let v = c.c.view_is in
    let b = c.args.bucket in let t = c.slot-slot.result in
    λ s q. subst (λ (x : ℕ). MayHint s (ready_after s me.0 f.prepared) x b t me.0.owes) (sym (ap number_of h.role))
    (subst (λ (y : Token). Always y (λ s. MayHint s (now s y) y.number b t y.owes)) (sym v)
    (subst (λ (x : ℕ). Always c.args.c.now (λ s. MayHint s (now s c.args.c.now) c.args.c.now.number b x c.args.c.now.owes)) (sym c.slot-slot.ensures) c.requires.may) s q)

pub named-requires : goal.named-requires
named-requires g c =
    let i = c.c.inside in let f : Face = record { number = i.number; prepared = i.prepared.items; pending = i.pending; call = i.call.value; fresh = i.fresh.value; locked = i.locked.value; inside = i.inside; depth = i.depth; whole = i.whole.value; free = i.free.value; drawn = i.drawn.value } in let h = c.c.invariant in let z = i.place.table_id in let me = i.place.me in let stream = words_of i.draws in let v = c.c.view_is in
    let b = c.args.bucket in let t = c.slot-slot.result in let word = c.hint_by-word.result in
    let p = c.hint_by-word.new.place in let told = c.hint_by-word.ensures.told in
    let w = ap (λ (t : Token). t.whole) v ∙ c.requires.whole in
    let s0 = setting_of me.0.opening me.0.roll in let q0 = some_setting me.0.opening me.0.roll in
    let may = subst (λ (y : Token). Always y (λ s. MayHint s (now s y) y.number b (own_slot y) y.owes)) (sym v) c.requires.may s0 q0 in
    let inside : f.inside ≡ true = sym (h.at s0 q0).entered ∙ may.inside in
    let e = ap (λ (o : Opening). o.limits) (sym c.requires.table.1 ∙ sym (ap (λ (t : Token). t.opening) v)) in
    let valid = subst AreValid (c.limits-bounds.ensures.limits ∙ e) c.limits-bounds.ensures.valid in
    let few = valid.segments in
    elim (cases_Bool (word == 0)) [
      | inl y ↦ let a = eqb-true word 0 y in omega (arith, a)
      | inr y ↦
          let x = told.some (eqb-false word 0 y) in
          let s1 = setting_of p.me.0.opening p.me.0.roll in let q1 = some_setting p.me.0.opening p.me.0.roll in
          let l = seen_small s1 p.me.0.seen b t word (x.goes.legal s1 q1) (x.hinted s1 q1).seen in
          let o = ap (λ (o : Opening). o.limits.segments) x.goes.opening in omega (arith, l, o, few)
    ]

pub invariant_of-c : goal.invariant_of-c
invariant_of-c g c =
    let i = c.c.inside in let f : Face = record { number = i.number; prepared = i.prepared.items; pending = i.pending; call = i.call.value; fresh = i.fresh.value; locked = i.locked.value; inside = i.inside; depth = i.depth; whole = i.whole.value; free = i.free.value; drawn = i.drawn.value } in let h = c.c.invariant in let z = i.place.table_id in let me = i.place.me in let stream = words_of i.draws in let v = c.c.view_is in
    let b = c.args.bucket in let t = c.slot-slot.result in let word = c.hint_by-word.result in
    let p = c.hint_by-word.new.place in let told = c.hint_by-word.ensures.told in
    let w = ap (λ (t : Token). t.whole) v ∙ c.requires.whole in
    let s0 = setting_of me.0.opening me.0.roll in let q0 = some_setting me.0.opening me.0.roll in
    let may = subst (λ (y : Token). Always y (λ s. MayHint s (now s y) y.number b (own_slot y) y.owes)) (sym v) c.requires.may s0 q0 in
    let inside : f.inside ≡ true = sym (h.at s0 q0).entered ∙ may.inside in
    elim (cases_Bool (word == 0)) [
      | inl y ↦ let x = told.none (eqb-true word 0 y) in let go = goes_by z me f i.slot stream h p.me.0 (λ n. entry n (acts.NoHint b t) ∷ []) x.adds in missed_caller z me f i.slot stream h w p.me x.slot x.owes p.table_id c.hint_by-word.ensures.table c.clear.new.self.items c.clear.ensures inside b t go
      | inr y ↦ let x = told.some (eqb-false word 0 y) in let go = goes_by z me f i.slot stream h p.me.0 (λ n. []) x.goes in (quiet z me f i.slot stream h w p.me x.slot me.0.owes x.owes p.table_id c.hint_by-word.ensures.table c.clear.new.self.items c.clear.ensures go).caller
    ]

pub returns-clause-found : goal.returns-clause-found
returns-clause-found g c =
    let i = c.c.inside in let f : Face = record { number = i.number; prepared = i.prepared.items; pending = i.pending; call = i.call.value; fresh = i.fresh.value; locked = i.locked.value; inside = i.inside; depth = i.depth; whole = i.whole.value; free = i.free.value; drawn = i.drawn.value } in let h = c.c.invariant in let z = i.place.table_id in let me = i.place.me in let stream = words_of i.draws in let v = c.c.view_is in
    let b = c.args.bucket in let t = c.slot-slot.result in let word = c.hint_by-word.result in
    let p = c.hint_by-word.new.place in let told = c.hint_by-word.ensures.told in
    let w = ap (λ (t : Token). t.whole) v ∙ c.requires.whole in
    let s0 = setting_of me.0.opening me.0.roll in let q0 = some_setting me.0.opening me.0.roll in
    let may = subst (λ (y : Token). Always y (λ s. MayHint s (now s y) y.number b (own_slot y) y.owes)) (sym v) c.requires.may s0 q0 in
    let inside : f.inside ≡ true = sym (h.at s0 q0).entered ∙ may.inside in
    subst (λ (r : Option ℕ). IfSome r (FindsHint c.args.c.now (tok p.table_id p.me (faced z me f i.slot stream h (as_was z me f i.slot stream h) c.clear.new.self.items)) b)) (sym c.named.ensures) (elim (cases_Bool (word == 0)) [
      | inl y ↦ rw y tt
      | inr y ↦
          let x = told.some (eqb-false word 0 y) in let go = goes_by z me f i.slot stream h p.me.0 (λ n. []) x.goes in
          let s1 = setting_of p.me.0.opening p.me.0.roll in let q1 = some_setting p.me.0.opening p.me.0.roll in
          rw y (subst (λ (y : Token). FindsHint y (tok p.table_id p.me (faced z me f i.slot stream h (as_was z me f i.slot stream h) c.clear.new.self.items)) b word) v (record {
            runs = quiet_runs z me f i.slot stream h w p.me x.slot me.0.owes x.owes p.table_id c.hint_by-word.ensures.table c.clear.new.self.items c.clear.ensures go;
            stands = (quiet z me f i.slot stream h w p.me x.slot me.0.owes x.owes p.table_id c.hint_by-word.ensures.table c.clear.new.self.items c.clear.ensures go).stands;
            hinted = with_left z me f i.slot stream h p.me c.clear.new.self.items c.clear.ensures (λ s m. IsHinted m f.number b (own_slot (tok z me f)) word)
                (λ s q. subst (λ (k : ℕ × ℕ). IsHinted (configuration_of s p.me.0.seen) k.0 b k.1 word) (λ j. (ap number_of h.role j, (c.slot-slot.ensures ∙ sym (ap own_slot v)) j)) (x.hinted s q));
            small = seen_small s1 p.me.0.seen b t word (x.goes.legal s1 q1) (x.hinted s1 q1).seen;
          }))
    ])

pub returns-clause-none : goal.returns-clause-none
returns-clause-none g c =
    let i = c.c.inside in let f : Face = record { number = i.number; prepared = i.prepared.items; pending = i.pending; call = i.call.value; fresh = i.fresh.value; locked = i.locked.value; inside = i.inside; depth = i.depth; whole = i.whole.value; free = i.free.value; drawn = i.drawn.value } in let h = c.c.invariant in let z = i.place.table_id in let me = i.place.me in let stream = words_of i.draws in let v = c.c.view_is in
    let b = c.args.bucket in let t = c.slot-slot.result in let word = c.hint_by-word.result in
    let p = c.hint_by-word.new.place in let told = c.hint_by-word.ensures.told in
    let w = ap (λ (t : Token). t.whole) v ∙ c.requires.whole in
    let s0 = setting_of me.0.opening me.0.roll in let q0 = some_setting me.0.opening me.0.roll in
    let may = subst (λ (y : Token). Always y (λ s. MayHint s (now s y) y.number b (own_slot y) y.owes)) (sym v) c.requires.may s0 q0 in
    let inside : f.inside ≡ true = sym (h.at s0 q0).entered ∙ may.inside in
    subst (λ (r : Option ℕ). IfNone r (FindsNoHint c.args.c.now (tok p.table_id p.me (faced z me f i.slot stream h (as_was z me f i.slot stream h) c.clear.new.self.items)) b)) (sym c.named.ensures) (elim (cases_Bool (word == 0)) [
      | inr y ↦ rw y tt
      | inl y ↦
          let x = told.none (eqb-true word 0 y) in let go = goes_by z me f i.slot stream h p.me.0 (λ n. entry n (acts.NoHint b t) ∷ []) x.adds in
          rw y (subst (λ (y : Token). FindsNoHint y (tok p.table_id p.me (faced z me f i.slot stream h (as_was z me f i.slot stream h) c.clear.new.self.items)) b) v (record {
            runs = subst (λ (k : ℕ). Runs (tok z me f) (tok p.table_id p.me (faced z me f i.slot stream h (as_was z me f i.slot stream h) c.clear.new.self.items)) (entry f.number (acts.NoHint b k) ∷ [])) (c.slot-slot.ensures ∙ sym (ap own_slot v)) (missed_runs z me f i.slot stream h w p.me x.slot x.owes p.table_id c.hint_by-word.ensures.table c.clear.new.self.items c.clear.ensures inside b t go);
            stands = missed_stands z me f i.slot stream h w p.me x.slot x.owes p.table_id c.hint_by-word.ensures.table c.clear.new.self.items c.clear.ensures inside b t go;
          }))
    ])
