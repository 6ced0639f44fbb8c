-- What the owner of the heap lock does, one part behind another.
use Rattle.std.proofs.Common.{◌≡◌, ◌≢◌, ℕ, ◌==◌, true, List, [], ◌∷◌, ◌++◌, refl, sym, ap, ◌∙◌, subst, inl, inr}
use Rattle.std.proofs.lemmas.Bool.{cases_Bool, and_parts}
use Rattle.heap_model.specs.declared.Act.{Act}
use Rattle.heap_model.specs.declared.Act.TheVariants as acts
use Rattle.heap_model.specs.declared.Call.{Call}
use Rattle.heap_model.specs.declared.Entry.{Entry}
use Rattle.heap_model.specs.declared.What.{What}
use Rattle.heap_model.specs.State.{Setting, is_caller}
use Rattle.heap_model.specs.CallState.{Configuration}
use Rattle.heap_model.specs.Layers.{LayerState}
use Rattle.heap_model.specs.Legal.{may_follow, after}
use Rattle.heap_model.specs.History.{own, configuration_after, configuration_of, first_configuration, may_all_follow}
use Rattle.heap_model.specs.Agreement.{GateIsSound, SameHeap}
use Rattle.heap_model.proofs.GateSound.{row_of, gate_sound_act, gate_sound_after}
use Rattle.heap_model.proofs.Others.{agrees_others, same_heap_trans}
use Rattle.call_laws.specs.Within.{by_all}
use Rattle.claim_rule.specs.Entries.{entry}
use Rattle.claim_rule.specs.Home.{slot_of}
use Rattle.claim_rule.proofs.Lists.{after-append, follow_parts}
use Rattle.lock_steps.specs.Locks.{owed_with}
use Rattle.lfh_spans.proofs.Joined.{setting_of_old}
use Rattle.heap_gate.specs.Token.{Token, Always, IsStanding, now}
use Rattle.heap_gate.specs.Calls.{Does, Runs, Stands, stance, HasTaken, HasGiven}
use Rattle.call_parts.proofs.Joining.{goes_none, goes_does, goes_then}
use Rattle.call_parts.proofs.Serving.{none_begins, none_begins-append}
use Rattle.compact_calls.specs.Owner.{IsOwning, Did}
use Rattle.compact_calls.proofs.Owning.{own_since, legal_since, owner_is}

---- An own entry among others'

-- a list at the first entry of n
pub record IsSplit (n : ℕ) (es : List Entry) (e : Entry) (rest : List Entry) : Type 0 where
  pub first : List Entry
  pub later : List Entry
  pub is : es ≡ first ++ e ∷ later
  pub none : own n first ≡ []
  pub others : own n later ≡ rest

pub split : (n : ℕ) (es : List Entry) (e : Entry) (rest : List Entry) → own n es ≡ e ∷ rest → IsSplit n es e rest
split n [] e rest o = absurd (let z : ⊥ = cc (o) in z)
split n (x ∷ xs) e rest o = elim (cases_Bool (x.caller == n)) [
  | inl q ↦
      let f : x ∷ own n xs ≡ e ∷ rest = (rw q at o) in
      record { first = []; later = xs; is = (let is : x ≡ e = cc (f) in ap (λ (y : Entry). y ∷ xs) is); none = refl; others = (let is : own n xs ≡ rest = cc (f) in is) }
  | inr q ↦
      let f : own n xs ≡ e ∷ rest = (rw q at o) in
      let y = split n xs e rest f in
      record { first = x ∷ y.first; later = y.later; is = ap (λ (l : List Entry). x ∷ l) y.is; none = rw q y.none; others = y.others }
]

---- Parts

pub did_none : (c : Token) (call : Call) (out : List ℕ) → IsOwning c call out → Did c c call [] out
did_none c call out v = record { goes = goes_none c; no_begin = refl; owning = v; locked = refl }

pub did_then : (a b c : Token) (call : Call) (xs ys : List Act) (p q : List ℕ) → Did a b call xs p → Did b c call ys q → Did a c call (xs ++ ys) q
did_then a b c call xs ys p q x y = record {
  goes = goes_then a b c xs ys x.goes y.goes;
  no_begin = none_begins-append xs ys x.no_begin y.no_begin;
  owning = y.owning;
  locked = y.locked ∙ x.locked;
}

-- steps that leave its locks
pub did_runs : (a b : Token) (call : Call) (added : List Act) (out : List ℕ) → IsOwning a call out → none_begins added ≡ true → Runs a b (by_all a.number added) → Stands b (stance a) → Did a b call added out
did_runs a b call added out v nb x s = record {
  goes = goes_does a b added x.does s.depth;
  no_begin = nb;
  owning = record {
    call_is = s.call ∙ v.call_is;
    outside = s.inside ∙ v.outside;
    owns = λ z. v.owns (sym s.depth ∙ z);
    out_is = s.out ∙ v.out_is;
    whole = s.whole;
    free = s.free ∙ v.free;
    pending = s.pending;
    prepared = s.prepared;
    owes = s.owes ∙ v.owes;
  };
  locked = s.locked;
}

-- a lock is taken
pub did_take : {T : Type 0} (tells : T → LayerState) (a b : Token) (call : Call) (out : List ℕ) (what : What) (state : T) → owed_with what [] ≡ [] → IsOwning a call out → HasTaken tells a b what state → Did a b call (acts.TakeLock what ∷ []) (slot_of what ∷ out)
did_take tells a b call out what state e v x =
    let s = x.stands in
    record {
      goes = goes_does a b (acts.TakeLock what ∷ []) x.reveals.does s.depth;
      no_begin = refl;
      owning = record {
        call_is = s.call ∙ v.call_is;
        outside = s.inside ∙ v.outside;
        owns = λ z. v.owns (sym s.depth ∙ z);
        out_is = s.out ∙ ap (λ (l : List ℕ). slot_of what ∷ l) v.out_is;
        whole = s.whole;
        free = s.free ∙ v.free;
        pending = s.pending;
        prepared = s.prepared;
        owes = s.owes ∙ (ap (owed_with what) v.owes ∙ e);
      };
      locked = s.locked;
    }

-- .. and given back
pub did_give : (a b : Token) (call : Call) (what : What) (more : List ℕ) → IsOwning a call (slot_of what ∷ more) → HasGiven a b what (by_all a.number (acts.GiveLock what ∷ [])) → Did a b call (acts.GiveLock what ∷ []) more
did_give a b call what more v x =
    let s = x.stands more v.out_is in
    record {
      goes = goes_does a b (acts.GiveLock what ∷ []) x.runs.does s.depth;
      no_begin = refl;
      owning = record {
        call_is = s.call ∙ v.call_is;
        outside = s.inside ∙ v.outside;
        owns = λ z. v.owns (sym s.depth ∙ z);
        out_is = s.out;
        whole = s.whole;
        free = s.free ∙ v.free;
        pending = s.pending;
        prepared = s.prepared;
        owes = s.owes ∙ v.owes;
      };
      locked = s.locked;
    }

---- The heap

-- others leave the heap to its owner
pub others_leave : (s : Setting) (m : Configuration) (n : ℕ) (es : List Entry) → own n es ≡ [] → may_all_follow s m es ≡ true → GateIsSound m.state.gate → is_caller n m.state.gate.owner ≡ true
    → SameHeap (configuration_after s m es) m × (is_caller n (configuration_after s m es).state.gate.owner ≡ true)
others_leave s m n es none h g o =
    let r = agrees_others s m n es none h g in
    (r.owned o, r.owner ∙ o)

-- So behind steps that only take a lock the heap is as before.
pub taken_leaves : (a b : Token) (what : What) (x : Does a b (entry a.number (acts.TakeLock what) ∷ [])) → IsStanding a → a.depth ≢ 0 → a.prepared ≡ [] → b.prepared ≡ [] → Always b (λ s. SameHeap (now s b) (now s a))
taken_leaves a b what x st owns none left s q =
    let n = a.number in
    let act = acts.TakeLock what in
    let es = entry n act ∷ [] in
    let qa = setting_of_old a b es x s q in
    let m0 = configuration_of s a.seen in
    let l = legal_since a b es x s q in
    let y = split n x.seen.0 (entry n act) [] (own_since a b es x none) in
    let follow = follow_parts s m0 y.first (entry n act ∷ y.later) (ap (may_all_follow s m0) (sym y.is) ∙ l.1) in
    let one = others_leave s m0 n y.first y.none follow.0 l.0 (owner_is a st owns none s qa) in
    let m1 = configuration_after s m0 y.first in
    let g1 = gate_sound_after s m0 y.first follow.0 l.0 in
    let p = and_parts (may_follow s m1 (entry n act)) (may_all_follow s (after s m1 (entry n act)) y.later) follow.1 in
    let m2 = after s m1 (entry n act) in
    let g2 = gate_sound_act s m1 n act (row_of s m1 (entry n act) p.0) g1 in
    let two : SameHeap m2 m1 = record { back = refl; vs = refl; lfh = refl; large = refl; words = refl; span_history = refl } in
    let three = others_leave s m2 n y.later y.others p.1 g2 one.1 in
    let end : configuration_after s m0 x.seen.0 ≡ configuration_after s m2 y.later = ap (configuration_after s m0) y.is ∙ after-append s m0 y.first (entry n act ∷ y.later) in
    let seen : configuration_of s b.seen ≡ configuration_after s m2 y.later = ap (configuration_of s) (sym x.seen.1) ∙ (after-append s first_configuration a.seen x.seen.0 ∙ end) in
    let all : SameHeap (configuration_after s m2 y.later) m0 = same_heap_trans (configuration_after s m2 y.later) m2 m0 three.0 (same_heap_trans m2 m1 m0 two one.0) in
    let at_b : now s b ≡ configuration_after s m2 y.later = ap (configuration_after s (configuration_of s b.seen)) left ∙ seen in
    let at_a : now s a ≡ m0 = ap (configuration_after s m0) none in
    subst (λ (k : Configuration). SameHeap k (now s a)) (sym at_b) (subst (SameHeap (configuration_after s m2 y.later)) (sym at_a) all)
