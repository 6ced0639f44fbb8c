-- An allocation whose first pass is spent takes the lock of the back end, and goes on with its search.
use Rattle.std.proofs.Common.{◌≡◌, ℕ, ◌<◌, ◌==◌, Bool, true, false, not, ◌||◌, List, [], ◌∷◌, Some, sym, ap, ◌∙◌, subst, arith}
use Rattle.heap_model.specs.declared.Act.TheVariants as acts
use Rattle.heap_model.specs.declared.Call.TheVariants as calls
use Rattle.heap_model.specs.declared.Limits.{Limits}
use Rattle.heap_model.specs.declared.What.TheVariants as whats
use Rattle.heap_model.specs.Limits.{AreValid}
use Rattle.heap_model.specs.CallState.{Configuration}
use Rattle.heap_model.specs.Layers.{StandsForVs}
use Rattle.heap_model.specs.Legal.{leaves_whole}
use Rattle.heap_model.specs.State.{Setting}
use Rattle.claim_rule.specs.Entries.{IsSettingOf}
use Rattle.claim_rule.specs.Places.{back_slot}
use Rattle.vs_layer.specs.Kept.{VsKept}
use Rattle.vs_layer.specs.Standing as vss
use Rattle.backend_fit.specs.Kept.{Kept, layer_of}
use Rattle.heap_gate.specs.Token.{Token, now, is_out, IsStanding}
use Rattle.heap_gate.specs.Calls.{Does, HasTaken, IsUnder, with_prepared}
use Rattle.lfh_claims.specs.Search.{own_slot}
use Rattle.lfh_search.specs.declared.course.Course.{Course}
use Rattle.lfh_search.specs.Under.{HasNotSaid, HasNoPages}
use Rattle.lfh_search.proofs.Taking.{spent_goes_under}
use Rattle.call_parts.specs.Calls.{GoesOn}
use Rattle.call_parts.proofs.Joining.{goes_does, goes_then, setting_before}
use Rattle.call_parts.proofs.Tokens.{now_more}
use Rattle.small_calls.specs.Under.{SearchesOn, IsServedUnderBack}
use Rattle.small_calls.specs.GoingOn.{HasSpent, IsWithoutRoom}
use Rattle.small_calls.specs.Ways.{KeepsVs}
use Rattle.small_calls.proofs.Found.{drawing, same_by}
use Rattle.small_calls.proofs.Guarded.{read_left}
use Rattle.small_calls.proofs.BackHeld.{vs_kept}

---- Where the caller stands behind its first pass

module _ (c : Token) (n b d lost : ℕ) (zero_it : Bool) (out : List ℕ) (x : HasSpent c n zero_it b d lost out) where
  pub inside_is : c.inside ≡ true
  inside_is = x.spent.stands.inside ∙ x.asking.serving.inside

  pub out_is : c.out ≡ out
  out_is = x.spent.stands.out ∙ x.asking.serving.out_is

  pub under_still : IsUnder c.inside c.depth
  under_still = ap (λ (y : Bool). y || not (c.depth == 0)) inside_is

pub few_slots : (l : Limits) (slot : ℕ) → AreValid l → slot < l.slots → slot < 16
few_slots l slot v h = let few = v.slots in omega (arith, h, few)

---- The lock is taken

module _ (c e : Token) (back : Kept) (course : Course) (lost n : ℕ) (zero_it : Bool) (out : List ℕ) (x : HasSpent c n zero_it course.bucket course.draw.value lost out) (t : HasTaken layer_of c e whats.Back back) (stc : IsStanding c) (st : IsStanding e)
    (free : is_out whats.Back c.out ≡ false) (few : own_slot e < 16) where
  goes_taken : GoesOn c e (acts.TakeLock whats.Back ∷ [])
  goes_taken = goes_does c e (acts.TakeLock whats.Back ∷ []) t.reveals.does t.stands.depth

  call_e : e.call ≡ Some (calls.Alloc n x.asking.flags)
  call_e = t.stands.call ∙ (x.spent.stands.call ∙ x.asking.serving.call_is)

  not_said : HasNotSaid (drawing x.begun)
  not_said s q = (x.asking.serving.is_new s q).no_span

  pub searches_on : SearchesOn e back course lost n zero_it out
  searches_on =
      let v = x.asking.serving in let s = x.spent.stands in let w = t.stands in
      let u = spent_goes_under (drawing x.begun) c e back course lost n x.asking.flags x.spent not_said t st call_e in
      record {
        flags = x.asking.flags;
        zero_is = x.asking.zero_is;
        call_is = call_e;
        fresh = w.fresh ∙ (s.fresh ∙ v.fresh);
        inside = w.inside ∙ (s.inside ∙ v.inside);
        whole = w.whole;
        free = w.free ∙ (s.free ∙ v.free);
        pending = w.pending;
        prepared = w.prepared;
        drawn = w.drawn ∙ s.drawn;
        out_is = w.out ∙ ap (λ (l : List ℕ). back_slot ∷ l) (s.out ∙ v.out_is);
        only = ap (is_out whats.Back) (sym (s.out ∙ v.out_is)) ∙ free;
        slot = few;
        search = u.1.0;
        under = u.1.1;
        first = u.0;
      }

  before_e : (s : Setting) → IsSettingOf e.opening e.roll s → IsSettingOf c.opening c.roll s
  before_e s q = setting_before c e (acts.TakeLock whats.Back ∷ []) goes_taken s q

  out_vs : is_out whats.Vs c.out ≡ true → is_out whats.Vs e.out ≡ true
  out_vs there = ap (is_out whats.Vs) t.stands.out ∙ there

  taken_keeps : (vs : VsKept) → is_out whats.Vs c.out ≡ true → KeepsVs c vs → KeepsVs e vs
  taken_keeps vs there k = vs_kept c e vs goes_taken.opening before_e (λ s q. let g = t.guarded s q in let h = (stc s (before_e s q)).locks whats.Vs ∙ there in (g.vs h, g.spans h)) k

  pub placed_under : (d : Token) (addr : ℕ) → IsServedUnderBack e d (calls.Alloc n searches_on.flags) course.bucket n zero_it addr out → IsServedUnderBack c d (calls.Alloc n x.asking.flags) course.bucket n zero_it addr out
  unfolding searches_on
  placed_under d addr y = record {
    head = y.head;
    index = y.index;
    at = y.at;
    added = acts.TakeLock whats.Back ∷ y.added;
    goes = goes_then c e d (acts.TakeLock whats.Back ∷ []) y.added goes_taken y.goes;
    no_begin = y.no_begin;
    no_vs = y.no_vs;
    shape_is = y.shape_is;
    rests = y.rests;
    keeps = λ vs there k. y.keeps vs (out_vs there) (taken_keeps vs there k);
  }

  no_pages_keeps : (d : Token) (after : Kept) (now_lost : ℕ) → HasNoPages e d back after course lost now_lost → (vs : VsKept) → is_out whats.Vs e.out ≡ true → KeepsVs e vs → KeepsVs d vs
  no_pages_keeps d after now_lost y vs there k =
      let r = y.runs in
      let before : (s : Setting) → IsSettingOf y.behind.opening y.behind.roll s → IsSettingOf e.opening e.roll s = λ s q. setting_before e y.behind y.its (goes_does e y.behind y.its (subst (Does e y.behind) (same_by e.number y.its) r.does) y.stands.depth) s q in
      let one : KeepsVs y.behind vs = vs_kept e y.behind vs r.does.opening before
      (λ s q. let g = (read_left s e.number y.its (now s e) (now s y.behind) y.are (r.agrees s q)).guarded in let h = (st s (before s q)).locks whats.Vs ∙ there in (g.vs h, g.spans h)) k in
      let said = acts.NoSpan course.bucket in
      let two : KeepsVs (with_prepared y.behind (acts.NoSpan course.bucket)) vs = record {
        tells = λ s q. subst (λ (m : Configuration). StandsForVs y.behind.opening m.state (vss.layer_of vs)) (sym (now_more s y.behind said)) (one.tells s q);
        used = λ s q. subst (λ (m : Configuration). leaves_whole m.state whats.Vs ≡ true) (sym (now_more s y.behind said)) (one.used s q);
      } in
      subst (λ (z : Token). KeepsVs z vs) (sym y.prepared) two

  pub without_room : (d : Token) (after : Kept) (now_lost : ℕ) → HasNoPages e d back after course lost now_lost → IsWithoutRoom c d after course lost now_lost n zero_it out
  without_room d after now_lost y = record { taken = e; goes = goes_taken; call = t.stands.call; back = back; on = searches_on; none = y; keeps = λ vs there k. no_pages_keeps d after now_lost y vs (out_vs there) (taken_keeps vs there k) }
