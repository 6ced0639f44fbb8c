-- A caller behind a step with several entries of its own that open nothing to it: a subsegment made with its first place, and one given up.
use Rattle.std.proofs.Common.{◌≡◌, ℕ, ◌/◌, ◌==◌, Bool, true, false, List, [], ◌∷◌, Option, Some, None, refl, sym, ap, ◌∙◌, subst, inl, inr, eq-eqb}
use Rattle.std.specs.Prelude.{nat_lt}
use Rattle.std.specs.List.{AllByRecursion}
use Rattle.std.proofs.lemmas.Bool.{cases_Bool, and_parts, and_from, false≢true}
use Rattle.atomic_table.specs.Table.{Me}
use Rattle.atomic_table.specs.Seated.{TableId}
use Rattle.rand_core.specs.Stream.{Stream}
use Rattle.heap_model.specs.declared.Act.{Act}
use Rattle.heap_model.specs.declared.Act.TheVariants as acts
use Rattle.heap_model.specs.declared.Call.{Call}
use Rattle.heap_model.specs.declared.Entry.{Entry}
use Rattle.heap_model.specs.declared.Kind.TheVariants as kinds
use Rattle.heap_model.specs.declared.Layer.TheVariants as layers
use Rattle.heap_model.specs.State.{Setting, GateAndLocks, hands, holds, is_among, is_caller, is_entered, updated}
use Rattle.heap_model.specs.Buckets.{block_size, block_address}
use Rattle.heap_model.specs.CallState.{Configuration, CallState, Search, Nothing}
use Rattle.heap_model.specs.Search.{SearchKey, asked_bucket, after_own_span}
use Rattle.heap_model.specs.Legal.{after, call_after, step_search, may_follow}
use Rattle.heap_model.specs.History.{configuration_after, configuration_of, may_all_follow}
use Rattle.heap_model.specs.Agreement.{AgreesFor, reveals_nothing}
use Rattle.heap_model.proofs.GateSound.{row_of}
use Rattle.heap_model.proofs.Own.{act_agrees}
use Rattle.claim_rule.specs.declared.views.View.{View}
use Rattle.claim_rule.specs.Entries.{IsSettingOf, entry, is_by}
use Rattle.claim_rule.specs.Rule.{ready_after}
use Rattle.claim_rule.specs.Plays.{Goes, GoesIn}
use Rattle.span_steps.specs.Installs.{IsReserving, owed_by_install}
use Rattle.span_steps.specs.Retires.{owed_by_retire}
use Rattle.step_parts.specs.InHand.{HasBlock}
use Rattle.heap_gate.specs.Token.{IsAt, IsCaller, AreOut, SearchMarks, search_marks_from, outs}
use Rattle.heap_gate.specs.Seated.{Face, tok}
use Rattle.heap_gate.specs.Calls.{Runs}
use Rattle.heap_gate.proofs.Standing.{at_plain, at_prepared}
use Rattle.heap_gate.proofs.Tokens.{Behind, Acted, acted, as_was, faced, marks, moved_by, at_behind, with_left, same_in_hand}
use Rattle.lfh_spans.specs.Stores.{HasMade, reserving_in, made_with}

---- Entries that open nothing

-- all are entries of n, which knows what is behind each by what it knew before
abbrev pub AreClosed : ℕ → List Entry → Type 0
AreClosed n es = AllByRecursion (λ e. (e.caller ≡ n) × ((m : Configuration) → reveals_nothing m n e.act ≡ true)) es

pub closed_by : (n : ℕ) (es : List Entry) → AreClosed n es → is_by n es ≡ true
closed_by n [] c = refl
closed_by n (e ∷ es) c = and_from (e.caller == n) (is_by n es) (eq-eqb e.caller n c.0.0) (closed_by n es c.1)

acts_agree : (s : Setting) (n : ℕ) (m k : Configuration) (es : List Entry) → AgreesFor n m k → may_all_follow s m es ≡ true → AreClosed n es → AgreesFor n (configuration_after s m es) (configuration_after s k es)
acts_agree s n m k [] r f c = r
acts_agree s n m k (e ∷ es) r f c =
    let p = and_parts (may_follow s m e) (may_all_follow s (after s m e) es) f in
    acts_agree s n (after s m e) (after s k e) es (one p.0) p.1 c.1
  where
    one : may_follow s m e ≡ true → AgreesFor n (after s m e) (after s k e)
    one g =
        let mine : may_follow s m (record { caller = n; act = e.act }) ≡ true = subst (λ (x : ℕ). may_follow s m (record { caller = x; act = e.act }) ≡ true) c.0.0 g in
        subst (λ (x : ℕ). AgreesFor n (after s m (record { caller = x; act = e.act })) (after s k (record { caller = x; act = e.act }))) (sym c.0.0)
        (act_agrees s n m k r e.act (row_of s m (record { caller = n; act = e.act }) mine) (c.0.1 k))

-- what is behind them all
closed_agrees : (s : Setting) (n : ℕ) (v w : View) (es ds : List Entry) → GoesIn s n v w es ds → AreClosed n ds → AgreesFor n (configuration_of s w.seen) (configuration_after s (ready_after s v es) ds)
closed_agrees s n v w es ds g c =
    subst (λ (m : Configuration). AgreesFor n m (configuration_after s (ready_after s v es) ds)) (sym g.behind) (acts_agree s n g.before (ready_after s v es) ds g.agrees g.follows c)

---- The entries of a subsegment that is made

pub reserves : (n reserved first : ℕ) → IsReserving n (reserving_in n reserved first)
reserves n reserved first = elim (cases_Bool (nat_lt (first / 256) reserved)) [ inl e ↦ rw e (inl refl) | inr e ↦ rw e (inr (reserved, refl)) ]

pub made_closed : (n reserved first pages b t i : ℕ) → AreClosed n (made_with n (reserving_in n reserved first) first pages b t i)
made_closed n reserved first pages b t i = elim (cases_Bool (nat_lt (first / 256) reserved)) [
  | inl e ↦ rw e ((refl, λ m. refl), ((refl, λ m. refl), tt))
  | inr e ↦ rw e ((refl, λ m. refl), ((refl, λ m. refl), ((refl, λ m. refl), tt)))
]

made_marks : (k : SearchMarks) (n reserved first pages b t i : ℕ) → search_marks_from k (made_with n (reserving_in n reserved first) first pages b t i) ≡ k
made_marks k n reserved first pages b t i = elim (cases_Bool (nat_lt (first / 256) reserved)) [ inl e ↦ rw e refl | inr e ↦ rw e refl ]

module _ (s : Setting) (n : ℕ) (c : Option Call) (f i : Bool) (d : ℕ) (out : List ℕ) where
  -- an act that leaves the gate and the call
  at_act : (m : Configuration) (w e w' : Bool) (act : Act) → (after s m (entry n act)).state.gate ≡ m.state.gate → (call_after s n (m.now.calls n) act).call ≡ (m.now.calls n).call → (call_after s n (m.now.calls n) act).entered ≡ (m.now.calls n).entered
      → (w' ≡ true → (after s m (entry n act)).now.demand ≡ Nothing) → IsAt m n c f i d out w e → IsAt (after s m (entry n act)) n c f i d out w' false
  at_act m w e w' act gate call entered demand h =
      let u : updated m.now.calls n (call_after s n (m.now.calls n) act) n ≡ call_after s n (m.now.calls n) act = (let q = eq-eqb n n refl in rw q refl) in
      record {
        entered = ap (λ (g : GateAndLocks). is_entered g n) gate ∙ h.entered;
        turning = ap (λ (g : GateAndLocks). is_among n g.turning) gate ∙ h.turning;
        owns = ap (λ (g : GateAndLocks). is_caller n g.owner) gate ∙ h.owns;
        locks = λ x. ap (λ (g : GateAndLocks). holds g n x) gate ∙ h.locks x;
        hands = λ y. absurd (false≢true y);
        begun = h.begun;
        call = ap (λ (x : CallState). x.call) u ∙ (call ∙ h.call);
        fresh = λ y. ap (λ (x : CallState). x.entered) u ∙ (entered ∙ h.fresh y);
        demand = demand;
      }

  -- the call of a caller whose search goes on
  searching : (k : CallState) (g : SearchKey → Search → Search) (o : Option ℕ) → ((step_search s n k g o).call ≡ k.call) × ((step_search s n k g o).entered ≡ k.entered)
  searching k g None = (refl, refl)
  searching k g (Some b) = (refl, refl)

  at_span : (m : Configuration) (w e : Bool) (first pages b t : ℕ) → IsAt m n c f i d out w e → IsAt (after s m (entry n (acts.Span first pages kinds.Lfh b t))) n c f i d out false false
  at_span m w e first pages b t h =
      let g = searching (m.now.calls n) (λ g x. after_own_span g x first) (asked_bucket (m.now.calls n)) in
      at_act m w e false (acts.Span first pages kinds.Lfh b t) refl g.0 g.1 (λ y. absurd (false≢true y)) h

  at_place : (m : Configuration) (w e : Bool) (start granules : ℕ) → IsAt m n c f i d out w e → IsAt (after s m (entry n (acts.Place start granules layers.Lfh))) n c f i d out true false
  at_place m w e start granules h = at_act m w e true (acts.Place start granules layers.Lfh) refl refl refl (λ _. refl) h

  pub at_made : (m : Configuration) (w e : Bool) (reserved first pages b t j : ℕ) → IsAt m n c f i d out w e → IsAt (configuration_after s m (made_with n (reserving_in n reserved first) first pages b t j)) n c f i d out true false
  at_made m w e reserved first pages b t j h = elim (cases_Bool (nat_lt (first / 256) reserved)) [
    | inl y ↦ rw y (at_place (after s m span) false false (block_address b first j) (block_size b / 16) (at_span m w e first pages b t h))
    | inr y ↦ rw y (at_place (after s (after s m reserve) span) false false (block_address b first j) (block_size b / 16)
        (at_span (after s m reserve) false e first pages b t (at_prepared s m n c f i d out w e h (acts.Reserve reserved) refl)))
  ]
    where
      span : Entry
      span = entry n (acts.Span first pages kinds.Lfh b t)

      reserve : Entry
      reserve = entry n (acts.Reserve reserved)

---- The caller behind the step

module _ {T : Type 0} (z : TableId) (me : Me (Option T) View) (f : Face) (slot : ℕ) (stream : Stream) (h : IsCaller me (tok z me f) slot stream) (w : f.whole ≡ true)
    (me' : Me (Option T) View) (slots : me'.1 ≡ me.1) (z' : TableId) (ez : z' ≡ z) (left : List Entry) (le : left ≡ []) where
  module _ (inside : f.inside ≡ true) (reserved first pages b t i hint : ℕ) (owes : me'.0.owes ≡ owed_by_install b t hint first pages me.0.owes)
      (go : Goes f.number me.0 me'.0 f.prepared (made_with f.number (reserving_in f.number reserved first) first pages b t i))
      (tells : (s : Setting) → IsSettingOf me'.0.opening me'.0.roll s → HasBlock (configuration_of s me'.0.seen) f.number b (block_address b first i)) where
    abbrev deeds : List Entry
    deeds = made_with f.number (reserving_in f.number reserved first) first pages b t i

    abbrev pub behind_make : Behind z me f slot stream h
    behind_make = record { fresh = f.fresh; locked = f.locked; inside = f.inside; depth = f.depth; free = false; out = outs me.1; marks = marks z me f slot stream h }

    not_outside : {A : Type 0} → f.inside ≡ false → A
    not_outside e = absurd (false≢true (sym e ∙ inside))

    by_it : is_by f.number deeds ≡ true
    by_it = closed_by f.number deeds (made_closed f.number reserved first pages b t i)

    pub is_made : Acted z me f slot stream h me' z' left (made_with f.number (reserving_in f.number reserved first) first pages b t i) behind_make (owed_by_install b t hint first pages me.0.owes)
    is_made = acted z me f slot stream h w me' deeds (moved_by z me f slot stream h me'.0 deeds by_it go) z' left ez le behind_make (record {
      slots = subst AreOut (sym slots) h.slots;
      out_is = ap outs slots;
      at = at_behind z me f slot stream h me'.0 deeds by_it go (λ m. IsAt m f.number f.call f.fresh f.inside f.depth (outs me.1) true false)
          (λ s m a. at_made s f.number f.call f.fresh f.inside f.depth (outs me.1) m f.whole f.free reserved first pages b t i a);
      marks_are = made_marks (marks z me f slot stream h) f.number reserved first pages b t i;
      made_is = refl;
      rests = λ e. not_outside e;
      drawn = λ e. not_outside e;
    }) (owed_by_install b t hint first pages me.0.owes) owes

    pub has_made : HasMade (tok z me f) (tok z' me' (faced z me f slot stream h behind_make left)) (reserving_in f.number reserved first) first pages b t i hint
    has_made = record {
      does = is_made.does;
      agrees = with_left z me f slot stream h me' left le (λ s m. AgreesFor f.number m (configuration_after s (ready_after s me.0 f.prepared) deeds))
          (λ s q. closed_agrees s f.number me.0 me'.0 f.prepared deeds (go.goes s q) (made_closed f.number reserved first pages b t i));
      block = with_left z me f slot stream h me' left le (λ s m. HasBlock m f.number b (block_address b first i)) tells;
      stands = is_made.stands;
    }

  module _ (first pages b t : ℕ) (owes : me'.0.owes ≡ owed_by_retire b t first pages me.0.owes) (go : Goes f.number me.0 me'.0 f.prepared (entry f.number (acts.Unspan first) ∷ [])) where
    abbrev deed : List Entry
    deed = entry f.number (acts.Unspan first) ∷ []

    closed : AreClosed f.number (entry f.number (acts.Unspan first) ∷ [])
    closed = ((refl, λ m. refl), tt)

    pub is_given_up : Acted z me f slot stream h me' z' left (entry f.number (acts.Unspan first) ∷ []) (as_was z me f slot stream h) (owed_by_retire b t first pages me.0.owes)
    is_given_up = acted z me f slot stream h w me' deed (moved_by z me f slot stream h me'.0 deed (closed_by f.number deed closed) go) z' left ez le (as_was z me f slot stream h) (record {
      slots = subst AreOut (sym slots) h.slots;
      out_is = ap outs slots;
      at = at_behind z me f slot stream h me'.0 deed (closed_by f.number deed closed) go (λ m. IsAt m f.number f.call f.fresh f.inside f.depth (outs me.1) true f.free)
          (λ s m a. at_plain s m f.number f.call f.fresh f.inside f.depth (outs me.1) f.whole f.free (acts.Unspan first) refl refl refl refl a);
      marks_are = refl;
      made_is = refl;
      rests = h.even.rests;
      drawn = h.even.drawn;
    }) (owed_by_retire b t first pages me.0.owes) owes

    pub gives_up : Runs (tok z me f) (tok z' me' (faced z me f slot stream h (as_was z me f slot stream h) left)) (entry f.number (acts.Unspan first) ∷ [])
    gives_up = record {
      does = is_given_up.does;
      agrees = with_left z me f slot stream h me' left le (λ s m. AgreesFor f.number m (configuration_after s (ready_after s me.0 f.prepared) deed))
          (λ s q. closed_agrees s f.number me.0 me'.0 f.prepared deed (go.goes s q) closed);
      hands = with_left z me f slot stream h me' left le (λ s m. hands m.state f.number ≡ hands (ready_after s me.0 f.prepared).state f.number)
          (λ s q. same_in_hand s f.number me.0 me'.0 f.prepared deed (go.goes s q) (λ m. refl));
    }
