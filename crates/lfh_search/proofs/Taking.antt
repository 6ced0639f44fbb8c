-- An allocation that takes a lock searches as it did.
use Rattle.std.proofs.Common.{◌≡◌, ℕ, Bool, true, false, not, ◌&&◌, List, [], ◌∷◌, ◌++◌, Option, Some, None, refl, sym, ap, ◌∙◌, subst, eqb, eq-eqb, inl, inr, if◌then◌else◌}
use Rattle.std.specs.Prelude.{is_some, option_and_then}
use Rattle.std.proofs.lemmas.Bool.{cases_Bool, or_right}
use Rattle.heap_model.specs.declared.Act.{Act}
use Rattle.heap_model.specs.declared.Act.TheVariants as acts
use Rattle.heap_model.specs.declared.Call.{Call}
use Rattle.heap_model.specs.declared.Call.TheVariants as calls
use Rattle.heap_model.specs.declared.Entry.{Entry}
use Rattle.heap_model.specs.declared.Flags.{Flags}
use Rattle.heap_model.specs.declared.Opening.{Opening}
use Rattle.heap_model.specs.declared.What.{What}
use Rattle.heap_model.specs.declared.What.TheVariants as whats
use Rattle.heap_model.specs.Buckets.{bucket_of}
use Rattle.heap_model.specs.Layers.{sorted_back}
use Rattle.heap_model.specs.Stay.{for_some}
use Rattle.heap_model.specs.State.{Setting, State, updated, holds}
use Rattle.heap_model.specs.CallState.{Configuration, CallState, Search, Stage, AtHint}
use Rattle.heap_model.specs.Search.{searched, sought, sought_by, draw_of, has_not_begun}
use Rattle.heap_model.specs.Legal.{after, state_after}
use Rattle.heap_model.specs.History.{configuration_after, configuration_of, first_configuration}
use Rattle.heap_model.specs.Agreement.{moves_exclusive}
use Rattle.heap_soundness.proofs.MadeSpans.{search_is}
use Rattle.claim_rule.specs.Entries.{IsSettingOf, entry}
use Rattle.claim_rule.specs.Places.{vs_slot}
use Rattle.claim_rule.proofs.Lists.{after-append}
use Rattle.backend_fit.specs.Kept.{Kept}
use Rattle.heap_gate.specs.Token.{Token, now, Always, is_out, IsStanding}
use Rattle.heap_gate.specs.Calls.{Reveals, Stands, IsGuarded, stance}
use Rattle.lfh_claims.specs.Search.{own_slot}
use Rattle.lfh_spans.specs.Subsegments.{IsBackOf}
use Rattle.lfh_search.specs.declared.course.Course.{Course}
use Rattle.lfh_search.specs.Laws.{SpentGoesUnder, NoRoomGoesAgain, NoRoomTakesVs}
use Rattle.lfh_search.specs.Standing.{IsSearching}
use Rattle.lfh_search.specs.Results.{Searches}
use Rattle.lfh_search.specs.Passes.{as_pass, as_pass_at, IsOfPass}
use Rattle.lfh_search.specs.Under.{MayBeginPass, IsUnder, IsAgain, HasNotSaid, HasNoPages}
use Rattle.lfh_search.proofs.Steps.{earlier}
use Rattle.lfh_search.proofs.Hinting.{slot_by_does}
use Rattle.lfh_search.proofs.Entering.{said_on}

---- A bucket that is active stays so

active_act : (st : State) (k : CallState) (c : ℕ) (act : Act) (b : ℕ) → st.vs.active b ≡ true → (state_after st k c act).vs.active b ≡ true
active_act st k c (acts.Active bucket) b h = elim (cases_Bool (eqb b bucket)) [ inl f ↦ rw f refl | inr f ↦ rw f h ]
active_act st k c (acts.Blocked whats.Gate word) b h = h
active_act st k c _ b h = h

active_through : (s : Setting) (m : Configuration) (es : List Entry) (b : ℕ) → m.state.vs.active b ≡ true → (configuration_after s m es).state.vs.active b ≡ true
active_through s m [] b h = h
active_through s m (e ∷ es) b h = active_through s (after s m e) es b (active_act m.state (m.now.calls e.caller) e.caller e.act b h)

at_once : (f : ℕ → CallState) (n : ℕ) (x : CallState) → updated f n x n ≡ x
at_once f n x = let e = eq-eqb n n refl in rw e refl

---- A lock is taken

module _ (c e : Token) (what : What) (r : Reveals c e (entry c.number (acts.TakeLock what) ∷ [])) where
  pub before : (s : Setting) → IsSettingOf e.opening e.roll s → IsSettingOf c.opening c.roll s
  before s q = earlier c e (entry c.number (acts.TakeLock what) ∷ []) r.does s q

  -- the call is as it was
  pub call_same : (s : Setting) → IsSettingOf e.opening e.roll s → (now s e).now.calls c.number ≡ (now s c).now.calls c.number
  call_same s q = (r.agrees s q).call ∙ at_once (now s c).now.calls c.number ((now s c).now.calls c.number)

  pub said_same : (x : Bool) → Always c (λ s. ((now s c).now.calls c.number).no_span ≡ x) → Always e (λ s. ((now s e).now.calls e.number).no_span ≡ x)
  said_same x h s q = ap (λ (n : ℕ). ((now s e).now.calls n).no_span) r.does.number ∙ (ap (λ (k : CallState). k.no_span) (call_same s q) ∙ h s (before s q))

  module _ (b d : ℕ) (f : Search) (h : Searches c b d f) (st : IsStanding e) (size : ℕ) (flags : Flags) (call : e.call ≡ Some (calls.Alloc size flags))
      (kept : (s : Setting) → (configuration_of s c.seen).state.vs.active b ≡ (now s c).state.vs.active b) where
    abbrev n : ℕ
    n = c.number

    call_e : (s : Setting) → IsSettingOf e.opening e.roll s → ((now s e).now.calls n).call ≡ Some (calls.Alloc size flags)
    call_e s q = ap (λ (k : ℕ). ((now s e).now.calls k).call) (sym r.does.number) ∙ ((st s q).call ∙ call)

    -- the bucket that an allocation of this size searches, where nothing is placed
    abbrev wanted : Bool → Option ℕ
    wanted placed = option_and_then bucket_of (if placed then None else Some size)

    wanted_is : (s : Setting) (m : State) (k : CallState) → k.call ≡ Some (calls.Alloc size flags) → option_and_then bucket_of (sought s m n k) ≡ wanted k.placed
    wanted_is s m k w = ap (λ (o : Option Call). option_and_then bucket_of (if k.placed then None else option_and_then (sought_by s m n) o)) w

    active_e : (s : Setting) → IsSettingOf e.opening e.roll s → (now s c).state.vs.active b ≡ true → (now s e).state.vs.active b ≡ true
    active_e s q a =
        let d = r.does in
        let is : configuration_after s (configuration_of s c.seen) d.seen.0 ≡ configuration_of s e.seen = sym (after-append s first_configuration c.seen d.seen.0) ∙ ap (configuration_of s) d.seen.1 in
        subst (λ (l : List Entry). (configuration_after s (configuration_of s e.seen) l).state.vs.active b ≡ true) (sym d.prepared)
        (subst (λ (m : Configuration). m.state.vs.active b ≡ true) is (active_through s (configuration_of s c.seen) d.seen.0 b (kept s ∙ a)))

    here : (s : Setting) → IsSettingOf e.opening e.roll s → IsSearching s (now s e) c.number b (own_slot c) d f
    here s q =
        let x = h s (before s q) in
        let k = call_same s q in
        let a = r.agrees s q in
        let call_c : ((now s c).now.calls n).call ≡ Some (calls.Alloc size flags) = sym (ap (λ (y : CallState). y.call) k) ∙ call_e s q in
        let p = search_is (now s c).state.vs.active (option_and_then bucket_of (sought s (now s c).state n ((now s c).now.calls n))) b x.seeks in
        let o : option_and_then bucket_of (sought s (now s e).state n ((now s e).now.calls n)) ≡ Some b = wanted_is s (now s e).state ((now s e).now.calls n) (call_e s q)
        ∙ (ap (λ (y : CallState). wanted y.placed) k ∙ (sym (wanted_is s (now s c).state ((now s c).now.calls n) call_c) ∙ p.0)) in
        let act = active_e s q p.1 in
        record {
          begun = ap is_some (call_e s q);
          inside = (λ j. a.counted j && not (a.turning j)) ∙ x.inside;
          seeks = ap (searched (now s e).state.vs.active) o ∙ (rw act refl);
          slot = x.slot;
          draw = ap (λ (y : CallState). draw_of s n y.searches) k ∙ x.draw;
          old = or_right ((now s e).now.calls n).placed _ (ap (λ (y : Option Call). for_some y (moves_exclusive (now s e) n)) (call_e s q));
          search = ap (λ (y : CallState). y.search) k ∙ x.search;
        }

    pub takes : Searches e b d f
    takes s q = subst (λ (z : ℕ × ℕ). IsSearching s (now s e) z.0 b z.1 d f) (λ j. (sym r.does.number j, sym (slot_by_does c e (entry c.number (acts.TakeLock what) ∷ []) b d f r.does h) j)) (here s q)

---- Back is taken behind a spent first pass

pub read_none : (f : Search) (x : Stage) → f.stage ≡ x → (as_pass_at f AtHint).read ≡ [] → x ≡ AtHint → (as_pass f).read ≡ []
read_none f x e z w = ap (λ (y : Stage). (as_pass_at f y).read) (e ∙ w) ∙ z

pub spent_goes_under : SpentGoesUnder
spent_goes_under a c e back course lost size flags x said t st call =
    let c_said : HasNotSaid c = said_on a c x.its x.are x.runs false said in
    let e_said : HasNotSaid e = said_same c e whats.Back t.reveals false c_said in
    let f = x.search in (
      e_said,
      (
        f,
        record {
          searching = takes c e whats.Back t.reveals course.bucket course.draw.value f x.searching st size flags call
              (λ s. ap (λ (l : List Entry). (configuration_after s (configuration_of s c.seen) l).state.vs.active course.bucket) (sym x.stands.prepared));
          lost_is = x.at.lost_is;
          few = x.at.few;
          picked = x.at.picked;
          begins = λ l. let y = x.at.ended l in record { begun = ap has_not_begun y.0; ended = y.1; none_read = read_none f f.stage refl refl y.0 };
          of_pass = λ l. subst (IsOfPass e) (sym (x.at.ended l).0) e_said;
          back_is = t.tells_it;
          out = ap (is_out whats.Back) t.stands.out;
          paid = t.stands.owes;
          searched = t.stands.searched ∙ x.stands.searched;
        },
      ),
    )

---- Behind NoSpan

again_begins : (f : Search) (lost : ℕ) → IsAgain f lost → MayBeginPass f
again_begins f lost z = record { begun = ap has_not_begun z.stage; ended = z.ended; none_read = ap (λ (y : Stage). (as_pass_at f y).read) z.stage ∙ z.read }

module _ (a c : Token) (back after_it : Kept) (course : Course) (f : Search) (lost now_lost : ℕ) (u : IsUnder a back course f lost) (x : HasNoPages a c back after_it course lost now_lost) where
  out_is : c.out ≡ a.out
  out_is = ap (λ (t : Token). t.out) x.prepared ∙ x.stands.out

  owes_is : c.owes ≡ []
  owes_is = ap (λ (t : Token). t.owes) x.prepared ∙ (x.stands.owes ∙ u.paid)

  searched_is : c.searched ≡ true
  searched_is = ap (λ (t : Token). t.searched) x.prepared ∙ (x.stands.searched ∙ u.searched)

  held_out : is_out whats.Back c.out ≡ true
  held_out = ap (is_out whats.Back) out_is ∙ u.out

  -- nothing that is prepared makes a bucket active
  kept : (s : Setting) → (configuration_of s c.seen).state.vs.active course.bucket ≡ (now s c).state.vs.active course.bucket
  kept s =
      let y : c.prepared ≡ entry x.behind.number (acts.NoSpan course.bucket) ∷ [] = ap (λ (t : Token). t.prepared) x.prepared ∙ ap (λ (l : List Entry). l ++ entry x.behind.number (acts.NoSpan course.bucket) ∷ []) x.stands.prepared in
      ap (λ (l : List Entry). (configuration_after s (configuration_of s c.seen) l).state.vs.active course.bucket) (sym y)

  pub goes_again : IsStanding c → is_out whats.Vs c.out ≡ true → IsUnder c after_it course x.search now_lost
  goes_again st vs = record {
    searching = x.searching;
    lost_is = x.at.lost_is;
    few = x.at.few;
    picked = x.at.picked;
    begins = λ _. again_begins x.search now_lost x.at;
    of_pass = λ _. subst (IsOfPass c) (sym x.at.stage) (λ s q. (st s q).locks whats.Vs ∙ vs);
    back_is = x.back_is;
    out = held_out;
    paid = owes_is;
    searched = searched_is;
  }

  module _ (e : Token) (r : Reveals c e (entry c.number (acts.TakeLock whats.Vs) ∷ [])) (w : Stands e (record (stance c) { out = vs_slot ∷ c.out })) (g : Always e (λ s. IsGuarded c.number (now s c) (now s e)))
      (st : IsStanding e) (size : ℕ) (flags : Flags) (call : e.call ≡ Some (calls.Alloc size flags)) where
    out_e : is_out whats.Back e.out ≡ true
    out_e = ap (is_out whats.Back) w.out ∙ held_out

    held_c : (s : Setting) → IsSettingOf e.opening e.roll s → holds (now s c).state.gate c.number whats.Back ≡ true
    held_c s q = sym ((r.agrees s q).locks whats.Back) ∙ (ap (λ (n : ℕ). holds (now s e).state.gate n whats.Back) (sym r.does.number) ∙ ((st s q).locks whats.Back ∙ out_e))

    back_e : IsBackOf e after_it
    back_e s q =
        let y = x.back_is s (before c e whats.Vs r s q) in
        record { lock = y.lock; limits = y.limits ∙ ap (λ (o : Opening). o.limits) (sym r.does.opening); part = y.part ∙ ap sorted_back (sym ((g s q).back (held_c s q))) }

    pub takes_vs : IsUnder e after_it course x.search now_lost
    takes_vs = record {
      searching = takes c e whats.Vs r course.bucket course.draw.value x.search x.searching st size flags call kept;
      lost_is = x.at.lost_is;
      few = x.at.few;
      picked = x.at.picked;
      begins = λ _. again_begins x.search now_lost x.at;
      of_pass = λ _. subst (IsOfPass e) (sym x.at.stage) (λ s q. (st s q).locks whats.Vs ∙ ap (is_out whats.Vs) w.out);
      back_is = back_e;
      out = out_e;
      paid = w.owes ∙ owes_is;
      searched = w.searched ∙ searched_is;
    }

pub no_room_goes_again : NoRoomGoesAgain
no_room_goes_again a c back after_it course f lost now_lost u x st vs = (x.said, (x.search, goes_again a c back after_it course f lost now_lost u x st vs))

pub no_room_takes_vs : NoRoomTakesVs
no_room_takes_vs a c e back after_it course f lost now_lost size flags u x r w g st call =
    (said_same c e whats.Vs r true x.said, (x.search, takes_vs a c back after_it course f lost now_lost u x e r w g st size flags call))
