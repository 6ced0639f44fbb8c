-- A block of the front end is given, and the lock of the back end behind it.
use Rattle.std.proofs.Common.{◌≡◌, ℕ, ◌==◌, Bool, true, not, ◌||◌, List, [], ◌∷◌, ◌++◌, sym, ap, ◌∙◌, subst, append_assoc}
use Rattle.std.specs.List.{list_all}
use Rattle.heap_model.specs.declared.Act.{Act}
use Rattle.heap_model.specs.declared.Act.TheVariants as acts
use Rattle.heap_model.specs.declared.Opening.{Opening}
use Rattle.heap_model.specs.declared.What.TheVariants as whats
use Rattle.heap_model.specs.Geometry.{page_bytes}
use Rattle.heap_model.specs.Layers.{StandsForVs, StandsForBack, sorted_vs, sorted_back}
use Rattle.heap_model.specs.Legal.{leaves_whole, has_place}
use Rattle.heap_model.specs.Ranges.{vs_spans}
use Rattle.heap_model.specs.Shape.{zeroing}
use Rattle.heap_model.specs.State.{Setting, holds}
use Rattle.claim_rule.specs.Entries.{IsSettingOf, entry}
use Rattle.claim_rule.specs.Places.{vs_slot, back_slot}
use Rattle.backend_fit.specs.Kept.{Kept, layer_of}
use Rattle.backend_fit.proofs.Told.{spans_used}
use Rattle.vs_layer.specs.Kept.{VsKept}
use Rattle.vs_layer.specs.Standing as vss
use Rattle.heap_gate.specs.Token.{Token, Always, now, is_out, IsStanding}
use Rattle.heap_gate.specs.Calls.{IsUnder, HasGiven}
use Rattle.lfh_spans.specs.Subsegments.{IsBackOf}
use Rattle.call_parts.specs.Entries.{HasEnded}
use Rattle.call_parts.proofs.Joining.{setting_before}
use Rattle.call_parts.proofs.Tokens.{ended_given, ended_then}
use Rattle.small_calls.specs.Fronts.{IsHandedOver}
use Rattle.small_calls.specs.Ways.{KeepsVs}
use Rattle.small_calls.specs.Under.{IsGivenUnderBack}

-- VS is as it was, and so are its spans
pub vs_kept : (c d : Token) (vs : VsKept) → d.opening ≡ c.opening → ((s : Setting) → IsSettingOf d.opening d.roll s → IsSettingOf c.opening c.roll s)
    → Always d (λ s. ((now s d).state.vs ≡ (now s c).state.vs) × (vs_spans (now s d).state.back.area ≡ vs_spans (now s c).state.back.area)) → KeepsVs c vs → KeepsVs d vs
vs_kept c d vs same before is k = record {
  tells = λ s q.
      let t = k.tells s (before s q) in let e = is s q in
      subst (λ (o : Opening). StandsForVs o (now s d).state (vss.layer_of vs)) (sym same) (record { lock = t.lock; limits = t.limits; key = t.key; part = t.part ∙ ap sorted_vs (sym e.0); spans = t.spans ∙ sym e.1 });
  used = λ s q. let e = is s q in (λ i. list_all (has_place page_bytes (e.0 i).places) (e.1 i)) ∙ k.used s (before s q);
}

module _ (a b : Token) (back : Kept) (addr n : ℕ) (zero_it : Bool) (more : List ℕ) (out : a.out ≡ back_slot ∷ more) (st : IsStanding a) (is : IsBackOf a back) (x : IsHandedOver a b addr n zero_it) where
  abbrev gives : List Act
  gives = zeroing zero_it addr n ++ acts.Give addr n ∷ []

  before : (s : Setting) → IsSettingOf b.opening b.roll s → IsSettingOf a.opening a.roll s
  before s q = setting_before a b gives x.ended.added.goes s q

  held_back : (s : Setting) → IsSettingOf a.opening a.roll s → holds (now s a).state.gate a.number whats.Back ≡ true
  held_back s q = (st s q).locks whats.Back ∙ ap (is_out whats.Back) out

  pub out_still : b.out ≡ back_slot ∷ more
  out_still = x.ended.out_is ∙ out

  pub under_still : a.inside ≡ true → IsUnder b.inside b.depth
  under_still inside = ap (λ (y : Bool). y || not (b.depth == 0)) (x.ended.added.steady.inside ∙ inside)

  stands_still : Always b (λ s. StandsForBack b.opening (now s b).state (layer_of back))
  stands_still s q =
      let t = is s (before s q) in let e = (x.guarded s q).back (held_back s (before s q)) in
      subst (λ (o : Opening). StandsForBack o (now s b).state (layer_of back)) (sym x.ended.added.goes.opening) (record { lock = t.lock; limits = t.limits; part = t.part ∙ ap sorted_back (sym e) })

  pub tells_still : Always b (λ s. (leaves_whole (now s b).state whats.Back ≡ true) × StandsForBack b.opening (now s b).state (layer_of back))
  tells_still s q = let t = stands_still s q in (spans_used b.opening (now s b).state back t, t)

  -- the lock is given back
  module _ (stb : IsStanding b) (d : Token) (g : HasGiven b d whats.Back (entry b.number (acts.GiveLock whats.Back) ∷ [])) where
    gone : HasEnded b d (acts.GiveLock whats.Back ∷ []) more
    gone = ended_given b d whats.Back more (acts.GiveLock whats.Back ∷ []) g out_still x.ended.free

    before_d : (s : Setting) → IsSettingOf d.opening d.roll s → IsSettingOf b.opening b.roll s
    before_d s q = setting_before b d (acts.GiveLock whats.Back ∷ []) gone.added.goes s q

    keeps : (vs : VsKept) → is_out whats.Vs a.out ≡ true → KeepsVs a vs → KeepsVs d vs
    keeps vs there k =
        let held : (s : Setting) → IsSettingOf a.opening a.roll s → holds (now s a).state.gate a.number whats.Vs ≡ true = λ s q. (st s q).locks whats.Vs ∙ there in
        let first : KeepsVs b vs = vs_kept a b vs x.ended.added.goes.opening before (λ s q. let y = x.guarded s q in let h = held s (before s q) in (y.vs h, y.spans h)) k in
        vs_kept b d vs gone.added.goes.opening before_d (λ s q.
        let r = g.runs.agrees s q in
        let h : holds (now s b).state.gate b.number whats.Vs ≡ true = (stb s (before_d s q)).locks whats.Vs ∙ (ap (is_out whats.Vs) x.ended.out_is ∙ there) in
        (r.vs h, r.spans h)) first

    pub given_under : IsGivenUnderBack a d addr n zero_it more
    given_under = record {
      ended = subst (λ (l : List Act). HasEnded a d l more) (append_assoc (zeroing zero_it addr n) (acts.Give addr n ∷ []) (acts.GiveLock whats.Back ∷ [])) (ended_then a b d gives (acts.GiveLock whats.Back ∷ []) more x.ended.added gone);
      keeps = keeps;
    }

---- Both locks

module _ (a d e : Token) (vs : VsKept) (addr n : ℕ) (zero_it : Bool) (inside : a.inside ≡ true) (out : a.out ≡ back_slot ∷ vs_slot ∷ []) (k : KeepsVs a vs) (x : IsGivenUnderBack a d addr n zero_it (vs_slot ∷ [])) where
  pub under_vs : IsUnder d.inside d.depth
  under_vs = ap (λ (y : Bool). y || not (d.depth == 0)) (x.ended.added.steady.inside ∙ inside)

  pub keeps_vs : KeepsVs d vs
  keeps_vs = x.keeps vs (ap (is_out whats.Vs) out) k

  pub back_first : HasGiven d e whats.Vs (entry d.number (acts.GiveLock whats.Vs) ∷ []) → HasEnded a e (zeroing zero_it addr n ++ acts.Give addr n ∷ acts.GiveLock whats.Back ∷ acts.GiveLock whats.Vs ∷ []) []
  back_first g =
      let last = ended_given d e whats.Vs [] (acts.GiveLock whats.Vs ∷ []) g x.ended.out_is x.ended.free in
      subst (λ (l : List Act). HasEnded a e l []) (append_assoc (zeroing zero_it addr n) (acts.Give addr n ∷ acts.GiveLock whats.Back ∷ []) (acts.GiveLock whats.Vs ∷ []))
      (ended_then a d e (zeroing zero_it addr n ++ acts.Give addr n ∷ acts.GiveLock whats.Back ∷ []) (acts.GiveLock whats.Vs ∷ []) [] x.ended.added last)

module _ (a b : Token) (vs : VsKept) (back : Kept) (addr n : ℕ) (zero_it : Bool) (inside : a.inside ≡ true) (out : a.out ≡ vs_slot ∷ back_slot ∷ []) (st : IsStanding a) (is : IsBackOf a back) (k : KeepsVs a vs) (x : IsHandedOver a b addr n zero_it)
    (stb : IsStanding b) where
  abbrev first_acts : List Act
  first_acts = zeroing zero_it addr n ++ acts.Give addr n ∷ []

  earlier : (s : Setting) → IsSettingOf b.opening b.roll s → IsSettingOf a.opening a.roll s
  earlier s q = setting_before a b first_acts x.ended.added.goes s q

  pub out_b : b.out ≡ vs_slot ∷ back_slot ∷ []
  out_b = x.ended.out_is ∙ out

  pub under_b : IsUnder b.inside b.depth
  under_b = ap (λ (y : Bool). y || not (b.depth == 0)) (x.ended.added.steady.inside ∙ inside)

  pub keeps_b : KeepsVs b vs
  keeps_b = vs_kept a b vs x.ended.added.goes.opening earlier (λ s q.
      let y = x.guarded s q in let h : holds (now s a).state.gate a.number whats.Vs ≡ true = (st s (earlier s q)).locks whats.Vs ∙ ap (is_out whats.Vs) out in
      (y.vs h, y.spans h)) k

  back_b : Always b (λ s. StandsForBack b.opening (now s b).state (layer_of back))
  back_b s q =
      let t = is s (earlier s q) in
      let h : holds (now s a).state.gate a.number whats.Back ≡ true = (st s (earlier s q)).locks whats.Back ∙ ap (is_out whats.Back) out in
      let e = (x.guarded s q).back h in
      subst (λ (o : Opening). StandsForBack o (now s b).state (layer_of back)) (sym x.ended.added.goes.opening) (record { lock = t.lock; limits = t.limits; part = t.part ∙ ap sorted_back (sym e) })

  module _ (d : Token) (g : HasGiven b d whats.Vs (entry b.number (acts.GiveLock whats.Vs) ∷ [])) where
    gone_vs : HasEnded b d (acts.GiveLock whats.Vs ∷ []) (back_slot ∷ [])
    gone_vs = ended_given b d whats.Vs (back_slot ∷ []) (acts.GiveLock whats.Vs ∷ []) g out_b x.ended.free

    pub added_d : HasEnded a d (first_acts ++ acts.GiveLock whats.Vs ∷ []) (back_slot ∷ [])
    added_d = ended_then a b d first_acts (acts.GiveLock whats.Vs ∷ []) (back_slot ∷ []) x.ended.added gone_vs

    pub under_d : IsUnder d.inside d.depth
    under_d = ap (λ (y : Bool). y || not (d.depth == 0)) (added_d.added.steady.inside ∙ inside)

    pub tells_d : Always d (λ s. (leaves_whole (now s d).state whats.Back ≡ true) × StandsForBack d.opening (now s d).state (layer_of back))
    tells_d s q =
        let qb = setting_before b d (acts.GiveLock whats.Vs ∷ []) gone_vs.added.goes s q in
        let t = back_b s qb in
        let h : holds (now s b).state.gate b.number whats.Back ≡ true = (stb s qb).locks whats.Back ∙ ap (is_out whats.Back) out_b in
        let e = (g.runs.agrees s q).back h in
        let u : StandsForBack d.opening (now s d).state (layer_of back) =
        subst (λ (o : Opening). StandsForBack o (now s d).state (layer_of back)) (sym gone_vs.added.goes.opening) (record { lock = t.lock; limits = t.limits; part = t.part ∙ ap sorted_back (sym e) }) in
        (spans_used d.opening (now s d).state back u, u)

    pub vs_first : (e : Token) → HasGiven d e whats.Back (entry d.number (acts.GiveLock whats.Back) ∷ []) → HasEnded a e (zeroing zero_it addr n ++ acts.Give addr n ∷ acts.GiveLock whats.Vs ∷ acts.GiveLock whats.Back ∷ []) []
    vs_first e y =
        let last = ended_given d e whats.Back [] (acts.GiveLock whats.Back ∷ []) y added_d.out_is added_d.free in
        let all : HasEnded a e ((first_acts ++ acts.GiveLock whats.Vs ∷ []) ++ acts.GiveLock whats.Back ∷ []) [] = ended_then a d e (first_acts ++ acts.GiveLock whats.Vs ∷ []) (acts.GiveLock whats.Back ∷ []) [] added_d.added last in
        subst (λ (l : List Act). HasEnded a e l [])
        (append_assoc first_acts (acts.GiveLock whats.Vs ∷ []) (acts.GiveLock whats.Back ∷ []) ∙ append_assoc (zeroing zero_it addr n) (acts.Give addr n ∷ []) (acts.GiveLock whats.Vs ∷ acts.GiveLock whats.Back ∷ [])) all
