-- What a caller has prepared may come behind whatever others did meanwhile, and no word shows it. Proved once for all kinds of step.
use Rattle.std.proofs.Common.{◌≡◌, ℕ, Bool, true, not, ◌&&◌, List, [], ◌∷◌, Option, None, refl, sym, ap, ◌∙◌, subst, eqb, eq-eqb}
use Rattle.std.specs.List.{list_any}
use Rattle.std.proofs.lemmas.Bool.{and_parts, and_from, eqb-true}
use Rattle.heap_model.specs.declared.Act.{Act}
use Rattle.heap_model.specs.declared.Act.TheVariants as acts
use Rattle.heap_model.specs.declared.Entry.{Entry}
use Rattle.heap_model.specs.State.{GateAndLocks, BackPart, Setting, Place, holder_of, is_caller}
use Rattle.heap_model.specs.CallState.{Configuration}
use Rattle.heap_model.specs.Search.{begins_at}
use Rattle.heap_model.specs.Legal.{may, may_follow, after}
use Rattle.heap_model.specs.History.{configuration_after, may_all_follow}
use Rattle.heap_model.specs.Agreement.{AgreesFor, is_stable, is_prepared}
use Rattle.heap_model.proofs.GateSound.{row_of}
use Rattle.heap_model.proofs.Agreement.{agrees_prepared}
use Rattle.heap_model.proofs.Others.{unspan_locks}
use Rattle.heap_model.proofs.Stable.{same_hand_at, locked_place_at}
use Rattle.claim_rule.specs.Shown.{holder_from, held_after, lfh_spans}
use Rattle.heap_model.specs.declared.What.{What}
use Rattle.heap_model.specs.declared.What.TheVariants as whats
use Rattle.claim_rule.specs.Home.{HasSlot}
use Rattle.claim_rule.proofs.Slots.{SameGuarded, SameHomes, homes_still, same_homes_trans}
use Rattle.claim_rule.specs.Entries.{entry, is_by, is_of_lfh, leaves_words, may_prepare, are_prepared}
use Rattle.claim_rule.proofs.Quiet.{SameShown, same_shown, same_shown_trans, leaves, leaves_gate, leaves_holder}
use Rattle.claim_rule.proofs.Homes.{vs_kept, back_kept, large_kept, spans_kept}

---- Prepared entries

module _ (s : Setting) (c : ℕ) where
  -- the parts of a prepared entry
  pub record IsReadyEntry (m : Configuration) (e : Entry) : Type 0 where
    pub by : e.caller ≡ c
    pub stable : is_stable m c e.act ≡ true
    pub quiet : leaves_words m c e.act ≡ true
    pub follows : may_follow s m (entry c e.act) ≡ true

  pub ready_entry : (m : Configuration) (e : Entry) (rest : Bool) → (eqb e.caller c && may_prepare s m c e.act && rest) ≡ true → IsReadyEntry m e × (rest ≡ true)
  ready_entry m e rest h =
      let p = and_parts (eqb e.caller c && may_prepare s m c e.act) rest h in
      let q = and_parts (eqb e.caller c) (may_prepare s m c e.act) p.0 in
      let r = and_parts (is_stable m c e.act && leaves_words m c e.act) (may_follow s m (entry c e.act)) q.1 in
      let t = and_parts (is_stable m c e.act) (leaves_words m c e.act) r.0 in
      (record { by = eqb-true e.caller c q.0; stable = t.0; quiet = t.1; follows = r.1 }, p.1)

  pub prepared_by : (m : Configuration) (es : List Entry) → are_prepared s m c es ≡ true → is_by c es ≡ true
  prepared_by m [] h = refl
  prepared_by m (e ∷ es) h =
      let p = ready_entry m e (are_prepared s (after s m e) c es) h in
      and_from (eqb e.caller c) (is_by c es) (eq-eqb e.caller c p.0.by) (prepared_by (after s m e) es p.1)

  -- the act is no more shown in m than in n
  quiet_same : (m n : Configuration) → AgreesFor c m n → (act : Act) → is_stable n c act ≡ true → may s n c act ≡ true → leaves_words n c act ≡ true → leaves_words m c act ≡ true
  quiet_same m n r (acts.Unspan first) w h q =
      ap (λ (b : BackPart). not (list_any (begins_at first) (lfh_spans b.area))) (r.back (unspan_locks s n c first h).0) ∙ q
  quiet_same m n r (acts.Give a size) w h q = ap (λ (o : Option Place). not (is_of_lfh o)) (same_hand_at s c m n r a) ∙ q
  quiet_same m n r (acts.Take a size) w h q = ap (λ (o : Option Place). not (is_of_lfh o)) (locked_place_at s c m n r a w) ∙ q
  quiet_same m n r (acts.Drop a) w h q = ap (λ (o : Option Place). not (is_of_lfh o)) (same_hand_at s c m n r a) ∙ q
  quiet_same m n r (acts.Resize a granules size) w h q = ap (λ (o : Option Place). not (is_of_lfh o)) (locked_place_at s c m n r a w) ∙ q
  quiet_same m n r _ w h q = q

  -- one act leaves what the slots stand for
  homes_act : (m : Configuration) (act : Act) → leaves_words m c act ≡ true → may s m c act ≡ true → SameHomes (after s m (entry c act)).state m.state
  homes_act m act q h = record { locks = ap (λ (f : GateAndLocks). f.locks) (leaves_gate s m c act q); guarded = kept }
    where
      kept : (what : What) → HasSlot what → holder_of m.state.gate.locks what ≡ None → SameGuarded what (after s m (entry c act)).state m.state
      kept whats.Vs has z = (vs_kept s m c act q h (ap (is_caller c) z), spans_kept s m c act q h (ap (is_caller c) z))
      kept whats.Back has z = back_kept s m c act q h (ap (is_caller c) z)
      kept whats.Large has z = large_kept s m c act q h (ap (is_caller c) z)
      kept whats.Gate has z = tt
      kept whats.Lfh has z = tt

  -- what is so behind prepared entries, in m as in n
  pub record IsCarried (m n : Configuration) (es : List Entry) : Type 0 where
    pub follows : may_all_follow s m es ≡ true
    pub agrees : AgreesFor c (configuration_after s m es) (configuration_after s n es)
    pub demand : (configuration_after s m es).now.demand ≡ (configuration_after s n es).now.demand
    pub shown : SameShown (configuration_after s m es) m
    pub gate : (configuration_after s m es).state.gate ≡ m.state.gate
    pub homes : SameHomes (configuration_after s m es).state m.state
    pub holder : (h : Option ℕ) → holder_from h es ≡ h

  pub carried : (m n : Configuration) (es : List Entry) → AgreesFor c m n → m.now.demand ≡ n.now.demand → are_prepared s n c es ≡ true → IsCarried m n es
  carried m n [] r d h = record { follows = refl; agrees = r; demand = d; shown = same_shown m; gate = refl; homes = homes_still m.state m.state refl refl; holder = λ h. refl }
  carried m n (e ∷ es) r d h =
      let p = ready_entry n e (are_prepared s (after s n e) c es) h in
      let is : e ≡ entry c e.act = ap (λ (x : ℕ). entry x e.act) p.0.by in
      let one : is_prepared s n c (entry c e.act ∷ []) ≡ true = and_from (eqb c c && is_stable n c e.act) true (and_from (eqb c c) (is_stable n c e.act) (eq-eqb c c refl) p.0.stable) refl in
      let a = agrees_prepared s c m n (entry c e.act ∷ []) r d one (and_from (may_follow s n (entry c e.act)) true p.0.follows refl) in
      let f : may_follow s m (entry c e.act) ≡ true = (and_parts (may_follow s m (entry c e.act)) true a.0).0 in
      let q = quiet_same m n r e.act p.0.stable (row_of s n (entry c e.act) p.0.follows) p.0.quiet in
      let x = subst (λ (y : Entry). are_prepared s (after s n y) c es ≡ true) is p.1 in
      let rest = carried (after s m (entry c e.act)) (after s n (entry c e.act)) es a.1 a.2 x in
      subst (λ (y : Entry). IsCarried m n (y ∷ es)) (sym is) (record {
        follows = and_from (may_follow s m (entry c e.act)) (may_all_follow s (after s m (entry c e.act)) es) f rest.follows;
        agrees = rest.agrees;
        demand = rest.demand;
        shown = same_shown_trans (configuration_after s (after s m (entry c e.act)) es) (after s m (entry c e.act)) m rest.shown (leaves s m c e.act q);
        gate = rest.gate ∙ leaves_gate s m c e.act q;
        homes = same_homes_trans (configuration_after s (after s m (entry c e.act)) es).state (after s m (entry c e.act)).state m.state rest.homes (homes_act m e.act q (row_of s m (entry c e.act) f));
        holder = λ h. rest.holder (held_after h (entry c e.act) e.act) ∙ leaves_holder s m c h e.act q;
      })
