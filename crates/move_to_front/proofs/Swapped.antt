-- The step that gives the new block of the front end, with the Take of the old one before it and the Drop behind.
use Rattle.std.proofs.Common.{◌≡◌, ℕ, true, List, [], ◌∷◌, ◌++◌, refl, sym, ap, ◌∙◌, subst}
use Rattle.std.specs.Prelude.{is_some}
use Rattle.heap_model.specs.declared.Act.{Act}
use Rattle.heap_model.specs.declared.Act.TheVariants as acts
use Rattle.heap_model.specs.declared.Call.{Call}
use Rattle.heap_model.specs.State.{Setting, Place, hands}
use Rattle.heap_model.specs.CallState.{Configuration}
use Rattle.heap_model.specs.Legal.{after}
use Rattle.heap_model.specs.Agreement.{AgreesFor}
use Rattle.claim_rule.specs.Entries.{IsSettingOf, entry, may_prepare}
use Rattle.block_steps.specs.Blocks.{MayPublish}
use Rattle.step_parts.specs.InHand.{HasBlock}
use Rattle.heap_gate.specs.Calls.{with_prepared}
use Rattle.heap_gate.specs.Token.{Token, Always, now, IsStanding}
use Rattle.lfh_claims.specs.Blocks.{HasPublished}
use Rattle.lfh_claims.specs.Moves.{IsWith}
use Rattle.lfh_claims.proofs.Known.{publishes_in_hand}
use Rattle.call_parts.specs.Entries.{HasAdded}
use Rattle.call_parts.proofs.Joining.{goes_does, setting_before}
use Rattle.call_parts.proofs.Tokens.{now_more, added_one, added_then}
use Rattle.move_parts.proofs.Held.{take_may}
use Rattle.move_to_front.specs.Halfway.{IsHalfwayOver, HasSwappedOver, IsGoneFrom}
use Rattle.move_to_front.proofs.Taken.{block1, drop_may, gone_from, demand_k1}

module _ (c : Token) (call : Call) (addr size b n : ℕ) (p q : Place) (out : List ℕ) (h : IsHalfwayOver c call addr size p b n q out) (st : IsStanding c) where
  abbrev take_it : Act
  take_it = acts.Take addr size

  abbrev c1 : Token
  c1 = with_prepared c take_it

  begun : Always c (λ s. is_some ((now s c).now.calls c.number).call ≡ true)
  begun s z = ap is_some ((st s z).call ∙ h.call_is)

  pub take_ok : Always c (λ s. may_prepare s (now s c) c.number (acts.Take addr size) ≡ true)
  take_ok s z = take_may s (now s c) c.number addr size p (h.old s z) ((st s z).entered ∙ h.inside) (begun s z) ((st s z).demand h.whole)

  block_then : Always c1 (λ s. HasBlock (now s c1) c1.number h.bucket b)
  block_then s z = subst (λ (m : Configuration). HasBlock m c.number h.bucket b) (sym (now_more s c take_it))
      (block1 s (now s c) c.number addr size b n p q (h.hand s z) (h.old s z) h.front h.at ((st s z).entered ∙ h.inside) (begun s z) h.bucket h.long)

  inside_then : Rattle.lfh_claims.specs.Stays.IsInside c1
  inside_then s z = ap (λ (m : Configuration). Rattle.heap_model.specs.State.is_entered m.state.gate c.number) (now_more s c take_it) ∙ ((st s z).entered ∙ h.inside)

  pub publish_ok : Always (with_prepared c (acts.Take addr size)) (λ s. MayPublish s (now s (with_prepared c (acts.Take addr size))) (with_prepared c (acts.Take addr size)).number b n)
  publish_ok = publishes_in_hand c1 h.bucket b n inside_then block_then h.fits h.small

  module _ (d : Token) (y : HasPublished c1 d b n) (sd : IsStanding d) where
    give_added : HasAdded c1 d (acts.Give b n ∷ [])
    give_added = record {
      goes = goes_does c1 d (acts.Give b n ∷ []) y.moves.does y.stands.depth;
      steady = record { call = y.stands.call; fresh = y.stands.fresh; inside = y.stands.inside; searched = y.stands.searched; drawn = y.stands.drawn; owes = y.stands.owes };
    }

    number : d.number ≡ c.number
    number = y.moves.does.number

    at_c : (s : Setting) → IsSettingOf d.opening d.roll s → IsSettingOf c.opening c.roll s
    at_c s z = setting_before c1 d (acts.Give b n ∷ []) give_added.goes s z

    behind_give : (s : Setting) → IsSettingOf d.opening d.roll s → AgreesFor c.number (now s d) (after s (after s (now s c) (entry c.number take_it)) (entry c.number (acts.Give b n)))
    behind_give s z = subst (λ (m : Configuration). AgreesFor c.number (now s d) (after s m (entry c.number (acts.Give b n)))) (now_more s c take_it) (y.moves.agrees s z)

    hands_with : (s : Setting) → IsSettingOf d.opening d.roll s → IsWith b (hands (now s d).state c.number) (hands (after s (now s c) (entry c.number take_it)).state c.number)
    hands_with s z = subst (λ (m : Configuration). IsWith b (hands (now s d).state c.number) (hands m.state c.number)) (now_more s c take_it) (y.moves.hands s z)

    begun_d : (s : Setting) → IsSettingOf d.opening d.roll s → is_some ((now s d).now.calls c.number).call ≡ true
    begun_d s z = subst (λ (k : ℕ). is_some ((now s d).now.calls k).call ≡ true) number (ap is_some ((sd s z).call ∙ (y.stands.call ∙ h.call_is)))

    entered_d : (s : Setting) → IsSettingOf d.opening d.roll s → Rattle.heap_model.specs.State.is_entered (now s d).state.gate c.number ≡ true
    entered_d s z = subst (λ (k : ℕ). Rattle.heap_model.specs.State.is_entered (now s d).state.gate k ≡ true) number ((sd s z).entered ∙ (y.stands.inside ∙ h.inside))

    pub drop_ok : Always d (λ s. may_prepare s (now s d) d.number (acts.Drop addr) ≡ true)
    drop_ok s z =
        let x = at_c s z in
        subst (λ (k : ℕ). may_prepare s (now s d) k (acts.Drop addr) ≡ true) (sym number)
        (drop_may s (now s c) c.number addr size b n p q (h.hand s x) (h.old s x) h.front h.at ((st s x).entered ∙ h.inside) (begun s x) (now s d) (behind_give s z) (hands_with s z) (entered_d s z) (begun_d s z) ((sd s z).demand y.stands.whole))

    abbrev e : Token
    e = with_prepared d (acts.Drop addr)

    now_e : (s : Setting) → now s e ≡ after s (now s d) (entry c.number (acts.Drop addr))
    now_e s = now_more s d (acts.Drop addr) ∙ (λ j. after s (now s d) (entry (number j) (acts.Drop addr)))

    pub swapped : (f : Token) → f ≡ with_prepared d (acts.Drop addr) → HasSwappedOver c f addr size p b n
    swapped f is = subst (λ (x : Token). HasSwappedOver c x addr size p b n) (sym is) (record {
      added = added_then c c1 e (take_it ∷ []) (acts.Give b n ∷ acts.Drop addr ∷ []) (added_one c take_it refl) (added_then c1 d e (acts.Give b n ∷ []) (acts.Drop addr ∷ []) give_added (added_one d (acts.Drop addr) refl));
      out_is = y.stands.out;
      pending = y.stands.pending;
      prepared = (λ j. y.stands.prepared j ++ entry (number j) (acts.Drop addr) ∷ []);
      gone = λ s z.
          let x = at_c s z in
          subst (IsGoneFrom c.number addr p.layer (now s c)) (sym (now_e s))
          (gone_from s (now s c) c.number addr size b n p q (h.hand s x) (h.old s x) h.front h.at ((st s x).entered ∙ h.inside) (begun s x) (now s d) (behind_give s z) (hands_with s z) (entered_d s z) (begun_d s z) ((sd s z).demand y.stands.whole));
      demand = λ s z.
          let x = at_c s z in
          ap (λ (m : Configuration). m.now.demand) (now_e s)
          ∙ demand_k1 s (now s c) c.number addr size b n p q (h.hand s x) (h.old s x) h.front h.at ((st s x).entered ∙ h.inside) (begun s x) (now s d) (behind_give s z) (hands_with s z) (entered_d s z) (begun_d s z) ((sd s z).demand y.stands.whole);
    })
