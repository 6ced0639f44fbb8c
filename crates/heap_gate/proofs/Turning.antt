-- A caller that finds another owner in the gate word, and turns back.
use Rattle.std.proofs.Common.{◌≡◌, ℕ, ◌+◌, ◌/◌, Bool, true, false, ◌||◌, ◌==◌, List, [], ◌∷◌, Option, Some, refl, sym, ◌∙◌, subst}
use Rattle.std.proofs.lemmas.Bool.{eqb-false, true≢false}
use Rattle.atomic_table.specs.Table.{Me}
use Rattle.atomic_table.specs.Seated.{TableId}
use Rattle.rand_core.specs.Stream.{Stream}
use Rattle.heap_model.specs.declared.Act.TheVariants as acts
use Rattle.heap_model.specs.declared.Call.{Call}
use Rattle.heap_model.specs.declared.Entry.{Entry}
use Rattle.heap_model.specs.declared.What.TheVariants as whats
use Rattle.heap_model.specs.State.{Setting, hands}
use Rattle.heap_model.specs.CallState.{Configuration}
use Rattle.heap_model.specs.Legal.{after, is_lock_or_compact}
use Rattle.heap_model.specs.History.{configuration_after, configuration_of}
use Rattle.heap_model.specs.Agreement.{AgreesFor}
use Rattle.heap_model.proofs.Own.{act_agrees}
use Rattle.heap_model.proofs.Others.{agrees_trans}
use Rattle.claim_rule.specs.declared.views.View.{View}
use Rattle.claim_rule.specs.Entries.{IsSettingOf, entry}
use Rattle.claim_rule.specs.Rule.{ready_after}
use Rattle.claim_rule.specs.Steps.{MayGoOut}
use Rattle.claim_rule.specs.Plays.{Goes}
use Rattle.claim_rule.proofs.Gate.{one_by}
use Rattle.heap_gate.specs.Token.{IsAt, IsCaller, outs}
use Rattle.heap_gate.specs.Seated.{Face, tok}
use Rattle.heap_gate.specs.Calls.{NamesAnother, may_enter_by}
use Rattle.heap_gate.proofs.Standing.{at_agrees, IsTurning, at_blocked, turning_agrees, turning_out, at_turned}
use Rattle.heap_gate.proofs.Tokens.{IsMoved, moved, moved_twice, moved_by, setting_before, one_agrees, same_in_hand}

or_parts : (a b : Bool) → (a || b) ≡ false → (a ≡ false) × (b ≡ false)
or_parts true b e = absurd (true≢false e)
or_parts false b e = (refl, e)

pub names_another : (word n : ℕ) → may_enter_by word n ≡ false → NamesAnother word n
names_another word n h = let p = or_parts (word / 65536 == 0) (word / 65536 == n + 1) h in (eqb-false (word / 65536) 0 p.0, eqb-false (word / 65536) (n + 1) p.1)

module _ {T : Type 0} (z : TableId) (me : Me (Option T) View) (f : Face) (slot : ℕ) (stream : Stream) (h : IsCaller me (tok z me f) slot stream)
    (call : Call) (out : f.inside ≡ false) (is : f.call ≡ Some call) (enters : is_lock_or_compact call ≡ false) (word : ℕ) (u : View) (go : Goes f.number me.0 u f.prepared (entry f.number (acts.Blocked whats.Gate word) ∷ [])) where
  abbrev blocked : List Entry
  blocked = entry f.number (acts.Blocked whats.Gate word) ∷ []

  abbrev left : List Entry
  left = entry f.number acts.Leave ∷ []

  first : IsMoved f.number me.0 u f.prepared blocked
  first = moved_by z me f slot stream h u blocked (one_by f.number (acts.Blocked whats.Gate word)) go

  turning : (s : Setting) (q : IsSettingOf u.opening u.roll s) → IsTurning s (go.goes s q).before f.number (configuration_of s u.seen) f.call f.depth (outs me.1) f.free
  turning s q =
      let y = go.goes s q in
      let old = h.at s (setting_before f.number me.0 u f.prepared blocked first s q) in
      let at = at_agrees s y.before (ready_after s me.0 f.prepared) f.number f.call f.fresh f.inside f.depth (outs me.1) f.whole f.free y.agrees y.whole old in
      let at' = subst (λ (b : Bool). IsAt y.before f.number f.call f.fresh b f.depth (outs me.1) f.whole f.free) out at in
      subst (λ (m : Configuration). IsTurning s y.before f.number m f.call f.depth (outs me.1) f.free) (sym y.behind) (at_blocked s y.before f.number f.call f.fresh f.depth (outs me.1) f.whole f.free word call is enters at')

  pub may_turn : (s : Setting) → IsSettingOf u.opening u.roll s → MayGoOut (configuration_of s u.seen) f.number
  may_turn s q = turning_out s f.number f.call f.depth (outs me.1) f.free (go.goes s q).before (configuration_of s u.seen) (turning s q)

  module _ (v : View) (go' : Goes f.number u v [] (entry f.number acts.Leave ∷ [])) where
    second : IsMoved f.number u v [] left
    second = moved f.number u v [] left refl (one_by f.number acts.Leave) go'

    pub both : IsMoved f.number me.0 v f.prepared (entry f.number (acts.Blocked whats.Gate word) ∷ entry f.number acts.Leave ∷ [])
    both = moved_twice f.number me.0 u v f.prepared blocked left first second

    pub at_end : (s : Setting) → IsSettingOf v.opening v.roll s → IsAt (configuration_of s v.seen) f.number f.call false false f.depth (outs me.1) true f.free
    at_end s q =
        let q1 = setting_before f.number u v [] left second s q in
        let y = go'.goes s q in
        let t = turning_agrees s f.number f.call f.depth (outs me.1) f.free (go.goes s q1).before y.before (configuration_of s u.seen) y.agrees (turning s q1) in
        subst (λ (m : Configuration). IsAt m f.number f.call false false f.depth (outs me.1) true f.free) (sym y.behind) (at_turned s f.number f.call f.depth (outs me.1) f.free (go.goes s q1).before y.before t)

    pub agrees_end : (s : Setting) → IsSettingOf v.opening v.roll s → AgreesFor f.number (configuration_of s v.seen) (configuration_after s (ready_after s me.0 f.prepared) (entry f.number (acts.Blocked whats.Gate word) ∷ entry f.number acts.Leave ∷ []))
    agrees_end s q =
        let q1 = setting_before f.number u v [] left second s q in
        let m : Configuration = configuration_of s u.seen in
        let o : Configuration = after s (ready_after s me.0 f.prepared) (entry f.number (acts.Blocked whats.Gate word)) in
        let a : AgreesFor f.number m o = one_agrees s f.number me.0 u f.prepared (acts.Blocked whats.Gate word) (go.goes s q1) refl in
        let b = one_agrees s f.number u v [] acts.Leave (go'.goes s q) refl in
        let e = act_agrees s f.number m o a acts.Leave (may_turn s q1).may refl in
        agrees_trans f.number (configuration_of s v.seen) (after s m (entry f.number acts.Leave)) (after s o (entry f.number acts.Leave)) b e

    pub hands_end : (s : Setting) → IsSettingOf v.opening v.roll s → hands (configuration_of s v.seen).state f.number ≡ hands (ready_after s me.0 f.prepared).state f.number
    hands_end s q =
        let q1 = setting_before f.number u v [] left second s q in
        same_in_hand s f.number u v [] left (go'.goes s q) (λ m. refl) ∙ same_in_hand s f.number me.0 u f.prepared blocked (go.goes s q1) (λ m. refl)
