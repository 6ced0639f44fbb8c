-- A caller that knows that each caller has a slot: what it has seen and prepared leads to a sound configuration.
use Rattle.std.proofs.Common.{◌≡◌, ℕ, ◌==◌, true, ◌&&◌, List, [], ◌∷◌, refl, sym, ap, subst}
use Rattle.std.proofs.lemmas.Bool.{and_from, and_parts}
use Rattle.heap_model.specs.declared.Act.{Act}
use Rattle.heap_model.specs.Limits.{AreValid}
use Rattle.heap_model.specs.CallState.{Configuration}
use Rattle.heap_model.specs.Legal.{may_follow, after}
use Rattle.heap_model.specs.History.{configuration_after, configuration_of, may_all_follow}
use Rattle.heap_model.specs.Agreement.{is_stable}
use Rattle.heap_model.specs.State.{Setting, IsValidSetting}
use Rattle.heap_soundness.specs.Invariant.{Keeps}
use Rattle.heap_soundness.proofs.Kept.{keeps_all, keeps_through}
use Rattle.claim_rule.specs.Entries.{IsSettingOf, IsLegalWith, setting_of, have_slots, entry, leaves_words, may_prepare, are_prepared}
use Rattle.claim_rule.proofs.Advance.{some_setting}
use Rattle.claim_rule.proofs.Lists.{legal_parts}
use Rattle.step_parts.proofs.FrontEnd.{valid_setting}
use Rattle.call_laws.specs.Within.{by_all}
use Rattle.heap_gate.specs.Token.{Token, now}
use Rattle.call_parts.specs.Entries.{with_all}
use Rattle.call_parts.proofs.Tokens.{now_all}

-- what can be prepared may follow
pub follow_all : (s : Setting) (m : Configuration) (c : ℕ) (rest : List Act) → are_prepared s m c (by_all c rest) ≡ true → may_all_follow s m (by_all c rest) ≡ true
follow_all s m c [] h = refl
follow_all s m c (x ∷ rest) h =
    let p = and_parts ((c == c) && may_prepare s m c x) (are_prepared s (after s m (entry c x)) c (by_all c rest)) h in
    let q = and_parts (c == c) (may_prepare s m c x) p.0 in
    let r = and_parts (is_stable m c x && leaves_words m c x) (may_follow s m (entry c x)) q.1 in
    and_from (may_follow s m (entry c x)) _ r.1 (follow_all s (after s m (entry c x)) c rest p.1)

module _ (c : Token) (none : c.prepared ≡ []) (valid : AreValid c.opening.limits) (slots : have_slots c.opening.limits.slots c.roll ≡ true) (legal : IsLegalWith c.opening c.roll c.seen) where
  abbrev pub home : Setting
  home = setting_of c.opening c.roll

  pub home_is : IsSettingOf c.opening c.roll home
  home_is = some_setting c.opening c.roll

  is_valid : IsValidSetting home
  is_valid = valid_setting c.opening c.roll valid slots

  keeps_now : Keeps home (now home c)
  keeps_now = subst (Keeps home) (sym (ap (configuration_after home (configuration_of home c.seen)) none)) (keeps_all home c.seen is_valid (legal_parts home c.seen (legal home home_is)).0)

  pub keeps_behind : (rest : List Act) → are_prepared home (now home c) c.number (by_all c.number rest) ≡ true → Keeps home (now home (with_all c rest))
  keeps_behind rest h = subst (Keeps home) (sym (now_all home c rest)) (keeps_through home (now home c) (by_all c.number rest) is_valid (follow_all home (now home c) c.number rest h) keeps_now)
