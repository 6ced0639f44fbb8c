-- A caller that knows of a tag reads it.
use Rattle.std.proofs.Common.{◌≡◌, ℕ, ◌/◌, ◌==◌, true, false, List, [], ◌++◌, Option, refl, sym, ap, ◌∙◌, subst, arith, inl, inr, ⊎_elim, ne_eqb}
use Rattle.std.specs.Prelude.{is_some, unwrap_or, option_map}
use Rattle.std.proofs.lemmas.Bool.{cases_Bool, eqb-true, eqb-false, false≢true}
use Rattle.std.proofs.lemmas.List.{append-nil}
use Rattle.heap_model.specs.declared.Entry.{Entry}
use Rattle.heap_model.specs.declared.Opening.{Opening}
use Rattle.heap_model.specs.declared.What.TheVariants as whats
use Rattle.heap_model.specs.State.{Setting, Span, is_entered, holds}
use Rattle.heap_model.specs.CallState.{Configuration}
use Rattle.heap_model.specs.History.{configuration_after, configuration_of, first_configuration, may_all_follow, own}
use Rattle.heap_model.proofs.GateSound.{gate_sound_after, gate_sound_first}
use Rattle.claim_rule.specs.Entries.{IsSettingOf, setting_of}
use Rattle.claim_rule.specs.Shown.{lfh_spans, tag_of, tag_word}
use Rattle.claim_rule.proofs.Advance.{some_setting}
use Rattle.claim_rule.proofs.Lists.{after-append, follow_parts, legal_parts, none_between, setting_less}
use Rattle.heap_gate.specs.Token.{Token, IsStanding, is_out, now}
use Rattle.lfh_claims.specs.declared.tag.Tag.{Tag}
use Rattle.lfh_claims.specs.Blocks.{HasTag, tag_told}
use Rattle.address_calls.specs.Tagged.{HasTagged, KnowsTag, KnownByList}
use Rattle.address_calls.proofs.TaggedLists.{in_segments, tagged_behind, tagged_stays}

pub known_by_list : KnownByList
known_by_list c addr x h has none legal = record {
  span = x;
  below = in_segments (setting_of c.opening c.roll) c.seen x (addr / 4096) (follows (setting_of c.opening c.roll) (some_setting c.opening c.roll)) h has;
  tagged = λ s q.
      subst (λ (l : List Entry). HasTagged (configuration_after s (configuration_of s c.seen) l) (addr / 4096) x) (sym none) (tagged_behind s c.seen x (addr / 4096) (follows s q) h has);
}
  where
    follows : (s : Setting) → IsSettingOf c.opening c.roll s → may_all_follow s first_configuration c.seen ≡ true
    follows s q = (legal_parts s c.seen (legal s q)).0

-- the word of the tag is not 0
pub told_tag : (x : Span) → is_some (tag_told (tag_of x)) ≡ true
told_tag x = let e : (tag_of x == 0) ≡ false = ne_eqb (tag_of x) 0 (λ z. omega (arith, z)) in rw e refl

module _ (old new : Token) (addr : ℕ) (told : Option Tag) (k : KnowsTag old addr) (none : old.prepared ≡ []) (inside : old.inside ≡ true) (free : is_out whats.Back old.out ≡ false) (sa : IsStanding old)
    (h : HasTag old new (addr / 4096) told) (sb : IsStanding new) where
  abbrev s : Setting
  s = setting_of new.opening new.roll

  q : IsSettingOf new.opening new.roll s
  q = some_setting new.opening new.roll

  q0 : IsSettingOf old.opening old.roll s
  q0 = setting_less old.opening old.roll new.roll s h.runs.does.roll (subst (λ (o : Opening). IsSettingOf o new.roll s) h.runs.does.opening q)

  abbrev before : Configuration
  before = configuration_of s old.seen

  abbrev between : List Entry
  between = h.runs.does.seen.0

  others : own old.number between ≡ []
  others = none_between old.number new.seen old.seen h.runs.does.seen
      (h.runs.does.own ∙ (ap (λ (l : List Entry). own old.number old.seen ++ (l ++ [])) none ∙ append-nil (own old.number old.seen)))

  parts : (may_all_follow s first_configuration old.seen ≡ true) × (may_all_follow s before between ≡ true)
  parts = follow_parts s first_configuration old.seen between (ap (may_all_follow s first_configuration) h.runs.does.seen.1 ∙ (legal_parts s new.seen (h.runs.does.legal s q)).0)

  -- the subsegment is there when the word is read
  still : HasTagged (now s new) (addr / 4096) k.span
  still =
      let t0 = subst (λ (l : List Entry). HasTagged (configuration_after s before l) (addr / 4096) k.span) none (k.tagged s q0) in
      let i0 : is_entered before.state.gate old.number ≡ true = subst (λ (l : List Entry). is_entered (configuration_after s before l).state.gate old.number ≡ true) none ((sa s q0).entered ∙ inside) in
      let t = tagged_stays s before old.number between (addr / 4096) k.span (gate_sound_after s first_configuration old.seen parts.0 gate_sound_first) i0 parts.1 others t0 in
      let is : configuration_after s before between ≡ configuration_of s new.seen = sym (after-append s first_configuration old.seen between) ∙ ap (configuration_of s) h.runs.does.seen.1 in
      subst (λ (l : List Entry). HasTagged (configuration_after s (configuration_of s new.seen) l) (addr / 4096) k.span) (sym h.stands.prepared) (subst (λ (m : Configuration). HasTagged m (addr / 4096) k.span) is t)

  pub reads_known_tag : told ≡ tag_told (tag_of k.span)
  reads_known_tag = elim (cases_Bool (h.word == 0)) [
    | inl e ↦
        let n : new.number ≡ old.number = h.runs.does.number in
        let entered : is_entered (now s new).state.gate old.number ≡ true = subst (λ (y : ℕ). is_entered (now s new).state.gate y ≡ true) n ((sb s q).entered ∙ (h.stands.inside ∙ inside)) in
        let held : holds (now s new).state.gate old.number whats.Back ≡ false = subst (λ (y : ℕ). holds (now s new).state.gate y whats.Back ≡ false) n ((sb s q).locks whats.Back ∙ (ap (is_out whats.Back) h.stands.out ∙ free)) in
        let w = (h.tells s q).wanting (eqb-true h.word 0 e) entered held k.span still.found in
        absurd (false≢true (sym (ap is_some still.given) ∙ w))
    | inr e ↦
        let word : h.word ≡ tag_of k.span = ⊎_elim
        (λ (z : h.word ≡ tag_word (lfh_spans (now s new).state.back.area) (addr / 4096)). z ∙ ap (λ (o : Option Span). unwrap_or (option_map tag_of o) 0) still.found)
        (λ (z : h.word ≡ 0). absurd (eqb-false h.word 0 e z))
        (h.tells s q).shown in
        h.told_is ∙ ap tag_told word
  ]
