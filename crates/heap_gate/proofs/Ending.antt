-- What a closed table shows.
use Rattle.std.proofs.Common.{◌≡◌, ℕ, ◌<◌, ◌≤◌, true, false, List, [], ◌∷◌, length, refl, sym, ap, ◌∙◌, subst, arith, Option, Some, None, inl, inr, eq-eqb}
use Rattle.std.specs.Prelude.{nat_lt, slice_index}
use Rattle.std.proofs.lemmas.Bool.{and_parts, and_from, cases_Bool, ltb-true, ltb-false, true≢false}
use mathlib.Core.Option.{some}
use lib.ListN.{get_elem?}
use Rattle.atomic_table.specs.Table.{Me, Final, Seen}
use Rattle.heap_model.specs.declared.Entry.{Entry}
use Rattle.heap_model.specs.declared.What.{What}
use Rattle.heap_model.specs.declared.What.TheVariants as whats
use Rattle.heap_model.specs.State.{Setting, is_among, is_caller, holds}
use Rattle.heap_model.specs.CallState.{Configuration, caller_view}
use Rattle.heap_model.specs.History.{configuration_of, first_configuration}
use Rattle.heap_model.proofs.GateSound.{gate_sound_first, none_held}
use Rattle.heap_model.proofs.Others.{agrees_others}
use Rattle.claim_rule.specs.declared.views.Assignment.{Assignment}
use Rattle.heap_model.specs.declared.Opening.{Opening}
use Rattle.claim_rule.specs.declared.views.Lead.{Lead}
use Rattle.claim_rule.specs.declared.views.View.{View}
use Rattle.claim_rule.specs.Places.{vs_slot, back_slot, large_slot, made_word}
use Rattle.claim_rule.specs.Shown.{AreAllShown}
use Rattle.heap_model.specs.Layers.{LayerState, StandsForVs, StandsForBack, StandsForLarge}
use Rattle.claim_rule.specs.Home.{AreHome}
use Rattle.claim_rule.specs.Entries.{IsSettingOf, is_named, setting_of}
use Rattle.claim_rule.specs.Rule.{IsRuled}
use Rattle.claim_rule.proofs.Lists.{own_unnamed, legal_parts}
use Rattle.claim_rule.proofs.Counts.{counted_after, counted_first, nobody_counted}
use Rattle.claim_rule.proofs.Advance.{some_setting}
use Rattle.claim_rule.proofs.Seats.{whole, root_of}
use Rattle.heap_gate.specs.Roots.{IsRoot, IsIdle, IsAtRest, is_of, joined_of, roll_in, lists_of, lead_at}

none_is : (o : Option ℕ) → ((d : ℕ) → is_caller d o ≡ false) → o ≡ None
none_is None f = refl
none_is (Some d) f = absurd (true≢false (sym (eq-eqb d d refl) ∙ f d))

-- where all callers have joined, each entry is of one that has
pub of_joined : (m : ℕ) (ns : List ℕ) (es : List Entry) → ((n : ℕ) → n < m → is_among n ns ≡ true) → is_named m es ≡ true → is_of ns es ≡ true
of_joined m ns [] all h = refl
of_joined m ns (e ∷ es) all h =
    let p = and_parts (nat_lt e.caller m) (is_named m es) h in
    and_from (is_among e.caller ns) (is_of ns es) (all e.caller (ltb-true e.caller m p.0)) (of_joined m ns es all p.1)

module _ {T : Type 0} (stands : T → LayerState) (o : Opening) where
  pub record IsEnded (R : List Assignment) (l : List Entry) (ws : List ℕ) (xs : List (Option T)) : Type 0 where
    pub rest : IsAtRest (configuration_of (setting_of o R) l).state
    pub words : AreAllShown o.limits (length R) (configuration_of (setting_of o R) l) [] ws
    pub made : slice_index ws made_word ≤ o.limits.callers
    pub vs : (t : T) × (get_elem? xs vs_slot ≡ some (Some t)) × StandsForVs o (configuration_of (setting_of o R) l).state (stands t)
    pub back : (t : T) × (get_elem? xs back_slot ≡ some (Some t)) × StandsForBack o (configuration_of (setting_of o R) l).state (stands t)
    pub large : (t : T) × (get_elem? xs large_slot ≡ some (Some t)) × StandsForLarge o (configuration_of (setting_of o R) l).state (stands t)

  pub ended : (id made : ℕ) (me : Me (Option T) View) (ws : List ℕ) (xs : List (Option T)) → IsRoot me made → me.0.opening ≡ o → ((n : ℕ) → n < length (roll_in me.0.role) → is_among n (joined_of me.0.role) ≡ true)
      → Final (Seen (IsRuled stands o) id me.0) ws xs → IsEnded (roll_in me.0.role) me.0.seen ws xs
  ended id made me ws xs k opened all f =
      let st = f.0 in
      let r : IsRuled stands o st = f.1.0 in
      let R : List Assignment = roll_in me.0.role in
      let q : Lead = lead_at R (joined_of me.0.role) (lists_of me.0.role) in
      let same : r.log ≡ me.0.seen = whole stands o st r id me.0 q f.1.1 k.role refl all in
      let p = root_of stands o st r id me.0 q f.1.1 k.role in
      let s : Setting = setting_of o R in
      let ok : IsSettingOf o r.lead.roll s = subst (λ (x : Lead). IsSettingOf o x.roll s) p.0 (some_setting o R) in
      let shown = r.shown s ok in
      let m : Configuration = configuration_of s me.0.seen in
      let counted : r.lead.counted ≡ length R = ap (λ (x : Lead). x.counted) (sym p.0) in
      let home : AreHome stands o m.state st.homes = subst (λ (l : List Entry). AreHome stands o (configuration_of s l).state st.homes) same shown.home in
      let legal = legal_parts s me.0.seen (subst (λ (l : List Entry). Rattle.heap_model.specs.History.is_legal s l ≡ true) same shown.legal) in
      let idle : (n : ℕ) → IsIdle n m =
      λ n. elim (cases_Bool (nat_lt n (length R))) [
        | inl e ↦ k.idle n (all n (ltb-true n (length R) e)) s (subst (λ (x : Opening). IsSettingOf x R s) (sym opened) (some_setting o R))
        | inr e ↦
            let le = ltb-false n (length R) e in
            let a = agrees_others s first_configuration n me.0.seen (own_unnamed (length R) n me.0.seen (omega arith) k.names) legal.0 gate_sound_first in
            Rattle.heap_gate.proofs.Meeting.idle_agrees s n m first_configuration a (record { counted = refl; owner = refl; locks = refl; hands = refl })
      ] in
      let counts = counted_after s first_configuration me.0.seen legal.0 counted_first in
      let free : (w : What) (d : ℕ) → holds m.state.gate d w ≡ false = λ w d. sym (Rattle.heap_model.proofs.GateSound.held_is m d w) ∙ none_held (caller_view m d) w (idle d).locks in
      let lfh : m.state.gate.locks.lfh ≡ None = none_is m.state.gate.locks.lfh (free whats.Lfh) in
      let vs : m.state.gate.locks.vs ≡ None = none_is m.state.gate.locks.vs (free whats.Vs) in
      let back : m.state.gate.locks.back ≡ None = none_is m.state.gate.locks.back (free whats.Back) in
      let here : AreAllShown o.limits r.lead.counted m r.owes st.words = subst (λ (l : List Entry). AreAllShown o.limits r.lead.counted (configuration_of s l) r.owes st.words) same shown.words in
      let paid : r.owes ≡ [] = here.lfh.paid back in
      let words : AreAllShown o.limits (length R) m [] ws =
      subst (λ (w : List ℕ). AreAllShown o.limits (length R) m [] w) f.2 (subst (λ (x : ℕ). AreAllShown o.limits x m [] st.words) counted (subst (λ (w : List Rattle.claim_rule.specs.declared.views.Owed.Owed). AreAllShown o.limits r.lead.counted m w st.words) paid here)) in
      let large : m.state.gate.locks.large ≡ None = none_is m.state.gate.locks.large (free whats.Large) in
      let v = home.full whats.Vs tt vs in
      let b = home.full whats.Back tt back in
      let g = home.full whats.Large tt large in
      record {
        rest = record {
          counted = nobody_counted m.state.gate.counted (λ d. (idle d).counted);
          turning = nobody_counted m.state.gate.turning (λ d. elim (cases_Bool (is_among d m.state.gate.turning)) [ inl e ↦ absurd (true≢false (sym (counts.turning d e) ∙ (idle d).counted)) | inr e ↦ e ]);
          owner = none_is m.state.gate.owner (λ d. (idle d).owner);
          locks = λ j. record { lfh = lfh j; vs = vs j; back = back j; large = large j };
          hands = λ n. (idle n).hands;
        };
        words = words;
        made = let few = r.numbers.counted in let is = words.made_is in omega arith;
        vs = (v.0, f.4 vs_slot (Some v.0) v.1, v.2);
        back = (b.0, f.4 back_slot (Some b.0) b.1, b.2);
        large = (g.0, f.4 large_slot (Some g.0) g.1, g.2);
      }
