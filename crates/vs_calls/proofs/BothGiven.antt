-- Both locks are given back. (These lemmas are also in the crate of the calls in the back end, on which this one does not stand.)
use Rattle.std.proofs.Common.{◌≡◌, true, List, [], ◌∷◌, ◌++◌, sym, ap, ◌∙◌, subst}
use Rattle.std.specs.List.{list_all}
use Rattle.heap_model.specs.declared.Act.{Act}
use Rattle.heap_model.specs.declared.Act.TheVariants as acts
use Rattle.heap_model.specs.declared.Entry.{Entry}
use Rattle.heap_model.specs.declared.Opening.{Opening}
use Rattle.heap_model.specs.declared.What.TheVariants as whats
use Rattle.heap_model.specs.Geometry.{page_bytes}
use Rattle.heap_model.specs.History.{configuration_after}
use Rattle.heap_model.specs.Layers.{StandsForVs, sorted_vs}
use Rattle.heap_model.specs.Legal.{has_place, leaves_whole}
use Rattle.heap_model.specs.Ranges.{vs_spans}
use Rattle.heap_model.specs.State.{Setting, State, holds}
use Rattle.claim_rule.specs.Entries.{IsSettingOf, entry}
use Rattle.claim_rule.specs.Places.{vs_slot, back_slot}
use Rattle.claim_rule.proofs.Lists.{setting_less}
use Rattle.call_laws.specs.Within.{by_all}
use Rattle.vs_layer.specs.Kept.{VsKept}
use Rattle.vs_layer.specs.Standing as vss
use Rattle.heap_gate.specs.Token.{Token, Always, now}
use Rattle.heap_gate.specs.Calls.{Runs, HasGiven}
use Rattle.call_parts.specs.Entries.{HasEnded}
use Rattle.call_parts.proofs.Tokens.{ended_given, ended_then}

-- VS stands where its part and its spans do
pub vs_stands : (o : Opening) (m k : State) (vs : VsKept) → StandsForVs o m (vss.layer_of vs) → k.vs ≡ m.vs → vs_spans k.back.area ≡ vs_spans m.back.area → StandsForVs o k (vss.layer_of vs)
vs_stands o m k vs t e f = record { lock = t.lock; limits = t.limits; key = t.key; part = t.part ∙ ap sorted_vs (sym e); spans = t.spans ∙ sym f }

pub vs_used : (m k : State) → k.vs ≡ m.vs → vs_spans k.back.area ≡ vs_spans m.back.area → leaves_whole m whats.Vs ≡ true → leaves_whole k whats.Vs ≡ true
vs_used m k e f h = (λ j. list_all (has_place page_bytes ((e j).places)) (f j)) ∙ h

---- Behind the step that gives the lock of the back end back

pub given_vs : (a b : Token) (es : List Entry) (vs : VsKept) → Runs a b es
    → ((s : Setting) → ((configuration_after s (now s a) es).state.vs ≡ (now s a).state.vs) × ((configuration_after s (now s a) es).state.back.area ≡ (now s a).state.back.area) × (holds (configuration_after s (now s a) es).state.gate a.number whats.Vs ≡ holds (now s a).state.gate a.number whats.Vs))
    → Always a (λ s. holds (now s a).state.gate a.number whats.Vs ≡ true) → Always a (λ s. leaves_whole (now s a).state whats.Vs ≡ true) → Always a (λ s. StandsForVs a.opening (now s a).state (vss.layer_of vs))
    → Always b (λ s. (leaves_whole (now s b).state whats.Vs ≡ true) × StandsForVs b.opening (now s b).state (vss.layer_of vs))
given_vs a b es vs r same held used tells s q =
    let qa = setting_less a.opening a.roll b.roll s r.does.roll (subst (λ (o : Opening). IsSettingOf o b.roll s) r.does.opening q) in
    let x = r.agrees s q in let y = same s in let hold = y.2 ∙ held s qa in
    let e = x.vs hold ∙ y.0 in let f = x.spans hold ∙ ap vs_spans y.1 in
    let t = vs_stands a.opening (now s a).state (now s b).state vs (tells s qa) e f in
    (vs_used (now s a).state (now s b).state e f (used s qa), subst (λ (o : Opening). StandsForVs o (now s b).state (vss.layer_of vs)) (sym r.does.opening) t)

-- both locks are given back
pub both_given : (a b c : Token) (first : List Act) → HasGiven a b whats.Back (by_all a.number first) → HasGiven b c whats.Vs (entry b.number (acts.GiveLock whats.Vs) ∷ []) → a.out ≡ back_slot ∷ vs_slot ∷ [] → a.free ≡ true
    → HasEnded a c (first ++ acts.GiveLock whats.Vs ∷ []) []
both_given a b c first x y out free =
    let one = ended_given a b whats.Back (vs_slot ∷ []) first x out free in
    ended_then a b c first (acts.GiveLock whats.Vs ∷ []) [] one.added (ended_given b c whats.Vs [] (acts.GiveLock whats.Vs ∷ []) y one.out_is one.free)
