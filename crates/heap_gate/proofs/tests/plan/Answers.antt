use Rattle.std.proofs.Common.{◌≡◌, ℕ, ◌∙◌, List, [], true, ap, sym, subst, refl}
use Rattle.heap_model.specs.declared.Act.TheVariants as acts
use Rattle.heap_model.specs.declared.Call.TheVariants as calls
use Rattle.heap_model.specs.declared.Entry.{Entry}
use Rattle.heap_model.specs.declared.Limits.{Limits}
use Rattle.heap_model.specs.Legal.{may_follow}
use Rattle.heap_model.specs.History.{configuration_after, configuration_of}
use Rattle.claim_rule.specs.Entries.{entry}
use Rattle.heap_gate.proofs.tests.plan.Goals as goal

pub prepare-requires-clause-may : goal.prepare-requires-clause-may
prepare-requires-clause-may g c = λ s q.
    let f = c.requires.fresh in
    let callers : s.limits.callers ≡ 2 = ap (λ (l : Limits). l.callers) q.limits ∙ f.2 in
    let first : may_follow s (configuration_after s (configuration_of s []) []) (entry 0 (acts.Begin calls.Stay)) ≡ true = rw callers refl in
    subst (λ (x : List Entry × List Entry × ℕ). may_follow s (configuration_after s (configuration_of s x.0) x.1) (entry x.2 (acts.Begin calls.Stay)) ≡ true)
    (λ j. (sym f.0 j, sym c.requires.settled.prepared j, sym f.1 j)) first
