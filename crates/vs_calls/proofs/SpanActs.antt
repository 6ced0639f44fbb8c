-- The entries of a block in a new span, by the page of the span.
use Rattle.std.proofs.Common.{◌≡◌, ℕ, ◌*◌, ◌/◌, ◌<◌, ◌≤◌, true, List, [], ◌∷◌, ◌∙◌}
use Rattle.std.proofs.lemmas.Bool.{lt-ltb, le-ltb}
use Rattle.heap_model.specs.declared.Act.{Act}
use Rattle.heap_model.specs.declared.Act.TheVariants as acts
use Rattle.heap_model.specs.declared.Kind.TheVariants as kinds
use Rattle.heap_model.specs.declared.Layer.TheVariants as layers
use Rattle.heap_model.specs.Geometry.{span_pages_of}
use Rattle.heap_model.specs.Runs.{Run}
use Rattle.claim_rule.specs.Entries.{are_prepared}
use Rattle.call_laws.specs.Within.{by_all}
use Rattle.heap_gate.specs.Token.{Token, Always, now}
use Rattle.vs_calls.specs.Parts.{span_acts}

abbrev pub span_then_place : ℕ → ℕ → ℕ → ℕ → List Act
span_then_place first pages start granules = acts.Span first pages kinds.Vs 0 0 ∷ acts.Place start granules layers.Vs ∷ []

module _ (c : Token) (reserved first n : ℕ) (run : Run) (pages start granules : ℕ) (p : pages ≡ span_pages_of n) (a : start ≡ 16 * run.first) (g : granules ≡ run.count)
    (may : Always c (λ s. are_prepared s (now s c) c.number (by_all c.number (span_acts reserved first n run)) ≡ true)) where
  pub low_may : first / 256 < reserved → Always c (λ s. are_prepared s (now s c) c.number (by_all c.number (span_then_place first pages start granules)) ≡ true)
  low_may l s q =
      let e = lt-ltb (first / 256) reserved l in
      let k = may s q in
      let low : are_prepared s (now s c) c.number (by_all c.number (span_then_place first (span_pages_of n) (16 * run.first) run.count)) ≡ true = rw e at k in
      (λ i. are_prepared s (now s c) c.number (by_all c.number (span_then_place first (p i) (a i) (g i)))) ∙ low

  pub high_may : reserved ≤ first / 256 → Always c (λ s. are_prepared s (now s c) c.number (by_all c.number (acts.Reserve reserved ∷ span_then_place first pages start granules)) ≡ true)
  high_may l s q =
      let e = le-ltb (first / 256) reserved l in
      let k = may s q in
      let high : are_prepared s (now s c) c.number (by_all c.number (acts.Reserve reserved ∷ span_then_place first (span_pages_of n) (16 * run.first) run.count)) ≡ true = rw e at k in
      (λ i. are_prepared s (now s c) c.number (by_all c.number (acts.Reserve reserved ∷ span_then_place first (p i) (a i) (g i)))) ∙ high
