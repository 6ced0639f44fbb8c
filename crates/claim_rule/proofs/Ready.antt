-- What a caller may do in what it knows it may do in the history, and a step that reads a word adds no entry.
use Rattle.std.proofs.Common.{◌≡◌, ℕ, true, List, [], ◌++◌, get_or, Option, Some, None, refl, sym, ap, ◌∙◌}
use Rattle.std.specs.Prelude.{is_some}
use Rattle.std.proofs.lemmas.Bool.{eqb-true, false≢true, and_parts}
use mathlib.Core.Option.{some}
use lib.ListN.{get_elem?}
use Rattle.atomic_table.specs.Table.{State, Me, keeps, stepped}
use Rattle.heap_model.specs.declared.Act.{Act as Deed}
use Rattle.heap_model.specs.declared.Entry.{Entry}
use Rattle.heap_model.specs.State.{Setting, is_caller}
use Rattle.heap_model.specs.CallState.{Configuration, Nothing}
use Rattle.heap_model.specs.Legal.{may, may_follow}
use Rattle.heap_model.specs.History.{configuration_after, configuration_of}
use Rattle.heap_model.proofs.Stable.{stable_follows}
use Rattle.heap_model.specs.declared.Opening.{Opening}
use Rattle.claim_rule.specs.declared.views.View.{View}
use Rattle.heap_model.specs.Layers.{LayerState}
use Rattle.claim_rule.specs.Entries.{entry}
use Rattle.claim_rule.specs.Rule.{IsRuled, IsReady}
use Rattle.claim_rule.specs.Plays.{Goes}
use Rattle.claim_rule.proofs.Words.{all_kept}
use Rattle.claim_rule.proofs.Advance.{before, acts}
use Rattle.claim_rule.proofs.Gate.{one_follows}
use Rattle.heap_model.specs.Agreement.{AgreesFor, is_stable}
use Rattle.heap_model.proofs.GateSound.{row_of}

-- an act that the caller alone decides may come in the history where it may come in what the caller knows
pub stable_here : (s : Setting) (n : ℕ) (m k : Configuration) (d : Deed) → AgreesFor n m k → m.now.demand ≡ Nothing → k.now.demand ≡ Nothing → is_stable k n d ≡ true → is_some (k.now.calls n).call ≡ true → may s k n d ≡ true → may s m n d ≡ true
stable_here s n m k d r w w' stable begun ok =
    let f = (and_parts (may_follow s k (entry n d)) true (one_follows s k n d w' begun ok)).0 in
    row_of s m (entry n d) (stable_follows s n m k r d (w ∙ sym w') stable f)

-- the holder that a test finds
pub holder_is_it : (n : ℕ) (w : Option ℕ) → is_caller n w ≡ true → w ≡ Some n
holder_is_it n None h = absurd (false≢true h)
holder_is_it n (Some d) h = ap Some (eqb-true d n h)

module _ {T : Type 0} (stands : T → LayerState) (o : Opening) (slots id n : ℕ) (me : Me (Option T) View) (es : List Entry) (h : IsReady n me.0 es) (st : State (Option T) View) (r : IsRuled stands o st) (at : get_elem? st.views id ≡ some me.0) where
  abbrev now_at : Setting → Configuration
  now_at s = configuration_after s (configuration_of s r.log) es

  -- a word is read, with no entry
  pub reads : (word : ℕ) → (w : View) × IsRuled stands o (stepped st word (get_or st.words word 0) id me.1 w keeps) × Rattle.claim_rule.specs.Plays.Goes n me.0 w es [] × (w.owes ≡ me.0.owes) × (w.seen ≡ r.log ++ (es ++ [])) × (w.roll ≡ r.lead.roll)
  reads word = acts stands o st r id n me.0 es at h me.1 word (get_or st.words word 0) keeps [] refl (λ k. refl)
      (λ s q. let d = before stands o st r id n me.0 es at h s q in (refl, d.whole, all_kept o.limits r.lead.counted (now_at s) r.owes st.words word d.words, d.home))
