-- A caller behind a load or a store of a data word.
use Rattle.std.proofs.Common.{◌≡◌, ℕ, ◌==◌, ◌||◌, Bool, true, not, List, [], ◌∷◌, Option, refl, ap, ◌∙◌}
use Rattle.std.specs.Prelude.{is_some}
use Rattle.atomic_table.specs.Table.{Me}
use Rattle.atomic_table.specs.Seated.{TableId}
use Rattle.rand_core.specs.Stream.{Stream}
use Rattle.heap_model.specs.declared.Act.TheVariants as acts
use Rattle.heap_model.specs.declared.Entry.{Entry}
use Rattle.heap_model.specs.State.{Setting}
use Rattle.claim_rule.specs.declared.views.View.{View}
use Rattle.claim_rule.specs.Entries.{IsSettingOf, entry}
use Rattle.claim_rule.specs.Rule.{ready_after}
use Rattle.claim_rule.specs.Plays.{Goes, number_of}
use Rattle.lock_steps.specs.Data.{IsInside}
use Rattle.heap_gate.specs.Token.{IsCaller, outs}
use Rattle.heap_gate.specs.Seated.{Face, tok}
use Rattle.heap_gate.specs.Calls.{Runs}
use Rattle.heap_gate.proofs.Standing.{at_plain}
use Rattle.heap_gate.proofs.Tokens.{Acted, acted_once, as_was, faced, may_by}
use Rattle.heap_gate.proofs.Acting.{runs_of}

module _ {T : Type 0} (z : TableId) (me : Me (Option T) View) (f : Face) (slot : ℕ) (stream : Stream) (h : IsCaller me (tok z me f) slot stream) (w : f.whole ≡ true) where
  -- the caller is inside
  pub inside_by : f.inside ≡ true → (s : Setting) → IsSettingOf me.0.opening me.0.roll s → IsInside (ready_after s me.0 f.prepared) (number_of me.0.role)
  inside_by i = may_by z me f slot stream h IsInside (λ s q.
      let a = h.at s q in
      record { begun = ap is_some a.call ∙ a.begun (ap (λ (b : Bool). b || not (f.depth == 0)) i); inside = a.entered ∙ i })

  module _ (me' : Me (Option T) View) (slots : me'.1 ≡ me.1) (owes : me'.0.owes ≡ me.0.owes) (z' : TableId) (ez : z' ≡ z) (left : List Entry) (le : left ≡ []) (word value : ℕ) where
    pub loading : Goes f.number me.0 me'.0 f.prepared (entry f.number (acts.Load word value) ∷ []) → Acted z me f slot stream h me' z' left (entry f.number (acts.Load word value) ∷ []) (as_was z me f slot stream h) me.0.owes
    loading go = acted_once z me f slot stream h w me' (acts.Load word value) go slots owes (λ k. refl) f.fresh f.locked f.inside f.depth
        (λ s m a. at_plain s m f.number f.call f.fresh f.inside f.depth (outs me.1) f.whole f.free (acts.Load word value) refl refl refl refl a) h.even.rests h.even.drawn z' left ez le

    pub loaded_runs : Goes f.number me.0 me'.0 f.prepared (entry f.number (acts.Load word value) ∷ []) → Runs (tok z me f) (tok z' me' (faced z me f slot stream h (as_was z me f slot stream h) left)) (entry f.number (acts.Load word value) ∷ [])
    loaded_runs go = runs_of z me f slot stream h w me' (acts.Load word value) (as_was z me f slot stream h) z' left le go (λ m. refl) (λ s m. refl) (loading go)

    pub storing : Goes f.number me.0 me'.0 f.prepared (entry f.number (acts.Store word value) ∷ []) → Acted z me f slot stream h me' z' left (entry f.number (acts.Store word value) ∷ []) (as_was z me f slot stream h) me.0.owes
    storing go = acted_once z me f slot stream h w me' (acts.Store word value) go slots owes (λ k. refl) f.fresh f.locked f.inside f.depth
        (λ s m a. at_plain s m f.number f.call f.fresh f.inside f.depth (outs me.1) f.whole f.free (acts.Store word value) refl refl refl refl a) h.even.rests h.even.drawn z' left ez le

    pub stored_runs : Goes f.number me.0 me'.0 f.prepared (entry f.number (acts.Store word value) ∷ []) → Runs (tok z me f) (tok z' me' (faced z me f slot stream h (as_was z me f slot stream h) left)) (entry f.number (acts.Store word value) ∷ [])
    stored_runs go = runs_of z me f slot stream h w me' (acts.Store word value) (as_was z me f slot stream h) z' left le go (λ m. refl) (λ s m. refl) (storing go)
