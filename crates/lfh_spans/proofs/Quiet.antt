-- A caller behind a step without an entry of its own, which changes no more than what it owes.
use Rattle.std.proofs.Common.{◌≡◌, ◌==◌, ℕ, Bool, true, false, not, List, [], Option, refl, sym, ap, ◌∙◌, subst}
use Rattle.atomic_table.specs.Table.{Me}
use Rattle.atomic_table.specs.Seated.{TableId}
use Rattle.rand_core.specs.Stream.{Stream}
use Rattle.heap_model.specs.declared.Entry.{Entry}
use Rattle.heap_model.specs.declared.What.TheVariants as whats
use Rattle.heap_model.specs.State.{Setting, hands, holds, is_caller}
use Rattle.heap_model.specs.Agreement.{AgreesFor}
use Rattle.claim_rule.specs.declared.views.Owed.{Owed}
use Rattle.claim_rule.specs.declared.views.View.{View}
use Rattle.claim_rule.specs.Entries.{IsSettingOf}
use Rattle.claim_rule.specs.Rule.{ready_after}
use Rattle.claim_rule.specs.Plays.{Goes}
use Rattle.heap_gate.specs.Token.{IsAt, IsCaller, AreOut, outs, is_out}
use Rattle.heap_gate.specs.Seated.{Face, tok}
use Rattle.heap_gate.specs.Calls.{Runs}
use Rattle.heap_gate.proofs.Tokens.{Acted, acted, as_was, faced, moved_by, at_behind, with_left, none_agrees, same_in_hand}

module _ {T : Type 0} (z : TableId) (me : Me (Option T) View) (f : Face) (slot : ℕ) (stream : Stream) (h : IsCaller me (tok z me f) slot stream) where
  -- it holds Back
  pub has_back : is_out whats.Back (outs me.1) ≡ true → (s : Setting) → IsSettingOf me.0.opening me.0.roll s → holds (ready_after s me.0 f.prepared).state.gate f.number whats.Back ≡ true
  has_back o s q = let a = h.at s q in a.locks whats.Back ∙ o

  -- it owns the heap lock
  pub has_lock : (f.depth == 0) ≡ false → (s : Setting) → IsSettingOf me.0.opening me.0.roll s → is_caller f.number (ready_after s me.0 f.prepared).state.gate.owner ≡ true
  has_lock d s q = let a = h.at s q in a.owns ∙ ap not d

  module _ (w : f.whole ≡ true) (me' : Me (Option T) View) (slots : me'.1 ≡ me.1) (owed : List Owed) (owes : me'.0.owes ≡ owed) (z' : TableId) (ez : z' ≡ z) (left : List Entry) (le : left ≡ [])
      (go : Goes f.number me.0 me'.0 f.prepared []) where
    pub quiet : Acted z me f slot stream h me' z' left [] (as_was z me f slot stream h) owed
    quiet = acted z me f slot stream h w me' [] (moved_by z me f slot stream h me'.0 [] refl go) z' left ez le (as_was z me f slot stream h) (record {
      slots = subst AreOut (sym slots) h.slots;
      out_is = ap outs slots;
      at = at_behind z me f slot stream h me'.0 [] refl go (λ m. IsAt m f.number f.call f.fresh f.inside f.depth (outs me.1) true f.free)
          (λ s m a. subst (λ (b : Bool). IsAt m f.number f.call f.fresh f.inside f.depth (outs me.1) b f.free) w a);
      marks_are = refl;
      made_is = refl;
      rests = h.even.rests;
      drawn = h.even.drawn;
    }) owed owes

    pub quiet_runs : Runs (tok z me f) (tok z' me' (faced z me f slot stream h (as_was z me f slot stream h) left)) []
    quiet_runs = record {
      does = quiet.does;
      agrees = with_left z me f slot stream h me' left le (λ s m. AgreesFor f.number m (ready_after s me.0 f.prepared)) (λ s q. none_agrees s f.number me.0 me'.0 f.prepared (go.goes s q));
      hands = with_left z me f slot stream h me' left le (λ s m. hands m.state f.number ≡ hands (ready_after s me.0 f.prepared).state f.number)
          (λ s q. same_in_hand s f.number me.0 me'.0 f.prepared [] (go.goes s q) (λ m. refl));
    }
