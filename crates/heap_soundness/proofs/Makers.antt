-- Each maker of an LFH span that is remembered still holds Back.
use Rattle.std.proofs.Common.{◌≡◌, ℕ, Bool, true, false, Option, Some, None, refl, sym, ap, ◌∙◌, subst, eqb, inl, inr}
use Rattle.std.specs.Prelude.{is_none}
use Rattle.std.proofs.lemmas.Bool.{cases_Bool, and_parts, both_ways, false≢true}
use Rattle.heap_model.specs.declared.Act.{Act}
use Rattle.heap_model.specs.declared.Act.TheVariants as acts
use Rattle.heap_model.specs.declared.Kind.TheVariants as kinds
use Rattle.heap_model.specs.declared.Layer.TheVariants as layers
use Rattle.heap_model.specs.declared.What.TheVariants as whats
use Rattle.heap_model.specs.State.{Setting, Area, holds, is_caller}
use Rattle.heap_model.specs.CallState.{SpanHistory, Configuration, caller_view}
use Rattle.heap_model.specs.Legal.{may, state_after, span_history_after, put_hint}
use Rattle.heap_model.proofs.Others.{span_locks}
use Rattle.heap_soundness.specs.Sound.{MakersHoldBack}

hint_makers : (a : Area) (r : SpanHistory) (start : ℕ) (back : Bool) → (put_hint a r start back).makers ≡ r.makers
hint_makers a r start true = refl
hint_makers a r start false = refl

none_holds : (o : Option ℕ) (c : ℕ) → is_none o ≡ true → is_caller c o ≡ false
none_holds None c h = refl
none_holds (Some d) c h = absurd (false≢true h)

pub makers_act : (s : Setting) (m : Configuration) (c : ℕ) (act : Act) → may s m c act ≡ true → MakersHoldBack m.state.gate m.now.span_history →
    MakersHoldBack (state_after m.state (m.now.calls c) c act).gate (span_history_after m.state.back.area m.now.span_history c (caller_view m c).back act)
makers_act s m c (acts.GiveLock whats.Back) h w = λ page d e. absurd (let z : ⊥ = cc in z)
makers_act s m c (acts.GiveLock whats.Gate) h w = w
makers_act s m c (acts.GiveLock whats.Lfh) h w = w
makers_act s m c (acts.GiveLock whats.Vs) h w = w
makers_act s m c (acts.GiveLock whats.Large) h w = w
makers_act s m c (acts.TakeLock whats.Back) h w = λ page d e. absurd (both_ways (holds m.state.gate d whats.Back) (none_holds m.state.gate.locks.back d (and_parts (is_none m.state.gate.locks.back) _ h).0) (w page d e))
makers_act s m c (acts.TakeLock whats.Gate) h w = w
makers_act s m c (acts.TakeLock whats.Lfh) h w = w
makers_act s m c (acts.TakeLock whats.Vs) h w = w
makers_act s m c (acts.TakeLock whats.Large) h w = w
makers_act s m c (acts.Span first pages kinds.Lfh bucket slot) h w = λ page d e. elim (cases_Bool (eqb page first)) [
  | inl f ↦ let g : Some c ≡ Some d = (rw f at e) in let same : c ≡ d = cc in subst (λ (x : ℕ). holds m.state.gate x whats.Back ≡ true) same (span_locks s m c (record { first = first; pages = pages; kind = kinds.Lfh; bucket = bucket; slot = slot }) h).1
  | inr f ↦ w page d (rw f at e)
]
makers_act s m c (acts.Span first pages kinds.Vs bucket slot) h w = w
makers_act s m c (acts.Span first pages kinds.Back bucket slot) h w = w
makers_act s m c (acts.Span first pages kinds.Header bucket slot) h w = w
makers_act s m c (acts.Span first pages kinds.Free bucket slot) h w = w
makers_act s m c (acts.Unspan first) h w = λ page d e. elim (cases_Bool (eqb page first)) [
  | inl f ↦ let g : None ≡ Some d = (rw f at e) in absurd (let z : ⊥ = cc in z)
  | inr f ↦ w page d (rw f at e)
]
makers_act s m c (acts.Place start granules layers.Lfh) h w = λ page d e. w page d (sym (ap (λ (f : ℕ → Option ℕ). f page) (hint_makers m.state.back.area m.now.span_history start (caller_view m c).back)) ∙ e)
makers_act s m c (acts.Place start granules layers.Vs) h w = w
makers_act s m c (acts.Place start granules layers.Back) h w = w
makers_act s m c (acts.Place start granules layers.Large) h w = w
makers_act s m c (acts.Blocked whats.Gate word) h w = w
makers_act s m c _ h w = w
