-- No act but a Begin changes which call it is.
use Rattle.std.proofs.Common.{◌≡◌, ℕ, false, Option, Some, None, refl}
use Rattle.std.proofs.lemmas.Bool.{true≢false}
use Rattle.heap_model.specs.declared.Act.{Act}
use Rattle.heap_model.specs.declared.Act.TheVariants as acts
use Rattle.heap_model.specs.declared.Kind.{Kind}
use Rattle.heap_model.specs.declared.Kind.TheVariants as kinds
use Rattle.heap_model.specs.State.{Setting}
use Rattle.heap_model.specs.CallState.{CallState, Search}
use Rattle.heap_model.specs.Search.{SearchKey, asked_bucket, after_saw, after_no_hint, after_lost, after_no_span, after_own_span}
use Rattle.heap_model.specs.Legal.{call_after, step_search, after_span, is_begin}

stepped : (s : Setting) (c : ℕ) (k : CallState) (f : SearchKey → Search → Search) (o : Option ℕ) → (step_search s c k f o).call ≡ k.call
stepped s c k f None = refl
stepped s c k f (Some b) = refl

spanned : (s : Setting) (c : ℕ) (k : CallState) (first : ℕ) (kind : Kind) → (after_span s c k first kind).call ≡ k.call
spanned s c k first kinds.Lfh = stepped s c k (λ g f. after_own_span g f first) (asked_bucket k)
spanned s c k first _ = refl

pub goes_on : (s : Setting) (c : ℕ) (k : CallState) (act : Act) → is_begin act ≡ false → (call_after s c k act).call ≡ k.call
goes_on s c k (acts.Begin call) h = absurd (true≢false h)
goes_on s c k (acts.Span first pages kind bucket slot) h = spanned s c k first kind
goes_on s c k (acts.Saw head word bits) h = stepped s c k (λ g f. after_saw g f head word bits) (asked_bucket k)
goes_on s c k (acts.Lost head index) h = stepped s c k (λ g f. after_lost f) (asked_bucket k)
goes_on s c k (acts.NoHint bucket slot) h = stepped s c k (λ g f. after_no_hint f) (asked_bucket k)
goes_on s c k (acts.NoSpan bucket) h = stepped s c k (λ g f. after_no_span f) (asked_bucket k)
goes_on s c k _ h = refl
