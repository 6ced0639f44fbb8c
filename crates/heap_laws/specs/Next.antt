-- What may come next behind a history.
use Rattle.std.specs.Prelude.{◌≡◌, ℕ, true, false, ◌&&◌, List, [], ◌∷◌, ◌++◌}
use Rattle.heap_model.specs.declared.Act.TheVariants as acts
use Rattle.heap_model.specs.declared.Entry.{Entry}
use Rattle.heap_model.specs.declared.Kind.TheVariants as kinds
use Rattle.heap_model.specs.State.{Setting}
use Rattle.heap_model.specs.CallState.{Configuration}
use Rattle.heap_model.specs.Legal.{may_follow, after}
use Rattle.heap_model.specs.History.{configuration_after, may_all_follow}

-- the configurations after one more entry at the end, and whether it may follow
abbrev pub OneMore : Type 0
OneMore = (s : Setting) (m : Configuration) (es : List Entry) (e : Entry) →
    (configuration_after s m (es ++ e ∷ []) ≡ after s (configuration_after s m es) e)
    × (may_all_follow s m (es ++ e ∷ []) ≡ (may_all_follow s m es && may_follow s (configuration_after s m es) e))

-- in a configuration no two spans of the back end may come next for the same caller
abbrev pub OneSpan : Type 0
OneSpan = (s : Setting) (m : Configuration) (c f f' p p' b b' t t' : ℕ) →
    may_follow s m (record { caller = c; act = acts.Span f p kinds.Back b t }) ≡ true →
    may_follow s m (record { caller = c; act = acts.Span f' p' kinds.Back b' t' }) ≡ true →
    acts.Span f p kinds.Back b t ≡ acts.Span f' p' kinds.Back b' t'

-- With no other caller about, at most one step of a search may come next.
abbrev pub OneReading : Type 0
OneReading = (s : Setting) (m : Configuration) (c head head' word word' bits bits' : ℕ) → m.now.disturbed c ≡ false →
    may_follow s m (record { caller = c; act = acts.Saw head word bits }) ≡ true →
    may_follow s m (record { caller = c; act = acts.Saw head' word' bits' }) ≡ true →
    acts.Saw head word bits ≡ acts.Saw head' word' bits'
