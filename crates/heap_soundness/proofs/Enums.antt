-- Kinds and layers of one number are one.
use Rattle.std.proofs.Common.{◌≡◌, true, refl}
use Rattle.std.proofs.lemmas.Bool.{false≢true}
use Rattle.heap_model.specs.declared.Kind.{Kind}
use Rattle.heap_model.specs.declared.Kind.TheVariants as kinds
use Rattle.heap_model.specs.declared.Layer.{Layer}
use Rattle.heap_model.specs.declared.Layer.TheVariants as layers
use Rattle.heap_model.specs.State.{is_kind, is_layer}

pub kind_is : (a b : Kind) → is_kind a b ≡ true → a ≡ b
kind_is kinds.Header kinds.Header h = refl
kind_is kinds.Free kinds.Free h = refl
kind_is kinds.Vs kinds.Vs h = refl
kind_is kinds.Lfh kinds.Lfh h = refl
kind_is kinds.Back kinds.Back h = refl
kind_is kinds.Header _ h = absurd (false≢true h)
kind_is kinds.Free _ h = absurd (false≢true h)
kind_is kinds.Vs _ h = absurd (false≢true h)
kind_is kinds.Lfh _ h = absurd (false≢true h)
kind_is kinds.Back _ h = absurd (false≢true h)

pub layer_is : (l k : Layer) → is_layer l k ≡ true → k ≡ l
layer_is layers.Lfh layers.Lfh e = refl
layer_is layers.Vs layers.Vs e = refl
layer_is layers.Back layers.Back e = refl
layer_is layers.Large layers.Large e = refl
layer_is layers.Lfh _ e = absurd (false≢true e)
layer_is layers.Vs _ e = absurd (false≢true e)
layer_is layers.Back _ e = absurd (false≢true e)
layer_is layers.Large _ e = absurd (false≢true e)
