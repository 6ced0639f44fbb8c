-- What a state of a lock stands for: what the layer in it does.
use Rattle.call_parts.specs.declared.state.State.{State}
use Rattle.call_parts.specs.declared.state.State.TheVariants as states
use Rattle.heap_model.specs.Layers.{LayerState}
use Rattle.backend_fit.specs.Kept as back
use Rattle.vs_layer.specs.Standing as vs
use Rattle.large_blocks.specs.Table as large

abbrev pub layer_of : State → LayerState
layer_of (states.Vs v) = vs.layer_of v
layer_of (states.Back b) = back.layer_of b
layer_of (states.Large l) = large.layer_of l
