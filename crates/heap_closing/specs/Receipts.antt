-- The end of a heap.
use Rattle.claim_rule.specs.Entries.{setting_of}
use Rattle.heap_model.specs.CallState.{Configuration}
use Rattle.heap_model.specs.History.{configuration_of}
use Rattle.heap_gate.specs.Roots.{RootToken}

-- the configuration behind the list that the root has seen
abbrev pub last_of : RootToken → Configuration
last_of r = configuration_of (setting_of r.opening r.roll) r.seen
