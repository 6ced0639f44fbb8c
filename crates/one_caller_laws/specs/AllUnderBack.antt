-- All that one caller can ask is determined, as long as what a pass finds is placed under the lock of the back end.
use Rattle.heap_model.specs.State.{Setting, IsValidSetting}
use Rattle.one_caller_laws.specs.Asked.{Script}
use Rattle.one_caller_laws.specs.UnderBack.{AreOneUnderBack}

-- Any two runs of any script under that premise have the same replies, and end in the same state.
abbrev pub AllRunsUnderBackAreOne : Type 0
AllRunsUnderBackAreOne = (s : Setting) (script : Script) → IsValidSetting s → AreOneUnderBack s script
