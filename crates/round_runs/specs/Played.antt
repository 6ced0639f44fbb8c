-- A script that was run on a heap of its own.
use Rattle.std.specs.Prelude.{◌≡◌, ℕ, List}
use Rattle.heap_model.specs.declared.Limits.{Limits}
use Rattle.heap_model.specs.declared.Reply.{Reply}
use Rattle.heap_model.specs.State.{live}
use Rattle.script_text.specs.Scripts.{commands_of}
use Rattle.script_text.specs.ThreadLines.{ScriptLines}
use Rattle.layout_decode.specs.Decode.{decode, IsReadable}
use Rattle.layout_decode.specs.Shows.{Shows}
use Rattle.heap_closing.specs.declared.Receipt.{Receipt}
use Rattle.thread_rounds.specs.Headline.{state_of}
use Rattle.thread_rounds.specs.Rounds.{setting_of, IsRun}

-- The history of the heap is that of the script's rounds, which got these answers. What is left of the heap shows the state behind it, can
-- be read, and decodes to exactly the live blocks.
pub record IsPlayed (script : ScriptLines) (limits : Limits) (seed : ℕ) (answers : List (List (List Reply))) (receipt : Receipt) : Type 0 where
  pub run : IsRun limits seed (commands_of script) answers receipt.last.value.seen
  pub shows : Shows receipt.image (setting_of limits seed) (state_of limits seed receipt.last.value.seen)
  pub blocks : decode receipt.image ≡ live (state_of limits seed receipt.last.value.seen)
  pub readable : IsReadable receipt.image
