-- How the heap lock is taken by a caller that waits for it.
use Rattle.std.specs.Prelude.{◌≡◌, ◌≢◌, ◌+◌, ◌<◌}
use Rattle.heap_model.specs.declared.Call.TheVariants as calls
use Rattle.heap_model.specs.declared.Reply.TheVariants as replies
use Rattle.heap_gate.specs.Token.{Token}
use Rattle.heap_gate.specs.Calls.{with_depth}
use Rattle.heap_now.specs.Calls.{IsReady}
use Rattle.heap_api.specs.AtLast.{GetsAtLast}

-- The caller has the heap lock once more. From depth 0 it has tried until nobody was in the way; a deeper one needs no step.
pub record IsLockedAtLast (old new : Token) : Type 0 where
  pub table : new.table ≡ old.table
  pub opening : new.opening ≡ old.opening
  pub depth : new.depth ≡ old.depth + 1
  pub few : old.depth < 65535
  pub first : old.depth ≡ 0 → GetsAtLast old (with_depth new 0) calls.Lock replies.Done
  pub again : old.depth ≢ 0 → new ≡ with_depth old (old.depth + 1)
  pub ready : IsReady new
