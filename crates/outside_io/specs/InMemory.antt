-- What callers see of the sources and sinks in memory.
use Rattle.std.specs.Prelude.{ℕ, List, Bool}
use Rattle.outside_io.specs.Calls.{Calls}

-- A source that gives pieces: the bytes that it has left, the most that one read gives, and its calls.
pub record SourceState : Type 0 where
  pub left : List ℕ
  pub most : ℕ
  pub calls : Calls

-- A sink that takes whole texts: the bytes that it holds, and whether it is finished.
pub record PlainState : Type 0 where
  pub held : List ℕ
  pub finished : Bool

-- A sink that takes pieces: besides, the most that one write takes, and its calls.
pub record SinkState : Type 0 where
  pub held : List ℕ
  pub finished : Bool
  pub most : ℕ
  pub calls : Calls
