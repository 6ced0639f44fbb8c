-- A move whose new block the front end could not serve: it went to VS.
use Rattle.std.specs.Prelude.{◌≡◌, ℕ, []}
use Rattle.heap_model.specs.declared.Flags.{Flags}
use Rattle.heap_model.specs.State.{Place}
use Rattle.claim_rule.specs.Entries.{IsLegalWith}
use Rattle.heap_gate.specs.Token.{Token}
use Rattle.backend_fit.specs.Kept.{Kept}
use Rattle.large_blocks.specs.Table.{LargeTable}
use Rattle.vs_layer.specs.Kept.{VsKept}
use Rattle.move_parts.specs.Moves.{TellsLarge}
use Rattle.move_parts.specs.Moved.{HasMoved}
use Rattle.move_to_front.specs.Moved.{TellsLow}

-- The block has moved, and before its words did nothing was prepared. The states of VS and of the back end tell what is there.
pub record MovesLate (old new : Token) (addr size n : ℕ) (flags : Flags) (p : Place) (b : ℕ) (more : VsKept) (kept : Kept) : Type 0 where
  pub moved : HasMoved old new addr size n flags p b
  pub prepared : moved.between.prepared ≡ []
  pub legal : IsLegalWith moved.between.opening moved.between.roll moved.between.seen
  pub tells : TellsLow new more kept

-- .. and so does that of the large area
pub record MovesLateLarge (old new : Token) (addr size n : ℕ) (flags : Flags) (p : Place) (b : ℕ) (more : VsKept) (kept : Kept) (table : LargeTable) : Type 0 where
  pub late : MovesLate old new addr size n flags p b more kept
  pub large : TellsLarge new table
