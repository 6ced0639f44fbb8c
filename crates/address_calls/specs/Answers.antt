-- What a part of a call answers that has to find a block by its address alone.
use Rattle.std.specs.Prelude.{ℕ, ◌+◌, ◌*◌, ◌/◌, ◌<◌, ◌≤◌, Option, IfSome}
use Rattle.heap_model.specs.declared.Busy.{Busy}
use Rattle.heap_model.specs.declared.Limits.{Limits}
use Rattle.heap_model.specs.declared.What.{What}
use Rattle.heap_model.specs.declared.What.TheVariants as whats
use Rattle.heap_model.specs.Geometry.{words_of}
use Rattle.claim_rule.specs.Places.{data_count}
use Rattle.heap_gate.specs.Token.{Token}
use Rattle.call_parts.specs.Calls.{MeetsBusy}
use Rattle.paged_calls.specs.Parts.{ForCall}

-- A look-up may need this lock: behind the segments that of the large area, in them that of VS or of the back end.
abbrev pub MayGuard : Limits → ℕ → What → Type 0
MayGuard l addr whats.Vs = addr / 4096 < 256 * l.segments
MayGuard l addr whats.Back = addr / 4096 < 256 * l.segments
MayGuard l addr whats.Large = (256 * l.segments ≤ addr / 4096) × (addr / 4096 < 256 * l.segments + l.large_pages)
MayGuard l addr _ = ⊥

-- Another caller holds a lock that this needs.
pub record MeetsOn (old new : Token) (addr : ℕ) (b : Busy) : Type 0 where
  pub guards : MayGuard old.opening.limits addr b.what
  pub met : ForCall old (λ call. MeetsBusy old new call b b.what)

-- the words of a block are data words
abbrev pub HasWords : Limits → ℕ → Option ℕ → Type 0
HasWords l addr told = IfSome told (λ size. addr / 8 + words_of size ≤ data_count l)
