-- What a caller has read since it entered, and the entries behind which it is still inside.
use Rattle.std.specs.Prelude.{◌≡◌, ℕ, Bool, true, false, ◌&&◌, List, [], ◌∷◌}
use Rattle.heap_model.specs.declared.Act.{Act}
use Rattle.heap_model.specs.declared.Act.TheVariants as acts
use Rattle.heap_model.specs.declared.Entry.{Entry}
use Rattle.heap_model.specs.declared.What.TheVariants as whats
use Rattle.heap_model.specs.State.{is_entered}
use Rattle.step_parts.specs.Seen.{IsSeen}
use Rattle.heap_gate.specs.Token.{Token, now, Always}

-- the act is none at the gate
abbrev pub stays_in : Act → Bool
stays_in acts.Enter = false
stays_in acts.Leave = false
stays_in (acts.Blocked whats.Gate word) = false
stays_in _ = true

abbrev pub all_stay : List Entry → Bool
all_stay [] = true
all_stay (e ∷ es) = stays_in e.act && all_stay es

-- the act leaves the spans
abbrev pub leaves_spans : Act → Bool
leaves_spans (acts.Span first pages kind bucket slot) = false
leaves_spans (acts.Unspan first) = false
leaves_spans (acts.Resize a granules size) = false
leaves_spans _ = true

abbrev pub all_leave_spans : List Entry → Bool
all_leave_spans [] = true
all_leave_spans (e ∷ es) = leaves_spans e.act && all_leave_spans es

-- the caller is inside
abbrev pub IsInside : Token → Type 0
IsInside c = Always c (λ s. is_entered (now s c).state.gate c.number ≡ true)

-- .. and a subsegment of this bucket and this slot, which begins there, counts as read
abbrev pub HasRead : Token → ℕ → ℕ → ℕ → Type 0
HasRead c head b t = Always c (λ s. IsSeen (now s c) head b t)
