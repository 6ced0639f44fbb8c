-- When the search of a caller is spent, so that a subsegment may be made for it, and how an allocation comes to search under Back.
use Rattle.std.specs.Prelude.{◌≡◌, ℕ, ◌<◌, true, [], ◌∷◌, Some}
use Rattle.heap_model.specs.declared.Act.TheVariants as acts
use Rattle.heap_model.specs.declared.Call.TheVariants as calls
use Rattle.heap_model.specs.declared.Flags.{Flags}
use Rattle.heap_model.specs.declared.What.TheVariants as whats
use Rattle.heap_model.specs.State.{Span}
use Rattle.heap_model.specs.CallState.{Search}
use Rattle.heap_model.specs.Search.{spans_of}
use Rattle.heap_soundness.specs.Sound.{IsOneOf}
use Rattle.claim_rule.specs.Entries.{entry}
use Rattle.claim_rule.specs.Places.{vs_slot}
use Rattle.backend_fit.specs.Kept.{Kept, area_of, layer_of}
use Rattle.heap_gate.specs.Token.{Token, now, Always, is_out, IsStanding}
use Rattle.heap_gate.specs.Calls.{HasTaken, IsGuarded, Reveals, Stands, stance}
use Rattle.lfh_claims.specs.Search.{own_slot}
use Rattle.lfh_spans.specs.Subsegments.{MayMake}
use Rattle.lfh_search.specs.declared.course.Course.{Course}
use Rattle.lfh_search.specs.Results.{Searches}
use Rattle.lfh_search.specs.Hints.{HasSpentHint}
use Rattle.lfh_search.specs.Passes.{IsPassing}
use Rattle.lfh_search.specs.Under.{IsUnder, HasSaid, HasNotSaid, HasNoPages}

-- Eight lost claims spend the search of a caller that holds Back.
abbrev pub EightLossesSpend : Type 0
EightLossesSpend =
    (c : Token) (b d : ℕ) (f : Search) → Searches c b d f → f.lost ≡ 8 → IsStanding c → is_out whats.Back c.out ≡ true → Always c (λ s. MayMake s (now s c) c.number b d)

-- So does a pass that has read all subsegments.
abbrev pub PassSpends : Type 0
PassSpends =
    (c : Token) (back : Kept) (course : Course) (f : Search) (from lost : ℕ) → IsPassing c back course f from lost
    → ((x : Span) → IsOneOf x (spans_of (area_of back) course.bucket (own_slot c)) → x.first < from) → Always c (λ s. MayMake s (now s c) c.number course.bucket course.draw.value)

---- An allocation goes on under locks

-- Behind a spent first pass it takes Back: the search may go on under it.
abbrev pub SpentGoesUnder : Type 0
SpentGoesUnder =
    (a c e : Token) (back : Kept) (course : Course) (lost n : ℕ) (flags : Flags) → HasSpentHint a c course.bucket course.draw.value lost → HasNotSaid a → HasTaken layer_of c e whats.Back back
    → IsStanding e → e.call ≡ Some (calls.Alloc n flags) → HasNotSaid e × ((f : Search) × IsUnder e back course f lost)

-- Behind NoSpan, with Vs held from before, it may search again.
abbrev pub NoRoomGoesAgain : Type 0
NoRoomGoesAgain =
    (a c : Token) (back after : Kept) (course : Course) (f : Search) (lost now_lost : ℕ) → IsUnder a back course f lost → HasNoPages a c back after course lost now_lost
    → IsStanding c → is_out whats.Vs c.out ≡ true → HasSaid c × ((g : Search) × IsUnder c after course g now_lost)

-- .. or it takes Vs first, as `HasTaken` has it
abbrev pub NoRoomTakesVs : Type 0
NoRoomTakesVs =
    (a c e : Token) (back after : Kept) (course : Course) (f : Search) (lost now_lost n : ℕ) (flags : Flags) → IsUnder a back course f lost → HasNoPages a c back after course lost now_lost
    → Reveals c e (entry c.number (acts.TakeLock whats.Vs) ∷ []) → Stands e (record (stance c) { out = vs_slot ∷ c.out }) → Always e (λ s. IsGuarded c.number (now s c) (now s e))
    → IsStanding e → e.call ≡ Some (calls.Alloc n flags) → HasSaid e × ((g : Search) × IsUnder e after course g now_lost)
