-- When an allocation of VS tries the lock of the back end: first, and where no gap holds it, or never.
use Rattle.std.proofs.Common.{◌≡◌, ℕ, Bool, true, List, [], ◌∷◌, None, refl, ◌∙◌}
use Rattle.heap_model.specs.declared.Act.{Act}
use Rattle.heap_model.specs.declared.Act.TheVariants as acts
use Rattle.heap_model.specs.declared.Busy.{Busy}
use Rattle.heap_model.specs.declared.Call.{Call}
use Rattle.heap_model.specs.declared.What.TheVariants as whats
use Rattle.claim_rule.specs.Entries.{entry}
use Rattle.claim_rule.specs.Places.{vs_slot}
use Rattle.heap_gate.specs.Token.{Token}
use Rattle.heap_gate.specs.Calls.{HasMissed, HasGiven}
use Rattle.vs_layer.specs.Kept.{VsKept, place_for}
use Rattle.call_parts.specs.Calls.{GoesOn, IsServing}
use Rattle.call_parts.specs.Entries.{HasEnded}
use Rattle.call_parts.proofs.Joining.{goes_then}
use Rattle.call_parts.proofs.Tokens.{added_runs, ended_given, ended_then}
use Rattle.vs_calls.specs.Parts.{HasPlaced}
use Rattle.vs_calls.specs.Tries.{tries_none, TriesBehind, LeavesBack, TriesBackFirst}
use Rattle.vs_calls.proofs.Tries.{behind_none}

---- Never

pub placed_leaves : (a f : Token) (n addr : ℕ) (zero_it : Bool) → HasPlaced a f n addr zero_it → LeavesBack a f
placed_leaves a f n addr zero_it p = record { added = p.rest; goes = p.ended.added.goes; back = p.no_back }

pub refusal_leaves : (a f : Token) (n : ℕ) → HasEnded a f (acts.NoFit n ∷ acts.GiveLock whats.Back ∷ acts.GiveLock whats.Vs ∷ []) [] → LeavesBack a f
refusal_leaves a f n x = record { added = acts.NoFit n ∷ acts.GiveLock whats.Back ∷ acts.GiveLock whats.Vs ∷ []; goes = x.added.goes; back = refl }

---- First

abbrev IsFirst : VsKept → ℕ → List Act → Type 0
IsFirst vs n before = (before ≡ []) × (place_for vs n ≡ None)

-- the first act may try it, and the others do not
first_behind : (vs : VsKept) (n : ℕ) (act : Act) (rest : List Act) → place_for vs n ≡ None → tries_none whats.Back rest ≡ true → TriesBehind whats.Back (IsFirst vs n) (act ∷ rest)
first_behind vs n act rest none quiet [] after one e is = (refl, none)
first_behind vs n act rest none quiet (x ∷ before) after one e is = absurd (behind_none whats.Back (λ l. ⊥) rest quiet before after one (cc (e)) is)

pub first_none : (a f : Token) (vs : VsKept) (n : ℕ) → LeavesBack a f → TriesBackFirst a f vs n
first_none a f vs n x = record { added = x.added; goes = x.goes; back = behind_none whats.Back (IsFirst vs n) x.added x.back }

-- it was taken
pub first_taken : (a b f : Token) (vs : VsKept) (n : ℕ) → GoesOn a b (acts.TakeLock whats.Back ∷ []) → place_for vs n ≡ None → LeavesBack b f → TriesBackFirst a f vs n
first_taken a b f vs n g none x = record {
  added = acts.TakeLock whats.Back ∷ x.added;
  goes = goes_then a b f (acts.TakeLock whats.Back ∷ []) x.added g x.goes;
  back = first_behind vs n (acts.TakeLock whats.Back) x.added none x.back;
}

-- .. or met busy, and that of VS is given back
pub first_missed : (a b d : Token) (vs : VsKept) (n : ℕ) (busy : Busy) {call : Call} → IsServing a call (vs_slot ∷ []) → HasMissed a b whats.Back busy.what busy.word → HasGiven b d whats.Vs (entry b.number (acts.GiveLock whats.Vs) ∷ [])
    → place_for vs n ≡ None → TriesBackFirst a d vs n
first_missed a b d vs n busy serving x g none =
    let s = x.stands in
    let blocked : Act = acts.Blocked whats.Back busy.word in
    let last = ended_given b d whats.Vs [] (acts.GiveLock whats.Vs ∷ []) g (s.out ∙ serving.out_is) (s.free ∙ serving.free) in
    let all = ended_then a b d (blocked ∷ []) (acts.GiveLock whats.Vs ∷ []) [] (added_runs a b (blocked ∷ []) x.runs s) last in
    record { added = blocked ∷ acts.GiveLock whats.Vs ∷ []; goes = all.added.goes; back = first_behind vs n blocked (acts.GiveLock whats.Vs ∷ []) none refl }
