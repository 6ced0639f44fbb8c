-- How late an allocation tries the locks, from its Begin to its answer.
use Rattle.std.proofs.Common.{ℕ, ◌≤◌, List, [], ◌∷◌, ◌++◌, refl, arith}
use Rattle.heap_model.specs.declared.Act.{Act}
use Rattle.heap_model.specs.declared.Act.TheVariants as acts
use Rattle.heap_model.specs.declared.Busy.{Busy}
use Rattle.heap_model.specs.declared.Call.{Call}
use Rattle.heap_model.specs.declared.What.TheVariants as whats
use Rattle.heap_soundness.specs.Sound.{IsOneOf}
use Rattle.search_laws.proofs.Blocks.{bucket_fits}
use Rattle.claim_rule.specs.Entries.{entry}
use Rattle.heap_gate.specs.Token.{Token}
use Rattle.heap_gate.specs.Calls.{with_prepared, stance, HasTurnedBack}
use Rattle.call_parts.proofs.Joining.{goes_prepared, goes_does, goes_then}
use Rattle.small_calls.specs.Late.{HasSpentFirst, TriesNeither, TriesLate, IsLate, BacksLate}
use Rattle.small_calls.proofs.SeenActive.{seen_later}
use Rattle.small_calls.proofs.Late.{neither_late}
use Rattle.small_calls.proofs.Backs.{backs_before, backs_then}
use Rattle.vs_calls.proofs.Tries.{behind_more, behind_then, one_behind}
use Rattle.small_calls.proofs.Tries.{spent_later}
use Rattle.heap_now.specs.Calls.{HasBegun, HasGone}

-- where another owns the heap lock
pub turned_neither : (a b : Token) (call : Call) (busy : Busy) → HasTurnedBack (with_prepared a (acts.Begin call)) b (stance (with_prepared a (acts.Begin call))) busy.what busy.word (entry a.number (acts.Blocked whats.Gate busy.word) ∷ entry a.number acts.Leave ∷ [])
    → TriesNeither a b
turned_neither a b call busy x =
    let begun = with_prepared a (acts.Begin call) in
    let rest : List Act = acts.Blocked whats.Gate busy.word ∷ acts.Leave ∷ [] in
    record {
      added = acts.Begin call ∷ rest;
      goes = goes_then a begun b (acts.Begin call ∷ []) rest (goes_prepared a (acts.Begin call)) (goes_does begun b rest x.runs.does x.stands.depth);
      back = refl;
      vs = refl;
    }

pub turned_late : (a b : Token) (n : ℕ) → TriesNeither a b → IsLate a b n
turned_late a b n x k is seen = neither_late a b k x

-- no bucket has blocks so long
pub big_late : (b d : Token) (n : ℕ) → 131073 ≤ n → IsLate b d n
big_late b d n big k is seen = let few = (bucket_fits n k is).0 in absurd (omega (arith, big, few))

-- the whole call
module _ (a b d e : Token) (call : Call) (g : HasBegun a b call) (l : HasGone d e) where
  abbrev first : List Act
  first = acts.Begin call ∷ acts.Enter ∷ []

  abbrev last : List Act
  last = acts.Leave ∷ []

  framed : (k : ℕ) → TriesLate b d k → TriesLate a e k
  framed k x = record {
    added = first ++ (x.added ++ last);
    goes = goes_then a b e first (x.added ++ last) g.goes (goes_then b d e x.added last x.goes l.goes);
    back = behind_more whats.Back (HasSpentFirst a k) (HasSpentFirst b k) first (x.added ++ last) refl (behind_then whats.Back (HasSpentFirst b k) x.added last x.back refl) (λ mid h. spent_later a b k first mid g.goes h);
    vs = behind_more whats.Vs (IsOneOf (acts.NoSpan k)) (IsOneOf (acts.NoSpan k)) first (x.added ++ last) refl (behind_then whats.Vs (IsOneOf (acts.NoSpan k)) x.added last x.vs refl) (λ mid i. one_behind (acts.NoSpan k) first mid i);
  }

  pub whole_late : (n : ℕ) → IsLate b d n → IsLate a e n
  whole_late n x k is seen = framed k (x k is (seen_later a b first k g.goes seen))

  pub whole_backs : (n : ℕ) → BacksLate b d n → BacksLate a e n
  whole_backs n x = backs_then a d e n last (backs_before a b d n first g.goes refl x) l.goes refl
