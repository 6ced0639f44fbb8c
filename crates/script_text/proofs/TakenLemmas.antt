-- One line more is taken.
use Rattle.std.proofs.Common.{◌≡◌, ℕ, ◌+◌, List, [], ◌∷◌, ◌++◌, Some, None, Ok, Err, refl, ap, sym, ◌∙◌, subst, arith, length-append}
use Rattle.script_text.specs.Order.{cause_at, cause_behind, AreCounted}
use Rattle.script_text.specs.Counted.{counted}
use Rattle.script_text.specs.Grown.{rounds_with}
use Rattle.script_text.specs.Reading.{noted}
use Rattle.script_text.specs.Taken.{IsTaken, IsNoted}
use Rattle.script_text.specs.ThreadLines.{ThreadLines}
use Rattle.script_text.specs.declared.faults.Cause.{Cause}
use Rattle.script_text.specs.declared.commands.Line.{Line}
use Rattle.script_text.specs.declared.commands.NumberedLine.{NumberedLine}
use Rattle.script_text.specs.declared.counts.Counts.{Counts}
use Rattle.script_text.proofs.OrderLemmas.{same_cause, counted_push}
use Rattle.script_text.proofs.GrownLemmas.{rounds_more}

pub taken_more : (rounds rounds' : List (List ThreadLines)) (k k' : Counts) (m n : ℕ) (l : Line) (before : List NumberedLine) → cause_at k.depth k.threads k.walks l ≡ None →
    rounds' ≡ rounds_with n l rounds → k' ≡ counted k l → IsTaken rounds k m before → IsNoted before n (Some l) rounds' k' (m + 1)
taken_more rounds rounds' k k' m n l before none r c h =
    let e : cause_behind before l ≡ None = sym (same_cause k before l h.counted) ∙ none in
    let len = length-append before (record { number = n; line = l } ∷ []) in
    record {
      after = before ++ record { number = n; line = l } ∷ [];
      is_noted = rw e refl;
      taken = record {
        rounds_are = r ∙ ap (rounds_with n l) h.rounds_are ∙ sym (rounds_more before n l);
        counted = subst (λ z. AreCounted z (before ++ record { number = n; line = l } ∷ [])) (sym c) (counted_push k before n l h.counted none);
        few = omega (arith, len, h.few);
      };
    }

pub none_more : (rounds : List (List ThreadLines)) (k : Counts) (m n : ℕ) (before : List NumberedLine) → IsTaken rounds k m before → IsNoted before n None rounds k (m + 1)
none_more rounds k m n before h = record {
  after = before;
  is_noted = refl;
  taken = record { rounds_are = h.rounds_are; counted = h.counted; few = omega (arith, h.few) };
}

pub cause_found : (rounds : List (List ThreadLines)) (k : Counts) (m n : ℕ) (l : Line) (cause : Cause) (before : List NumberedLine) → cause_at k.depth k.threads k.walks l ≡ Some cause →
    IsTaken rounds k m before → noted before n (Ok (Some l)) ≡ Err (record { line = n; cause = cause })
cause_found rounds k m n l cause before some h =
    let e : cause_behind before l ≡ Some cause = sym (same_cause k before l h.counted) ∙ some in
    rw e refl
