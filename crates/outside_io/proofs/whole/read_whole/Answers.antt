use Rattle.std.proofs.Common.{ℕ, ◌+◌, ◌≤◌, ◌++◌, List, Option, Some, None, Result, Ok, Err, OnErr, length, ap, ◌∙◌, append_assoc, sym, arith, length-append}
use Rattle.std.proofs.lemmas.Grind.{common_steps}
use Rattle.std.specs.Io.KnownBytes.{Consumes}
use Rattle.outside_io.specs.Faults.{ConsumesAtMost}
use Rattle.outside_io.proofs.whole.read_whole.Goals as goal

-- what was taken from the front, and then more
consumes_more : (a b c : Option (List ℕ)) (xs ys : List ℕ) → Consumes a b xs → Consumes b c ys → Consumes a c (xs ++ ys)
consumes_more None b c xs ys h k = tt
consumes_more (Some os) None c xs ys h k = absurd h
consumes_more (Some os) (Some bs) None xs ys h k = absurd k
consumes_more (Some os) (Some bs) (Some cs) xs ys h k = h ∙ (ap (λ zs. xs ++ zs) k ∙ sym (append_assoc xs ys cs))

read_part : {A E : Type 0} (r : Result A E) (most : ℕ) (a b c : Option (List ℕ)) (xs ys : List ℕ) → Consumes a b xs → Consumes b c ys → length xs + length ys ≤ most → OnErr r (ConsumesAtMost most a c)
read_part (Ok x) most a b c xs ys h k l = tt
read_part (Err e) most a b c xs ys h k l = (xs ++ ys, consumes_more a b c xs ys h k, omega (arith, length-append xs ys))

pub returns-in_err-extend_from_slice-clause-part : goal.returns-in_err-extend_from_slice-clause-part
returns-in_err-extend_from_slice-clause-part g c =
    read_part _ _ _ _ _ _ _ c.loop-piece.invariant.bytes c.in_ok-n.ensures.bytes.0
    (grind (arith, common_steps))
