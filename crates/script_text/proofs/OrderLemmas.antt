-- One line more behind counted lines.
use Rattle.std.proofs.Common.{◌≡◌, ℕ, ◌+◌, Bool, true, false, cond, max, eqb, List, [], ◌∷◌, ◌++◌, Option, Some, None, refl, sym, arith, inl, inr}
use Rattle.std.specs.Prelude.{count_by}
use Rattle.std.proofs.lemmas.Bool.{cases_Bool, eqb-false}
use Rattle.script_text.specs.Pieces.{behind_last}
use Rattle.script_text.specs.Order.{says_lock, says_unlock, says_walk, is_next, is_round, is_thread, locks, unlocks, depth, threads, walks, cause_at, cause_behind, AreCounted}
use Rattle.script_text.specs.Counted.{counted}
use Rattle.script_text.specs.declared.faults.Cause.TheVariants as causes
use Rattle.script_text.specs.declared.commands.Command.TheVariants as commands
use Rattle.script_text.specs.declared.commands.Line.{Line}
use Rattle.script_text.specs.declared.commands.Line.TheVariants as lines
use Rattle.script_text.specs.declared.commands.NumberedLine.{NumberedLine}
use Rattle.script_text.specs.declared.counts.Counts.{Counts}
use Rattle.script_text.proofs.PieceLemmas.{behind_last_push, count_push, cut_push}

count_behind : (f p : NumberedLine → Bool) (before : List NumberedLine) (l : NumberedLine) → count_by f (behind_last p (before ++ l ∷ [])) ≡ cond (p l) 0 (count_by f (behind_last p before) + cond (f l) 1 0)
count_behind f p before l = rw (behind_last_push p before l) (elim (cases_Bool (p l)) [
  | inl h ↦ rw h refl
  | inr h ↦ rw h (count_push f (behind_last p before) l)
])

threads_push : (before : List NumberedLine) (l : NumberedLine) → threads (before ++ l ∷ []) ≡ cond (is_round l) 0 (cond (is_thread l) (threads before + 1) (max (threads before) 1))
threads_push before l = rw (behind_last_push is_round before l) (elim (cases_Bool (is_round l)) [
  | inl h ↦ rw h refl
  | inr h ↦ rw h (cut_push is_thread (behind_last is_round before) l)
])

pub depth_is : (k : Counts) (before : List NumberedLine) → AreCounted k before → depth before ≡ k.depth
depth_is k before h = omega (arith, h.depth)

pub same_cause : (k : Counts) (before : List NumberedLine) (l : Line) → AreCounted k before → cause_at k.depth k.threads k.walks l ≡ cause_behind before l
same_cause k before l h =
    let d = depth_is k before h in
    let e = h.threads in
    let w = h.walks in
    rw (d, ← e, ← w) refl

not_none : {A : Type 0} (b : Bool) (x : A) (o : Option A) → cond b (Some x) o ≡ None → b ≡ false
not_none true x o h = absurd (let z : ⊥ = cc in z)
not_none false x o h = refl

pub counted_push : (k : Counts) (before : List NumberedLine) (n : ℕ) (l : Line) → AreCounted k before → cause_at k.depth k.threads k.walks l ≡ None → AreCounted (counted k l) (before ++ record { number = n; line = l } ∷ [])
counted_push k before n l h e = go l e (count_behind (λ m. says_lock m.line) is_next before (record { number = n; line = l })) (count_behind (λ m. says_unlock m.line) is_next before (record { number = n; line = l })) (threads_push before (record { number = n; line = l })) (count_push (λ m. says_walk m.line) before (record { number = n; line = l }))
  where
    go : (l : Line) → cause_at k.depth k.threads k.walks l ≡ None →
        locks (before ++ record { number = n; line = l } ∷ []) ≡ cond (is_next (record { number = n; line = l })) 0 (locks before + cond (says_lock l) 1 0) →
        unlocks (before ++ record { number = n; line = l } ∷ []) ≡ cond (is_next (record { number = n; line = l })) 0 (unlocks before + cond (says_unlock l) 1 0) →
        threads (before ++ record { number = n; line = l } ∷ []) ≡ cond (is_round (record { number = n; line = l })) 0 (cond (is_thread (record { number = n; line = l })) (threads before + 1) (max (threads before) 1)) →
        walks (before ++ record { number = n; line = l } ∷ []) ≡ walks before + cond (says_walk l) 1 0 →
        AreCounted (counted k l) (before ++ record { number = n; line = l } ∷ [])
    go lines.Round e a b c d = record { depth = omega (arith, h.depth); threads = sym c; walks = omega (arith, h.walks) }
    go lines.Thread e a b c d = record { depth = omega (arith, h.depth); threads = omega (arith, h.threads); walks = omega (arith, h.walks) }
    go (lines.Runs commands.Unlock) e a b c d =
        let z = not_none (eqb k.depth 0) causes.Unbalanced _ e in
        let some : k.depth ≡ 0 → ⊥ = eqb-false k.depth 0 z in
        record { depth = omega (arith, h.depth); threads = rw h.threads (sym c); walks = omega (arith, h.walks) }
    go (lines.Runs _) e a b c d = record { depth = omega (arith, h.depth); threads = rw h.threads (sym c); walks = omega (arith, h.walks) }
