-- Lines that may stand are rounds of the language.
use Rattle.std.proofs.Common.{◌≡◌, ℕ, ◌+◌, ◌≤◌, Bool, true, false, not, cond, max, eqb, leb, List, [], ◌∷◌, length, map, Some, None, refl, subst, arith, inl, inr}
use Rattle.std.specs.List.{AllByRecursion}
use Rattle.std.proofs.lemmas.Bool.{cases_Bool, eqb-true, eqb-false, leb-false}
use Rattle.std.proofs.lemmas.List.{length-map}
use Rattle.script_text.specs.declared.faults.Cause.{Cause}
use Rattle.script_text.specs.declared.faults.Cause.TheVariants as causes
use Rattle.script_text.specs.declared.commands.Command.{Command}
use Rattle.script_text.specs.declared.commands.Command.TheVariants as commands
use Rattle.script_text.specs.declared.commands.Line.{Line}
use Rattle.script_text.specs.declared.commands.Line.TheVariants as lines
use Rattle.script_text.specs.declared.commands.NumberedLine.{NumberedLine}
use Rattle.script_text.specs.declared.counts.Counts.{Counts}
use Rattle.script_text.specs.Counted.{counted}
use Rattle.script_text.specs.Order.{is_round, is_thread, cause_at, says_walk}
use Rattle.script_laws.specs.Printable.{IsBalanced, AreBalanced, HasFewThreads, walks_in}
use Rattle.script_laws.proofs.StandLemmas.{Stand, no_counts, walks_more}
use Rattle.script_laws.proofs.WalkLemmas.{plain_line}
use Rattle.script_laws.proofs.CutLemmas.{till, marked, cut, in_lines, in_threads}

balanced_cut : (ls : List NumberedLine) → IsBalanced 0 (in_lines (till is_thread ls)) → AreBalanced (map in_lines (marked is_thread ls)) → AreBalanced (map in_lines (cut is_thread ls))
balanced_cut [] h b = tt
balanced_cut (x ∷ xs) h b = elim (cases_Bool (is_thread x)) [
  | inl a ↦ rw a at b
  | inr a ↦ (rw a at h, rw a at b)
]

few_cut : (ls : List NumberedLine) → length (cut is_thread ls) ≤ 64 → HasFewThreads (map in_lines (cut is_thread ls))
few_cut ls h = simp length-map (h)

one_cause : (a : Bool) (x : Cause) → cond a (Some x) None ≡ None → a ≡ false
one_cause true x h = absurd (let z : ⊥ = cc in z)
one_cause false x h = refl

two_causes : (a b : Bool) (x y : Cause) → cond a (Some x) (cond b (Some y) None) ≡ None → (a ≡ false) × (b ≡ false)
two_causes true b x y h = absurd (let z : ⊥ = cc in z)
two_causes false true x y h = absurd (let z : ⊥ = cc in z)
two_causes false false x y h = (refl, refl)

not_false : (a : Bool) → not a ≡ false → a ≡ true
not_false true h = refl
not_false false h = absurd (let z : ⊥ = cc in z)

-- the rest of a thread, of its round, and the rounds behind it
pub record IsGood (k : Counts) (ls : List NumberedLine) : Type 0 where
  pub head : IsBalanced k.depth (in_lines (till is_thread (till is_round ls)))
  pub threads : AreBalanced (map in_lines (marked is_thread (till is_round ls)))
  pub few : k.threads + length (marked is_thread (till is_round ls)) ≤ 64
  pub some : length (cut is_thread (till is_round ls)) ≤ 64
  pub rounds : AllByRecursion AreBalanced (map in_threads (marked is_round ls))
  pub short : AllByRecursion HasFewThreads (map in_threads (marked is_round ls))
  pub walks : k.walks + walks_in (in_lines ls) ≤ 16

command_good : (n : ℕ) (c : Command) (ls : List NumberedLine) (k j : Counts) → IsGood j ls → j.threads ≡ max k.threads 1 → ((xs : List Command) → IsBalanced j.depth xs → IsBalanced k.depth (c ∷ xs)) →
    k.walks + cond (says_walk (lines.Runs c)) 1 0 ≡ j.walks → IsGood k (record { number = n; line = lines.Runs c } ∷ ls)
command_good n c ls k j g t b w =
    let m = walks_more c (in_lines ls) in
    record {
      head = b (in_lines (till is_thread (till is_round ls))) g.head;
      threads = g.threads;
      few = omega (arith, g.few);
      some = omega (arith, g.few);
      rounds = g.rounds;
      short = g.short;
      walks = omega (arith, g.walks, m, w);
    }

line_good : (n : ℕ) (l : Line) (ls : List NumberedLine) (k : Counts) → k.threads ≤ 64 → k.walks ≤ 16 → cause_at k.depth k.threads k.walks l ≡ None →
    ((counted k l).threads ≤ 64 → (counted k l).walks ≤ 16 → IsGood (counted k l) ls) → IsGood k (record { number = n; line = l } ∷ ls)
line_good n lines.Round ls k t w s next =
    let d : k.depth ≡ 0 = eqb-true k.depth 0 (not_false (eqb k.depth 0) (one_cause (not (eqb k.depth 0)) causes.Unbalanced s)) in
    let g = next (omega arith) w in
    record {
      head = d;
      threads = tt;
      few = omega (arith, t);
      some = omega arith;
      rounds = (balanced_cut (till is_round ls) g.head g.threads, g.rounds);
      short = (few_cut (till is_round ls) g.some, g.short);
      walks = g.walks;
    }
line_good n lines.Thread ls k t w s next =
    let q = two_causes (not (eqb k.depth 0)) (leb 64 k.threads) causes.Unbalanced causes.TooManyThreads s in
    let d : k.depth ≡ 0 = eqb-true k.depth 0 (not_false (eqb k.depth 0) q.0) in
    let b = leb-false 64 k.threads q.1 in
    let g = next (omega arith) w in
    record {
      head = d;
      threads = (g.head, g.threads);
      few = omega (arith, g.few);
      some = omega (arith, g.few);
      rounds = g.rounds;
      short = g.short;
      walks = g.walks;
    }
line_good n (lines.Runs commands.Lock) ls k t w s next = command_good n commands.Lock ls k (counted k (lines.Runs commands.Lock)) (next (omega arith) w) refl (λ xs b. b) (omega arith)
line_good n (lines.Runs commands.Unlock) ls k t w s next =
    let q = one_cause (eqb k.depth 0) causes.Unbalanced s in
    let d : k.depth ≡ 0 → ⊥ = eqb-false k.depth 0 q in
    command_good n commands.Unlock ls k (counted k (lines.Runs commands.Unlock)) (next (omega arith) w) refl (λ xs b. (omega (arith, d), b)) (omega arith)
line_good n (lines.Runs commands.Walk) ls k t w s next =
    let q = leb-false 16 k.walks (one_cause (leb 16 k.walks) causes.TooManyWalks s) in
    command_good n commands.Walk ls k (counted k (lines.Runs commands.Walk)) (next (omega arith) (omega arith)) refl (λ xs b. b) (omega arith)
line_good n (lines.Runs c) ls k t w s next = command_good n c ls k (counted k (lines.Runs c)) (next (omega arith) w) refl (λ xs b. b) (omega arith)

good : (ls : List NumberedLine) (k : Counts) → k.threads ≤ 64 → k.walks ≤ 16 → Stand k (map plain_line ls) → IsGood k ls
good [] k t w s = record { head = s; threads = tt; few = omega (arith, t); some = omega arith; rounds = tt; short = tt; walks = omega (arith, w) }
good (x ∷ xs) k t w s = line_good x.number x.line xs k t w s.0 (λ u v. good xs (counted k x.line) u v s.1)

rounds_good : (k : Counts) (ls : List NumberedLine) → k.depth ≡ 0 → IsGood k ls → AllByRecursion AreBalanced (map in_threads (cut is_round ls)) × AllByRecursion HasFewThreads (map in_threads (cut is_round ls))
rounds_good k [] d g = (tt, tt)
rounds_good k (x ∷ xs) d g = elim (cases_Bool (is_round x)) [
  | inl a ↦
      let b : AllByRecursion AreBalanced (map in_threads ((x ∷ till is_round xs) ∷ marked is_round xs)) = rw a at g.rounds in
      let c : AllByRecursion HasFewThreads (map in_threads ((x ∷ till is_round xs) ∷ marked is_round xs)) = rw a at g.short in
      (b, c)
  | inr a ↦
      let h : IsBalanced k.depth (in_lines (till is_thread (x ∷ till is_round xs))) = rw a at g.head in
      let e : AreBalanced (map in_lines (marked is_thread (x ∷ till is_round xs))) = rw a at g.threads in
      let f : length (cut is_thread (x ∷ till is_round xs)) ≤ 64 = rw a at g.some in
      let b : AllByRecursion AreBalanced (map in_threads (marked is_round xs)) = rw a at g.rounds in
      let c : AllByRecursion HasFewThreads (map in_threads (marked is_round xs)) = rw a at g.short in
      let P : ℕ → Type 0 = λ n. IsBalanced n (in_lines (till is_thread (x ∷ till is_round xs))) in
      let u : AreBalanced (in_threads (x ∷ till is_round xs)) = rw a (balanced_cut (x ∷ till is_round xs) (subst P d h) e) in
      let v : HasFewThreads (in_threads (x ∷ till is_round xs)) = rw a (few_cut (x ∷ till is_round xs) f) in
      ((u, b), (v, c))
]

pub record AreRounds (ls : List NumberedLine) : Type 0 where
  pub balanced : AllByRecursion AreBalanced (map in_threads (cut is_round ls))
  pub few : AllByRecursion HasFewThreads (map in_threads (cut is_round ls))
  pub walks : walks_in (in_lines ls) ≤ 16

pub lines_good : (ls : List NumberedLine) → Stand no_counts (map plain_line ls) → AreRounds ls
lines_good ls s =
    let g = good ls no_counts (omega arith) (omega arith) s in
    let r = rounds_good no_counts ls refl g in
    record { balanced = r.0; few = r.1; walks = omega (arith, g.walks) }
