-- Words that are cleared, one behind another.
use Rattle.std.proofs.Common.{◌≡◌, ◌≢◌, ℕ, zero, suc, ◌+◌, true, List, [], ◌∷◌, ◌++◌, map, refl, sym, ap, ◌∙◌, subst, arith}
use Rattle.heap_model.specs.declared.Act.{Act}
use Rattle.heap_model.specs.declared.Act.TheVariants as acts
use Rattle.heap_model.specs.declared.Entry.{Entry}
use Rattle.heap_model.specs.Shape.{zeros}
use Rattle.claim_rule.specs.Entries.{entry}
use Rattle.heap_gate.specs.Token.{Token}
use Rattle.heap_gate.specs.Calls.{Runs, Stands, stance}
use Rattle.data_words.specs.Clears.{clears, IsCleared}
use Rattle.data_words.proofs.Copying.{none, store, runs_then, stands_then}

-- one word more at the end
zeros_next : (word count : ℕ) → zeros true word (suc count) ≡ zeros true word count ++ acts.Store (word + count) 0 ∷ []
zeros_next word zero = ap (λ (w : ℕ). acts.Store w 0 ∷ []) (omega arith)
zeros_next word (suc count) =
    ap (λ (xs : List Act). acts.Store word 0 ∷ xs)
    (zeros_next (word + 1) count ∙ ap (λ (w : ℕ). zeros true (word + 1) count ++ acts.Store w 0 ∷ []) (omega arith))

clears_more : (n word count : ℕ) → clears n word (count + 1) ≡ clears n word count ++ entry n (acts.Store (word + count) 0) ∷ []
clears_more n word count =
    let e : count + 1 ≡ suc count = omega arith in
    ap (clears n word) e ∙ (ap (map (entry n)) (zeros_next word count) ∙ mapped (zeros true word count))
  where
    mapped : (xs : List Act) → map (entry n) (xs ++ acts.Store (word + count) 0 ∷ []) ≡ map (entry n) xs ++ entry n (acts.Store (word + count) 0) ∷ []
    mapped [] = refl
    mapped (x ∷ xs) = ap (λ (es : List Entry). entry n x ∷ es) (mapped xs)

-- of none there is no step yet
pub cleared_none : (a : Token) (word : ℕ) → IsCleared a a word 0
cleared_none a word = record { none = λ _. refl; runs = λ some. absurd (some refl); stands = λ some. absurd (some refl) }

pub cleared_more : (a b c : Token) (word count : ℕ) → IsCleared a b word count → Runs b c (entry b.number (acts.Store (word + count) 0) ∷ []) → Stands c (stance b) → IsCleared a c word (count + 1)
cleared_more a b c word zero x y z =
    let e : word + 0 ≡ word = omega arith in
    let same : b ≡ a = x.none refl in
    record {
      none = λ no. absurd (let bad : ⊥ = omega (arith, no) in bad);
      runs = λ _. subst (λ (t : Token). Runs t c (entry t.number (acts.Store word 0) ∷ [])) same (subst (λ (w : ℕ). Runs b c (entry b.number (acts.Store w 0) ∷ [])) e y);
      stands = λ _. subst (λ (t : Token). Stands c (stance t)) same z;
    }
cleared_more a b c word (suc count) x y z =
    let many : ℕ = suc count in
    let some : many ≢ 0 = λ e. let bad : ⊥ = omega (arith, e) in bad in
    let first = x.runs some in
    let more = entry a.number (acts.Store (word + many) 0) ∷ [] in
    let next = subst (λ (n : ℕ). Runs b c (entry n (acts.Store (word + many) 0) ∷ [])) first.does.number y in
    record {
      none = λ no. absurd (let bad : ⊥ = omega (arith, no) in bad);
      runs = λ _. subst (Runs a c) (sym (clears_more a.number word many)) (runs_then a b c (clears a.number word many) more (store (word + many) 0 [] none) first next);
      stands = λ _. stands_then a b c (x.stands some) z;
    }
