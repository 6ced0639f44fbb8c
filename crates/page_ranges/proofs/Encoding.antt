-- The words that runs tile are their encoding.
use Rattle.std.proofs.Common.{◌≡◌, ℕ, zero, suc, ◌+◌, ◌-◌, ◌<◌, ◌≤◌, inl, inr, refl, ap, ◌∙◌, sym, arith, subst, List, [], ◌∷◌, ◌++◌, length, drop, get_or, add-zero}
use Rattle.std.proofs.Math.Seq.{drop-cons}
use Rattle.std.proofs.Math.ListN.{drop_of_length-le}
use Rattle.heap_model.specs.declared.Mark.{Mark}
use Rattle.heap_model.specs.declared.Run.{Run}
use Rattle.page_ranges.specs.Words.{header_run, first_word, later_word, later_words, words_of, encoding, runs_of}
use Rattle.page_ranges.specs.Ranges.{IsMarkedRun, IsRun, AreRuns, IsWhole}
use Rattle.page_ranges.proofs.Runs.{runs_le}

later_is : (words : List ℕ) (m : Mark) (n from k : ℕ) → from + n ≤ length words → ((j : ℕ) → j < n → get_or words (from + j) 0 ≡ later_word (k + j) m) → later_words m k n ++ drop (from + n) words ≡ drop from words
later_is words m zero from k l h = rw add-zero refl
later_is words m (suc n) from k l h =
    let e : from + suc n ≡ suc from + n = omega arith in
    let z : get_or words (from + 0) 0 ≡ later_word (k + 0) m = h 0 (omega arith) in
    let w : get_or words from 0 ≡ later_word k m = rw (add-zero, add-zero) at z in
    let again : later_words m (k + 1) n ++ drop (suc from + n) words ≡ drop (suc from) words = later_is words m n (suc from) (k + 1) (omega arith) (λ j i.
    let f : from + suc j ≡ suc from + j = omega arith in
    let g : k + suc j ≡ k + 1 + j = omega arith in
    rw (sym f, sym g) (h (suc j) (omega arith))) in
    rw e (ap (λ xs. later_word k m ∷ xs) again ∙ ap (λ x. x ∷ drop (suc from) words) (sym w) ∙ sym (drop-cons words from 0 (omega arith)))

run_encoded : (words : List ℕ) (r : Run) → IsRun words r → r.first + r.pages ≤ length words → words_of r ++ drop (r.first + r.pages) words ≡ drop r.first words
run_encoded words r i l = elim i.kept [
  | inl h ↦ header h.0 h.1
  | inr m ↦ marked m r.pages refl
]
  where
    some : 0 < r.pages
    some = i.some

    header : r ≡ header_run r.first → get_or words r.first 0 ≡ 0 → words_of r ++ drop (r.first + r.pages) words ≡ drop r.first words
    header e z =
        let f : r.first + 1 ≡ suc r.first = omega arith in
        let it : words_of (header_run r.first) ++ drop (r.first + 1) words ≡ drop r.first words =
        rw f (ap (λ x. x ∷ drop (suc r.first) words) (sym z) ∙ sym (drop-cons words r.first 0 (omega arith))) in
        subst (λ (q : Run). words_of q ++ drop (r.first + q.pages) words ≡ drop r.first words) (sym e) it

    marked : IsMarkedRun words r → (n : ℕ) → r.pages ≡ n → words_of r ++ drop (r.first + r.pages) words ≡ drop r.first words
    marked m n e =
        let z : get_or words (r.first + 0) 0 ≡ first_word r.pages r.mark = m.marked 0 some in
        let w : get_or words r.first 0 ≡ first_word r.pages r.mark = rw add-zero at z in
        let f : r.first + r.pages ≡ suc r.first + (r.pages - 1) = omega arith in
        let rest : later_words r.mark 1 (r.pages - 1) ++ drop (suc r.first + (r.pages - 1)) words ≡ drop (suc r.first) words = later_is words r.mark (r.pages - 1) (suc r.first) 1 (omega arith) (λ j k.
        let g : r.first + suc j ≡ suc r.first + j = omega arith in
        let o : suc j ≡ 1 + j = omega arith in
        rw (sym g, sym o) (m.marked (suc j) (omega arith))) in
        rw (m.mark.used, f) (ap (λ xs. first_word r.pages r.mark ∷ xs) rest ∙ ap (λ x. x ∷ drop (suc r.first) words) (sym w) ∙ sym (drop-cons words r.first 0 (omega arith)))

runs_encoded : (words : List ℕ) (from : ℕ) (rs : List Run) → AreRuns words from (length words) rs → encoding rs ≡ drop from words
runs_encoded words from [] a = sym (drop_of_length-le words (omega (arith, a)))
runs_encoded words from (r ∷ rs) a =
    let le = runs_le words (from + r.pages) (length words) rs a.2 in
    let again = runs_encoded words (from + r.pages) rs a.2 in
    let one : words_of r ++ drop (from + r.pages) words ≡ drop from words = subst (λ n. words_of r ++ drop (n + r.pages) words ≡ drop n words) a.0 (run_encoded words r a.1 (omega (arith, a.0))) in
    rw again one

pub encoded : (words : List ℕ) → IsWhole words → encoding (runs_of words) ≡ words
encoded words w = runs_encoded words 0 (runs_of words) w
