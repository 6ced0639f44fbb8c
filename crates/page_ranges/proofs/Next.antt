-- The first run from a page on.
use Rattle.std.proofs.Common.{◌≡◌, ℕ, ◌+◌, ◌<◌, ◌≤◌, inl, inr, true, false, not, refl, ap, ◌∙◌, sym, arith, subst, List, [], ◌∷◌, ◌++◌, length, get_or, Some, None, eqb, leb, append-nil, le-leb}
use Rattle.std.proofs.lemmas.Bool.{lt-leb, cases_Bool, and_from}
use Rattle.std.specs.List.{find}
use Rattle.heap_model.specs.declared.Kind.{Kind}
use Rattle.heap_model.specs.declared.Kind.TheVariants as kinds
use Rattle.heap_model.specs.declared.Run.{Run}
use Rattle.heap_model.specs.State.{is_kind}
use Rattle.page_ranges.specs.Words.{run_of, run_of_page, runs_from, runs_of}
use Rattle.page_ranges.specs.Ranges.{IsRun, AreRuns, IsWhole, begins_from}
use Rattle.page_ranges.proofs.Runs.{first_tells, found, Found, runs_only, runs_le, and_right_false}

below_fails : (from : ℕ) (r : Run) → r.first < from → begins_from from r ≡ false
below_fails from r l = rw lt-leb refl

-- runs below a page are not found
pub none_below : (words : List ℕ) (low high from : ℕ) (xs ys : List Run) → AreRuns words low high xs → high ≤ from → find (begins_from from) (xs ++ ys) ≡ find (begins_from from) ys
none_below words low high from [] ys a l = refl
none_below words low high from (x ∷ xs) ys a l =
    let le = runs_le words (low + x.pages) high xs a.2 in
    let t = below_fails from x (omega (arith, a.0, a.1.some)) in
    rw t (none_below words (low + x.pages) high from xs ys a.2 l)

-- What a search that has come to a page knows: a run begins there, and what it seeks is in what follows.
pub record IsAt (words : List ℕ) (from page : ℕ) : Type 0 where
  pub runs : AreRuns words page (length words) (runs_from words page)
  pub same : find (begins_from from) (runs_of words) ≡ find (begins_from from) (runs_from words page)

pub none_behind : (words : List ℕ) (from : ℕ) → IsWhole words → length words ≤ from → find (begins_from from) (runs_of words) ≡ None
none_behind words from w l = ap (find (begins_from from)) (sym (append-nil (runs_of words))) ∙ none_below words 0 (length words) from (runs_of words) [] w l

module _ (words : List ℕ) (from : ℕ) (w : IsWhole words) (l : from < length words) where
  pub it : Found words 0 (length words) (runs_of words) from (run_of_page words from)
  it = found words 0 (length words) (runs_of words) from w (omega arith) l

  pub at_first : (run_of_page words from).first ≡ from → IsAt words from from
  at_first e =
      let f = it in
      let r = run_of_page words from in
      let rest : AreRuns words from (length words) (r ∷ f.after) = (e, f.is_run, subst (λ n. AreRuns words (n + r.pages) (length words) f.after) e f.back) in
      let only = runs_only words from (r ∷ f.after) rest in
      record {
        runs = rw only rest;
        same = ap (find (begins_from from)) f.parts ∙ none_below words 0 r.first from f.before (r ∷ f.after) f.front f.low ∙ ap (find (begins_from from)) (sym only);
      }

  pub at_end : ((run_of_page words from).first ≡ from → ⊥) → IsAt words from ((run_of_page words from).first + (run_of_page words from).pages)
  at_end ne =
      let f = it in
      let r = run_of_page words from in
      let only = runs_only words (r.first + r.pages) f.after f.back in
      let low = f.low in
      let t : begins_from from r ≡ false = below_fails from r (omega arith) in
      record {
        runs = rw only f.back;
        same = ap (find (begins_from from)) f.parts ∙ none_below words 0 r.first from f.before (r ∷ f.after) f.front f.low ∙ rw t (ap (find (begins_from from)) (sym only));
      }

-- the run that begins at a page of a search
first_run : (words : List ℕ) (page : ℕ) (rs : List Run) → runs_from words page ≡ rs → AreRuns words page (length words) rs → page < length words →
    (rest : List Run) × (rs ≡ run_of page (get_or words page 0) ∷ rest) × IsRun words (run_of page (get_or words page 0)) × AreRuns words (page + (run_of page (get_or words page 0)).pages) (length words) rest
first_run words page [] e a l = absurd (omega arith)
first_run words page (r ∷ rs) e a l =
    let tells : r ≡ run_of page (get_or words page 0) = subst (λ n. r ≡ run_of n (get_or words n 0)) a.0 (sym (first_tells words r a.1)) in
    (rs, ap (λ q. q ∷ rs) tells, subst (IsRun words) tells a.1, subst (λ (q : Run). AreRuns words (page + q.pages) (length words) rs) tells a.2)

pub header_has_one : (words : List ℕ) (r : Run) → IsRun words r → r.mark.kind ≡ kinds.Header → r.pages ≡ 1
header_has_one words r i e = elim i.kept [
  | inl h ↦ ap (λ q. q.pages) h.0
  | inr m ↦ let u : is_kind kinds.Header kinds.Header ≡ false = subst (λ k. is_kind k kinds.Header ≡ false) e m.mark.used in absurd (let no : ⊥ = cc in no)
]

pub run_begins : (page word : ℕ) → (run_of page word).first ≡ page
run_begins page word = elim (cases_Bool (eqb word 0)) [ inl e ↦ rw e refl | inr e ↦ rw e refl ]

not_header : (k : Kind) → (k ≡ kinds.Header → ⊥) → is_kind k kinds.Header ≡ false
not_header kinds.Header ne = absurd (ne refl)
not_header kinds.Free ne = refl
not_header kinds.Vs ne = refl
not_header kinds.Lfh ne = refl
not_header kinds.Back ne = refl

pub over_header : (words : List ℕ) (from page : ℕ) → IsAt words from page → page < length words → (run_of page (get_or words page 0)).mark.kind ≡ kinds.Header → IsAt words from (page + 1)
over_header words from page i l e =
    let r = run_of page (get_or words page 0) in
    let f = first_run words page (runs_from words page) refl i.runs l in
    let one : r.pages ≡ 1 = header_has_one words r f.2 e in
    let back : AreRuns words (page + 1) (length words) f.0 = subst (λ n. AreRuns words (page + n) (length words) f.0) one f.3 in
    let only = runs_only words (page + 1) f.0 back in
    let t : begins_from from r ≡ false = rw e (and_right_false (leb from r.first)) in
    record {
      runs = rw only back;
      same = i.same ∙ ap (find (begins_from from)) f.1 ∙ rw t (ap (find (begins_from from)) (sym only));
    }

pub is_found : (words : List ℕ) (from page : ℕ) → IsAt words from page → from ≤ page → page < length words → ((run_of page (get_or words page 0)).mark.kind ≡ kinds.Header → ⊥) →
    Some (run_of page (get_or words page 0)) ≡ find (begins_from from) (runs_of words)
is_found words from page i low l ne =
    let r = run_of page (get_or words page 0) in
    let f = first_run words page (runs_from words page) refl i.runs l in
    let t : begins_from from r ≡ true = and_from (leb from r.first) (not (is_kind r.mark.kind kinds.Header)) (rw run_begins (le-leb from page low)) (rw (not_header r.mark.kind ne) refl) in
    sym (i.same ∙ ap (find (begins_from from)) f.1 ∙ rw t refl)

pub at_the_end : (words : List ℕ) (from page : ℕ) → IsAt words from page → length words ≤ page → None ≡ find (begins_from from) (runs_of words)
at_the_end words from page i l = sym (i.same ∙ nothing (runs_from words page) i.runs)
  where
    nothing : (rs : List Run) → AreRuns words page (length words) rs → find (begins_from from) rs ≡ None
    nothing [] a = refl
    nothing (r ∷ rs) a = absurd (omega (arith, a.0, a.1.some, runs_le words (page + r.pages) (length words) rs a.2))
