-- What lies beside a span: the runs that stay, and the pages that join it when it goes.
use Rattle.std.proofs.Common.{◌≡◌, ℕ, ◌+◌, ◌-◌, ◌<◌, ◌≤◌, Bool, true, false, ◌&&◌, inl, inr, refl, ap, ◌∙◌, sym, arith, subst, List, [], ◌∷◌, ◌++◌, length, Some, eqb, append-nil}
use Rattle.std.proofs.lemmas.Bool.{cases_Bool, ne_eqb, eq-eqb}
use Rattle.std.specs.List.{AllByRecursion, find}
use Rattle.heap_model.specs.declared.Run.{Run}
use Rattle.page_ranges.specs.Words.{runs_of, run_of_page}
use Rattle.page_ranges.specs.Ranges.{AreRuns, IsRun, IsWhole, has_page}
use Rattle.page_ranges.proofs.Runs.{runs_le, Found, found, finds_run, page_tells}
use Rattle.page_ranges.specs.Spans.{is_of_free, taken_runs, is_usable_in, IsUsed, AreApart}
use Rattle.backend_fit.specs.Sound.{start_of, end_of}
use Rattle.backend_fit.proofs.Tiled.{all_parts, last_free, apart_parts}
use Rattle.page_ranges.proofs.Blocks.{taken_append}
use Rattle.backend_fit.proofs.KindLemmas.{free_not_header, free_not_span}

pub run_is : (words : List ℕ) (page : ℕ) (r : Run) → IsWhole words → page < length words → find (has_page page) (runs_of words) ≡ Some r → r ≡ run_of_page words page
run_is words page r w l f = let e : Some r ≡ Some (run_of_page words page) = sym f ∙ finds_run words page w l in cc

pub run_tells : (words : List ℕ) (r : Run) → IsRun words r → run_of_page words r.first ≡ r
run_tells words r i = let z : r.first + 0 ≡ r.first = omega arith in subst (λ n. run_of_page words n ≡ r) z (page_tells words r 0 i i.some)

no_runs : (words : List ℕ) (from to : ℕ) (rs : List Run) → AreRuns words from to rs → to ≤ from → rs ≡ []
no_runs words from to [] a l = refl
no_runs words from to (r ∷ rs) a l = absurd (omega (arith, a.1.some, runs_le words (from + r.pages) to rs a.2))

usable_of_free : (reserved : ℕ) (r : Run) (page : ℕ) → IsUsed reserved r → is_of_free r.mark.kind ≡ true → r.first ≤ page → page < r.first + r.pages → is_usable_in reserved page ≡ true
usable_of_free reserved r page u f l h =
    let e : r.first + (page - r.first) ≡ page = omega arith in
    let t : is_usable_in reserved (r.first + (page - r.first)) ≡ true = u (page - r.first) (omega arith) ∙ rw (free_not_header r.mark.kind f) refl in
    subst (λ x. is_usable_in reserved x ≡ true) e t

pub record LeftSide (words : List ℕ) (reserved page start : ℕ) (before : List Run) : Type 0 where
  pub rest : List Run
  pub front : AreRuns words 0 start rest
  pub used : AllByRecursion (IsUsed reserved) rest
  pub apart : AreApart false rest
  pub last : last_free false rest ≡ false
  pub taken : taken_runs rest ≡ taken_runs before
  pub low : start ≤ page
  pub usable : (p : ℕ) → start ≤ p → p < page → is_usable_in reserved p ≡ true

pub record RightSide (words : List ℕ) (reserved page stop : ℕ) (after : List Run) : Type 0 where
  pub rest : List Run
  pub back : AreRuns words stop (length words) rest
  pub used : AllByRecursion (IsUsed reserved) rest
  pub apart : AreApart true rest
  pub taken : taken_runs rest ≡ taken_runs after
  pub high : page ≤ stop
  pub usable : (p : ℕ) → page ≤ p → p < stop → is_usable_in reserved p ≡ true

last_of : (was : Bool) (rs : List Run) (r : Run) → last_free was (rs ++ r ∷ []) ≡ is_of_free r.mark.kind
last_of was [] r = refl
last_of was (q ∷ qs) r = last_of (is_of_free q.mark.kind) qs r

module _ (words : List ℕ) (reserved page : ℕ) (before : List Run) (front : AreRuns words 0 page before) (used : AllByRecursion (IsUsed reserved) before) (apart : AreApart false before) (some : 0 < page) where
  the_last : Found words 0 page before (page - 1) (run_of_page words (page - 1))
  the_last = found words 0 page before (page - 1) front (omega arith) (omega arith)

  pub left_side : LeftSide words reserved page (start_of words page) before
  left_side =
      let f = the_last in
      let b = run_of_page words (page - 1) in
      let high = f.high in
      let low = f.low in
      let none = no_runs words (b.first + b.pages) page f.after f.back (omega arith) in
      let parts : before ≡ f.before ++ b ∷ [] = f.parts ∙ ap (λ (xs : List Run). f.before ++ b ∷ xs) none in
      let u = all_parts (IsUsed reserved) f.before (b ∷ []) (subst (AllByRecursion (IsUsed reserved)) parts used) in
      let a = apart_parts false f.before (b ∷ []) (subst (AreApart false) parts apart) in
      elim (cases_Bool (is_of_free b.mark.kind)) [
        | inl e ↦
            let same : start_of words page ≡ b.first = rw e refl in
            let last : last_free false f.before ≡ false = true_and (last_free false f.before) (is_of_free b.mark.kind) e a.1.0 in
            let none_here : taken_runs (b ∷ []) ≡ [] = rw (free_not_span b.mark.kind e) refl in
            let it : LeftSide words reserved page b.first before = record {
              rest = f.before;
              front = f.front;
              used = u.0;
              apart = a.0;
              last = last;
              taken = sym (ap taken_runs parts ∙ taken_append f.before (b ∷ []) ∙ rw none_here (append-nil (taken_runs f.before)));
              low = omega arith;
              usable = λ p l h. usable_of_free reserved b p u.1.0 e l (omega arith);
            } in
            subst (λ x. LeftSide words reserved page x before) (sym same) it
        | inr e ↦
            let same : start_of words page ≡ page = rw e refl in
            let last : last_free false before ≡ false = ap (last_free false) parts ∙ last_of false f.before b ∙ e in
            let it : LeftSide words reserved page page before = record {
              rest = before;
              front = front;
              used = used;
              apart = apart;
              last = last;
              taken = refl;
              low = omega arith;
              usable = λ p l h. absurd (omega arith);
            } in
            subst (λ x. LeftSide words reserved page x before) (sym same) it
      ]
    where
      true_and : (x y : Bool) → y ≡ true → (x && y) ≡ false → x ≡ false
      true_and true y e h = sym (sym h ∙ e)
      true_and false y e h = refl

pub right_side : (words : List ℕ) (reserved page : ℕ) (after : List Run) → AreRuns words page (length words) after → AllByRecursion (IsUsed reserved) after → AreApart false after →
    RightSide words reserved page (end_of words page) after
right_side words reserved page [] back used apart =
    let t : eqb page (length words) ≡ true = eq-eqb page (length words) back in
    let same : end_of words page ≡ page = rw t refl in
    let it : RightSide words reserved page page [] = record { rest = []; back = back; used = tt; apart = tt; taken = refl; high = omega arith; usable = λ p l h. absurd (omega arith) } in
    subst (λ x. RightSide words reserved page x []) (sym same) it
right_side words reserved page (r ∷ rs) back used apart =
    let le = runs_le words (page + r.pages) (length words) rs back.2 in
    let t : eqb page (length words) ≡ false = ne_eqb page (length words) (λ e. omega (arith, back.1.some, le)) in
    let tells : run_of_page words page ≡ r = subst (λ x. run_of_page words x ≡ r) back.0 (run_tells words r back.1) in
    elim (cases_Bool (is_of_free r.mark.kind)) [
      | inl e ↦
          let same : end_of words page ≡ page + r.pages = rw (t, tells, e) refl in
          let it : RightSide words reserved page (page + r.pages) (r ∷ rs) = record {
            rest = rs;
            back = back.2;
            used = used.1;
            apart = subst (λ w. AreApart w rs) e apart.1;
            taken = rw (free_not_span r.mark.kind e) refl;
            high = omega arith;
            usable = λ p l h. usable_of_free reserved r p used.0 e (omega (arith, back.0)) (omega (arith, back.0));
          } in
          subst (λ x. RightSide words reserved page x (r ∷ rs)) (sym same) it
      | inr e ↦
          let same : end_of words page ≡ page = rw (t, tells, e) refl in
          let it : RightSide words reserved page page (r ∷ rs) = record {
            rest = r ∷ rs;
            back = back;
            used = used;
            apart = (rw e refl, apart.1);
            taken = refl;
            high = omega arith;
            usable = λ p l h. absurd (omega arith);
          } in
          subst (λ x. RightSide words reserved page x (r ∷ rs)) (sym same) it
    ]

---- What the two searches beside a span read

pub start_free : (words : List ℕ) (page : ℕ) (r : Run) → IsWhole words → 0 < page → page < length words → find (has_page (page - 1)) (runs_of words) ≡ Some r → is_of_free r.mark.kind ≡ true → r.first ≡ start_of words page
start_free words page r w some l f e =
    let is = run_is words (page - 1) r w (omega arith) f in
    let t : is_of_free (run_of_page words (page - 1)).mark.kind ≡ true = subst (λ (q : Run). is_of_free q.mark.kind ≡ true) is e in
    rw t (ap (λ (q : Run). q.first) is)

pub start_kept : (words : List ℕ) (page : ℕ) (r : Run) → IsWhole words → 0 < page → page < length words → find (has_page (page - 1)) (runs_of words) ≡ Some r → is_of_free r.mark.kind ≡ false → page ≡ start_of words page
start_kept words page r w some l f e =
    let is = run_is words (page - 1) r w (omega arith) f in
    let t : is_of_free (run_of_page words (page - 1)).mark.kind ≡ false = subst (λ (q : Run). is_of_free q.mark.kind ≡ false) is e in
    rw t refl

pub end_free : (words : List ℕ) (page : ℕ) (r : Run) → IsWhole words → page < length words → find (has_page page) (runs_of words) ≡ Some r → is_of_free r.mark.kind ≡ true → page + r.pages ≡ end_of words page
end_free words page r w l f e =
    let is = run_is words page r w l f in
    let n : eqb page (length words) ≡ false = ne_eqb page (length words) (λ x. omega arith) in
    let t : is_of_free (run_of_page words page).mark.kind ≡ true = subst (λ (q : Run). is_of_free q.mark.kind ≡ true) is e in
    rw (n, t) (ap (λ (q : Run). page + q.pages) is)

pub end_kept : (words : List ℕ) (page : ℕ) (r : Run) → IsWhole words → page < length words → find (has_page page) (runs_of words) ≡ Some r → is_of_free r.mark.kind ≡ false → page ≡ end_of words page
end_kept words page r w l f e =
    let is = run_is words page r w l f in
    let n : eqb page (length words) ≡ false = ne_eqb page (length words) (λ x. omega arith) in
    let t : is_of_free (run_of_page words page).mark.kind ≡ false = subst (λ (q : Run). is_of_free q.mark.kind ≡ false) is e in
    rw (n, t) refl

pub run_fits : (words : List ℕ) (page : ℕ) (r : Run) → IsWhole words → page < length words → find (has_page page) (runs_of words) ≡ Some r → r.first + r.pages ≤ length words
run_fits words page r w l f =
    let g = found words 0 (length words) (runs_of words) page w (omega arith) l in
    let q = run_of_page words page in
    let le : q.first + q.pages ≤ length words = runs_le words (q.first + q.pages) (length words) g.after g.back in
    subst (λ (q : Run). q.first + q.pages ≤ length words) (sym (run_is words page r w l f)) le
