-- Runs that tile the pages, in parts.
use Rattle.std.proofs.Common.{◌≡◌, ℕ, ◌+◌, ◌*◌, ◌<◌, ◌≤◌, ◌⊎◌, inl, inr, Bool, true, false, refl, ap, ◌∙◌, sym, arith, subst, List, [], ◌∷◌, ◌++◌, length, get_or, map, Some, eqb, ltb}
use Rattle.std.proofs.lemmas.Bool.{cases_Bool, le-ltb, lt-ltb, ne_eqb}
use Rattle.std.specs.List.{AllByRecursion, find}
use Rattle.heap_model.specs.declared.Kind.TheVariants as kinds
use Rattle.heap_model.specs.declared.Mark.{Mark}
use Rattle.heap_model.specs.declared.Run as real
use Rattle.heap_model.specs.State.{is_kind, insert_span, remove_found, change_found}
use Rattle.heap_model.specs.Search.{begins_at}
use Rattle.heap_model.specs.Legal.{is_back_at, with_pages}
use Rattle.page_region.specs.Held.{IsHeld}
use Rattle.page_ranges.specs.Words.{runs_of, run_of_page}
use Rattle.page_ranges.specs.Ranges.{AreRuns, IsRun, IsWhole}
use Rattle.page_ranges.proofs.Runs.{runs_only, runs_le, runs_kept, runs_append, finds_run, page_tells}
use Rattle.page_ranges.specs.Spans.{is_of_span, is_of_free, taken_runs, span_of, frees_in, IsUsed, AreApart}
use Rattle.backend_fit.specs.Pages.{Pages}
use Rattle.backend_fit.specs.Effects.{starts_at, insert_run, with_mark}
use Rattle.backend_fit.specs.Sound.{AreSound, IsFreeRun}

pub all_append : (P : real.Run → Type 0) (xs ys : List real.Run) → AllByRecursion P xs → AllByRecursion P ys → AllByRecursion P (xs ++ ys)
all_append P [] ys a b = b
all_append P (x ∷ xs) ys a b = (a.0, all_append P xs ys a.1 b)

pub all_parts : (P : real.Run → Type 0) (xs ys : List real.Run) → AllByRecursion P (xs ++ ys) → AllByRecursion P xs × AllByRecursion P ys
all_parts P [] ys a = (tt, a)
all_parts P (x ∷ xs) ys a = let r = all_parts P xs ys a.1 in ((a.0, r.0), r.1)

-- whether the last run is free
abbrev pub last_free : Bool → List real.Run → Bool
last_free was [] = was
last_free was (r ∷ rs) = last_free (is_of_free r.mark.kind) rs

pub apart_append : (was : Bool) (xs ys : List real.Run) → AreApart was xs → AreApart (last_free was xs) ys → AreApart was (xs ++ ys)
apart_append was [] ys a b = b
apart_append was (x ∷ xs) ys a b = (a.0, apart_append (is_of_free x.mark.kind) xs ys a.1 b)

pub apart_parts : (was : Bool) (xs ys : List real.Run) → AreApart was (xs ++ ys) → AreApart was xs × AreApart (last_free was xs) ys
apart_parts was [] ys a = (tt, a)
apart_parts was (x ∷ xs) ys a = let r = apart_parts (is_of_free x.mark.kind) xs ys a.1 in ((a.0, r.0), r.1)

pub apart_weaker : (was : Bool) (ys : List real.Run) → AreApart was ys → AreApart false ys
apart_weaker was [] a = tt
apart_weaker was (y ∷ ys) a = (refl, a.1)

-- the words that runs tile are whole, and tell these runs
pub record Tiled (words : List ℕ) (reserved : ℕ) (rs : List real.Run) : Type 0 where
  pub runs : AreRuns words 0 (length words) rs
  pub used : AllByRecursion (IsUsed reserved) rs
  pub apart : AreApart false rs

pub tells : (words : List ℕ) (reserved : ℕ) (rs : List real.Run) → Tiled words reserved rs → runs_of words ≡ rs
tells words reserved rs t = runs_only words 0 rs t.runs

pub sound_of : (k : Pages) (rs : List real.Run) → IsHeld k.region → length k.words ≡ 256 * k.region.segments → Tiled k.words k.region.reserved rs → AreSound k
sound_of k rs h l t =
    let e = sym (tells k.words k.region.reserved rs t) in
    record {
      held = h;
      pages = l;
      whole = subst (λ (qs : List real.Run). AreRuns k.words 0 (length k.words) qs) e t.runs;
      used = subst (λ (qs : List real.Run). AllByRecursion (IsUsed k.region.reserved) qs) e t.used;
      apart = subst (λ (qs : List real.Run). AreApart false qs) e t.apart;
    }

---- The spans among runs

pub insert_front : (words : List ℕ) (from mid : ℕ) (xs zs zs' : List real.Run) (x : real.Run) → AreRuns words from mid xs → mid ≤ x.first →
    taken_runs zs' ≡ insert_run x (taken_runs zs) → taken_runs (xs ++ zs') ≡ insert_run x (taken_runs (xs ++ zs))
insert_front words from mid [] zs zs' x a l e = e
insert_front words from mid (r ∷ rs) zs zs' x a l e =
    let again = insert_front words (from + r.pages) mid rs zs zs' x a.2 l e in
    let le = runs_le words (from + r.pages) mid rs a.2 in
    elim (cases_Bool (is_of_span r.mark.kind)) [
      | inl s ↦ let t : ltb x.first r.first ≡ false = le-ltb x.first r.first (omega (arith, a.0)) in rw (s, t, again) refl
      | inr s ↦ rw s again
    ]

pub insert_here : (words : List ℕ) (from to : ℕ) (ys : List real.Run) (x : real.Run) → AreRuns words from to ys → x.first < from → x ∷ taken_runs ys ≡ insert_run x (taken_runs ys)
insert_here words from to [] x a l = refl
insert_here words from to (r ∷ rs) x a l = elim (cases_Bool (is_of_span r.mark.kind)) [
  | inl s ↦ let t : ltb x.first r.first ≡ true = lt-ltb x.first r.first (omega (arith, a.0)) in rw (s, t) refl
  | inr s ↦ rw s (insert_here words (from + r.pages) to rs x a.2 (omega arith))
]

-- none of the runs before a page starts there
pub remove_front : (words : List ℕ) (from first : ℕ) (xs zs : List real.Run) → AreRuns words from first xs →
    remove_found (starts_at first) (taken_runs (xs ++ zs)) ≡ taken_runs xs ++ remove_found (starts_at first) (taken_runs zs)
remove_front words from first [] zs a = refl
remove_front words from first (r ∷ rs) zs a =
    let again = remove_front words (from + r.pages) first rs zs a.2 in
    let le = runs_le words (from + r.pages) first rs a.2 in
    elim (cases_Bool (is_of_span r.mark.kind)) [
      | inl s ↦ let t : eqb r.first first ≡ false = ne_eqb r.first first (λ e. omega (arith, a.0, a.1.some)) in rw (s, t, again) refl
      | inr s ↦ rw s again
    ]

pub change_front : (words : List ℕ) (from first : ℕ) (f : real.Run → real.Run) (xs zs : List real.Run) → AreRuns words from first xs →
    change_found (starts_at first) f (taken_runs (xs ++ zs)) ≡ taken_runs xs ++ change_found (starts_at first) f (taken_runs zs)
change_front words from first f [] zs a = refl
change_front words from first f (r ∷ rs) zs a =
    let again = change_front words (from + r.pages) first f rs zs a.2 in
    let le = runs_le words (from + r.pages) first rs a.2 in
    elim (cases_Bool (is_of_span r.mark.kind)) [
      | inl s ↦ let t : eqb r.first first ≡ false = ne_eqb r.first first (λ e. omega (arith, a.0, a.1.some)) in rw (s, t, again) refl
      | inr s ↦ rw s again
    ]

---- The spans of runs that change

pub spans_insert : (x : real.Run) (rs : List real.Run) → map span_of (insert_run x rs) ≡ insert_span (span_of x) (map span_of rs)
spans_insert x [] = refl
spans_insert x (r ∷ rs) = elim (cases_Bool (ltb x.first r.first)) [
  | inl e ↦ rw e refl
  | inr e ↦ rw e (ap (λ xs. span_of r ∷ xs) (spans_insert x rs))
]

pub spans_remove : (first : ℕ) (rs : List real.Run) → map span_of (remove_found (starts_at first) rs) ≡ remove_found (begins_at first) (map span_of rs)
spans_remove first [] = refl
spans_remove first (r ∷ rs) = elim (cases_Bool (eqb r.first first)) [
  | inl e ↦ rw e refl
  | inr e ↦ rw e (ap (λ xs. span_of r ∷ xs) (spans_remove first rs))
]

pub spans_change : (first n : ℕ) (m : Mark) (rs : List real.Run) (r : real.Run) → find (starts_at first) rs ≡ Some r → is_kind r.mark.kind kinds.Back ≡ true → span_of (with_mark n m r) ≡ with_pages n (span_of r) →
    map span_of (change_found (starts_at first) (with_mark n m) rs) ≡ change_found (is_back_at first) (with_pages n) (map span_of rs)
spans_change first n m [] r f k e = refl
spans_change first n m (q ∷ qs) r f k e = elim (cases_Bool (eqb q.first first)) [
  | inl t ↦ here t (rw t at f)
  | inr t ↦ rw t (ap (λ xs. span_of q ∷ xs) (spans_change first n m qs r (rw t at f) k e))
]
  where
    here : eqb q.first first ≡ true → Some q ≡ Some r → map span_of (change_found (starts_at first) (with_mark n m) (q ∷ qs)) ≡ change_found (is_back_at first) (with_pages n) (map span_of (q ∷ qs))
    here t g =
        let same : r ≡ q = cc in
        let k' : is_kind q.mark.kind kinds.Back ≡ true = subst (λ (w : real.Run). is_kind w.mark.kind kinds.Back ≡ true) same k in
        let e' : span_of (with_mark n m q) ≡ with_pages n (span_of q) = subst (λ (w : real.Run). span_of (with_mark n m w) ≡ with_pages n (span_of w)) same e in
        rw (t, k') (ap (λ x. x ∷ map span_of qs) e')

---- The free runs

pub free_one : (words : List ℕ) (r : real.Run) → IsWhole words → IsRun words r → r.first < length words → is_of_free r.mark.kind ≡ true → IsFreeRun words r.first r.pages
free_one words r w i l e =
    let z : r.first + 0 ≡ r.first = omega arith in
    let same : run_of_page words r.first ≡ r = subst (λ n. run_of_page words n ≡ r) z (page_tells words r 0 i i.some) in
    record { mark = r.mark; finds = finds_run words r.first w l ∙ ap Some same; free = e }

pub frees_found : (words : List ℕ) (from : ℕ) (rs : List real.Run) → IsWhole words → AreRuns words from (length words) rs → AllByRecursion (λ q. IsFreeRun words q.first q.count) (frees_in rs)
frees_found words from [] w a = tt
frees_found words from (r ∷ rs) w a =
    let again = frees_found words (from + r.pages) rs w a.2 in
    let le = runs_le words (from + r.pages) (length words) rs a.2 in
    elim (cases_Bool (is_of_free r.mark.kind)) [
      | inl e ↦ rw e (free_one words r w a.1 (omega (arith, a.0, a.1.some)) e, again)
      | inr e ↦ rw e again
    ]

-- words that are changed between two pages, where runs tile what is new there
pub changed : (old new : List ℕ) (reserved low high : ℕ) (before middle after : List real.Run) →
    AreRuns old 0 low before → AreRuns old high (length old) after → AreRuns new low high middle → length new ≡ length old →
    ((page : ℕ) → (page < low) ⊎ (high ≤ page) → get_or new page 0 ≡ get_or old page 0) →
    AllByRecursion (IsUsed reserved) before → AllByRecursion (IsUsed reserved) middle → AllByRecursion (IsUsed reserved) after →
    AreApart false (before ++ (middle ++ after)) → Tiled new reserved (before ++ (middle ++ after))
changed old new reserved low high before middle after f b m l same ub um ua p = record {
  runs = runs_append new 0 low (length new) before (middle ++ after)
      (runs_kept old new 0 low before (λ page x y. same page (inl y)) f)
      (runs_append new low high (length new) middle after m
      (rw l (runs_kept old new high (length old) after (λ page x y. same page (inr x)) b)));
  used = all_append (IsUsed reserved) before (middle ++ after) ub (all_append (IsUsed reserved) middle after um ua);
  apart = p;
}
