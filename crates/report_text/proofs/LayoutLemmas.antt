-- On the runs that begin from a page on, among runs that tile pages.
use Rattle.std.proofs.Common.{◌≡◌, ℕ, ◌+◌, ◌<◌, ◌≤◌, Bool, false, not, List, [], ◌∷◌, ◌++◌, length, map, Some, None, refl, sym, ap, subst, ◌∙◌, arith, leb, inl, inr}
use Rattle.std.specs.Prelude.{filter, flat_map}
use Rattle.std.specs.List.{find}
use Rattle.std.proofs.lemmas.Bool.{cases_Bool, le-leb, lt-leb, leb-true, and_parts}
use Rattle.heap_model.specs.declared.Kind.TheVariants as kinds
use Rattle.heap_model.specs.declared.Run.{Run}
use Rattle.heap_model.specs.State.{is_kind}
use Rattle.page_ranges.specs.Ranges.{AreRuns, begins_from}
use Rattle.report_text.specs.Report.{range_lines}
use Rattle.report_text.specs.Image.{range_of, shown_runs}
use Rattle.report_text.proofs.ReplyLemmas.{put_on, put_all}

-- the spans and free runs that begin from a page on
abbrev pub shown_from : ℕ → List Run → List Run
shown_from page rs = filter (begins_from page) rs

-- .. and their lines
abbrev pub lines_from : (ℕ → Bool) → ℕ → List Run → List ℕ
lines_from committed page rs = flat_map range_lines (map (range_of committed) (shown_from page rs))

above_is : (page : ℕ) (r : Run) → page ≤ r.first → begins_from page r ≡ not (is_kind r.mark.kind kinds.Header)
above_is page r l = let e = le-leb page r.first l in rw e refl

below_is : (page : ℕ) (r : Run) → r.first < page → begins_from page r ≡ false
below_is page r l = let e = lt-leb page r.first l in rw e refl

runs_to : (words : List ℕ) (from to : ℕ) (rs : List Run) → AreRuns words from to rs → from ≤ to
runs_to words from to [] a = rw a (omega arith)
runs_to words from to (r ∷ rs) a = let k = runs_to words (from + r.pages) to rs a.2 in omega arith

-- where all runs lie behind two pages, either gives the same
all_behind : (words : List ℕ) (from to page other : ℕ) (rs : List Run) → AreRuns words from to rs → page ≤ from → other ≤ from → shown_from page rs ≡ shown_from other rs
all_behind words from to page other [] a l k = refl
all_behind words from to page other (r ∷ rs) a l k =
    let same = above_is page r (omega (arith, a.0)) ∙ sym (above_is other r (omega (arith, a.0))) in
    let rest = all_behind words (from + r.pages) to page other rs a.2 (omega arith) (omega arith) in
    elim (cases_Bool (begins_from other r)) [
      | inl e ↦ rw (same, e) (ap (λ (xs : List Run). r ∷ xs) rest)
      | inr e ↦ rw (same, e) rest
    ]

-- What follows the first run that begins from a page on.
pub record Step (to page : ℕ) (rs : List Run) (r : Run) : Type 0 where
  pub above : page ≤ r.first
  pub some : 0 < r.pages
  pub below : r.first + r.pages ≤ to
  pub picked : shown_from page rs ≡ r ∷ shown_from (r.first + r.pages) rs

-- .. and it lies behind where the runs begin
step_from : (words : List ℕ) (from to page : ℕ) (rs : List Run) (r : Run) → AreRuns words from to rs → find (begins_from page) rs ≡ Some r → Step to page rs r × (from ≤ r.first)
step_from words from to page [] r a f = absurd (let z : ⊥ = cc in z)
step_from words from to page (x ∷ xs) r a f = elim (cases_Bool (begins_from page x)) [
  | inl e ↦
      let is : Some x ≡ Some r = rw e at f in
      let same : x ≡ r = cc in
      let l = leb-true page x.first (and_parts (leb page x.first) _ e).0 in
      let to_end = runs_to words (from + x.pages) to xs a.2 in
      let behind = all_behind words (from + x.pages) to page (x.first + x.pages) xs a.2 (omega (arith, a.0)) (omega (arith, a.0)) in
      let low = below_is (x.first + x.pages) x (omega (arith, a.1.some)) in
      let S : Run → Type 0 = λ y. Step to page (x ∷ xs) y × (from ≤ y.first) in
      subst S same (
        record {
          above = l;
          some = a.1.some;
          below = omega (arith, a.0);
          picked = rw (low, e) (ap (λ (ys : List Run). x ∷ ys) behind);
        },
        omega (arith, a.0),
      )
  | inr e ↦
      let rest = step_from words (from + x.pages) to page xs r a.2 (rw e at f) in
      let low = below_is (r.first + r.pages) x (omega (arith, a.0, a.1.some, rest.1)) in
      (record { above = rest.0.above; some = rest.0.some; below = rest.0.below; picked = rw (e, low) rest.0.picked }, omega (arith, rest.1))
]

pub step : (words : List ℕ) (page : ℕ) (rs : List Run) (r : Run) → AreRuns words 0 (length words) rs → Some r ≡ find (begins_from page) rs → Step (length words) page rs r
step words page rs r a f = (step_from words 0 (length words) page rs r a (sym f)).0

-- none begins from a page on
none_from : (page : ℕ) (rs : List Run) → find (begins_from page) rs ≡ None → shown_from page rs ≡ []
none_from page [] f = refl
none_from page (x ∷ xs) f = elim (cases_Bool (begins_from page x)) [
  | inl e ↦ let z : Some x ≡ None = rw e at f in absurd (let y : ⊥ = cc in y)
  | inr e ↦ rw e (none_from page xs (rw e at f))
]

-- nor beyond the last
beyond : (words : List ℕ) (from to page : ℕ) (rs : List Run) → AreRuns words from to rs → to ≤ page → shown_from page rs ≡ []
beyond words from to page [] a l = refl
beyond words from to page (r ∷ rs) a l =
    let to_end = runs_to words (from + r.pages) to rs a.2 in
    let low = below_is page r (omega (arith, a.0, a.1.some)) in
    rw low (beyond words (from + r.pages) to page rs a.2 l)

-- all that are shown begin from page 0 on
all_shown : (rs : List Run) → shown_from 0 rs ≡ shown_runs rs
all_shown [] = refl
all_shown (r ∷ rs) =
    let here = above_is 0 r (omega arith) in
    elim (cases_Bool (not (is_kind r.mark.kind kinds.Header))) [
      | inl k ↦ rw (here, k) (ap (λ (xs : List Run). r ∷ xs) (all_shown rs))
      | inr k ↦ rw (here, k) (all_shown rs)
    ]

pub all_lines : (committed : ℕ → Bool) (rs : List Run) → lines_from committed 0 rs ≡ flat_map range_lines (map (range_of committed) (shown_runs rs))
all_lines committed rs = ap (λ (xs : List Run). flat_map range_lines (map (range_of committed) xs)) (all_shown rs)

pub range_put : (committed : ℕ → Bool) (page next : ℕ) (rs : List Run) (r : Run) (old new whole : List ℕ) → shown_from page rs ≡ r ∷ shown_from next rs → new ≡ old ++ range_lines (range_of committed r) →
    old ++ lines_from committed page rs ≡ whole → new ++ lines_from committed next rs ≡ whole
range_put committed page next rs r old new whole e p w =
    put_on old new (range_lines (range_of committed r)) (lines_from committed next rs) (lines_from committed page rs) whole p (ap (λ (xs : List Run). flat_map range_lines (map (range_of committed) xs)) e) w

lines_end : (committed : ℕ → Bool) (page : ℕ) (rs : List Run) (old whole : List ℕ) → shown_from page rs ≡ [] → old ++ lines_from committed page rs ≡ whole → old ≡ whole
lines_end committed page rs old whole e w = put_all old (lines_from committed page rs) whole (ap (λ (xs : List Run). flat_map range_lines (map (range_of committed) xs)) e) w

pub none_left : (committed : ℕ → Bool) (page : ℕ) (rs : List Run) (old whole : List ℕ) → None ≡ find (begins_from page) rs → old ++ lines_from committed page rs ≡ whole → old ≡ whole
none_left committed page rs old whole f w = lines_end committed page rs old whole (none_from page rs (sym f)) w

pub beyond_all : (committed : ℕ → Bool) (words : List ℕ) (page : ℕ) (rs : List Run) (old whole : List ℕ) → AreRuns words 0 (length words) rs → length words ≤ page → old ++ lines_from committed page rs ≡ whole → old ≡ whole
beyond_all committed words page rs old whole a l w = lines_end committed page rs old whole (beyond words 0 (length words) page rs a l) w
