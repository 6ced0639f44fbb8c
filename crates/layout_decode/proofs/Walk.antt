-- A walk over runs that tile pages, from a page on.
use Rattle.std.proofs.Common.{◌≡◌, ℕ, ◌+◌, ◌<◌, ◌≤◌, Bool, true, false, not, List, [], ◌∷◌, ◌++◌, Some, None, sym, ap, subst, refl, ◌∙◌, arith, leb, inl, inr, length, length-append, ltb-true, ◌*◌}
use Rattle.std.specs.Prelude.{filter, flat_map}
use Rattle.std.specs.List.{find, AllByRecursion}
use Rattle.std.specs.Option.{option_or}
use Rattle.std.proofs.lemmas.List.Folds.{find-append}
use Rattle.std.proofs.lemmas.Bool.{cases_Bool, cases_lt, le-leb, lt-leb, lt-ltb, leb-true, and_parts, and_from}
use Rattle.std.proofs.lemmas.List.Sums.{sum_by-append}
use Rattle.heap_model.specs.declared.Block.{Block}
use Rattle.heap_model.specs.declared.Kind.TheVariants as kinds
use Rattle.heap_model.specs.declared.Run.{Run}
use Rattle.heap_model.specs.State.{is_kind}
use Rattle.page_ranges.specs.Ranges.{AreRuns, begins_from, has_page}
use Rattle.page_ranges.proofs.Runs.{runs_le}
use Rattle.layout_decode.specs.Decode.{total_of}

pub find_behind : (p : Block → Bool) (xs ys : List Block) → find p xs ≡ None → find p (xs ++ ys) ≡ find p ys
find_behind p xs ys e = find-append p xs ys ∙ ap (λ o. option_or o (find p ys)) e

pub total-append : (xs ys : List Block) → total_of (xs ++ ys) ≡ total_of xs + total_of ys
total-append xs ys = sum_by-append (λ (b : Block). b.size) xs ys

pub find_in : (p : Block → Bool) (xs ys : List Block) (b : Block) → find p xs ≡ Some b → find p (xs ++ ys) ≡ Some b
find_in p xs ys b e = find-append p xs ys ∙ ap (λ o. option_or o (find p ys)) e

-- what holds of each run holds of one that is found
pub found_one : (Q : Run → Type 0) (test : Run → Bool) (rs : List Run) (r : Run) → AllByRecursion Q rs → find test rs ≡ Some r → Q r
found_one Q test [] r all f = absurd (let z : ⊥ = cc in z)
found_one Q test (x ∷ xs) r all f = elim (cases_Bool (test x)) [
  | inl e ↦ let is : Some x ≡ Some r = rw e at f in let same : x ≡ r = cc in subst Q same all.0
  | inr e ↦ found_one Q test xs r all.1 (rw e at f)
]

-- the runs that begin at a page or behind it
abbrev pub behind : ℕ → List Run → List Run
behind page rs = filter (λ (r : Run). leb page r.first) rs

pub kept_run : (page : ℕ) (x : Run) (xs : List Run) → page ≤ x.first → behind page (x ∷ xs) ≡ x ∷ behind page xs
kept_run page x xs l = let e = le-leb page x.first l in rw e refl

pub left_run : (page : ℕ) (x : Run) (xs : List Run) → x.first < page → behind page (x ∷ xs) ≡ behind page xs
left_run page x xs l = let e = lt-leb page x.first l in rw e refl

pub all_behind : (words : List ℕ) (from to page : ℕ) (rs : List Run) → AreRuns words from to rs → page ≤ from → behind page rs ≡ rs
all_behind words from to page [] a l = refl
all_behind words from to page (r ∷ rs) a l =
    kept_run page r rs (omega (arith, a.0)) ∙ ap (λ (xs : List Run). r ∷ xs) (all_behind words (from + r.pages) to page rs a.2 (omega arith))

pub none_behind : (words : List ℕ) (from to page : ℕ) (rs : List Run) → AreRuns words from to rs → to ≤ page → behind page rs ≡ []
none_behind words from to page [] a l = refl
none_behind words from to page (r ∷ rs) a l =
    let le = runs_le words (from + r.pages) to rs a.2 in
    left_run page r rs (omega (arith, a.0, a.1.some)) ∙ none_behind words (from + r.pages) to page rs a.2 l

module _ (f : Run → List Block) where
  -- the blocks of the runs from a page on
  abbrev pub blocks_from : ℕ → List Run → List Block
  blocks_from page rs = flat_map f (behind page rs)

  -- What follows the first span or free run from a page on.
  pub record Step (to page : ℕ) (rs : List Run) (r : Run) : Type 0 where
    pub above : page ≤ r.first
    pub some : 0 < r.pages
    pub below : r.first + r.pages ≤ to
    pub next : blocks_from page rs ≡ f r ++ blocks_from (r.first + r.pages) rs

  -- Where a search may begin: at the run of a page, if no run that ends there or before has a block that is sought.
  pub record Start (p : Block → Bool) (page : ℕ) (rs : List Run) (r : Run) : Type 0 where
    pub low : r.first ≤ page
    pub same : find p (flat_map f rs) ≡ find p (blocks_from r.first rs)

-- .. where a header page has none
module _ (f : Run → List Block) (headers : (r : Run) → not (is_kind r.mark.kind kinds.Header) ≡ false → f r ≡ []) where
  -- what does not begin from a page on has no block from there on
  skipped : (page : ℕ) (x : Run) (xs : List Run) → begins_from page x ≡ false → blocks_from f page (x ∷ xs) ≡ blocks_from f page xs
  skipped page x xs e = elim (cases_lt x.first page) [
    | inl l ↦ ap (flat_map f) (left_run page x xs l)
    | inr l ↦
        let k = le-leb page x.first l in
        let none = headers x (rw k at e) in
        ap (flat_map f) (kept_run page x xs l) ∙ ap (λ (bs : List Block). bs ++ blocks_from f page xs) none
  ]

  -- .. and it lies behind where the runs begin
  step_behind : (words : List ℕ) (from to page : ℕ) (rs : List Run) (r : Run) → AreRuns words from to rs → find (begins_from page) rs ≡ Some r → Step f to page rs r × (from ≤ r.first)
  step_behind words from to page [] r a e = absurd (let z : ⊥ = cc in z)
  step_behind words from to page (x ∷ xs) r a e = elim (cases_Bool (begins_from page x)) [
    | inl b ↦
        let is : Some x ≡ Some r = rw b at e in
        let same : x ≡ r = cc in
        let l = leb-true page x.first (and_parts (leb page x.first) _ b).0 in
        let le = runs_le words (from + x.pages) to xs a.2 in
        let rest : behind page xs ≡ behind (x.first + x.pages) xs =
        all_behind words (from + x.pages) to page xs a.2 (omega (arith, a.0)) ∙ sym (all_behind words (from + x.pages) to (x.first + x.pages) xs a.2 (omega (arith, a.0))) in
        let S : Run → Type 0 = λ y. Step f to page (x ∷ xs) y × (from ≤ y.first) in
        subst S same (
          record {
            above = l;
            some = a.1.some;
            below = omega (arith, a.0);
            next = ap (flat_map f) (kept_run page x xs l) ∙ ap (λ (ys : List Run). f x ++ flat_map f ys) (rest ∙ sym (left_run (x.first + x.pages) x xs (omega (arith, a.1.some))));
          },
          omega (arith, a.0),
        )
    | inr b ↦
        let rest = step_behind words (from + x.pages) to page xs r a.2 (rw b at e) in
        let low = left_run (r.first + r.pages) x xs (omega (arith, a.0, a.1.some, rest.1)) in (
          record {
            above = rest.0.above;
            some = rest.0.some;
            below = rest.0.below;
            next = skipped page x xs b ∙ rest.0.next ∙ ap (λ (ys : List Run). f r ++ flat_map f ys) (sym low);
          },
          omega (arith, rest.1),
        )
  ]

  pub step : (words : List ℕ) (from to page : ℕ) (rs : List Run) (r : Run) → AreRuns words from to rs → find (begins_from page) rs ≡ Some r → Step f to page rs r
  step words from to page rs r a e = (step_behind words from to page rs r a e).0

  -- none begins from a page on
  pub none_from : (page : ℕ) (rs : List Run) → find (begins_from page) rs ≡ None → blocks_from f page rs ≡ []
  none_from page [] e = refl
  none_from page (x ∷ xs) e = elim (cases_Bool (begins_from page x)) [
    | inl b ↦ let z : Some x ≡ None = rw b at e in absurd (let y : ⊥ = cc in y)
    | inr b ↦ skipped page x xs b ∙ none_from page xs (rw b at e)
  ]

module _ (f : Run → List Block) where
  module _ (p : Block → Bool) (Q : Run → Type 0) (page : ℕ) (quiet : (x : Run) → Q x → 0 < x.pages → x.first + x.pages ≤ page → find p (f x) ≡ None) where
    start_behind : (words : List ℕ) (from to : ℕ) (rs : List Run) (r : Run) → AreRuns words from to rs → AllByRecursion Q rs → from ≤ page → find (has_page page) rs ≡ Some r → Start f p page rs r × (from ≤ r.first)
    start_behind words from to [] r a all l e = absurd (let z : ⊥ = cc in z)
    start_behind words from to (x ∷ xs) r a all l e = elim (cases_lt page (x.first + x.pages)) [
      | inl inside ↦
          let t : has_page page x ≡ true = and_from (leb x.first page) _ (le-leb x.first page (omega (arith, a.0))) (lt-ltb page (x.first + x.pages) inside) in
          let is : Some x ≡ Some r = rw t at e in
          let same : x ≡ r = cc in
          let S : Run → Type 0 = λ y. Start f p page (x ∷ xs) y × (from ≤ y.first) in
          subst S same (
            record {
              low = omega (arith, a.0);
              same = ap (λ (ys : List Run). find p (flat_map f ys)) (sym (all_behind words from to x.first (x ∷ xs) a (omega (arith, a.0))));
            },
            omega (arith, a.0),
          )
      | inr past ↦ elim (cases_Bool (has_page page x)) [
        | inl t ↦ absurd (omega (arith, ltb-true page (x.first + x.pages) (and_parts (leb x.first page) _ t).1))
        | inr t ↦
            let rest = start_behind words (from + x.pages) to xs r a.2 all.1 (omega (arith, a.0)) (rw t at e) in
            let low = left_run r.first x xs (omega (arith, a.0, a.1.some, rest.1)) in (
              record {
                low = rest.0.low;
                same = find_behind p (f x) (flat_map f xs) (quiet x all.0 a.1.some past) ∙ rest.0.same ∙ ap (λ (ys : List Run). find p (flat_map f ys)) (sym low);
              },
              omega (arith, rest.1),
            )
      ]
    ]

    pub start : (words : List ℕ) (from to : ℕ) (rs : List Run) (r : Run) → AreRuns words from to rs → AllByRecursion Q rs → from ≤ page → find (has_page page) rs ≡ Some r → Start f p page rs r
    start words from to rs r a all l e = (start_behind words from to rs r a all l e).0

    -- all runs may end there or before
    pub quiet_all : (words : List ℕ) (from to : ℕ) (rs : List Run) → AreRuns words from to rs → AllByRecursion Q rs → to ≤ page → find p (flat_map f rs) ≡ None
    quiet_all words from to [] a all l = refl
    quiet_all words from to (x ∷ xs) a all l =
        let le = runs_le words (from + x.pages) to xs a.2 in
        find_behind p (f x) (flat_map f xs) (quiet x all.0 a.1.some (omega (arith, a.0))) ∙ quiet_all words (from + x.pages) to xs a.2 all.1 l

  -- blocks are no more than the granules of the pages, and have no more bytes
  module _ (Q : Run → Type 0) (few : (x : Run) → Q x → 0 < x.pages → (length (f x) ≤ 256 * x.pages) × (total_of (f x) ≤ 4096 * x.pages)) where
    pub bounds : (words : List ℕ) (from to : ℕ) (rs : List Run) → AreRuns words from to rs → AllByRecursion Q rs
        → (length (flat_map f rs) + 256 * from ≤ 256 * to) × (total_of (flat_map f rs) + 4096 * from ≤ 4096 * to)
    bounds words from to [] a all = (omega (arith, a), omega (arith, a))
    bounds words from to (x ∷ xs) a all =
        let rest = bounds words (from + x.pages) to xs a.2 all.1 in
        let one = few x all.0 a.1.some in
        (omega (arith, rest.0, one.0, length-append (f x) (flat_map f xs)), omega (arith, rest.1, one.1, total-append (f x) (flat_map f xs)))
