-- The free runs of the large area lie between its blocks.
use Rattle.std.proofs.Common.{◌≡◌, ◌⊎◌, ℕ, zero, suc, ◌+◌, ◌-◌, ◌*◌, ◌/◌, ◌<◌, ◌≤◌, Bool, true, false, ◌&&◌, List, [], ◌∷◌, ◌++◌, Option, None, map, refl, sym, ap, ◌∙◌, subst, arith, eqb, leb, ltb, cond, inl, inr, option_map}
use Rattle.std.specs.Prelude.{unwrap_or}
use Rattle.std.specs.List.{find}
use Rattle.std.proofs.lemmas.Bool.{cases_Bool, cases_lt, ne_eqb, eq-eqb, le-leb, lt-leb, lt-ltb, le-ltb, ltb-false}
use Rattle.heap_model.specs.declared.Limits.{Limits}
use Rattle.heap_model.specs.Geometry.{pages_of}
use Rattle.heap_model.specs.Runs.{Run, runs}
use Rattle.heap_model.specs.Ranges.{in_place, is_clear_page, large_runs, large_start}
use Rattle.heap_model.specs.Stay.{run_from}
use Rattle.large_blocks.specs.declared.LargeBlock.{LargeBlock}
use Rattle.large_blocks.specs.Table.{place_of}
use Rattle.large_blocks.specs.Sound.{page_of, end_of, IsLaid, AreLaid, page_behind}
use Rattle.large_blocks.proofs.Runs.{runs_over_false, runs_over_true}
use Rattle.large_blocks.proofs.Laid.{some_pages, laid_at, behind_all}

-- the pages between two, in front of other runs
abbrev pub between : ℕ → ℕ → List Run → List Run
between from to rs = cond (ltb from to) (record { first = from; count = to - from } ∷ rs) rs

-- the runs between blocks, from a page on
abbrev pub gaps_from : Limits → ℕ → List LargeBlock → List Run
gaps_from l from [] = between from l.large_pages []
gaps_from l from (b ∷ bs) = between from (page_of l b) (gaps_from l (end_of l b) bs)

---- Which pages are free

-- whether page k of the area lies in c pages of it from p on
covers : (a s p c k : ℕ) → a ≡ 4096 * (256 * s + p) → (leb (a / 16) (65536 * s + 256 * k) && ltb (65536 * s + 256 * k) (a / 16 + 256 * c)) ≡ (leb p k && ltb k (p + c))
covers a s p c k e =
    let d : a / 16 ≡ 65536 * s + 256 * p = omega arith in
    rw d (elim (cases_lt k p) [
      | inl h ↦ let u = lt-leb p k h in let v = lt-leb (65536 * s + 256 * p) (65536 * s + 256 * k) (omega arith) in rw (u, v) refl
      | inr h ↦
          let u = le-leb p k h in
          let v = le-leb (65536 * s + 256 * p) (65536 * s + 256 * k) (omega arith) in
          elim (cases_lt k (p + c)) [
            | inl m ↦ let x = lt-ltb k (p + c) m in let y = lt-ltb (65536 * s + 256 * k) (65536 * s + 256 * p + 256 * c) (omega arith) in rw (u, v, x, y) refl
            | inr m ↦ let x = le-ltb k (p + c) m in let y = le-ltb (65536 * s + 256 * k) (65536 * s + 256 * p + 256 * c) (omega arith) in rw (u, v, x, y) refl
          ]
    ])

abbrev taken : Limits → LargeBlock → ℕ → Bool
taken l b k = in_place (large_start l + 256 * k) (place_of b)

taken_is : (l : Limits) (from : ℕ) (b : LargeBlock) (k : ℕ) → IsLaid l from b → taken l b k ≡ (leb (page_of l b) k && ltb k (end_of l b))
taken_is l from b k h = covers b.addr l.segments (page_of l b) (pages_of b.size) k h.aligned

before_block : (l : Limits) (from : ℕ) (b : LargeBlock) (k : ℕ) → IsLaid l from b → k < page_of l b → taken l b k ≡ false
before_block l from b k h m = let e = lt-leb (page_of l b) k m in taken_is l from b k h ∙ rw e refl

inside_block : (l : Limits) (from : ℕ) (b : LargeBlock) (k : ℕ) → IsLaid l from b → page_of l b ≤ k → k < end_of l b → taken l b k ≡ true
inside_block l from b k h m n = let e = le-leb (page_of l b) k m in let f = lt-ltb k (end_of l b) n in taken_is l from b k h ∙ rw (e, f) refl

behind_block : (l : Limits) (from : ℕ) (b : LargeBlock) (k : ℕ) → IsLaid l from b → end_of l b ≤ k → taken l b k ≡ false
behind_block l from b k h n = let e = le-leb (page_of l b) k (omega arith) in let f = le-ltb k (end_of l b) n in taken_is l from b k h ∙ rw (e, f) refl

clear_before : (l : Limits) (from : ℕ) (bs : List LargeBlock) (k : ℕ) → AreLaid l from bs → k < page_behind l bs → is_clear_page l (map place_of bs) k ≡ true
clear_before l from [] k a h = refl
clear_before l from (b ∷ bs) k a h =
    let e = before_block l from b k a.0 h in
    let i = behind_all l (end_of l b) bs a.0.inside a.1 in
    rw e (clear_before l (end_of l b) bs k a.1 (omega arith))

---- The runs

module _ (l : Limits) (test : ℕ → Bool) where
  -- free pages up to one that is not free, or to the end
  stretch : (from to m : ℕ) (rs : List Run) → from ≤ to → ((k : ℕ) → from ≤ k → k < to → test k ≡ true) → (m ≡ 0) ⊎ (test to ≡ false) → runs test to m ≡ rs → (n : ℕ) → n ≡ to - from + m →
      runs test from n ≡ between from to rs
  stretch from to m rs h passes ends e n is = go (to - from) refl
    where
      go : (c : ℕ) → to - from ≡ c → runs test from n ≡ between from to rs
      go zero f =
          let g : from ≡ to = omega arith in
          let i : n ≡ m = omega arith in
          let k = le-ltb from to (omega arith) in
          rw k (subst (λ (x : ℕ). runs test x n ≡ rs) (sym g) (rw i e))
      go (suc c) f =
          let g : from + suc c ≡ to = omega arith in
          let i : n ≡ suc c + m = omega arith in
          let k = lt-ltb from to (omega arith) in
          let r = runs_over_true test c from m (λ j u v. passes j u (omega arith)) (subst (λ (x : ℕ). (m ≡ 0) ⊎ (test x ≡ false)) (sym g) ends) in
          rw (k, f, i) (r ∙ ap (λ (qs : List Run). record { first = from; count = suc c } ∷ qs) (ap (λ (x : ℕ). runs test x m) g ∙ e))

  pub gaps_are : (from n : ℕ) (bs : List LargeBlock) → AreLaid l from bs → from + n ≡ l.large_pages → ((k : ℕ) → from ≤ k → test k ≡ is_clear_page l (map place_of bs) k) → runs test from n ≡ gaps_from l from bs
  gaps_are from n [] a f same = stretch from l.large_pages 0 [] (omega arith) (λ k u v. same k u) (inl refl) refl n (omega arith)
  gaps_are from n (b ∷ bs) a f same =
      let i = a.0.inside in
      let m = l.large_pages - end_of l b in
      let p = some_pages b.size a.0.huge in
      stretch from (page_of l b) (pages_of b.size + m) (gaps_from l (end_of l b) bs) a.0.behind (λ k u v. same k u ∙ clear_before l from (b ∷ bs) k a v)
      (inr (at_block (page_of l b) (omega arith) (omega arith)))
      (runs_over_false test (pages_of b.size) (page_of l b) m at_block ∙ gaps_are (end_of l b) m bs a.1 (omega arith) behind)
      n (let z = a.0.behind in omega arith)
    where
      at_block : (k : ℕ) → page_of l b ≤ k → k < end_of l b → test k ≡ false
      at_block k u v = let t = inside_block l from b k a.0 u v in same k (let z = a.0.behind in omega arith) ∙ rw t refl

      behind : (k : ℕ) → end_of l b ≤ k → test k ≡ is_clear_page l (map place_of bs) k
      behind k u = let t = behind_block l from b k a.0 u in same k (let z = a.0.behind in omega arith) ∙ rw t refl

pub free_runs : (l : Limits) (bs : List LargeBlock) → AreLaid l 0 bs → large_runs l (map place_of bs) ≡ gaps_from l 0 bs
free_runs l bs a = gaps_are l (is_clear_page l (map place_of bs)) 0 l.large_pages bs a (omega arith) (λ k u. refl)

---- The run right behind a block

abbrev begins_at : ℕ → Run → Bool
begins_at at r = eqb r.first at

not_between : (at from to : ℕ) (rs : List Run) → (from ≡ at → ⊥) → find (begins_at at) (between from to rs) ≡ find (begins_at at) rs
not_between at from to rs ne = elim (cases_Bool (ltb from to)) [
  | inl e ↦ let n = ne_eqb from at ne in rw e (rw n refl)
  | inr e ↦ rw e refl
]

none_before : (l : Limits) (from : ℕ) (bs : List LargeBlock) (at : ℕ) → AreLaid l from bs → at < from → find (begins_at at) (gaps_from l from bs) ≡ None
none_before l from [] at a h = not_between at from l.large_pages [] (λ e. omega arith)
none_before l from (b ∷ bs) at a h =
    let k = a.0.behind in
    not_between at from (page_of l b) (gaps_from l (end_of l b) bs) (λ e. omega arith) ∙ none_before l (end_of l b) bs at a.1 (omega arith)

run_here : (l : Limits) (at : ℕ) (bs : List LargeBlock) → at ≤ page_behind l bs → AreLaid l at bs → run_from (gaps_from l at bs) at ≡ page_behind l bs - at
run_here l at [] h a = elim (cases_Bool (ltb at l.large_pages)) [
  | inl e ↦ let f = eq-eqb at at refl in rw e (rw f refl)
  | inr e ↦ let k = ltb-false at l.large_pages e in rw e (omega arith)
]
run_here l at (b ∷ bs) h a = elim (cases_Bool (ltb at (page_of l b))) [
  | inl e ↦ let f = eq-eqb at at refl in rw e (rw f refl)
  | inr e ↦
      let k = ltb-false at (page_of l b) e in
      let p = some_pages b.size a.0.huge in
      let none = none_before l (end_of l b) bs at a.1 (omega arith) in
      rw e (rw none (omega arith))
]

pub run_behind : (l : Limits) (from : ℕ) (xs : List LargeBlock) (b : LargeBlock) (ys : List LargeBlock) → AreLaid l from (xs ++ b ∷ ys) → run_from (gaps_from l from (xs ++ b ∷ ys)) (end_of l b) ≡ page_behind l ys - end_of l b
run_behind l from [] b ys a =
    let p = some_pages b.size a.0.huge in
    let k = a.0.behind in
    ap (λ (o : Option Run). unwrap_or (option_map (λ (r : Run). r.count) o) 0) (not_between (end_of l b) from (page_of l b) (gaps_from l (end_of l b) ys) (λ e. omega arith))
    ∙ run_here l (end_of l b) ys (behind_all l (end_of l b) ys a.0.inside a.1) a.1
run_behind l from (x ∷ xs) b ys a =
    let at = laid_at l (end_of l x) xs b ys a.1 in
    let p = some_pages b.size at.0.huge in
    let q = some_pages x.size a.0.huge in
    let k = at.0.behind in
    let m = a.0.behind in
    ap (λ (o : Option Run). unwrap_or (option_map (λ (r : Run). r.count) o) 0) (not_between (end_of l b) from (page_of l x) (gaps_from l (end_of l x) (xs ++ b ∷ ys)) (λ e. omega arith))
    ∙ run_behind l (end_of l x) xs b ys a.1
