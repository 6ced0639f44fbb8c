-- On runs that follow each other.
use Rattle.std.proofs.Common.{◌≡◌, ℕ, zero, suc, ◌+◌, ◌-◌, ◌/◌, ◌%◌, ◌<◌, ◌≤◌, inl, inr, Bool, true, false, ◌&&◌, refl, ap, ◌∙◌, sym, arith, subst, List, [], ◌∷◌, ◌++◌, length, drop, get_or, Some, add-zero, ltb, leb, eqb}
use Rattle.std.proofs.Math.Seq.{drop-cons}
use Rattle.std.proofs.Math.ListN.{drop_of_length-le}
use Rattle.std.proofs.lemmas.Bool.{le-leb, lt-ltb, le-ltb, cases_lt, and_from, cases_Bool}
use Rattle.std.proofs.lemmas.List.{drop-drop}
use Rattle.std.specs.List.{find}
use Rattle.heap_model.specs.declared.Run.{Run}
use Rattle.page_ranges.specs.Words.{header_run, first_word, later_word, word_in, run_of, first_of, run_of_page, read, runs_from, runs_of}
use Rattle.page_ranges.specs.Ranges.{IsMarkedRun, IsRun, AreRuns, IsWhole, has_page}
use Rattle.page_ranges.proofs.Decode.{run_of_word, first_of_first, first_of_later, first_of_zero, first_is_first, later_distance}

read_skip : (page skip : ℕ) (words : List ℕ) → read page skip words ≡ read (page + skip) 0 (drop skip words)
read_skip page zero words = rw add-zero
read_skip page (suc skip) [] = refl
read_skip page (suc skip) (w ∷ ws) = let e : page + suc skip ≡ suc page + skip = omega arith in rw e (read_skip (suc page) skip ws)

pub runs_step : (words : List ℕ) (page : ℕ) → page < length words → 0 < (run_of page (get_or words page 0)).pages →
    runs_from words page ≡ run_of page (get_or words page 0) ∷ runs_from words (page + (run_of page (get_or words page 0)).pages)
runs_step words page l some =
    let r = run_of page (get_or words page 0) in
    let e : suc page + (r.pages - 1) ≡ page + r.pages = omega arith in
    rw (drop-cons words page 0 l) (ap (λ rs. r ∷ rs) (
    read_skip (suc page) (r.pages - 1) (drop (suc page) words) ∙ rw e (ap (read (page + r.pages) 0) ((drop-drop (r.pages - 1) (suc page) words ∙ rw e refl)))))

-- the word of a run's first page tells the run
pub first_tells : (words : List ℕ) (r : Run) → IsRun words r → run_of r.first (get_or words r.first 0) ≡ r
first_tells words r i = elim i.kept [
  | inl h ↦ rw h.1 (sym h.0)
  | inr m ↦ let z : get_or words (r.first + 0) 0 ≡ word_in r 0 = m.marked 0 i.some in let w = rw add-zero at z in rw w (run_of_word r.first r.pages r.mark m.fields m.pages)
]

pub runs_le : (words : List ℕ) (from to : ℕ) (rs : List Run) → AreRuns words from to rs → from ≤ to
runs_le words from to [] a = omega arith
runs_le words from to (r ∷ rs) a = omega (arith, runs_le words (from + r.pages) to rs a.2)

-- the runs that follow each other up to the end are those that are read
pub runs_only : (words : List ℕ) (from : ℕ) (rs : List Run) → AreRuns words from (length words) rs → runs_from words from ≡ rs
runs_only words from [] a = rw a (ap (read (length words) 0) (drop_of_length-le words (omega arith)))
runs_only words from (r ∷ rs) a =
    let some = a.1.some in
    let le = runs_le words (from + r.pages) (length words) rs a.2 in
    let tells : run_of from (get_or words from 0) ≡ r = subst (λ n. run_of n (get_or words n 0) ≡ r) a.0 (first_tells words r a.1) in
    runs_step words from (omega arith) (subst (λ (q : Run). 0 < q.pages) (sym tells) some) ∙ rw tells (ap (λ qs. r ∷ qs) (runs_only words (from + r.pages) rs a.2))

-- a page of a run leads to it
pub page_tells : (words : List ℕ) (r : Run) (k : ℕ) → IsRun words r → k < r.pages → run_of_page words (r.first + k) ≡ r
page_tells words r k i l = elim i.kept [
  | inl h ↦ header h.0 h.1 l
  | inr m ↦ marked k m l
]
  where
    header : r ≡ header_run r.first → get_or words r.first 0 ≡ 0 → k < r.pages → run_of_page words (r.first + k) ≡ r
    header e z l =
        let one : r.pages ≡ 1 = ap (λ q. q.pages) e in
        let same : r.first ≡ r.first + k = omega arith in
        subst (λ n. run_of_page words n ≡ r) same (rw (z, first_of_zero) (first_tells words r i))

    marked : (j : ℕ) → IsMarkedRun words r → j < r.pages → run_of_page words (r.first + j) ≡ r
    marked zero m l =
        let z : get_or words (r.first + 0) 0 ≡ word_in r 0 = m.marked 0 l in
        rw (z, add-zero, first_of_first r.first r.pages r.mark m.fields m.pages) (first_tells words r i)
    marked (suc j) m l =
        let z : get_or words (r.first + suc j) 0 ≡ word_in r (suc j) = m.marked (suc j) l in
        rw (z, first_of_later r.first (suc j) r.mark) (first_tells words r i)

-- Where the runs that follow each other have this one.
pub record Found (words : List ℕ) (from to : ℕ) (rs : List Run) (page : ℕ) (r : Run) : Type 0 where
  pub before : List Run
  pub after : List Run
  pub parts : rs ≡ before ++ r ∷ after
  pub is_run : IsRun words r
  pub low : r.first ≤ page
  pub high : page < r.first + r.pages
  pub front : AreRuns words from r.first before
  pub back : AreRuns words (r.first + r.pages) to after

pub found : (words : List ℕ) (from to : ℕ) (rs : List Run) (page : ℕ) → AreRuns words from to rs → from ≤ page → page < to → Found words from to rs page (run_of_page words page)
found words from to [] page a l h = absurd (omega arith)
found words from to (r ∷ rs) page a l h = elim (cases_lt page (from + r.pages)) [
  | inl n ↦ here n
  | inr n ↦ there (found words (from + r.pages) to rs page a.2 n h)
]
  where
    here : page < from + r.pages → Found words from to (r ∷ rs) page (run_of_page words page)
    here n =
        let e : page ≡ r.first + (page - r.first) = omega (arith, a.0) in
        let same : run_of_page words page ≡ r = rw e (page_tells words r (page - r.first) a.1 (omega (arith, a.0))) in
        let it : Found words from to (r ∷ rs) page r = record {
          before = [];
          after = rs;
          parts = refl;
          is_run = a.1;
          low = omega (arith, a.0);
          high = omega (arith, a.0);
          front = sym a.0;
          back = rw a.0 a.2;
        } in
        subst (Found words from to (r ∷ rs) page) (sym same) it

    there : Found words (from + r.pages) to rs page (run_of_page words page) → Found words from to (r ∷ rs) page (run_of_page words page)
    there f = record {
      before = r ∷ f.before;
      after = f.after;
      parts = ap (λ qs. r ∷ qs) f.parts;
      is_run = f.is_run;
      low = f.low;
      high = f.high;
      front = (a.0, a.1, f.front);
      back = f.back;
    }

pub and_right_false : (b : Bool) → (b && false) ≡ false
and_right_false true = refl
and_right_false false = refl

-- .. and finding it by a test
pub finds : (words : List ℕ) (from to : ℕ) (rs : List Run) (page : ℕ) → AreRuns words from to rs → from ≤ page → page < to → find (has_page page) rs ≡ Some (run_of_page words page)
finds words from to [] page a l h = absurd (omega arith)
finds words from to (r ∷ rs) page a l h = elim (cases_lt page (from + r.pages)) [
  | inl n ↦
      let e : page ≡ r.first + (page - r.first) = omega (arith, a.0) in
      let same : run_of_page words page ≡ r = rw e (page_tells words r (page - r.first) a.1 (omega (arith, a.0))) in
      let t : has_page page r ≡ true = and_from (leb r.first page) (ltb page (r.first + r.pages)) (le-leb r.first page (omega (arith, a.0))) (lt-ltb page (r.first + r.pages) (omega (arith, a.0))) in
      rw (t, same) refl
  | inr n ↦
      let t : has_page page r ≡ false = outside n in
      rw t (finds words (from + r.pages) to rs page a.2 n h)
]
  where
    outside : from + r.pages ≤ page → has_page page r ≡ false
    outside n =
        let z : ltb page (r.first + r.pages) ≡ false = le-ltb page (r.first + r.pages) (omega (arith, a.0)) in rw z (and_right_false (leb r.first page))

-- a run whose words stay
pub run_kept : (old new : List ℕ) (r : Run) → ((page : ℕ) → r.first ≤ page → page < r.first + r.pages → get_or new page 0 ≡ get_or old page 0) → IsRun old r → IsRun new r
run_kept old new r same i = record {
  some = i.some;
  kept = elim i.kept [
    | inl h ↦ inl (h.0, same r.first (omega arith) (omega (arith, i.some)) ∙ h.1)
    | inr m ↦ inr (record { mark = m.mark; fields = m.fields; pages = m.pages; marked = λ k l. same (r.first + k) (omega arith) (omega arith) ∙ m.marked k l })
  ];
}

pub runs_kept : (old new : List ℕ) (from to : ℕ) (rs : List Run) → ((page : ℕ) → from ≤ page → page < to → get_or new page 0 ≡ get_or old page 0) → AreRuns old from to rs → AreRuns new from to rs
runs_kept old new from to [] same a = a
runs_kept old new from to (r ∷ rs) same a =
    let le = runs_le old (from + r.pages) to rs a.2 in
    let one = run_kept old new r (λ page l h. same page (omega (arith, a.0)) (omega (arith, a.0, le))) a.1 in
    (a.0, one, runs_kept old new (from + r.pages) to rs (λ page l h. same page (omega arith) h) a.2)

pub runs_append : (words : List ℕ) (from mid to : ℕ) (xs ys : List Run) → AreRuns words from mid xs → AreRuns words mid to ys → AreRuns words from to (xs ++ ys)
runs_append words from mid to [] ys a b = rw a b
runs_append words from mid to (x ∷ xs) ys a b = (a.0, a.1, runs_append words (from + x.pages) mid to xs ys a.2 b)

distance_fits : (words : List ℕ) (r : Run) (k : ℕ) → IsRun words r → k < r.pages → get_or words (r.first + k) 0 / 8 % 2 ≡ 0 → get_or words (r.first + k) 0 / 256 ≤ r.first + k
distance_fits words r k i l even = elim i.kept [
  | inl h ↦
      let one : r.pages ≡ 1 = ap (λ q. q.pages) h.0 in
      let same : r.first ≡ r.first + k = omega arith in
      let z : get_or words (r.first + k) 0 ≡ 0 = subst (λ n. get_or words n 0 ≡ 0) same h.1 in
      omega (arith, z)
  | inr m ↦ marked k m l even
]
  where
    marked : (j : ℕ) → IsMarkedRun words r → j < r.pages → get_or words (r.first + j) 0 / 8 % 2 ≡ 0 → get_or words (r.first + j) 0 / 256 ≤ r.first + j
    marked zero m l even =
        let z : get_or words (r.first + 0) 0 ≡ first_word r.pages r.mark = m.marked 0 l in
        let one = first_is_first r.pages r.mark m.fields m.pages in
        let again : first_word r.pages r.mark / 8 % 2 ≡ 0 = subst (λ (w : ℕ). w / 8 % 2 ≡ 0) z even in
        absurd (omega arith)
    marked (suc j) m l even =
        let z : get_or words (r.first + suc j) 0 ≡ later_word (suc j) r.mark = m.marked (suc j) l in
        rw (z, later_distance (suc j) r.mark) (omega arith)

pub first_fits : (words : List ℕ) (page : ℕ) → IsWhole words → page < length words → get_or words page 0 / 8 % 2 ≡ 0 → get_or words page 0 / 256 ≤ page
first_fits words page w l even =
    let f = found words 0 (length words) (runs_of words) page w (omega arith) l in
    let r = run_of_page words page in
    let low = f.low in
    let high = f.high in
    let e : r.first + (page - r.first) ≡ page = omega arith in
    subst (λ n. get_or words n 0 / 256 ≤ n) e (distance_fits words r (page - r.first) f.is_run (omega arith) (rw e even))

pub finds_run : (words : List ℕ) (page : ℕ) → IsWhole words → page < length words → find (has_page page) (runs_of words) ≡ Some (run_of_page words page)
finds_run words page w l = finds words 0 (length words) (runs_of words) page w (omega arith) l

pub first_of_le : (page word : ℕ) → first_of page word ≤ page
first_of_le page word = elim (cases_Bool (eqb (word / 8 % 2) 1)) [
  | inl e ↦ rw e (omega arith)
  | inr e ↦ rw e (omega arith)
]

-- What is read at a page where a run begins.
pub record Step (words : List ℕ) (page : ℕ) (r : Run) : Type 0 where
  pub begins : r.first ≡ page
  pub is_run : IsRun words r
  pub read : runs_from words page ≡ r ∷ runs_from words (page + r.pages)
  pub rest : AreRuns words (page + r.pages) (length words) (runs_from words (page + r.pages))
  pub fits : page + r.pages ≤ length words

step_of : (words : List ℕ) (page : ℕ) (rs : List Run) → runs_from words page ≡ rs → AreRuns words page (length words) rs → page < length words → Step words page (run_of_page words page)
step_of words page [] e a l = absurd (omega arith)
step_of words page (r ∷ rs) e a l =
    let z : r.first + 0 ≡ page = omega (arith, a.0) in
    let tells : run_of_page words page ≡ r = subst (λ n. run_of_page words n ≡ r) z (page_tells words r 0 a.1 a.1.some) in
    let only = runs_only words (page + r.pages) rs a.2 in
    let it : Step words page r = record {
      begins = a.0;
      is_run = a.1;
      read = e ∙ ap (λ qs. r ∷ qs) (sym only);
      rest = rw only a.2;
      fits = runs_le words (page + r.pages) (length words) rs a.2;
    } in
    subst (Step words page) (sym tells) it

pub step_at : (words : List ℕ) (page : ℕ) (r : Run) → IsWhole words → AreRuns words page (length words) (runs_from words page) → page < length words → find (has_page page) (runs_of words) ≡ Some r → Step words page r
step_at words page r w a l f =
    let e : Some (run_of_page words page) ≡ Some r = sym (finds_run words page w l) ∙ f in
    let same : run_of_page words page ≡ r = cc in
    subst (Step words page) same (step_of words page (runs_from words page) refl a l)

-- The runs before and behind one of them.
pub record Parts (words : List ℕ) (from to : ℕ) (rs : List Run) (r : Run) : Type 0 where
  pub before : List Run
  pub after : List Run
  pub parts : rs ≡ before ++ r ∷ after
  pub is_run : IsRun words r
  pub front : AreRuns words from r.first before
  pub back : AreRuns words (r.first + r.pages) to after

pub parts_of : (words : List ℕ) (from to : ℕ) (rs : List Run) (test : Run → Bool) (r : Run) → AreRuns words from to rs → find test rs ≡ Some r → Parts words from to rs r
parts_of words from to [] test r a f = absurd (let no : ⊥ = cc in no)
parts_of words from to (q ∷ qs) test r a f = elim (cases_Bool (test q)) [
  | inl e ↦ here (rw e at f)
  | inr e ↦ there (parts_of words (from + q.pages) to qs test r a.2 (rw e at f))
]
  where
    here : Some q ≡ Some r → Parts words from to (q ∷ qs) r
    here e =
        let same : q ≡ r = cc in
        let it : Parts words from to (q ∷ qs) q = record { before = []; after = qs; parts = refl; is_run = a.1; front = sym a.0; back = rw a.0 a.2 } in
        subst (Parts words from to (q ∷ qs)) same it

    there : Parts words (from + q.pages) to qs r → Parts words from to (q ∷ qs) r
    there p = record { before = q ∷ p.before; after = p.after; parts = ap (λ xs. q ∷ xs) p.parts; is_run = p.is_run; front = (a.0, a.1, p.front); back = p.back }
