-- What marking a run, and opening a segment, leave as it was.
use Rattle.std.proofs.Common.{◌≡◌, ℕ, zero, suc, ◌+◌, ◌-◌, ◌*◌, ◌/◌, ◌%◌, ◌<◌, ◌≤◌, ◌⊎◌, inl, inr, true, false, not, refl, ap, ◌∙◌, sym, arith, subst, List, [], ◌∷◌, ◌++◌, length, take, drop, get_or, eqb, leb, ne_eqb}
use Rattle.std.proofs.lemmas.Bool.{le-leb, cases_lt, cases_eq, and_from}
use Rattle.heap_model.specs.declared.Run.{Run}
use Rattle.page_ranges.specs.Words.{header_run, word_in, run_of_page, runs_of}
use Rattle.page_ranges.specs.Ranges.{is_open, is_behind_header, IsHeadered, IsInSegment, IsRun, AreRuns, IsWhole, IsMarked, opened_runs}
use Rattle.heap_model.specs.Marks.{free_mark}
use Rattle.page_ranges.proofs.Decode.{first_of_zero}
use Rattle.page_ranges.proofs.Runs.{runs_only, runs_kept, runs_append, found}

-- words that were lent and written back
pub lent : (n : ℕ) (new old : List ℕ) → n ≡ length new → take n (new ++ drop (length new) old) ≡ new
lent n new old e = rw e (take_front new (drop (length new) old))
  where
    take_front : (xs ys : List ℕ) → take (length xs) (xs ++ ys) ≡ xs
    take_front [] ys = refl
    take_front (x ∷ xs) ys = ap (λ zs. x ∷ zs) (take_front xs ys)

-- no word of a run is 0
word_some : (r : Run) (k : ℕ) → eqb (word_in r k) 0 ≡ false
word_some r zero = ne_eqb (word_in r zero) 0 (λ e. omega arith)
word_some r (suc k) = ne_eqb (word_in r (suc k)) 0 (λ e. omega arith)

open_from : (words : List ℕ) (segment : ℕ) → eqb (get_or words (256 * segment + 2) 0) 0 ≡ false → is_open words segment ≡ true
open_from words segment e = rw e refl

module _ (old new : List ℕ) (r : Run) (i : IsInSegment old r.first r.pages) (m : IsMarked old new r) where
  -- the word of a page of the run
  page_some : (page : ℕ) → r.first ≤ page → page < r.first + r.pages → eqb (get_or new page 0) 0 ≡ false
  page_some page l h =
      let e : r.first + (page - r.first) ≡ page = omega arith in
      let w : get_or new page 0 ≡ word_in r (page - r.first) = subst (λ n. get_or new n 0 ≡ word_in r (page - r.first)) e (m.marked (page - r.first) (omega arith)) in
      rw w (word_some r (page - r.first))

  pub same_open : (segment : ℕ) → is_open new segment ≡ is_open old segment
  same_open segment = elim (cases_lt (256 * segment + 2) r.first) [
    | inl l ↦ ap (λ w. not (eqb w 0)) (m.others (256 * segment + 2) (inl l))
    | inr l ↦ elim (cases_lt (256 * segment + 2) (r.first + r.pages)) [
      | inl h ↦
          let behind = i.behind in
          let below = i.below in
          let e : r.first / 256 ≡ segment = omega arith in
          let o : is_open old segment ≡ true = subst (λ s. is_open old s ≡ true) e i.open_one in
          open_from new segment (page_some (256 * segment + 2) l h) ∙ sym o
      | inr h ↦ ap (λ w. not (eqb w 0)) (m.others (256 * segment + 2) (inr h))
    ]
  ]

  pub marked_headered : IsHeadered old → IsHeadered new
  marked_headered h = record { few = omega (arith, h.few, m.same_length); segments = rw m.same_length h.segments; zeros = λ page e. zero_at page (rw same_open at e) }
    where
      zero_at : (page : ℕ) → is_behind_header old page ≡ false → get_or new page 0 ≡ 0
      zero_at page e = elim (cases_lt page r.first) [
        | inl l ↦ m.others page (inl l) ∙ h.zeros page e
        | inr l ↦ elim (cases_lt page (r.first + r.pages)) [
          | inl k ↦
              let behind = i.behind in
              let below = i.below in
              let s : r.first / 256 ≡ page / 256 = omega arith in
              let o : is_open old (page / 256) ≡ true = subst (λ n. is_open old n ≡ true) s i.open_one in
              let t : is_behind_header old page ≡ true = and_from (is_open old (page / 256)) (leb 2 (page % 256)) o (le-leb 2 (page % 256) (omega arith)) in
              absurd (let no : true ≡ false = sym t ∙ e in let x : ⊥ = cc in x)
          | inr k ↦ m.others page (inr k) ∙ h.zeros page e
        ]
      ]

---- A segment that is opened

-- words that runs tile are whole
pub whole_from : (words : List ℕ) (rs : List Run) → AreRuns words 0 (length words) rs → IsWhole words
whole_from words rs a = subst (λ (qs : List Run). AreRuns words 0 (length words) qs) (sym (runs_only words 0 rs a)) a

pub header_at : (words : List ℕ) (page : ℕ) → get_or words page 0 ≡ 0 → run_of_page words page ≡ header_run page
header_at words page z = rw (z, first_of_zero, z) refl

header_is : (words : List ℕ) (page : ℕ) → get_or words page 0 ≡ 0 → IsRun words (header_run page)
header_is words page z = record { some = omega arith; kept = inl (refl, z) }

module _ (old new : List ℕ) (segment : ℕ) (h : IsHeadered old) (inside : 256 * segment + 256 ≤ length old) (closed : is_open old segment ≡ false)
    (m : IsMarked old new (record { first = 256 * segment + 2; pages = 254; mark = free_mark })) where
  abbrev free : Run
  free = record { first = 256 * segment + 2; pages = 254; mark = free_mark }

  zero_before : (page : ℕ) → page / 256 ≡ segment → get_or old page 0 ≡ 0
  zero_before page e = h.zeros page (rw (e, closed) refl)

  pub open_now : is_open new segment ≡ true
  open_now =
      let w : get_or new (256 * segment + 2 + 0) 0 ≡ word_in free 0 = m.marked 0 (omega arith) in
      let e : 256 * segment + 2 + 0 ≡ 256 * segment + 2 = omega arith in
      open_from new segment (rw (rw e at w) (word_some free 0))

  pub open_others : (other : ℕ) → (other ≡ segment → ⊥) → is_open new other ≡ is_open old other
  open_others other ne = elim (cases_lt other segment) [
    | inl l ↦ ap (λ w. not (eqb w 0)) (m.others (256 * other + 2) (inl (omega arith)))
    | inr l ↦
        let g : segment < other = omega arith in
        ap (λ w. not (eqb w 0)) (m.others (256 * other + 2) (inr (omega arith)))
  ]

  pub opened_headered : IsHeadered new
  opened_headered = record { few = omega (arith, h.few, m.same_length); segments = rw m.same_length h.segments; zeros = zero_at }
    where
      zero_at : (page : ℕ) → is_behind_header new page ≡ false → get_or new page 0 ≡ 0
      zero_at page e = elim (cases_eq (page / 256) segment) [
        | inl s ↦
            let o : is_open new (page / 256) ≡ true = rw s open_now in
            let b : leb 2 (page % 256) ≡ false = rw o at e in
            m.others page (inl (header_page page s b)) ∙ zero_before page s
        | inr s ↦
            let e' : is_behind_header old page ≡ false = rw (open_others (page / 256) s) at e in
            m.others page (beside page s) ∙ h.zeros page e'
      ]
        where
          header_page : (page : ℕ) → page / 256 ≡ segment → leb 2 (page % 256) ≡ false → page < 256 * segment + 2
          header_page page s b = elim (cases_lt page (256 * segment + 2)) [
            | inl l ↦ l
            | inr l ↦
                let t : leb 2 (page % 256) ≡ true = le-leb 2 (page % 256) (omega arith) in
                absurd (let no : true ≡ false = sym t ∙ b in let x : ⊥ = cc in x)
          ]

          beside : (page : ℕ) → (page / 256 ≡ segment → ⊥) → (page < 256 * segment + 2) ⊎ (256 * segment + 2 + 254 ≤ page)
          beside page s = elim (cases_lt page (256 * segment + 2)) [
            | inl l ↦ inl l
            | inr l ↦ inr (omega arith)
          ]

  pub opened_segment : AreRuns new (256 * segment) (256 * segment + 256) (opened_runs segment)
  opened_segment =
      let a : get_or new (256 * segment) 0 ≡ 0 = m.others (256 * segment) (inl (omega arith)) ∙ zero_before (256 * segment) (omega arith) in
      let b : get_or new (256 * segment + 1) 0 ≡ 0 = m.others (256 * segment + 1) (inl (omega arith)) ∙ zero_before (256 * segment + 1) (omega arith) in
      (refl, header_is new (256 * segment) a, (refl, header_is new (256 * segment + 1) b, (omega arith, m.run, omega arith)))

  pub opened_whole : IsWhole old → IsWhole new
  opened_whole w =
      let low = 256 * segment in
      let high = 256 * segment + 255 in
      let f = found old 0 (length old) (runs_of old) low w (omega arith) (omega arith) in
      let g = found old 0 (length old) (runs_of old) high w (omega arith) (omega arith) in
      let front : AreRuns old 0 low f.before = subst (λ (r : Run). AreRuns old 0 r.first f.before) (header_at old low (zero_before low (omega arith))) f.front in
      let back : AreRuns old (high + 1) (length old) g.after = subst (λ (r : Run). AreRuns old (r.first + r.pages) (length old) g.after) (header_at old high (zero_before high (omega arith))) g.back in
      let e : high + 1 ≡ low + 256 = omega arith in
      let behind : AreRuns new (low + 256) (length new) g.after =
      rw m.same_length (runs_kept old new (low + 256) (length old) g.after (λ page x y. m.others page (inr (omega arith))) (subst (λ n. AreRuns old n (length old) g.after) e back)) in
      whole_from new (f.before ++ (opened_runs segment ++ g.after))
      (runs_append new 0 low (length new) f.before (opened_runs segment ++ g.after) (runs_kept old new 0 low f.before (λ page x y. m.others page (inl (omega arith))) front)
      (runs_append new low (low + 256) (length new) (opened_runs segment) g.after opened_segment behind))
