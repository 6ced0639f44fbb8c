-- The pages at which free runs begin, and the runs that words tell.
use Rattle.std.proofs.Common.{◌≡◌, ℕ, suc, zero, ◌+◌, ◌-◌, ◌*◌, ◌/◌, ◌%◌, ◌<◌, ◌≤◌, ◌⊎◌, inl, inr, Bool, true, false, refl, ap, sym, ◌∙◌, arith, subst, List, [], ◌∷◌, length, get_or, Some, None, eqb, leb, ltb, min, replicate, add-zero}
use Rattle.std.specs.List.{AllByRecursion, find}
use Rattle.std.proofs.lemmas.Bool.{cases_lt, cases_Bool, le-ltb, le-leb, lt-leb, leb-true, and_parts}
use Rattle.std.proofs.lemmas.List.{get_or_past, get_or-replicate, length-replicate}
use Rattle.std.proofs.lemmas.Nat.Bits.{bit_at-zero}
use Rattle.heap_model.specs.declared.Kind.TheVariants as kinds
use Rattle.heap_model.specs.declared.Run as real
use Rattle.heap_model.specs.Runs.{Run, fitting}
use Rattle.page_ranges.specs.Words.{run_of, run_of_page, runs_of, later_word, word_in}
use Rattle.page_ranges.specs.Ranges.{IsRun, IsMarked, IsMarkedRun, AreRuns, IsWhole, has_page}
use Rattle.page_ranges.specs.Spans.{is_of_free, frees_in, plain}
use Rattle.page_ranges.proofs.Decode.{kind_small, first_is_first}
use Rattle.page_ranges.proofs.Runs.{first_tells, page_tells, finds_run, parts_of, runs_le, and_right_false}
use Rattle.backend_fit.specs.Pages.{Pages}
use Rattle.backend_fit.specs.Sound.{AreSound}
use Rattle.backend_fit.specs.Bits.{has, HasNone, IsFirstIn}
use Rattle.backend_fit.specs.Starts.{begins_free, AreStarts, is_free_from}
use Rattle.backend_fit.proofs.Segment.{header_word}

---- The words of a run

abbrev at_page : List ℕ → ℕ → Bool
at_page words page = begins_free page (get_or words page 0)

-- its first page tells whether it is free
pub run_begins : (words : List ℕ) (r : real.Run) → IsRun words r → at_page words r.first ≡ is_of_free r.mark.kind
run_begins words r i = elim i.kept [
  | inl h ↦
      let kind : r.mark.kind ≡ kinds.Header = ap (λ (q : real.Run). q.mark.kind) h.0 in
      rw (h.1, kind) refl
  | inr m ↦
      let w : get_or words (r.first + 0) 0 ≡ word_in r 0 = m.marked 0 i.some in
      let word = rw add-zero at w in
      let one = first_is_first r.pages r.mark m.fields m.pages in
      let first : eqb (get_or words r.first 0 / 8 % 2) 1 ≡ true = rw (word, one) refl in
      let tells = first_tells words r i in
      rw first (ap (λ (q : real.Run). is_of_free q.mark.kind) tells)
]

-- no other page of it tells one
pub run_goes_on : (words : List ℕ) (r : real.Run) (k : ℕ) → IsRun words r → 0 < k → k < r.pages → at_page words (r.first + k) ≡ false
run_goes_on words r k i some l = elim i.kept [
  | inl h ↦ let one : r.pages ≡ 1 = ap (λ (q : real.Run). q.pages) h.0 in absurd (omega arith)
  | inr m ↦ later k some l m
]
  where
    later : (j : ℕ) → 0 < j → j < r.pages → IsMarkedRun words r → at_page words (r.first + j) ≡ false
    later zero some l m = absurd (omega arith)
    later (suc j) some l m =
        let w : get_or words (r.first + suc j) 0 ≡ later_word (suc j) r.mark = m.marked (suc j) l in
        let small = kind_small r.mark.kind in
        let even : later_word (suc j) r.mark / 8 % 2 ≡ 0 = omega arith in
        rw (w, even) refl

pub run_pages : (words : List ℕ) (r : real.Run) → IsRun words r → (run_of r.first (get_or words r.first 0)).pages ≡ r.pages
run_pages words r i = ap (λ (q : real.Run). q.pages) (first_tells words r i)

---- Where a run was marked

module _ (old new starts noted : List ℕ) (longest most : ℕ) (r : real.Run) (s : AreStarts starts longest old) (i : IsMarked old new r)
    (first : has noted r.first ≡ is_of_free r.mark.kind)
    (rest : (page : ℕ) → r.first < page → page < r.first + r.pages → has noted page ≡ false)
    (others : (page : ℕ) → (page < r.first) ⊎ (r.first + r.pages ≤ page) → has noted page ≡ has starts page)
    (more : longest ≤ most) (free : is_of_free r.mark.kind ≡ true → r.pages ≤ most) where
  same_there : (page : ℕ) → (page < r.first) ⊎ (r.first + r.pages ≤ page) → get_or new page 0 ≡ get_or old page 0
  same_there page l = i.others page l

  each_outside : (page : ℕ) → (page < r.first) ⊎ (r.first + r.pages ≤ page) → has noted page ≡ at_page new page
  each_outside page l = rw (same_there page l) (others page l ∙ s.each page)

  most_outside : (page : ℕ) → (page < r.first) ⊎ (r.first + r.pages ≤ page) → at_page new page ≡ true → (run_of page (get_or new page 0)).pages ≤ most
  most_outside page l b =
      let w = same_there page l in
      let before : at_page old page ≡ true = rw w at b in
      let few = s.most page before in
      rw w (omega (arith, few))

  each_inside : (k : ℕ) → k < r.pages → has noted (r.first + k) ≡ at_page new (r.first + k)
  each_inside zero l = rw add-zero (first ∙ sym (run_begins new r i.run))
  each_inside (suc k) l = rest (r.first + suc k) (omega arith) (omega arith) ∙ sym (run_goes_on new r (suc k) i.run (omega arith) l)

  most_inside : (k : ℕ) → k < r.pages → at_page new (r.first + k) ≡ true → (run_of (r.first + k) (get_or new (r.first + k) 0)).pages ≤ most
  most_inside zero l b =
      let b' = rw add-zero at b in
      let f : is_of_free r.mark.kind ≡ true = sym (run_begins new r i.run) ∙ b' in
      rw add-zero (rw (run_pages new r i.run) (free f))
  most_inside (suc k) l b =
      let no : true ≡ false = sym b ∙ run_goes_on new r (suc k) i.run (omega arith) l in
      absurd (let x : ⊥ = cc in x)

  pub marked_starts : AreStarts noted most new
  marked_starts = record {
    each = λ page. each page (cases_lt page r.first) (cases_lt page (r.first + r.pages));
    most = λ page. few page (cases_lt page r.first) (cases_lt page (r.first + r.pages));
  }
    where
      each : (page : ℕ) → (page < r.first) ⊎ (r.first ≤ page) → (page < r.first + r.pages) ⊎ (r.first + r.pages ≤ page) → has noted page ≡ at_page new page
      each page (inl l) h = each_outside page (inl l)
      each page (inr l) (inr h) = each_outside page (inr h)
      each page (inr l) (inl h) =
          let e : r.first + (page - r.first) ≡ page = omega arith in
          subst (λ (p : ℕ). has noted p ≡ at_page new p) e (each_inside (page - r.first) (omega arith))

      few : (page : ℕ) → (page < r.first) ⊎ (r.first ≤ page) → (page < r.first + r.pages) ⊎ (r.first + r.pages ≤ page) → at_page new page ≡ true → (run_of page (get_or new page 0)).pages ≤ most
      few page (inl l) h = most_outside page (inl l)
      few page (inr l) (inr h) = most_outside page (inr h)
      few page (inr l) (inl h) =
          let e : r.first + (page - r.first) ≡ page = omega arith in
          subst (λ (p : ℕ). at_page new p ≡ true → (run_of p (get_or new p 0)).pages ≤ most) e (most_inside (page - r.first) (omega arith))

---- The next free run

pub passes : (test : real.Run → Bool) (rs : List real.Run) (r : real.Run) → find test rs ≡ Some r → test r ≡ true
passes test [] r f = absurd (let x : ⊥ = cc in x)
passes test (q ∷ qs) r f = elim (cases_Bool (test q)) [
  | inl e ↦ let is : Some q ≡ Some r = rw e at f in let same : q ≡ r = cc in ap test (sym same) ∙ e
  | inr e ↦ passes test qs r (rw e at f)
]

-- what is told of the pages of the set is told of the words
told_none : (starts : List ℕ) (longest : ℕ) (words : List ℕ) (from to : ℕ) → AreStarts starts longest words → HasNone starts from to → (page : ℕ) → from ≤ page → page < to → at_page words page ≡ false
told_none starts longest words from to s none page l h = sym (s.each page) ∙ none page l h

-- a run in front of all free ones is not what is looked for
not_from : (words : List ℕ) (from to : ℕ) (r : real.Run) → IsRun words r → ((page : ℕ) → from ≤ page → page < to → at_page words page ≡ false) → r.first < to → is_free_from from r ≡ false
not_from words from to r i none l = elim (cases_lt r.first from) [
  | inl h ↦ let t : leb from r.first ≡ false = lt-leb from r.first h in rw t refl
  | inr h ↦ let f : is_of_free r.mark.kind ≡ false = sym (run_begins words r i) ∙ none r.first h l in rw f (and_right_false (leb from r.first))
]

pub none_found : (words : List ℕ) (from at : ℕ) (rs : List real.Run) → AreRuns words at (length words) rs → ((page : ℕ) → from ≤ page → page < length words → at_page words page ≡ false)
    → find (is_free_from from) rs ≡ None
none_found words from at [] a none = refl
none_found words from at (r ∷ rs) a none =
    let inside : r.first < length words = omega (arith, a.0, a.1.some, runs_le words (at + r.pages) (length words) rs a.2) in
    rw (not_from words from (length words) r a.1 none inside) (none_found words from (at + r.pages) rs a.2 none)

module _ (words : List ℕ) (from page : ℕ) (none : (p : ℕ) → from ≤ p → p < page → at_page words p ≡ false) (l : from ≤ page) (h : page < length words) (b : at_page words page ≡ true) where
  pub next_found : (at : ℕ) (rs : List real.Run) → AreRuns words at (length words) rs → at ≤ page → find (is_free_from from) rs ≡ Some (run_of_page words page)
  next_found at [] a le = absurd (omega (arith, a))
  next_found at (r ∷ rs) a le = elim (cases_lt page (at + r.pages)) [
    | inl n ↦ here (page - r.first) (omega (arith, a.0)) (omega (arith, a.0))
    | inr n ↦
        let some = a.1.some in
        rw (not_from words from page r a.1 none (omega (arith, a.0))) (next_found (at + r.pages) rs a.2 n)
  ]
    where
      here : (k : ℕ) → page ≡ r.first + k → k < r.pages → find (is_free_from from) (r ∷ rs) ≡ Some (run_of_page words page)
      here zero e n =
          let same : r.first ≡ page = omega arith in
          let tells : run_of_page words page ≡ r = rw e (page_tells words r 0 a.1 n) in
          let f : is_of_free r.mark.kind ≡ true = sym (run_begins words r a.1) ∙ rw same b in
          let t : leb from r.first ≡ true = le-leb from r.first (omega arith) in
          rw (t, f) (ap Some (sym tells))
      here (suc k) e n =
          let no : true ≡ false = sym b ∙ rw e (run_goes_on words r (suc k) a.1 (omega arith) n) in
          absurd (let x : ⊥ = cc in x)

---- The longest free run

pub all_short : (starts : List ℕ) (longest : ℕ) (words : List ℕ) (at to : ℕ) (rs : List real.Run) → AreStarts starts longest words → AreRuns words at to rs → AllByRecursion (λ (q : Run). q.count ≤ longest) (frees_in rs)
all_short starts longest words at to [] s a = tt
all_short starts longest words at to (r ∷ rs) s a =
    let again = all_short starts longest words (at + r.pages) to rs s a.2 in
    elim (cases_Bool (is_of_free r.mark.kind)) [
      | inl e ↦
          let few = s.most r.first (run_begins words r a.1 ∙ e) in
          let pages = run_pages words r a.1 in
          rw e (omega (arith, few, pages), again)
      | inr e ↦ rw e again
    ]

-- so none fits a longer request
pub none_fits : (longest n : ℕ) (qs : List Run) → longest < n → AllByRecursion (λ (q : Run). q.count ≤ longest) qs → fitting n qs ≡ []
none_fits longest n [] l a = refl
none_fits longest n (q ∷ qs) l a = let t : leb n q.count ≡ false = lt-leb n q.count (omega (arith, a.0)) in rw t (none_fits longest n qs l a.1)

-- where none fits, each free run is shorter
pub fewer : (words : List ℕ) (n page at to : ℕ) (rs : List real.Run) → AreRuns words at to rs → fitting n (frees_in rs) ≡ [] → at ≤ page → page < to → at_page words page ≡ true → (run_of page (get_or words page 0)).pages < n
fewer words n page at to [] a none l h b = absurd (omega (arith, a))
fewer words n page at to (r ∷ rs) a none l h b = elim (cases_lt page (at + r.pages)) [
  | inl m ↦ here (page - r.first) (omega (arith, a.0)) (omega (arith, a.0))
  | inr m ↦ fewer words n page (at + r.pages) to rs a.2 (behind (cases_Bool (is_of_free r.mark.kind)) (cases_Bool (leb n r.pages))) m h b
]
  where
    behind : (is_of_free r.mark.kind ≡ true) ⊎ (is_of_free r.mark.kind ≡ false) → (leb n r.pages ≡ true) ⊎ (leb n r.pages ≡ false) → fitting n (frees_in rs) ≡ []
    behind (inr e) x = rw e at none
    behind (inl e) (inr f) = rw f at (rw e at none)
    behind (inl e) (inl f) = let no : plain r ∷ fitting n (frees_in rs) ≡ [] = rw f at (rw e at none) in absurd (let x : ⊥ = cc in x)

    here : (k : ℕ) → page ≡ r.first + k → k < r.pages → (run_of page (get_or words page 0)).pages < n
    here zero e m =
        let same : r.first ≡ page = omega arith in
        let f : is_of_free r.mark.kind ≡ true = sym (run_begins words r a.1) ∙ rw same b in
        let pages : (run_of page (get_or words page 0)).pages ≡ r.pages = rw (← same) (run_pages words r a.1) in
        elim (cases_lt r.pages n) [
          | inl z ↦ omega arith
          | inr z ↦
              let t = le-leb n r.pages z in
              let no : plain r ∷ fitting n (frees_in rs) ≡ [] = rw t at (rw f at none) in
              absurd (let x : ⊥ = cc in x)
        ]
    here (suc k) e m =
        let no : true ≡ false = sym b ∙ rw e (run_goes_on words r (suc k) a.1 (omega arith) m) in
        absurd (let x : ⊥ = cc in x)

-- the words of a segment that is not open tell no run
pub outside_none : (words : List ℕ) (page : ℕ) → length words ≤ page → at_page words page ≡ false
outside_none words page l = rw (get_or_past words page 0 l) refl

---- What the calls of the descriptors need

pub fresh_starts : (n : ℕ) → AreStarts (replicate 64 0) 0 (replicate n 0)
fresh_starts n = record {
  each = λ page. rw (all_zero 64 (page / 64), all_zero n page, bit_at-zero (page % 64)) refl;
  most = λ page b. let no : true ≡ false = sym b ∙ rw (all_zero n page) refl in absurd (let x : ⊥ = cc in x);
}
  where
    all_zero : (m k : ℕ) → ◌≡◌ {A = ℕ} (get_or (replicate m 0) k 0) 0
    all_zero m k = elim (cases_lt k m) [
      | inl l ↦ get_or-replicate m k 0 0 l
      | inr l ↦ get_or_past (replicate m 0) k 0 (omega (arith, length-replicate {A = ℕ} m 0))
    ]

module _ (starts : List ℕ) (longest : ℕ) (words : List ℕ) (s : AreStarts starts longest words) (w : IsWhole words) where
  module _ (to : ℕ) (inside : to ≤ length words) (behind : (page : ℕ) → to ≤ page → at_page words page ≡ false) where
    pub no_next : (from : ℕ) → HasNone starts from to → find (is_free_from from) (runs_of words) ≡ None
    no_next from none = none_found words from 0 (runs_of words) w each
      where
        each : (page : ℕ) → from ≤ page → page < length words → at_page words page ≡ false
        each page l h = elim (cases_lt page to) [ inl n ↦ told_none starts longest words from to s none page l n | inr n ↦ behind page n ]

    pub next_is : (from page : ℕ) (r : real.Run) → IsFirstIn starts from to page → find (has_page page) (runs_of words) ≡ Some r → Some r ≡ find (is_free_from from) (runs_of words)
    next_is from page r f at =
        let b : at_page words page ≡ true = sym (s.each page) ∙ f.there in
        let high = f.high in
        let l : page < length words = omega arith in
        let is : Some r ≡ Some (run_of_page words page) = sym at ∙ finds_run words page w l in
        is ∙ sym (next_found words from page (told_none starts longest words from page s f.first) f.low l b 0 (runs_of words) w (omega arith))

  pub none_longer : AllByRecursion (λ (q : Run). q.count ≤ longest) (frees_in (runs_of words))
  none_longer = all_short starts longest words 0 (length words) (runs_of words) s w

  pub shorter : (n most : ℕ) → 0 < n → fitting n (frees_in (runs_of words)) ≡ [] → most ≡ min longest (n - 1) → AreStarts starts most words
  shorter n most some none e = record { each = s.each; most = few }
    where
      few : (page : ℕ) → at_page words page ≡ true → (run_of page (get_or words page 0)).pages ≤ most
      few page b = elim (cases_lt page (length words)) [
        | inl l ↦
            let less = fewer words n page 0 (length words) (runs_of words) w none (omega arith) l b in
            let old = s.most page b in
            grind (arith, e, less, old, some)
        | inr l ↦ let no : true ≡ false = sym b ∙ outside_none words page l in absurd (let x : ⊥ = cc in x)
      ]

-- What is known of the next free run.
pub record IsNext (words : List ℕ) (from : ℕ) (r : real.Run) : Type 0 where
  pub low : from ≤ r.first
  pub some : 0 < r.pages
  pub inside : r.first + r.pages ≤ length words

pub next_inside : (words : List ℕ) (from : ℕ) (r : real.Run) → IsWhole words → find (is_free_from from) (runs_of words) ≡ Some r → IsNext words from r
next_inside words from r w f =
    let p = parts_of words 0 (length words) (runs_of words) (is_free_from from) r w f in
    let t = passes (is_free_from from) (runs_of words) r f in
    record {
      low = leb-true from r.first (and_parts (leb from r.first) (is_of_free r.mark.kind) t).0;
      some = p.is_run.some;
      inside = runs_le words (r.first + r.pages) (length words) p.after p.back;
    }

-- no free run begins behind the reserved segments
pub behind_none : (k : Pages) → AreSound k → (page : ℕ) → 256 * k.region.reserved ≤ page → at_page k.words page ≡ false
behind_none k s page l = elim (cases_lt page (length k.words)) [
  | inl h ↦
      let out : ltb (page / 256) k.region.reserved ≡ false = le-ltb (page / 256) k.region.reserved (omega arith) in
      let word = header_word k s page h (rw out refl) in
      rw word refl
  | inr h ↦ outside_none k.words page h
]
