-- Pages that lose their commitment one after another.
use Rattle.std.proofs.Common.{◌≡◌, ◌≢◌, ℕ, zero, suc, ◌+◌, ◌-◌, ◌*◌, ◌/◌, ◌%◌, ◌≤◌, ◌==◌, Bool, true, false, cond, ◌&&◌, not, List, [], ◌∷◌, ◌++◌, map, length, Some, None, refl, sym, ap, ◌∙◌, subst, arith, inl, inr, leb, ltb, zero-add}
use Rattle.std.specs.Prelude.{filter}
use Rattle.std.specs.List.{find, list_any}
use Rattle.std.proofs.Math.Path.{fun_ext}
use Rattle.std.proofs.lemmas.Bool.{cases_Bool, cases_lt, and_parts, eqb-true, eqb-false, lt-ltb, le-ltb, ltb-true, leb-true}
use Rattle.std.proofs.lemmas.List.{map-append}
use Rattle.std.proofs.lemmas.List.Elements.{filter-append}
use Rattle.heap_model.specs.declared.Act.TheVariants as acts
use Rattle.heap_model.specs.declared.Run.{Run}
use Rattle.heap_model.specs.State.{Area, updated}
use Rattle.heap_model.specs.Backend.{numbers, in_span, is_usable, is_free}
use Rattle.heap_model.specs.Shape.{loose_pages}
use Rattle.heap_soundness.proofs.Lists.{found_in, found_passes, all_at}
use Rattle.page_ranges.specs.Words.{runs_of}
use Rattle.page_ranges.specs.Ranges.{has_page}
use Rattle.page_ranges.specs.Spans.{is_of_free}
use Rattle.page_ranges.proofs.FreeRuns.{IsTested, free_tested}
use Rattle.page_ranges.proofs.Runs.{finds_run}
use Rattle.backend_fit.specs.Effects.{is_idle, decommitted}
use Rattle.backend_fit.specs.Kept.{Kept, area_of, spans_of, places_in, layer_of, is_block_run}
use Rattle.backend_fit.specs.Sound.{IsSound}
use Rattle.compact_calls.specs.Pages.{is_loose, loose_among, loose_below, decommits, swept, layer_swept}

---- Free pages, by their runs

module _ (k : Kept) (page : ℕ) (sound : IsSound k) where
  pub idle_run : (r : Run) → Some r ≡ cond (is_usable (area_of k) page) (find (has_page page) (runs_of k.words)) None → is_free (area_of k) page ≡ is_of_free r.mark.kind
  idle_run r e = elim (cases_Bool (is_usable (area_of k) page)) [
    | inr u ↦ let z : Some r ≡ None = (rw u at e) in absurd (let no : ⊥ = cc (z) in no)
    | inl u ↦
        let f : Some r ≡ find (has_page page) (runs_of k.words) = (rw u at e) in
        let there = found_in (has_page page) (runs_of k.words) r (sym f) in
        let has = and_parts (leb r.first page) (ltb page (r.first + r.pages)) (found_passes (has_page page) (runs_of k.words) r (sym f)) in
        let low = leb-true r.first page has.0 in
        let high = ltb-true page (r.first + r.pages) has.1 in
        let all = free_tested (area_of k) k.words 0 (length k.words) (runs_of k.words) (λ p l. refl) sound.whole sound.used in
        let is : r.first + (page - r.first) ≡ page = omega (arith, low) in
        subst (λ (x : ℕ). is_free (area_of k) x ≡ is_of_free r.mark.kind) is (all_at (IsTested (is_free (area_of k))) r (runs_of k.words) all there (page - r.first) (omega (arith, low, high)))
  ]

  pub idle_none : None ≡ cond (is_usable (area_of k) page) (find (has_page page) (runs_of k.words)) None → is_free (area_of k) page ≡ false
  idle_none e = elim (cases_Bool (is_usable (area_of k) page)) [
    | inr u ↦ rw u refl
    | inl u ↦
        let below = ltb-true (page / 256) (area_of k).reserved (and_parts (ltb (page / 256) (area_of k).reserved) (leb 2 (page % 256)) u).0 in
        let few = sound.held.reserved in
        let len = sound.pages in
        let f : None ≡ find (has_page page) (runs_of k.words) = (rw u at e) in
        let z = f ∙ finds_run k.words page sound.whole (omega (arith, below, few, len)) in
        absurd (let no : ⊥ = cc (z) in no)
  ]

---- Loose pages

-- a committed page that may be used is loose where it is free
pub loose_is_idle : (a : Area) (page : ℕ) → (a.committed page ≡ true → is_usable a page ≡ true) → is_idle a page ≡ is_loose a page
loose_is_idle a page u = elim (cases_Bool (a.committed page)) [
  | inr e ↦ rw e refl
  | inl e ↦ let h = u e in rw (e, h) refl
]

pub numbers-more : (at n : ℕ) → numbers at (n + 1) ≡ numbers at n ++ (at + n) ∷ []
numbers-more at zero = let e : at + 0 ≡ at = omega arith in rw e refl
numbers-more at (suc n) =
    let e : suc n + 1 ≡ suc (n + 1) = omega arith in
    let f : at + 1 + n ≡ at + suc n = omega arith in
    ap (numbers at) e ∙ (ap (λ (l : List ℕ). at ∷ l) (numbers-more (at + 1) n) ∙ ap (λ (x : ℕ). at ∷ (numbers (at + 1) n ++ x ∷ [])) f)

pub below_more : (a : Area) (page : ℕ) → loose_below a (page + 1) ≡ loose_below a page ++ loose_among a (page ∷ [])
below_more a page =
    ap (loose_among a) (numbers-more 0 page ∙ ap (λ (x : ℕ). numbers 0 page ++ x ∷ []) (zero-add page)) ∙ filter-append (is_loose a) (numbers 0 page) (page ∷ [])

pub decommits_more : (a : Area) (page : ℕ) → decommits (loose_below a (page + 1)) ≡ decommits (loose_below a page) ++ decommits (loose_among a (page ∷ []))
decommits_more a page = ap decommits (below_more a page) ∙ map-append acts.Decommit (loose_below a page) (loose_among a (page ∷ []))

filter_few : (t : ℕ → Bool) (at n : ℕ) → length (filter t (numbers at n)) ≤ n
filter_few t at zero = omega arith
filter_few t at (suc n) = let again = filter_few t (at + 1) n in elim (cases_Bool (t at)) [ inl e ↦ rw e (omega (arith, again)) | inr e ↦ rw e (omega (arith, again)) ]

pub few_below : (a : Area) (page : ℕ) → length (loose_below a page) ≤ page
few_below a page = filter_few (is_loose a) 0 page

---- The area

off : (x : Bool) → (x && not false) ≡ x
off true = refl
off false = refl

-- the area with other committed pages
abbrev pub committing : Area → (ℕ → Bool) → Area
committing a f = record { reserved = a.reserved; committed = f; spans = a.spans }

area_by : (a : Area) (f g : ℕ → Bool) → ((p : ℕ) → f p ≡ g p) → committing a f ≡ committing a g
area_by a f g h = ap (committing a) (fun_ext h)

pub swept_none : (a : Area) → swept 0 a ≡ a
swept_none a = area_by a (swept 0 a).committed a.committed (λ p. let z : ltb p 0 ≡ false = le-ltb p 0 (omega arith) in rw z (off (a.committed p)))

later : (page p : ℕ) → p ≢ page → ltb p (page + 1) ≡ ltb p page
later page p ne = elim (cases_lt p page) [
  | inl l ↦ lt-ltb p (page + 1) (omega (arith, l)) ∙ sym (lt-ltb p page l)
  | inr l ↦ le-ltb p (page + 1) (omega (arith, l, ne)) ∙ sym (le-ltb p page l)
]

-- a page that is not loose stays
pub swept_over : (a : Area) (page : ℕ) → is_loose a page ≡ false → swept (page + 1) a ≡ swept page a
swept_over a page e = area_by a (swept (page + 1) a).committed (swept page a).committed each
  where
    none : (x b : Bool) → x ≡ false → (b && x) ≡ false
    none x true q = q
    none x false q = refl

    each : (p : ℕ) → (swept (page + 1) a).committed p ≡ (swept page a).committed p
    each p = elim (cases_Bool (p == page)) [
      | inl q ↦
          let is = eqb-true p page q in
          let l : is_loose a p ≡ false = ap (is_loose a) is ∙ e in
          ap (λ (x : Bool). a.committed p && not x) (none (is_loose a p) (ltb p (page + 1)) l ∙ sym (none (is_loose a p) (ltb p page) l))
      | inr q ↦ ap (λ (x : Bool). a.committed p && not (x && is_loose a p)) (later page p (eqb-false p page q))
    ]

-- .. and one that is loses its commitment
pub swept_one : (a : Area) (page : ℕ) → is_loose a page ≡ true → committing a (updated (swept page a).committed page false) ≡ swept (page + 1) a
swept_one a page e = area_by a (updated (swept page a).committed page false) (swept (page + 1) a).committed each
  where
    gone : (x : Bool) → (x && not true) ≡ false
    gone true = refl
    gone false = refl

    each : (p : ℕ) → updated (swept page a).committed page false p ≡ (swept (page + 1) a).committed p
    each p = elim (cases_Bool (p == page)) [
      | inl q ↦
          let is = eqb-true p page q in
          let l : is_loose a p ≡ true = ap (is_loose a) is ∙ e in
          let b : ltb p (page + 1) ≡ true = lt-ltb p (page + 1) (omega (arith, is)) in
          rw q (sym (rw (b, l) (gone (a.committed p))))
      | inr q ↦ rw q (ap (λ (x : Bool). a.committed p && not (x && is_loose a p)) (sym (later page p (eqb-false p page q))))
    ]

-- the page that comes next is loose still
pub still_loose : (a : Area) (page : ℕ) → is_loose a page ≡ true → is_loose (swept page a) page ≡ true
still_loose a page e =
    let z : ltb page page ≡ false = le-ltb page page (omega arith) in
    rw (z, off (a.committed page)) e

-- with all reserved segments behind it the area has no loose page
pub swept_all : (a : Area) → ((p : ℕ) → a.committed p ≡ true → is_usable a p ≡ true) → swept (256 * a.reserved) a ≡ decommitted a
swept_all a u = area_by a (swept (256 * a.reserved) a).committed (decommitted a).committed each
  where
    each : (p : ℕ) → (swept (256 * a.reserved) a).committed p ≡ (decommitted a).committed p
    each p = elim (cases_Bool (a.committed p)) [
      | inr e ↦ rw e refl
      | inl e ↦
          let h = u p e in
          let below = ltb-true (p / 256) a.reserved (and_parts (ltb (p / 256) a.reserved) (leb 2 (p % 256)) h).0 in
          let b : ltb p (256 * a.reserved) ≡ true = lt-ltb p (256 * a.reserved) (omega (arith, below)) in
          rw (e, h, b) refl
    ]

none_passes : (t : ℕ → Bool) (xs : List ℕ) → ((x : ℕ) → t x ≡ false) → filter t xs ≡ []
none_passes t [] h = refl
none_passes t (x ∷ xs) h = rw (h x) (none_passes t xs h)

pub none_loose : (a : Area) → ((p : ℕ) → a.committed p ≡ true → is_usable a p ≡ true) → loose_pages (decommitted a) ≡ []
none_loose a u = none_passes (is_loose (decommitted a)) (numbers 0 (256 * a.reserved)) each
  where
    apart : (x : Bool) → (not x && not x) ≡ not x
    apart true = refl
    apart false = refl

    clash : (x : Bool) → (not x && not (not x)) ≡ false
    clash true = refl
    clash false = refl

    each : (p : ℕ) → is_loose (decommitted a) p ≡ false
    each p = elim (cases_Bool (a.committed p)) [
      | inr e ↦ rw e refl
      | inl e ↦
          let h = u p e in
          let any = list_any (in_span p) a.spans in
          rw (e, h) (by any)
    ]
      where
        by : (x : Bool) → (not (not x) && not x) ≡ false
        by true = refl
        by false = refl

---- What the back end tells

pub places_same : (k m : Kept) → spans_of m ≡ spans_of k → places_in m ≡ places_in k
places_same k m e = ap (λ (rs : List Run). map Rattle.backend_fit.specs.Effects.place_of (filter is_block_run rs)) e

pub layer_after : (k m : Kept) → m.limits ≡ k.limits → spans_of m ≡ spans_of k → area_of m ≡ swept (256 * (area_of k).reserved) (area_of k) → layer_of m ≡ layer_swept (256 * (area_of k).reserved) k
layer_after k m l s a =
    (λ i. record (layer_of k) { limits = l i; back = record { area = a i; places = places_same k m s i } })

---- One page

pub among_none : (a : Area) (page : ℕ) → is_loose a page ≡ false → loose_among a (page ∷ []) ≡ []
among_none a page e = rw e refl

pub among_one : (a : Area) (page : ℕ) → is_loose a page ≡ true → loose_among a (page ∷ []) ≡ page ∷ []
among_one a page e = rw e refl
