-- Pages that may be used lie in one open segment.
use Rattle.std.proofs.Common.{◌≡◌, ℕ, zero, suc, ◌+◌, ◌-◌, ◌*◌, ◌/◌, ◌%◌, ◌<◌, ◌≤◌, ◌⊎◌, inl, inr, true, false, not, refl, ap, ◌∙◌, sym, arith, subst, List, ◌∷◌, length, get_or, eqb, leb, ltb, ne_eqb}
use Rattle.std.proofs.lemmas.Bool.{cases_lt, le-ltb, lt-ltb, le-leb, leb-true, ltb-true, and_parts, and_from}
use Rattle.std.specs.List.{AllByRecursion}
use Rattle.heap_model.specs.declared.Kind.TheVariants as kinds
use Rattle.heap_model.specs.declared.Run as real
use Rattle.heap_model.specs.State.{is_kind}
use Rattle.heap_model.specs.Backend.{free_runs}
use Rattle.page_region.specs.Held.{committed_of}
use Rattle.page_ranges.specs.Words.{runs_of, run_of_page, word_in}
use Rattle.page_ranges.specs.Ranges.{IsInSegment, is_open}
use Rattle.page_ranges.specs.Spans.{frees_in, is_usable_in, IsUsed, AreSettled}
use Rattle.page_ranges.proofs.Runs.{Found, found}
use Rattle.page_ranges.proofs.FreeRuns.{frees_are}
use Rattle.backend_fit.specs.Pages.{Pages, pages_area}
use Rattle.backend_fit.specs.Sound.{AreSound}
use Rattle.backend_fit.proofs.Tiled.{all_parts}

-- no word of a run is 0
word_some : (r : real.Run) (k : ℕ) → eqb (word_in r k) 0 ≡ false
word_some r zero = ne_eqb (word_in r zero) 0 (λ e. omega arith)
word_some r (suc k) = ne_eqb (word_in r (suc k)) 0 (λ e. omega arith)

pub settled : (k : Pages) → AreSound k → AreSettled k.region.reserved k.words
settled k s = record { inside = omega (arith, s.pages, s.held.reserved); whole = s.whole; used = s.used; apart = s.apart }

pub frees_of : (k : Pages) → AreSound k → free_runs (pages_area k) ≡ frees_in (runs_of k.words)
frees_of k s = frees_are k.region.reserved (committed_of k.region) k.words (settled k s)

module _ (k : Pages) (s : AreSound k) (page : ℕ) (l : page < length k.words) where
  the_run : real.Run
  the_run = run_of_page k.words page

  at : Found k.words 0 (length k.words) (runs_of k.words) page (run_of_page k.words page)
  at = found k.words 0 (length k.words) (runs_of k.words) page s.whole (omega arith) l

  kind_at : is_usable_in k.region.reserved page ≡ not (is_kind (run_of_page k.words page).mark.kind kinds.Header)
  kind_at =
      let f = at in
      let r = run_of_page k.words page in
      let low = f.low in
      let high = f.high in
      let u = all_parts (IsUsed k.region.reserved) f.before (r ∷ f.after) (subst (λ (qs : List real.Run). AllByRecursion (IsUsed k.region.reserved) qs) f.parts s.used) in
      let e : r.first + (page - r.first) ≡ page = omega arith in
      subst (λ n. is_usable_in k.region.reserved n ≡ not (is_kind r.mark.kind kinds.Header)) e (u.1.0 (page - r.first) (omega arith))

  -- a usable page has a word, a header page has none
  pub usable_word : is_usable_in k.region.reserved page ≡ true → eqb (get_or k.words page 0) 0 ≡ false
  usable_word t =
      let f = at in
      let r = run_of_page k.words page in
      let low = f.low in
      let high = f.high in
      let h = sym kind_at ∙ t in
      elim f.is_run.kept [
        | inl z ↦
            let e : r.mark.kind ≡ kinds.Header = ap (λ (q : real.Run). q.mark.kind) z.0 in
            let no : false ≡ true = sym (ap (λ x. not (is_kind x kinds.Header)) e) ∙ h in
            absurd (let x : ⊥ = cc in x)
        | inr m ↦
            let e : r.first + (page - r.first) ≡ page = omega arith in
            let w : get_or k.words page 0 ≡ word_in r (page - r.first) = subst (λ n. get_or k.words n 0 ≡ word_in r (page - r.first)) e (m.marked (page - r.first) (omega arith)) in
            rw w (word_some r (page - r.first))
      ]

  pub header_word : is_usable_in k.region.reserved page ≡ false → get_or k.words page 0 ≡ 0
  header_word t =
      let f = at in
      let r = run_of_page k.words page in
      let low = f.low in
      let high = f.high in
      let h : not (is_kind r.mark.kind kinds.Header) ≡ false = sym kind_at ∙ t in
      elim f.is_run.kept [
        | inl z ↦
            let one : r.pages ≡ 1 = ap (λ (q : real.Run). q.pages) z.0 in
            let e : r.first ≡ page = omega arith in
            subst (λ n. get_or k.words n 0 ≡ 0) e z.1
        | inr m ↦
            let no : true ≡ false = sym (ap not m.mark.used) ∙ h in
            absurd (let x : ⊥ = cc in x)
      ]

pub usable_parts : (reserved page : ℕ) → is_usable_in reserved page ≡ true → (page / 256 < reserved) × (2 ≤ page % 256)
usable_parts reserved page t =
    let p = and_parts (ltb (page / 256) reserved) (leb 2 (page % 256)) t in
    (ltb-true (page / 256) reserved p.0, leb-true 2 (page % 256) p.1)

pub in_segment : (k : Pages) (first n : ℕ) → AreSound k → 0 < n → ((page : ℕ) → first ≤ page → page < first + n → is_usable_in k.region.reserved page ≡ true) → IsInSegment k.words first n
in_segment k first n s some usable =
    let p = usable_parts k.region.reserved first (usable first (omega arith) (omega arith)) in
    record { behind = p.1; below = below (cases_lt 256 (first % 256 + n)); open_one = opened p.0 }
  where
    below : (256 < first % 256 + n) ⊎ (first % 256 + n ≤ 256) → first % 256 + n ≤ 256
    below (inr l) = l
    below (inl l) =
        let page = first + (256 - first % 256) in
        let p = usable_parts k.region.reserved page (usable page (omega arith) (omega arith)) in
        absurd (omega (arith, p.1))

    opened : first / 256 < k.region.reserved → is_open k.words (first / 256) ≡ true
    opened l =
        let page = 256 * (first / 256) + 2 in
        let t : is_usable_in k.region.reserved page ≡ true = and_from (ltb (page / 256) k.region.reserved) (leb 2 (page % 256)) (lt-ltb (page / 256) k.region.reserved (omega arith)) (le-leb 2 (page % 256) (omega arith)) in
        let w = usable_word k s page (omega (arith, s.pages, s.held.reserved)) t in
        rw w refl

pub not_open : (k : Pages) (segment : ℕ) → AreSound k → segment ≡ k.region.reserved → segment < k.region.segments → is_open k.words segment ≡ false
not_open k segment s e l =
    let page = 256 * segment + 2 in
    let out : ltb (page / 256) k.region.reserved ≡ false = le-ltb (page / 256) k.region.reserved (omega arith) in
    let t : is_usable_in k.region.reserved page ≡ false = rw out refl in
    let w = header_word k s page (omega (arith, s.pages)) t in
    rw w refl

-- the rest behind the front of such pages
pub rest_in : (old new : List ℕ) (first n total : ℕ) → IsInSegment old first total → n < total → ((segment : ℕ) → is_open new segment ≡ is_open old segment) → IsInSegment new (first + n) (total - n)
rest_in old new first n total i l same =
    let behind = i.behind in
    let below = i.below in
    let e : (first + n) / 256 ≡ first / 256 = omega arith in
    record { behind = omega arith; below = omega arith; open_one = rw e (same (first / 256) ∙ i.open_one) }
