-- A free run that a request takes the front of.
use Rattle.std.proofs.Common.{◌≡◌, ℕ, ◌+◌, ◌-◌, ◌*◌, ◌/◌, ◌%◌, ◌<◌, ◌≤◌, ◌⊎◌, inl, inr, true, false, refl, ap, ◌∙◌, sym, arith, subst, List, ◌∷◌, length, Some, map, leb, ltb}
use Rattle.std.proofs.lemmas.Bool.{ltb-true, and_parts, le-ltb, lt-ltb}
use Rattle.std.specs.List.{AllByRecursion}
use Rattle.heap_model.specs.declared.Mark.{Mark}
use Rattle.heap_model.specs.declared.Run as real
use Rattle.heap_model.specs.Runs.{Run, fitting, least}
use Rattle.heap_model.specs.State.{Area}
use Rattle.heap_model.specs.Backend.{free_runs, is_better}
use Rattle.page_region.specs.Held.{Held}
use Rattle.page_ranges.specs.Words.{runs_of}
use Rattle.page_ranges.specs.Ranges.{IsMarked, IsInSegment, has_page}
use Rattle.heap_model.specs.Marks.{free_mark}
use Rattle.page_ranges.proofs.Runs.{Parts, parts_of, runs_le}
use Rattle.page_ranges.specs.Spans.{taken_runs, span_of, frees_in, plain, is_usable_in, IsUsed}
use Rattle.backend_fit.specs.Pages.{Pages, pages_area, taken_in}
use Rattle.backend_fit.specs.Effects.{with_segment}
use Rattle.backend_fit.specs.Sound.{AreSound, IsFreeRun, IsSpanMark}
use Rattle.backend_fit.proofs.Least.{fitting_all, least_all}
use Rattle.backend_fit.proofs.Tiled.{all_parts, frees_found, free_one, tells, sound_of, Tiled}
use Rattle.backend_fit.proofs.Placed.{IsPlaced, placed_whole, placed_part}
use Rattle.backend_fit.proofs.KindLemmas.{free_not_header}
use Rattle.backend_fit.proofs.Open.{IsOpened, opened}
use Rattle.backend_fit.proofs.Area.{area_is}
use Rattle.backend_fit.proofs.Segment.{frees_of, in_segment}

module _ (k : Pages) (first pages : ℕ) (s : AreSound k) (f : IsFreeRun k.words first pages) where
  abbrev the_run : real.Run
  the_run = record { first = first; pages = pages; mark = f.mark }

  parts : Parts k.words 0 (length k.words) (runs_of k.words) the_run
  parts = parts_of k.words 0 (length k.words) (runs_of k.words) (has_page first) the_run s.whole f.finds

  pub room_some : 0 < pages
  room_some = let p = parts in p.is_run.some

  pub room_inside : first + pages ≤ length k.words
  room_inside = let p = parts in runs_le k.words (first + pages) (length k.words) p.after p.back

  pub room_reserved : first + pages ≤ 256 * k.region.reserved
  room_reserved =
      let p = parts in
      let u = all_parts (IsUsed k.region.reserved) p.before (the_run ∷ p.after) (subst (λ (qs : List real.Run). AllByRecursion (IsUsed k.region.reserved) qs) p.parts s.used) in
      let some = p.is_run.some in
      let t : is_usable_in k.region.reserved (first + (pages - 1)) ≡ true = u.1.0 (pages - 1) (omega arith) ∙ rw (free_not_header f.mark.kind f.free) refl in
      let l : (first + (pages - 1)) / 256 < k.region.reserved = ltb-true ((first + (pages - 1)) / 256) k.region.reserved (and_parts (ltb ((first + (pages - 1)) / 256) k.region.reserved) (leb 2 ((first + (pages - 1)) % 256)) t).0 in
      omega arith

  pub room_in : (n : ℕ) → 0 < n → n ≤ pages → IsInSegment k.words first n
  room_in n some l =
      let p = parts in
      let u = all_parts (IsUsed k.region.reserved) p.before (the_run ∷ p.after) (subst (λ (qs : List real.Run). AllByRecursion (IsUsed k.region.reserved) qs) p.parts s.used) in
      in_segment k first n s some (λ page x y.
      let e : first + (page - first) ≡ page = omega arith in
      let t : is_usable_in k.region.reserved (first + (page - first)) ≡ true = u.1.0 (page - first) (omega arith) ∙ rw (free_not_header f.mark.kind f.free) refl in
      subst (λ z. is_usable_in k.region.reserved z ≡ true) e t)

  pub placed : (n : ℕ) (m : Mark) (middle new : List ℕ) → 0 < n → n ≤ pages → IsSpanMark m → IsMarked k.words middle (record { first = first; pages = n; mark = m }) →
      ((pages ≤ n) × (new ≡ middle)) ⊎ ((n < pages) × IsMarked middle new (record { first = first + n; pages = pages - n; mark = free_mark })) →
      IsPlaced k.words new k.region.reserved the_run n m
  placed n m middle new some within i t (inl h) = placed_whole k the_run n m s parts f.free some i new (omega (arith, h.0)) (rw h.1 t)
  placed n m middle new some within i t (inr h) = placed_part k the_run n m s parts f.free some i middle new h.0 t h.1

-- the best fit is a free run
pub best_is_free : (k : Pages) (n : ℕ) (r : real.Run) → AreSound k → Some (plain r) ≡ least (is_better (pages_area k)) (fitting n (free_runs (pages_area k))) → IsFreeRun k.words r.first r.pages × (n ≤ r.pages)
best_is_free k n r s e =
    let P : Run → Type 0 = λ q. IsFreeRun k.words q.first q.count × (n ≤ q.count) in
    let all = fitting_all (λ q. IsFreeRun k.words q.first q.count) n (frees_in (runs_of k.words)) (frees_found k.words 0 (runs_of k.words) s.whole s.whole) in
    let all' : AllByRecursion P (fitting n (free_runs (pages_area k))) = subst (λ (qs : List Run). AllByRecursion P (fitting n qs)) (sym (frees_of k s)) all in
    least_all P (is_better (pages_area k)) (fitting n (free_runs (pages_area k))) (plain r) all' (sym e)

pub same_segment : (a : Area) (first : ℕ) → first < 256 * a.reserved → with_segment a first ≡ a
same_segment a first l = let t : ltb (first / 256) a.reserved ≡ true = lt-ltb (first / 256) a.reserved (omega arith) in rw t refl

module _ (k : Pages) (new : List ℕ) (segment : ℕ) (s : AreSound k) (less : segment < k.region.segments) (e : segment ≡ k.region.reserved)
    (i : IsMarked k.words new (record { first = 256 * segment + 2; pages = 254; mark = free_mark })) where
  abbrev more : Held
  more = record k.region { reserved = segment + 1 }

  it : IsOpened k.words new k.region.reserved
  it = opened k new s (rw (sym e) less) (subst (λ x. IsMarked k.words new (record { first = 256 * x + 2; pages = 254; mark = free_mark })) e i)

  pub opened_sound : AreSound (record { region = more; words = new })
  opened_sound =
      let o = it in
      sound_of (record { region = more; words = new }) o.runs
      (record { few = s.held.few; reserved = omega arith; marks = s.held.marks }) (o.same_length ∙ s.pages) (subst (λ x. Tiled new (x + 1) o.runs) (sym e) o.tiled)

  pub opened_taken : taken_in new ≡ taken_in k.words
  opened_taken = let o = it in ap taken_runs (tells new (k.region.reserved + 1) o.runs o.tiled) ∙ o.taken

  pub opened_area : pages_area (record { region = more; words = new }) ≡ with_segment (pages_area k) (256 * segment + 2)
  opened_area =
      let o = it in
      let t : ltb ((256 * segment + 2) / 256) k.region.reserved ≡ false = le-ltb ((256 * segment + 2) / 256) k.region.reserved (omega arith) in
      area_is (pages_area (record { region = more; words = new })) (with_segment (pages_area k) (256 * segment + 2)) (rw t (ap (λ x. x + 1) e)) refl
      (ap (map span_of) opened_taken)

  pub opened_free : IsFreeRun new (256 * segment + 2) 254
  opened_free =
      let o = it in
      let whole = opened_sound in
      let run : real.Run = record { first = 256 * k.region.reserved + 2; pages = 254; mark = free_mark } in
      let l : 256 * k.region.reserved + 2 < length new = omega (arith, o.same_length, s.pages) in
      let f : IsFreeRun new (256 * k.region.reserved + 2) 254 = free_one new run whole.whole o.is_run l refl in
      rw e f
