-- The area after a change.
use Rattle.std.proofs.Common.{◌≡◌, ℕ, ◌*◌, ◌/◌, ap, ◌∙◌, sym, arith, subst, List, map}
use Rattle.heap_model.specs.declared.Mark.{Mark}
use Rattle.heap_model.specs.declared.Run as real
use Rattle.heap_model.specs.Geometry.{page_bytes}
use Rattle.heap_model.specs.State.{Area, change_found}
use Rattle.heap_model.specs.Legal.{commit, with_span, area_resized, is_back_at, with_pages}
use Rattle.page_region.specs.Held.{Held, IsHeld, committed_of}
use Rattle.page_ranges.specs.Spans.{taken_runs, span_of}
use Rattle.backend_fit.specs.Pages.{Pages, pages_area, taken_in}
use Rattle.backend_fit.specs.Effects.{marked_run, marked_span, insert_run, with_size}
use Rattle.backend_fit.specs.Sound.{AreSound}
use Rattle.backend_fit.proofs.Tiled.{Tiled, tells, sound_of, spans_insert}
use Rattle.backend_fit.proofs.Placed.{IsPlaced}

pub area_is : (a b : Area) → a.reserved ≡ b.reserved → a.committed ≡ b.committed → a.spans ≡ b.spans → a ≡ b
area_is a b r c s =
    ap (λ x. record { reserved = x; committed = a.committed; spans = a.spans }) r
    ∙ ap (λ x. record { reserved = b.reserved; committed = x; spans = a.spans }) c
    ∙ ap (λ x. record { reserved = b.reserved; committed = b.committed; spans = x }) s

-- a resize by bytes and granules, as the history has it, is the resize in pages
pub resized_by_bytes : (a : Area) (first n : ℕ) → area_resized page_bytes a (4096 * first) (256 * n) ≡ with_size a first n
resized_by_bytes a first n =
    let f : 4096 * first / 4096 ≡ first = omega arith in
    let g : 256 * n / 256 ≡ n = omega arith in
    let make : ℕ → ℕ → Area = λ x y. record { reserved = a.reserved; committed = commit x y a.committed; spans = change_found (is_back_at x) (with_pages y) a.spans } in
    ap (λ x. make x (256 * n / 256)) f ∙ ap (λ y. make first y) g

module _ (k : Pages) (region : Held) (new : List ℕ) (r : real.Run) (n : ℕ) (m : Mark) (s : AreSound k)
    (p : IsPlaced k.words new k.region.reserved r n m) (held : IsHeld region) (reserved : region.reserved ≡ k.region.reserved) (segments : region.segments ≡ k.region.segments) where
  pub placed_sound : AreSound (record { region = region; words = new })
  placed_sound =
      let t : Tiled new region.reserved p.runs = subst (λ x. Tiled new x p.runs) (sym reserved) p.tiled in
      sound_of (record { region = region; words = new }) p.runs held (p.same_length ∙ s.pages ∙ ap (λ x. 256 * x) (sym segments)) t

  pub placed_taken : taken_in new ≡ insert_run (marked_run r.first n m) (taken_in k.words)
  placed_taken = ap taken_runs (tells new k.region.reserved p.runs p.tiled) ∙ p.taken

  pub placed_area : committed_of region ≡ commit r.first n (committed_of k.region) → pages_area (record { region = region; words = new }) ≡ with_span (pages_area k) (marked_span r.first n m)
  placed_area c =
      area_is (pages_area (record { region = region; words = new })) (with_span (pages_area k) (marked_span r.first n m)) reserved c (ap (map span_of) placed_taken ∙ spans_insert (marked_run r.first n m) (taken_in k.words))
