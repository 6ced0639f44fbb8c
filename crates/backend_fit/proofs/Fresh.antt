-- Words that are all 0.
use Rattle.std.proofs.Common.{◌≡◌, ℕ, zero, suc, ◌+◌, ◌*◌, ◌≤◌, Bool, false, inl, inr, refl, ap, ◌∙◌, arith, [], replicate, map}
use Rattle.std.proofs.lemmas.List.{get_or-replicate, get_or_past, length-replicate}
use Rattle.std.proofs.lemmas.Bool.{cases_lt}
use Rattle.std.proofs.Math.Path.{fun_ext}
use Rattle.std.specs.List.{AllByRecursion}
use Rattle.page_region.specs.Held.{mark_at}
use Rattle.page_ranges.specs.Spans.{taken_runs, span_of, IsUsed, AreApart}
use Rattle.page_ranges.proofs.Runs.{and_right_false}
use Rattle.page_ranges.proofs.Fresh.{headers, fresh_tile}
use Rattle.backend_fit.specs.Pages.{Pages, pages_area, taken_in}
use Rattle.backend_fit.specs.Sound.{AreSound}
use Rattle.backend_fit.proofs.Tiled.{Tiled, tells, sound_of}
use Rattle.backend_fit.proofs.Area.{area_is}
use Rattle.backend_fit.proofs.Open.{beyond}

headers_used : (at n : ℕ) → AllByRecursion (IsUsed 0) (headers at n)
unfolding headers
headers_used at zero = tt
headers_used at (suc n) = (λ j l. beyond 0 (at + j) (omega arith), headers_used (suc at) n)

headers_apart : (was : Bool) (at n : ℕ) → AreApart was (headers at n)
unfolding headers
headers_apart was at zero = tt
headers_apart was at (suc n) = (and_right_false was, headers_apart false (suc at) n)

headers_no_spans : (at n : ℕ) → taken_runs (headers at n) ≡ []
unfolding headers
headers_no_spans at zero = refl
headers_no_spans at (suc n) = headers_no_spans (suc at) n

module _ (segments : ℕ) (few : segments ≤ 16) where
  abbrev fresh : Pages
  fresh = record { region = record { segments = segments; reserved = 0; marks = replicate (256 * segments) false }; words = replicate (256 * segments) 0 }

  fresh_tiled : Tiled (replicate (256 * segments) 0) 0 (headers 0 (256 * segments))
  fresh_tiled = record { runs = fresh_tile (256 * segments); used = headers_used 0 (256 * segments); apart = headers_apart false 0 (256 * segments) }

  pub fresh_sound : AreSound fresh
  fresh_sound = sound_of fresh (headers 0 (256 * segments)) (record { few = few; reserved = omega arith; marks = length-replicate (256 * segments) false }) (length-replicate {A = ℕ} (256 * segments) 0) fresh_tiled

  pub fresh_taken : taken_in (replicate (256 * segments) 0) ≡ []
  fresh_taken = ap taken_runs (tells (replicate (256 * segments) 0) 0 (headers 0 (256 * segments)) fresh_tiled) ∙ headers_no_spans 0 (256 * segments)

  pub fresh_area : pages_area fresh ≡ record { reserved = 0; committed = λ _. false; spans = [] }
  fresh_area = area_is (pages_area fresh) (record { reserved = 0; committed = λ _. false; spans = [] }) refl (fun_ext none) (ap (map span_of) fresh_taken)
    where
      none : (page : ℕ) → mark_at (replicate (256 * segments) false) page ≡ false
      none page = elim (cases_lt page (256 * segments)) [
        | inl l ↦ get_or-replicate (256 * segments) page false false l
        | inr l ↦ get_or_past (replicate (256 * segments) false) page false (omega (arith, length-replicate (256 * segments) false))
      ]
