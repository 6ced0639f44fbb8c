-- Words that are all 0.
use Rattle.std.proofs.Common.{◌≡◌, ℕ, zero, suc, ◌+◌, ◌*◌, ◌<◌, false, inl, inr, refl, arith, subst, List, [], ◌∷◌, length, get_or, replicate}
use Rattle.std.proofs.lemmas.List.{get_or-replicate, get_or_past, length-replicate}
use Rattle.std.proofs.lemmas.Bool.{cases_lt}
use Rattle.heap_model.specs.declared.Run.{Run}
use Rattle.page_ranges.specs.Words.{header_run}
use Rattle.page_ranges.specs.Ranges.{AreRuns, IsWhole, is_open}
use Rattle.page_ranges.proofs.Marked.{whole_from}

-- n header pages from a page on
unfoldable pub headers : ℕ → ℕ → List Run
headers at zero = []
headers at (suc n) = header_run at ∷ headers (suc at) n

headers_tile : (words : List ℕ) (at n : ℕ) → ((page : ℕ) → page < at + n → get_or words page 0 ≡ 0) → AreRuns words at (at + n) (headers at n)
unfolding headers
headers_tile words at zero h = omega arith
headers_tile words at (suc n) h =
    let e : suc at + n ≡ at + suc n = omega arith in
    let f : at + 1 ≡ suc at = omega arith in
    let again : AreRuns words (suc at) (at + suc n) (headers (suc at) n) = subst (λ x. AreRuns words (suc at) x (headers (suc at) n)) e (headers_tile words (suc at) n (λ page l. h page (omega arith))) in
    (refl, record { some = omega arith; kept = inl (refl, h at (omega arith)) }, rw f again)

pub fresh_tile : (n : ℕ) → AreRuns (replicate n 0) 0 (length {A = ℕ} (replicate n 0)) (headers 0 n)
fresh_tile n =
    let e : 0 + n ≡ length {A = ℕ} (replicate n 0) = omega (arith, length-replicate {A = ℕ} n 0) in
    subst (λ x. AreRuns (replicate n 0) 0 x (headers 0 n)) e (headers_tile (replicate n 0) 0 n (λ page l. get_or-replicate n page 0 0 (omega arith)))

pub fresh_whole : (n : ℕ) → IsWhole (replicate n 0)
fresh_whole n = whole_from (replicate n 0) (headers 0 n) (fresh_tile n)

abbrev zeros : ℕ → List ℕ
zeros n = replicate n 0

fresh_word : (n page : ℕ) → get_or (zeros n) page 0 ≡ 0
fresh_word n page = elim (cases_lt page n) [
  | inl l ↦ get_or-replicate n page 0 0 l
  | inr l ↦ get_or_past (zeros n) page 0 (omega (arith, length-replicate {A = ℕ} n 0))
]

pub fresh_closed : (n segment : ℕ) → is_open (replicate n 0) segment ≡ false
fresh_closed n segment = rw (fresh_word n (256 * segment + 2)) refl
