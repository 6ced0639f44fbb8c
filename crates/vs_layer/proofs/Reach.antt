-- How far a block can grow in place.
use Rattle.std.proofs.Common.{◌≡◌, ℕ, ◌+◌, ◌-◌, ◌*◌, ◌/◌, ◌≤◌, ◌&&◌, leb, Option, Some, None, if◌then◌else◌, inl, inr, refl, sym, ap, ◌∙◌, arith}
use Rattle.std.proofs.lemmas.Bool.{cases_Bool, le-leb}
use Rattle.heap_model.specs.Geometry.{units_of}
use Rattle.heap_model.specs.State.{Place}
use Rattle.heap_model.specs.Stay.{run_from}
use Rattle.vs_headers.specs.declared.Head.{Head}
use Rattle.vs_split.specs.Chunks.{head_at, chunk_at}
use Rattle.vs_split.proofs.TileLemmas.{none_or_some, same_head}
use Rattle.vs_layer.specs.Kept.{VsKept, place_of, gaps_in, block_at, reach_of, lets_stay}
use Rattle.vs_layer.specs.Sound.{AreChunksSound}
use Rattle.vs_layer.specs.Steps.{if_free, gap_behind, units_of_gap}
use Rattle.vs_layer.proofs.Blocks.{chunk_asked}
use Rattle.vs_layer.proofs.Gaps.{run_free, run_none}

module _ (k : VsKept) (s : AreChunksSound k) where
  -- the gap at a granule, as the definitions have it
  pub run_here : (q : ℕ) → run_from (gaps_in k) q ≡ units_of_gap (if_free (head_at k.chunks q))
  run_here q = by (head_at k.chunks q) refl
    where
      by : (o : Option Head) → head_at k.chunks q ≡ o → run_from (gaps_in k) q ≡ units_of_gap (if_free o)
      by None e = run_none k s q (λ h is. absurd (none_or_some (head_at k.chunks q) h e is))
      by (Some n) e = elim (cases_Bool n.busy) [
        | inl busy ↦
            run_none k s q (λ h is. ap (λ (y : Head). y.busy) (same_head h n (sym is ∙ e)) ∙ busy)
            ∙ sym (ap (λ b. units_of_gap (if b then None else Some n)) busy)
        | inr free ↦ run_free k s q n e free ∙ sym (ap (λ b. units_of_gap (if b then None else Some n)) free)
      ]

  -- the granules that a place and the gap behind it have
  pub reach_is : (g : ℕ) (h : Head) → reach_of k (place_of g h) ≡ h.units + units_of_gap (gap_behind k.chunks g h)
  reach_is g h =
      let at : 16 * g / 16 + h.units ≡ g + h.units = omega arith in
      ap (λ q. h.units + run_from (gaps_in k) q) at ∙ ap (λ n. h.units + n) (run_here (g + h.units))

  -- the block at an address
  pub reach_at : (addr : ℕ) (h : Head) (p : Place) → block_at k addr ≡ Some p → chunk_at k.chunks (addr - 16) ≡ Some h → reach_of k p ≡ h.units + units_of_gap (gap_behind k.chunks ((addr - 16) / 16) h)
  reach_at addr h p e there =
      let b = chunk_asked k addr p e in
      let same : b.head ≡ h = same_head b.head h (sym b.there ∙ there) in
      ap (reach_of k) (sym b.is) ∙ ap (λ m. reach_of k (place_of ((addr - 16) / 16) m)) same ∙ reach_is ((addr - 16) / 16) h

  pub stays_if : (addr n units reach : ℕ) (h : Head) (p : Place) → block_at k addr ≡ Some p → chunk_at k.chunks (addr - 16) ≡ Some h → n ≤ 131072 → units ≡ units_of n
      → reach ≡ h.units + units_of_gap (gap_behind k.chunks ((addr - 16) / 16) h) → leb units reach ≡ lets_stay k p n
  stays_if addr n units reach h p e there most eu er =
      ap (λ u. leb u reach) eu ∙ ap (leb (units_of n)) (er ∙ sym (reach_at addr h p e there))
      ∙ sym (ap (λ b. b && leb (units_of n) (reach_of k p)) (le-leb n 131072 most))
