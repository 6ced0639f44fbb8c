-- The rows of chunks of all spans, where the chunks between two granules of one span have become others.
use Rattle.std.proofs.Common.{◌≡◌, ℕ, ◌+◌, ◌*◌, ◌<◌, ◌≤◌, inl, inr, List, [], ◌∷◌, Some, refl, sym, ap, subst, ◌∙◌, arith}
use Rattle.std.specs.List.{AllByRecursion}
use Rattle.std.specs.Option.{option_map}
use Rattle.std.proofs.lemmas.Bool.{cases_lt}
use Rattle.heap_model.specs.State.{Span}
use Rattle.heap_soundness.specs.Sound.{IsOneOf, AreInOrder}
use Rattle.heap_soundness.proofs.Lists.{all_weaker}
use Rattle.heap_soundness.proofs.Spans.{apart_spans}
use Rattle.vs_headers.specs.declared.Head.{Head}
use Rattle.vs_split.specs.Chunks.{Chunks, head_at, told_prev}
use Rattle.vs_split.specs.Tiles.{front_of, IsTiled}
use Rattle.vs_split.specs.Laws.{IsRow}
use Rattle.vs_split.proofs.TileLemmas.{IsChange, same_head}
use Rattle.vs_layer.specs.Effects.{IsSpanOfChunks}
use Rattle.vs_layer.specs.Sound.{LiesIn}

-- some chunks lie one behind the other
abbrev pub SomeRow : Chunks → ℕ → ℕ → ℕ → Type 0
SomeRow v prev from to = (hs : List Head) × IsRow v prev from to hs

pub row_le : (v : Chunks) (prev from to : ℕ) (hs : List Head) → IsRow v prev from to hs → from ≤ to
row_le v prev from to [] row = omega arith
row_le v prev from to (h ∷ hs) row = omega (arith, row_le v h.units (from + h.units) to hs row.2)

module _ (v w : Chunks) (g e r : ℕ) (h k : Head) (t : IsTiled v) (c : IsChange (head_at v) (head_at w) g e r h k) where
  row_below : (prev from to : ℕ) (hs : List Head) → to ≤ g → IsRow v prev from to hs → IsRow w prev from to hs
  row_below prev from to [] l row = row
  row_below prev from to (x ∷ xs) l row = (
    c.below from (omega (arith, (t.tiles from x row.0).some, row_le v x.units (from + x.units) to xs row.2)) ∙ row.0,
    row.1,
    row_below x.units (from + x.units) to xs l row.2,
  )

  row_above : (prev from to : ℕ) (hs : List Head) → e < from → IsRow v prev from to hs → IsRow w prev from to hs
  row_above prev from to [] l row = row
  row_above prev from to (x ∷ xs) l row = (c.above from l ∙ row.0, row.1, row_above x.units (from + x.units) to xs (omega arith) row.2)

  at_end : (prev to : ℕ) (hs : List Head) → IsRow v prev e to hs → SomeRow w r e to
  at_end prev to [] row = ([], row)
  at_end prev to (x ∷ xs) row = (
    told_prev r x ∷ xs,
    (c.at_end ∙ ap (option_map (told_prev r)) row.0, refl, row_above x.units (e + x.units) to xs (omega (arith, (t.tiles e x row.0).some)) row.2),
  )

  -- what lies behind the end, where the row is entered in front of it
  from_end : (prev from to : ℕ) (hs : List Head) → g ≤ from → from ≤ e → e ≤ to → IsRow v prev from to hs → SomeRow w r e to
  from_end prev from to [] low high l row = let same : from ≡ e = omega arith in at_end prev to [] (sym same ∙ row)
  from_end prev from to (x ∷ xs) low high l row = elim (cases_lt from e) [
    | inl less ↦ from_end x.units (from + x.units) to xs (omega arith) (c.inside from x low less row.0) l row.2
    | inr more ↦ let same : from ≡ e = omega arith in at_end prev to (x ∷ xs) (subst (λ q. IsRow v prev q to (x ∷ xs)) same row)
  ]

  -- the changed chunks and those behind them are a row
  abbrev pub AreFollowed : Type 0
  AreFollowed = (to : ℕ) (hs : List Head) → IsRow w r e to hs → SomeRow w k.prev g to

  changed_row : AreFollowed → (prev from to : ℕ) (hs : List Head) → from ≤ g → e ≤ to → IsRow v prev from to hs → SomeRow w prev from to
  changed_row follow prev from to [] low high row = absurd (omega (arith, c.some))
  changed_row follow prev from to (x ∷ xs) low high row = elim (cases_lt from g) [
    | inl less ↦
        let rest = changed_row follow x.units (from + x.units) to xs ((t.tiles from x row.0).apart g h less c.old) high row.2 in
        (x ∷ rest.0, (c.below from less ∙ row.0, row.1, rest.1))
    | inr more ↦ here (omega arith)
  ]
    where
      here : from ≡ g → SomeRow w prev from to
      here same =
          let is_h : x ≡ h = same_head x h (sym row.0 ∙ subst (λ q. head_at v q ≡ Some h) (sym same) c.old) in
          let rest = from_end prev from to (x ∷ xs) (omega arith) (omega (arith, c.some)) high row in
          let all = follow to rest.0 rest.1 in
          let told : k.prev ≡ prev = c.prev ∙ ap (λ (y : Head). y.prev) (sym is_h) ∙ row.1 in
          (all.0, subst (λ q. IsRow w prev q to all.0) (sym same) (subst (λ p. IsRow w p g to all.0) told all.1))

  -- the rows of all spans, if the changed granules are of one
  pub rows_changed : AreFollowed → (xs : List Span) (s : Span) (u : ℕ) → AreInOrder 0 xs → IsOneOf s xs → LiesIn g u s → g + u ≡ e
      → AllByRecursion (IsSpanOfChunks v) xs → AllByRecursion (IsSpanOfChunks w) xs
  rows_changed follow xs s u order of_them lies size rows = all_weaker (IsSpanOfChunks v) (IsSpanOfChunks w) xs each rows
    where
      each : (x : Span) → IsOneOf x xs → IsSpanOfChunks v x → IsSpanOfChunks w x
      each x i row = elim (apart_spans 0 xs x s order i of_them) [
        | inl same ↦
            let first : x.first ≡ s.first = ap (λ (y : Span). y.first) same in
            let pages : x.pages ≡ s.pages = ap (λ (y : Span). y.pages) same in
            changed_row follow 0 (front_of x.first) (256 * (x.first + x.pages)) row.0 (omega (arith, lies.from)) (omega (arith, lies.to)) row.1
        | inr (inl low) ↦ (row.0, row_below 0 (front_of x.first) (256 * (x.first + x.pages)) row.0 (omega (arith, lies.from)) row.1)
        | inr (inr high) ↦ (row.0, row_above 0 (front_of x.first) (256 * (x.first + x.pages)) row.0 (omega (arith, lies.to)) row.1)
      ]
