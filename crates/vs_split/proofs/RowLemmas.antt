-- Rows of chunks, before and after a cut or a join.
use Rattle.std.proofs.Common.{◌≡◌, ℕ, ◌+◌, ◌-◌, ◌*◌, ◌<◌, ◌≤◌, inl, inr, List, [], ◌∷◌, ◌++◌, Some, refl, sym, ap, subst, ◌∙◌, arith}
use Rattle.std.specs.Option.{option_map, option_map_or}
use Rattle.std.proofs.lemmas.List.Sums.{sum_by-cons}
use Rattle.vs_headers.specs.declared.Head.{Head}
use Rattle.vs_headers.specs.Headers.{IsHead, encoded, decoded}
use Rattle.vs_headers.proofs.HeaderLemmas.{decodes}
use Rattle.vs_split.specs.Chunks.{Chunks, head_at, word_at, with_head, told_prev, gap, split_chunk, joined_chunk}
use Rattle.vs_split.specs.Tiles.{AreSpanPages, front_of, IsTiled}
use Rattle.vs_split.specs.Laws.{IsRow, AreOfSpan, behind_units, granules_of, LiesOutside}
use Rattle.vs_split.proofs.TileLemmas.{IsChange}
use Rattle.vs_split.proofs.TiledLemmas.{at_put, change, second_is, join_change}

pub word_tells : (v : Chunks) (g : ℕ) (h : Head) → IsHead h → head_at v g ≡ Some h → decoded (word_at v g) v.key (16 * g) ≡ Some h
word_tells v g h p e =
    ap (λ o. decoded (option_map_or (λ k. encoded k v.key (16 * g)) o 0) v.key (16 * g)) e ∙ decodes h v.key (16 * g) p

-- how long the last of some chunks is
last_units : ℕ → List Head → ℕ
last_units prev [] = prev
last_units prev (h ∷ hs) = last_units h.units hs

record AreParts (v : Chunks) (prev from to : ℕ) (xs ys : List Head) : Type 0 where
  before : IsRow v prev from (from + granules_of xs) xs
  after : IsRow v (last_units prev xs) (from + granules_of xs) to ys

parts : (v : Chunks) (prev from to : ℕ) (xs ys : List Head) → IsRow v prev from to (xs ++ ys) → AreParts v prev from to xs ys
unfolding last_units
parts v prev from to [] ys row = record { before = omega arith; after = let same : from ≡ from + 0 = omega arith in subst (λ g. IsRow v prev g to ys) same row }
parts v prev from to (x ∷ xs) ys row =
    let p = parts v x.units (from + x.units) to xs ys row.2 in
    let same : from + x.units + granules_of xs ≡ from + granules_of (x ∷ xs) = omega (arith, sum_by-cons (λ (h : Head). h.units) x xs) in
    record {
      before = (row.0, row.1, subst (λ g. IsRow v x.units (from + x.units) g xs) same p.before);
      after = subst (λ g. IsRow v (last_units x.units xs) g to ys) same p.after;
    }

together : (v : Chunks) (prev from mid to : ℕ) (xs ys : List Head) → IsRow v prev from mid xs → IsRow v (last_units prev xs) mid to ys → IsRow v prev from to (xs ++ ys)
unfolding last_units
together v prev from mid to [] ys a b = subst (λ g. IsRow v prev g to ys) (sym a) b
together v prev from mid to (x ∷ xs) ys a b = (a.0, a.1, together v x.units (from + x.units) mid to xs ys a.2 b)

row_le : (v : Chunks) (prev from to : ℕ) (hs : List Head) → IsRow v prev from to hs → from ≤ to
row_le v prev from to [] row = omega arith
row_le v prev from to (h ∷ hs) row = omega (arith, row_le v h.units (from + h.units) to hs row.2)

module _ (v w : Chunks) (g e r : ℕ) (h k : Head) (t : IsTiled v) (c : IsChange (head_at v) (head_at w) g e r h k) where
  row_below : (prev from to : ℕ) (hs : List Head) → to ≤ g → IsRow v prev from to hs → IsRow w prev from to hs
  row_below prev from to [] l row = row
  row_below prev from to (x ∷ xs) l row = (
    c.below from (omega (arith, (t.tiles from x row.0).some, row_le v x.units (from + x.units) to xs row.2)) ∙ row.0,
    row.1,
    row_below x.units (from + x.units) to xs l row.2,
  )

  row_above : (prev from to : ℕ) (hs : List Head) → e < from → IsRow v prev from to hs → IsRow w prev from to hs
  row_above prev from to [] l row = row
  row_above prev from to (x ∷ xs) l row = (c.above from l ∙ row.0, row.1, row_above x.units (from + x.units) to xs (omega arith) row.2)

  row_at_end : (prev to : ℕ) (hs : List Head) → IsRow v prev e to hs → IsRow w r e to (behind_units r hs)
  row_at_end prev to [] row = row
  row_at_end prev to (x ∷ xs) row = (
    c.at_end ∙ ap (option_map (told_prev r)) row.0,
    refl,
    row_above x.units (e + x.units) to xs (omega (arith, (t.tiles e x row.0).some)) row.2,
  )

module _ (v w : Chunks) (g e r : ℕ) (h k : Head) (t : IsTiled v) (c : IsChange (head_at v) (head_at w) g e r h k) where
  outside : (first pages : ℕ) (hs : List Head) → LiesOutside first pages g e → AreOfSpan v first pages hs → AreOfSpan w first pages hs
  outside first pages hs (inl low) row = row_below v w g e r h k t c 0 (front_of first) (256 * (first + pages)) hs low row
  outside first pages hs (inr high) row = row_above v w g e r h k t c 0 (front_of first) (256 * (first + pages)) hs (omega arith) row

pub split_outside : (v : Chunks) (first pages g n : ℕ) (h : Head) (hs : List Head) → IsTiled v → head_at v g ≡ Some h → 2 ≤ n → n + 2 ≤ h.units
    → LiesOutside first pages g (g + h.units) → AreOfSpan v first pages hs → AreOfSpan (split_chunk v g h n) first pages hs
split_outside v first pages g n h hs t at front back away row =
    outside v (split_chunk v g h n) g (g + h.units) (h.units - n) h (record h { units = n }) t (change v t g n h at front back) first pages hs away row

pub join_outside : (v : Chunks) (first pages g : ℕ) (h n : Head) (hs : List Head) → IsTiled v → head_at v g ≡ Some h → head_at v (g + h.units) ≡ Some n
    → LiesOutside first pages g (g + h.units + n.units) → AreOfSpan v first pages hs → AreOfSpan (joined_chunk v g h n.units) first pages hs
join_outside v first pages g h n hs t at next away row =
    outside v (joined_chunk v g h n.units) g (g + h.units + n.units) (h.units + n.units) h (record h { units = h.units + n.units }) t
    (join_change v t g h n at next) first pages hs away row

pub opened_row : (v : Chunks) (first pages : ℕ) → AreSpanPages v first pages
    → AreOfSpan (with_head v (front_of first) (Some (gap (256 * pages - 3) 0))) first pages (gap (256 * pages - 3) 0 ∷ [])
opened_row v first pages p = (
  at_put v (front_of first) (Some (gap (256 * pages - 3) 0)) (omega (arith, p.there, p.least)),
  refl,
  omega (arith, p.least),
)

pub split_row : (v : Chunks) (first pages n : ℕ) (before after : List Head) (h : Head) → IsTiled v → 2 ≤ n → n + 2 ≤ h.units
    → AreOfSpan v first pages (before ++ h ∷ after)
    → AreOfSpan (split_chunk v (front_of first + granules_of before) h n) first pages
    (before ++ record h { units = n } ∷ gap (h.units - n) n ∷ behind_units (h.units - n) after)
split_row v first pages n before after h t front back row =
    let g : ℕ = front_of first + granules_of before in
    let to : ℕ = 256 * (first + pages) in
    let r : ℕ = h.units - n in
    let k : Head = record h { units = n } in
    let w : Chunks = split_chunk v g h n in
    let p = parts v 0 (front_of first) to before (h ∷ after) row in
    let c = change v t g n h p.after.0 front back in
    let end : g + h.units ≡ g + n + r = omega arith in
    let rest = row_at_end v w g (g + h.units) r h k t c h.units to after p.after.2 in
    together w 0 (front_of first) g to before (k ∷ gap r n ∷ behind_units r after)
    (row_below v w g (g + h.units) r h k t c 0 (front_of first) g before (omega arith) p.before)
    (c.new, p.after.1, (second_is v t g n h p.after.0 front back, refl, subst (λ q. IsRow w r q to (behind_units r after)) end rest))

pub join_row : (v : Chunks) (first pages : ℕ) (before after : List Head) (h n : Head) → IsTiled v
    → AreOfSpan v first pages (before ++ h ∷ n ∷ after)
    → AreOfSpan (joined_chunk v (front_of first + granules_of before) h n.units) first pages
    (before ++ record h { units = h.units + n.units } ∷ behind_units (h.units + n.units) after)
join_row v first pages before after h n t row =
    let g : ℕ = front_of first + granules_of before in
    let to : ℕ = 256 * (first + pages) in
    let u : ℕ = h.units + n.units in
    let e : ℕ = g + h.units + n.units in
    let k : Head = record h { units = u } in
    let w : Chunks = joined_chunk v g h n.units in
    let p = parts v 0 (front_of first) to before (h ∷ n ∷ after) row in
    let c = join_change v t g h n p.after.0 p.after.2.0 in
    let end : e ≡ g + u = omega arith in
    let rest = row_at_end v w g e u h k t c n.units to after p.after.2.2 in
    together w 0 (front_of first) g to before (k ∷ behind_units u after)
    (row_below v w g e u h k t c 0 (front_of first) g before (omega arith) p.before)
    (c.new, p.after.1, subst (λ q. IsRow w u q to (behind_units u after)) end rest)
