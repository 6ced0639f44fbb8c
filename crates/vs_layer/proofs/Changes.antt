-- How the chunks and the index of the gaps go through the changes that one call makes of them.
--
-- In the middle of a call one chunk, or two neighbours, may be anything: in neither the index nor among the blocks, or beside a gap.
use Rattle.std.proofs.Common.{◌≡◌, ◌≢◌, ℕ, ◌+◌, ◌*◌, ◌<◌, ◌≤◌, ◌⊎◌, inl, inr, Bool, true, false, not, ◌&&◌, ◌||◌, eqb, List, [], ◌∷◌, length, Option, Some, None, if◌then◌else◌, refl, sym, ap, subst, ◌∙◌, arith, true≢false}
use Rattle.std.specs.List.{AllByRecursion}
use Rattle.std.specs.Option.{option_map}
use Rattle.std.specs.Ordering.{nat_cmp, eq_by_cmp, is_eq}
use Rattle.std.specs.FinSet as set
use Rattle.std.proofs.lemmas.Bool.{cases_Bool, cases_order, cases_lt, eqb-true, eqb-false}
use Rattle.std.proofs.lemmas.Cmp.{tied_itself}
use Rattle.std.proofs.lemmas.List.{get_or-set_other}
use Rattle.std.proofs.lemmas.Map.Lookups.{CmpEqualImpliesEq, exact_pairs, exact_unsigned}
use Rattle.std.proofs.lemmas.Map.Views.{tells_apart}
use Rattle.heap_model.specs.State.{Span}
use Rattle.heap_model.specs.Geometry.{units_of}
use Rattle.heap_model.specs.Stay.{for_some}
use Rattle.heap_soundness.specs.Sound.{AreInOrder}
use Rattle.vs_headers.specs.declared.Head.{Head}
use Rattle.vs_split.specs.Chunks.{Chunks, head_at, with_head, told_prev}
use Rattle.vs_split.specs.Tiles.{IsTiled}
use Rattle.vs_split.specs.Laws.{IsRow}
use Rattle.vs_split.proofs.TileLemmas.{IsChange, same_head}
use Rattle.vs_free_tree.specs.Gaps.{gap_cmp, Gaps, GapIndex}
use Rattle.vs_free_tree.proofs.SetLemmas.{gap_cmp_total}
use Rattle.vs_layer.specs.Kept.{VsKept, place_of, place_if}
use Rattle.vs_layer.specs.Effects.{IsSpanOfChunks}
use Rattle.vs_layer.specs.Sound.{AreUsablePages, IsOfSpan, IsSized, is_gap_at, AreChunksSound, IsIndexOf}
use Rattle.vs_layer.specs.Steps.{without_gap, with_gap}
use Rattle.vs_layer.proofs.Rows.{SomeRow, rows_changed}

-- a granule that is not written keeps its chunk
pub off_put : (v : Chunks) (g : ℕ) (o : Option Head) (q : ℕ) → q ≢ g → head_at (with_head v g o) q ≡ head_at v q
off_put v g o q other = get_or-set_other v.heads g q o None other

---- The invariant but for the chunks at two granules, which can be one

pub record IsSoundBut (xs : List Span) (v : Chunks) (x : GapIndex) (g e : ℕ) : Type 0 where
  pub tiled : IsTiled v
  pub in_order : AreInOrder 0 xs
  pub usable : AllByRecursion AreUsablePages xs
  pub rows : AllByRecursion (IsSpanOfChunks v) xs
  pub inside : (q : ℕ) (m : Head) → head_at v q ≡ Some m → IsOfSpan xs q m.units
  pub joined : (q : ℕ) (m n : Head) → q ≢ g → q ≢ e → q + m.units ≢ g → q + m.units ≢ e → head_at v q ≡ Some m → m.busy ≡ false → head_at v (q + m.units) ≡ Some n → n.busy ≡ true
  pub sized : (q : ℕ) (m : Head) → q ≢ g → q ≢ e → head_at v q ≡ Some m → m.busy ≡ true → IsSized m
  pub gaps : (units q : ℕ) → q ≢ g → q ≢ e → set.contains x.gaps (units, q) ≡ is_gap_at v units q
  pub absent : (units : ℕ) → set.contains x.gaps (units, g) ≡ false
  pub absent_too : (units : ℕ) → set.contains x.gaps (units, e) ≡ false
  pub room : 4 * x.capacity ≡ length v.heads

-- no block but the one at g is another than before
abbrev pub HasSamePlacesBut : ℕ → Chunks → Chunks → Type 0
HasSamePlacesBut g v w = (q : ℕ) → q ≢ g → place_if q (head_at w q) ≡ place_if q (head_at v q)

pub same_places_then : (g : ℕ) (u v w : Chunks) → HasSamePlacesBut g u v → HasSamePlacesBut g v w → HasSamePlacesBut g u w
same_places_then g u v w a b = λ q other. b q other ∙ a q other

---- A gap in the index, one more or one less

tells_gaps : CmpEqualImpliesEq gap_cmp
tells_gaps = exact_pairs nat_cmp nat_cmp exact_unsigned exact_unsigned

other_gap : (a b : ℕ × ℕ) → a.1 ≢ b.1 → eq_by_cmp gap_cmp a b ≡ false
other_gap a b other = elim (cases_Bool (eq_by_cmp gap_cmp a b)) [
  | inl e ↦ absurd (other (ap (λ (p : ℕ × ℕ). p.1) (tells_apart tells_gaps a b e)))
  | inr e ↦ e
]

other_units : (a b : ℕ × ℕ) → a.0 ≢ b.0 → eq_by_cmp gap_cmp a b ≡ false
other_units a b other = elim (cases_Bool (eq_by_cmp gap_cmp a b)) [
  | inl e ↦ absurd (other (ap (λ (p : ℕ × ℕ). p.0) (tells_apart tells_gaps a b e)))
  | inr e ↦ e
]

itself : (a : ℕ × ℕ) → eq_by_cmp gap_cmp a a ≡ true
itself a = ap is_eq (tied_itself gap_cmp_total a)

pub removed_elsewhere : (s : Gaps) (units g n q : ℕ) → q ≢ g → set.contains (set.remove s (units, g)) (n, q) ≡ set.contains s (n, q)
removed_elsewhere s units g n q other =
    set.contains-remove gap_cmp_total s (units, g) (n, q)
    ∙ ap (λ b. not b && set.contains s (n, q)) (other_gap (n, q) (units, g) other)

pub inserted_elsewhere : (s : Gaps) (units g n q : ℕ) → q ≢ g → set.contains (set.insert s (units, g)) (n, q) ≡ set.contains s (n, q)
inserted_elsewhere s units g n q other =
    set.contains-insert gap_cmp_total s (units, g) (n, q)
    ∙ ap (λ b. b || set.contains s (n, q)) (other_gap (n, q) (units, g) other)

-- the only gap at a granule is removed
pub removed_here : (s : Gaps) (units g n : ℕ) → (n ≢ units → set.contains s (n, g) ≡ false) → set.contains (set.remove s (units, g)) (n, g) ≡ false
removed_here s units g n others = set.contains-remove gap_cmp_total s (units, g) (n, g) ∙ elim (cases_Bool (eqb n units)) [
  | inl e ↦
      let same : n ≡ units = eqb-true n units e in
      ap (λ b. not b && set.contains s (n, g)) (subst (λ k. eq_by_cmp gap_cmp (k, g) (units, g) ≡ true) (sym same) (itself (units, g)))
  | inr e ↦
      let other : n ≢ units = eqb-false n units e in
      ap (λ b. not b && set.contains s (n, g)) (other_units (n, g) (units, g) other) ∙ others other
]

-- .. or is put there
pub inserted_here : (s : Gaps) (units g n : ℕ) → set.contains s (n, g) ≡ false → set.contains (set.insert s (units, g)) (n, g) ≡ eqb units n
inserted_here s units g n none = set.contains-insert gap_cmp_total s (units, g) (n, g) ∙ elim (cases_Bool (eqb units n)) [
  | inl e ↦
      let same : units ≡ n = eqb-true units n e in
      ap (λ b. b || set.contains s (n, g)) (subst (λ k. eq_by_cmp gap_cmp (n, g) (k, g) ≡ true) (sym same) (itself (n, g))) ∙ sym e
  | inr e ↦
      ap (λ b. b || set.contains s (n, g)) (other_units (n, g) (units, g) (λ z. eqb-false units n e (sym z))) ∙ none ∙ sym e
]

pub gap_there : (v : Chunks) (g units : ℕ) (h : Head) → head_at v g ≡ Some h → h.busy ≡ false → is_gap_at v units g ≡ eqb h.units units
gap_there v g units h there free =
    ap (λ o. for_some o (λ m. not m.busy && eqb m.units units)) there ∙ ap (λ b. not b && eqb h.units units) free

pub no_gap_there : (v : Chunks) (g units : ℕ) (h : Head) → head_at v g ≡ Some h → h.busy ≡ true → is_gap_at v units g ≡ false
no_gap_there v g units h there busy =
    ap (λ o. for_some o (λ m. not m.busy && eqb m.units units)) there ∙ ap (λ b. not b && eqb h.units units) busy

pub no_gap_at_none : (v : Chunks) (g units : ℕ) → head_at v g ≡ None → is_gap_at v units g ≡ false
no_gap_at_none v g units none = ap (λ o. for_some o (λ m. not m.busy && eqb m.units units)) none

---- From the invariant, and back

-- a place may be anything
pub but_place : (k : VsKept) (x : GapIndex) (g : ℕ) (h : Head) → AreChunksSound k → IsIndexOf k.chunks x → head_at k.chunks g ≡ Some h → h.busy ≡ true
    → IsSoundBut k.spans k.chunks x g g
but_place k x g h s i there busy = record {
  tiled = s.tiled;
  in_order = s.in_order;
  usable = s.usable;
  rows = s.rows;
  inside = s.inside;
  joined = λ q m n a b c d is free next. s.joined q m n is free next;
  sized = λ q m a b is told. s.sized q m is told;
  gaps = λ units q a b. i.gaps units q;
  absent = λ units. i.gaps units g ∙ no_gap_there k.chunks g units h there busy;
  absent_too = λ units. i.gaps units g ∙ no_gap_there k.chunks g units h there busy;
  room = i.room;
}

-- .. and so may a gap that is taken out of the index
pub but_gap : (k : VsKept) (x : GapIndex) (g : ℕ) (h : Head) → AreChunksSound k → IsIndexOf k.chunks x → head_at k.chunks g ≡ Some h → h.busy ≡ false
    → IsSoundBut k.spans k.chunks (without_gap x h.units g) g g
but_gap k x g h s i there free = record {
  tiled = s.tiled;
  in_order = s.in_order;
  usable = s.usable;
  rows = s.rows;
  inside = s.inside;
  joined = λ q m n a b c d is told next. s.joined q m n is told next;
  sized = λ q m a b is told. s.sized q m is told;
  gaps = λ units q a b. removed_elsewhere x.gaps h.units g units q a ∙ i.gaps units q;
  absent = none;
  absent_too = none;
  room = i.room;
}
  where
    none : (units : ℕ) → set.contains (set.remove x.gaps (h.units, g)) (units, g) ≡ false
    none units = removed_here x.gaps h.units g units (λ other. i.gaps units g ∙ gap_there k.chunks g units h there free ∙ no (cases_Bool (eqb h.units units)) other)
      where
        no : (eqb h.units units ≡ true) ⊎ (eqb h.units units ≡ false) → units ≢ h.units → eqb h.units units ≡ false
        no (inl e) other = absurd (other (sym (eqb-true h.units units e)))
        no (inr e) other = e

module _ (xs : List Span) (v : Chunks) (x : GapIndex) (g : ℕ) where
  -- a second chunk, which is a gap, is taken out of the index
  pub but_gap_too : (e : ℕ) (h : Head) → IsSoundBut xs v x g g → head_at v e ≡ Some h → h.busy ≡ false → e ≢ g → IsSoundBut xs v (without_gap x h.units e) g e
  but_gap_too e h s there free apart = record {
    tiled = s.tiled;
    in_order = s.in_order;
    usable = s.usable;
    rows = s.rows;
    inside = s.inside;
    joined = λ q m n a b c d is told next. s.joined q m n a a c c is told next;
    sized = λ q m a b is told. s.sized q m a a is told;
    gaps = λ units q a b. removed_elsewhere x.gaps h.units e units q b ∙ s.gaps units q a a;
    absent = λ units. removed_elsewhere x.gaps h.units e units g (λ z. apart (sym z)) ∙ s.absent units;
    absent_too = λ units. removed_here x.gaps h.units e units (λ other. s.gaps units e apart apart ∙ gap_there v e units h there free ∙ no units (cases_Bool (eqb h.units units)) other);
    room = s.room;
  }
    where
      no : (units : ℕ) → (eqb h.units units ≡ true) ⊎ (eqb h.units units ≡ false) → units ≢ h.units → eqb h.units units ≡ false
      no units (inl e) other = absurd (other (sym (eqb-true h.units units e)))
      no units (inr e) other = e

  pub swapped : (e : ℕ) → IsSoundBut xs v x g e → IsSoundBut xs v x e g
  swapped e s = record {
    tiled = s.tiled;
    in_order = s.in_order;
    usable = s.usable;
    rows = s.rows;
    inside = s.inside;
    joined = λ q m n a b c d is told next. s.joined q m n b a d c is told next;
    sized = λ q m a b is told. s.sized q m b a is told;
    gaps = λ units q a b. s.gaps units q b a;
    absent = s.absent_too;
    absent_too = s.absent;
    room = s.room;
  }

  -- a gap that no gap follows, behind the chunk that may be anything, is put into the index
  pub put_behind : (e : ℕ) (h : Head) → IsSoundBut xs v x g e → head_at v e ≡ Some h → h.busy ≡ false → e ≢ g
      → ((n : Head) → head_at v (e + h.units) ≡ Some n → n.busy ≡ true)
      → ((q : ℕ) (m : Head) → head_at v q ≡ Some m → q + m.units ≡ e → q ≡ g)
      → IsSoundBut xs v (with_gap x h.units e) g g
  put_behind e h s there free apart next before = record {
    tiled = s.tiled;
    in_order = s.in_order;
    usable = s.usable;
    rows = s.rows;
    inside = s.inside;
    joined = λ q m n a b c d is told is_next. elim (cases_Bool (eqb q e)) [
      | inl z ↦
          let here : q ≡ e = eqb-true q e z in
          let same : m ≡ h = same_head m h (sym is ∙ subst (λ y. head_at v y ≡ Some h) (sym here) there) in
          next n (subst (λ (y : Head). head_at v (e + y.units) ≡ Some n) same (subst (λ y. head_at v (y + m.units) ≡ Some n) here is_next))
      | inr z ↦ s.joined q m n a (eqb-false q e z) c (λ y. a (before q m is y)) is told is_next
    ];
    sized = λ q m a b is told. elim (cases_Bool (eqb q e)) [
      | inl z ↦
          let here : q ≡ e = eqb-true q e z in
          let same : m ≡ h = same_head m h (sym is ∙ subst (λ y. head_at v y ≡ Some h) (sym here) there) in
          absurd (true≢false (sym told ∙ ap (λ (y : Head). y.busy) same ∙ free))
      | inr z ↦ s.sized q m a (eqb-false q e z) is told
    ];
    gaps = λ units q a b. elim (cases_Bool (eqb q e)) [
      | inl z ↦ subst (λ y. set.contains (set.insert x.gaps (h.units, e)) (units, y) ≡ is_gap_at v units y) (sym (eqb-true q e z)) (here_is units)
      | inr z ↦ inserted_elsewhere x.gaps h.units e units q (eqb-false q e z) ∙ s.gaps units q a (eqb-false q e z)
    ];
    absent = λ units. inserted_elsewhere x.gaps h.units e units g (λ z. apart (sym z)) ∙ s.absent units;
    absent_too = λ units. inserted_elsewhere x.gaps h.units e units g (λ z. apart (sym z)) ∙ s.absent units;
    room = s.room;
  }
    where
      here_is : (units : ℕ) → set.contains (set.insert x.gaps (h.units, e)) (units, e) ≡ is_gap_at v units e
      here_is units = inserted_here x.gaps h.units e units (s.absent_too units) ∙ sym (gap_there v e units h there free)

---- One change: the chunks between two granules become others

told_alike : (u : ℕ) (o : Option Head) (test : Head → Bool) → ((m : Head) → test (told_prev u m) ≡ test m) → for_some (option_map (told_prev u) o) test ≡ for_some o test
told_alike u None test alike = refl
told_alike u (Some m) test alike = alike m

told_place : (u q : ℕ) (o : Option Head) → place_if q (option_map (told_prev u) o) ≡ place_if q o
told_place u q None = refl
told_place u q (Some m) = refl

pub no_place : (q : ℕ) (o : Option Head) → ((m : Head) → o ≡ Some m → m.busy ≡ false) → place_if q o ≡ []
no_place q None f = refl
no_place q (Some m) f = ap (λ b. if b then place_of q m ∷ [] else []) (f m refl)

no_gap : (o : Option Head) (units : ℕ) → ((m : Head) → o ≡ Some m → ⊥) → for_some o (λ m. not m.busy && eqb m.units units) ≡ false
no_gap None units f = refl
no_gap (Some m) units f = absurd (f m refl)

-- the same chunk, which can have another chunk in front of it
pub record IsAlike (o : Option Head) (m : Head) : Type 0 where
  pub head : Head
  pub was : o ≡ Some head
  pub units : head.units ≡ m.units
  pub unused : head.unused ≡ m.unused
  pub busy : head.busy ≡ m.busy

pub alike_told : (u : ℕ) (o : Option Head) (m : Head) → option_map (told_prev u) o ≡ Some m → IsAlike o m
alike_told u None m e = absurd (let z : ⊥ = cc in z)
alike_told u (Some k) m e =
    let same : told_prev u k ≡ m = same_head (told_prev u k) m e in
    record { head = k; was = refl; units = ap (λ (y : Head). y.units) same; unused = ap (λ (y : Head). y.unused) same; busy = ap (λ (y : Head). y.busy) same }

-- The chunks of v from g to e become those of w, in a span of xs. Behind g one chunk starts there at most: at a before, at b after, and it is free.
pub record IsStep (xs : List Span) (v w : Chunks) (g e a b r u : ℕ) (h k : Head) : Type 0 where
  pub change : IsChange (head_at v) (head_at w) g e r h k
  pub tiled : IsTiled w
  pub long : length w.heads ≡ length v.heads
  pub followed : (to : ℕ) (hs : List Head) → IsRow w r e to hs → SomeRow w k.prev g to
  pub old : (q : ℕ) (m : Head) → g < q → q < e → head_at v q ≡ Some m → (q ≡ a) × (m.busy ≡ false)
  pub new : (q : ℕ) (m : Head) → g < q → q < e → head_at w q ≡ Some m → (q ≡ b) × (m.busy ≡ false) × (q + m.units ≤ e)
  pub fits : g + k.units ≤ e
  pub within : (g ≤ a) × (a < e) × (g ≤ b) × (b < e)
  pub size : g + u ≡ e
  pub span : IsOfSpan xs g u

module _ (xs : List Span) (v w : Chunks) (g e a b r u : ℕ) (h k : Head) (s : IsStep xs v w g e a b r u h k) where
  -- a chunk outside is as it was
  pub outside : (q : ℕ) (m : Head) → (q < g) ⊎ (e ≤ q) → head_at w q ≡ Some m → IsAlike (head_at v q) m
  outside q m (inl low) is = record { head = m; was = sym (s.change.below q low) ∙ is; units = refl; unused = refl; busy = refl }
  outside q m (inr high) is = elim (cases_order q e) [
    | inl z ↦ subst (λ y. IsAlike (head_at v y) m) (sym z) (alike_told r (head_at v e) m (sym s.change.at_end ∙ subst (λ y. head_at w y ≡ Some m) z is))
    | inr (inl less) ↦ absurd (omega arith)
    | inr (inr more) ↦ record { head = m; was = sym (s.change.above q more) ∙ is; units = refl; unused = refl; busy = refl }
  ]

  same_gap : (q units : ℕ) → (q < g) ⊎ (e ≤ q) → is_gap_at w units q ≡ is_gap_at v units q
  same_gap q units (inl low) = ap (λ o. for_some o (λ m. not m.busy && eqb m.units units)) (s.change.below q low)
  same_gap q units (inr high) = elim (cases_order q e) [
    | inl z ↦
        subst (λ y. is_gap_at w units y ≡ is_gap_at v units y) (sym z)
        (ap (λ o. for_some o (λ m. not m.busy && eqb m.units units)) s.change.at_end ∙ told_alike r (head_at v e) (λ m. not m.busy && eqb m.units units) (λ m. refl))
    | inr (inl less) ↦ absurd (omega arith)
    | inr (inr more) ↦ ap (λ o. for_some o (λ m. not m.busy && eqb m.units units)) (s.change.above q more)
  ]

  same_place : (q : ℕ) → (q < g) ⊎ (e ≤ q) → place_if q (head_at w q) ≡ place_if q (head_at v q)
  same_place q (inl low) = ap (place_if q) (s.change.below q low)
  same_place q (inr high) = elim (cases_order q e) [
    | inl z ↦ subst (λ y. place_if y (head_at w y) ≡ place_if y (head_at v y)) (sym z) (ap (place_if e) s.change.at_end ∙ told_place r e (head_at v e))
    | inr (inl less) ↦ absurd (omega arith)
    | inr (inr more) ↦ ap (place_if q) (s.change.above q more)
  ]

  -- in it, in front of it, or behind
  where_is : (q : ℕ) → ((q < g) ⊎ (e ≤ q)) ⊎ ((g ≡ q) ⊎ ((g < q) × (q < e)))
  where_is q = elim (cases_order g q) [
    | inl z ↦ inr (inl z)
    | inr (inr more) ↦ inl (inl more)
    | inr (inl less) ↦ elim (cases_lt q e) [ inl low ↦ inr (inr (less, low)) | inr high ↦ inl (inr high) ]
  ]

  -- a chunk that starts neither at g nor at b lies outside
  lies_outside : (q : ℕ) (m : Head) → q ≢ g → q ≢ b → head_at w q ≡ Some m → (q < g) ⊎ (e ≤ q)
  lies_outside q m other other_too is = elim (where_is q) [
    | inl out ↦ out
    | inr (inl here) ↦ absurd (other (sym here))
    | inr (inr low) ↦ absurd (other_too (s.new q m low.0 low.1 is).0)
  ]

  not_inside : (q y : ℕ) → (q < g) ⊎ (e ≤ q) → g ≤ y → y < e → q ≢ y
  not_inside q y (inl low) l m z = omega arith
  not_inside q y (inr high) l m z = omega arith

  pub places_but : HasSamePlacesBut g v w
  places_but q other = elim (where_is q) [
    | inl out ↦ same_place q out
    | inr (inl here) ↦ absurd (other (sym here))
    | inr (inr low) ↦
        no_place q (head_at w q) (λ m is. (s.new q m low.0 low.1 is).1) ∙ sym (no_place q (head_at v q) (λ m is. (s.old q m low.0 low.1 is).1))
  ]

  module _ (x : GapIndex) (t : IsSoundBut xs v x g a) where
    -- no gap in between is in the index
    nothing_in : (q units : ℕ) → g ≤ q → q < e → set.contains x.gaps (units, q) ≡ false
    nothing_in q units low high = elim (cases_Bool (eqb q g)) [
      | inl z ↦ subst (λ y. set.contains x.gaps (units, y) ≡ false) (sym (eqb-true q g z)) (t.absent units)
      | inr z ↦ elim (cases_Bool (eqb q a)) [
        | inl y ↦ subst (λ y. set.contains x.gaps (units, y) ≡ false) (sym (eqb-true q a y)) (t.absent_too units)
        | inr y ↦
            t.gaps units q (eqb-false q g z) (eqb-false q a y)
            ∙ no_gap (head_at v q) units (λ m is. eqb-false q a y (s.old q m (more_than (eqb-false q g z)) high is).0)
      ]
    ]
      where
        more_than : q ≢ g → g < q
        more_than other = elim (cases_order g q) [ inl z ↦ absurd (other (sym z)) | inr (inl less) ↦ less | inr (inr more) ↦ absurd (omega arith) ]

    tile_fits : (q : ℕ) (m : Head) → head_at w q ≡ Some m → IsOfSpan xs q m.units
    tile_fits q m is = elim (where_is q) [
      | inl out ↦ let o = outside q m out is in subst (IsOfSpan xs q) o.units (t.inside q o.head o.was)
      | inr (inl here) ↦
          let same : k ≡ m = same_head k m (sym s.change.new ∙ subst (λ y. head_at w y ≡ Some m) (sym here) is) in
          let units : k.units ≡ m.units = ap (λ (y : Head). y.units) same in
          lies_in_it q m.units (omega arith) (omega (arith, s.fits))
      | inr (inr low) ↦ lies_in_it q m.units (omega (arith, low.0)) (s.new q m low.0 low.1 is).2
    ]
      where
        lies_in_it : (q n : ℕ) → g ≤ q → q + n ≤ e → IsOfSpan xs q n
        lies_in_it q n low high = record {
          span = s.span.span;
          there = s.span.there;
          lies = record { from = omega (arith, s.span.lies.from); to = omega (arith, s.span.lies.to, s.size) };
        }

    joined_again : (q : ℕ) (m n : Head) → q ≢ g → q ≢ b → q + m.units ≢ g → q + m.units ≢ b → head_at w q ≡ Some m → m.busy ≡ false → head_at w (q + m.units) ≡ Some n → n.busy ≡ true
    joined_again q m n c d i j is free next =
        let out = lies_outside q m c d is in
        let out_too = lies_outside (q + m.units) n i j next in
        let o = outside q m out is in
        let p = outside (q + m.units) n out_too next in
        let same : q + o.head.units ≡ q + m.units = ap (λ y. q + y) o.units in
        sym p.busy
        ∙ t.joined q o.head p.head c (not_inside q a out s.within.0 s.within.1) (λ z. i (sym same ∙ z))
        (λ z. not_inside (q + m.units) a out_too s.within.0 s.within.1 (sym same ∙ z)) o.was (o.busy ∙ free) (subst (λ y. head_at v y ≡ Some p.head) (sym same) p.was)

    -- it goes through the change
    pub stepped : IsSoundBut xs w x g b
    stepped = record {
      tiled = s.tiled;
      in_order = t.in_order;
      usable = t.usable;
      rows = rows_changed v w g e r h k t.tiled s.change s.followed xs s.span.span u t.in_order s.span.there s.span.lies s.size t.rows;
      inside = tile_fits;
      joined = joined_again;
      sized = λ q m c d is told.
          let out = lies_outside q m c d is in
          let o = outside q m out is in
          let was = t.sized q o.head c (not_inside q a out s.within.0 s.within.1) o.was (o.busy ∙ told) in
          record { size = was.size; unused = omega (arith, was.unused, o.unused, o.units); most = was.most; units = subst (λ y. (y ≡ units_of was.size) ⊎ (y ≡ units_of was.size + 1)) o.units was.units };
      gaps = λ units q c d. elim (where_is q) [
        | inl out ↦ t.gaps units q c (not_inside q a out s.within.0 s.within.1) ∙ sym (same_gap q units out)
        | inr (inl here) ↦ absurd (c (sym here))
        | inr (inr low) ↦ nothing_in q units (omega (arith, low.0)) low.1 ∙ sym (no_gap (head_at w q) units (λ m is. d (s.new q m low.0 low.1 is).0))
      ];
      absent = t.absent;
      absent_too = λ units. nothing_in b units s.within.2 s.within.3;
      room = t.room ∙ sym s.long;
    }
