-- A chunk that is cut and becomes a place.
use Rattle.std.proofs.Common.{◌≡◌, ℕ, ◌+◌, ◌-◌, ◌<◌, ◌≤◌, inl, inr, true, length, Option, Some, None, refl, sym, ap, subst, ◌∙◌, arith, List, [], if◌then◌else◌}
use Rattle.std.specs.List.{AllByRecursion}
use Rattle.std.specs.Option.{option_map}
use Rattle.std.proofs.lemmas.Bool.{cases_lt, cases_order, lt-ltb, le-ltb}
use Rattle.heap_model.specs.State.{Span}
use Rattle.heap_model.specs.Ranges.{taken_of}
use Rattle.vs_headers.specs.declared.Head.{Head}
use Rattle.vs_split.specs.Chunks.{Chunks, head_at, with_head, told_prev, gap, split_chunk}
use Rattle.vs_split.specs.Tiles.{IsTiled}
use Rattle.vs_split.proofs.TileLemmas.{same_head}
use Rattle.vs_split.proofs.TiledLemmas.{as_long}
use Rattle.vs_free_tree.specs.Gaps.{GapIndex}
use Rattle.vs_layer.specs.Kept.{VsKept}
use Rattle.vs_layer.specs.Steps.{with_gap}
use Rattle.vs_layer.specs.Sound.{AreUsablePages, IsOfSpan, IsSized, HasPlainGaps, AreChunksSound, IsIndexOf}
use Rattle.vs_layer.specs.Effects.{IsSpanOfChunks}
use Rattle.heap_soundness.specs.Sound.{AreInOrder}
use Rattle.vs_layer.proofs.Again.{placed_again}
use Rattle.vs_layer.proofs.Changes.{IsSoundBut, HasSamePlacesBut, put_behind}
use Rattle.vs_layer.proofs.Plain.{plain_split, plain_place}
use Rattle.vs_layer.proofs.Steps.{but_split, places_split, head_split, rest_split, behind_split, split_step, but_set, places_set, head_set}

told_is : (u : ℕ) (o : Option Head) (n : Head) → option_map (told_prev u) o ≡ Some n → (m : Head) × (o ≡ Some m) × (n.busy ≡ m.busy)
told_is u None n e = absurd (let z : ⊥ = cc in z)
told_is u (Some m) n e = (m, refl, ap (λ (h : Head). h.busy) (sym (same_head (told_prev u m) n e)))

-- the chunk h at g is cut behind its first n granules
pub record HasCut (xs : List Span) (v w : Chunks) (y : GapIndex) (g : ℕ) (h : Head) (taken : ℕ) : Type 0 where
  pub sound : IsSoundBut xs w y g g
  pub there : head_at w g ≡ Some (record h { units = taken })
  pub places : HasSamePlacesBut g v w
  pub long : length w.heads ≡ length v.heads
  pub key : w.key ≡ v.key
  pub plain : HasPlainGaps v → HasPlainGaps w

module _ (xs : List Span) (v : Chunks) (x : GapIndex) (g n : ℕ) (h : Head) (s : IsSoundBut xs v x g g) (at : head_at v g ≡ Some h) (two : 2 ≤ n) (next : (m : Head) → head_at v (g + h.units) ≡ Some m → m.busy ≡ true) where
  cut_away : n + 2 ≤ h.units → HasCut xs v (split_chunk v g h n) (with_gap x (h.units - n) (g + n)) g h n
  cut_away back = record {
    sound = put_behind xs (split_chunk v g h n) x g (g + n) (gap (h.units - n) n) split (rest_split xs v x g n h s at two back) refl (λ e. omega arith) busy_behind ends_here;
    there = head_split xs v x g n h s at two back;
    places = places_split xs v x g n h s at two back;
    long = (split_step xs v x g n h s at two back).long;
    key = refl;
    plain = λ p. plain_split v g h n p at;
  }
    where
      split : IsSoundBut xs (split_chunk v g h n) x g (g + n)
      split = but_split xs v x g n h s at two back

      busy_behind : (m : Head) → head_at (split_chunk v g h n) (g + n + (h.units - n)) ≡ Some m → m.busy ≡ true
      busy_behind m is =
          let t = told_is (h.units - n) (head_at v (g + h.units)) m (sym (behind_split xs v x g n h s at two back) ∙ is) in
          t.2 ∙ next t.0 t.1

      ends_here : (q : ℕ) (m : Head) → head_at (split_chunk v g h n) q ≡ Some m → q + m.units ≡ g + n → q ≡ g
      ends_here q m is e = elim (cases_order q g) [
        | inl z ↦ z
        | inr (inl less) ↦ absurd (omega (arith, (split.tiled.tiles q m is).apart g (record h { units = n }) less (head_split xs v x g n h s at two back)))
        | inr (inr more) ↦ absurd (omega (arith, (split.tiled.tiles g (record h { units = n }) (head_split xs v x g n h s at two back)).apart q m more is, (split.tiled.tiles q m is).some))
      ]

  -- as `cut` does
  pub has_cut : (w : Chunks) (y : GapIndex) (taken : ℕ) → taken ≡ taken_of n h.units → n ≤ h.units → (h.units < n + 2 → (w ≡ v) × (y ≡ x)) → (n + 2 ≤ h.units → w ≡ split_chunk v g h n) → (n + 2 ≤ h.units → y ≡ with_gap x (h.units - n) (g + n))
      → HasCut xs v w y g h taken
  has_cut w y taken e l whole chunks index = elim (cases_lt h.units (n + 2)) [
    | inl less ↦
        let all : taken ≡ h.units = e ∙ ap (λ b. if b then h.units else n) (lt-ltb (h.units - n) 2 (omega arith)) in
        let q = whole less in
        subst (λ (c : Chunks). HasCut xs v c y g h taken) (sym q.0) (subst (λ z. HasCut xs v v z g h taken) (sym q.1) (subst (HasCut xs v v x g h) (sym all) (record {
          sound = s;
          there = at;
          places = λ j other. refl;
          long = refl;
          key = refl;
          plain = λ p. p;
        })))
    | inr more ↦
        let front : taken ≡ n = e ∙ ap (λ b. if b then h.units else n) (le-ltb (h.units - n) 2 (omega arith)) in
        subst (λ (c : Chunks). HasCut xs v c y g h taken) (sym (chunks more)) (subst (λ z. HasCut xs v (split_chunk v g h n) z g h taken) (sym (index more))
        (subst (HasCut xs v (split_chunk v g h n) (with_gap x (h.units - n) (g + n)) g h) (sym front) (cut_away more)))
  ]

---- The chunk that may be anything becomes a place

pub record IsPlaced (xs : List Span) (v w : Chunks) (x : GapIndex) (g : ℕ) (k : Head) : Type 0 where
  pub sound : (n : VsKept) → n.spans ≡ xs → n.chunks ≡ w → AreChunksSound n
  pub index : IsIndexOf w x
  pub there : head_at w g ≡ Some k
  pub places : HasSamePlacesBut g v w
  pub long : length w.heads ≡ length v.heads
  pub key : w.key ≡ v.key
  pub plain : HasPlainGaps v → HasPlainGaps w

-- the same of the chunks and spans of another state
pub sound_of : (k n : VsKept) → n.spans ≡ k.spans → n.chunks ≡ k.chunks → AreChunksSound k → AreChunksSound n
sound_of k n es ec s = record {
  tiled = subst IsTiled (sym ec) s.tiled;
  in_order = subst (AreInOrder 0) (sym es) s.in_order;
  usable = subst (AllByRecursion AreUsablePages) (sym es) s.usable;
  rows = subst (λ ys. AllByRecursion (IsSpanOfChunks n.chunks) ys) (sym es) (subst (λ c. AllByRecursion (IsSpanOfChunks c) k.spans) (sym ec) s.rows);
  inside = λ q m is. subst (λ ys. IsOfSpan ys q m.units) (sym es) (s.inside q m (subst (λ c. head_at c q ≡ Some m) ec is));
  joined = λ q m j is free next. s.joined q m j (subst (λ c. head_at c q ≡ Some m) ec is) free (subst (λ c. head_at c (q + m.units) ≡ Some j) ec next);
  sized = λ q m is b. s.sized q m (subst (λ c. head_at c q ≡ Some m) ec is) b;
}

-- .. with so many bytes that its block does not use
pub has_placed : (xs : List Span) (v : Chunks) (x : GapIndex) (g unused : ℕ) (h : Head) → IsSoundBut xs v x g g → head_at v g ≡ Some h → IsSized (record h { unused = unused; busy = true })
    → IsPlaced xs v (with_head v g (Some (record h { unused = unused; busy = true }))) x g (record h { unused = unused; busy = true })
has_placed xs v x g unused h s at sized =
    let k : Head = record h { unused = unused; busy = true } in
    let w : Chunks = with_head v g (Some k) in
    let t = but_set xs v x g h k s at refl refl in
    let is = head_set xs v x g h k s at refl refl in
    let kept : VsKept = record { limits = record { segments = 0; large_pages = 0; slots = 0; callers = 0 }; spans = xs; chunks = w; served = []; active = [] } in
    let again = placed_again kept x g k t is refl sized in
    record {
      sound = λ n es ec. sound_of kept n es ec again.chunks;
      index = again.index;
      there = is;
      places = places_set xs v x g h k s at refl refl;
      long = as_long v g (Some k);
      key = refl;
      plain = λ p. plain_place v g k p refl;
    }
