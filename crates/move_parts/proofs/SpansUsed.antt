-- A block of VS goes, and each span of VS that stays has a place still.
use Rattle.std.proofs.Common.{◌≡◌, ◌⊎◌, ℕ, ◌+◌, ◌*◌, ◌/◌, ◌<◌, Bool, true, false, ◌||◌, List, [], ◌∷◌, Some, refl, sym, ap, subst, ◌∙◌, arith, eqb, leb, inl, inr}
use Rattle.std.specs.List.{find, list_any, list_all}
use Rattle.std.proofs.lemmas.Bool.{cases_Bool, and_from, and_parts, eq-eqb, eqb-true, leb-true}
use Rattle.heap_model.specs.declared.Kind.TheVariants as kinds
use Rattle.heap_model.specs.declared.Opening.{Opening}
use Rattle.heap_model.specs.declared.What.TheVariants as whats
use Rattle.heap_model.specs.State.{State, Span, Place, VsPart, has_address, by_address, remove_found}
use Rattle.heap_model.specs.Search.{begins_at}
use Rattle.heap_model.specs.Legal.{lies_in, has_place, are_used, leaves_whole}
use Rattle.heap_model.specs.Layers.{StandsForVs}
use Rattle.heap_soundness.specs.Sound.{IsOneOf, AreInOrder}
use Rattle.heap_soundness.proofs.Lists.{found_passes, found_in, any_front}
use Rattle.heap_soundness.proofs.Spans.{above, same_span}
use Rattle.serial_laws.proofs.Sorted.{OnlyOne, any_sorted, removed_sorted}
use Rattle.vs_layer.specs.Kept.{VsKept, places_of, block_at, span_over, places_without}
use Rattle.vs_layer.specs.Standing.{layer_of}
use Rattle.vs_layer.proofs.Standing.{one_from}
use Rattle.vs_layer.proofs.Told.{block_is}

---- Lists

pub true_from : {A : Type 0} (t : A → Bool) (xs : List A) → ((x : A) → IsOneOf x xs → t x ≡ true) → list_all t xs ≡ true
true_from t [] f = refl
true_from t (x ∷ xs) f = and_from (t x) (list_all t xs) (f x (inl refl)) (true_from t xs (λ y i. f y (inr i)))

pub true_at : {A : Type 0} (t : A → Bool) (xs : List A) (x : A) → list_all t xs ≡ true → IsOneOf x xs → t x ≡ true
true_at t [] x h i = absurd i
true_at t (y ∷ ys) x h (inl e) = ap t (sym e) ∙ (and_parts (t y) (list_all t ys) h).0
true_at t (y ∷ ys) x h (inr i) = true_at t ys x (and_parts (t y) (list_all t ys) h).1 i

-- what is left when the span that begins at a page is gone
pub removed_parts : (from first : ℕ) (xs : List Span) (y : Span) → AreInOrder from xs → IsOneOf y (remove_found (begins_at first) xs) → IsOneOf y xs × (y.first ≡ first → ⊥)
removed_parts from first [] y a i = absurd i
removed_parts from first (x ∷ xs) y a i = elim (cases_Bool (eqb x.first first)) [
  | inl e ↦
      let j : IsOneOf y xs = rw e at i in
      let b = above (x.first + x.pages) xs y a.2 j in
      (inr j, λ z. omega (arith, z, b.0, a.1, eqb-true x.first first e))
  | inr e ↦
      let j : (x ≡ y) ⊎ IsOneOf y (remove_found (begins_at first) xs) = rw e at i in
      elim j [
        | inl k ↦ (inl k, λ z. differ x.first y.first first e (ap (λ (w : Span). w.first) k) z)
        | inr k ↦ let again = removed_parts (x.first + x.pages) first xs y a.2 k in (inr again.0, again.1)
      ]
]
  where
    differ : (a b first : ℕ) → eqb a first ≡ false → a ≡ b → b ≡ first → ⊥
    differ a b first e k z = let t = eq-eqb a first (k ∙ z) in let c : true ≡ false = sym t ∙ e in let y : ⊥ = cc in y

-- two spans in order in which one place lies are one
same_over : (xs : List Span) (x y : Span) (p : Place) → AreInOrder 0 xs → 0 < p.granules → IsOneOf x xs → IsOneOf y xs → lies_in 4096 x p ≡ true → lies_in 4096 y p ≡ true → x ≡ y
same_over xs x y p a some i j u v =
    let k = and_parts (leb (4096 * x.first) p.start) _ u in
    let l = and_parts (leb (4096 * y.first) p.start) _ v in
    let k0 = leb-true (4096 * x.first) p.start k.0 in
    let k1 = leb-true (p.start + 16 * p.granules) (4096 * (x.first + x.pages)) k.1 in
    let l0 = leb-true (4096 * y.first) p.start l.0 in
    let l1 = leb-true (p.start + 16 * p.granules) (4096 * (y.first + y.pages)) l.1 in
    same_span 0 xs x y (p.start / 4096) a i j (omega arith) (omega arith) (omega arith) (omega arith)

---- By the state

module _ (o : Opening) (st : State) (vs : VsKept) (t : StandsForVs o st (layer_of vs)) (addr : ℕ) where
  places_are : by_address st.vs.places ≡ places_of vs
  places_are = ap (λ (v : VsPart). v.places) (sym t.part)

  -- the places without the block, by the layer
  pub left_is : (y : Span) → has_place 4096 (remove_found (has_address addr) st.vs.places) y ≡ has_place 4096 (places_without vs addr) y
  left_is y =
      let only : OnlyOne (has_address addr) (by_address st.vs.places) = subst (OnlyOne (has_address addr)) (sym places_are) (one_from addr 0 vs.chunks.heads) in
      sym (any_sorted (lies_in 4096 y) (remove_found (has_address addr) st.vs.places))
      ∙ ap (list_any (lies_in 4096 y)) (removed_sorted (has_address addr) st.vs.places only ∙ ap (remove_found (has_address addr)) places_are)

  module _ (used : leaves_whole st whats.Vs ≡ true) (in_order : AreInOrder 0 vs.spans) (p : Place) (x : Span) (there : block_at vs addr ≡ Some p) (over : span_over vs p ≡ Some x) (some : 0 < p.granules) where
    abbrev left : List Place
    left = remove_found (has_address addr) st.vs.places

    there_now : find (has_address addr) st.vs.places ≡ Some p
    there_now = sym (block_is o st vs t addr) ∙ there

    pub x_in : IsOneOf x vs.spans
    x_in = found_in (λ y. lies_in 4096 y p) vs.spans x over

    x_over : lies_in 4096 x p ≡ true
    x_over = found_passes (λ y. lies_in 4096 y p) vs.spans x over

    -- a span keeps its places, if this one does
    still_used : (y : Span) → IsOneOf y vs.spans → (x ≡ y → has_place 4096 left y ≡ true) → has_place 4096 left y ≡ true
    still_used y i f = elim (cases_Bool (lies_in 4096 y p)) [
      | inl e ↦ f (same_over vs.spans x y p in_order some x_in i x_over e)
      | inr e ↦
          let now : has_place 4096 st.vs.places y ≡ true = true_at (has_place 4096 st.vs.places) vs.spans y (ap (list_all (has_place 4096 st.vs.places)) t.spans ∙ used) i in
          let k : (lies_in 4096 y p || has_place 4096 left y) ≡ true = sym (any_front (lies_in 4096 y) (has_address addr) st.vs.places p there_now) ∙ now in
          rw e at k
    ]

    -- where one place is left in its span
    pub all_used : has_place 4096 (places_without vs addr) x ≡ true → are_used 4096 kinds.Vs left st.back.area.spans ≡ true
    all_used stays =
        ap (list_all (has_place 4096 left)) (sym t.spans)
        ∙ true_from (has_place 4096 left) vs.spans (λ y i. still_used y i (λ e. subst (λ (z : Span). has_place 4096 left z ≡ true) e (left_is x ∙ stays)))

    -- .. and where it is closed
    pub rest_used : list_all (has_place 4096 left) (remove_found (begins_at x.first) vs.spans) ≡ true
    rest_used = true_from (has_place 4096 left) (remove_found (begins_at x.first) vs.spans) each
      where
        each : (y : Span) → IsOneOf y (remove_found (begins_at x.first) vs.spans) → has_place 4096 left y ≡ true
        each y i =
            let parts = removed_parts 0 x.first vs.spans y in_order i in
            still_used y parts.0 (λ e. absurd (parts.1 (ap (λ (z : Span). z.first) (sym e))))
