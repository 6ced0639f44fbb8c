-- The spans of a back end, and one of VS among them.
use Rattle.std.proofs.Common.{◌≡◌, ℕ, ◌+◌, ◌*◌, ◌==◌, Bool, true, false, List, [], ◌∷◌, map, Option, Some, None, refl, sym, ap, subst, ◌∙◌, arith, inl, inr}
use Rattle.std.specs.Prelude.{option_map}
use Rattle.std.specs.List.{find, list_any}
use Rattle.std.proofs.lemmas.Bool.{cases_Bool, and_parts, eq-eqb, eqb-true, false≢true}
use Rattle.heap_model.specs.declared.Kind.{Kind}
use Rattle.heap_model.specs.declared.Kind.TheVariants as kinds
use Rattle.heap_model.specs.declared.Opening.{Opening}
use Rattle.heap_model.specs.declared.Run.{Run}
use Rattle.heap_model.specs.Layers.{StandsForBack}
use Rattle.heap_model.specs.Ranges.{is_of_kind}
use Rattle.heap_model.specs.Search.{begins_at, span_at}
use Rattle.heap_model.specs.State.{State, Area, BackPart, Span, has_address, is_kind, remove_found}
use Rattle.heap_soundness.specs.Sound.{IsOneOf, AreInOrder}
use Rattle.heap_soundness.proofs.Lists.{found_in, found_passes, find_some, any_found}
use Rattle.heap_soundness.proofs.Spans.{same_first}
use Rattle.heap_soundness.proofs.GapRuns.{filtered_cases}
use Rattle.claim_rule.specs.Shown.{lfh_spans}
use Rattle.page_ranges.specs.Spans.{span_of, AreRising}
use Rattle.page_ranges.proofs.Blocks.{taken_rise}
use Rattle.backend_fit.specs.Effects.{place_of}
use Rattle.backend_fit.specs.Kept.{Kept, area_of, spans_of, is_block_at, is_block_run, layer_of}
use Rattle.backend_fit.specs.Sound.{IsSound}
use Rattle.backend_fit.proofs.Told.{place_at_address}

order_of : (low : ℕ) (rs : List Run) → AreRising low rs → AreInOrder low (map span_of rs)
order_of low [] a = tt
order_of low (r ∷ rs) a = (a.0, a.1, order_of (r.first + r.pages) rs a.2)

mapped : (r : Run) (rs : List Run) → IsOneOf r rs → IsOneOf (span_of r) (map span_of rs)
mapped r [] i = absurd i
mapped r (q ∷ qs) (inl e) = inl (ap span_of e)
mapped r (q ∷ qs) (inr i) = inr (mapped r qs i)

kept_all : {A : Type 0} (t : A → Bool) (xs : List A) → find t xs ≡ None → remove_found t xs ≡ xs
kept_all t [] e = refl
kept_all {A = A} t (x ∷ xs) e = elim (cases_Bool (t x)) [
  | inl k ↦ let no : Some x ≡ None = rw k at e in absurd (let z : ⊥ = cc in z)
  | inr k ↦ rw k (ap (λ (ys : List A). x ∷ ys) (kept_all t xs (rw k at e)))
]

vs_not : (k other : Kind) → k ≡ kinds.Vs → is_kind kinds.Vs other ≡ false → is_kind k other ≡ true → ⊥
vs_not k other e n h = let z : false ≡ true = sym n ∙ (ap (λ (y : Kind). is_kind y other) (sym e) ∙ h) in false≢true z

module _ (o : Opening) (st : State) (back : Kept) (t : StandsForBack o st (layer_of back)) (sound : IsSound back) where
  pub area_is : area_of back ≡ st.back.area
  area_is = ap (λ (b : BackPart). b.area) t.part

  pub spans_in_order : AreInOrder 0 st.back.area.spans
  spans_in_order = subst (λ (a : Area). AreInOrder 0 a.spans) area_is (order_of 0 (spans_of back) (taken_rise back.words sound.whole))

  -- a span is found by its first page
  pub found_span : (x : Span) → IsOneOf x st.back.area.spans → span_at st.back.area x.first ≡ Some x
  found_span x i =
      let f = find_some (begins_at x.first) st.back.area.spans x i (eq-eqb x.first x.first refl) in
      let e : f.0.first ≡ x.first = eqb-true f.0.first x.first (found_passes (begins_at x.first) st.back.area.spans f.0 f.1) in
      f.1 ∙ ap Some (same_first 0 st.back.area.spans f.0 x spans_in_order (found_in (begins_at x.first) st.back.area.spans f.0 f.1) i e)

  module _ (first : ℕ) (x : Span) (there : span_at st.back.area first ≡ Some x) (kind : x.kind ≡ kinds.Vs) where
    begins : x.first ≡ first
    begins = eqb-true x.first first (found_passes (begins_at first) st.back.area.spans x there)

    one : (y : Span) → IsOneOf y st.back.area.spans → y.first ≡ first → y ≡ x
    one y i e = same_first 0 st.back.area.spans y x spans_in_order i (found_in (begins_at first) st.back.area.spans x there) (e ∙ sym begins)

    -- no span of the front end begins there
    pub none_of_front : list_any (begins_at first) (lfh_spans st.back.area) ≡ false
    none_of_front = elim (cases_Bool (list_any (begins_at first) (lfh_spans st.back.area))) [
      | inl e ↦
          let f = any_found (begins_at first) (lfh_spans st.back.area) e in
          let g = filtered_cases (is_of_kind kinds.Lfh) f.0 st.back.area.spans f.1 in
          let same = one f.0 g.0 (eqb-true f.0.first first f.2) in
          absurd (vs_not f.0.kind kinds.Lfh (ap (λ (y : Span). y.kind) same ∙ kind) refl g.1)
      | inr e ↦ e
    ]

    no_run : (o' : Option Run) → find (is_block_at (4096 * first)) (spans_of back) ≡ o' → o' ≡ None
    no_run None e = refl
    no_run (Some r) e =
        let p = and_parts (is_block_run r) (4096 * r.first == 4096 * first) (found_passes (is_block_at (4096 * first)) (spans_of back) r e) in
        let at = eqb-true (4096 * r.first) (4096 * first) p.1 in
        let same_page : r.first ≡ first = omega (arith, at) in
        let i = subst (λ (a : Area). IsOneOf (span_of r) a.spans) area_is (mapped r (spans_of back) (found_in (is_block_at (4096 * first)) (spans_of back) r e)) in
        let same = one (span_of r) i same_page in
        absurd (vs_not r.mark.kind kinds.Back (ap (λ (y : Span). y.kind) same ∙ kind) refl p.0)

    -- no block of the back end begins there
    pub no_block : remove_found (has_address (4096 * first)) st.back.places ≡ st.back.places
    no_block =
        kept_all (has_address (4096 * first)) st.back.places
        (place_at_address o st back t sound (4096 * first) ∙ ap (option_map place_of) (no_run (find (is_block_at (4096 * first)) (spans_of back)) refl))
