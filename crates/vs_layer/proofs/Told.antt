-- What the variable-size layer tells of each state that it stands for.
use Rattle.std.proofs.Common.{◌≡◌, ℕ, ◌||◌, List, sym, ap, subst, ◌∙◌, leb, count_by}
use Rattle.std.specs.List.{find}
use Rattle.heap_model.specs.declared.Opening.{Opening}
use Rattle.heap_model.specs.Geometry.{units_of}
use Rattle.heap_model.specs.Runs.{Run}
use Rattle.heap_model.specs.Ranges.{gaps, gaps_of, vs_place}
use Rattle.heap_model.specs.State.{State, Span, Place, VsPart, has_address, by_address}
use Rattle.heap_model.specs.Stay.{is_due, is_live_in}
use Rattle.heap_model.specs.Layers.{StandsForVs}
use Rattle.serial_laws.proofs.Sorted.{OnlyOne, found_sorted}
use Rattle.vs_layer.specs.Kept.{VsKept, places_of, gaps_in, place_for, block_at, part_of}
use Rattle.vs_layer.specs.Standing.{layer_of}
use Rattle.vs_layer.proofs.ByPlace.{gaps_sorted, count_sorted}
use Rattle.vs_layer.proofs.Standing.{one_from}

module _ (o : Opening) (st : State) (k : VsKept) (t : StandsForVs o st (layer_of k)) where
  places_are : by_address st.vs.places ≡ places_of k
  places_are = ap (λ (v : VsPart). v.places) (sym t.part)

  pub gaps_are : gaps_in k ≡ gaps st
  gaps_are = sym (gaps_sorted k.spans st.vs.places (places_of k) places_are) ∙ ap (λ (xs : List Span). gaps_of xs st.vs.places) t.spans

  pub place_is : (n : ℕ) → place_for k n ≡ vs_place (gaps st) (units_of n)
  place_is n = ap (λ (rs : List Run). vs_place rs (units_of n)) gaps_are

  one_has : (addr : ℕ) → OnlyOne (has_address addr) (by_address st.vs.places)
  one_has addr = subst (OnlyOne (has_address addr)) (sym places_are) (one_from addr 0 k.chunks.heads)

  pub block_is : (addr : ℕ) → block_at k addr ≡ find (has_address addr) st.vs.places
  block_is addr = ap (find (has_address addr)) (sym places_are) ∙ found_sorted (has_address addr) st.vs.places (one_has addr)

  pub due_is : (bucket : ℕ) → is_due (part_of k) bucket ≡ is_due st.vs bucket
  due_is bucket =
      ap (λ (n : ℕ). leb 17 n || leb 2040 ((part_of k).served bucket)) (ap (λ (ps : List Place). count_by (is_live_in bucket) ps) (sym places_are) ∙ count_sorted (is_live_in bucket) st.vs.places)
      ∙ ap (λ (v : VsPart). leb 17 (count_by (is_live_in bucket) st.vs.places) || leb 2040 (v.served bucket)) t.part
