-- What a back end stands for behind each of its calls.
use Rattle.std.proofs.Common.{◌≡◌, ℕ, ◌*◌, ◌-◌, ◌/◌, List, [], map, refl, sym, ap, subst, ◌∙◌, arith, inl, inr}
use Rattle.std.specs.Prelude.{IfSome, filter}
use Rattle.std.proofs.lemmas.Bool.{cases_Bool}
use Rattle.heap_model.specs.declared.Kind.TheVariants as kinds
use Rattle.heap_model.specs.declared.Limits.{Limits}
use Rattle.heap_model.specs.declared.Opening.{Opening}
use Rattle.heap_model.specs.declared.Run.{Run}
use Rattle.heap_model.specs.Marks.{back_mark}
use Rattle.heap_model.specs.State.{Area, BackPart, Span, Place, has_address, is_live_at, insert_place, by_address, change_found, remove_found, opening}
use Rattle.heap_model.specs.Layers.{StandsForBack, sorted_back}
use Rattle.heap_model.specs.Legal.{with_span, with_area, area_resized, resize_place}
use Rattle.heap_model.specs.Geometry.{page_bytes}
use Rattle.heap_model.specs.Search.{span_at}
use Rattle.serial_laws.proofs.Sorted.{OnlyOne, removed_sorted, changed_sorted}
use Rattle.page_ranges.specs.Spans.{span_of, AreRising}
use Rattle.page_ranges.proofs.Blocks.{taken_rise}
use Rattle.backend_fit.specs.Effects.{with_segment, without_span, with_size, decommitted, starts_at, insert_run, with_mark, place_of, part_with, part_without, part_resized}
use Rattle.backend_fit.specs.Kept.{Kept, area_of, spans_of, is_block_run, block_runs, places_in, part_of, layer_of, Becomes}
use Rattle.backend_fit.specs.Sound.{IsSound}
use Rattle.backend_fit.proofs.OfKind.{run_of, run_other, filter_rising}
use Rattle.backend_fit.proofs.Rising.{place_inserted, only_one, removed_place}
use Rattle.backend_fit.proofs.Changed.{live_test, blocks_without, blocks_changed, places_changed}

-- it is enough to speak of what the lock guards
becomes : (old new : Kept) (f : BackPart → BackPart) → new.limits ≡ old.limits → ((b : BackPart) → part_of old ≡ sorted_back b → part_of new ≡ sorted_back (f b)) → Becomes old new f
becomes old new f l h o st later t e = record { lock = refl; limits = l ∙ t.limits; part = h st.back t.part ∙ ap sorted_back (sym e) }

both : (k : Kept) (b : BackPart) → area_of k ≡ b.area → places_in k ≡ by_address b.places → part_of k ≡ sorted_back b
both k b e f = λ i. record { area = e i; places = f i }

pub opens : (k : Kept) (l : Limits) → k.limits ≡ l → area_of k ≡ opening.back.area → spans_of k ≡ [] → (o : Opening) → o.limits ≡ l → StandsForBack o opening (layer_of k)
opens k l e a s o f = record { lock = refl; limits = e ∙ sym f; part = both k opening.back a (ap (λ (rs : List Run). map place_of (filter is_block_run rs)) s) }

module _ (old new : Kept) (limits : new.limits ≡ old.limits) (sound : IsSound old) where
  abbrev runs : List Run
  runs = spans_of old

  rising : AreRising 0 runs
  rising = taken_rise old.words sound.whole

  -- the places of what it stands for, in order
  module _ (b : BackPart) (t : part_of old ≡ sorted_back b) where
    area_is : area_of old ≡ b.area
    area_is = ap (λ (x : BackPart). x.area) t

    places_are : places_in old ≡ by_address b.places
    places_are = ap (λ (x : BackPart). x.places) t

    only : (first : ℕ) → OnlyOne (has_address (4096 * first)) (by_address b.places)
    only first =
        subst (OnlyOne (has_address (4096 * first))) places_are
        (only_one (has_address (4096 * first)) (4096 * first) (λ (r : Run). refl) 0 (block_runs old.words) (filter_rising is_block_run 0 runs rising))

    only_live : (a : ℕ) → OnlyOne (is_live_at a) (by_address b.places)
    only_live a =
        subst (OnlyOne (is_live_at a)) places_are
        (only_one (is_live_at a) a (live_test 0 0 0 a) 0 (block_runs old.words) (filter_rising is_block_run 0 runs rising))

    -- the area that is resized, by its pages
    resized_area : (first n : ℕ) → with_size b.area first n ≡ area_resized page_bytes b.area (4096 * first) (256 * n)
    resized_area first n =
        let page : 4096 * first / 4096 ≡ first = omega arith in
        let pages : 256 * n / 256 ≡ n = omega arith in
        sym (ap (λ (q : ℕ). with_size b.area q (256 * n / 256)) page ∙ ap (λ (q : ℕ). with_size b.area first q) pages)

    taken_part : (r : Run) → area_of new ≡ with_span (with_segment (area_of old) r.first) (span_of r) → spans_of new ≡ insert_run r runs → part_of new ≡ sorted_back (part_with b r)
    taken_part r area spans =
        both new (part_with b r) (area ∙ ap (λ (x : Area). with_span (with_segment x r.first) (span_of r)) area_is)
        (ap (λ (rs : List Run). map place_of (filter is_block_run rs)) spans ∙ elim (cases_Bool (is_block_run r)) [
          | inl e ↦
              rw e
              (ap (map place_of) (run_of is_block_run r 0 runs rising e) ∙ (sym (place_inserted r (block_runs old.words)) ∙ ap (insert_place (place_of r)) places_are))
          | inr e ↦ rw e (ap (map place_of) (run_other is_block_run r runs e) ∙ places_are)
        ])

    given_part : (first : ℕ) → area_of new ≡ without_span (area_of old) first → spans_of new ≡ remove_found (starts_at first) runs → part_of new ≡ sorted_back (part_without b first)
    given_part first area spans =
        both new (part_without b first) (area ∙ ap (λ (x : Area). without_span x first) area_is)
        (ap (λ (rs : List Run). map place_of (filter is_block_run rs)) spans
        ∙ (ap (map place_of) (blocks_without first 0 runs rising)
        ∙ (sym (removed_place (has_address (4096 * first)) (4096 * first) (λ (r : Run). refl) first (block_runs old.words) refl)
        ∙ (ap (remove_found (has_address (4096 * first))) places_are
        ∙ sym (removed_sorted (has_address (4096 * first)) b.places (only first))))))

    resized_part : (first n unused : ℕ) → IfSome (span_at (area_of old) first) (λ (x : Span). x.kind ≡ kinds.Back) → area_of new ≡ with_size (area_of old) first n →
        spans_of new ≡ change_found (starts_at first) (with_mark n (back_mark unused)) runs → part_of new ≡ sorted_back (part_resized b first n unused)
    resized_part first n unused kind area spans =
        both new (part_resized b first n unused) (area ∙ ap (λ (x : Area). with_size x first n) area_is ∙ resized_area first n)
        (ap (λ (rs : List Run). map place_of (filter is_block_run rs)) spans
        ∙ (ap (map place_of) (blocks_changed first n unused runs kind)
        ∙ (sym (places_changed first n unused (block_runs old.words))
        ∙ (ap (change_found (is_live_at (4096 * first)) (resize_place (256 * n) (4096 * n - unused))) places_are
        ∙ sym (changed_sorted (is_live_at (4096 * first)) (resize_place (256 * n) (4096 * n - unused)) (λ (p : Place). refl) b.places (only_live (4096 * first)))))))

  pub takes : (r : Run) → area_of new ≡ with_span (with_segment (area_of old) r.first) (span_of r) → spans_of new ≡ insert_run r runs → Becomes old new (λ (b : BackPart). part_with b r)
  takes r area spans = becomes old new (λ (b : BackPart). part_with b r) limits (λ b t. taken_part b t r area spans)

  pub gives : (first : ℕ) → area_of new ≡ without_span (area_of old) first → spans_of new ≡ remove_found (starts_at first) runs → Becomes old new (λ (b : BackPart). part_without b first)
  gives first area spans = becomes old new (λ (b : BackPart). part_without b first) limits (λ b t. given_part b t first area spans)

  pub resizes : (first n unused : ℕ) → IfSome (span_at (area_of old) first) (λ (x : Span). x.kind ≡ kinds.Back) → area_of new ≡ with_size (area_of old) first n →
      spans_of new ≡ change_found (starts_at first) (with_mark n (back_mark unused)) runs → Becomes old new (λ (b : BackPart). part_resized b first n unused)
  resizes first n unused kind area spans = becomes old new (λ (b : BackPart). part_resized b first n unused) limits (λ b t. resized_part b t first n unused kind area spans)

  pub decommits : area_of new ≡ decommitted (area_of old) → spans_of new ≡ runs → Becomes old new (λ (b : BackPart). with_area b (decommitted b.area))
  decommits area spans =
      becomes old new (λ (b : BackPart). with_area b (decommitted b.area)) limits
      (λ b t. both new (with_area b (decommitted b.area)) (area ∙ ap decommitted (area_is b t)) (ap (λ (rs : List Run). map place_of (filter is_block_run rs)) spans ∙ places_are b t))
