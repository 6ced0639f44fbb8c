-- What the states of VS and of the back end tell behind the entries of a new span and of a block in it.
use Rattle.std.proofs.Common.{◌≡◌, ◌⊎◌, ℕ, ◌+◌, Bool, true, ◌&&◌, List, [], ◌∷◌, refl, ap, ◌∙◌, ltb, inl, inr}
use Rattle.std.specs.List.{list_all}
use Rattle.std.proofs.lemmas.Bool.{cases_Bool, and_from, and_parts, or_left}
use Rattle.heap_model.specs.Geometry.{units_of, span_pages_of}
use Rattle.heap_model.specs.Layers.{StandsForVs, StandsForBack}
use Rattle.heap_model.specs.Legal.{lies_in, has_place, with_span}
use Rattle.heap_model.specs.Marks.{vs_mark}
use Rattle.heap_model.specs.Ranges.{vs_spans, gaps_of}
use Rattle.heap_model.specs.State.{Setting, State, Span, Place, insert_span}
use Rattle.claim_rule.specs.Entries.{setting_of}
use Rattle.claim_rule.proofs.Advance.{some_setting}
use Rattle.serial_laws.specs.VsCalls.{vs_span_for}
use Rattle.serial_laws.proofs.NewSpan.{lies_in_new_span}
use Rattle.serial_laws.proofs.VsAllocate.{count_is}
use Rattle.backend_fit.specs.Effects.{with_segment, marked_run, part_with}
use Rattle.backend_fit.specs.Kept.{Kept}
use Rattle.backend_fit.specs.Kept as backs
use Rattle.backend_fit.specs.Sound.{IsSound}
use Rattle.vs_layer.specs.Kept.{VsKept, vs_span, block_in}
use Rattle.vs_layer.specs.Kept as vss
use Rattle.vs_layer.specs.Standing.{layer_of, with_block}
use Rattle.heap_gate.specs.Token.{Token, Always, now}
use Rattle.vs_calls.specs.Parts.{HasHeldAnew}
use Rattle.vs_calls.proofs.InHand.{used_more}
use Rattle.vs_calls.proofs.SpanMay.{spans_with, order_now, none_now, fits_now}
use Rattle.move_parts.specs.Moves.{TellsVs, TellsBack}

all_inserted : (t : Span → Bool) (x : Span) (xs : List Span) → t x ≡ true → list_all t xs ≡ true → list_all t (insert_span x xs) ≡ true
all_inserted t x [] h k = and_from (t x) true h refl
all_inserted t x (y ∷ ys) h k =
    let p = and_parts (t y) (list_all t ys) k in
    elim (cases_Bool (ltb x.first y.first)) [
      | inl e ↦ rw e (and_from (t x) (t y && list_all t ys) h k)
      | inr e ↦ rw e (and_from (t y) (list_all t (insert_span x ys)) p.0 (all_inserted t x ys h p.1))
    ]

module _ (c t : Token) (vs later : VsKept) (back more : Kept) (n b : ℕ) (w : TellsVs c vs) (wb : TellsBack c back) (sound : IsSound back) (x : HasHeldAnew c t vs later back more n b) where
  -- the state with the span, and without the place
  abbrev pub spanned : Setting → State
  spanned s = let m = (now s c).state in record m { back = record { area = with_span (with_segment m.back.area x.first) (vs_span_for x.first n); places = m.back.places } }

  spans_more : Always c (λ s. vs_spans (spanned s).back.area ≡ insert_span (vs_span x.first (span_pages_of n)) (vs_spans (now s c).state.back.area))
  spans_more s q = spans_with (with_segment (now s c).state.back.area x.first) x.first n (order_now c vs back n x.first x.run w.tells wb sound x.range s q)

  pub span_used : Always c (λ s. list_all (has_place 4096 (block_in x.run n ∷ (now s c).state.vs.places)) (vs_spans (spanned s).back.area) ≡ true)
  span_used s q =
      let m = (now s c).state in
      let y : Span = vs_span x.first (span_pages_of n) in
      let p : Place = block_in x.run n in
      let lies : lies_in 4096 y p ≡ true =
      lies_in_new_span m.back.area.spans m.vs.places x.first n x.run (none_now c vs back n x.first x.run w.tells wb sound x.range s q) (fits_now c vs back n x.first x.run w.tells wb sound x.range s q) in
      ap (list_all (has_place 4096 (p ∷ m.vs.places))) (spans_more s q)
      ∙ all_inserted (has_place 4096 (p ∷ m.vs.places)) y (vs_spans m.back.area) (or_left (lies_in 4096 y p) (has_place 4096 m.vs.places y) lies) (used_more p m.vs.places (vs_spans m.back.area) (w.used s q))

  pub span_tells : Always c (λ s. (k : State) → k.vs ≡ with_block (now s c).state.vs x.run n → vs_spans k.back.area ≡ vs_spans (spanned s).back.area → StandsForVs c.opening k (layer_of later))
  span_tells s q k e f = x.becomes c.opening (now s c).state k (w.tells s q) e (f ∙ spans_more s q)

  pub span_count : (x.run.count ≡ units_of n) ⊎ (x.run.count ≡ units_of n + 1)
  span_count = count_is (gaps_of (insert_span (vs_span x.first (span_pages_of n)) vs.spans) (vss.places_of vs)) (units_of n) x.run x.range.fits

  pub span_limits : later.limits ≡ c.opening.limits
  span_limits =
      let s = setting_of c.opening c.roll in let q = some_setting c.opening c.roll in
      let sp = spanned s in
      (span_tells s q (record sp { vs = with_block (now s c).state.vs x.run n }) refl refl).limits

  -- the back end tells the span
  pub span_back : Always c (λ s. (k : State) → k.back ≡ part_with (now s c).state.back (marked_run x.first (span_pages_of n) vs_mark) → StandsForBack c.opening k (backs.layer_of more))
  span_back s q k e = x.becomes_back c.opening (now s c).state k (wb s q) e
