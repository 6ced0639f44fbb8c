-- A block of VS is placed in a span that was made for it.
use Rattle.std.proofs.Common.{◌≡◌, ℕ, ◌+◌, ◌*◌, ◌≤◌, List, ◌∷◌, Some, None, refl, sym, ap, subst, ◌∙◌, arith, eq-eqb}
use Rattle.std.specs.List.{find}
use Rattle.heap_model.specs.Backend.{back_place}
use Rattle.heap_model.specs.Geometry.{units_of, span_pages_of}
use Rattle.heap_model.specs.Layers.{StandsForVs, StandsForBack}
use Rattle.heap_model.specs.Marks.{vs_mark}
use Rattle.heap_model.specs.Ranges.{vs_spans, gaps_of, vs_place}
use Rattle.heap_model.specs.Runs.{Run}
use Rattle.heap_model.specs.State.{State, BackPart, Span, Place, VsPart, has_address, by_address, insert_place, insert_span}
use Rattle.claim_rule.specs.Entries.{setting_of}
use Rattle.claim_rule.proofs.Advance.{some_setting}
use Rattle.serial_laws.proofs.Sorted.{OnlyOne, found_sorted}
use Rattle.backend_fit.specs.Effects.{marked_run, part_with}
use Rattle.backend_fit.specs.Kept.{Kept, area_of}
use Rattle.backend_fit.specs.Kept as backs
use Rattle.vs_layer.specs.Effects.{HasPlaced}
use Rattle.vs_layer.specs.Kept.{VsKept, vs_span, places_of, place_for, block_at, block_in}
use Rattle.vs_layer.specs.Standing.{layer_of, Becomes, with_block}
use Rattle.vs_layer.proofs.Standing.{one_from}
use Rattle.heap_gate.specs.Token.{Token, Always, now}
use Rattle.call_parts.specs.Entries.{with_all}
use Rattle.vs_calls.specs.Parts.{span_acts, HasRange, HasHeldAnew}

pub least_pages : (n : ℕ) → 16 ≤ span_pages_of n
least_pages n = omega arith

pub most_pages : (n : ℕ) → n ≤ 131072 → span_pages_of n ≤ 33
most_pages n l = omega arith

module _ (c : Token) (vs : VsKept) (back : Kept) (tells_vs : Always c (λ s. StandsForVs c.opening (now s c).state (layer_of vs))) (tells_back : Always c (λ s. StandsForBack c.opening (now s c).state (backs.layer_of back))) where
  -- both layers are of one heap
  pub same_spans : vs_spans (area_of back) ≡ vs.spans
  same_spans =
      let s = setting_of c.opening c.roll in let q = some_setting c.opening c.roll in
      ap (λ (b : BackPart). vs_spans b.area) (tells_back s q).part ∙ sym (tells_vs s q).spans

  pub same_limits : vs.limits ≡ back.limits
  same_limits =
      let s = setting_of c.opening c.roll in let q = some_setting c.opening c.roll in
      (tells_vs s q).limits ∙ sym (tells_back s q).limits

  -- the block is found by its address
  pub found_new : (more later : VsKept) (n addr : ℕ) → places_of more ≡ places_of vs → (x : HasPlaced more later n addr) → block_at later addr ≡ Some (block_in x.run n)
  found_new more later n addr same x = ap (find (has_address addr)) listed ∙ (found_sorted (has_address addr) (block ∷ st.vs.places) only ∙ first)
    where
      block : Place
      block = block_in x.run n

      st : State
      st = (now (setting_of c.opening c.roll) c).state

      listed : places_of later ≡ by_address (block ∷ st.vs.places)
      listed = x.places ∙ ap (insert_place block) (same ∙ sym (ap (λ (v : VsPart). v.places) (sym (tells_vs (setting_of c.opening c.roll) (some_setting c.opening c.roll)).part)))

      only : OnlyOne (has_address addr) (by_address (block ∷ st.vs.places))
      only = subst (OnlyOne (has_address addr)) listed (one_from addr 0 later.chunks.heads)

      first : find (has_address addr) (block ∷ st.vs.places) ≡ Some block
      first = let e = eq-eqb (16 * x.run.first + 16) addr (sym x.address) in rw e refl

-- the range of the block
pub range : (vs more later : VsKept) (back : Kept) (n addr first pages : ℕ) → place_for vs n ≡ None → pages ≡ span_pages_of n → Some first ≡ back_place (area_of back) back.limits.segments pages
    → more.spans ≡ insert_span (vs_span first pages) vs.spans → places_of more ≡ places_of vs → (x : HasPlaced more later n addr) → HasRange vs back n first x.run
range vs more later back n addr first pages none e fits spans places x = record {
  no_gap = none;
  pages = (λ i. back_place (area_of back) back.limits.segments (sym e i)) ∙ sym fits;
  fits = (λ i. vs_place (gaps_of (insert_span (vs_span first (sym e i)) vs.spans) (sym places i)) (units_of n)) ∙ (ap (λ (xs : List Span). vs_place (gaps_of xs (places_of more)) (units_of n)) (sym spans) ∙ x.place);
}

-- what becomes of VS by the span and the block
pub both_become : (vs more later : VsKept) (n : ℕ) (run : Run) (x : Span) → Becomes vs more (λ v. v) (insert_span x) → Becomes more later (λ v. with_block v run n) (λ xs. xs) → Becomes vs later (λ v. with_block v run n) (insert_span x)
both_become vs more later n run x a b o st k t v e =
    let mid : State = record k { vs = st.vs } in
    b o mid k (a o st mid t refl e) v refl

pub held_anew : (c d : Token) (vs more later : VsKept) (back then : Kept) (n addr first pages reserved : ℕ) → (none : place_for vs n ≡ None) → (e : pages ≡ span_pages_of n) → (fits : Some first ≡ back_place (area_of back) back.limits.segments pages)
    → (spans : more.spans ≡ insert_span (vs_span first pages) vs.spans) → (places : places_of more ≡ places_of vs) → (x : HasPlaced more later n addr) → reserved ≡ (area_of back).reserved → block_at later addr ≡ Some (block_in x.run n)
    → d ≡ with_all c (span_acts reserved first n x.run) → Becomes vs more (λ v. v) (insert_span (vs_span first pages)) → Becomes more later (λ v. with_block v x.run n) (λ xs. xs)
    → backs.Becomes back then (λ b. part_with b (marked_run first pages vs_mark)) → HasHeldAnew c d vs later back then n addr
held_anew c d vs more later back then n addr first pages reserved none e fits spans places x r there p a b f = record {
  first = first;
  run = x.run;
  range = range vs more later back n addr first pages none e fits spans places x;
  at = x.address;
  there = there;
  prepared = p ∙ ap (λ (k : ℕ). with_all c (span_acts k first n x.run)) r;
  becomes = subst (λ (k : ℕ). Becomes vs later (λ v. with_block v x.run n) (insert_span (vs_span first k))) e (both_become vs more later n x.run (vs_span first pages) a b);
  becomes_back = subst (λ (k : ℕ). backs.Becomes back then (λ q. part_with q (marked_run first k vs_mark))) e f;
}
