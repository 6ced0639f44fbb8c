-- A block that is claimed under Back makes its subsegment the hint.
use Rattle.std.proofs.Common.{◌≡◌, ℕ, zero, suc, ◌+◌, ◌-◌, ◌*◌, ◌/◌, ◌<◌, ◌≤◌, true, List, [], ◌∷◌, ◌++◌, Option, Some, refl, sym, ap, ◌∙◌, subst, arith, eq-eqb}
use Rattle.std.specs.Prelude.{nat_lt, nat_le, unwrap_or}
use Rattle.std.specs.List.{find}
use Rattle.std.proofs.lemmas.Bool.{and_parts, and_from, leb-true, ltb-true, le-leb, lt-ltb}
use Rattle.heap_model.specs.declared.Entry.{Entry}
use Rattle.heap_model.specs.declared.Kind.{Kind}
use Rattle.heap_model.specs.declared.Kind.TheVariants as kinds
use Rattle.heap_model.specs.declared.What.TheVariants as whats
use Rattle.heap_model.specs.Buckets.{bucket_pages, block_size, block_address, block_count}
use Rattle.heap_model.specs.State.{Setting, State, Area, BackPart, Span, holds, is_kind}
use Rattle.heap_model.specs.Backend.{in_span}
use Rattle.heap_model.specs.CallState.{Configuration, SpanHistory}
use Rattle.heap_model.specs.Search.{spans_of, is_span_of, first_of, hint_or}
use Rattle.heap_model.specs.Legal.{after, is_lfh_over, hints_with, put_hint}
use Rattle.heap_model.specs.History.{configuration_after, configuration_of}
use Rattle.heap_model.specs.Agreement.{AgreesFor}
use Rattle.heap_soundness.specs.Sound.{IsOneOf, AreInOrder}
use Rattle.heap_soundness.proofs.Lists.{found_in, found_passes, find_some}
use Rattle.heap_soundness.proofs.Spans.{same_span}
use Rattle.claim_rule.specs.Entries.{IsSettingOf, entry, setting_of}
use Rattle.claim_rule.specs.Shown.{hint_word}
use Rattle.claim_rule.proofs.Advance.{some_setting}
use Rattle.claim_rule.proofs.Lists.{after-append, legal_parts}
use Rattle.lfh_buckets.proofs.Seats.{block_end}
use Rattle.step_parts.proofs.Filters.{in_filter}
use Rattle.backend_fit.specs.Kept.{Kept, area_of}
use Rattle.backend_fit.specs.Sound.{IsSound}
use Rattle.heap_gate.specs.Token.{Token, now, Always}
use Rattle.heap_gate.specs.Calls.{Does}
use Rattle.lfh_claims.specs.Search.{own_slot}
use Rattle.lfh_spans.specs.Subsegments.{IsBackOf}
use Rattle.lfh_spans.proofs.Tagged.{spans_in_order}
use Rattle.lfh_search.specs.Acts.{by}
use Rattle.lfh_search.specs.Results.{Searches, HasPlaced, place}
use Rattle.lfh_search.specs.Passes.{IsThere}
use Rattle.lfh_search.proofs.Steps.{earlier, by-append}
use Rattle.lfh_search.proofs.Words.{left}
use Rattle.lfh_search.proofs.Heads.{mine_parts}
use Rattle.lfh_search.proofs.BucketPages.{bucket_pages_at}

-- the slot is the one that the search is for
pub slot_by_does : (c e : Token) (es : List Entry) (b d : ℕ) (f : Rattle.heap_model.specs.CallState.Search) → Does c e es → Searches c b d f → own_slot e ≡ own_slot c
slot_by_does c e es b d f x h =
    let s = setting_of e.opening e.roll in
    ap (λ (n : ℕ). Rattle.claim_rule.specs.Entries.slot_at e.roll n) x.number ∙ (h s (earlier c e es x s (some_setting e.opening e.roll))).slot

---- The subsegment that a block lies in

module _ (a : Area) (b t head i : ℕ) (x : Span) (order : AreInOrder 0 a.spans) (there : IsOneOf x (spans_of a b t)) (begins : x.first ≡ head) (pages : x.pages ≡ bucket_pages b) (below : i < block_count b) where
  abbrev start : ℕ
  start = block_address b head i

  among : IsOneOf x a.spans
  among = (in_filter (is_span_of b t) a.spans x there).0

  parts : (x.kind ≡ kinds.Lfh) × (x.bucket ≡ b) × (x.slot ≡ t)
  parts = mine_parts b t x (in_filter (is_span_of b t) a.spans x there).1

  over : is_lfh_over start x ≡ true
  over =
      let e = block_end b head i below in
      and_from (is_kind x.kind kinds.Lfh) (in_span (start / 4096) x) (ap (λ (k : Kind). is_kind k kinds.Lfh) parts.0)
      (and_from (nat_le x.first (start / 4096)) (nat_lt (start / 4096) (x.first + x.pages)) (le-leb x.first (start / 4096) (omega (arith, begins))) (lt-ltb (start / 4096) (x.first + x.pages) (within start (x.first + x.pages) (block_size b) (some b i below) (subst (λ (z : ℕ × ℕ). block_address b head i + block_size b ≤ 4096 * (z.0 + z.1)) (λ j. (sym begins j, sym pages j)) e))))
    where
      within : (y p size : ℕ) → 0 < size → y + size ≤ 4096 * p → y / 4096 < p
      within y p size s l = omega arith

      some : (b i : ℕ) → i < block_count b → 0 < block_size b
      some b i l = by (block_size b) l
        where
          by : (z : ℕ) → i < (4096 * bucket_pages b - 64) / z → 0 < z
          by zero l = absurd (omega arith)
          by (suc z) l = omega arith

  found : find (is_lfh_over start) a.spans ≡ Some x
  found =
      let r = find_some (is_lfh_over start) a.spans x among over in
      let p = and_parts (is_kind r.0.kind kinds.Lfh) (in_span (start / 4096) r.0) (found_passes (is_lfh_over start) a.spans r.0 r.1) in
      let p1 = and_parts (nat_le r.0.first (start / 4096)) (nat_lt (start / 4096) (r.0.first + r.0.pages)) p.1 in
      let o = and_parts (is_kind x.kind kinds.Lfh) (in_span (start / 4096) x) over in
      let q = and_parts (nat_le x.first (start / 4096)) (nat_lt (start / 4096) (x.first + x.pages)) o.1 in
      let same = same_span 0 a.spans r.0 x (start / 4096) order (found_in (is_lfh_over start) a.spans r.0 r.1) among
      (leb-true r.0.first (start / 4096) p1.0) (ltb-true (start / 4096) (r.0.first + r.0.pages) p1.1) (leb-true x.first (start / 4096) q.0) (ltb-true (start / 4096) (x.first + x.pages) q.1) in
      r.1 ∙ ap Some same

  -- .. is the hint behind its place
  pub hint_placed : (r : SpanHistory) → hint_word a (put_hint a r start true) b t ≡ head
  hint_placed r =
      let here : hints_with r.hints (Some x) b t ≡ Some x.first = named x.bucket x.slot parts.1 parts.2 in
      ap (λ (o : Option Span). unwrap_or (hint_or (hints_with r.hints o b t) (first_of (spans_of a b t))) 0) found
      ∙ (ap (λ (o : Option ℕ). unwrap_or (hint_or o (first_of (spans_of a b t))) 0) here ∙ begins)
    where
      named : (u v : ℕ) → u ≡ b → v ≡ t → hints_with r.hints (Some (record x { bucket = u; slot = v })) b t ≡ Some x.first
      named u v e f = let e1 = eq-eqb b u (sym e) in let e2 = eq-eqb t v (sym f) in rw (e1, e2) refl

---- Behind the claim

module _ (c e : Token) (back : Kept) (b head i : ℕ) (h : HasPlaced c e b head i) (there : IsThere (area_of back) b (own_slot c) head) (stands : IsBackOf c back) (sound : IsSound back)
    (held : Always c (λ s. holds (now s c).state.gate c.number whats.Back ≡ true)) where
  abbrev n : ℕ
  n = c.number

  before : (s : Setting) → IsSettingOf e.opening e.roll s → IsSettingOf c.opening c.roll s
  before s q = earlier c e (by n (h.its ++ place b head i ∷ [])) h.moves.does s q

  -- what the readings have led to
  abbrev read : Setting → Configuration
  read s = configuration_after s (now s c) (by c.number h.its)

  agrees : (s : Setting) → IsSettingOf e.opening e.roll s → AgreesFor c.number (now s e) (after s (configuration_after s (now s c) (by c.number h.its)) (entry c.number (place b head i)))
  agrees s q = subst (AgreesFor n (now s e)) (ap (configuration_after s (now s c)) (by-append n h.its (place b head i ∷ [])) ∙ after-append s (now s c) (by n h.its) (entry n (place b head i) ∷ [])) (h.moves.agrees s q)

  state_is : (s : Setting) → ((read s).state ≡ (now s c).state) × ((read s).now.span_history ≡ (now s c).now.span_history)
  state_is s = left s n h.its (now s c) h.are

  held_then : (s : Setting) → IsSettingOf e.opening e.roll s → holds (read s).state.gate n whats.Back ≡ true
  held_then s q = ap (λ (z : State). holds z.gate n whats.Back) (state_is s).0 ∙ held s (before s q)

  -- Back is held still, and the back end is as it was
  pub held_behind : Always e (λ s. holds (now s e).state.gate e.number whats.Back ≡ true)
  held_behind s q = ap (λ (k : ℕ). holds (now s e).state.gate k whats.Back) h.moves.does.number ∙ ((agrees s q).locks whats.Back ∙ held_then s q)

  back_same : (s : Setting) → IsSettingOf e.opening e.roll s → (now s e).state.back ≡ (now s c).state.back
  back_same s q = (agrees s q).back (held_then s q) ∙ ap (λ (z : State). z.back) (state_is s).0

  pub back_behind : IsBackOf e back
  back_behind s q =
      let y = stands s (before s q) in
      record { lock = y.lock; limits = y.limits ∙ ap (λ o. o.limits) (sym h.moves.does.opening); part = y.part ∙ ap Rattle.heap_model.specs.Layers.sorted_back (sym (back_same s q)) }

  area_is : (s : Setting) → IsSettingOf e.opening e.roll s → (now s e).state.back.area ≡ area_of back
  area_is s q = ap (λ (p : BackPart). p.area) (back_same s q) ∙ sym (ap (λ (p : BackPart). p.area) (stands s (before s q)).part)

  pages_are : there.span.pages ≡ bucket_pages b
  pages_are =
      let s = setting_of e.opening e.roll in
      let q = some_setting e.opening e.roll in
      let p = in_filter (is_span_of b (own_slot c)) (area_of back).spans there.span there.there in
      let k = mine_parts b (own_slot c) there.span p.1 in
      let seen : configuration_of s e.seen ≡ now s e = ap (configuration_after s (configuration_of s e.seen)) (sym h.moves.does.prepared) in
      let i' : IsOneOf there.span (configuration_of s e.seen).state.back.area.spans = subst (λ (a : Area). IsOneOf there.span a.spans) (sym (ap (λ (m : Configuration). m.state.back.area) seen ∙ area_is s q)) p.0 in
      bucket_pages_at s e.seen (legal_parts s e.seen (h.moves.does.legal s q)).0 there.span i' k.0 ∙ ap bucket_pages k.1

  pub hint_here : Always e (λ s. hint_word (now s e).state.back.area (now s e).now.span_history b (own_slot c) ≡ head)
  hint_here s q =
      let hist : (now s e).now.span_history ≡ put_hint (area_of back) (now s c).now.span_history (block_address b head i) true = (agrees s q).span_history (held_then s q)
      ∙ (λ j. put_hint (sym (ap (λ (p : BackPart). p.area) (stands s (before s q)).part ∙ ap (λ (z : State). z.back.area) (sym (state_is s).0)) j) ((state_is s).1 j) (block_address b head i) (held_then s q j)) in
      (λ j. hint_word (area_is s q j) (hist j) b (own_slot c))
      ∙ hint_placed (area_of back) b (own_slot c) head i there.span (spans_in_order back sound) there.there there.begins pages_are h.below (now s c).now.span_history
