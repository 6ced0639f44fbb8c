-- The last block of a span of VS was taken and dropped, and the layer has closed the span.
use Rattle.std.proofs.Common.{◌≡◌, ℕ, ◌<◌, Bool, true, false, not, List, [], ◌∷◌, length, Option, Some, None, refl, sym, ap, ◌∙◌, subst, arith}
use Rattle.std.specs.List.{list_all}
use Rattle.heap_model.specs.declared.Act.TheVariants as acts
use Rattle.heap_model.specs.declared.Call.{Call}
use Rattle.heap_model.specs.declared.Kind.{Kind}
use Rattle.heap_model.specs.declared.Kind.TheVariants as kinds
use Rattle.heap_model.specs.declared.Opening.{Opening}
use Rattle.heap_model.specs.declared.What.TheVariants as whats
use Rattle.heap_model.specs.Layers.{StandsForVs, StandsForBack, sorted_back}
use Rattle.heap_model.specs.Legal.{has_place, leaves_whole}
use Rattle.heap_model.specs.Ranges.{vs_spans, is_of_kind}
use Rattle.heap_model.specs.Search.{begins_at, span_at}
use Rattle.heap_model.specs.State.{BackPart, Place, is_kind, has_address, remove_found}
use Rattle.heap_soundness.specs.Sound.{IsOneOf, AreInOrder}
use Rattle.heap_soundness.proofs.GapRuns.{filtered_cases}
use Rattle.serial_laws.specs.VsCalls.{area_closed}
use Rattle.vs_split.specs.Tiles.{IsTiled}
use Rattle.backend_fit.specs.Kept.{Kept}
use Rattle.backend_fit.specs.Kept as backs
use Rattle.backend_fit.specs.Sound.{IsSound}
use Rattle.backend_fit.proofs.OfKind.{removed_of}
use Rattle.vs_layer.specs.Effects.{TellsLast, HasDropped}
use Rattle.vs_layer.specs.Kept.{VsKept, places_without}
use Rattle.vs_layer.specs.Standing.{layer_of, Becomes, without_block}
use Rattle.heap_gate.specs.Token.{Token, Always, now, is_out}
use Rattle.call_parts.specs.Calls.{HoldsBoth}
use Rattle.call_parts.specs.Entries.{HasEnded}
use Rattle.call_parts.proofs.Tokens.{ended_then, length_all}
use Rattle.vs_calls.specs.Blocks.{IsUnderVs, HasTakenOut, size_at}
use Rattle.vs_calls.specs.Parts.{HasDroppedBy, without_span, IsEmptySpan, MayEndSpan}
use Rattle.vs_calls.proofs.Area.{found_span}
use Rattle.vs_calls.proofs.SpanKept.{out_list, out_added, out_out, out_whole, out_free, out_inside, out_before, some_granules, same_span_over}
use Rattle.vs_calls.proofs.SpansUsed.{left_is, x_in, rest_used}

pub under_both : (c : Token) (call : Call) (vs : VsKept) (back : Kept) → HoldsBoth c call vs back → IsUnderVs c vs
under_both c call vs back h =
    let s = h.serving in
    record { call = call; call_is = s.call_is; inside = s.inside; whole = s.whole; free = s.free; held = ap (is_out whats.Vs) s.out_is; tells = h.tells_vs }

vs_kind : (k : Kind) → is_kind k kinds.Vs ≡ true → k ≡ kinds.Vs
vs_kind kinds.Header e = absurd (let z : ⊥ = cc in z)
vs_kind kinds.Free e = absurd (let z : ⊥ = cc in z)
vs_kind kinds.Vs e = refl
vs_kind kinds.Lfh e = absurd (let z : ⊥ = cc in z)
vs_kind kinds.Back e = absurd (let z : ⊥ = cc in z)

not_true : (b : Bool) → not b ≡ true → b ≡ false
not_true true e = absurd (let no : ⊥ = cc in no)
not_true false e = refl

module _ (c t : Token) (call : Call) (vs later : VsKept) (back : Kept) (h : HoldsBoth c call vs back) (used : Always c (λ s. leaves_whole (now s c).state whats.Vs ≡ true)) (sound : IsSound back)
    (addr size : ℕ) (x : HasTakenOut c t addr size) (e : size_at vs addr ≡ Some size) (in_order : AreInOrder 0 vs.spans) (tiled : IsTiled vs.chunks)
    (first pages : ℕ) (d : HasDropped vs later addr (Some (first, pages))) (becomes : Becomes vs later (λ v. without_block v addr) (remove_found (begins_at first))) where
  some : 0 < d.place.granules
  some = some_granules vs addr size d.place tiled e d.block.there

  page : d.span.first ≡ first
  page = sym d.closed.1

  -- in the state before
  among : Always c (λ s. IsOneOf d.span (now s c).state.back.area.spans × (is_of_kind kinds.Vs d.span ≡ true))
  among s q =
      let t' = h.tells_vs s q in
      filtered_cases (is_of_kind kinds.Vs) d.span (now s c).state.back.area.spans
      (subst (IsOneOf d.span) t'.spans (x_in c.opening (now s c).state vs t' addr (used s q) in_order d.place d.span d.block.there d.block.over some))

  found : Always c (λ s. span_at (now s c).state.back.area d.span.first ≡ Some d.span)
  found s q = found_span c.opening (now s c).state back (h.tells_back s q) sound d.span (among s q).0

  spans_less : Always c (λ s. vs_spans (area_closed (now s c).state.back.area first) ≡ remove_found (begins_at first) (vs_spans (now s c).state.back.area))
  spans_less s q =
      subst (λ (p : ℕ). vs_spans (area_closed (now s c).state.back.area p) ≡ remove_found (begins_at p) (vs_spans (now s c).state.back.area)) page
      (removed_of (is_of_kind kinds.Vs) (begins_at d.span.first) (now s c).state.back.area.spans d.span (found s q) (among s q).1)

  -- .. and behind
  empty : Always t (λ s. IsEmptySpan (now s t).state first)
  empty s q =
      let qc = out_before c t addr size x s q in
      let m = (now s c).state in
      let gone = x.gone s q in
      record {
        span = d.span;
        there = (λ i. span_at (gone.back i).area (sym page i)) ∙ found s qc;
        kind = vs_kind d.span.kind (among s qc).1;
        none = (λ i. has_place 4096 (gone.vs i).places d.span) ∙ (left_is c.opening m vs (h.tells_vs s qc) addr d.span ∙ (ap (λ (ps : List Place). has_place 4096 ps d.span) (sym d.places) ∙ d.closed.0));
      }

  rest_whole : Always t (λ s. leaves_whole (without_span (now s t).state first) whats.Vs ≡ true)
  rest_whole s q =
      let qc = out_before c t addr size x s q in
      let m = (now s c).state in
      let gone = x.gone s q in
      let left : List Place = remove_found (has_address addr) m.vs.places in
      let all : list_all (has_place 4096 left) (remove_found (begins_at d.span.first) vs.spans) ≡ true = rest_used c.opening m vs (h.tells_vs s qc) addr (used s qc) in_order d.place d.span d.block.there d.block.over some in
      (λ i. list_all (has_place 4096 (gone.vs i).places) (vs_spans (area_closed (gone.back i).area first)))
      ∙ (ap (list_all (has_place 4096 left)) (spans_less s qc ∙ (λ i. remove_found (begins_at (sym page i)) (sym (h.tells_vs s qc).spans i))) ∙ all)

  rest_tells : Always t (λ s. StandsForVs t.opening (without_span (now s t).state first) (layer_of later))
  rest_tells s q =
      let qc = out_before c t addr size x s q in
      let gone = x.gone s q in
      let spans : vs_spans (area_closed (now s t).state.back.area first) ≡ remove_found (begins_at first) (vs_spans (now s c).state.back.area) = ap (λ (b : BackPart). vs_spans (area_closed b.area first)) gone.back ∙ spans_less s qc in
      subst (λ (o : Opening). StandsForVs o (without_span (now s t).state first) (layer_of later)) (sym (out_added c t addr size x).goes.opening)
      (becomes c.opening (now s c).state (without_span (now s t).state first) (h.tells_vs s qc) gone.vs spans)

  back_still : Always t (λ s. StandsForBack t.opening (now s t).state (backs.layer_of back))
  back_still s q =
      let qc = out_before c t addr size x s q in
      let b = h.tells_back s qc in
      let gone = x.gone s q in
      subst (λ (o : Opening). StandsForBack o (now s t).state (backs.layer_of back)) (sym (out_added c t addr size x).goes.opening)
      (record { lock = b.lock; limits = b.limits; part = b.part ∙ ap sorted_back (sym gone.back) })

  pub may_end : MayEndSpan t later back first
  may_end =
      let a = (out_added c t addr size x).steady in
      record {
        call = call;
        call_is = a.call ∙ h.serving.call_is;
        inside = out_inside c t addr size x ∙ h.serving.inside;
        whole = out_whole c t addr size x;
        free = out_free c t addr size x;
        out_is = out_out c t addr size x ∙ h.serving.out_is;
        owes = a.owes ∙ h.serving.owes;
        empty = empty;
        used = rest_whole;
        tells_vs = rest_tells;
        tells_back = back_still;
      }

  pub end_room : length t.prepared < 16
  end_room =
      let a = ap (λ (k : Token). length k.prepared) x.prepared in
      let b = length_all c (out_list addr size) in
      let none = ap length h.serving.prepared in
      omega (arith, a, b, none)

  pub closed_by : (f : Token) → HasEnded t f (acts.Unspan first ∷ acts.GiveLock whats.Back ∷ acts.GiveLock whats.Vs ∷ []) [] → HasDroppedBy c f vs addr (acts.Unspan first ∷ acts.GiveLock whats.Back ∷ acts.GiveLock whats.Vs ∷ [])
  closed_by f g = record {
    size = size;
    size_is = e;
    ended = ended_then c t f (out_list addr size) (acts.Unspan first ∷ acts.GiveLock whats.Back ∷ acts.GiveLock whats.Vs ∷ []) [] (out_added c t addr size x) g;
  }

-- where the block is the last one of its span, the span is closed
pub closes : (vs later : VsKept) (addr : ℕ) (o : Option (ℕ × ℕ)) → TellsLast vs addr true → HasDropped vs later addr o → o ≡ None → ⊥
closes vs later addr (Some y) l d e = let z : ⊥ = cc in z
closes vs later addr None l d e =
    let gone : has_place 4096 (places_without vs addr) l.span ≡ false = not_true (has_place 4096 (places_without vs addr) l.span) (sym l.told) in
    let left : has_place 4096 (places_without vs addr) l.span ≡ true =
    (λ i. has_place 4096 (sym d.places i) (same_span_over vs addr l.place d.place l.span d.span l.block.there d.block.there l.block.over d.block.over i)) ∙ d.closed.0 in
    let no : true ≡ false = sym left ∙ gone in
    let z : ⊥ = cc in z
