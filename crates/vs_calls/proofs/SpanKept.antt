-- A block of VS was taken and dropped, and the layer has dropped it.
use Rattle.std.proofs.Common.{◌≡◌, ℕ, ◌<◌, Bool, true, false, not, List, [], ◌∷◌, Option, Some, None, refl, sym, ap, ◌∙◌, subst, arith}
use Rattle.heap_model.specs.declared.Act.{Act}
use Rattle.heap_model.specs.declared.Act.TheVariants as acts
use Rattle.heap_model.specs.declared.Kind.TheVariants as kinds
use Rattle.heap_model.specs.declared.Opening.{Opening}
use Rattle.heap_model.specs.declared.What.TheVariants as whats
use Rattle.heap_model.specs.Layers.{StandsForVs}
use Rattle.heap_model.specs.Legal.{has_place, are_used, leaves_whole}
use Rattle.heap_model.specs.Ranges.{vs_spans}
use Rattle.heap_model.specs.State.{Setting, BackPart, Span, Place}
use Rattle.heap_soundness.specs.Sound.{AreInOrder}
use Rattle.claim_rule.specs.Entries.{IsSettingOf, entry}
use Rattle.vs_split.specs.Tiles.{IsTiled}
use Rattle.vs_layer.specs.Effects.{TellsLast, HasDropped}
use Rattle.vs_layer.specs.Kept.{VsKept, block_at, span_over, places_without}
use Rattle.vs_layer.specs.Standing.{layer_of, Becomes, without_block, without_closed}
use Rattle.heap_gate.specs.Calls.{HasGiven, rested}
use Rattle.heap_gate.specs.Token.{Token, Always, now, is_out}
use Rattle.call_parts.specs.Entries.{with_all, HasAdded}
use Rattle.call_parts.proofs.Joining.{setting_before}
use Rattle.call_parts.proofs.Tokens.{added_all, added_rested, added_then, ended_given, ended_then}
use Rattle.vs_calls.specs.Blocks.{HasVs, IsUnderVs, HasTakenOut, size_at}
use Rattle.vs_calls.specs.Parts.{HasDroppedBy}
use Rattle.vs_calls.proofs.Held.{live_block}
use Rattle.vs_calls.proofs.SpansUsed.{all_used}
use Rattle.vs_calls.proofs.Within.{tiled_block}

pub under : (c : Token) (vs : VsKept) → HasVs c vs → IsUnderVs c vs
under c vs h =
    let s = h.holds.serving in
    record { call = h.call; call_is = s.call_is; inside = s.inside; whole = s.whole; free = s.free; held = ap (is_out whats.Vs) s.out_is; tells = h.holds.tells }

---- The token

abbrev pub out_list : ℕ → ℕ → List Act
out_list addr size = acts.Take addr size ∷ acts.Drop addr ∷ []

module _ (c t : Token) (addr size : ℕ) (x : HasTakenOut c t addr size) where
  pub out_added : HasAdded c t (out_list addr size)
  out_added =
      subst (λ (d : Token). HasAdded c d (out_list addr size)) (sym x.prepared)
      (added_then c (with_all c (out_list addr size)) (rested (with_all c (out_list addr size))) (out_list addr size) [] (added_all c (out_list addr size) refl) (added_rested (with_all c (out_list addr size))))

  pub out_out : t.out ≡ c.out
  out_out = ap (λ (d : Token). d.out) x.prepared

  pub out_whole : t.whole ≡ true
  out_whole = ap (λ (d : Token). d.whole) x.prepared

  pub out_free : t.free ≡ true
  out_free = ap (λ (d : Token). d.free) x.prepared

  pub out_inside : t.inside ≡ c.inside
  out_inside = ap (λ (d : Token). d.inside) x.prepared

  pub out_before : (s : Setting) → IsSettingOf t.opening t.roll s → IsSettingOf c.opening c.roll s
  out_before s q = setting_before c t (out_list addr size) out_added.goes s q

---- The block is not the last one of its span

-- the granules of a block
pub some_granules : (vs : VsKept) (addr size : ℕ) (p : Place) → IsTiled vs.chunks → size_at vs addr ≡ Some size → block_at vs addr ≡ Some p → 0 < p.granules
some_granules vs addr size p tiled e there =
    let b = live_block vs addr size e in
    let both : Some b.place ≡ Some p = sym b.there ∙ there in
    let same : b.place ≡ p = cc in
    let k = tiled_block vs addr size b.place tiled b.there b.live in
    let some = k.some in let is = k.granules ∙ refl in let eq = ap (λ (q : Place). q.granules) same in
    omega (arith, some, is, eq)

pub same_span_over : (vs : VsKept) (addr : ℕ) (p q : Place) (x y : Span) → block_at vs addr ≡ Some p → block_at vs addr ≡ Some q → span_over vs p ≡ Some x → span_over vs q ≡ Some y → x ≡ y
same_span_over vs addr p q x y a b d e =
    let both : Some p ≡ Some q = sym a ∙ b in
    let same : p ≡ q = cc in
    let spans : Some x ≡ Some y = sym d ∙ (ap (span_over vs) same ∙ e) in
    cc

not_false : (b : Bool) → not b ≡ false → b ≡ true
not_false true e = refl
not_false false e = absurd (let no : ⊥ = cc in no)

pub none_closed : (vs later : VsKept) (addr : ℕ) (o : Option (ℕ × ℕ)) → TellsLast vs addr false → HasDropped vs later addr o → o ≡ None
none_closed vs later addr None l d = refl
none_closed vs later addr (Some y) l d =
    let same = same_span_over vs addr l.place d.place l.span d.span l.block.there d.block.there l.block.over d.block.over in
    let left = not_false (has_place 4096 (places_without vs addr) l.span) (sym l.told) in
    let gone : has_place 4096 (places_without vs addr) l.span ≡ false = (λ i. has_place 4096 (sym d.places i) (same i)) ∙ d.closed.0 in
    let no : true ≡ false = sym left ∙ gone in
    absurd (let z : ⊥ = cc in z)

module _ (c t : Token) (vs later : VsKept) (h : HasVs c vs) (addr size : ℕ) (x : HasTakenOut c t addr size) (e : size_at vs addr ≡ Some size) (in_order : AreInOrder 0 vs.spans) (tiled : IsTiled vs.chunks)
    (l : TellsLast vs addr false) (o : Option (ℕ × ℕ)) (d : HasDropped vs later addr o) (becomes : Becomes vs later (λ v. without_block v addr) (without_closed o)) where
  still : has_place 4096 (places_without vs addr) l.span ≡ true
  still = not_false (has_place 4096 (places_without vs addr) l.span) (sym l.told)

  pub kept_tells : Always t (λ s. (leaves_whole (now s t).state whats.Vs ≡ true) × StandsForVs t.opening (now s t).state (layer_of later))
  kept_tells s q =
      let qc = out_before c t addr size x s q in
      let st = (now s c).state in
      let gone = x.gone s q in
      let spans : vs_spans (now s t).state.back.area ≡ vs_spans st.back.area = ap (λ (b : BackPart). vs_spans b.area) gone.back in
      let none = none_closed vs later addr o l d in
      let same : (xs : List Span) → without_closed o xs ≡ xs = λ xs. ap (λ (z : Option (ℕ × ℕ)). without_closed z xs) none in
      let tells = becomes c.opening st (now s t).state (h.holds.tells s qc) gone.vs (spans ∙ sym (same (vs_spans st.back.area))) in
      let used = all_used c.opening st vs (h.holds.tells s qc) addr (h.used s qc) in_order l.place l.span l.block.there l.block.over (some_granules vs addr size l.place tiled e l.block.there) still in (
        (λ i. are_used 4096 kinds.Vs (gone.vs i).places (gone.back i).area.spans) ∙ used,
        subst (λ (z : Opening). StandsForVs z (now s t).state (layer_of later)) (sym (out_added c t addr size x).goes.opening) tells,
      )

  pub kept_dropped : (f : Token) → HasGiven t f whats.Vs (entry t.number (acts.GiveLock whats.Vs) ∷ []) → HasDroppedBy c f vs addr (acts.GiveLock whats.Vs ∷ [])
  kept_dropped f g = record {
    size = size;
    size_is = e;
    ended = ended_then c t f (out_list addr size) (acts.GiveLock whats.Vs ∷ []) [] (out_added c t addr size x)
        (ended_given t f whats.Vs [] (acts.GiveLock whats.Vs ∷ []) g (out_out c t addr size x ∙ h.holds.serving.out_is) (out_free c t addr size x));
  }
