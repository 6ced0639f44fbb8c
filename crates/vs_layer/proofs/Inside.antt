-- Each place lies in a span.
use Rattle.std.proofs.Common.{◌≡◌, ℕ, suc, ◌+◌, true, List, [], ◌∷◌, get_or, Option, Some, None, refl, sym, ap, subst, arith, inl, inr}
use Rattle.std.specs.List.{AllByRecursion}
use Rattle.std.proofs.lemmas.Bool.{cases_Bool}
use Rattle.heap_model.specs.State.{Span, Place}
use Rattle.heap_soundness.specs.Sound.{IsOneOf, AreAt, IsInVs}
use Rattle.vs_headers.specs.declared.Head.{Head}
use Rattle.vs_split.specs.Chunks.{head_at}
use Rattle.vs_layer.specs.Kept.{VsKept, place_of, places_from, places_of}
use Rattle.vs_layer.specs.Sound.{spans_from, AreChunksSound}
use Rattle.vs_layer.proofs.Spans.{told_at}

all_from : (P : Place → Type 0) (g : ℕ) (os : List (Option Head)) → ((n i : ℕ) (h : Head) → n ≡ g + i → get_or os i None ≡ Some h → h.busy ≡ true → P (place_of n h)) → AllByRecursion P (places_from g os)
all_from P g [] f = tt
all_from P g (None ∷ os) f = all_from P (suc g) os (λ n i h e t b. f n (suc i) h (omega (arith, e)) t b)
all_from P g (Some h ∷ os) f =
    let rest = all_from P (suc g) os (λ n i h e t b. f n (suc i) h (omega (arith, e)) t b) in
    elim (cases_Bool h.busy) [
      | inl e ↦ let first = f g 0 h (omega arith) refl e in rw e (first, rest)
      | inr e ↦ rw e rest
    ]

pub in_spans : (k : VsKept) (told : List ℕ) → k.spans ≡ spans_from 0 told → AreChunksSound k → AreAt (IsInVs k.spans) (places_of k)
in_spans k told spans sound =
    all_from (λ p. IsInVs k.spans p.start p.granules) 0 k.chunks.heads (λ n i h e t b.
    let same : i ≡ n = omega (arith, e) in
    let there : head_at k.chunks n ≡ Some h = subst (λ j. head_at k.chunks j ≡ Some h) same t in
    let x = sound.inside n h there in
    let from = x.lies.from in
    let to = x.lies.to in
    record {
      span = x.span;
      there = x.there;
      kind = ap (λ (y : Span). y.kind) (sym (told_at 0 told x.span (subst (IsOneOf x.span) spans x.there)).is);
      behind = omega (arith, from);
      before = omega (arith, to);
      two = (sound.tiled.tiles n h there).some;
      aligned = omega arith;
    })
