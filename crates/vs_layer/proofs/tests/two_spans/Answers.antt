use Rattle.std.proofs.Common.{◌≡◌, ◌∙◌, [], length, Option, None, inl, ap, subst, sym, arith}
use Rattle.std.specs.List.{AllByRecursion}
use Rattle.std.proofs.lemmas.List.{length-replicate}
use Rattle.heap_model.specs.State.{insert_span}
use Rattle.vs_headers.specs.declared.Head.{Head}
use Rattle.vs_layer.specs.Kept.{VsKept, vs_span}
use Rattle.vs_layer.specs.Effects.{LieApart}
use Rattle.vs_layer.proofs.tests.two_spans.Goals as goal

pub add_span-requires-clause-pages : goal.add_span-requires-clause-pages
add_span-requires-clause-pages c =
    let none : Option Head = None in
    let long : length c.in_ok-vs.vs.chunks.heads ≡ 65536 = ap (λ (k : VsKept). length k.chunks.heads) c.in_ok-vs.ensures ∙ length-replicate 65536 none in
    record { least = omega arith; most = omega arith; usable = omega arith; one_segment = omega arith; there = omega arith }

pub add_span-requires-clause-apart : goal.add_span-requires-clause-apart
add_span-requires-clause-apart c = subst (AllByRecursion (LieApart 2 33)) (sym (ap (λ (k : VsKept). k.spans) c.in_ok-vs.ensures)) tt

pub add_span-requires-2-clause-pages : goal.add_span-requires-2-clause-pages
add_span-requires-2-clause-pages c =
    let none : Option Head = None in
    let long : length c.add_span.new.self.chunks.heads ≡ 65536 = c.add_span.ensures.heap.granules ∙ ap (λ (k : VsKept). length k.chunks.heads) c.in_ok-vs.ensures ∙ length-replicate 65536 none in
    record { least = omega arith; most = omega arith; usable = omega arith; one_segment = omega arith; there = omega arith }

pub add_span-requires-2-clause-apart : goal.add_span-requires-2-clause-apart
add_span-requires-2-clause-apart c =
    let one : c.add_span.new.self.spans ≡ insert_span (vs_span 2 33) [] = c.add_span.ensures.spans ∙ ap (λ (k : VsKept). insert_span (vs_span 2 33) k.spans) c.in_ok-vs.ensures in
    subst (AllByRecursion (LieApart 35 16)) (sym one) (inl (omega arith), tt)
