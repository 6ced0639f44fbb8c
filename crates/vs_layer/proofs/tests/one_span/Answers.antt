use Rattle.std.proofs.Common.{◌≡◌, ◌∙◌, length, Option, None, ap, subst, sym, arith}
use Rattle.std.specs.List.{AllByRecursion}
use Rattle.std.proofs.lemmas.List.{length-replicate}
use Rattle.vs_headers.specs.declared.Head.{Head}
use Rattle.vs_layer.specs.Kept.{VsKept}
use Rattle.vs_layer.specs.Effects.{LieApart}
use Rattle.vs_layer.proofs.tests.one_span.Goals as goal

pub add_span-requires-clause-pages : goal.add_span-requires-clause-pages
add_span-requires-clause-pages c =
    let none : Option Head = None in
    let long : length c.in_ok-vs.vs.chunks.heads ≡ 65536 = ap (λ (k : VsKept). length k.chunks.heads) c.in_ok-vs.ensures ∙ length-replicate 65536 none in
    record { least = omega arith; most = omega arith; usable = omega arith; one_segment = omega arith; there = omega arith }

pub add_span-requires-clause-apart : goal.add_span-requires-clause-apart
add_span-requires-clause-apart c = subst (AllByRecursion (LieApart 2 16)) (sym (ap (λ (k : VsKept). k.spans) c.in_ok-vs.ensures)) tt
