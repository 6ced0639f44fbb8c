use Rattle.std.proofs.Common.{◌≡◌, ◌&&◌, eqb, sym, ◌∙◌, arith}
use Rattle.std.proofs.lemmas.Bool.{and_parts, eqb-true}
use Rattle.heap_model.specs.declared.Act.TheVariants as acts
use Rattle.heap_model.specs.declared.Entry.{Entry}
use Rattle.heap_model.specs.declared.Kind.TheVariants as kinds
use Rattle.heap_model.specs.Geometry.{route_of, is_paged, pages_of}
use Rattle.heap_model.specs.State.{Span}
use Rattle.heap_model.specs.Search.{sought, request_of}
use Rattle.heap_model.specs.Ranges.{gaps}
use Rattle.heap_model.specs.CallState.{caller_view}
use Rattle.heap_model.proofs.GateSound.{row_of}
use Rattle.heap_model.proofs.ListLemmas.{for_some_parts}
use Rattle.heap_soundness.proofs.RowLemmas.{span_row}
use Rattle.heap_laws.proofs.laws.one_span.Goals as goal

pub returns : goal.returns
returns c = λ s m c f f' p p' b b' t t' h h'.
    let x : Span = record { first = f; pages = p; kind = kinds.Back; bucket = b; slot = t } in
    let x' : Span = record { first = f'; pages = p'; kind = kinds.Back; bucket = b'; slot = t' } in
    let e : Entry = record { caller = c; act = acts.Span f p kinds.Back b t } in
    let e' : Entry = record { caller = c; act = acts.Span f' p' kinds.Back b' t' } in
    let a = m.state.back.area in
    let r = span_row s a (gaps m.state) c (caller_view m c) (request_of s m c) x (row_of s m e h) in
    let r' = span_row s a (gaps m.state) c (caller_view m c) (request_of s m c) x' (row_of s m e' h') in
    let n = for_some_parts (sought s m.state c (m.now.calls c)) (λ n. is_paged (route_of n) && eqb p (pages_of n)) r.owner in
    let n' = for_some_parts (sought s m.state c (m.now.calls c)) (λ n. is_paged (route_of n) && eqb p' (pages_of n)) r'.owner in
    let same_n : n.0 ≡ n'.0 = cc in
    let pages : p ≡ pages_of n.0 = eqb-true p (pages_of n.0) (and_parts _ _ n.2).1 in
    let pages' : p' ≡ pages_of n'.0 = eqb-true p' (pages_of n'.0) (and_parts _ _ n'.2).1 in
    let same_pages : p ≡ p' = omega arith in
    let same_first : f ≡ f' = cc in
    let names = and_parts (eqb b 0) (eqb t 0) r.names in
    let names' = and_parts (eqb b' 0) (eqb t' 0) r'.names in
    let same_bucket : b ≡ b' = eqb-true b 0 names.0 ∙ sym (eqb-true b' 0 names'.0) in
    let same_slot : t ≡ t' = eqb-true t 0 names.1 ∙ sym (eqb-true t' 0 names'.1) in
    cc
