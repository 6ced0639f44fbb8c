use Rattle.std.proofs.Common.{◌*◌, [], ◌∷◌, refl, ap, ◌∙◌}
use Rattle.heap_model.specs.declared.Call.TheVariants as calls
use Rattle.heap_model.specs.declared.Act.TheVariants as acts
use Rattle.heap_model.specs.declared.Kind.TheVariants as kinds
use Rattle.heap_model.specs.declared.Layer.TheVariants as layers
use Rattle.heap_model.specs.declared.What.TheVariants as whats
use Rattle.heap_model.specs.Geometry.{pages_of}
use Rattle.heap_model.specs.Legal.{after, is_empty}
use Rattle.heap_model.specs.Alone.{at_rest, by_zero}
use Rattle.serial_laws.proofs.Turns.{come_follow}
use Rattle.serial_laws.proofs.Allocate.{come, begins, spans, places_it, gives, found, leaves, whole_again}
use Rattle.heap_laws.proofs.laws.allocation_is_legal.Goals as goal

pub returns : goal.returns
returns c = λ s back vs lfh large words states disturbed span_history n flags first room paged empty whole fits low.
    let m0 = at_rest back vs lfh large words states disturbed span_history in
    let a0 = acts.Begin (calls.Alloc n flags) in
    let m1 = after s m0 (by_zero a0) in
    let m2 = after s m1 (by_zero acts.Enter) in
    let a2 = acts.TakeLock whats.Back in
    let m3 = after s m2 (by_zero a2) in
    let a3 = acts.Span first (pages_of n) kinds.Back 0 0 in
    let m4 = after s m3 (by_zero a3) in
    let a4 = acts.Place (4096 * first) (256 * pages_of n) layers.Back in
    let m5 = after s m4 (by_zero a4) in
    let a5 = acts.Give (4096 * first) n in
    let m6 = after s m5 (by_zero a5) in
    let a6 = acts.GiveLock whats.Back in
    let m7 = after s m6 (by_zero a6) in
    let r6 = acts.Leave ∷ [] in
    let r5 = a6 ∷ r6 in
    let r4 = a5 ∷ r5 in
    let r3 = a4 ∷ r4 in
    let r2 = a3 ∷ r3 in
    let r1 = a2 ∷ r2 in
    let there = found lfh vs.places back.places large first n empty in
    come_follow s m0 (a0 ∷ acts.Enter ∷ r1)
    ∙ come s m0 a0 (acts.Enter ∷ r1) (begins s _ room empty)
    (come s m1 acts.Enter r1 refl
    (come s m2 a2 r2 refl
    (come s m3 a3 r3 (spans s back.area first n paged fits low)
    (come s m4 a4 r4 (places_it first n)
    (come s m5 a5 r5 (rw there (gives n paged))
    (come s m6 a6 r6 (whole_again lfh vs.places back.places large first n empty back.area.spans whole)
    (come s m7 acts.Leave [] (ap is_empty (leaves lfh vs.places back.places large first n empty)) refl)))))))
