use Rattle.std.proofs.Common.{◌≡◌, ap, subst, ◌∙◌}
use Rattle.heap_model.specs.State.{Area}
use Rattle.heap_model.specs.Legal.{with_span}
use Rattle.backend_fit.specs.Effects.{with_segment, marked_run, marked_span, insert_run}
use Rattle.backend_fit.specs.Kept.{Kept, area_of, spans_of}
use Rattle.backend_fit.specs.Sound.{IsSound}
use Rattle.backend_fit.proofs.Standing.{takes}
use Rattle.backend_fit.proofs.Back.take.Goals as goal

pub returns-clause-stands : goal.returns-clause-stands
returns-clause-stands c =
    let first = c.in_ok-run.run'.first in
    let n : Kept = record { limits = c.self.inside.limits; region = c.place.new.region; words = c.place.new.descs } in
    let area : area_of n ≡ with_span (with_segment (area_of c.args.self.now) first) (marked_span first c.args.n c.args.mark) =
    c.place.ensures.area
    ∙ ap (λ (a : Area). with_span a (marked_span first c.args.n c.args.mark)) (c.in_ok-run.ensures.area ∙ ap (λ (k : Kept). with_segment (area_of k) first) c.self.view_is) in
    let spans : spans_of n ≡ insert_run (marked_run first c.args.n c.args.mark) (spans_of c.args.self.now) =
    c.place.ensures.marks ∙ ap (insert_run (marked_run first c.args.n c.args.mark)) (c.in_ok-run.ensures.marks ∙ ap spans_of c.self.view_is) in
    takes c.args.self.now n (ap (λ (k : Kept). k.limits) c.self.view_is) (subst IsSound c.self.view_is c.self.invariant) (marked_run first c.args.n c.args.mark) area spans
