use Rattle.std.proofs.Common.{◌≡◌, true, sym, ap, ◌∙◌, subst}
use Rattle.std.specs.Prelude.{IfSome, IfNone}
use Rattle.heap_gate.specs.Token.{Token}
use Rattle.lfh_search.specs.declared.course.Course.{Course}
use Rattle.lfh_search.specs.Both.{IsAtStart, HasSearchedTo, HasSearchedInVain}
use Rattle.lfh_search.proofs.Options.{some_to, none_to}
use Rattle.move_front.proofs.Started.{at_start}
use Rattle.move_front.proofs.front.search_active.Goals as goal

pub search_under_both-requires-clause-start : goal.search_under_both-requires-clause-start
search_under_both-requires-clause-start c =
    let a = c.args.c.now in
    subst (λ (t : Token). IsAtStart t c.args.back.now c.new-course.result) (sym c.draw-draw.ensures.drawn)
    (at_start a c.args.back.now c.args.bucket c.requires.to_place c.check.ensures.stands c.requires.back c.new-course.result c.new-course.ensures.bucket c.requires.active c.check_slot.ensures
    (λ s q. ap (λ x. x.value) c.new-course.ensures.draw ∙ c.draw-draw.ensures.draw s q))

pub returns-clause-found : goal.returns-clause-found
returns-clause-found c =
    some_to c.search_under_both.result (HasSearchedTo (record c.args.c.now { drawn = true }) c.search_under_both.new.c c.args.back.now c.search_under_both.new.back c.new-course.result)
    (λ addr. (course : Course) × (course.bucket ≡ c.args.bucket) × HasSearchedTo (record c.args.c.now { drawn = true }) c.search_under_both.new.c c.args.back.now c.search_under_both.new.back course addr)
    (λ addr x. (c.new-course.result, c.new-course.ensures.bucket, x))
    (subst (λ (t : Token). IfSome c.search_under_both.result (HasSearchedTo t c.search_under_both.new.c c.args.back.now c.search_under_both.new.back c.new-course.result)) c.draw-draw.ensures.drawn c.search_under_both.ensures.found)

pub returns-clause-none : goal.returns-clause-none
returns-clause-none c =
    none_to c.search_under_both.result (HasSearchedInVain (record c.args.c.now { drawn = true }) c.search_under_both.new.c c.args.back.now c.search_under_both.new.back c.new-course.result)
    ((course : Course) × (course.bucket ≡ c.args.bucket) × HasSearchedInVain (record c.args.c.now { drawn = true }) c.search_under_both.new.c c.args.back.now c.search_under_both.new.back course)
    (λ x. (c.new-course.result, c.new-course.ensures.bucket, x))
    (subst (λ (t : Token). IfNone c.search_under_both.result (HasSearchedInVain t c.search_under_both.new.c c.args.back.now c.search_under_both.new.back c.new-course.result)) c.draw-draw.ensures.drawn c.search_under_both.ensures.cannot_be_served)
