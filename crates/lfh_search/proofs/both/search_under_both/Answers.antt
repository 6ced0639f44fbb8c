use Rattle.std.proofs.Common.{ℕ, ◌<◌, ◌∙◌, sym, ap, subst}
use Rattle.heap_model.specs.declared.What.TheVariants as whats
use Rattle.heap_model.specs.CallState.{not_begun}
use Rattle.heap_gate.specs.Token.{is_out}
use Rattle.lfh_search.specs.Both.{HasSearchedTo, HasSearchedInVain}
use Rattle.lfh_search.proofs.Words.{same_slot}
use Rattle.lfh_search.proofs.Options.{some_to, none_to}
use Rattle.lfh_search.proofs.Joined.{read_first, vain_first}
use Rattle.lfh_search.proofs.both.search_under_both.Goals as goal

pub go_on_under_both-requires-clause-slot : goal.go_on_under_both-requires-clause-slot
go_on_under_both-requires-clause-slot g c =
    let x = c.in-Spent.ensures.spent in
    subst (λ (n : ℕ). n < 16) (sym (same_slot c.args.c.now c.begin_under_back.new.c x.its x.are x.runs c.args.course.now.bucket c.args.course.now.draw.value not_begun c.requires.start.searching)) c.requires.slot

pub go_on_under_both-requires-clause-vs : goal.go_on_under_both-requires-clause-vs
go_on_under_both-requires-clause-vs g c = ap (is_out whats.Vs) c.in-Spent.ensures.spent.stands.out ∙ c.requires.vs

pub go_on_under_both-requires-clause-under : goal.go_on_under_both-requires-clause-under
go_on_under_both-requires-clause-under g c = (c.in-Spent.ensures.search, c.in-Spent.ensures.under)

pub returns-in-Spent-clause-found : goal.returns-in-Spent-clause-found
returns-in-Spent-clause-found g c =
    let x = c.in-Spent.ensures.spent in
    let slot = same_slot c.args.c.now c.begin_under_back.new.c x.its x.are x.runs c.args.course.now.bucket c.args.course.now.draw.value not_begun c.requires.start.searching in
    some_to c.go_on_under_both.result (HasSearchedTo c.begin_under_back.new.c c.go_on_under_both.new.c c.args.back.now c.go_on_under_both.new.back c.args.course.now)
    (HasSearchedTo c.args.c.now c.go_on_under_both.new.c c.args.back.now c.go_on_under_both.new.back c.args.course.now)
    (λ addr y. read_first c.args.c.now c.begin_under_back.new.c c.go_on_under_both.new.c c.args.back.now c.go_on_under_both.new.back c.args.course.now addr x.its x.are x.runs x.stands slot y)
    c.go_on_under_both.ensures.found

pub returns-in-Spent-clause-cannot_be_served : goal.returns-in-Spent-clause-cannot_be_served
returns-in-Spent-clause-cannot_be_served g c =
    let x = c.in-Spent.ensures.spent in
    none_to c.go_on_under_both.result (HasSearchedInVain c.begin_under_back.new.c c.go_on_under_both.new.c c.args.back.now c.go_on_under_both.new.back c.args.course.now)
    (HasSearchedInVain c.args.c.now c.go_on_under_both.new.c c.args.back.now c.go_on_under_both.new.back c.args.course.now)
    (λ y. vain_first c.args.c.now c.begin_under_back.new.c c.go_on_under_both.new.c c.args.back.now c.go_on_under_both.new.back c.args.course.now x.its x.are x.runs x.stands y)
    c.go_on_under_both.ensures.cannot_be_served
