use Rattle.std.proofs.Common.{◌-◌, arith, sym, ap, subst}
use Rattle.std.proofs.lemmas.Bool.{lt-leb, le-leb}
use Rattle.backend_fit.specs.Pages.{Pages, pages_area}
use Rattle.heap_model.specs.Marks.{back_mark}
use Rattle.backend_fit.specs.Sound.{IsSpan}
use Rattle.backend_fit.proofs.Freed.{shown_inside, shown_run, span_inside}
use Rattle.backend_fit.proofs.Resized.{shown_reach, shown_kind, shown_size, shown_change}
use Rattle.backend_fit.specs.Kept.{Kept, pages_in}
use Rattle.backend_fit.specs.Sound.{IsSound}
use Rattle.backend_fit.proofs.Sounds.{pages_sound}
use Rattle.backend_fit.proofs.Standing.{resizes}
use Rattle.backend_fit.proofs.Back.resize.Goals as goal
use Rattle.backend_fit.proofs.Back.resize.Goals.{After-run_at-run}

span : (c : After-run_at-run) → IsSpan c.self.inside.descs c.run_at-run.result
span c =
    let k : Pages = record { region = c.self.inside.region; words = c.self.inside.descs } in
    (shown_run k (pages_in c.args.self.now) c.args.first c.run_at-run.result (ap pages_in c.self.view_is) (pages_sound c.self.invariant) c.requires.span c.run_at-run.ensures).0

pub run_at-run-requires-clause-inside : goal.run_at-run-requires-clause-inside
run_at-run-requires-clause-inside c =
    let k : Pages = record { region = c.self.inside.region; words = c.self.inside.descs } in
    shown_inside k (pages_in c.args.self.now) c.args.first (ap pages_in c.self.view_is) (pages_sound c.self.invariant) c.requires.span

pub overflow_add-run : goal.overflow_add-run
overflow_add-run c =
    let k : Pages = record { region = c.self.inside.region; words = c.self.inside.descs } in
    omega (arith, span_inside k c.run_at-run.result (pages_sound c.self.invariant) (span (goal.at.overflow_add-run c).After-run_at-run))

pub end_with_free-end-requires-clause-inside : goal.end_with_free-end-requires-clause-inside
end_with_free-end-requires-clause-inside c =
    let k : Pages = record { region = c.self.inside.region; words = c.self.inside.descs } in
    span_inside k c.run_at-run.result (pages_sound c.self.invariant) (span (goal.at.end_with_free-end-requires-clause-inside c).After-run_at-run)

pub returns-then-n-end-clause-fits : goal.returns-then-n-end-clause-fits
returns-then-n-end-clause-fits c =
    let k : Pages = record { region = c.self.inside.region; words = c.self.inside.descs } in
    let r = shown_reach k (pages_in c.args.self.now) c.args.first c.end_with_free-end.result c.run_at-run.result (ap pages_in c.self.view_is) (pages_sound c.self.invariant) c.requires.span c.run_at-run.ensures c.end_with_free-end.ensures in
    rw r (sym (lt-leb c.args.n (c.end_with_free-end.result - c.run_at-run.result.first) c.if-n-end.true))

pub resize_run-requires-clause-span : goal.resize_run-requires-clause-span
resize_run-requires-clause-span c = span (goal.at.resize_run-requires-clause-span c).After-run_at-run

pub resize_run-requires-clause-kind : goal.resize_run-requires-clause-kind
resize_run-requires-clause-kind c =
    let k : Pages = record { region = c.self.inside.region; words = c.self.inside.descs } in
    shown_kind k (pages_in c.args.self.now) c.args.first c.run_at-run.result (ap pages_in c.self.view_is) (pages_sound c.self.invariant) c.requires.span c.requires.kind c.run_at-run.ensures

pub returns-clause-fits : goal.returns-clause-fits
returns-clause-fits c =
    let k : Pages = record { region = c.self.inside.region; words = c.self.inside.descs } in
    let r = shown_reach k (pages_in c.args.self.now) c.args.first c.end_with_free-end.result c.run_at-run.result (ap pages_in c.self.view_is) (pages_sound c.self.invariant) c.requires.span c.run_at-run.ensures c.end_with_free-end.ensures in
    rw r (sym (le-leb c.args.n (c.end_with_free-end.result - c.run_at-run.result.first) c.if-n-end.false))

pub returns-clause-area : goal.returns-clause-area
returns-clause-area c =
    let k : Pages = record { region = c.self.inside.region; words = c.self.inside.descs } in
    let n : Pages = record { region = c.resize_run.new.region; words = c.resize_run.new.descs } in
    let r = shown_run k (pages_in c.args.self.now) c.args.first c.run_at-run.result (ap pages_in c.self.view_is) (pages_sound c.self.invariant) c.requires.span c.run_at-run.ensures in
    shown_size k (pages_in c.args.self.now) (pages_area n) c.run_at-run.result.first c.args.first c.args.n (ap pages_in c.self.view_is) r.1 c.resize_run.ensures.area

pub returns-clause-spans : goal.returns-clause-spans
returns-clause-spans c =
    let k : Pages = record { region = c.self.inside.region; words = c.self.inside.descs } in
    let r = shown_run k (pages_in c.args.self.now) c.args.first c.run_at-run.result (ap pages_in c.self.view_is) (pages_sound c.self.invariant) c.requires.span c.run_at-run.ensures in
    shown_change k (pages_in c.args.self.now) c.resize_run.new.descs c.run_at-run.result.first c.args.first c.args.n (back_mark c.args.unused) (ap pages_in c.self.view_is) r.1 c.resize_run.ensures.marks

pub returns-clause-stands : goal.returns-clause-stands
returns-clause-stands c =
    let n : Kept = record { limits = c.self.inside.limits; region = c.resize_run.new.region; words = c.resize_run.new.descs } in
    resizes c.args.self.now n (ap (λ (k : Kept). k.limits) c.self.view_is) (subst IsSound c.self.view_is c.self.invariant) c.args.first c.args.n c.args.unused c.requires.kind (returns-clause-area c) (returns-clause-spans c)
