use Rattle.backend_fit.specs.Pages.{Pages, pages_area}
use Rattle.backend_fit.proofs.Freed.{shown_inside, shown_run, shown_area, shown_taken}
use Rattle.std.proofs.Common.{ap, subst}
use Rattle.backend_fit.specs.Kept.{Kept, pages_in}
use Rattle.backend_fit.specs.Sound.{IsSound}
use Rattle.backend_fit.proofs.Sounds.{pages_sound}
use Rattle.backend_fit.proofs.Standing.{gives}
use Rattle.backend_fit.proofs.Back.give.Goals as goal

pub run_at-run-requires-clause-inside : goal.run_at-run-requires-clause-inside
run_at-run-requires-clause-inside c =
    let k : Pages = record { region = c.self.inside.region; words = c.self.inside.descs } in
    shown_inside k (pages_in c.args.self.now) c.args.first (ap pages_in c.self.view_is) (pages_sound c.self.invariant) c.requires

pub free_run-requires-clause-span : goal.free_run-requires-clause-span
free_run-requires-clause-span c =
    let k : Pages = record { region = c.self.inside.region; words = c.self.inside.descs } in
    (shown_run k (pages_in c.args.self.now) c.args.first c.run_at-run.result (ap pages_in c.self.view_is) (pages_sound c.self.invariant) c.requires c.run_at-run.ensures).0

pub returns-clause-pages : goal.returns-clause-pages
returns-clause-pages c =
    let k : Pages = record { region = c.self.inside.region; words = c.self.inside.descs } in
    (shown_run k (pages_in c.args.self.now) c.args.first c.run_at-run.result (ap pages_in c.self.view_is) (pages_sound c.self.invariant) c.requires c.run_at-run.ensures).2

pub returns-clause-area : goal.returns-clause-area
returns-clause-area c =
    let k : Pages = record { region = c.self.inside.region; words = c.self.inside.descs } in
    let n : Pages = record { region = c.self.inside.region; words = c.free_run.new.descs } in
    let r = shown_run k (pages_in c.args.self.now) c.args.first c.run_at-run.result (ap pages_in c.self.view_is) (pages_sound c.self.invariant) c.requires c.run_at-run.ensures in
    shown_area k (pages_in c.args.self.now) (pages_area n) c.run_at-run.result.first c.args.first (ap pages_in c.self.view_is) r.1 c.free_run.ensures.area

pub returns-clause-spans : goal.returns-clause-spans
returns-clause-spans c =
    let k : Pages = record { region = c.self.inside.region; words = c.self.inside.descs } in
    let r = shown_run k (pages_in c.args.self.now) c.args.first c.run_at-run.result (ap pages_in c.self.view_is) (pages_sound c.self.invariant) c.requires c.run_at-run.ensures in
    shown_taken k (pages_in c.args.self.now) c.free_run.new.descs c.run_at-run.result.first c.args.first (ap pages_in c.self.view_is) r.1 c.free_run.ensures.marks

pub returns-clause-stands : goal.returns-clause-stands
returns-clause-stands c =
    let n : Kept = record { limits = c.self.inside.limits; region = c.self.inside.region; words = c.free_run.new.descs } in
    gives c.args.self.now n (ap (λ (k : Kept). k.limits) c.self.view_is) (subst IsSound c.self.view_is c.self.invariant) c.args.first (returns-clause-area c) (returns-clause-spans c)
