use Rattle.std.proofs.Common.{arith}
use Rattle.backend_fit.specs.Pages.{Pages}
use Rattle.backend_fit.proofs.Freed.{span_inside, span_some, span_behind, bounds, freed, freed_sound, freed_area, freed_taken, joined_in}
use Rattle.backend_fit.proofs.free_run.Goals as goal

pub start_with_free-start-requires-clause-some : goal.start_with_free-start-requires-clause-some
start_with_free-start-requires-clause-some c =
    let k : Pages = record { region = c.args.region.now; words = c.args.descs.now } in
    omega (arith, span_behind k c.args.run c.requires.sound c.requires.span)

pub start_with_free-start-requires-clause-inside : goal.start_with_free-start-requires-clause-inside
start_with_free-start-requires-clause-inside c =
    let k : Pages = record { region = c.args.region.now; words = c.args.descs.now } in
    omega (arith, span_inside k c.args.run c.requires.sound c.requires.span, span_some k c.args.run c.requires.sound c.requires.span)

pub overflow_add-run : goal.overflow_add-run
overflow_add-run c =
    let k : Pages = record { region = c.args.region.now; words = c.args.descs.now } in
    omega (arith, span_inside k c.args.run c.requires.sound c.requires.span)

pub end_with_free-end-requires-clause-inside : goal.end_with_free-end-requires-clause-inside
end_with_free-end-requires-clause-inside c =
    let k : Pages = record { region = c.args.region.now; words = c.args.descs.now } in
    omega (arith, span_inside k c.args.run c.requires.sound c.requires.span)

pub mark-requires-clause-some : goal.mark-requires-clause-some
mark-requires-clause-some c =
    let k : Pages = record { region = c.args.region.now; words = c.args.descs.now } in
    omega (arith, bounds k c.args.run c.requires.sound c.requires.span, span_some k c.args.run c.requires.sound c.requires.span)

pub mark-requires-clause-inside : goal.mark-requires-clause-inside
mark-requires-clause-inside c =
    let k : Pages = record { region = c.args.region.now; words = c.args.descs.now } in
    joined_in k c.args.run c.requires.sound c.requires.span c.start_with_free-start.result c.end_with_free-end.result c.start_with_free-start.ensures c.end_with_free-end.ensures

pub returns-clause-area : goal.returns-clause-area
returns-clause-area c =
    let k : Pages = record { region = c.args.region.now; words = c.args.descs.now } in
    freed_area k c.mark.new.self c.args.run.first c.requires.sound (freed k c.args.run c.requires.sound c.requires.span c.mark.new.self c.start_with_free-start.result c.end_with_free-end.result c.start_with_free-start.ensures c.end_with_free-end.ensures c.mark.ensures.marked)

pub returns-clause-sound : goal.returns-clause-sound
returns-clause-sound c =
    let k : Pages = record { region = c.args.region.now; words = c.args.descs.now } in
    freed_sound k c.mark.new.self c.args.run.first c.requires.sound (freed k c.args.run c.requires.sound c.requires.span c.mark.new.self c.start_with_free-start.result c.end_with_free-end.result c.start_with_free-start.ensures c.end_with_free-end.ensures c.mark.ensures.marked)

pub returns-clause-marks : goal.returns-clause-marks
returns-clause-marks c =
    let k : Pages = record { region = c.args.region.now; words = c.args.descs.now } in
    freed_taken k c.mark.new.self c.args.run.first c.requires.sound (freed k c.args.run c.requires.sound c.requires.span c.mark.new.self c.start_with_free-start.result c.end_with_free-end.result c.start_with_free-start.ensures c.end_with_free-end.ensures c.mark.ensures.marked)
