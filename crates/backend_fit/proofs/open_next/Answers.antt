use Rattle.std.proofs.Common.{arith}
use Rattle.backend_fit.specs.Pages.{Pages}
use Rattle.backend_fit.proofs.Room.{opened_sound, opened_area, opened_free, opened_taken}
use Rattle.backend_fit.proofs.Segment.{not_open}
use Rattle.backend_fit.proofs.open_next.Goals as goal

pub returns-clause-area : goal.returns-clause-area
returns-clause-area c =
    let k : Pages = record { region = c.args.region.now; words = c.args.descs.now } in
    rw c.in_ok-segment.ensures.new (opened_area k c.open_segment.new.self c.in_ok-segment.segment c.requires c.in_ok-segment.ensures.next.0 c.in_ok-segment.ensures.next.1 c.open_segment.ensures.marked)

pub returns-clause-sound : goal.returns-clause-sound
returns-clause-sound c =
    let k : Pages = record { region = c.args.region.now; words = c.args.descs.now } in
    rw c.in_ok-segment.ensures.new (opened_sound k c.open_segment.new.self c.in_ok-segment.segment c.requires c.in_ok-segment.ensures.next.0 c.in_ok-segment.ensures.next.1 c.open_segment.ensures.marked)

pub returns-clause-free : goal.returns-clause-free
returns-clause-free c =
    let k : Pages = record { region = c.args.region.now; words = c.args.descs.now } in
    (opened_free k c.open_segment.new.self c.in_ok-segment.segment c.requires c.in_ok-segment.ensures.next.0 c.in_ok-segment.ensures.next.1 c.open_segment.ensures.marked, omega arith)

pub open_segment-requires-clause-closed : goal.open_segment-requires-clause-closed
open_segment-requires-clause-closed c =
    let k : Pages = record { region = c.args.region.now; words = c.args.descs.now } in
    not_open k c.in_ok-segment.segment c.requires c.in_ok-segment.ensures.next.1 c.in_ok-segment.ensures.next.0

pub returns-clause-marks : goal.returns-clause-marks
returns-clause-marks c =
    let k : Pages = record { region = c.args.region.now; words = c.args.descs.now } in
    opened_taken k c.open_segment.new.self c.in_ok-segment.segment c.requires c.in_ok-segment.ensures.next.0 c.in_ok-segment.ensures.next.1 c.open_segment.ensures.marked
