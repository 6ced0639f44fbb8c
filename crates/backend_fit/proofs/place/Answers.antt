use Rattle.std.proofs.Common.{inl, inr, arith}
use Rattle.backend_fit.specs.Pages.{Pages}
use Rattle.backend_fit.proofs.Placed.{IsPlaced}
use Rattle.backend_fit.proofs.Room.{room_reserved, room_some, room_in, placed}
use Rattle.backend_fit.proofs.Segment.{rest_in}
use Rattle.backend_fit.proofs.Area.{placed_sound, placed_area, placed_taken}
use Rattle.backend_fit.proofs.place.Goals as goal
use Rattle.backend_fit.proofs.place.Goals.{then-n-run, else-n-run, After-commit}

pub mark-requires-clause-inside : goal.mark-requires-clause-inside
mark-requires-clause-inside c =
    let k : Pages = record { region = c.args.region.now; words = c.args.descs.now } in
    room_in k c.args.run.first c.args.run.pages c.requires.sound c.requires.free c.args.n c.requires.some c.requires.within

pub mark-requires-then-n-run-clause-inside : goal.mark-requires-then-n-run-clause-inside
mark-requires-then-n-run-clause-inside c =
    let k : Pages = record { region = c.args.region.now; words = c.args.descs.now } in
    let whole = room_in k c.args.run.first c.args.run.pages c.requires.sound c.requires.free c.args.run.pages (room_some k c.args.run.first c.args.run.pages c.requires.sound c.requires.free) (omega arith) in
    rest_in c.args.descs.now c.mark.new.self c.args.run.first c.args.n c.args.run.pages whole c.if-n-run.true c.mark.ensures.same_open

pub commit-requires : goal.commit-requires
commit-requires c =
    let k : Pages = record { region = c.args.region.now; words = c.args.descs.now } in
    omega (arith, room_reserved k c.args.run.first c.args.run.pages c.requires.sound c.requires.free)

is_placed : (c : After-commit) → IsPlaced c.args.descs.now c.if-n-run.descs c.args.region.now.reserved (record { first = c.args.run.first; pages = c.args.run.pages; mark = c.requires.free.mark }) c.args.n c.args.mark
is_placed c =
    let k : Pages = record { region = c.args.region.now; words = c.args.descs.now } in
    placed k c.args.run.first c.args.run.pages c.requires.sound c.requires.free c.args.n c.args.mark c.mark.new.self c.if-n-run.descs c.requires.some c.requires.within c.requires.mark c.mark.ensures.marked
    (elim c.if-n-run.branch [
      | then-n-run w ↦ inr (w.if-n-run.true, rw w.descs-is w.mark-then-n-run.ensures.marked)
      | else-n-run w ↦ inl (w.if-n-run.false, w.descs-is)
    ])

pub returns-clause-area : goal.returns-clause-area
returns-clause-area c =
    let k : Pages = record { region = c.args.region.now; words = c.args.descs.now } in
    let p = is_placed (goal.at.returns-clause-area c).After-commit in
    placed_area k c.commit.new.self c.if-n-run.descs (record { first = c.args.run.first; pages = c.args.run.pages; mark = c.requires.free.mark }) c.args.n c.args.mark c.requires.sound p c.commit.ensures.held c.commit.ensures.reserved c.commit.ensures.segments c.commit.ensures.marks

pub returns-clause-sound : goal.returns-clause-sound
returns-clause-sound c =
    let k : Pages = record { region = c.args.region.now; words = c.args.descs.now } in
    let p = is_placed (goal.at.returns-clause-sound c).After-commit in
    placed_sound k c.commit.new.self c.if-n-run.descs (record { first = c.args.run.first; pages = c.args.run.pages; mark = c.requires.free.mark }) c.args.n c.args.mark c.requires.sound p c.commit.ensures.held c.commit.ensures.reserved c.commit.ensures.segments

pub returns-clause-marks : goal.returns-clause-marks
returns-clause-marks c =
    let k : Pages = record { region = c.args.region.now; words = c.args.descs.now } in
    let p = is_placed (goal.at.returns-clause-marks c).After-commit in
    placed_taken k c.commit.new.self c.if-n-run.descs (record { first = c.args.run.first; pages = c.args.run.pages; mark = c.requires.free.mark }) c.args.n c.args.mark c.requires.sound p c.commit.ensures.held c.commit.ensures.reserved c.commit.ensures.segments
