use Rattle.std.proofs.Common.{◌≡◌, ◌∙◌, ap, arith, Some}
use Rattle.heap_model.specs.Geometry.{pages_of}
use Rattle.large_blocks.specs.Table.{LargeTable, with_blocks}
use Rattle.large_blocks.proofs.Calls.{HasTaken, has_taken, has_row, row_is_inside, is_place}
use Rattle.large_blocks.proofs.Large.take.Goals as goal
use Rattle.large_blocks.proofs.Large.take.Goals.{After-unwrap}

pub insert-requires : goal.insert-requires
insert-requires c =
    let t : LargeTable = record { limits = c.self.inside.limits; blocks = c.self.inside.blocks.items } in
    let p : pages_of c.args.n ≡ c.div_ceil.result = omega (arith, c.div_ceil.ensures) in
    omega (
      arith,
      c.deref.ensures.len,
      row_is_inside t c.deref.result.now c.args.n c.div_ceil.result c.in_ok-room.room.index c.in_ok-room.room.addr c.self.invariant.0 c.deref.ensures.value c.requires c.in_ok-room.ensures.room p,
    )

pub unwrap-requires : goal.unwrap-requires
unwrap-requires c =
    let t : LargeTable = record { limits = c.self.inside.limits; blocks = c.self.inside.blocks.items } in
    let p : pages_of c.args.n ≡ c.div_ceil.result = omega (arith, c.div_ceil.ensures) in
    c.insert.ensures.succeeds (omega (
      arith,
      c.deref.ensures.len,
      c.self.invariant.1,
      has_row t c.deref.result.now c.args.n c.div_ceil.result c.in_ok-room.room.index c.in_ok-room.room.addr c.self.invariant.0 c.deref.ensures.value c.requires c.in_ok-room.ensures.room p,
    ))

taken : (c : After-unwrap) → HasTaken c.args.self.now (record { limits = c.self.inside.limits; blocks = c.insert.new.self.items }) c.in_ok-room.room.addr c.args.n
taken c =
    let t : LargeTable = record { limits = c.self.inside.limits; blocks = c.self.inside.blocks.items } in
    let p : pages_of c.args.n ≡ c.div_ceil.result = omega (arith, c.div_ceil.ensures) in
    let items = rw c.unwrap.ensures at c.insert.ensures.items in
    has_taken t c.deref.result.now c.args.n c.div_ceil.result c.in_ok-room.room.index c.in_ok-room.room.addr c.self.invariant.0 c.deref.ensures.value c.requires c.in_ok-room.ensures.room p
    c.args.self.now (record { limits = c.self.inside.limits; blocks = c.insert.new.self.items }) c.self.view_is (ap (with_blocks t) items)

pub returns-in_err-room-clause-in_each : goal.returns-in_err-room-clause-in_each
returns-in_err-room-clause-in_each c =
    is_place (record { limits = c.self.inside.limits; blocks = c.self.inside.blocks.items }) c.args.self.now c.deref.result.now c.from_residual.result (pages_of c.args.n) c.div_ceil.result
    c.self.view_is c.deref.ensures.value (omega (arith, c.div_ceil.ensures)) (c.from_residual.ensures ∙ c.in_err-room.ensures.place)

pub returns-clause-in_each : goal.returns-clause-in_each
returns-clause-in_each c =
    is_place (record { limits = c.self.inside.limits; blocks = c.self.inside.blocks.items }) c.args.self.now c.deref.result.now (Some c.in_ok-room.room.addr) (pages_of c.args.n) c.div_ceil.result
    c.self.view_is c.deref.ensures.value (omega (arith, c.div_ceil.ensures)) c.in_ok-room.ensures.place

pub invariant_of-self : goal.invariant_of-self
invariant_of-self c = ((taken c).sound, omega (arith, c.insert.ensures.capacity, c.self.invariant.1))

pub returns-clause-taken : goal.returns-clause-taken
returns-clause-taken c = (taken c).taken

pub returns-clause-stands : goal.returns-clause-stands
returns-clause-stands c = (taken c).stands
