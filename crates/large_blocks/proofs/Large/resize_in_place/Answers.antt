use Rattle.std.proofs.Common.{◌∙◌, arith, sym}
use Rattle.large_blocks.specs.Table.{LargeTable}
use Rattle.large_blocks.proofs.Calls.{HasResized, has_resized, has_kept, is_inside, still_laid, still_inside}
use Rattle.large_blocks.proofs.Large.resize_in_place.Goals as goal
use Rattle.large_blocks.proofs.Large.resize_in_place.Goals.{After-set_size}

pub lets_stay-requires : goal.lets_stay-requires
lets_stay-requires c =
    let t : LargeTable = record { limits = c.self.inside.limits; blocks = c.self.inside.blocks.items } in
    record {
      valid = c.self.invariant.0.limits;
      laid = still_laid t c.deref-2.result.now c.self.invariant.0 c.deref-2.ensures.value;
      inside = still_inside t c.deref-2.result.now c.row_at-index.result c.deref-2.ensures.value (is_inside t c.deref.result.now c.args.addr c.row_at-index.result c.self.invariant.0 c.deref.ensures.value c.row_at-index.ensures);
    }

pub returns-then-not-lets_stay-clause-stays : goal.returns-then-not-lets_stay-clause-stays
returns-then-not-lets_stay-clause-stays c =
    let t : LargeTable = record { limits = c.self.inside.limits; blocks = c.self.inside.blocks.items } in
    has_kept t c.deref.result.now c.args.addr c.args.n c.row_at-index.result c.self.invariant.0 c.deref.ensures.value c.row_at-index.ensures c.args.self.now c.deref-2.result.now c.self.view_is c.deref-2.ensures.value
    (sym c.lets_stay.ensures ∙ c.if-not-lets_stay.true)

pub set_size-requires : goal.set_size-requires
set_size-requires c =
    let t : LargeTable = record { limits = c.self.inside.limits; blocks = c.self.inside.blocks.items } in
    is_inside t c.deref.result.now c.args.addr c.row_at-index.result c.self.invariant.0 c.deref.ensures.value c.row_at-index.ensures

resized : (c : After-set_size) → HasResized c.args.self.now (record { limits = c.self.inside.limits; blocks = c.set_size.new.blocks.items }) c.args.addr c.args.n
resized c =
    let t : LargeTable = record { limits = c.self.inside.limits; blocks = c.self.inside.blocks.items } in
    has_resized t c.deref.result.now c.args.addr c.args.n c.row_at-index.result c.self.invariant.0 c.deref.ensures.value c.row_at-index.ensures c.args.self.now c.set_size.new.blocks.items c.deref-2.result.now c.self.view_is
    c.set_size.ensures.items c.deref-2.ensures.value (sym c.lets_stay.ensures ∙ c.if-not-lets_stay.false)

pub invariant_of-self : goal.invariant_of-self
invariant_of-self c = ((resized c).sound, omega (arith, c.set_size.ensures.capacity, c.self.invariant.1))

pub returns-clause-stays : goal.returns-clause-stays
returns-clause-stays c = (resized c).stays

pub returns-clause-resized : goal.returns-clause-resized
returns-clause-resized c = (resized c).changed

pub returns-clause-stands : goal.returns-clause-stands
returns-clause-stands c = (resized c).stands
