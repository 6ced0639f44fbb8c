use Rattle.std.proofs.Common.{◌≡◌, ◌-◌, ◌<◌, length, arith, ℕ, Fits, w8}
use Rattle.script_text.proofs.KeyLemmas.{packed_step, room_step, room}
use Rattle.script_text.proofs.numbering.packed.Goals as goal

byte : {x y : ℕ} → Fits w8 x → y ≡ x → y < 256
byte h e = omega (arith, h, e)

pub overflow_mul-value : goal.overflow_mul-value
overflow_mul-value c =
    let i = c.loop-left.invariant in
    let r = room_step c.loop-left.value 0 (length c.args.bytes.now) c.loop-left.left i.room (omega arith) c.loop-left-test.true i.within in
    omega (arith, r, room (length c.args.bytes.now - (c.loop-left.left - 1)) (omega (arith, c.requires)))

pub overflow_add-value : goal.overflow_add-value
overflow_add-value c =
    let i = c.loop-left.invariant in
    let b : c.from.result < 256 = byte (c.type_inv.bytes (c.loop-left.left - 1)) c.from.ensures in
    let r = room_step c.loop-left.value c.from.result (length c.args.bytes.now) c.loop-left.left i.room b c.loop-left-test.true i.within in
    omega (arith, r, room (length c.args.bytes.now - (c.loop-left.left - 1)) (omega (arith, c.requires)))

pub loop-left-preserved : goal.loop-left-preserved
loop-left-preserved c =
    let i = c.loop-left.invariant in
    let b : c.from.result < 256 = byte (c.type_inv.bytes (c.loop-left.left - 1)) c.from.ensures in
    record {
      value = packed_step c.args.bytes.now c.loop-left.left c.loop-left.value c.from.result c.loop-left-test.true i.within i.value c.from.ensures;
      room = room_step c.loop-left.value c.from.result (length c.args.bytes.now) c.loop-left.left i.room b c.loop-left-test.true i.within;
      within = omega (arith, i.within);
    }
