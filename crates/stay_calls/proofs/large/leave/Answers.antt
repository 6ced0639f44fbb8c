use Rattle.std.proofs.Common.{◌≡◌, ℕ, true, false, [], ◌∷◌, Some, refl, sym, ap, subst}
use Rattle.std.specs.Prelude.{option_map}
use Rattle.std.specs.List.{find}
use Rattle.heap_model.specs.declared.Act.TheVariants as acts
use Rattle.heap_model.specs.declared.Layer.TheVariants as layers
use Rattle.heap_model.specs.declared.What.TheVariants as whats
use Rattle.heap_model.specs.Layers.{StandsForLarge}
use Rattle.heap_model.specs.Legal.{leaves_whole}
use Rattle.heap_model.specs.State.{Live, has_address}
use Rattle.claim_rule.specs.Entries.{entry}
use Rattle.claim_rule.specs.Places.{large_slot}
use Rattle.large_blocks.specs.Table.{LargeTable, place_of, is_at, layer_of}
use Rattle.large_blocks.specs.declared.LargeBlock.{LargeBlock}
use Rattle.heap_gate.specs.Calls.{HasGiven, with_prepared}
use Rattle.heap_gate.specs.Token.{Token, Always, now, IsStanding}
use Rattle.large_blocks.specs.Sound.{IsSound}
use Rattle.large_blocks.specs.Effects.{InEach, TellsStay}
use Rattle.paged_calls.specs.Parts.{HasLarge}
use Rattle.call_parts.proofs.Tokens.{ended_given}
use Rattle.stay_calls.proofs.Ending.{AllFound, is_off, is_on, looks_none, has_to_move, leave_may, no_room_at}
use Rattle.stay_calls.proofs.LargeStays.{sized_block, among_now, large_found, sized_tells}
use Rattle.stay_calls.proofs.large.leave.Goals as goal

record IsBlock (k : Token) (addr size n : ℕ) : Type 0 where
  pub block : LargeBlock
  pub size_is : block.size ≡ size
  pub there : Always k (λ s. find (has_address addr) (now s k).state.large ≡ Some (place_of block))
  pub found : AllFound k addr (place_of block) size n false

found_so : (k : Token) (large : LargeTable) (h : HasLarge k large) (st : IsStanding k) (sound : IsSound large) (addr size n : ℕ) → option_map (λ b. b.size) (find (is_at addr) large.blocks) ≡ Some size → InEach large (λ o st'. TellsStay o st' addr n false) → IsBlock k addr size n
found_so k large h st sound addr size n e told =
    let b = sized_block (find (is_at addr) large.blocks) size e in
    record { block = b.0; size_is = b.2; there = among_now k h.0 large h.1 st sound addr b.0 b.1 n; found = subst (λ (m : ℕ). AllFound k addr (place_of b.0) m n false) b.2 (large_found k h.0 large h.1 st sound addr b.0 b.1 n false told) }

pub returns-then-not-flags : goal.returns-then-not-flags
returns-then-not-flags c =
    let k = c.args.c.now in
    let x = found_so k c.args.large c.requires.large.has c.check.ensures.stands c.blocks-blocks.ensures.sound c.args.addr c.args.size c.args.n c.requires.found c.requires.leaves in
    (is_off c.args.flags.in_place c.if-not-flags.true, (looks_none k, c.requires.large, has_to_move k c.args.addr (place_of x.block) c.args.size c.args.n layers.Large refl (ap Live x.size_is) refl x.there x.found))

pub prepare-requires-clause-may : goal.prepare-requires-clause-may
prepare-requires-clause-may c =
    let k = c.args.c.now in let h = c.requires.large.has in
    let x = found_so k c.args.large h c.check.ensures.stands c.blocks-blocks.ensures.sound c.args.addr c.args.size c.args.n c.requires.found c.requires.leaves in
    leave_may k c.args.addr (place_of x.block) c.args.size c.args.n c.args.flags (large_slot ∷ []) h.0 h.1.serving x.found c.check.ensures.stands

pub give_large-requires-clause-tells : goal.give_large-requires-clause-tells
give_large-requires-clause-tells c =
    let k = c.args.c.now in let h = c.requires.large.has in
    subst (λ (t : Token). Always t (λ s. (leaves_whole (now s t).state whats.Large ≡ true) × StandsForLarge t.opening (now s t).state (layer_of c.args.large))) (sym c.prepare.ensures)
    (sized_tells k h.0 c.args.large h.1 c.check.ensures.stands c.blocks-blocks.ensures.sound c.args.addr c.args.size)

pub returns : goal.returns
returns c =
    let k = c.args.c.now in let h = c.requires.large.has in let d = c.give_large.new.c in
    let x = found_so k c.args.large h c.check.ensures.stands c.blocks-blocks.ensures.sound c.args.addr c.args.size c.args.n c.requires.found c.requires.leaves in
    let t = with_prepared k (acts.Sized c.args.addr c.args.size) in
    let g = subst (λ (y : Token). HasGiven y d whats.Large (entry y.number (acts.GiveLock whats.Large) ∷ [])) c.prepare.ensures c.give_large.ensures in
    no_room_at k c.args.addr (place_of x.block) c.args.size c.args.n c.args.flags (large_slot ∷ []) h.0 h.1.serving x.found c.check.ensures.stands d (acts.GiveLock whats.Large ∷ []) refl refl
    (ended_given t d whats.Large [] (acts.GiveLock whats.Large ∷ []) g h.1.serving.out_is h.1.serving.free) c.give_large.ensures.runs.does.legal c.requires.call (is_on c.args.flags.in_place c.if-not-flags.false)
