use Rattle.std.proofs.Common.{◌≡◌, ℕ, ◌+◌, ◌*◌, ◌/◌, ◌≤◌, ◌==◌, ◌∙◌, Bool, true, not, ◌||◌, [], ◌∷◌, Some, refl, sym, ap, subst, arith}
use Rattle.heap_model.specs.declared.Act.TheVariants as acts
use Rattle.heap_model.specs.declared.Opening.{Opening}
use Rattle.heap_model.specs.declared.What.TheVariants as whats
use Rattle.heap_model.specs.Layers.{StandsForBack}
use Rattle.heap_model.specs.Legal.{leaves_whole}
use Rattle.claim_rule.specs.Entries.{entry, are_prepared}
use Rattle.call_laws.specs.Within.{by_all}
use Rattle.page_region.specs.Held.{Held}
use Rattle.backend_fit.specs.Kept.{layer_of}
use Rattle.heap_gate.specs.Token.{Token, Always, now}
use Rattle.heap_gate.specs.Calls.{HasGiven, with_prepared}
use Rattle.claim_rule.specs.Places.{data_count}
use Rattle.heap_model.specs.declared.Limits.{Limits}
use Rattle.heap_model.specs.Geometry.{words_of}
use Rattle.call_parts.specs.Entries.{with_all, block_acts}
use Rattle.call_parts.proofs.Tokens.{added_one}
use Rattle.paged_calls.proofs.Placed.{paged_route, block_may, block_token, block_added, tells_limits, refused_may, refused_tells}
use Rattle.paged_calls.proofs.Placing.{the_place, new_here, all_added, out_then, inside_then, whole_then, owes_then, tells_then, placed_then}
use Rattle.paged_calls.proofs.Shapes.{given_behind}
use Rattle.paged_calls.proofs.paged.place_in.Goals as goal

pub prepare_block-requires-clause-may : goal.prepare_block-requires-clause-may
prepare_block-requires-clause-may c =
    let k = c.args.c.now in let n = c.args.n in let h = c.requires.holds.2 in let paged = paged_route n c.requires.size.0 c.requires.size.1 in
    let r = c.reserved-reserved.ensures.reserved ∙ ap (λ (x : Held). x.reserved) c.region.ensures.region in
    subst (λ (x : ℕ). Always k (λ s. are_prepared s (now s k) k.number (by_all k.number (block_acts x c.in-Some.first n)) ≡ true)) (sym r)
    (block_may k c.requires.holds.0 c.args.back n h c.check.ensures.stands c.region.ensures.sound paged c.in-Some.first (sym c.in-Some.is ∙ c.carve.ensures.place))

pub prepare-requires-clause-may : goal.prepare-requires-clause-may
prepare-requires-clause-may c =
    let n = c.args.n in
    refused_may c.args.c.now c.requires.holds.0 c.args.back n c.requires.holds.2 c.check.ensures.stands c.region.ensures.sound (paged_route n c.requires.size.0 c.requires.size.1) (sym c.in_default.is ∙ c.carve.ensures.place)

pub give_back-requires-clause-tells : goal.give_back-requires-clause-tells
give_back-requires-clause-tells c =
    let n = c.args.n in
    subst (λ (t : Token). Always t (λ s. (leaves_whole (now s t).state whats.Back ≡ true) × StandsForBack t.opening (now s t).state (layer_of c.carve.new.back))) (sym c.prepare.ensures)
    (refused_tells c.args.c.now c.requires.holds.0 c.args.back n c.requires.holds.2 c.check.ensures.stands c.region.ensures.sound (paged_route n c.requires.size.0 c.requires.size.1) (sym c.in_default.is ∙ c.carve.ensures.place) c.carve.new.back (c.carve.ensures.none c.in_default.is))

pub returns-in_default-clause-refused : goal.returns-in_default-clause-refused
returns-in_default-clause-refused c =
    let k = c.args.c.now in let n = c.args.n in let h = c.requires.holds.2 in let b = c.give_back.new.c in
    let t = with_prepared k (acts.NoFit n) in
    let g = subst (λ (x : Token). HasGiven x b whats.Back (entry x.number (acts.GiveLock whats.Back) ∷ [])) c.prepare.ensures c.give_back.ensures in
    record {
      rest = acts.NoFit n ∷ acts.GiveLock whats.Back ∷ [];
      ended = given_behind k t b whats.Back (acts.NoFit n ∷ []) [] (added_one k (acts.NoFit n) refl) g h.serving.out_is h.serving.free;
      no_begin = refl;
      shape_is = refl;
    }

pub hand_over-requires-clause-there : goal.hand_over-requires-clause-there
hand_over-requires-clause-there c =
    let k = c.args.c.now in let flags = c.requires.holds.0 in let old = c.args.back in let n = c.args.n in let h = c.requires.holds.2 in let st = c.check.ensures.stands in let sound = c.region.ensures.sound in let paged = paged_route n c.requires.size.0 c.requires.size.1 in
    let first = c.in-Some.first in let fits = sym c.in-Some.is ∙ c.carve.ensures.place in let t = c.prepare_block.new.c in let addr = 4096 * c.from-addr.result in let ea = ap (λ (x : ℕ). 4096 * x) c.from-addr.ensures in
    let r = c.reserved-reserved.ensures.reserved ∙ ap (λ (x : Held). x.reserved) c.region.ensures.region in
    let et : t ≡ block_token k flags old n h st sound paged first fits = c.prepare_block.ensures ∙ ap (λ (x : ℕ). with_all k (block_acts x first n)) r in
    let o : t.opening ≡ k.opening = ap (λ (x : Token). x.opening) et ∙ (block_added k flags old n h st sound paged first fits).goes.opening in
    let within = c.carve.ensures.within first c.in-Some.is in
    let l : old.limits ≡ k.opening.limits = tells_limits k old h.tells in
    let e = c.from-addr.ensures in let seg = ap (λ (x : Limits). x.segments) l in
    subst (λ (x : Opening). addr / 8 + words_of n ≤ data_count x.limits) (sym o) (omega (arith, within, e, seg))

pub hand_over-requires-clause-new : goal.hand_over-requires-clause-new
hand_over-requires-clause-new c =
    let k = c.args.c.now in let flags = c.requires.holds.0 in let old = c.args.back in let n = c.args.n in let h = c.requires.holds.2 in let st = c.check.ensures.stands in let sound = c.region.ensures.sound in let paged = paged_route n c.requires.size.0 c.requires.size.1 in
    let first = c.in-Some.first in let fits = sym c.in-Some.is ∙ c.carve.ensures.place in let t = c.prepare_block.new.c in let addr = 4096 * c.from-addr.result in let ea = ap (λ (x : ℕ). 4096 * x) c.from-addr.ensures in
    let r = c.reserved-reserved.ensures.reserved ∙ ap (λ (x : Held). x.reserved) c.region.ensures.region in
    let et : t ≡ block_token k flags old n h st sound paged first fits = c.prepare_block.ensures ∙ ap (λ (x : ℕ). with_all k (block_acts x first n)) r in
    (the_place k flags old n h st sound paged first fits t et addr ea, new_here k flags old n h st sound paged first fits t et addr ea)

pub give_back-requires-2-clause-table : goal.give_back-requires-2-clause-table
give_back-requires-2-clause-table c =
    let k = c.args.c.now in let flags = c.requires.holds.0 in let old = c.args.back in let n = c.args.n in let h = c.requires.holds.2 in let st = c.check.ensures.stands in let sound = c.region.ensures.sound in let paged = paged_route n c.requires.size.0 c.requires.size.1 in
    let first = c.in-Some.first in let fits = sym c.in-Some.is ∙ c.carve.ensures.place in let t = c.prepare_block.new.c in let addr = 4096 * c.from-addr.result in let ea = ap (λ (x : ℕ). 4096 * x) c.from-addr.ensures in
    let r = c.reserved-reserved.ensures.reserved ∙ ap (λ (x : Held). x.reserved) c.region.ensures.region in
    let et : t ≡ block_token k flags old n h st sound paged first fits = c.prepare_block.ensures ∙ ap (λ (x : ℕ). with_all k (block_acts x first n)) r in
    let d = c.hand_over.new.c in let over = c.hand_over.ensures in
    (all_added k flags old n h st sound paged first fits t et addr ea d c.args.zero over).goes.table ∙ c.requires.table.0

pub give_back-requires-2-clause-whole : goal.give_back-requires-2-clause-whole
give_back-requires-2-clause-whole c =
    let k = c.args.c.now in let flags = c.requires.holds.0 in let old = c.args.back in let n = c.args.n in let h = c.requires.holds.2 in let st = c.check.ensures.stands in let sound = c.region.ensures.sound in let paged = paged_route n c.requires.size.0 c.requires.size.1 in
    let first = c.in-Some.first in let fits = sym c.in-Some.is ∙ c.carve.ensures.place in let t = c.prepare_block.new.c in let addr = 4096 * c.from-addr.result in let ea = ap (λ (x : ℕ). 4096 * x) c.from-addr.ensures in
    let r = c.reserved-reserved.ensures.reserved ∙ ap (λ (x : Held). x.reserved) c.region.ensures.region in
    let et : t ≡ block_token k flags old n h st sound paged first fits = c.prepare_block.ensures ∙ ap (λ (x : ℕ). with_all k (block_acts x first n)) r in
    let d = c.hand_over.new.c in let over = c.hand_over.ensures in
    whole_then k flags old n h st sound paged first fits t et addr ea d c.args.zero over

pub give_back-requires-2-clause-inside : goal.give_back-requires-2-clause-inside
give_back-requires-2-clause-inside c =
    let k = c.args.c.now in let flags = c.requires.holds.0 in let old = c.args.back in let n = c.args.n in let h = c.requires.holds.2 in let st = c.check.ensures.stands in let sound = c.region.ensures.sound in let paged = paged_route n c.requires.size.0 c.requires.size.1 in
    let first = c.in-Some.first in let fits = sym c.in-Some.is ∙ c.carve.ensures.place in let t = c.prepare_block.new.c in let addr = 4096 * c.from-addr.result in let ea = ap (λ (x : ℕ). 4096 * x) c.from-addr.ensures in
    let r = c.reserved-reserved.ensures.reserved ∙ ap (λ (x : Held). x.reserved) c.region.ensures.region in
    let et : t ≡ block_token k flags old n h st sound paged first fits = c.prepare_block.ensures ∙ ap (λ (x : ℕ). with_all k (block_acts x first n)) r in
    let d = c.hand_over.new.c in let over = c.hand_over.ensures in
    ap (λ (b : Bool). b || not (d.depth == 0)) (inside_then k flags old n h st sound paged first fits t et addr ea d c.args.zero over)

pub give_back-requires-2-clause-paid : goal.give_back-requires-2-clause-paid
give_back-requires-2-clause-paid c =
    let k = c.args.c.now in let flags = c.requires.holds.0 in let old = c.args.back in let n = c.args.n in let h = c.requires.holds.2 in let st = c.check.ensures.stands in let sound = c.region.ensures.sound in let paged = paged_route n c.requires.size.0 c.requires.size.1 in
    let first = c.in-Some.first in let fits = sym c.in-Some.is ∙ c.carve.ensures.place in let t = c.prepare_block.new.c in let addr = 4096 * c.from-addr.result in let ea = ap (λ (x : ℕ). 4096 * x) c.from-addr.ensures in
    let r = c.reserved-reserved.ensures.reserved ∙ ap (λ (x : Held). x.reserved) c.region.ensures.region in
    let et : t ≡ block_token k flags old n h st sound paged first fits = c.prepare_block.ensures ∙ ap (λ (x : ℕ). with_all k (block_acts x first n)) r in
    let d = c.hand_over.new.c in let over = c.hand_over.ensures in
    owes_then k flags old n h st sound paged first fits t et addr ea d c.args.zero over

pub give_back-requires-2-clause-lock : goal.give_back-requires-2-clause-lock
give_back-requires-2-clause-lock c =
    let k = c.args.c.now in let flags = c.requires.holds.0 in let old = c.args.back in let n = c.args.n in let h = c.requires.holds.2 in let st = c.check.ensures.stands in let sound = c.region.ensures.sound in let paged = paged_route n c.requires.size.0 c.requires.size.1 in
    let first = c.in-Some.first in let fits = sym c.in-Some.is ∙ c.carve.ensures.place in let t = c.prepare_block.new.c in let addr = 4096 * c.from-addr.result in let ea = ap (λ (x : ℕ). 4096 * x) c.from-addr.ensures in
    let r = c.reserved-reserved.ensures.reserved ∙ ap (λ (x : Held). x.reserved) c.region.ensures.region in
    let et : t ≡ block_token k flags old n h st sound paged first fits = c.prepare_block.ensures ∙ ap (λ (x : ℕ). with_all k (block_acts x first n)) r in
    let d = c.hand_over.new.c in let over = c.hand_over.ensures in
    ([], out_then k flags old n h st sound paged first fits t et addr ea d c.args.zero over, refl)

pub give_back-requires-2-clause-tells : goal.give_back-requires-2-clause-tells
give_back-requires-2-clause-tells c =
    let k = c.args.c.now in let flags = c.requires.holds.0 in let old = c.args.back in let n = c.args.n in let h = c.requires.holds.2 in let st = c.check.ensures.stands in let sound = c.region.ensures.sound in let paged = paged_route n c.requires.size.0 c.requires.size.1 in
    let first = c.in-Some.first in let fits = sym c.in-Some.is ∙ c.carve.ensures.place in let t = c.prepare_block.new.c in let addr = 4096 * c.from-addr.result in let ea = ap (λ (x : ℕ). 4096 * x) c.from-addr.ensures in
    let r = c.reserved-reserved.ensures.reserved ∙ ap (λ (x : Held). x.reserved) c.region.ensures.region in
    let et : t ≡ block_token k flags old n h st sound paged first fits = c.prepare_block.ensures ∙ ap (λ (x : ℕ). with_all k (block_acts x first n)) r in
    let d = c.hand_over.new.c in let over = c.hand_over.ensures in
    tells_then k flags old n h st sound paged first fits t et addr ea d c.args.zero over c.carve.new.back (c.carve.ensures.taken first c.in-Some.is)

pub returns-clause-placed : goal.returns-clause-placed
returns-clause-placed c =
    let k = c.args.c.now in let flags = c.requires.holds.0 in let old = c.args.back in let n = c.args.n in let h = c.requires.holds.2 in let st = c.check.ensures.stands in let sound = c.region.ensures.sound in let paged = paged_route n c.requires.size.0 c.requires.size.1 in
    let first = c.in-Some.first in let fits = sym c.in-Some.is ∙ c.carve.ensures.place in let t = c.prepare_block.new.c in let addr = 4096 * c.from-addr.result in let ea = ap (λ (x : ℕ). 4096 * x) c.from-addr.ensures in
    let r = c.reserved-reserved.ensures.reserved ∙ ap (λ (x : Held). x.reserved) c.region.ensures.region in
    let et : t ≡ block_token k flags old n h st sound paged first fits = c.prepare_block.ensures ∙ ap (λ (x : ℕ). with_all k (block_acts x first n)) r in
    let d = c.hand_over.new.c in let over = c.hand_over.ensures in
    placed_then k flags old n h st sound paged first fits t et addr ea d c.args.zero over c.give_back-2.new.c c.give_back-2.ensures
