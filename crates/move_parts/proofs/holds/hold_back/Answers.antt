use Rattle.std.proofs.Common.{◌≡◌, ℕ, ◌+◌, ◌*◌, ◌/◌, ◌≤◌, true, refl, sym, ap, subst, ◌∙◌, arith}
use Rattle.heap_model.specs.declared.Limits.{Limits}
use Rattle.heap_model.specs.declared.Opening.{Opening}
use Rattle.heap_model.specs.Geometry.{words_of}
use Rattle.heap_model.specs.Limits.{AreValid}
use Rattle.claim_rule.specs.Entries.{are_prepared}
use Rattle.claim_rule.specs.Places.{data_count}
use Rattle.call_laws.specs.Within.{by_all}
use Rattle.page_region.specs.Held.{Held}
use Rattle.heap_gate.specs.Token.{Always, now}
use Rattle.call_parts.specs.Entries.{with_all, block_acts}
use Rattle.move_parts.specs.Places.{HasHeldBack}
use Rattle.move_parts.proofs.BackHeld.{paged_route, block_may, back_limits, block_held, block_without}
use Rattle.move_parts.proofs.Movers.{mover}
use Rattle.move_parts.proofs.holds.hold_back.Goals as goal

pub prepare_block-requires-clause-none : goal.prepare_block-requires-clause-none
prepare_block-requires-clause-none c = let h = c.requires.moving in (mover h.0 c.args.c.now h.1 h.2 c.args.n h.3 h.4 h.5 h.6).prepared

pub prepare_block-requires-clause-may : goal.prepare_block-requires-clause-may
prepare_block-requires-clause-may c =
    let k = c.args.c.now in let n = c.args.n in let h = c.requires.moving in
    let r = c.reserved-reserved.ensures.reserved ∙ ap (λ (x : Held). x.reserved) c.region.ensures.region in
    subst (λ (x : ℕ). Always k (λ s. are_prepared s (now s k) k.number (by_all k.number (block_acts x c.in-Some.first n)) ≡ true)) (sym r)
    (block_may k h.0 h.1 h.2 n h.3 h.4 h.5 h.6 c.check.ensures.stands h.7 c.args.back.now h.8 c.region.ensures.sound (paged_route n c.requires.size.0 c.requires.size.1) c.in-Some.first (sym c.in-Some.is ∙ c.carve.ensures.place))

pub returns-in_default-clause-none : goal.returns-in_default-clause-none
returns-in_default-clause-none c =
    let k = c.args.c.now in let n = c.args.n in let h = c.requires.moving in
    (block_without k h.0 h.1 h.2 n h.3 h.4 h.5 h.6 c.check.ensures.stands h.7 c.args.back.now h.8 c.region.ensures.sound (paged_route n c.requires.size.0 c.requires.size.1) (sym c.in_default.is ∙ c.carve.ensures.place) k refl, c.carve.ensures.none c.in_default.is)

pub returns-clause-held : goal.returns-clause-held
returns-clause-held c = λ taken addr size flags p out v held w.
    let k = c.args.c.now in let n = c.args.n in let back = c.args.back.now in let first = c.in-Some.first in let fits = sym c.in-Some.is ∙ c.carve.ensures.place in
    let paged = paged_route n c.requires.size.0 c.requires.size.1 in let st = c.check.ensures.stands in let sound = c.region.ensures.sound in
    let r = c.reserved-reserved.ensures.reserved ∙ ap (λ (x : Held). x.reserved) c.region.ensures.region in
    let valid : AreValid k.opening.limits = subst AreValid (c.limits-limits.ensures.limits ∙ ap (λ (o : Opening). o.limits) (sym c.requires.opening)) c.limits-limits.ensures.valid in
    let within = c.carve.ensures.within first c.in-Some.is in
    let there : 4096 * first / 8 + words_of n ≤ data_count back.limits = omega (arith, within) in
    let to = subst (λ (x : Limits). 4096 * first / 8 + words_of n ≤ data_count x) (back_limits k back w) there in
    let e = c.prepare_block.ensures ∙ ap (λ (x : ℕ). with_all k (block_acts x first n)) r in
    let all = block_held k taken addr size n flags p out v st held back w sound paged first fits valid c.check.ensures.legal to c.prepare_block.new.c e c.carve.new.back (c.carve.ensures.taken first c.in-Some.is) in
    subst (λ (x : ℕ). HasHeldBack taken k c.prepare_block.new.c addr size n flags p out (4096 * x) c.carve.new.back) (sym c.from-b.ensures) all
