use Rattle.std.proofs.Common.{◌≡◌, ℕ, ◌+◌, ◌/◌, ◌≤◌, true, refl, sym, ap, subst, ◌∙◌}
use Rattle.heap_model.specs.declared.Act.TheVariants as acts
use Rattle.heap_model.specs.declared.Layer.TheVariants as layers
use Rattle.heap_model.specs.declared.Limits.{Limits}
use Rattle.heap_model.specs.declared.Opening.{Opening}
use Rattle.heap_model.specs.Geometry.{words_of}
use Rattle.heap_model.specs.Limits.{AreValid}
use Rattle.claim_rule.specs.Entries.{may_prepare}
use Rattle.claim_rule.specs.Places.{data_count}
use Rattle.large_blocks.specs.Sound.{AreLaid}
use Rattle.large_blocks.specs.Table.{LargeTable}
use Rattle.heap_gate.specs.Calls.{with_prepared}
use Rattle.heap_gate.specs.Token.{Always, now}
use Rattle.move_parts.proofs.LargeHeld.{huge_route, words_there, large_limits, place_may, large_held, large_without}
use Rattle.move_parts.proofs.holds.hold_large.Goals as goal

pub prepare-requires-clause-may : goal.prepare-requires-clause-may
prepare-requires-clause-may c =
    let h = c.requires.moving in let k = c.args.c.now in
    subst (λ (g : ℕ). Always k (λ s. may_prepare s (now s k) k.number (acts.Place c.in-Some.addr g layers.Large) ≡ true)) (sym c.granules_for-granules.ensures)
    (place_may k h.0 h.1 h.2 c.args.n h.3 h.4 h.5 h.6 c.check.ensures.stands h.7 c.args.large.now h.8 (huge_route c.args.n c.requires.size) c.in-Some.addr c.in-Some.ensures.in_each)

pub returns-clause-held : goal.returns-clause-held
returns-clause-held c = λ taken addr size flags p out v held w.
    let k = c.args.c.now in let n = c.args.n in let old = c.args.large.now in let b = c.in-Some.addr in
    let huge = huge_route n c.requires.size in let fits = c.in-Some.ensures.in_each in
    let valid : AreValid k.opening.limits = subst AreValid (c.limits-limits.ensures.limits ∙ ap (λ (o : Opening). o.limits) (sym c.requires.opening)) c.limits-limits.ensures.valid in
    let laid = subst (λ (x : LargeTable). AreLaid x.limits 0 x.blocks) c.in-Some.ensures.taken c.blocks-blocks.ensures.sound.laid in
    let to = subst (λ (x : Limits). b / 8 + words_of n ≤ data_count x) (large_limits k old w) (words_there old.limits b n old.blocks laid) in
    let e = c.prepare.ensures ∙ ap (λ (g : ℕ). with_prepared k (acts.Place b g layers.Large)) c.granules_for-granules.ensures in
    large_held k taken addr size n flags p out v c.check.ensures.stands held old w huge b fits valid c.check.ensures.legal to c.prepare.new.c e c.take.new.self c.in-Some.ensures.stands

pub returns-in_default-clause-none : goal.returns-in_default-clause-none
returns-in_default-clause-none c =
    let h = c.requires.moving in let k = c.args.c.now in
    (large_without k h.0 h.1 h.2 c.args.n h.3 h.4 h.5 h.6 c.check.ensures.stands h.7 c.args.large.now h.8 (huge_route c.args.n c.requires.size) c.in_default.ensures.in_each k refl, c.in_default.ensures.none)
