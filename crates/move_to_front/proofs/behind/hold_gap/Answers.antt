use Rattle.std.proofs.Common.{ℕ, ◌+◌, ◌/◌, ◌≤◌, refl, sym, ap, subst, ◌∙◌, length, arith}
use Rattle.std.specs.Prelude.{is_some, option_and_then}
use Rattle.heap_model.specs.declared.Limits.{Limits}
use Rattle.heap_model.specs.declared.Opening.{Opening}
use Rattle.heap_model.specs.Geometry.{words_of}
use Rattle.heap_model.specs.Limits.{AreValid}
use Rattle.heap_model.specs.State.{Place, live_size}
use Rattle.claim_rule.specs.Places.{data_count}
use Rattle.search_laws.proofs.Blocks.{bucket_fits}
use Rattle.vs_calls.specs.Blocks.{LiesWithin}
use Rattle.move_to_front.proofs.LateGap.{gap_may, gap_held, later_limits}
use Rattle.move_to_front.proofs.MovingOn.{going_on}
use Rattle.move_to_front.proofs.behind.hold_gap.Goals as goal

pub hold_in_gap-b-requires-clause-size : goal.hold_in_gap-b-requires-clause-size
hold_in_gap-b-requires-clause-size c = let l = (bucket_fits c.args.n c.args.bucket c.requires.bucket).0 in omega (arith, l)

pub hold_in_gap-b-requires-clause-room : goal.hold_in_gap-b-requires-clause-room
hold_in_gap-b-requires-clause-room c = let e = ap length (going_on c.requires.moving.0 c.args.c.now c.requires.moving.1 c.requires.moving.2 c.args.n c.requires.moving.3 c.requires.moving.4 c.requires.moving.5 c.requires.moving.6).prepared in omega (arith, e)

pub hold_in_gap-b-requires-clause-tells : goal.hold_in_gap-b-requires-clause-tells
hold_in_gap-b-requires-clause-tells c = c.requires.moving.8.tells

pub hold_in_gap-b-requires-clause-may : goal.hold_in_gap-b-requires-clause-may
hold_in_gap-b-requires-clause-may c = λ run fits.
    let h = c.requires.moving in
    gap_may c.args.c.now h.0 h.1 h.2 c.args.n h.3 h.4 h.5 h.6 c.check.ensures.stands h.7 c.args.vs.now h.8 h.9 c.args.back.now h.10 c.args.bucket c.requires.bucket c.requires.cannot run fits

pub lies_within-requires : goal.lies_within-requires
lies_within-requires c = ap is_some (ap (option_and_then (λ (p : Place). live_size p.status)) c.hold_in_gap-b.ensures.there)

pub returns : goal.returns
returns c = λ taken addr size flags p out v held w back_out wb.
    let k = c.args.c.now in let n = c.args.n in let x = c.hold_in_gap-b.ensures in
    let valid : AreValid k.opening.limits = subst AreValid (c.limits-limits.ensures.limits ∙ ap (λ (o : Opening). o.limits) (sym c.requires.opening)) c.limits-limits.ensures.valid in
    let lies = c.lies_within.ensures n (ap (option_and_then (λ (p : Place). live_size p.status)) x.there) in
    let l = later_limits k taken addr size n flags p out v c.check.ensures.stands held c.args.vs.now w back_out c.args.back.now wb c.args.bucket c.requires.bucket c.requires.cannot c.hold_in_gap-b.new.c c.hold_in_gap-b.new.vs c.hold_in_gap-b.result x in
    let to = subst (λ (a : ℕ). a / 8 + words_of n ≤ data_count k.opening.limits) x.at (subst (λ (y : Limits). LiesWithin y c.hold_in_gap-b.result n) l lies) in
    gap_held k taken addr size n flags p out v c.check.ensures.stands held c.args.vs.now w back_out c.args.back.now wb c.args.bucket c.requires.bucket c.requires.cannot x.run x.place valid c.check.ensures.legal c.hold_in_gap-b.new.vs c.hold_in_gap-b.result
    c.hold_in_gap-b.new.c x refl to
