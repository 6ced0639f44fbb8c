use Rattle.std.proofs.Common.{◌≡◌, ◌∙◌, Bool, true, sym, ap, subst}
use Rattle.heap_model.specs.declared.Call.TheVariants as calls
use Rattle.heap_model.specs.declared.What.TheVariants as whats
use Rattle.heap_model.specs.Shape.{moving}
use Rattle.heap_gate.specs.Token.{is_out}
use Rattle.move_parts.specs.Moves.{HasFilled}
use Rattle.move_parts.proofs.Stays.{half_filled, will_vs, will_back, will_large}
use Rattle.move_to_front.proofs.Over.{moves_late}
use Rattle.move_to_front.proofs.late.late_large.Goals as goal

pub hold_settled-requires-clause-moving : goal.hold_settled-requires-clause-moving
hold_settled-requires-clause-moving c = let h = c.requires.moving in (c.args.addr, c.args.size, h.0, h.1, h.2, h.3, h.5, h.6, h.7, h.8)

pub move_words-requires-clause-table : goal.move_words-requires-clause-table
move_words-requires-clause-table c =
    let h = c.requires.moving in let x = c.in-Some.ensures.held c.args.addr c.args.size h.0 h.1 h.2 h.3 h.5 h.6 h.7 h.8 in
    (x.made.added.goes.table ∙ c.requires.table.0, x.made.added.goes.opening ∙ c.requires.table.1)

pub move_words-requires-clause-whole : goal.move_words-requires-clause-whole
move_words-requires-clause-whole c = let h = c.requires.moving in let x = c.in-Some.ensures.held c.args.addr c.args.size h.0 h.1 h.2 h.3 h.5 h.6 h.7 h.8 in x.half.new.whole

pub move_words-requires-clause-inside : goal.move_words-requires-clause-inside
move_words-requires-clause-inside c = let h = c.requires.moving in let x = c.in-Some.ensures.held c.args.addr c.args.size h.0 h.1 h.2 h.3 h.5 h.6 h.7 h.8 in x.half.new.inside

pub move_words-requires-clause-from : goal.move_words-requires-clause-from
move_words-requires-clause-from c = let h = c.requires.moving in let x = c.in-Some.ensures.held c.args.addr c.args.size h.0 h.1 h.2 h.3 h.5 h.6 h.7 h.8 in x.half.from

pub move_words-requires-clause-to : goal.move_words-requires-clause-to
move_words-requires-clause-to c = let h = c.requires.moving in let x = c.in-Some.ensures.held c.args.addr c.args.size h.0 h.1 h.2 h.3 h.5 h.6 h.7 h.8 in x.half.to

pub end_large-requires : goal.end_large-requires
end_large-requires c =
    let h = c.requires.moving in let k = c.args.c.now in let t = c.hold_settled.new.c in let u = c.move_words.new.c in
    let addr = c.args.addr in let size = c.args.size in let n = c.args.n in let b = c.in-Some.b in
    let x = c.in-Some.ensures.held addr size h.0 h.1 h.2 h.3 h.5 h.6 h.7 h.8 in
    let f = c.move_words.ensures in let list = moving addr size b n c.args.zero f.0 in
    let half = half_filled t u list f.2 (calls.Realloc addr n h.0) addr size b n h.1 x.place h.2 x.half in
    let large_out : is_out whats.Large t.out ≡ true = ap (is_out whats.Large) x.half.out_is ∙ h.9 in
    record { halfway = (calls.Realloc addr n h.0, h.1, x.place, h.2, half, h.4, will_large t u list f.2 c.check.ensures.stands x.place n large_out c.args.large.now (x.large h.9 c.args.large.now h.10)) }

pub returns-clause-moved : goal.returns-clause-moved
returns-clause-moved c = λ flags p out zero_is v is_there vs_held wvs back_held wback large_held wlarge.
    let k = c.args.c.now in let t = c.hold_settled.new.c in let u = c.move_words.new.c in
    let addr = c.args.addr in let size = c.args.size in let n = c.args.n in let b = c.in-Some.b in
    let x = c.in-Some.ensures.held addr size flags p out v vs_held wvs back_held wback in
    let f0 = c.move_words.ensures in
    let f : HasFilled t u (moving addr size b n flags.zero f0.0) = subst (λ (z : Bool). HasFilled t u (moving addr size b n z f0.0)) (sym zero_is) f0.2 in
    let list = moving addr size b n flags.zero f0.0 in
    let half = half_filled t u list f (calls.Realloc addr n flags) addr size b n p x.place out x.half in
    let vs_out : is_out whats.Vs t.out ≡ true = ap (is_out whats.Vs) x.half.out_is ∙ vs_held in
    let back_out : is_out whats.Back t.out ≡ true = ap (is_out whats.Back) x.half.out_is ∙ back_held in
    let large_out : is_out whats.Large t.out ≡ true = ap (is_out whats.Large) x.half.out_is ∙ large_held in
    let e = c.end_large.ensures (calls.Realloc addr n flags) p x.place out half is_there (will_large t u list f c.check.ensures.stands x.place n large_out c.args.large.now (x.large large_held c.args.large.now wlarge)) in
    record { late = moves_late k t u c.end_large.new.c addr size n flags p out b c.hold_settled.new.vs c.hold_settled.new.back f0.0 v x f0.1 f e.changed c.hold_settled.new.vs c.hold_settled.new.back (record { vs = e.vs c.hold_settled.new.vs (will_vs t u list f c.check.ensures.stands x.place n vs_out c.hold_settled.new.vs x.vs); back = e.back c.hold_settled.new.back (will_back t u list f c.check.ensures.stands x.place n back_out c.hold_settled.new.back x.back) }); large = e.large }
