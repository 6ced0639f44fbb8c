use Rattle.std.proofs.Common.{◌≡◌, ◌∙◌, Bool, true, false, sym, ap, subst}
use Rattle.heap_model.specs.declared.Call.TheVariants as calls
use Rattle.heap_model.specs.declared.What.TheVariants as whats
use Rattle.heap_model.specs.Shape.{moving}
use Rattle.heap_gate.specs.Token.{is_out}
use Rattle.move_parts.specs.Moves.{HasFilled}
use Rattle.move_parts.proofs.Moved.{moved}
use Rattle.move_parts.proofs.Stays.{half_filled, will_vs, will_back, will_large}
use Rattle.move_parts.proofs.far.move_vs_far.Goals as goal

pub hold_large-requires-clause-moving : goal.hold_large-requires-clause-moving
hold_large-requires-clause-moving c = let h = c.requires.moving in (false, c.args.addr, c.args.size, h.0, h.1, h.2, h.3, h.9, h.10)

pub move_words-requires-clause-table : goal.move_words-requires-clause-table
move_words-requires-clause-table c =
    let h = c.requires.moving in let x = c.in-Some.ensures.held false c.args.addr c.args.size h.0 h.1 h.2 h.3 h.9 h.10 in
    (x.held.made.added.goes.table ∙ c.requires.table.0, x.held.made.added.goes.opening ∙ c.requires.table.1)

pub move_words-requires-clause-whole : goal.move_words-requires-clause-whole
move_words-requires-clause-whole c =
    let h = c.requires.moving in let x = c.in-Some.ensures.held false c.args.addr c.args.size h.0 h.1 h.2 h.3 h.9 h.10 in
    x.held.half.new.whole

pub move_words-requires-clause-inside : goal.move_words-requires-clause-inside
move_words-requires-clause-inside c =
    let h = c.requires.moving in let x = c.in-Some.ensures.held false c.args.addr c.args.size h.0 h.1 h.2 h.3 h.9 h.10 in
    x.held.half.new.inside

pub move_words-requires-clause-from : goal.move_words-requires-clause-from
move_words-requires-clause-from c =
    let h = c.requires.moving in let x = c.in-Some.ensures.held false c.args.addr c.args.size h.0 h.1 h.2 h.3 h.9 h.10 in
    x.held.half.from

pub move_words-requires-clause-to : goal.move_words-requires-clause-to
move_words-requires-clause-to c =
    let h = c.requires.moving in let x = c.in-Some.ensures.held false c.args.addr c.args.size h.0 h.1 h.2 h.3 h.9 h.10 in
    x.held.half.to

pub end_vs-requires : goal.end_vs-requires
end_vs-requires c =
    let h = c.requires.moving in
    let k = c.args.c.now in let t = c.hold_large.new.c in let u = c.move_words.new.c in
    let addr = c.args.addr in let size = c.args.size in let n = c.args.n in let b = c.in-Some.b in
    let x = c.in-Some.ensures.held false addr size h.0 h.1 h.2 h.3 h.9 h.10 in
    let f = c.move_words.ensures in let list = moving addr size b n c.args.zero f.0 in
    let half = half_filled t u list f.2 (calls.Realloc addr n h.0) addr size b n h.1 x.place h.2 x.held.half in
    let vs_out : is_out whats.Vs t.out ≡ true = ap (is_out whats.Vs) x.held.half.out_is ∙ h.5 in
    let back_out : is_out whats.Back t.out ≡ true = ap (is_out whats.Back) x.held.half.out_is ∙ h.7 in
    record { halfway = (calls.Realloc addr n h.0, h.1, x.place, h.2, half, h.4, h.7, will_vs t u list f.2 c.check.ensures.stands x.place n vs_out c.args.vs.now (x.vs c.args.vs.now h.6), will_back t u list f.2 c.check.ensures.stands x.place n back_out c.args.back.now (x.back c.args.back.now h.8)) }

pub returns-clause-moved : goal.returns-clause-moved
returns-clause-moved c = λ flags p out zero_is v is_there vs_held wvs back_held wback large_held wlarge.
    let k = c.args.c.now in let t = c.hold_large.new.c in let u = c.move_words.new.c in
    let addr = c.args.addr in let size = c.args.size in let n = c.args.n in let b = c.in-Some.b in
    let x = c.in-Some.ensures.held false addr size flags p out v large_held wlarge in
    let f0 = c.move_words.ensures in
    let f : HasFilled t u (moving addr size b n flags.zero f0.0) = subst (λ (z : Bool). HasFilled t u (moving addr size b n z f0.0)) (sym zero_is) f0.2 in
    let list = moving addr size b n flags.zero f0.0 in
    let half = half_filled t u list f (calls.Realloc addr n flags) addr size b n p x.place out x.held.half in
    let vs_out : is_out whats.Vs t.out ≡ true = ap (is_out whats.Vs) x.held.half.out_is ∙ vs_held in
    let back_out : is_out whats.Back t.out ≡ true = ap (is_out whats.Back) x.held.half.out_is ∙ back_held in
    let large_out : is_out whats.Large t.out ≡ true = ap (is_out whats.Large) x.held.half.out_is ∙ large_held in
    let e = c.end_vs.ensures (calls.Realloc addr n flags) p x.place out half is_there back_held (will_vs t u list f c.check.ensures.stands x.place n vs_out c.args.vs.now (x.vs c.args.vs.now wvs)) (will_back t u list f c.check.ensures.stands x.place n back_out c.args.back.now (x.back c.args.back.now wback)) in
    record {
      moved = moved k t u c.end_vs.new.c addr size n flags p out b x.place f0.0 v x.held f0.1 f e.changed;
      vs = e.vs;
      back = e.back;
      large = e.large c.hold_large.new.large (will_large t u list f c.check.ensures.stands x.place n large_out c.hold_large.new.large x.large);
    }
