use Rattle.std.proofs.Common.{◌≡◌, ◌∙◌, true, sym, ap, subst}
use Rattle.heap_model.specs.declared.Opening.{Opening}
use Rattle.heap_model.specs.declared.What.TheVariants as whats
use Rattle.heap_model.specs.Limits.{AreValid}
use Rattle.heap_model.specs.Shape.{moving}
use Rattle.heap_gate.specs.Token.{is_out}
use Rattle.move_parts.proofs.Stays.{will_vs, will_back}
use Rattle.move_taken.proofs.Moving.{p, taken_moving, may_end, has_moved, out_then}
use Rattle.move_in_front.proofs.moves.late_taken.Goals as goal

pub hold_behind-requires-clause-moving : goal.hold_behind-requires-clause-moving
hold_behind-requires-clause-moving c =
    let h = c.requires.moving in let k = c.args.c.now in
    let tag = c.args.tag in let addr = c.args.addr in let size = c.args.size in let n = c.args.n in
    (true, addr, size, h.0, p k tag addr size n h.0 h.1 h.2 c.requires.slots, h.1, taken_moving k tag addr size n h.0 h.1 h.2 c.requires.slots, h.3, h.4, h.5, h.6)

pub move_words-requires-clause-table : goal.move_words-requires-clause-table
move_words-requires-clause-table c =
    let h = c.requires.moving in let k = c.args.c.now in
    let tag = c.args.tag in let addr = c.args.addr in let size = c.args.size in let n = c.args.n in
    let x = c.in-Some.ensures.held true addr size h.0 (p k tag addr size n h.0 h.1 h.2 c.requires.slots) h.1 (taken_moving k tag addr size n h.0 h.1 h.2 c.requires.slots) h.3 h.4 h.5 h.6 in
    (x.held.made.added.goes.table ∙ c.requires.table.0, x.held.made.added.goes.opening ∙ c.requires.table.1)

pub move_words-requires-clause-whole : goal.move_words-requires-clause-whole
move_words-requires-clause-whole c =
    let h = c.requires.moving in let k = c.args.c.now in
    let tag = c.args.tag in let addr = c.args.addr in let size = c.args.size in let n = c.args.n in
    let x = c.in-Some.ensures.held true addr size h.0 (p k tag addr size n h.0 h.1 h.2 c.requires.slots) h.1 (taken_moving k tag addr size n h.0 h.1 h.2 c.requires.slots) h.3 h.4 h.5 h.6 in
    x.held.half.new.whole

pub move_words-requires-clause-inside : goal.move_words-requires-clause-inside
move_words-requires-clause-inside c =
    let h = c.requires.moving in let k = c.args.c.now in
    let tag = c.args.tag in let addr = c.args.addr in let size = c.args.size in let n = c.args.n in
    let x = c.in-Some.ensures.held true addr size h.0 (p k tag addr size n h.0 h.1 h.2 c.requires.slots) h.1 (taken_moving k tag addr size n h.0 h.1 h.2 c.requires.slots) h.3 h.4 h.5 h.6 in
    x.held.half.new.inside

pub move_words-requires-clause-from : goal.move_words-requires-clause-from
move_words-requires-clause-from c =
    let h = c.requires.moving in let k = c.args.c.now in
    let tag = c.args.tag in let addr = c.args.addr in let size = c.args.size in let n = c.args.n in
    let x = c.in-Some.ensures.held true addr size h.0 (p k tag addr size n h.0 h.1 h.2 c.requires.slots) h.1 (taken_moving k tag addr size n h.0 h.1 h.2 c.requires.slots) h.3 h.4 h.5 h.6 in
    x.held.half.from

pub move_words-requires-clause-to : goal.move_words-requires-clause-to
move_words-requires-clause-to c =
    let h = c.requires.moving in let k = c.args.c.now in
    let tag = c.args.tag in let addr = c.args.addr in let size = c.args.size in let n = c.args.n in
    let x = c.in-Some.ensures.held true addr size h.0 (p k tag addr size n h.0 h.1 h.2 c.requires.slots) h.1 (taken_moving k tag addr size n h.0 h.1 h.2 c.requires.slots) h.3 h.4 h.5 h.6 in
    x.held.half.to

pub end_taken-requires-clause-table : goal.end_taken-requires-clause-table
end_taken-requires-clause-table c =
    let h = c.requires.moving in let k = c.args.c.now in
    let tag = c.args.tag in let addr = c.args.addr in let size = c.args.size in let n = c.args.n in
    let x = c.in-Some.ensures.held true addr size h.0 (p k tag addr size n h.0 h.1 h.2 c.requires.slots) h.1 (taken_moving k tag addr size n h.0 h.1 h.2 c.requires.slots) h.3 h.4 h.5 h.6 in
    let f = c.move_words.ensures in
    (f.2.added.goes.table ∙ (x.held.made.added.goes.table ∙ c.requires.table.0), f.2.added.goes.opening ∙ (x.held.made.added.goes.opening ∙ c.requires.table.1))

pub end_taken-requires-clause-ends : goal.end_taken-requires-clause-ends
end_taken-requires-clause-ends c =
    let h = c.requires.moving in let k = c.args.c.now in
    let tag = c.args.tag in let addr = c.args.addr in let size = c.args.size in let n = c.args.n in
    let x = c.in-Some.ensures.held true addr size h.0 (p k tag addr size n h.0 h.1 h.2 c.requires.slots) h.1 (taken_moving k tag addr size n h.0 h.1 h.2 c.requires.slots) h.3 h.4 h.5 h.6 in
    let f = c.move_words.ensures in
    let valid : AreValid k.opening.limits = subst AreValid (c.limits-limits.ensures.limits ∙ ap (λ (o : Opening). o.limits) (sym c.requires.table.1)) c.limits-limits.ensures.valid in
    (x.place, may_end k tag addr size n h.0 h.1 h.2 c.requires.slots valid c.check.ensures.legal c.check.ensures.stands c.hold_behind.new.c c.move_words.new.c c.in-Some.b x.place x.held c.args.zero f.0 f.2 c.check-3.ensures.legal)

pub returns-clause-moved : goal.returns-clause-moved
returns-clause-moved c = λ flags out zero_is h vs_out w back_out wb.
    let k = c.args.c.now in let t = c.hold_behind.new.c in let u = c.move_words.new.c in let d = c.end_taken.new.c in
    let tag = c.args.tag in let addr = c.args.addr in let size = c.args.size in let n = c.args.n in let b = c.in-Some.b in let slots = c.requires.slots in
    let x = c.in-Some.ensures.held true addr size flags (p k tag addr size n flags out h slots) out (taken_moving k tag addr size n flags out h slots) vs_out w back_out wb in
    let f = c.move_words.ensures in let list = moving addr size b n c.args.zero f.0 in
    let valid : AreValid k.opening.limits = subst AreValid (c.limits-limits.ensures.limits ∙ ap (λ (o : Opening). o.limits) (sym c.requires.table.1)) c.limits-limits.ensures.valid in
    let legal = c.check.ensures.legal in let st = c.check.ensures.stands in let later = c.check-3.ensures.legal in
    let e = c.end_taken.ensures x.place (may_end k tag addr size n flags out h slots valid legal st t u b x.place x.held c.args.zero f.0 f.2 later) in
    let outs = out_then k tag addr size n flags out h slots valid legal st t u b x.place x.held c.args.zero f.0 f.2 later in
    let vs_then : is_out whats.Vs t.out ≡ true = ap (is_out whats.Vs) x.held.half.out_is ∙ vs_out in
    let back_then : is_out whats.Back t.out ≡ true = ap (is_out whats.Back) x.held.half.out_is ∙ back_out in
    record {
      moved = has_moved k tag addr size n flags out h slots valid legal st t u b x.place x.held c.args.zero f.0 f.2 later (sym zero_is) f.1 d e;
      vs = e.vs (ap (is_out whats.Vs) (outs ∙ h.out_is) ∙ vs_out) c.hold_behind.new.vs (will_vs t u list f.2 c.check-2.ensures.stands x.place n vs_then c.hold_behind.new.vs x.vs);
      back = e.back (ap (is_out whats.Back) (outs ∙ h.out_is) ∙ back_out) c.hold_behind.new.back (will_back t u list f.2 c.check-2.ensures.stands x.place n back_then c.hold_behind.new.back x.back);
    }
