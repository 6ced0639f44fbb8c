use Rattle.std.proofs.Common.{◌∙◌, refl, ap}
use Rattle.heap_model.specs.declared.Call.TheVariants as calls
use Rattle.heap_model.specs.declared.What.TheVariants as whats
use Rattle.heap_model.specs.Shape.{moving}
use Rattle.heap_gate.specs.Token.{is_out}
use Rattle.move_to_front.proofs.Filled.{half_over_filled, vs_filled, back_filled, filled_changed}
use Rattle.move_to_front.proofs.finish.front_back.Goals as goal

pub move_words-requires-clause-whole : goal.move_words-requires-clause-whole
move_words-requires-clause-whole c = c.requires.halfway.4.whole

pub move_words-requires-clause-inside : goal.move_words-requires-clause-inside
move_words-requires-clause-inside c = c.requires.halfway.4.inside

pub move_words-requires-clause-from : goal.move_words-requires-clause-from
move_words-requires-clause-from c = c.requires.halfway.4.from

pub move_words-requires-clause-to : goal.move_words-requires-clause-to
move_words-requires-clause-to c = c.requires.halfway.4.to

pub end_back-requires-clause-table : goal.end_back-requires-clause-table
end_back-requires-clause-table c = let f = c.move_words.ensures in (f.2.added.goes.table ∙ c.requires.table.0, f.2.added.goes.opening ∙ c.requires.table.1)

pub end_back-requires-clause-halfway : goal.end_back-requires-clause-halfway
end_back-requires-clause-halfway c =
    let x = c.requires.halfway in let t = c.args.c.now in let u = c.move_words.new.c in
    let addr = c.args.addr in let size = c.args.size in let n = c.args.n in let b = c.args.b in
    let f = c.move_words.ensures in let list = moving addr size b n c.args.zero f.0 in
    (calls.Realloc addr n x.0, x.1, x.2, x.3, half_over_filled t u list f.2 (calls.Realloc addr n x.0) addr size b n x.1 x.2 x.3 x.4, x.5, back_filled t u list f.2 c.check.ensures.stands (ap (is_out whats.Back) x.4.out_is ∙ x.6) c.args.back.now x.7)

pub returns : goal.returns
returns c = λ flags p q out h is_there back_out wb.
    let t = c.args.c.now in let u = c.move_words.new.c in let d = c.end_back.new.c in
    let addr = c.args.addr in let size = c.args.size in let n = c.args.n in let b = c.args.b in
    let f = c.move_words.ensures in let list = moving addr size b n c.args.zero f.0 in
    let half = half_over_filled t u list f.2 (calls.Realloc addr n flags) addr size b n p q out h in
    let e = c.end_back.ensures (calls.Realloc addr n flags) p q out half is_there (back_filled t u list f.2 c.check.ensures.stands (ap (is_out whats.Back) h.out_is ∙ back_out) c.args.back.now wb) in
    record {
      changed = filled_changed t u list f.2 d addr size b n c.args.zero f.0 f.1 refl e.changed;
      back = e.back;
      vs = λ o vs v. e.vs (ap (is_out whats.Vs) f.2.out_is ∙ o) vs (vs_filled t u list f.2 c.check.ensures.stands o vs v);
    }
