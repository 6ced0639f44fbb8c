use Rattle.std.proofs.Common.{◌∙◌, ◌*◌, [], ◌∷◌, refl, sym, ap}
use Rattle.heap_model.specs.declared.Call.TheVariants as calls
use Rattle.heap_model.specs.State.{Area}
use Rattle.heap_model.specs.Shape.{loose_pages}
use Rattle.claim_rule.specs.Places.{back_slot}
use Rattle.backend_fit.specs.Kept.{area_of}
use Rattle.heap_gate.specs.Token.{is_out}
use Rattle.heap_model.specs.declared.What.TheVariants as whats
use Rattle.lfh_spans.proofs.Joined.{has_back_by, back_of_still}
use Rattle.compact_calls.specs.Pages.{decommits}
use Rattle.compact_calls.proofs.Doing.{did_runs, did_then}
use Rattle.compact_calls.proofs.Sweeping.{layer_after, swept_all, none_loose}
use Rattle.compact_calls.proofs.Decommitting.{front_still, front_then, swept_first, swept_back}
use Rattle.compact_calls.proofs.pages.decommit_pages.Goals as goal

pub sweep-number-requires-clause-owning : goal.sweep-number-requires-clause-owning
sweep-number-requires-clause-owning c = (did_runs c.args.c.now c.hear_sound.new.c calls.Compact [] (back_slot ∷ []) c.requires.owning refl c.hear_sound.ensures.runs c.hear_sound.ensures.stands).owning

pub sweep-number-requires-clause-swept : goal.sweep-number-requires-clause-swept
sweep-number-requires-clause-swept c =
    swept_first c.hear_sound.new.c c.args.back.now
    (back_of_still c.args.c.now c.hear_sound.new.c c.hear_sound.ensures.runs (has_back_by c.args.c.now c.check.ensures.stands (ap (is_out whats.Back) c.requires.owning.out_is)) c.args.back.now c.requires.back) c.hear_sound.ensures.sound

pub returns-clause-did : goal.returns-clause-did
returns-clause-did c =
    let a = c.args.c.now in let b = c.hear_sound.new.c in let d = c.sweep-number.new.c in
    did_then a b d calls.Compact [] (decommits (loose_pages (area_of c.args.back.now))) (back_slot ∷ []) (back_slot ∷ [])
    (did_runs a b calls.Compact [] (back_slot ∷ []) c.requires.owning refl c.hear_sound.ensures.runs c.hear_sound.ensures.stands) c.sweep-number.ensures.did

pub returns-clause-back : goal.returns-clause-back
returns-clause-back c =
    let k = c.args.back.now in let m = c.decommit_free-cleared.new.self in let e = c.decommit_free-cleared.ensures in let w = c.sweep-number.ensures.swept in
    swept_back c.sweep-number.new.c k m (256 * (area_of k).reserved) w (layer_after k m e.limits e.spans (e.area ∙ sym (swept_all (area_of k) w.usable)))

pub returns-clause-spans : goal.returns-clause-spans
returns-clause-spans c = ap (λ (a : Area). a.spans) c.decommit_free-cleared.ensures.area

pub returns-clause-clean : goal.returns-clause-clean
returns-clause-clean c = ap loose_pages c.decommit_free-cleared.ensures.area ∙ none_loose (area_of c.args.back.now) c.sweep-number.ensures.swept.usable

pub returns-clause-front : goal.returns-clause-front
returns-clause-front c =
    let a = c.args.c.now in let b = c.hear_sound.new.c in let d = c.sweep-number.new.c in
    front_then a b d (decommits (loose_pages (area_of c.args.back.now))) c.sweep-number.ensures.did.goes (front_still a b c.check.ensures.stands c.requires.owning.owns c.hear_sound.ensures.runs) c.sweep-number.ensures.front
