use Rattle.std.proofs.Common.{◌≡◌, ◌∙◌, ℕ, true, false, List, [], ◌∷◌, length, sym, ap, subst}
use Rattle.heap_model.specs.declared.Act.TheVariants as acts
use Rattle.heap_model.specs.declared.Call.TheVariants as calls
use Rattle.claim_rule.specs.Places.{back_slot}
use Rattle.backend_fit.specs.Kept.{area_of}
use Rattle.compact_calls.specs.Owner.{Did}
use Rattle.compact_calls.specs.Pages.{is_loose, decommits}
use Rattle.compact_calls.proofs.Doing.{did_none}
use Rattle.compact_calls.proofs.Sweeping.{loose_is_idle, among_none, among_one}
use Rattle.compact_calls.proofs.Decommitting.{loose_here, swept_stays, swept_more}
use Rattle.compact_calls.proofs.pages.decommit_free.Goals as goal

pub returns-then-not-is_free-clause-count : goal.returns-then-not-is_free-clause-count
returns-then-not-is_free-clause-count c =
    let a = area_of c.args.back.now in let page = c.args.page in
    let none : is_loose a page ≡ false = sym (loose_is_idle a page (c.requires.swept.usable page)) ∙ (sym c.is_free.ensures ∙ c.if-not-is_free.true) in
    sym (ap (λ (l : List ℕ). length l) (among_none a page none))

pub returns-then-not-is_free-clause-did : goal.returns-then-not-is_free-clause-did
returns-then-not-is_free-clause-did c =
    let a = area_of c.args.back.now in let page = c.args.page in
    let none : is_loose a page ≡ false = sym (loose_is_idle a page (c.requires.swept.usable page)) ∙ (sym c.is_free.ensures ∙ c.if-not-is_free.true) in
    subst (λ (l : List ℕ). Did c.args.c.now c.args.c.now calls.Compact (decommits l) (back_slot ∷ [])) (sym (among_none a page none)) (did_none c.args.c.now calls.Compact (back_slot ∷ []) c.requires.owning)

pub returns-then-not-is_free-clause-swept : goal.returns-then-not-is_free-clause-swept
returns-then-not-is_free-clause-swept c =
    let a = area_of c.args.back.now in let page = c.args.page in
    let none : is_loose a page ≡ false = sym (loose_is_idle a page (c.requires.swept.usable page)) ∙ (sym c.is_free.ensures ∙ c.if-not-is_free.true) in
    swept_stays c.args.c.now c.args.back.now page none c.requires.swept

pub decommit-requires-clause-loose : goal.decommit-requires-clause-loose
decommit-requires-clause-loose c =
    let a = area_of c.args.back.now in let page = c.args.page in
    let loose : is_loose a page ≡ true = sym (loose_is_idle a page (c.requires.swept.usable page)) ∙ (sym c.is_free.ensures ∙ c.if-not-is_free.false) in
    loose_here c.args.c.now c.args.back.now page c.requires.swept loose

pub returns-clause-count : goal.returns-clause-count
returns-clause-count c =
    let a = area_of c.args.back.now in let page = c.args.page in
    let loose : is_loose a page ≡ true = sym (loose_is_idle a page (c.requires.swept.usable page)) ∙ (sym c.is_free.ensures ∙ c.if-not-is_free.false) in
    sym (ap (λ (l : List ℕ). length l) (among_one a page loose))

pub returns-clause-did : goal.returns-clause-did
returns-clause-did c =
    let a = area_of c.args.back.now in let page = c.args.page in
    let loose : is_loose a page ≡ true = sym (loose_is_idle a page (c.requires.swept.usable page)) ∙ (sym c.is_free.ensures ∙ c.if-not-is_free.false) in
    subst (λ (l : List ℕ). Did c.args.c.now c.decommit.new.c calls.Compact (decommits l) (back_slot ∷ [])) (sym (among_one a page loose)) c.decommit.ensures.did

pub returns-clause-swept : goal.returns-clause-swept
returns-clause-swept c =
    let a = area_of c.args.back.now in let page = c.args.page in
    let loose : is_loose a page ≡ true = sym (loose_is_idle a page (c.requires.swept.usable page)) ∙ (sym c.is_free.ensures ∙ c.if-not-is_free.false) in
    swept_more c.args.c.now c.args.back.now page c.requires.swept c.decommit.new.c (acts.Decommit page ∷ []) loose c.decommit.ensures.did.goes c.decommit.ensures.heap
