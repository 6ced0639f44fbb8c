use Rattle.std.proofs.Common.{◌≡◌, ℕ, ◌*◌, ◌/◌, ◌<◌, ◌≤◌, ◌∙◌, ◌&&◌, Bool, true, false, cond, length, arith, refl, sym, ap, subst, inr, Some, None, Option, eqb}
use Rattle.std.proofs.lemmas.Bool.{and_from, eq-eqb}
use Rattle.std.specs.List.{find}
use Rattle.heap_model.specs.declared.Run.{Run}
use Rattle.page_ranges.specs.Words.{runs_of}
use Rattle.page_ranges.specs.Ranges.{has_page}
use Rattle.page_ranges.specs.Spans.{is_usable_in}
use Rattle.page_ranges.proofs.Runs.{finds_run}
use Rattle.backend_fit.specs.Kept.{is_block_at, area_of}
use Rattle.stay_calls.proofs.BlockAt.{found_taken, none_within, none_outside, none_unusable, at_page, elsewhere}
use Rattle.stay_calls.proofs.back.block_at.Goals as goal

pub returns-then-addr-ne0 : goal.returns-then-addr-ne0
returns-then-addr-ne0 c =
    let rs = runs_of c.args.back.now.words in
    sym (found_taken c.args.addr rs ∙ none_within c.args.addr rs c.if-addr-ne0.true)

pub returns-then-page-pages : goal.returns-then-page-pages
returns-then-page-pages c =
    let words = c.args.back.now.words in
    let rs = runs_of words in
    let page = c.args.addr / 4096 in
    let at : c.args.addr ≡ 4096 * page = omega (arith, c.if-addr-ne0.false) in
    let far : length words ≤ page = omega (arith, c.if-page-pages.true, c.from-pages.ensures, ap length c.descs.ensures.words, c.pages.ensures.pages) in
    sym (found_taken c.args.addr rs ∙ subst (λ (a : ℕ). find (is_block_at a) rs ≡ None) (sym at) (none_outside words 0 (length words) page rs c.descs.ensures.sound.whole (inr far)))

pub returns-in_default : goal.returns-in_default
returns-in_default c =
    let words = c.args.back.now.words in
    let rs = runs_of words in
    let page = c.args.addr / 4096 in
    let at : c.args.addr ≡ 4096 * page = omega (arith, c.if-addr-ne0.false) in
    let near : page < length words = omega (arith, c.if-page-pages.false, c.from-pages.ensures, ap length c.descs.ensures.words, c.pages.ensures.pages) in
    let there = finds_run words page c.descs.ensures.sound.whole near in
    let none : is_usable_in (area_of c.args.back.now).reserved page ≡ false = unusable (is_usable_in (area_of c.args.back.now).reserved page) (find (has_page page) rs) _ there (sym c.in_default.is ∙ c.run_at.ensures) in
    sym (found_taken c.args.addr rs ∙ subst (λ (a : ℕ). find (is_block_at a) rs ≡ None) (sym at) (none_unusable words (area_of c.args.back.now).reserved 0 (length words) page rs c.descs.ensures.sound.whole c.descs.ensures.sound.used none))
  where
    unusable : (b : Bool) (o : Option Run) (r : Run) → o ≡ Some r → None ≡ cond b o None → b ≡ false
    unusable true o r e h = absurd (let f : None ≡ Some r = h ∙ e in let z : ⊥ = cc in z)
    unusable false o r e h = refl

if_usable : (b : Bool) (o : Option Run) (r : Run) → Some r ≡ cond b o None → o ≡ Some r
if_usable true o r h = sym h
if_usable false o r h = absurd (let z : ⊥ = cc in z)

pub returns-then-run-page : goal.returns-then-run-page
returns-then-run-page c =
    let words = c.args.back.now.words in
    let rs = runs_of words in
    let page = c.args.addr / 4096 in
    let r = c.in-Some.run' in
    let at : c.args.addr ≡ 4096 * page = omega (arith, c.if-addr-ne0.false) in
    let there = if_usable (is_usable_in (area_of c.args.back.now).reserved page) (find (has_page page) rs) r (sym c.in-Some.is ∙ c.run_at.ensures) in
    let other : is_block_at (4096 * page) r ≡ false = elsewhere (4096 * page) r (λ e. c.if-run-page.true (omega (arith, e))) in
    let none : find (is_block_at (4096 * page)) rs ≡ None = at_page words 0 (length words) page rs r c.descs.ensures.sound.whole there ∙ ap (λ b. cond b (Some r) None) other in
    sym (found_taken c.args.addr rs ∙ subst (λ (a : ℕ). find (is_block_at a) rs ≡ None) (sym at) none)

pub returns-then-not-is_back : goal.returns-then-not-is_back
returns-then-not-is_back c =
    let words = c.args.back.now.words in
    let rs = runs_of words in
    let page = c.args.addr / 4096 in
    let r = c.in-Some.run' in
    let at : c.args.addr ≡ 4096 * page = omega (arith, c.if-addr-ne0.false) in
    let there = if_usable (is_usable_in (area_of c.args.back.now).reserved page) (find (has_page page) rs) r (sym c.in-Some.is ∙ c.run_at.ensures) in
    let other : is_block_at (4096 * page) r ≡ false = ap (λ b. b && eqb (4096 * r.first) (4096 * page)) (sym c.is_back.ensures ∙ c.if-not-is_back.true) in
    let none : find (is_block_at (4096 * page)) rs ≡ None = at_page words 0 (length words) page rs r c.descs.ensures.sound.whole there ∙ ap (λ b. cond b (Some r) None) other in
    sym (found_taken c.args.addr rs ∙ subst (λ (a : ℕ). find (is_block_at a) rs ≡ None) (sym at) none)

pub returns : goal.returns
returns c =
    let words = c.args.back.now.words in
    let rs = runs_of words in
    let page = c.args.addr / 4096 in
    let r = c.in-Some.run' in
    let at : c.args.addr ≡ 4096 * page = omega (arith, c.if-addr-ne0.false) in
    let there = if_usable (is_usable_in (area_of c.args.back.now).reserved page) (find (has_page page) rs) r (sym c.in-Some.is ∙ c.run_at.ensures) in
    let here : is_block_at (4096 * page) r ≡ true = and_from _ (eqb (4096 * r.first) (4096 * page)) (sym c.is_back.ensures ∙ c.if-not-is_back.false) (eq-eqb (4096 * r.first) (4096 * page) (omega (arith, c.if-run-page.false))) in
    let one : find (is_block_at (4096 * page)) rs ≡ Some r = at_page words 0 (length words) page rs r c.descs.ensures.sound.whole there ∙ ap (λ b. cond b (Some r) None) here in
    sym (found_taken c.args.addr rs ∙ subst (λ (a : ℕ). find (is_block_at a) rs ≡ Some r) (sym at) one)
