use Rattle.std.proofs.Common.{◌≡◌, ◌∙◌, ◌+◌, ℕ, Bool, false, sym, subst, ap, arith}
use Rattle.heap_model.specs.Search.{draw_of}
use Rattle.claim_rule.proofs.Lists.{legal_parts}
use Rattle.random_pick.specs.CallerDraws.{words_of, IsBeforeDraw}
use Rattle.random_pick.proofs.DrawLemmas.{next_draw_is}
use Rattle.std.proofs.Common.{◌++◌}
use Rattle.heap_model.specs.History.{own}
use Rattle.heap_gate.specs.Token.{Token, Always, now, count, search_marks}
use Rattle.heap_gate.proofs.SearchCount.{searches_are}
use Rattle.heap_gate.proofs.caller.Caller.draw.Goals as goal

add_nought : (x : ℕ) → x + 0 ≡ x
add_nought x = omega arith

pub returns-clause-count : goal.returns-clause-count
returns-clause-count g c =
    let i = c.self.inside in let h = c.self.invariant in
    subst (λ (t : Token). Always t (λ s. ((now s t).now.calls t.number).searches ≡ t.searches)) c.self.view_is
    (λ s q. searches_are s i.number i.place.me.0.seen i.prepared.items (legal_parts s i.place.me.0.seen (h.legal s q)).0 (h.prepared s q))

pub returns-clause-draw : goal.returns-clause-draw
returns-clause-draw g c =
    let i = c.self.inside in let h = c.self.invariant in
    let drawn : i.drawn.value ≡ false = ap (λ (t : Token). t.drawn) c.self.view_is ∙ c.requires.fresh in
    subst (λ (t : Token). Always t (λ s. c.draw.result.value ≡ draw_of s t.number ((now s t).now.calls t.number).searches)) c.self.view_is
    (λ s q.
    let made = searches_are s i.number i.place.me.0.seen i.prepared.items (legal_parts s i.place.me.0.seen (h.legal s q)).0 (h.prepared s q) in
    let k = (search_marks (own i.number i.place.me.0.seen ++ i.prepared.items)).made in
    let before = subst (λ (b : Bool). IsBeforeDraw s i.number (k + count b) (words_of i.draws)) drawn (h.draws s q) in
    let here = subst (λ (y : ℕ). IsBeforeDraw s i.number y (words_of i.draws)) (add_nought k) before in
    (next_draw_is s i.number k c.draw.result.value (words_of i.draws) _ here c.draw.ensures).value_is ∙ ap (draw_of s i.number) (sym made))
