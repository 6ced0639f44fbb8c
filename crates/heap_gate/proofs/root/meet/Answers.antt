use Rattle.std.proofs.Common.{◌∙◌, subst, ap, Option}
use Rattle.claim_rule.specs.declared.views.View.{View}
use Rattle.random_pick.specs.CallerDraws.{words_of}
use mathlib.Core.Option.{none}
use Rattle.atomic_table.specs.Table.{Me, Step, step}
use Rattle.heap_gate.specs.Token.{Token}
use Rattle.heap_gate.specs.Seated.{Face, tok}
use Rattle.heap_gate.specs.Roots.{HaveMet}
use Rattle.heap_gate.proofs.Meeting.{HasTaken, meets, caller_taken, met}
use Rattle.heap_gate.proofs.root.meet.Goals as goal

pub agree-requires-clause-caller : goal.agree-requires-clause-caller
agree-requires-clause-caller g c = (c.b.inside.number, ap (λ (m : Me (Option g.row.T.Denot) View). m.0.role) c.tell.ensures.1 ∙ c.b.invariant.role)

pub tell-requires-2-clause-caller : goal.tell-requires-2-clause-caller
tell-requires-2-clause-caller g c = (c.a.inside.number, ap (λ (m : Me (Option g.row.T.Denot) View). m.0.role) c.relayed-news.ensures.same.1 ∙ c.a.invariant.role)

pub agree-requires-2-clause-caller : goal.agree-requires-2-clause-caller
agree-requires-2-clause-caller g c = (c.a.inside.number, ap (λ (m : Me (Option g.row.T.Denot) View). m.0.role) c.tell-2.ensures.1 ∙ (ap (λ (m : Me (Option g.row.T.Denot) View). m.0.role) c.relayed-news.ensures.same.1 ∙ c.a.invariant.role))

both : (g : _) (c : goal.After-agree-2 g) → HasTaken c.b.inside.number c.b.inside.place.me c.relayed-news-2.new.place.me c.a.inside.place.me.0.roll c.a.inside.place.me.0.seen × HasTaken c.a.inside.number c.a.inside.place.me c.agree-2.new.place.me c.relayed-news-2.new.place.me.0.roll c.relayed-news-2.new.place.me.0.seen
both g c =
    let a = c.a.inside in let b = c.b.inside in
    let st : Step (Option g.row.T.Denot) = step c.heap.inside.table.shared.table_id.slots 0 0 0 none in
    meets a.number b.number a.place.me c.relayed-news.new.place.me c.tell-2.new.place.me c.agree-2.new.place.me b.place.me c.tell.new.place.me c.agree.new.place.me c.relayed-news-2.new.place.me c.relayed-news.result.me c.relayed-news-2.result.me st st c.agree.ensures.told.0 c.agree-2.ensures.told.0
    c.a.invariant.role c.b.invariant.role c.relayed-news.ensures.same.1 c.relayed-news.ensures.seat.1 c.tell.ensures.1 c.agree.ensures.told.1 c.relayed-news-2.ensures.same.1 c.relayed-news-2.ensures.seat.1 c.tell-2.ensures.1 c.agree-2.ensures.told.1

pub invariant_of-a : goal.invariant_of-a
invariant_of-a g c =
    let a = c.a.inside in let fa : Face = record { number = a.number; prepared = a.prepared.items; pending = a.pending; call = a.call.value; fresh = a.fresh.value; locked = a.locked.value; inside = a.inside; depth = a.depth; whole = a.whole.value; free = a.free.value; drawn = a.drawn.value } in
    let none_left = ap (λ (t : Token). t.prepared) c.a.view_is ∙ c.requires.prepared.0 in
    caller_taken a.place.table_id a.place.me fa a.slot (words_of a.draws) c.a.invariant none_left c.agree-2.new.place.me c.relayed-news-2.new.place.me.0.roll c.relayed-news-2.new.place.me.0.seen (both g c).1 c.agree-2.new.place.table_id

pub invariant_of-b : goal.invariant_of-b
invariant_of-b g c =
    let b = c.b.inside in let fb : Face = record { number = b.number; prepared = b.prepared.items; pending = b.pending; call = b.call.value; fresh = b.fresh.value; locked = b.locked.value; inside = b.inside; depth = b.depth; whole = b.whole.value; free = b.free.value; drawn = b.drawn.value } in
    let none_left = ap (λ (t : Token). t.prepared) c.b.view_is ∙ c.requires.prepared.1 in
    caller_taken b.place.table_id b.place.me fb b.slot (words_of b.draws) c.b.invariant none_left c.relayed-news-2.new.place.me c.a.inside.place.me.0.roll c.a.inside.place.me.0.seen (both g c).0 c.relayed-news-2.new.place.table_id

pub returns : goal.returns
returns g c =
    let a = c.a.inside in let fa : Face = record { number = a.number; prepared = a.prepared.items; pending = a.pending; call = a.call.value; fresh = a.fresh.value; locked = a.locked.value; inside = a.inside; depth = a.depth; whole = a.whole.value; free = a.free.value; drawn = a.drawn.value } in let b = c.b.inside in let fb : Face = record { number = b.number; prepared = b.prepared.items; pending = b.pending; call = b.call.value; fresh = b.fresh.value; locked = b.locked.value; inside = b.inside; depth = b.depth; whole = b.whole.value; free = b.free.value; drawn = b.drawn.value } in
    let p = c.agree-2.new.place in let q = c.relayed-news-2.new.place in
    let P : Token → Type 0 = λ t. HaveMet t c.args.b.now (tok p.table_id p.me fa) (tok q.table_id q.me fb) in
    let Q : Token → Type 0 = λ t. HaveMet (tok a.place.table_id a.place.me fa) t (tok p.table_id p.me fa) (tok q.table_id q.me fb) in
    let ea = c.agree-2.ensures.table ∙ (c.tell-2.ensures.0 ∙ c.relayed-news.ensures.same.0) in
    let eb = c.relayed-news-2.ensures.same.0 ∙ (c.agree.ensures.table ∙ c.tell.ensures.0) in
    subst P c.a.view_is (subst Q c.b.view_is (met a.place.table_id p.table_id b.place.table_id q.table_id a.place.me p.me b.place.me q.me fa fb a.slot b.slot (words_of a.draws) (words_of b.draws) c.a.invariant c.b.invariant
    (ap (λ (t : Token). t.prepared) c.a.view_is ∙ c.requires.prepared.0) (ap (λ (t : Token). t.prepared) c.b.view_is ∙ c.requires.prepared.1) ea eb (both g c).0 (both g c).1))
