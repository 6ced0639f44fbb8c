use Rattle.std.proofs.Common.{◌≡◌, ◌∙◌, List, false, sym, subst, ap, Option}
use Rattle.random_pick.specs.CallerDraws.{words_of}
use Rattle.std.proofs.Common.{◌<◌, length}
use mathlib.Core.Option.{none}
use Rattle.atomic_table.specs.Table.{Step, step}
use Rattle.claim_rule.specs.declared.views.Assignment.{Assignment}
use Rattle.heap_model.specs.declared.Opening.{Opening}
use Rattle.heap_gate.specs.Token.{HeapToken, IsCaller}
use Rattle.heap_gate.specs.Seated.{Face, tok}
use Rattle.heap_gate.specs.Roots.{RootToken, joined_of, roll_in, lists_of}
use Rattle.heap_gate.proofs.Meeting.{root_made, counted_role, fresh}
use Rattle.heap_gate.proofs.root.make_caller.Goals as goal

pub invariant_of-root : goal.invariant_of-root
invariant_of-root g c =
    let r = c.root.inside in
    let st : Step (Option g.row.T.Denot) = step c.heap.inside.table.shared.table_id.slots 0 1 0 none in
    (root_made (record { slot = c.args.slot; stream = c.args.stream }) r.place.me c.count.new.place.me c.deal-place.new.place.me r.made c.count.ensures.told.0 st c.root.invariant c.count.ensures.told.1 c.deal-place.ensures.root.1).root

pub invariant_of-result : goal.invariant_of-result
invariant_of-result g c =
    let r = c.root.inside in let k = c.root.invariant in let h = c.heap.inside in
    let st : Step (Option g.row.T.Denot) = step h.table.shared.table_id.slots 0 1 0 none in
    let a : Assignment = record { slot = c.args.slot; stream = c.args.stream } in
    let opened : r.place.me.0.opening ≡ h.opening = ap (λ (t : RootToken). t.opening) c.root.view_is ∙ (c.requires.table.1 ∙ ap (λ (t : HeapToken). t.opening) (sym c.heap.view_is)) in
    let roll : roll_in r.place.me.0.role ≡ c.args.root.now.roll = ap (λ (t : RootToken). t.roll) c.root.view_is in
    let same : c.args.heap.now.opening ≡ h.opening = ap (λ (t : HeapToken). t.opening) (sym c.heap.view_is) in
    let few = subst (λ (x : List Assignment × Opening). length x.0 < x.1.limits.callers) (λ j. (sym roll j, same j)) c.requires.room in
    let slot = subst (λ (x : Opening). c.args.slot < x.limits.slots) same c.requires.slot in
    let seed : c.args.seed ≡ h.opening.seed = c.requires.seed ∙ ap (λ (x : Opening). x.seed) same in
    let f = fresh c.deal-place.result.table_id h.opening a c.count.new.place.me.0 (roll_in r.place.me.0.role) (joined_of r.place.me.0.role) (lists_of r.place.me.0.role) c.args.seed c.new-3.result c.deal-place.result.me r.made
    (counted_role r.place.me c.count.new.place.me r.made c.count.ensures.told.0 st k c.count.ensures.told.1)
    (c.count.ensures.told.1.opening ∙ opened) c.deal-place.ensures.seat.1 k.count_is few slot c.heap.invariant.valid.callers seed (c.new-3.ensures ∙ c.new-2.ensures) in
    subst (λ (x : Face). IsCaller c.deal-place.result.me (tok c.deal-place.result.table_id c.deal-place.result.me x) c.args.slot (words_of c.new-3.result))
    (λ j. record { number = r.made; prepared = sym c.new.ensures j; pending = false; call = sym c.of.ensures j; fresh = sym c.of-2.ensures j; locked = sym c.of-3.ensures j; inside = false; depth = 0; whole = sym c.of-4.ensures j; free = sym c.of-5.ensures j; drawn = sym c.of-6.ensures j }) f
