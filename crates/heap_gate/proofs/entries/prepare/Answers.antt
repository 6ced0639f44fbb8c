use Rattle.std.proofs.Common.{◌≡◌, ◌<◌, ◌∙◌, true, sym, subst, ap, length}
use Rattle.random_pick.specs.CallerDraws.{words_of}
use Rattle.claim_rule.specs.Entries.{may_prepare}
use Rattle.heap_gate.specs.Token.{Token, IsCaller, Always, now}
use Rattle.heap_gate.specs.Seated.{Face, tok}
use Rattle.heap_gate.specs.Calls.{with_prepared}
use Rattle.heap_gate.proofs.Preparation.{more, prepared_more, prepared_is}
use Rattle.heap_gate.proofs.entries.prepare.Goals as goal

-- the face as the code leaves it
faced : (g : _) (c : goal.After-push g) → (let i = c.c.inside in let f : Face = record { number = i.number; prepared = i.prepared.items; pending = i.pending; call = i.call.value; fresh = i.fresh.value; locked = i.locked.value; inside = i.inside; depth = i.depth; whole = i.whole.value; free = i.free.value; drawn = i.drawn.value } in more i.place.table_id i.place.me f i.slot (words_of i.draws) c.c.invariant c.args.act)
    ≡ record { number = c.c.inside.number; prepared = c.push.new.self.items; pending = c.set_by_begin-c-inside.result; call = c.note_call.new.noted.value; fresh = c.note_set.new.noted.value; locked = c.note_unset.new.noted.value; inside = c.c.inside.inside; depth = c.c.inside.depth; whole = c.note_end.new.noted.value; free = c.note_hand.new.noted.value; drawn = c.note_unset-2.new.noted.value }
faced g c = λ j. record {
  number = c.c.inside.number;
  prepared = sym c.push.ensures.items j;
  pending = sym c.set_by_begin-c-inside.ensures j;
  call = sym c.note_call.ensures j;
  fresh = sym c.note_set.ensures j;
  locked = sym c.note_unset.ensures j;
  inside = c.c.inside.inside;
  depth = c.c.inside.depth;
  whole = sym c.note_end.ensures j;
  free = sym c.note_hand.ensures j;
  drawn = sym c.note_unset-2.ensures j;
}

pub invariant_of-c : goal.invariant_of-c
invariant_of-c g c =
    let i = c.c.inside in let f : Face = record { number = i.number; prepared = i.prepared.items; pending = i.pending; call = i.call.value; fresh = i.fresh.value; locked = i.locked.value; inside = i.inside; depth = i.depth; whole = i.whole.value; free = i.free.value; drawn = i.drawn.value } in let h = c.c.invariant in let z = i.place.table_id in let me = i.place.me in let stream = words_of i.draws in let v = c.c.view_is in
    let act = c.args.act in
    let room = subst (λ (t : Token). length t.prepared < 16) (sym v) c.requires.room in
    let may = subst (λ (t : Token). Always t (λ s. may_prepare s (now s t) t.number act ≡ true)) (sym v) c.requires.may in
    subst (λ (x : Face). IsCaller me (tok z me x) i.slot stream) (faced g c) (prepared_more z me f i.slot stream h act may room)

pub returns : goal.returns
returns g c =
    let i = c.c.inside in let f : Face = record { number = i.number; prepared = i.prepared.items; pending = i.pending; call = i.call.value; fresh = i.fresh.value; locked = i.locked.value; inside = i.inside; depth = i.depth; whole = i.whole.value; free = i.free.value; drawn = i.drawn.value } in let h = c.c.invariant in let z = i.place.table_id in let me = i.place.me in let stream = words_of i.draws in let v = c.c.view_is in
    let act = c.args.act in
    let may = subst (λ (t : Token). Always t (λ s. may_prepare s (now s t) t.number act ≡ true)) (sym v) c.requires.may in
    ap (λ (x : Face). tok z me x) (sym (faced g c)) ∙ (prepared_is z me f i.slot stream h act may ∙ ap (λ (t : Token). with_prepared t act) v)
