use Rattle.std.proofs.Common.{◌≡◌, ◌∙◌, ℕ, arith, Bool, List, [], ◌∷◌, true, false, refl, sym, subst, ap, Option}
use Rattle.heap_model.specs.declared.Entry.{Entry}
use Rattle.claim_rule.specs.Entries.{IsSettingOf}
use mathlib.Core.Option.{none}
use Rattle.atomic_table.specs.Table.{Step, step}
use Rattle.heap_model.specs.declared.Opening.{Opening}
use Rattle.heap_model.specs.History.{configuration_after, configuration_of}
use Rattle.heap_gate.specs.Token.{HeapToken, Token, IsAt, outs}
use Rattle.heap_gate.specs.Seated.{Face, tok}
use Rattle.heap_gate.specs.Roots.{RootToken, IsRoot, HasJoined, root_token}
use Rattle.heap_gate.proofs.Meeting.{root_taken, root_joined, idle_of}
use Rattle.heap_gate.proofs.root.join.Goals as goal

no_outs : {T : Type 0} (xs : List (ℕ × Option T)) → outs xs ≡ [] → xs ≡ []
no_outs [] e = refl
no_outs (x ∷ xs) e = absurd (let no : ⊥ = cc in no)

pub take_in-requires-clause-table : goal.take_in-requires-clause-table
take_in-requires-clause-table g c =
    let i = c.c.inside in let hv = c.heap.view_is in let words = c.heap.invariant.words in (
      ap (λ (t : RootToken). t.table) c.root.view_is ∙ (c.requires.tables.0 ∙ ap (λ (t : HeapToken). t.table) (sym hv)),
      ap (λ (t : Token). t.table) c.c.view_is ∙ (c.requires.tables.1 ∙ ap (λ (t : HeapToken). t.table) (sym hv)),
      no_outs i.place.me.1 (ap (λ (t : Token). t.out) c.c.view_is ∙ c.requires.out),
      omega arith,
    )

pub hear-requires-clause-root : goal.hear-requires-clause-root
hear-requires-clause-root g c =
    let r = c.root.inside in let i = c.c.inside in
    (_, root_taken r.place.me c.take_in.new.place.me i.place.me.0 r.made i.number c.root.invariant c.c.invariant.role c.take_in.ensures.1)

both : (g : _) (c : goal.After-hear g) → let r = c.root.inside in let i = c.c.inside in IsRoot c.hear.new.place.me r.made × HasJoined (root_token r.place.table_id r.place.me) (tok i.place.table_id i.place.me (record { number = i.number; prepared = i.prepared.items; pending = i.pending; call = i.call.value; fresh = i.fresh.value; locked = i.locked.value; inside = i.inside; depth = i.depth; whole = i.whole.value; free = i.free.value; drawn = i.drawn.value })) (root_token c.hear.new.place.table_id c.hear.new.place.me)
both g c =
    let r = c.root.inside in let i = c.c.inside in let h = c.c.invariant in let v = c.c.view_is in
    let f : Face = record { number = i.number; prepared = i.prepared.items; pending = i.pending; call = i.call.value; fresh = i.fresh.value; locked = i.locked.value; inside = i.inside; depth = i.depth; whole = i.whole.value; free = i.free.value; drawn = i.drawn.value } in
    let st : Step (Option g.row.T.Denot) = step c.heap.inside.table.shared.table_id.slots 0 0 0 none in
    let inside : i.inside ≡ false = ap (λ (t : Token). t.inside) v ∙ c.requires.outside in
    let depth : i.depth ≡ 0 = ap (λ (t : Token). t.depth) v ∙ c.requires.free in
    let out : outs i.place.me.1 ≡ [] = ap (λ (t : Token). t.out) v ∙ c.requires.out in
    let prepared : i.prepared.items ≡ [] = ap (λ (t : Token). t.prepared) v ∙ c.requires.prepared in
    let free : i.free.value ≡ true = h.even.rests inside in
    let opening : r.place.me.0.opening ≡ i.place.me.0.opening = ap (λ (t : RootToken). t.opening) c.root.view_is ∙ (c.requires.openings.0 ∙ (sym c.requires.openings.1 ∙ ap (λ (t : Token). t.opening) (sym v))) in
    root_joined r.place.table_id c.hear.new.place.table_id (tok i.place.table_id i.place.me f) r.place.me c.take_in.new.place.me c.hear.new.place.me i.place.me.0 r.made c.hear.ensures.told.0 st
    (c.hear.ensures.table ∙ c.take_in.ensures.0) c.root.invariant h.role refl refl c.take_in.ensures.1 c.hear.ensures.told.1
    (λ s q.
    let at = h.at s (subst (λ (o : Opening). IsSettingOf o i.place.me.0.roll s) opening q) in
    idle_of (configuration_of s i.place.me.0.seen) i.number i.call.value i.fresh.value i.whole.value
    (subst (λ (x : List Entry). IsAt (configuration_after s (configuration_of s i.place.me.0.seen) x) i.number i.call.value i.fresh.value false 0 [] i.whole.value true) prepared
    (subst (λ (d : ℕ). IsAt (configuration_after s (configuration_of s i.place.me.0.seen) i.prepared.items) i.number i.call.value i.fresh.value false d [] i.whole.value true) depth
    (subst (λ (o : List ℕ). IsAt (configuration_after s (configuration_of s i.place.me.0.seen) i.prepared.items) i.number i.call.value i.fresh.value false i.depth o i.whole.value true) out
    (subst (λ (b : Bool). IsAt (configuration_after s (configuration_of s i.place.me.0.seen) i.prepared.items) i.number i.call.value i.fresh.value false i.depth (outs i.place.me.1) i.whole.value b) free
    (subst (λ (b : Bool). IsAt (configuration_after s (configuration_of s i.place.me.0.seen) i.prepared.items) i.number i.call.value i.fresh.value b i.depth (outs i.place.me.1) i.whole.value i.free.value) inside at))))))

pub invariant_of-root : goal.invariant_of-root
invariant_of-root g c = (both g c).0

pub returns : goal.returns
returns g c =
    let P : RootToken → Type 0 = λ t. HasJoined t c.args.c (root_token c.hear.new.place.table_id c.hear.new.place.me) in
    let Q : Token → Type 0 = λ t. HasJoined (root_token c.root.inside.place.table_id c.root.inside.place.me) t (root_token c.hear.new.place.table_id c.hear.new.place.me) in
    subst P c.root.view_is (subst Q c.c.view_is (both g c).1)
