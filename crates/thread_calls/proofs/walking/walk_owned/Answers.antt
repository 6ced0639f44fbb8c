use Rattle.std.proofs.Common.{◌+◌, ◌++◌, ◌∷◌, [], ◌∙◌, List, sym, ap, subst, arith, append_assoc, Some}
use Rattle.std.proofs.lemmas.List.{append-nil}
use Rattle.heap_model.specs.declared.Reply.{Reply}
use Rattle.heap_model.specs.declared.Reply.TheVariants as replies
use Rattle.walk_calls.specs.Walk.{Walks}
use Rattle.thread_calls.proofs.Steps.{WalksSoFar, walks_none, walks_more, walks_end, walks_above, still_goes, still_deep}
use Rattle.thread_calls.proofs.walking.walk_owned.Goals as goal

pub next-requires : goal.next-requires
next-requires c =
    let x = c.loop-block.invariant.2 in
    record { table = (x.goes.table ∙ c.requires.table.0, x.goes.opening ∙ c.requires.table.1); ready = x.goes.ready; owner = λ z. c.requires.owner (sym x.depth ∙ z) }

pub loop-block-init : goal.loop-block-init
loop-block-init c = ([], sym (append-nil c.args.replies.now.items), walks_none c.args.c.now c.requires.ready)

pub returns-in_err-push-clause-goes : goal.returns-in_err-push-clause-goes
returns-in_err-push-clause-goes c = let i = c.loop-block.invariant in still_goes c.args.c.now c.loop-block.c c.next.new.c i.0 c.loop-block.count c.loop-block.from i.2 c.next.result c.next.ensures

pub returns-in_err-push-clause-depth : goal.returns-in_err-push-clause-depth
returns-in_err-push-clause-depth c = let i = c.loop-block.invariant in still_deep c.args.c.now c.loop-block.c c.next.new.c i.0 c.loop-block.count c.loop-block.from i.2 c.next.result c.next.ensures

pub returns-in_default-behind-clause-goes : goal.returns-in_default-behind-clause-goes
returns-in_default-behind-clause-goes c = let i = c.loop-block.invariant in still_goes c.args.c.now c.loop-block.c c.next.new.c i.0 c.loop-block.count c.loop-block.from i.2 c.next.result c.next.ensures

pub returns-in_default-behind-clause-depth : goal.returns-in_default-behind-clause-depth
returns-in_default-behind-clause-depth c = let i = c.loop-block.invariant in still_deep c.args.c.now c.loop-block.c c.next.new.c i.0 c.loop-block.count c.loop-block.from i.2 c.next.result c.next.ensures

pub overflow_add-count : goal.overflow_add-count
overflow_add-count c =
    let y = subst (Walks c.loop-block.c c.next.new.c c.loop-block.from) c.in-Some.is c.next.ensures in
    let above = walks_above c.loop-block.c c.next.new.c c.loop-block.from c.in-Some.block y in
    let few = c.loop-block.invariant.2.few in
    let b = c.in-Some-behind.ensures in
    let is = b.0 in
    let fits = b.1 in
    omega (arith, above, few, is, fits)

pub loop-block-smaller : goal.loop-block-smaller
loop-block-smaller c =
    let y = subst (Walks c.loop-block.c c.next.new.c c.loop-block.from) c.in-Some.is c.next.ensures in
    let above = walks_above c.loop-block.c c.next.new.c c.loop-block.from c.in-Some.block y in
    let b = c.in-Some-behind.ensures in
    let is = b.0 in
    let fits = b.1 in
    omega (arith, above, is, fits)

pub loop-block-preserved : goal.loop-block-preserved
loop-block-preserved c =
    let a = c.args.c.now in
    let b = c.loop-block.c in
    let d = c.next.new.c in
    let i = c.loop-block.invariant in
    let block = c.in-Some.block in
    let y = subst (Walks b d c.loop-block.from) c.in-Some.is c.next.ensures in
    let x = walks_more a b d i.0 c.loop-block.count c.loop-block.from i.2 block y (walks_above b d c.loop-block.from block y) in
    let its = i.0 ++ replies.Seen block ∷ [] in (
      its,
      c.in_ok-push.ensures.items ∙ (ap (λ (l : List Reply). l ++ replies.Seen block ∷ []) i.1 ∙ append_assoc c.args.replies.now.items i.0 (replies.Seen block ∷ [])),
      subst (WalksSoFar a d its (c.loop-block.count + 1)) (sym c.in-Some-behind.ensures.0) x,
    )

pub returns-in_err-push-2-clause-goes : goal.returns-in_err-push-2-clause-goes
returns-in_err-push-2-clause-goes c = let i = c.loop-block.invariant in still_goes c.args.c.now c.loop-block.c c.next.new.c i.0 c.loop-block.count c.loop-block.from i.2 c.next.result c.next.ensures

pub returns-in_err-push-2-clause-depth : goal.returns-in_err-push-2-clause-depth
returns-in_err-push-2-clause-depth c = let i = c.loop-block.invariant in still_deep c.args.c.now c.loop-block.c c.next.new.c i.0 c.loop-block.count c.loop-block.from i.2 c.next.result c.next.ensures

pub returns-clause-goes : goal.returns-clause-goes
returns-clause-goes c = let i = c.loop-block.invariant in still_goes c.args.c.now c.loop-block.c c.next.new.c i.0 c.loop-block.count c.loop-block.from i.2 c.next.result c.next.ensures

pub returns-clause-depth : goal.returns-clause-depth
returns-clause-depth c = let i = c.loop-block.invariant in still_deep c.args.c.now c.loop-block.c c.next.new.c i.0 c.loop-block.count c.loop-block.from i.2 c.next.result c.next.ensures

pub returns-clause-walked : goal.returns-clause-walked
returns-clause-walked c =
    let a = c.args.c.now in
    let b = c.loop-block.c in
    let d = c.next.new.c in
    let i = c.loop-block.invariant in
    let y = subst (Walks b d c.loop-block.from) c.in_default.is c.next.ensures in
    let last = replies.Walked c.loop-block.count ∷ [] in (
      i.0 ++ last,
      c.in_ok-push-2.ensures.items ∙ (ap (λ (l : List Reply). l ++ last) i.1 ∙ append_assoc c.args.replies.now.items i.0 last),
      walks_end a b d i.0 c.loop-block.count c.loop-block.from i.2 y c.requires.owner,
    )
