use Rattle.std.proofs.Common.{[], ◌∷◌, refl}
use Rattle.heap_model.specs.declared.Act.TheVariants as acts
use Rattle.heap_model.specs.declared.Call.TheVariants as calls
use Rattle.heap_model.specs.declared.What.TheVariants as whats
use Rattle.backend_fit.specs.Kept.{layer_of}
use Rattle.call_parts.proofs.Tokens.{added_none}
use Rattle.vs_calls.proofs.Shapes.{placed_so, refused_so, blocked_so, added_back}
use Rattle.vs_calls.proofs.Backward.{placed_leaves, first_none, first_missed, first_taken}
use Rattle.vs_calls.proofs.TakenBack.{missed_tells, is_anew, none_fits}
use Rattle.vs_calls.proofs.allocating.place_in_vs.Goals as goal

pub give_vs-requires-clause-tells : goal.give_vs-requires-clause-tells
give_vs-requires-clause-tells c =
    let v = c.requires.placing in
    missed_tells c.args.c.now (calls.Alloc c.args.n v.flags) c.args.vs v.holds c.check.ensures.stands v.used c.take_back.new.c c.in-Err.busy c.in-Err.ensures.busy

pub returns-then-fit-clause-placed : goal.returns-then-fit-clause-placed
returns-then-fit-clause-placed c =
    let v = c.requires.placing in
    placed_so c.args.c.now c.args.c.now c.place_in_gap.new.c v.flags _ [] c.args.n c.place_in_gap.result c.args.zero v.holds.serving v.zero_is (added_none c.args.c.now) refl refl c.place_in_gap.ensures

pub returns-in-Err-clause-refused : goal.returns-in-Err-clause-refused
returns-in-Err-clause-refused c =
    let v = c.requires.placing in (
      none_fits c.args.vs c.args.n c.fit.result c.fit.ensures c.if-fit.false,
      blocked_so c.args.c.now c.take_back.new.c c.give_vs.new.c (calls.Alloc c.args.n v.flags) c.in-Err.busy v.holds.serving c.in-Err.ensures.busy c.give_vs.ensures,
    )

pub place_in_span-requires-clause-placing : goal.place_in_span-requires-clause-placing
place_in_span-requires-clause-placing c =
    is_anew c.args.c.now c.take_back.new.c c.args.vs c.in-Ok.back c.args.n c.args.zero c.requires.placing c.check.ensures.stands c.in-Ok.ensures.ok (none_fits c.args.vs c.args.n c.fit.result c.fit.ensures c.if-fit.false)

pub returns-in-Some-clause-placed : goal.returns-in-Some-clause-placed
returns-in-Some-clause-placed c =
    let v = c.requires.placing in
    placed_so c.args.c.now c.take_back.new.c c.place_in_span.new.c v.flags _ (acts.TakeLock whats.Back ∷ []) c.args.n c.in-Some.addr c.args.zero v.holds.serving v.zero_is
    (added_back layer_of c.args.c.now c.take_back.new.c c.in-Ok.back (calls.Alloc c.args.n v.flags) v.holds.serving c.in-Ok.ensures.ok) refl refl c.in-Some.ensures.placed

pub returns-in-None-clause-refused : goal.returns-in-None-clause-refused
returns-in-None-clause-refused c =
    let v = c.requires.placing in (
      none_fits c.args.vs c.args.n c.fit.result c.fit.ensures c.if-fit.false,
      refused_so c.args.c.now c.take_back.new.c c.place_in_span.new.c (acts.TakeLock whats.Back ∷ [])
          (added_back layer_of c.args.c.now c.take_back.new.c c.in-Ok.back (calls.Alloc c.args.n v.flags) v.holds.serving c.in-Ok.ensures.ok) refl refl c.in-None.ensures.refused,
    )

pub returns-then-fit-clause-late : goal.returns-then-fit-clause-late
returns-then-fit-clause-late c = first_none c.args.c.now c.place_in_gap.new.c c.args.vs c.args.n (placed_leaves c.args.c.now c.place_in_gap.new.c c.args.n c.place_in_gap.result c.args.zero c.place_in_gap.ensures)

pub returns-in-Err-clause-late : goal.returns-in-Err-clause-late
returns-in-Err-clause-late c =
    let v = c.requires.placing in
    first_missed c.args.c.now c.take_back.new.c c.give_vs.new.c c.args.vs c.args.n c.in-Err.busy v.holds.serving c.in-Err.ensures.busy c.give_vs.ensures (none_fits c.args.vs c.args.n c.fit.result c.fit.ensures c.if-fit.false)

pub returns-in-Some-clause-late : goal.returns-in-Some-clause-late
returns-in-Some-clause-late c =
    let v = c.requires.placing in
    first_taken c.args.c.now c.take_back.new.c c.place_in_span.new.c c.args.vs c.args.n (added_back layer_of c.args.c.now c.take_back.new.c c.in-Ok.back (calls.Alloc c.args.n v.flags) v.holds.serving c.in-Ok.ensures.ok).goes
    (none_fits c.args.vs c.args.n c.fit.result c.fit.ensures c.if-fit.false) c.in-Some.ensures.leaves

pub returns-in-None-clause-late : goal.returns-in-None-clause-late
returns-in-None-clause-late c =
    let v = c.requires.placing in
    first_taken c.args.c.now c.take_back.new.c c.place_in_span.new.c c.args.vs c.args.n (added_back layer_of c.args.c.now c.take_back.new.c c.in-Ok.back (calls.Alloc c.args.n v.flags) v.holds.serving c.in-Ok.ensures.ok).goes
    (none_fits c.args.vs c.args.n c.fit.result c.fit.ensures c.if-fit.false) c.in-None.ensures.leaves
