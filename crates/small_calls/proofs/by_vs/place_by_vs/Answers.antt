use Rattle.std.proofs.Common.{[], ◌∷◌, refl, inl}
use Rattle.std.proofs.lemmas.Result.{IfOk-weaker, IfErr-weaker}
use Rattle.heap_model.specs.declared.Act.TheVariants as acts
use Rattle.heap_model.specs.declared.What.TheVariants as whats
use Rattle.small_calls.proofs.Backs.{backs_leave, missed_leaves, backs_first}
use Rattle.small_calls.proofs.ForVs.{asking_of, none_for_vs, placing, refused_there}
use Rattle.small_calls.proofs.VsHeld.{taken_asks, taken_goes, missed_busy, places_behind}
use Rattle.small_calls.proofs.by_vs.place_by_vs.Goals as goal

pub returns-in-Err-clause-refused : goal.returns-in-Err-clause-refused
returns-in-Err-clause-refused c = inl (missed_busy c.args.c.now c.take_vs.new.c c.in-Err.busy c.args.n c.args.zero (asking_of c.args.c.now c.args.n c.args.zero c.requires.allocating) c.in-Err.ensures.busy)

pub place_in_vs-requires-clause-placing : goal.place_in_vs-requires-clause-placing
place_in_vs-requires-clause-placing c =
    let a = c.args.c.now in let m = c.take_vs.new.c in
    placing m c.in-Ok.vs c.args.n c.args.zero (taken_asks a m c.args.n c.args.zero c.in-Ok.vs (asking_of a c.args.n c.args.zero c.requires.allocating) c.in-Ok.ensures.ok) (none_for_vs m c.args.n c.requires.bucket)

pub returns-clause-placed : goal.returns-clause-placed
returns-clause-placed c =
    let a = c.args.c.now in let m = c.take_vs.new.c in
    IfOk-weaker c.place_in_vs.result _ _ (λ addr p. places_behind a m c.place_in_vs.new.c addr (acts.TakeLock whats.Vs ∷ []) (taken_goes a m c.in-Ok.vs c.in-Ok.ensures.ok) refl refl c.in-Ok.ensures.ok.stands.call p) c.place_in_vs.ensures.placed

pub returns-clause-refused : goal.returns-clause-refused
returns-clause-refused c =
    let a = c.args.c.now in let m = c.take_vs.new.c in
    let asks = taken_asks a m c.args.n c.args.zero c.in-Ok.vs (asking_of a c.args.n c.args.zero c.requires.allocating) c.in-Ok.ensures.ok in
    IfErr-weaker c.place_in_vs.result _ _ (refused_there a m c.place_in_vs.new.c c.in-Ok.vs c.args.n c.args.zero (taken_goes a m c.in-Ok.vs c.in-Ok.ensures.ok) c.in-Ok.ensures.ok.stands.call asks) c.place_in_vs.ensures.refused

pub returns-in-Err-clause-backs : goal.returns-in-Err-clause-backs
returns-in-Err-clause-backs c = backs_leave c.args.c.now c.take_vs.new.c c.args.n (missed_leaves c.args.c.now c.take_vs.new.c c.in-Err.busy c.in-Err.ensures.busy)

pub returns-clause-backs : goal.returns-clause-backs
returns-clause-backs c =
    let a = c.args.c.now in let m = c.take_vs.new.c in
    let asks = taken_asks a m c.args.n c.args.zero c.in-Ok.vs (asking_of a c.args.n c.args.zero c.requires.allocating) c.in-Ok.ensures.ok in
    backs_first a m c.place_in_vs.new.c c.in-Ok.vs c.args.n (taken_goes a m c.in-Ok.vs c.in-Ok.ensures.ok) asks.tells c.place_in_vs.ensures.late
