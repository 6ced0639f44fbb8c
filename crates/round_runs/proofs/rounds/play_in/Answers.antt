use Rattle.std.proofs.Common.{◌≡◌, List, length, drop, subst, sym, ap, ◌∙◌}
use Rattle.std.specs.Prelude.{IfOk}
use Rattle.script_text.specs.Scripts.{commands_of}
use Rattle.heap_gate.specs.Roots.{RootToken}
use Rattle.thread_commands.specs.declared.workers.Worker.{Worker}
use Rattle.round_runs.specs.Crews.{AreFree, AreMade}
use Rattle.round_runs.specs.Turns.{HaveRun}
use Rattle.round_runs.proofs.Going.{written}
use Rattle.round_runs.proofs.rounds.play_in.Goals as goal

pub returns-clause-many : goal.returns-clause-many
returns-clause-many g c =
    let ws' = c.play_all.new.workers in
    let items = c.args.workers.now.items in
    let many : length ws' ≡ length items = c.play_all.ensures.many ∙ ap length c.as_mut_slice.ensures.value in
    let e = written c.args.workers.now.len ws' (drop (length ws') items) (c.args.workers.now.ok.0 ∙ sym many) in
    ap length e ∙ many

pub returns-clause-free : goal.returns-clause-free
returns-clause-free g c =
    let ws' = c.play_all.new.workers in
    let items = c.args.workers.now.items in
    let many : length ws' ≡ length items = c.play_all.ensures.many ∙ ap length c.as_mut_slice.ensures.value in
    let e = written c.args.workers.now.len ws' (drop (length ws') items) (c.args.workers.now.ok.0 ∙ sym many) in
    subst (λ (l : List Worker). AreFree c.args.heap.now l) (sym e) c.play_all.ensures.free

pub returns-clause-run : goal.returns-clause-run
returns-clause-run g c =
    let ws' = c.play_all.new.workers in
    let items = c.args.workers.now.items in
    let many : length ws' ≡ length items = c.play_all.ensures.many ∙ ap length c.as_mut_slice.ensures.value in
    let e = written c.args.workers.now.len ws' (drop (length ws') items) (c.args.workers.now.ok.0 ∙ sym many) in
    let value = c.as_mut_slice.ensures.value in
    subst (λ (z : List Worker × List Worker). IfOk c.play_all.result (λ answers. (root : RootToken) → AreMade c.args.heap.now root z.0 → HaveRun c.args.heap.now.opening root.roll z.1 (commands_of c.args.script.now) answers))
    (λ i. (value i, sym e i)) c.play_all.ensures.run
