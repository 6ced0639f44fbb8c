use Rattle.std.proofs.Common.{◌≡◌, ◌+◌, ◌++◌, ◌∷◌, [], List, take, map, subst, sym, ap, ◌∙◌}
use Rattle.heap_model.specs.declared.Reply.{Reply}
use Rattle.script_text.specs.declared.commands.Command.{Command}
use Rattle.script_text.specs.ThreadLines.{ThreadLines}
use Rattle.script_text.specs.Scripts.{command_of, round_at, thread_at, no_thread}
use Rattle.command_run.specs.Values.{value_at}
use Rattle.command_run.specs.Commands.{round_commands, in_threads}
use Rattle.script_laws.specs.Printable.{IsBalanced}
use Rattle.command_run.specs.Running.{Runs, FitThreads}
use Rattle.command_run.proofs.RunLemmas.{runs_append}
use Rattle.command_run.proofs.ServedLemmas.{mapped_at}
use Rattle.command_run.proofs.FitLemmas.{take_mapped, fit_thread, threads_more}
use Rattle.command_run.proofs.running.run_threads.Goals as goal

pub run_thread-requires-clause-balanced : goal.run_thread-requires-clause-balanced
run_thread-requires-clause-balanced c =
    let s = c.args.script.now in
    let threads = round_at s c.args.round in
    let i = c.loop-thread.thread in
    let low = rw c.threads-thread-end.ensures at c.loop-thread-test.true in
    subst (IsBalanced 0) (sym (ap (map command_of) c.commands.ensures)) (mapped_at (IsBalanced 0) (λ (t : ThreadLines). map command_of t.commands) threads i no_thread c.requires.balanced low)

pub loop-thread-preserved : goal.loop-thread-preserved
loop-thread-preserved c =
    let s = c.args.script.now in
    let threads = round_at s c.args.round in
    let i = c.loop-thread.thread in
    let before = take i (round_commands threads) in
    let cs : List Command = map command_of (thread_at s c.args.round i).commands in
    let rs = c.in_ok-replies.replies.items in
    let same : map command_of c.commands.result.now ≡ cs = ap (map command_of) c.commands.ensures in
    let low = rw c.threads-thread-end.ensures at c.loop-thread-test.true in
    let more : take (i + 1) (round_commands threads) ≡ before ++ cs ∷ [] = take_mapped (λ (t : ThreadLines). map command_of t.commands) threads i no_thread low in
    let ran : Runs c.loop-thread.heap c.run_thread.new.heap (value_at c.loop-thread.values) (value_at c.run_thread.new.values) cs rs =
    subst (λ (ks : List Command). Runs c.loop-thread.heap c.run_thread.new.heap (value_at c.loop-thread.values) (value_at c.run_thread.new.values) ks rs) same c.in_ok-replies.ensures.runs in
    record {
      free = c.in_ok-replies.ensures.free;
      runs = λ front e.
          let x = c.loop-thread.invariant.runs front e in
          record {
            last = x.last ++ rs ∷ [];
            answers_are = c.in_ok-add_thread.ensures.added front x.last x.answers_are;
            fit = subst (λ (ts : List (List Command)). FitThreads ts (x.last ++ rs ∷ [])) (sym more) (fit_thread before x.last cs rs x.fit ran.fills);
            runs =
                let y = x.runs in
                subst (λ (ks : List Command). Runs c.args.heap.now c.run_thread.new.heap (value_at c.args.values.now) (value_at c.run_thread.new.values) ks (in_threads (x.last ++ rs ∷ []))) (sym (ap in_threads more ∙ threads_more before cs))
                (subst (λ (ks : List Reply). Runs c.args.heap.now c.run_thread.new.heap (value_at c.args.values.now) (value_at c.run_thread.new.values) (in_threads before ++ cs) ks) (sym (threads_more x.last rs))
                (runs_append c.args.heap.now c.loop-thread.heap c.run_thread.new.heap (value_at c.args.values.now) (value_at c.loop-thread.values) (value_at c.run_thread.new.values)
                (in_threads before) cs (in_threads x.last) rs y ran));
          };
    }
