use Rattle.std.proofs.Common.{◌≡◌, ℕ, ◌<◌, ◌++◌, ◌∷◌, [], List, length, map, take, get_or, sym, ap, ◌∙◌, subst, arith, refl}
use Rattle.std.specs.Prelude.{flat_map}
use Rattle.heap_model.specs.declared.Reply.{Reply}
use Rattle.heap_model.specs.Served.{in_line}
use Rattle.name_values.specs.declared.Assigned.{Assigned}
use Rattle.script_text.specs.declared.commands.Command.{Command}
use Rattle.script_text.specs.Scripts.{command_of, commands_of, round_at}
use Rattle.thread_commands.specs.declared.workers.Worker.{Worker}
use Rattle.round_runs.specs.Turns.{threads_of, replies_of, news_of, answered_rounds, HaveRun, Learns}
use Rattle.round_runs.proofs.Going.{run_more, take_round, map_length}
use Rattle.round_runs.proofs.rounds.play_and_note.Goals as goal

pub returns-clause-run : goal.returns-clause-run
returns-clause-run g c = λ roll all r.
    let o = c.args.heap.now.opening in
    let s = c.args.script.now in
    let i = c.args.round in
    let before = take i (commands_of s) in
    let threads = threads_of (round_at s i) in
    let ws' = c.play_round.new.workers in
    let ws'' = c.learn_all.new.workers in
    let y = c.play_round.ensures in
    let p = y.plays (c.if-is_short.ensures refl) roll (in_line r.rounds) (answered_rounds before c.args.answers.now) r.abreast r.told in
    let count : length threads ≡ length (round_at s i) = map_length (λ thread. map command_of thread.commands) (round_at s i) in
    let learn : (t : ℕ) (d : Worker) → t < length ws' → Learns (flat_map news_of ws') t (get_or ws' t d) (get_or ws'' t d) =
    subst (λ (news : List Assigned). (t : ℕ) (d : Worker) → t < length ws' → Learns news t (get_or ws' t d) (get_or ws'' t d))
    (c.as_slice.ensures.value ∙ c.in_ok-news.ensures) c.in_ok-learn_all.ensures.each in
    let run =
    run_more o roll c.args.workers.now ws' ws'' before c.args.answers.now threads all y.many c.in_ok-learn_all.ensures.many (omega (arith, count, c.requires.few)) r p learn in
    let given : c.args.answers.now ++ map replies_of (take (length threads) ws') ∷ [] ≡ c.put_down.new.answers =
    ap (λ n. c.args.answers.now ++ map replies_of (take n ws') ∷ []) (count ∙ sym c.threads.ensures) ∙ sym c.in_ok-put_down.ensures in
    subst (λ (z : List (List (List Command)) × List (List (List Reply))). HaveRun o roll ws'' z.0 z.1) (λ k. (sym (take_round s.rounds i c.requires.round) k, given k)) run
