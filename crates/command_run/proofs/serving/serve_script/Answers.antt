use Rattle.std.proofs.Common.{refl}
use Rattle.heap_model.specs.Serial.{IsSerial}
use Rattle.script_text.specs.Scripts.{commands_of}
use Rattle.report_text.proofs.Ranges.{ranges_are}
use Rattle.one_heap.specs.Lone.{behind}
use Rattle.command_run.specs.Commands.{unassigned, calls_of, in_rounds}
use Rattle.thread_rounds.specs.Threads.{answered}
use Rattle.command_run.specs.Values.{value_at}
use Rattle.command_run.specs.Alone.{ServedAlone}
use Rattle.command_run.proofs.RunLemmas.{serial}
use Rattle.command_run.proofs.serving.serve_script.Goals as goal

pub returns : goal.returns
returns c =
    let limits = c.args.limits in
    let seed = c.args.seed in
    let commands = commands_of c.args.script.now in
    let heap = c.in_ok-heap.heap in
    let last = c.run_rounds.new.heap in
    let answers = c.in_ok-answers.answers in
    let runs = c.in_ok-answers.ensures.runs in
    let at = behind last in
    let history : IsSerial limits seed (calls_of unassigned (answered (in_rounds commands) (in_rounds answers))) (in_rounds answers) at.state =
    serial limits seed heap last unassigned (value_at runs.0) (in_rounds commands) (in_rounds answers) c.in_ok-heap.ensures runs.1 c.close-image.ensures.legal c.close-image.ensures.idle in
    let served : ServedAlone limits seed c.args.script.now =
    record { answers = answers; state = at.state; fit = c.in_ok-answers.ensures.fit; serial = history } in
    record {
      served = served;
      answers = refl;
      ranges = ranges_are c.close-image.result _ at.state c.close-image.ensures.shows;
      blocks = c.close-image.ensures.blocks;
      readable = c.close-image.ensures.readable;
    }
