use Rattle.std.proofs.Common.{subst, sym}
use Rattle.std.specs.Prelude.{OnOk}
use Rattle.heap_model.specs.declared.Call.{Call}
use Rattle.script_text.specs.declared.commands.Command.{Command}
use Rattle.script_text.specs.Calls.{call_of}
use Rattle.name_values.specs.Table.{value_in}
use Rattle.thread_calls.specs.Serving.{IsServable}
use Rattle.thread_commands.specs.Working.{IsLed, RunsNext}
use Rattle.thread_commands.proofs.Commands.{servable}
use Rattle.thread_commands.proofs.serving.run_command.Goals as goal

pub returns-in-Walk-clause-led : goal.returns-in-Walk-clause-led
returns-in-Walk-clause-led g c =
    subst (λ (k : Command). IsLed (call_of (value_in c.args.w.now.names.values) k) c.args.w.now.caller c.run_walk.new.w.caller) (sym c.in-Walk.is) c.run_walk.ensures.led

pub returns-in-Walk-clause-runs : goal.returns-in-Walk-clause-runs
returns-in-Walk-clause-runs g c = subst (λ (k : Command). OnOk c.run_walk.result (RunsNext c.args.w.now c.run_walk.new.w k)) (sym c.in-Walk.is) c.run_walk.ensures.runs

pub run_call-requires-clause-servable : goal.run_call-requires-clause-servable
run_call-requires-clause-servable g c =
    subst IsServable (sym c.call_for-call.ensures) (servable (value_in c.args.w.now.names.values) c.args.command c.in_default.not-Walk)

pub returns-in_default-clause-led : goal.returns-in_default-clause-led
returns-in_default-clause-led g c = subst (λ (k : Call). IsLed k c.args.w.now.caller c.run_call.new.w.caller) c.call_for-call.ensures c.run_call.ensures.led
