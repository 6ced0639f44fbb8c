use Rattle.std.proofs.Common.{sym, subst}
use Rattle.heap_model.specs.declared.Call.{Call}
use Rattle.thread_calls.specs.Serving.{IsServable, IsDepthBehind}
use Rattle.thread_commands.proofs.Commands.{servable}
use Rattle.command_run.specs.Values.{value_at}
use Rattle.command_run.proofs.RunLemmas.{runs_call}
use Rattle.command_run.proofs.running.run_call.Goals as goal

pub serve-reply-requires : goal.serve-reply-requires
serve-reply-requires c = subst IsServable (sym c.call_for-call.ensures) (servable (value_at c.args.values.now) c.args.command c.requires)

pub returns-clause-depth : goal.returns-clause-depth
returns-clause-depth c = subst (λ (k : Call). IsDepthBehind k c.args.heap.now.depth c.serve-reply.new.self.depth) c.call_for-call.ensures c.serve-reply.ensures.depth

pub returns-clause-runs : goal.returns-clause-runs
returns-clause-runs c =
    let r = c.serve-reply.result in
    runs_call c.args.heap.now c.serve-reply.new.self c.args.replies.now.items c.push.new.self.items (value_at c.args.values.now) (value_at c.note.new.values) c.args.command c.call_for-call.result r
    c.call_for-call.ensures c.serve-reply.ensures.serves c.serve-reply.ensures.last c.in_ok-push.ensures.items c.in_ok-note.ensures
