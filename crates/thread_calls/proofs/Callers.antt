-- Callers between the calls of a thread.
use Rattle.std.proofs.Common.{◌∙◌, List}
use Rattle.heap_model.specs.declared.Call.{Call}
use Rattle.heap_model.specs.declared.Reply.{Reply}
use Rattle.heap_gate.specs.Token.{HeapToken, Token}
use Rattle.heap_now.specs.Calls.{IsCallerOf}
use Rattle.thread_calls.specs.Serving.{Serves}

pub served : (h : HeapToken) (a b : Token) (call : Call) (its : List Reply) → IsCallerOf h a → Serves a b call its → IsCallerOf h b
served h a b call its k x = record { table = x.goes.table ∙ k.table; opening = x.goes.opening ∙ k.opening; is_ready = x.goes.ready }
