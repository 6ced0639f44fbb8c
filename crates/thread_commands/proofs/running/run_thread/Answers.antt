use Rattle.thread_commands.proofs.running.run_thread.Goals as goal

pub returns-in-Ok : goal.returns-in-Ok
returns-in-Ok g c = record {
  free = record { caller = c.run_all.ensures.caller; depth = c.in-Ok.ensures.depth };
  runs = λ short earlier k. let r = c.in-Ok.ensures.runs earlier k in record { goes = r.goes; thread = r.thread; names = r.names };
}
