-- The calls that commands make, by the values of their names.
use Rattle.std.specs.Prelude.{ℕ, false}
use Rattle.heap_model.specs.declared.Call.{Call}
use Rattle.heap_model.specs.declared.Call.TheVariants as calls
use Rattle.script_text.specs.declared.commands.Target.{Target}
use Rattle.script_text.specs.declared.commands.Target.TheVariants as targets
use Rattle.script_text.specs.declared.commands.Command.{Command}
use Rattle.script_text.specs.declared.commands.Command.TheVariants as commands

abbrev pub address_of : (ℕ → ℕ) → Target → ℕ
address_of values (targets.Name name) = values name
address_of values (targets.Addr a) = a

-- The call of a command. A walk calls for the next block again and again; this is its first call.
abbrev pub call_of : (ℕ → ℕ) → Command → Call
call_of values (commands.Alloc name n zeroed) = calls.Alloc n (record { zero = zeroed; in_place = false })
call_of values (commands.Realloc target n in_place) = calls.Realloc (address_of values target) n (record { zero = false; in_place = in_place })
call_of values (commands.Free target) = calls.Free (address_of values target)
call_of values (commands.Size target) = calls.Size (address_of values target)
call_of values (commands.Get target index) = calls.Get (address_of values target) index
call_of values (commands.Put target index value) = calls.Put (address_of values target) index value
call_of values commands.Lock = calls.Lock
call_of values commands.Unlock = calls.Unlock
call_of values commands.Walk = calls.WalkNext 0
call_of values commands.Compact = calls.Compact
