-- The commands of a script, round by round and thread by thread.
use Rattle.std.specs.Prelude.{List, map}
use Rattle.script_text.specs.declared.commands.Command.{Command}
use Rattle.script_text.specs.ThreadLines.{ThreadLines}
use Rattle.script_text.specs.Scripts.{command_of}

abbrev pub thread_commands : ThreadLines → List Command
thread_commands thread = map command_of thread.commands

abbrev pub round_commands : List ThreadLines → List (List Command)
round_commands threads = map thread_commands threads
