-- The commands of a thread that can be run.
use Rattle.std.specs.Prelude.{List}
use Rattle.script_text.specs.declared.commands.Command.{Command}
use Rattle.script_laws.specs.Printable.{IsBalanced}

-- the heap lock is given back as often as it is taken
abbrev pub CanRun : List Command → Type 0
CanRun cs = IsBalanced 0 cs
