-- The words that are printed for causes.
use Rattle.std.specs.Prelude.{ℕ, List, codes}
use Rattle.script_text.specs.declared.faults.Cause.{Cause}
use Rattle.script_text.specs.declared.faults.Cause.TheVariants.{BadLine, BadNumber, BadName, TooManyThreads, TooManyWalks, Unbalanced, NotSingle, TooLong}

abbrev pub cause_text : Cause → List ℕ
cause_text BadLine = codes "badline"
cause_text BadNumber = codes "badnumber"
cause_text BadName = codes "badname"
cause_text TooManyThreads = codes "threads"
cause_text TooManyWalks = codes "walks"
cause_text Unbalanced = codes "unbalanced"
cause_text NotSingle = codes "notsingle"
cause_text TooLong = codes "toolong"
