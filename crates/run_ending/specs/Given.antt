-- What a source gives.
use Rattle.std.specs.Prelude.{◌≡◌, ℕ, List, Option, Ok, Err}
use Rattle.outside_io.specs.Faults.{Rose, Stands}
use Rattle.script_text.specs.Reading.{reading_of}
use Rattle.run_ending.specs.declared.given.Given.{Given}
use Rattle.run_ending.specs.declared.given.Given.TheVariants as givens
use Rattle.run_ending.specs.Ending.{Reads, ReadsFew}

-- what a text is
abbrev pub IsTold : List ℕ → Given → Type 0
IsTold text (givens.Script s) = reading_of text ≡ Ok s
IsTold text (givens.Refused f) = reading_of text ≡ Err f
IsTold text givens.Unread = ⊥

-- What the bytes of a source are.
abbrev pub IsGiven : Option (List ℕ) → Option (List ℕ) → ℕ → ℕ → Given → Type 0
IsGiven left now faults faults_now givens.Unread = Rose faults faults_now × ReadsFew left now
IsGiven left now faults faults_now (givens.Script s) = Stands faults faults_now × (text : List ℕ) × Reads left now text × (reading_of text ≡ Ok s)
IsGiven left now faults faults_now (givens.Refused f) = Stands faults faults_now × (text : List ℕ) × Reads left now text × (reading_of text ≡ Err f)
