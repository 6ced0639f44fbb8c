-- What a script that was read has: few threads in each round, and in each thread a lock given back as often as it is taken.
use Rattle.std.proofs.Common.{◌≡◌, ℕ, ◌≤◌, max, List, [], ◌∷◌, length, map, Ok, arith}
use Rattle.std.specs.Prelude.{fold}
use Rattle.std.specs.List.{AllByRecursion}
use Rattle.std.proofs.lemmas.List.{length-map}
use Rattle.script_text.specs.Reading.{reading_of}
use Rattle.script_text.specs.Scripts.{command_of, commands_of, most_threads}
use Rattle.script_text.specs.ThreadLines.{ThreadLines, ScriptLines}
use Rattle.script_laws.specs.Printable.{AreBalanced, HasFewThreads}
use Rattle.script_laws.proofs.ScriptLemmas.{read_script}

abbrev most : ℕ → List ThreadLines → ℕ
most n round = max n (length round)

few_from : (n : ℕ) (rounds : List (List ThreadLines)) → n ≤ 64 → AllByRecursion HasFewThreads (map (λ round. map (λ (t : ThreadLines). map command_of t.commands) round) rounds) → fold most n rounds ≤ 64
few_from n [] l h = l
few_from n (round ∷ rounds) l h =
    few_from (max n (length round)) rounds (omega (arith, l, h.0, length-map round (λ (t : ThreadLines). map command_of t.commands))) h.1

pub few : (text : List ℕ) (script : ScriptLines) → reading_of text ≡ Ok script → most_threads script.rounds ≤ 64
few text script e = few_from 0 script.rounds (omega arith) (read_script text script e).printable.threads

pub balanced : (text : List ℕ) (script : ScriptLines) → reading_of text ≡ Ok script → AllByRecursion AreBalanced (commands_of script)
balanced text script e = (read_script text script e).printable.locks
