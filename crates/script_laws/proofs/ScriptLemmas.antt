-- A script that was read can be printed.
use Rattle.std.proofs.Common.{◌≡◌, ℕ, ◌<◌, ◌≤◌, List, map, flat_map, Ok, ap, sym, ◌∙◌, subst}
use Rattle.std.specs.List.{AllByRecursion}
use Rattle.script_text.specs.declared.commands.Command.{Command}
use Rattle.script_text.specs.Lines.{lines_of}
use Rattle.script_text.specs.Names.{names_in, number_of_name, different}
use Rattle.script_text.specs.Order.{is_round}
use Rattle.script_text.specs.Reading.{reading_of}
use Rattle.script_text.specs.Scripts.{commands_of}
use Rattle.script_text.specs.ThreadLines.{ScriptLines}
use Rattle.script_laws.specs.Printable.{AreInOrder, Fits, name_in, round_commands, walks_in, IsScript, HasOwnNames}
use Rattle.script_laws.proofs.RoundLemmas.{round_back}
use Rattle.script_laws.proofs.WordLemmas.{numbers_of}
use Rattle.script_laws.proofs.FoundLemmas.{name_of_number, name_found, text_names, numbers_in_order}
use Rattle.script_laws.proofs.WalkLemmas.{text_known}
use Rattle.script_laws.proofs.CutLemmas.{cut, in_lines, in_threads, rounds_in_lines, commands_whole, names_whole, fits_whole}
use Rattle.script_laws.proofs.GoodLemmas.{lines_good}
use Rattle.script_laws.proofs.PrintedLemmas.{printed_read}

pub read_script : (text : List ℕ) (script : ScriptLines) → reading_of text ≡ Ok script → HasOwnNames text script
read_script text script h =
    let t = text_known text script h in
    let all = names_in (lines_of text) in
    let f : ℕ → List ℕ = name_of_number all all in
    let R : List (List (List Command)) = map in_threads (cut is_round t.lines) in
    let g = lines_good t.lines t.stand in
    let whole : round_commands R ≡ in_lines t.lines = commands_whole t.lines in
    let names : flat_map name_in (round_commands R) ≡ numbers_of all all = ap (flat_map name_in) whole ∙ names_whole t.lines ∙ t.names in
    let O : List ℕ → Type 0 = λ ks. AreInOrder 0 (different all) ks in
    let F : List Command → Type 0 = λ cs. AllByRecursion Fits cs in
    let W : List Command → Type 0 = λ cs. walks_in cs ≤ 16 in
    let s : IsScript f (different all) R = record {
      named = text_names (lines_of text);
      order = subst O (sym names) (numbers_in_order all);
      numbers = subst F (sym whole) (fits_whole t.lines t.fit);
      locks = g.balanced;
      threads = g.few;
      walks = subst W (sym whole) g.walks;
    } in
    let e : commands_of script ≡ R = ap (map round_back) t.rounds ∙ rounds_in_lines t.lines in
    let S : ℕ → Type 0 = λ n. IsScript f n R in
    let T : List (List (List Command)) → Type 0 = λ rs. IsScript f script.names rs in
    let N : ℕ → Type 0 = λ n. (k : ℕ) → k < n → number_of_name all (f k) ≡ k in
    let own : N (different all) = λ k b. (name_found (lines_of text) k b).0 in
    let whole_script : IsScript f script.names (commands_of script) = subst T (sym e) (subst S (sym t.count) s) in
    record {
      names = f;
      own = subst N (sym t.count) own;
      printable = whole_script;
      again = printed_read f script.names (commands_of script) whole_script;
    }
