-- A printed script is read as that script.
use Rattle.std.proofs.Common.{◌≡◌, ℕ, ◌<◌, ◌≤◌, false, ltb, List, [], ◌∷◌, ◌++◌, length, map, flat_map, Ok, refl, ap, ap₂, sym, ◌∙◌, subst}
use Rattle.std.specs.List.{AllByRecursion}
use Rattle.std.proofs.lemmas.Bool.{le-ltb}
use Rattle.std.proofs.lemmas.List.{map-append}
use Rattle.std.proofs.lemmas.List.Concat.{flat_map-append}
use Rattle.script_text.specs.declared.commands.Command.{Command}
use Rattle.script_text.specs.declared.commands.Line.{Line}
use Rattle.script_text.specs.declared.commands.Line.TheVariants as lines
use Rattle.script_text.specs.declared.commands.NumberedLine.{NumberedLine}
use Rattle.script_text.specs.Lines.{lines_of}
use Rattle.script_text.specs.Names.{name_on, names_in, different}
use Rattle.script_text.specs.Reading.{lines_from, lines_read, script_of, reading_of}
use Rattle.script_text.specs.Rounds.{rounds_of}
use Rattle.script_laws.specs.Printer.{line_text, ended_line, thread_lines, round_lines, printed}
use Rattle.script_laws.specs.Printable.{name_in, Fits, thread_commands, round_commands, IsScript, IsReadAs}
use Rattle.script_laws.proofs.FieldLemmas.{line_cut}
use Rattle.script_laws.proofs.LineLemmas.{names_on, LineFits, Below, AreValid, AreOwn, line_fields, line_is_one, line_name, line_is_said}
use Rattle.script_laws.proofs.OwnLemmas.{below_last, all_own}
use Rattle.script_laws.proofs.FoundLemmas.{all_append}
use Rattle.script_laws.proofs.StandLemmas.{numbered, IsSaid, lines_are_read, printed_stand, no_counts, counted_from_none}
use Rattle.script_laws.proofs.RoundLemmas.{rounds_back}

abbrev Suits : ℕ → Line → Type 0
Suits count l = Below count (names_on l) × LineFits l

all_parts : {X : Type 0} (P : X → Type 0) (xs ys : List X) → AllByRecursion P (xs ++ ys) → AllByRecursion P xs × AllByRecursion P ys
all_parts P [] ys h = (tt, h)
all_parts P (x ∷ xs) ys h = let k = all_parts P xs ys h.1 in ((h.0, k.0), k.1)

below_parts : (count : ℕ) (cs ds : List Command) → Below count (flat_map name_in (cs ++ ds)) → Below count (flat_map name_in cs) × Below count (flat_map name_in ds)
below_parts count cs ds h =
    let P : List ℕ → Type 0 = λ ks. Below count ks in
    all_parts (λ k. k < count) (flat_map name_in cs) (flat_map name_in ds) (subst P (flat_map-append name_in cs ds) h)

---- Each line of a script

commands_suit : (count : ℕ) (cs : List Command) → Below count (flat_map name_in cs) → AllByRecursion Fits cs → AllByRecursion (Suits count) (map lines.Runs cs)
commands_suit count [] b h = tt
commands_suit count (c ∷ cs) b h =
    let k = all_parts (λ k. k < count) (name_in c) (flat_map name_in cs) b in
    ((k.0, h.0), commands_suit count cs k.1 h.1)

threads_suit : (count : ℕ) (ts : List (List Command)) → Below count (flat_map name_in (thread_commands ts)) → AllByRecursion Fits (thread_commands ts) → AllByRecursion (Suits count) (flat_map thread_lines ts)
threads_suit count [] b h = tt
threads_suit count (t ∷ ts) b h =
    let k = below_parts count t (thread_commands ts) b in
    let m = all_parts Fits t (thread_commands ts) h in
    ((tt, tt), all_append (Suits count) (map lines.Runs t) (flat_map thread_lines ts) (commands_suit count t k.0 m.0) (threads_suit count ts k.1 m.1))

rounds_suit : (count : ℕ) (rs : List (List (List Command))) → Below count (flat_map name_in (round_commands rs)) → AllByRecursion Fits (round_commands rs) → AllByRecursion (Suits count) (flat_map round_lines rs)
rounds_suit count [] b h = tt
rounds_suit count (r ∷ rs) b h =
    let k = below_parts count (thread_commands r) (round_commands rs) b in
    let m = all_parts Fits (thread_commands r) (round_commands rs) h in
    ((tt, tt), all_append (Suits count) (flat_map thread_lines r) (flat_map round_lines rs) (threads_suit count r k.0 m.0) (rounds_suit count rs k.1 m.1))

---- The names of a script

names_of_commands : (cs : List Command) → flat_map names_on (map lines.Runs cs) ≡ flat_map name_in cs
names_of_commands [] = refl
names_of_commands (c ∷ cs) = ap (λ ks. name_in c ++ ks) (names_of_commands cs)

names_of_threads : (ts : List (List Command)) → flat_map names_on (flat_map thread_lines ts) ≡ flat_map name_in (thread_commands ts)
names_of_threads [] = refl
names_of_threads (t ∷ ts) =
    flat_map-append names_on (map lines.Runs t) (flat_map thread_lines ts)
    ∙ ap₂ (λ js ks. js ++ ks) (names_of_commands t) (names_of_threads ts)
    ∙ sym (flat_map-append name_in t (thread_commands ts))

names_of_rounds : (rs : List (List (List Command))) → flat_map names_on (flat_map round_lines rs) ≡ flat_map name_in (round_commands rs)
names_of_rounds [] = refl
names_of_rounds (r ∷ rs) =
    flat_map-append names_on (flat_map thread_lines r) (flat_map round_lines rs)
    ∙ ap₂ (λ js ks. js ++ ks) (names_of_threads r) (names_of_rounds rs)
    ∙ sym (flat_map-append name_in (thread_commands r) (round_commands rs))

---- Lines of the text

lines_printed : (f : ℕ → List ℕ) (count : ℕ) → AreValid f count → (ls : List Line) → AllByRecursion (Suits count) ls → lines_of (flat_map (ended_line f) ls) ≡ map (line_text f) ls
lines_printed f count v [] h = refl
lines_printed f count v (l ∷ ls) h =
    line_cut (line_text f l) (flat_map (ended_line f) ls) (line_is_one f count v l h.0.0 h.0.1)
    ∙ ap (λ zs. line_text f l ∷ zs) (lines_printed f count v ls h.1)

names_printed : (f : ℕ → List ℕ) (count : ℕ) → AreValid f count → (ls : List Line) → AllByRecursion (Suits count) ls → names_in (map (line_text f) ls) ≡ map f (flat_map names_on ls)
names_printed f count v [] h = refl
names_printed f count v (l ∷ ls) h =
    ap₂ (λ xs ys. xs ++ ys) (ap name_on (line_fields f count v l h.0.0 h.0.1) ∙ line_name f count v l h.0.0) (names_printed f count v ls h.1)
    ∙ sym (map-append f (names_on l) (flat_map names_on ls))

lines_said : (f : ℕ → List ℕ) (count : ℕ) (all : List (List ℕ)) → AreValid f count → AreOwn f count all → (ls : List Line) → AllByRecursion (Suits count) ls → AllByRecursion (IsSaid f all) ls
lines_said f count all v o [] h = tt
lines_said f count all v o (l ∷ ls) h = (line_is_said f count all v o l h.0.0 h.0.1, lines_said f count all v o ls h.1)

read_from_lines : (text : List ℕ) (n : ℕ) (ls : List NumberedLine) → length text ≤ 1048576 → different (names_in (lines_of text)) ≡ n → lines_read text ≡ Ok ls → reading_of text ≡ Ok (record { names = n; rounds = rounds_of ls })
unfolding reading_of
read_from_lines text n ls h d r =
    let b : ltb 1048576 (length text) ≡ false = le-ltb 1048576 (length text) h in
    rw b (ap₂ script_of d r)

pub printed_read : (f : ℕ → List ℕ) (count : ℕ) (rs : List (List (List Command))) → IsScript f count rs → length (printed f rs) ≤ 1048576 → IsReadAs (printed f rs) count rs
printed_read f count rs p short =
    let ls = flat_map round_lines rs in
    let ks = flat_map name_in (round_commands rs) in
    let valid = p.named.valid in
    let suit = rounds_suit count rs (below_last 0 count ks p.order) p.numbers in
    let cut : lines_of (printed f rs) ≡ map (line_text f) ls = lines_printed f count valid ls suit in
    let names : names_in (map (line_text f) ls) ≡ map f ks = names_printed f count valid ls suit ∙ ap (map f) (names_of_rounds rs) in
    let own = all_own f count ks p.named p.order in
    let told = lines_said f count (map f ks) valid own.0 ls suit in
    let stand = printed_stand rs p.locks p.threads p.walks in
    let read : lines_read (printed f rs) ≡ Ok (numbered 1 ls) = ap (λ zs. lines_from (names_in zs) [] 1 zs) cut
    ∙ ap (λ zs. lines_from zs [] 1 (map (line_text f) ls)) names
    ∙ lines_are_read f (map f ks) no_counts [] 1 ls counted_from_none stand told in
    let many : different (names_in (lines_of (printed f rs))) ≡ count = ap (λ zs. different (names_in zs)) cut ∙ ap different names ∙ own.1 in
    record {
      script = record { names = count; rounds = rounds_of (numbered 1 ls) };
      read = read_from_lines (printed f rs) count (numbered 1 ls) short many read;
      names = refl;
      commands = rounds_back 1 rs;
    }
