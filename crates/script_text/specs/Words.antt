-- Numbers, names, targets and words, and what a line of fields says.
use Rattle.std.specs.Prelude.{ℕ, ◌+◌, ◌*◌, ◌-◌, ◌^◌, ◌==◌, Bool, true, false, ◌&&◌, ◌||◌, nat_le, nat_lt, List, [], ◌∷◌, length, codes, Option, Some, None, Result, Ok, Err, if◌then◌else◌}
use Rattle.std.specs.List.{list_all}
use Rattle.std.specs.Option.{option_or}
use Rattle.std.specs.Str.{bytes_eq}
use Rattle.script_text.specs.declared.faults.Cause.{Cause}
use Rattle.script_text.specs.declared.faults.Cause.TheVariants as causes
use Rattle.script_text.specs.declared.commands.Target.{Target}
use Rattle.script_text.specs.declared.commands.Target.TheVariants as targets
use Rattle.script_text.specs.declared.commands.Command.{Command}
use Rattle.script_text.specs.declared.commands.Command.TheVariants as commands
use Rattle.script_text.specs.declared.commands.Line.{Line}
use Rattle.script_text.specs.declared.commands.Line.TheVariants as lines
use Rattle.script_text.specs.declared.words.Word.{Word}
use Rattle.script_text.specs.declared.words.Word.TheVariants as words

---- Numbers and names

abbrev pub is_digit : ℕ → Bool
is_digit c = nat_le 48 c && nat_le c 57

abbrev pub is_letter : ℕ → Bool
is_letter c = (nat_le 65 c && nat_le c 90) || (nat_le 97 c && nat_le c 122)

-- the number that digits stand for behind a number
abbrev pub value_behind : ℕ → List ℕ → ℕ
value_behind n [] = n
value_behind n (c ∷ cs) = value_behind (10 * n + (c - 48)) cs

abbrev pub value_of : List ℕ → ℕ
value_of cs = value_behind 0 cs

-- 1 to 20 digits, and a value of 64 bits
abbrev pub is_number : List ℕ → Bool
is_number cs = nat_le 1 (length cs) && nat_le (length cs) 20 && list_all is_digit cs && nat_lt (value_of cs) (2 ^ 64)

abbrev pub suits_name : ℕ → Bool
suits_name c = is_letter c || is_digit c || c == 95

abbrev pub begins_name : List ℕ → Bool
begins_name [] = false
begins_name (c ∷ cs) = is_letter c || c == 95

-- 1 to 32 letters, digits or `_`, the first one no digit
abbrev pub is_name : List ℕ → Bool
is_name cs = begins_name cs && nat_le (length cs) 32 && list_all suits_name cs

---- Fields

-- what a field gives, and from that what others give
abbrev pub and_then : {A B : Type 0} → Result A Cause → (A → Result B Cause) → Result B Cause
and_then (Ok x) f = f x
and_then (Err e) f = Err e

abbrev pub number_field : List ℕ → Result ℕ Cause
number_field cs = if is_number cs then Ok (value_of cs) else Err causes.BadNumber

-- a name, for which its number stands
abbrev pub name_field : ℕ → List ℕ → Result ℕ Cause
name_field name cs = if is_name cs then Ok name else Err causes.BadName

abbrev pub address : ℕ → Result Target Cause
address a = Ok (targets.Addr a)

abbrev pub named : ℕ → Result Target Cause
named name = Ok (targets.Name name)

-- a name, or `@` with a number right behind it
abbrev pub target_field : ℕ → List ℕ → Result Target Cause
target_field name [] = Err causes.BadName
target_field name (c ∷ cs) = if c == 64 then and_then (number_field cs) address else and_then (name_field name (c ∷ cs)) named

---- Words

-- how many fields stand behind a word
abbrev pub arguments : Word → ℕ
arguments words.Round = 0
arguments words.Thread = 0
arguments words.Lock = 0
arguments words.Unlock = 0
arguments words.Walk = 0
arguments words.Compact = 0
arguments words.Alloc = 2
arguments words.Zalloc = 2
arguments words.Realloc = 2
arguments words.Inplace = 2
arguments words.Free = 1
arguments words.Size = 1
arguments words.Get = 2
arguments words.Put = 3

-- the words that stand alone in their lines
abbrev pub bare_word : List ℕ → Option Word
bare_word cs =
    if bytes_eq cs (codes "round") then Some words.Round
    else if bytes_eq cs (codes "thread") then Some words.Thread
    else if bytes_eq cs (codes "lock") then Some words.Lock
    else if bytes_eq cs (codes "unlock") then Some words.Unlock
    else if bytes_eq cs (codes "walk") then Some words.Walk
    else if bytes_eq cs (codes "compact") then Some words.Compact
    else None

-- the words with fields behind them
abbrev pub block_word : List ℕ → Option Word
block_word cs =
    if bytes_eq cs (codes "alloc") then Some words.Alloc
    else if bytes_eq cs (codes "zalloc") then Some words.Zalloc
    else if bytes_eq cs (codes "realloc") then Some words.Realloc
    else if bytes_eq cs (codes "inplace") then Some words.Inplace
    else if bytes_eq cs (codes "free") then Some words.Free
    else if bytes_eq cs (codes "size") then Some words.Size
    else if bytes_eq cs (codes "get") then Some words.Get
    else if bytes_eq cs (codes "put") then Some words.Put
    else None

abbrev pub word_of : List ℕ → Option Word
word_of cs = option_or (bare_word cs) (block_word cs)

abbrev pub runs : Command → Result Line Cause
runs command = Ok (lines.Runs command)

-- What a word says with the fields behind it, the first faulty one from the left first. The number is that of the name
-- among them.
abbrev pub line_of : ℕ → Word → (first second third : List ℕ) → Result Line Cause
line_of name words.Round a b c = Ok lines.Round
line_of name words.Thread a b c = Ok lines.Thread
line_of name words.Lock a b c = runs commands.Lock
line_of name words.Unlock a b c = runs commands.Unlock
line_of name words.Walk a b c = runs commands.Walk
line_of name words.Compact a b c = runs commands.Compact
line_of name words.Alloc a b c = and_then (name_field name a) (λ x. and_then (number_field b) (λ n. runs (commands.Alloc x n false)))
line_of name words.Zalloc a b c = and_then (name_field name a) (λ x. and_then (number_field b) (λ n. runs (commands.Alloc x n true)))
line_of name words.Realloc a b c = and_then (target_field name a) (λ t. and_then (number_field b) (λ n. runs (commands.Realloc t n false)))
line_of name words.Inplace a b c = and_then (target_field name a) (λ t. and_then (number_field b) (λ n. runs (commands.Realloc t n true)))
line_of name words.Free a b c = and_then (target_field name a) (λ t. runs (commands.Free t))
line_of name words.Size a b c = and_then (target_field name a) (λ t. runs (commands.Size t))
line_of name words.Get a b c = and_then (target_field name a) (λ t. and_then (number_field b) (λ i. runs (commands.Get t i)))
line_of name words.Put a b c = and_then (target_field name a) (λ t. and_then (number_field b) (λ i. and_then (number_field c) (λ v. runs (commands.Put t i v))))
