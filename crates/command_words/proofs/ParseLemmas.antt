-- The parse of a whole list of words.
use Rattle.std.proofs.Common.{◌≤◌, arith, ◌≡◌, Bool, true, false, not, ◌&&◌, List, [], ◌∷◌, length, Option, Some, None, refl, sym, ap, ◌∙◌, subst, inl, inr}
use Rattle.std.specs.Prelude.{fold, IfNone}
use Rattle.std.specs.List.{list_any, list_all}
use Rattle.std.specs.Str.{bytes_eq}
use Rattle.std.proofs.lemmas.Bool.{cases_Bool}
use Rattle.clap.specs.Walk.{Row, Rule, Text, Held, idle, settled, has_row, with_default, nothing_held, finished, first_of, rows_after}
use Rattle.clap.specs.Simple.{App, built, matches_of, is_simple}
use Rattle.clap.specs.Faults.{defaults_fault, check_fault, level_fault, built_fault, fault_of, is_simple_and_free}
use Rattle.clap.specs.Kinds.{Kinds, or_else, check_kinds}
use Rattle.clap.specs.Takes.{is_given as is_given_row}
use Rattle.clap.proofs.FaultLemmas.{leaf_fault}
use Rattle.command_words.specs.Command.{app, rows_given}
use Rattle.command_words.specs.Options.{Given, AreOptions, text_of, is_ready}
use Rattle.clap.specs.declared.error.Error.{Error}
use Rattle.clap.specs.declared.error.kind.ErrorKind.TheVariants as kinds
use Rattle.clap.specs.Words.{kind_of, HasKind, IsAmong}
use Rattle.command_words.specs.declared.setting.Setting.{Setting}
use Rattle.command_words.specs.declared.setting.Values.{Values}
use Rattle.command_words.specs.Told.{AreTold, text_in}
use Rattle.command_words.proofs.SpellLemmas.{one_spelling}
use Rattle.command_words.specs.Settings.{names, setting_by, setting_given, AreWords}
use Rattle.command_words.proofs.WalkLemmas.{option_rule, rules_of, walk_at, shape_with, Holds}
use Rattle.command_words.proofs.ReadLemmas.{or_else_nil, reads_all, settles, settles_once, end_of}
use Rattle.command_words.proofs.TakeLemmas.{takes_all}

---- The command

pub app_built : built app ≡ record { top = shape_with names; subs = [] }
app_built = refl

pub app_is_simple : is_simple app ≡ true
app_is_simple = refl

pub app_is_free : is_simple_and_free app ≡ true
app_is_free = refl

---- Defaults and what is required

default_kept : (rows : List Row) (n : Text) → with_default rows (option_rule n) ≡ rows
default_kept rows n = elim (cases_Bool (has_row n rows)) [
  | inl e ↦ rw e refl
  | inr e ↦ rw e refl
]

all_kept : (ns : List Text) (rows : List Row) → fold with_default rows (rules_of ns) ≡ rows
all_kept [] rows = refl
all_kept (n ∷ ns) rows = ap (λ (l : List Row). fold with_default l (rules_of ns)) (default_kept rows n) ∙ all_kept ns rows

no_defaults : (ns : List Text) (rows : List Row) → defaults_fault rows (rules_of ns) ≡ []
unfolding defaults_fault
no_defaults [] rows = refl
no_defaults (n ∷ ns) rows = elim (cases_Bool (has_row n rows)) [
  | inl e ↦ rw e (no_defaults ns rows)
  | inr e ↦ rw e (no_defaults ns rows)
]

none_required : (ns : List Text) (given : Rule → Bool) → list_any (λ a. a.required && not (given a)) (rules_of ns) ≡ false
none_required [] given = refl
none_required (n ∷ ns) given = none_required ns given

check_none : (ns : List Text) (rows : List Row) → check_fault (shape_with ns) rows false ≡ []
check_none ns rows =
    ap (λ (b : Bool). check_kinds false false b) (none_required ns (λ a. is_given_row a.id rows))

---- All words

abbrev rules : List Rule
rules = rules_of names

abbrev end_held : List Text → Held
end_held words = (end_of names (walk_at idle nothing_held) words).held

-- the faults of a parse are those of its words, and of what is held behind them
fault_is : (words : List Text) → fault_of app words ≡ level_fault (shape_with names) [] nothing_held words false []
fault_is words =
    ap (λ (a : App). built_fault a nothing_held words) app_built ∙ leaf_fault (record { top = shape_with names; subs = [] }) nothing_held words refl

all_nil : (a b c d : Kinds) → a ≡ [] → b ≡ [] → c ≡ [] → d ≡ [] → or_else a (or_else [] (or_else b (or_else c d))) ≡ []
all_nil a b c d p q r t = rw (p, q, r) t

rows_are : (words : List Text) → matches_of app words ≡ (settled rules (end_held words)).rows
rows_are words = ap (λ (a : App). rows_after a.top.rules [] words) app_built ∙ all_kept names (settled rules (end_held words)).rows

-- where no word is at fault, they are options
pub parse_reads : (words : List Text) → list_all is_ready words ≡ true → fault_of app words ≡ []
    → (given : List Given) × AreOptions names given words × (matches_of app words ≡ rows_given given)
parse_reads words ready none =
    let e = sym (fault_is words) ∙ none in
    let one = or_else_nil _ _ e in
    let two = or_else_nil _ _ one.1 in
    let few : length words ≤ length words = omega arith in
    let reads = reads_all names (length words) words [] nothing_held few (inl (refl, refl)) ready one.0 two.0 in
    let held : Holds names reads.more (end_held words) = reads.holds in (
      reads.more,
      record { spelled = reads.spelled; known = reads.known; once = settles_once names reads.more (end_held words) held two.0 },
      rows_are words ∙ ap (λ (x : Held). x.rows) (settles names reads.more (end_held words) held two.0),
    )

-- and options are not at fault
pub parse_takes : (words : List Text) (given : List Given) → AreOptions names given words → (list_all is_ready words ≡ true) × (fault_of app words ≡ [])
parse_takes words given options =
    let taken = takes_all names refl given words [] nothing_held (inl (refl, refl)) options.known options.once options.spelled in (
      taken.ready,
      fault_is words ∙ all_nil _ _ _ _ taken.walk taken.end (no_defaults names (settled rules (end_held words)).rows) (check_none names (finished rules (end_held words))),
    )

-- the value of an option is read from its row
pub row_text : (given : List Given) (name : Text) → first_of name (rows_given given) ≡ text_of given name
row_text [] name = refl
row_text (g ∷ gs) name = elim (cases_Bool (bytes_eq g.name name)) [
  | inl e ↦ rw e refl
  | inr e ↦ rw e (row_text gs name)
]

-- words that are refused for another reason than memory are no options
pub refused_none : (words : List Text) (given : List Given) (e : Error) → HasKind (fault_of app words) e → (kind_of e ≡ kinds.OutOfMemory → ⊥) → AreOptions names given words → ⊥
refused_none words given e (inl memory) other options = other memory
refused_none words given e (inr among) other options = subst (λ (ks : Kinds). IsAmong (kind_of e) ks) (parse_takes words given options).1 among

-- where the values of options set nothing, the words are not valid
pub sets_nothing : (words : List Text) (given : List Given) (v : Values) (o : Option Setting) → AreOptions names given words → AreTold v given
    → o ≡ setting_by (text_in v.mode) (text_in v.segments) (text_in v.large) (text_in v.slots) (text_in v.seed) (text_in v.count)
    → IfNone o ((setting : Setting) → AreWords words setting → ⊥)
sets_nothing words given v (Some x) options told is = tt
sets_nothing words given v None options told is = λ setting valid.
    let set : None ≡ setting_given given =
    is ∙ (λ i. setting_by (told.mode i) (told.segments i) (told.large i) (told.slots i) (told.seed i) (told.count i)) in
    let same = one_spelling names refl given valid.given words options.known valid.options.known options.spelled valid.options.spelled in
    let e : None ≡ Some setting = set ∙ (ap setting_given same ∙ valid.sets) in
    (let z : ⊥ = cc in z)
