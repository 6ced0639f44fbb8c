-- What a parse by clap makes of words, for a command whose arguments are plain options with long names.
use Rattle.std.proofs.Common.{◌≡◌, ℕ, Bool, true, false, ◌||◌, cond, List, [], ◌∷◌, ◌++◌, map, Option, Some, None, refl, sym, ap, ◌∙◌, inl, inr, ◌⊎◌, append-nil}
use Rattle.std.specs.List.{list_any}
use Rattle.std.specs.Str.{bytes_eq}
use Rattle.std.proofs.lemmas.Bool.{cases_Bool}
use Rattle.script_text.proofs.NameLemmas.{same_bytes, bytes_same}
use Rattle.clap.specs.Lexer.{long_of, short_of}
use Rattle.std.specs.Prelude.{codes}
use Rattle.std.proofs.lemmas.List.{map-append}
use Rattle.clap.specs.declared.error.kind.ErrorKind.TheVariants as kind
use Rattle.clap.specs.Walk.{at_row, more_values, used, reacted, Row, Rule, Text, Held, Walk, Waiting, idle, option, arg_by_id, arg_by_long, arg_by_index, settled, walked, has_row, without}
use Rattle.clap.specs.Simple.{Shape, new_rule, new_shape}
use Rattle.clap.specs.Faults.{settle_fault, turn_fault, use_fault}
use Rattle.clap.specs.Kinds.{or_else}
use Rattle.clap.specs.declared.builder.action.ArgAction.TheVariants.{Set}
use Rattle.clap.specs.declared.builder.value_parser.ValueParser.TheVariants as vp
use Rattle.clap.specs.declared.parser.matches.ValueSource.TheVariants.{CommandLine}
use Rattle.command_words.specs.Command.{row_given, rows_given}
use Rattle.command_words.specs.Options.{Given, is_given, are_once}

---- The command

-- the rule of an option once the command is built
abbrev pub option_rule : Text → Rule
option_rule name = record (new_rule name) {
  long = Some name;
  action = Some Set;
  range = Some (record { start_inclusive = 1; end_inclusive = 1 });
  parser = Some vp.String;
}

abbrev pub rules_of : List Text → List Rule
rules_of names = map option_rule names

abbrev pub is_known : List Text → Text → Bool
is_known names name = list_any (λ n. bytes_eq n name) names

-- the option of a long name, and of an id
pub by_long : (names : List Text) (name : Text) → arg_by_long (rules_of names) name ≡ cond (is_known names name) (Some (option_rule name)) None
by_long [] name = refl
by_long (n ∷ ns) name = elim (cases_Bool (bytes_eq n name)) [
  | inl e ↦ rw e (ap (λ (m : Text). Some (option_rule m)) (same_bytes n name e))
  | inr e ↦ rw e (by_long ns name)
]

pub by_id : (names : List Text) (name : Text) → arg_by_id (rules_of names) name ≡ cond (is_known names name) (Some (option_rule name)) None
by_id [] name = refl
by_id (n ∷ ns) name = elim (cases_Bool (bytes_eq n name)) [
  | inl e ↦ rw e (ap (λ (m : Text). Some (option_rule m)) (same_bytes n name e))
  | inr e ↦ rw e (by_id ns name)
]

-- no option has a place
pub by_index : (names : List Text) (i : ℕ) → arg_by_index (rules_of names) i ≡ None
by_index [] i = refl
by_index (n ∷ ns) i = by_index ns i

---- Rows

pub has_row_of : (name : Text) (gs : List Given) → has_row name (rows_given gs) ≡ is_given name gs
has_row_of name [] = refl
has_row_of name (g ∷ gs) = ap (λ b. bytes_eq g.name name || b) (has_row_of name gs)

-- where no row has the name, what is missing goes to the end
no_row : (name : Text) (f : Row → List Row) (missing : List Row) (gs : List Given) → is_given name gs ≡ false → at_row name f missing (rows_given gs) ≡ rows_given gs ++ missing
no_row name f missing [] none = refl
no_row name f missing (g ∷ gs) none = elim (cases_Bool (bytes_eq g.name name)) [
  | inl e ↦ let z = rw e at none in absurd (let q : ⊥ = cc in q)
  | inr e ↦ let k : is_given name gs ≡ false = rw e at none in rw e (ap (λ (l : List Row). row_given g ∷ l) (no_row name f missing gs k))
]

-- one more option, whose name was not given
pub row_added : (g : Given) (gs : List Given) → is_given g.name gs ≡ false
    → used (option_rule g.name) (g.value ∷ []) (rows_given gs) ≡ rows_given (gs ++ g ∷ [])
row_added g gs none =
    let f : Row → List Row = more_values CommandLine (g.value ∷ []) in
    let kept : without g.name (rows_given gs) ≡ rows_given gs = no_row g.name (λ r. []) [] gs none ∙ append-nil (rows_given gs) in
    ap (λ (l : List Row). at_row g.name f (row_given g ∷ []) l) kept
    ∙ (no_row g.name f (row_given g ∷ []) gs none
    ∙ sym (map-append row_given gs (g ∷ [])))

-- a use of an option is at fault where its name was given before
pub use_fault_is : (name v : Text) (gs : List Given) → use_fault false (option_rule name) (v ∷ []) (rows_given gs) ≡ cond (is_given name gs) (kind.ArgumentConflict ∷ []) []
use_fault_is name v gs = elim (cases_Bool (is_given name gs)) [
  | inl e ↦ let h = has_row_of name gs ∙ e in rw (h, e) refl
  | inr e ↦ let h = has_row_of name gs ∙ e in rw (h, e) refl
]

---- Between two words

abbrev pub walk_at : Waiting → Held → Walk
walk_at waiting held = record { held = held; waiting = waiting; position = 1; is_trailing = false; stopped = None }

abbrev pub shape_with : List Text → Shape
shape_with names = record (new_shape (codes "hirvanto")) {
  rules = rules_of names;
  no_binary_name = true;
  disable_help_flag = true;
  disable_help_subcommand = true;
  is_built = true;
}

-- all that was given has its row
abbrev pub held_open : List Given → Held
held_open gs = record { rows = rows_given gs; pending = None; skip = 0 }

-- .. or the last option was given its value in a word of its own
abbrev pub held_closed : List Given → Given → Held
held_closed gs g = record { rows = rows_given gs; pending = Some (g.name, g.value ∷ []); skip = 0 }

-- .. or a name waits for its value
abbrev pub held_waiting : List Given → Text → Held
held_waiting gs name = record { rows = rows_given gs; pending = Some (name, []); skip = 0 }

abbrev dashes : Text
dashes = 45 ∷ 45 ∷ []

module _ (names : List Text) (h : Held) (word : Text) (no_end : bytes_eq word dashes ≡ false) where
  -- `--name=value`
  pub joined_fault : (name v : Text) → long_of word ≡ Some (name, Some v) → is_known names name ≡ true
      → turn_fault (shape_with names) [] (walk_at idle h) word
      ≡ or_else (or_else (settle_fault (rules_of names) false h) (use_fault false (option_rule name) (v ∷ []) (settled (rules_of names) h).rows)) []
  joined_fault name v is known =
      let found : arg_by_long (rules_of names) name ≡ Some (option_rule name) = by_long names name ∙ ap (λ b. cond b (Some (option_rule name)) None) known in
      rw (no_end, is, found) refl

  pub joined_walk : (name v : Text) → long_of word ≡ Some (name, Some v) → is_known names name ≡ true
      → walked (rules_of names) [] (walk_at idle h) word ≡ walk_at idle (reacted (rules_of names) (option_rule name) (v ∷ []) h)
  unfolding walked
  joined_walk name v is known =
      let found : arg_by_long (rules_of names) name ≡ Some (option_rule name) = by_long names name ∙ ap (λ b. cond b (Some (option_rule name)) None) known in
      rw (no_end, is, found) refl

  -- `--name`, whose value is the next word
  pub apart_fault : (name : Text) → long_of word ≡ Some (name, None) → is_known names name ≡ true
      → turn_fault (shape_with names) [] (walk_at idle h) word ≡ or_else (settle_fault (rules_of names) false h) []
  apart_fault name is known =
      let found : arg_by_long (rules_of names) name ≡ Some (option_rule name) = by_long names name ∙ ap (λ b. cond b (Some (option_rule name)) None) known in
      rw (no_end, is, found) refl

  pub apart_walk : (name : Text) → long_of word ≡ Some (name, None) → is_known names name ≡ true
      → walked (rules_of names) [] (walk_at idle h) word ≡ walk_at (option name) (record (settled (rules_of names) h) { pending = Some (name, []) })
  unfolding walked
  apart_walk name is known =
      let found : arg_by_long (rules_of names) name ≡ Some (option_rule name) = by_long names name ∙ ap (λ b. cond b (Some (option_rule name)) None) known in
      rw (no_end, is, found) refl

  -- another name
  pub unknown_fault : (name : Text) (v : Option Text) → long_of word ≡ Some (name, v) → is_known names name ≡ false → turn_fault (shape_with names) [] (walk_at idle h) word ≡ [] → ⊥
  unknown_fault name v is other none =
      let found : arg_by_long (rules_of names) name ≡ None = by_long names name ∙ ap (λ b. cond b (Some (option_rule name)) None) other in
      let e = rw (no_end, is, found) at none in
      (let z : ⊥ = cc in z)

  -- a word with no dashes, where none waits for it
  pub plain_fault : long_of word ≡ None → short_of word ≡ None → turn_fault (shape_with names) [] (walk_at idle h) word ≡ [] → ⊥
  plain_fault long short none =
      let place = by_index names 1 in
      let e = rw (no_end, long, short, place) at none in
      (let z : ⊥ = cc in z)

---- A name that waits

module _ (names : List Text) (gs : List Given) (id : Text) (known_id : is_known names id ≡ true) where
  by_id_here : arg_by_id (rules_of names) id ≡ Some (option_rule id)
  by_id_here = by_id names id ∙ ap (λ b. cond b (Some (option_rule id)) None) known_id

  -- at its end the words want a value
  pub wants_value : settle_fault (rules_of names) false (held_waiting gs id) ≡ kind.InvalidValue ∷ []
  wants_value = rw by_id_here refl

  module _ (word : Text) (no_end : bytes_eq word dashes ≡ false) where
    pub value_fault : long_of word ≡ None → short_of word ≡ None → turn_fault (shape_with names) [] (walk_at (option id) (held_waiting gs id)) word ≡ []
    value_fault long short = rw (no_end, long, short) refl

    pub value_walk : long_of word ≡ None → short_of word ≡ None
        → walked (rules_of names) [] (walk_at (option id) (held_waiting gs id)) word ≡ walk_at idle (held_closed gs (record { name = id; value = word }))
    unfolding walked
    value_walk long short =
        let same = bytes_same id in
        let here = by_id_here in
        rw (no_end, long, short, here, same) refl

    flag_known : (name : Text) (v : Option Text) → arg_by_long (rules_of names) name ≡ Some (option_rule name) → long_of word ≡ Some (name, v)
        → turn_fault (shape_with names) [] (walk_at (option id) (held_waiting gs id)) word ≡ [] → ⊥
    flag_known name None found is none = let here = by_id_here in let e = rw (no_end, is, found, here) at none in (let z : ⊥ = cc in z)
    flag_known name (Some v) found is none = let here = by_id_here in let e = rw (no_end, is, found, here) at none in (let z : ⊥ = cc in z)

    flag_unknown : (name : Text) (v : Option Text) → arg_by_long (rules_of names) name ≡ None → long_of word ≡ Some (name, v)
        → turn_fault (shape_with names) [] (walk_at (option id) (held_waiting gs id)) word ≡ [] → ⊥
    flag_unknown name v found is none = let e = rw (no_end, is, found) at none in (let z : ⊥ = cc in z)

    -- another option in its place
    pub flag_fault : (name : Text) (v : Option Text) → long_of word ≡ Some (name, v)
        → turn_fault (shape_with names) [] (walk_at (option id) (held_waiting gs id)) word ≡ [] → ⊥
    flag_fault name v is none = elim (cases_Bool (is_known names name)) [
      | inl e ↦ flag_known name v (by_long names name ∙ ap (λ b. cond b (Some (option_rule name)) None) e) is none
      | inr e ↦ flag_unknown name v (by_long names name ∙ ap (λ b. cond b (Some (option_rule name)) None) e) is none
    ]

---- What is settled

-- Where no name was given twice, the rows of what was given; or of all but the last option, which is still pending.
abbrev pub IsOpen : List Given → Held → Type 0
IsOpen gs h = (h ≡ held_open gs) × (are_once gs ≡ true)

abbrev pub IsClosed : List Text → List Given → Held → List Given → Given → Type 0
IsClosed names gs h front g = (gs ≡ front ++ g ∷ []) × (is_known names g.name ≡ true) × (h ≡ held_closed front g) × (are_once front ≡ true)

abbrev pub Holds : List Text → List Given → Held → Type 0
Holds names gs h = IsOpen gs h ⊎ ((front : List Given) × (g : Given) × IsClosed names gs h front g)

pub closed_settles : (names : List Text) (front : List Given) (g : Given) → is_known names g.name ≡ true
    → settle_fault (rules_of names) false (held_closed front g) ≡ cond (is_given g.name front) (kind.ArgumentConflict ∷ []) []
closed_settles names front g known =
    let here : arg_by_id (rules_of names) g.name ≡ Some (option_rule g.name) = by_id names g.name ∙ ap (λ b. cond b (Some (option_rule g.name)) None) known in
    rw here (use_fault_is g.name g.value front)

pub closed_settled : (names : List Text) (front : List Given) (g : Given) → is_known names g.name ≡ true → is_given g.name front ≡ false
    → settled (rules_of names) (held_closed front g) ≡ held_open (front ++ g ∷ [])
closed_settled names front g known none =
    let here : arg_by_id (rules_of names) g.name ≡ Some (option_rule g.name) = by_id names g.name ∙ ap (λ b. cond b (Some (option_rule g.name)) None) known in
    rw here (ap (λ (l : List Row). record (held_open []) { rows = l }) (row_added g front none))
