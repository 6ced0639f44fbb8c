-- Options of the command, each given once, are taken by a parse.
use Rattle.std.proofs.Common.{◌≡◌, ℕ, Bool, true, false, not, ◌||◌, cond, List, [], ◌∷◌, ◌++◌, Option, Some, None, refl, sym, ap, ◌∙◌, subst, inl, inr, append-nil, append_assoc}
use Rattle.std.specs.Prelude.{is_some}
use Rattle.std.specs.List.{list_all}
use Rattle.std.proofs.lemmas.Bool.{and_parts}
use Rattle.clap.specs.Lexer.{long_of}
use Rattle.clap.specs.Walk.{Row, Text, Held, Walk, idle, option, settled, walked, reacted, used}
use Rattle.clap.specs.Faults.{settle_fault, turn_fault, walk_fault, use_fault}
use Rattle.clap.specs.Kinds.{Kinds, or_else}
use Rattle.clap.specs.declared.error.kind.ErrorKind.TheVariants as kind
use Rattle.command_words.specs.Command.{rows_given}
use Rattle.command_words.specs.Options.{Given, IsSpelled, is_given, are_once, are_among, dashed, begins_dash, is_ready}
use Rattle.command_words.proofs.OnceLemmas.{once_front, once_last}
use Rattle.command_words.proofs.WordLemmas.{is_name, ready_no_end, no_dash_no_short, no_dash_no_long, joined_word, dashed_word, known_is_name}
use Rattle.command_words.proofs.WalkLemmas.{option_rule, rules_of, is_known, row_added, use_fault_is, walk_at, shape_with, held_open, held_closed, held_waiting, joined_fault, joined_walk, apart_fault, apart_walk, value_fault, value_walk, Holds, closed_settles}
use Rattle.command_words.proofs.ReadLemmas.{settles, no_walk_fault, no_end_fault}

-- the words are taken from here on
pub record AreTaken (names : List Text) (w : Walk) (words : List Text) : Type 0 where
  pub ready : list_all is_ready words ≡ true
  pub walk : no_walk_fault names w words
  pub end : no_end_fault names w words

-- what is held settles without a fault where no name was given twice
settles_well : (names : List Text) (gs : List Given) (h : Held) → Holds names gs h → are_once gs ≡ true → settle_fault (rules_of names) false h ≡ []
settles_well names gs h (inl o) once = ap (settle_fault (rules_of names) false) o.0
settles_well names gs h (inr c) once =
    let new = once_last c.0 c.1 (ap are_once (sym c.2.0) ∙ once) in
    ap (settle_fault (rules_of names) false) c.2.2 ∙ (closed_settles names c.0 c.1 c.2.1 ∙ ap (λ b. cond b (kind.ArgumentConflict ∷ []) []) new)

skips_none : (names : List Text) (gs : List Given) (h : Held) → Holds names gs h → h.skip ≡ 0
skips_none names gs h (inl o) = ap (λ (x : Held). x.skip) o.0
skips_none names gs h (inr c) = ap (λ (x : Held). x.skip) c.2.2

-- one word more in front
turned : (names : List Text) (w next : Walk) (word : Text) (rest : List Text) → is_ready word ≡ true → turn_fault (shape_with names) [] w word ≡ []
    → walked (rules_of names) [] w word ≡ next → AreTaken names next rest → AreTaken names w (word ∷ rest)
unfolding walk_fault
turned names w next word rest ready turn is taken = record {
  ready = rw ready taken.ready;
  walk = rw turn (subst (λ (v : Walk). no_walk_fault names v rest) (sym is) taken.walk);
  end = subst (λ (v : Walk). no_end_fault names v rest) (sym is) taken.end;
}

abbrev TakesAll : List Text → List Given → Type 0
TakesAll names more = (words : List Text) (gs : List Given) (h : Held) → Holds names gs h → are_among names more ≡ true → are_once (gs ++ more) ≡ true → IsSpelled more words
    → AreTaken names (walk_at idle h) words

module _ (names : List Text) (named : list_all is_name names ≡ true) (g : Given) (more : List Given) (all : TakesAll names more)
    (rest : List Text) (gs : List Given) (h : Held) (holds : Holds names gs h) (known : is_known names g.name ≡ true) (others : are_among names more ≡ true)
    (once : are_once ((gs ++ g ∷ []) ++ more) ≡ true) (spelled : IsSpelled more rest) where
  once_now : are_once (gs ++ g ∷ []) ≡ true
  once_now = once_front (gs ++ g ∷ []) more once

  once_before : are_once gs ≡ true
  once_before = once_front gs (g ∷ []) once_now

  settled_well : settle_fault (rules_of names) false h ≡ []
  settled_well = settles_well names gs h holds once_before

  rows : settled (rules_of names) h ≡ held_open gs
  rows = settles names gs h holds settled_well

  new : is_given g.name gs ≡ false
  new = once_last gs g once_now

  name_is : is_name g.name ≡ true
  name_is = known_is_name names g.name named known

  takes_joined : AreTaken names (walk_at idle h) ((dashed g.name ++ 61 ∷ g.value) ∷ rest)
  takes_joined =
      let word : Text = dashed g.name ++ 61 ∷ g.value in
      let long = joined_word g.name g.value name_is in
      let ready : is_ready word ≡ true = ap (λ (o : Option (Text × Option Text)). is_some o || not (begins_dash word)) long in
      let no_end = ready_no_end word ready in
      let fits : use_fault false (option_rule g.name) (g.value ∷ []) (settled (rules_of names) h).rows ≡ [] =
      ap (λ (x : Held). use_fault false (option_rule g.name) (g.value ∷ []) x.rows) rows
      ∙ (use_fault_is g.name g.value gs ∙ ap (λ b. cond b (kind.ArgumentConflict ∷ []) []) new) in
      let turn : turn_fault (shape_with names) [] (walk_at idle h) word ≡ [] =
      joined_fault names h word no_end g.name g.value long known
      ∙ (ap (λ (k : Kinds). or_else (or_else k (use_fault false (option_rule g.name) (g.value ∷ []) (settled (rules_of names) h).rows)) []) settled_well
      ∙ ap (λ (k : Kinds). or_else k []) fits) in
      let next : reacted (rules_of names) (option_rule g.name) (g.value ∷ []) h ≡ held_open (gs ++ g ∷ []) =
      ap (λ (l : List Row). record { rows = l; pending = None; skip = h.skip })
      (ap (λ (x : Held). used (option_rule g.name) (g.value ∷ []) x.rows) rows ∙ row_added g gs new)
      ∙ ap (λ (k : ℕ). record { rows = rows_given (gs ++ g ∷ []); pending = None; skip = k }) (skips_none names gs h holds) in
      turned names (walk_at idle h) (walk_at idle (held_open (gs ++ g ∷ []))) word rest ready turn
      (joined_walk names h word no_end g.name g.value long known ∙ ap (walk_at idle) next)
      (all rest (gs ++ g ∷ []) (held_open (gs ++ g ∷ [])) (inl (refl, once_now)) others once spelled)

  takes_apart : begins_dash g.value ≡ false → AreTaken names (walk_at idle h) (dashed g.name ∷ g.value ∷ rest)
  takes_apart dash =
      let word : Text = dashed g.name in
      let long = dashed_word g.name name_is in
      let ready : is_ready word ≡ true = ap (λ (o : Option (Text × Option Text)). is_some o || not (begins_dash word)) long in
      let no_end = ready_no_end word ready in
      let none = no_dash_no_long g.value dash in
      let value_ready : is_ready g.value ≡ true = ap (λ b. is_some (long_of g.value) || not b) dash ∙ or_true (is_some (long_of g.value)) in
      let value_no_end = ready_no_end g.value value_ready in
      let turn : turn_fault (shape_with names) [] (walk_at idle h) word ≡ [] =
      apart_fault names h word no_end g.name long known ∙ ap (λ (k : Kinds). or_else k []) settled_well in
      let place : walked (rules_of names) [] (walk_at idle h) word ≡ walk_at (option g.name) (held_waiting gs g.name) =
      apart_walk names h word no_end g.name long known ∙ ap (λ (x : Held). walk_at (option g.name) (record x { pending = Some (g.name, []) })) rows in
      turned names (walk_at idle h) (walk_at (option g.name) (held_waiting gs g.name)) word (g.value ∷ rest) ready turn place
      (turned names (walk_at (option g.name) (held_waiting gs g.name)) (walk_at idle (held_closed gs g)) g.value rest value_ready
      (value_fault names gs g.name known g.value value_no_end none (no_dash_no_short g.value dash))
      (value_walk names gs g.name known g.value value_no_end none (no_dash_no_short g.value dash))
      (all rest (gs ++ g ∷ []) (held_closed gs g) (inr (gs, g, (refl, known, refl, once_before))) others once spelled))
    where
      or_true : (b : Bool) → (b || true) ≡ true
      or_true true = refl
      or_true false = refl

no_words : (names : List Text) (h : Held) → no_walk_fault names (walk_at idle h) []
unfolding walk_fault
no_words names h = refl

pub takes_all : (names : List Text) → list_all is_name names ≡ true → (more : List Given) → TakesAll names more
takes_all names named [] words gs h holds known once spelled =
    subst (λ (ws : List Text). AreTaken names (walk_at idle h) ws) (sym spelled)
    (record { ready = refl; walk = no_words names h; end = settles_well names gs h holds (ap are_once (sym (append-nil gs)) ∙ once) })
takes_all names named (g ∷ more) words gs h holds known once spelled =
    let parts = and_parts (is_known names g.name) (are_among names more) known in
    let once_more : are_once ((gs ++ g ∷ []) ++ more) ≡ true = ap are_once (append_assoc gs (g ∷ []) more) ∙ once in
    elim spelled.1 [
      | inl e ↦ subst (λ (ws : List Text). AreTaken names (walk_at idle h) ws) (sym e)
          (takes_joined names named g more (takes_all names named more) spelled.0 gs h holds parts.0 parts.1 once_more spelled.2)
      | inr e ↦ subst (λ (ws : List Text). AreTaken names (walk_at idle h) ws) (sym e.0)
          (takes_apart names named g more (takes_all names named more) spelled.0 gs h holds parts.0 parts.1 once_more spelled.2 e.1)
    ]
