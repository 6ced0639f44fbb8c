-- Words that a parse takes are options of the command.
use Rattle.std.proofs.Common.{◌≡◌, ℕ, zero, suc, ◌≤◌, Bool, true, false, cond, List, [], ◌∷◌, ◌++◌, length, Option, Some, None, refl, sym, ap, ◌∙◌, subst, arith, inl, inr, ◌⊎◌, append-nil, append_assoc}
use Rattle.std.specs.Prelude.{fold}
use Rattle.std.specs.List.{list_all}
use Rattle.std.specs.Str.{bytes_eq}
use Rattle.std.proofs.lemmas.Bool.{cases_Bool, and_parts}
use Rattle.clap.specs.Lexer.{long_of}
use Rattle.clap.specs.Walk.{Row, Text, Held, Walk, idle, option, settled, walked, reacted, used}
use Rattle.clap.specs.Faults.{settle_fault, turn_fault, walk_fault, use_fault}
use Rattle.clap.specs.Kinds.{Kinds, or_else}
use Rattle.clap.specs.declared.error.kind.ErrorKind.TheVariants as kind
use Rattle.command_words.specs.Command.{rows_given}
use Rattle.command_words.specs.Options.{Given, IsSpelled, is_given, are_once, are_among, dashed, begins_dash, is_ready}
use Rattle.command_words.proofs.WordLemmas.{ready_no_end, ready_no_dash, no_dash_no_short, long_back}
use Rattle.command_words.proofs.OnceLemmas.{once_added}
use Rattle.command_words.proofs.WalkLemmas.{option_rule, rules_of, is_known, row_added, use_fault_is, walk_at, shape_with, held_open, held_closed, held_waiting, joined_fault, joined_walk, apart_fault, apart_walk, unknown_fault, plain_fault, wants_value, value_walk, flag_fault, Holds, closed_settles, closed_settled}

pub or_else_nil : (xs ys : Kinds) → or_else xs ys ≡ [] → (xs ≡ []) × (ys ≡ [])
or_else_nil [] ys h = (refl, h)
or_else_nil (k ∷ ks) ys h = absurd (let z : ⊥ = cc in z)

-- no name twice, so no conflict
no_conflict : (b : Bool) → cond b (kind.ArgumentConflict ∷ []) [] ≡ [] → b ≡ false
no_conflict true h = absurd (let z : ⊥ = cc in z)
no_conflict false h = refl

-- what is held settles into the rows of what was given
pub settles : (names : List Text) (gs : List Given) (h : Held) → Holds names gs h → settle_fault (rules_of names) false h ≡ [] → settled (rules_of names) h ≡ held_open gs
settles names gs h (inl o) none = ap (settled (rules_of names)) o.0
settles names gs h (inr c) none =
    let front : List Given = c.0 in
    let g : Given = c.1 in
    let f = ap (settle_fault (rules_of names) false) (sym c.2.2) ∙ none in
    let new = no_conflict (is_given g.name front) (sym (closed_settles names front g c.2.1) ∙ f) in
    ap (settled (rules_of names)) c.2.2 ∙ (closed_settled names front g c.2.1 new ∙ ap held_open (sym c.2.0))

-- .. and no name was given twice
pub settles_once : (names : List Text) (gs : List Given) (h : Held) → Holds names gs h → settle_fault (rules_of names) false h ≡ [] → are_once gs ≡ true
settles_once names gs h (inl o) none = o.1
settles_once names gs h (inr c) none =
    let front : List Given = c.0 in
    let g : Given = c.1 in
    let f = ap (settle_fault (rules_of names) false) (sym c.2.2) ∙ none in
    let new = no_conflict (is_given g.name front) (sym (closed_settles names front g c.2.1) ∙ f) in
    ap are_once c.2.0 ∙ once_added front g c.2.3 new

skips_none : (names : List Text) (gs : List Given) (h : Held) → Holds names gs h → h.skip ≡ 0
skips_none names gs h (inl o) = ap (λ (x : Held). x.skip) o.0
skips_none names gs h (inr c) = ap (λ (x : Held). x.skip) c.2.2

-- behind these options, the words are more of them, and lead to this
pub record Reads (names : List Text) (gs : List Given) (words : List Text) (end : Held) : Type 0 where
  pub more : List Given
  pub spelled : IsSpelled more words
  pub known : are_among names more ≡ true
  pub holds : Holds names (gs ++ more) end

abbrev pub end_of : List Text → Walk → List Text → Walk
end_of names w words = fold (walked (rules_of names) []) w words

abbrev pub no_walk_fault : List Text → Walk → List Text → Type 0
no_walk_fault names w words = walk_fault (shape_with names) [] w words ≡ []

abbrev pub no_end_fault : List Text → Walk → List Text → Type 0
no_end_fault names w words = settle_fault (rules_of names) false (end_of names w words).held ≡ []

-- all words, as many as n
abbrev pub ReadsAll : List Text → ℕ → Type 0
ReadsAll names n = (words : List Text) (gs : List Given) (h : Held) → length words ≤ n → Holds names gs h → list_all is_ready words ≡ true
    → no_walk_fault names (walk_at idle h) words → no_end_fault names (walk_at idle h) words → Reads names gs words (end_of names (walk_at idle h) words).held

walk_parts : (names : List Text) (w : Walk) (word : Text) (rest : List Text) → no_walk_fault names w (word ∷ rest)
    → (turn_fault (shape_with names) [] w word ≡ []) × no_walk_fault names (walked (rules_of names) [] w word) rest
unfolding walk_fault
walk_parts names w word rest h = or_else_nil (turn_fault (shape_with names) [] w word) (walk_fault (shape_with names) [] (walked (rules_of names) [] w word) rest) h

-- one option more in front
one_more : (names : List Text) (gs : List Given) (g : Given) (rest words : List Text) (end : Held) → is_known names g.name ≡ true
    → ((words ≡ (dashed g.name ++ 61 ∷ g.value) ∷ rest) ⊎ ((words ≡ dashed g.name ∷ g.value ∷ rest) × (begins_dash g.value ≡ false)))
    → Reads names (gs ++ g ∷ []) rest end → Reads names gs words end
one_more names gs g rest words end known word reads = record {
  more = g ∷ reads.more;
  spelled = (rest, word, reads.spelled);
  known = rw known reads.known;
  holds = subst (λ (l : List Given). Holds names l end) (append_assoc gs (g ∷ []) reads.more) reads.holds;
}

module _ (names : List Text) (n : ℕ) (all : ReadsAll names n) (gs : List Given) (h : Held) (holds : Holds names gs h) where
  -- the walk goes on from another place
  goes_on : (w : Walk) (rest : List Text) (gs' : List Given) (h' : Held) → w ≡ walk_at idle h' → length rest ≤ n → Holds names gs' h' → list_all is_ready rest ≡ true
      → no_walk_fault names w rest → no_end_fault names w rest → Reads names gs' rest (end_of names w rest).held
  goes_on w rest gs' h' is few held ready walk end =
      subst (λ (v : Walk). Reads names gs' rest (end_of names v rest).held) (sym is)
      (all rest gs' h' few held ready (subst (λ (v : Walk). no_walk_fault names v rest) is walk) (subst (λ (v : Walk). no_end_fault names v rest) is end))

  module _ (word : Text) (rest : List Text) (few : length rest ≤ n) (ready : is_ready word ≡ true) (ready_rest : list_all is_ready rest ≡ true)
      (walk : no_walk_fault names (walk_at idle h) (word ∷ rest)) (end : no_end_fault names (walk_at idle h) (word ∷ rest)) where
    no_end : bytes_eq word (45 ∷ 45 ∷ []) ≡ false
    no_end = ready_no_end word ready

    joined : (name v : Text) → long_of word ≡ Some (name, Some v) → is_known names name ≡ true → Reads names gs (word ∷ rest) (end_of names (walk_at idle h) (word ∷ rest)).held
    joined name v is known =
        let g : Given = record { name = name; value = v } in
        let parts = walk_parts names (walk_at idle h) word rest walk in
        let turn = sym (joined_fault names h word no_end name v is known) ∙ parts.0 in
        let one = or_else_nil _ _ turn in
        let two = or_else_nil _ _ one.0 in
        let rows = settles names gs h holds two.0 in
        let fits : use_fault false (option_rule name) (v ∷ []) (rows_given gs) ≡ [] =
        ap (λ (x : Held). use_fault false (option_rule name) (v ∷ []) x.rows) (sym rows) ∙ two.1 in
        let new = no_conflict (is_given name gs) (sym (use_fault_is name v gs) ∙ fits) in
        let next : reacted (rules_of names) (option_rule name) (v ∷ []) h ≡ held_open (gs ++ g ∷ []) =
        ap (λ (l : List Row). record { rows = l; pending = None; skip = h.skip })
        (ap (λ (x : Held). used (option_rule name) (v ∷ []) x.rows) rows ∙ row_added g gs new)
        ∙ ap (λ (k : ℕ). record { rows = rows_given (gs ++ g ∷ []); pending = None; skip = k }) (skips_none names gs h holds) in
        let place = joined_walk names h word no_end name v is known ∙ ap (walk_at idle) next in
        one_more names gs g rest (word ∷ rest) _ known (inl (ap (λ (x : Text). x ∷ rest) (long_back word name (Some v) is)))
        (goes_on _ rest (gs ++ g ∷ []) (held_open (gs ++ g ∷ [])) place few (inl (refl, once_added gs g (settles_once names gs h holds two.0) new)) ready_rest parts.1 end)

    unknown : (p : Text × Option Text) → long_of word ≡ Some p → is_known names p.0 ≡ false → ⊥
    unknown p is other = unknown_fault names h word no_end p.0 p.1 is other (walk_parts names (walk_at idle h) word rest walk).0

    apart : (name : Text) → long_of word ≡ Some (name, None) → is_known names name ≡ true → Reads names gs (word ∷ rest) (end_of names (walk_at idle h) (word ∷ rest)).held
    apart name is known =
        let parts = walk_parts names (walk_at idle h) word rest walk in
        let turn = sym (apart_fault names h word no_end name is known) ∙ parts.0 in
        let one = or_else_nil _ _ turn in
        let rows = settles names gs h holds one.0 in
        let once : are_once gs ≡ true = settles_once names gs h holds one.0 in
        let place : walked (rules_of names) [] (walk_at idle h) word ≡ walk_at (option name) (held_waiting gs name) =
        apart_walk names h word no_end name is known ∙ ap (λ (x : Held). walk_at (option name) (record x { pending = Some (name, []) })) rows in
        subst (λ (w : Walk). Reads names gs (word ∷ rest) (end_of names w rest).held) (sym place)
        (takes_value once rest few ready_rest (subst (λ (w : Walk). no_walk_fault names w rest) place parts.1) (subst (λ (w : Walk). no_end_fault names w rest) place end))
      where
        takes_value : are_once gs ≡ true → (rest : List Text) → length rest ≤ n → list_all is_ready rest ≡ true → no_walk_fault names (walk_at (option name) (held_waiting gs name)) rest
            → no_end_fault names (walk_at (option name) (held_waiting gs name)) rest → Reads names gs (word ∷ rest) (end_of names (walk_at (option name) (held_waiting gs name)) rest).held
        takes_value once [] few ready_rest walk end =
            let k = sym (wants_value names gs name known) ∙ end in
            absurd (let z : ⊥ = cc in z)
        takes_value once (v ∷ others) few ready_rest walk end =
            let readies = and_parts (is_ready v) (list_all is_ready others) ready_rest in
            let v_no_end = ready_no_end v readies.0 in
            let parts = walk_parts names (walk_at (option name) (held_waiting gs name)) v others walk in
            let g : Given = record { name = name; value = v } in
            value (long_of v) refl readies.0 v_no_end parts.0 others (omega arith) readies.1 parts.1 end
          where
            value : (o : Option (Text × Option Text)) → long_of v ≡ o → is_ready v ≡ true → bytes_eq v (45 ∷ 45 ∷ []) ≡ false
                → turn_fault (shape_with names) [] (walk_at (option name) (held_waiting gs name)) v ≡ [] → (others : List Text) → length others ≤ n → list_all is_ready others ≡ true
                → no_walk_fault names (walked (rules_of names) [] (walk_at (option name) (held_waiting gs name)) v) others
                → no_end_fault names (walked (rules_of names) [] (walk_at (option name) (held_waiting gs name)) v) others
                → Reads names gs (word ∷ v ∷ others) (end_of names (walked (rules_of names) [] (walk_at (option name) (held_waiting gs name)) v) others).held
            value (Some p) long ready no_end turn others few readies walk end = absurd (flag_fault names gs name known v no_end p.0 p.1 long turn)
            value None long ready no_end turn others few readies walk end =
                let dash = ready_no_dash v ready long in
                let g : Given = record { name = name; value = v } in
                let place = value_walk names gs name known v no_end long (no_dash_no_short v dash) in
                one_more names gs g others (word ∷ v ∷ others) _ known
                (inr (ap (λ (x : Text). x ∷ v ∷ others) (long_back word name None is), dash))
                (goes_on _ others (gs ++ g ∷ []) (held_closed gs g) place few (inr (gs, g, (refl, known, refl, once))) readies walk end)

    by_known : (p : Text × Option Text) → long_of word ≡ Some p → is_known names p.0 ≡ true → Reads names gs (word ∷ rest) (end_of names (walk_at idle h) (word ∷ rest)).held
    by_known p is known = go p.1 is
      where
        go : (v : Option Text) → long_of word ≡ Some (p.0, v) → Reads names gs (word ∷ rest) (end_of names (walk_at idle h) (word ∷ rest)).held
        go (Some v) is = joined p.0 v is known
        go None is = apart p.0 is known

    pub reads_word : (o : Option (Text × Option Text)) → long_of word ≡ o → Reads names gs (word ∷ rest) (end_of names (walk_at idle h) (word ∷ rest)).held
    reads_word None is =
        absurd (plain_fault names h word no_end is (no_dash_no_short word (ready_no_dash word ready is)) (walk_parts names (walk_at idle h) word rest walk).0)
    reads_word (Some p) is = elim (cases_Bool (is_known names p.0)) [
      | inl e ↦ by_known p is e
      | inr e ↦ absurd (unknown p is e)
    ]

reads_none : (names : List Text) (gs : List Given) (h : Held) → Holds names gs h → Reads names gs [] h
reads_none names gs h holds = record { more = []; spelled = refl; known = refl; holds = subst (λ (l : List Given). Holds names l h) (sym (append-nil gs)) holds }

pub reads_all : (names : List Text) (n : ℕ) → ReadsAll names n
reads_all names zero [] gs h few holds ready walk end = reads_none names gs h holds
reads_all names zero (word ∷ rest) gs h few holds ready walk end = absurd (omega arith)
reads_all names (suc n) [] gs h few holds ready walk end = reads_none names gs h holds
reads_all names (suc n) (word ∷ rest) gs h few holds ready walk end =
    let readies = and_parts (is_ready word) (list_all is_ready rest) ready in
    reads_word names n (reads_all names n) gs h holds word rest (omega arith) readies.0 readies.1 walk end (long_of word) refl
