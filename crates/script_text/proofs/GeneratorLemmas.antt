-- What is known of the names of a generated script, command by command.
use Rattle.std.proofs.Common.{◌≡◌, ℕ, zero, suc, ◌+◌, ◌*◌, ◌/◌, ◌%◌, ◌<◌, ◌≤◌, Bool, true, false, not, ◌&&◌, ◌||◌, cond, eqb, ltb, List, [], ◌∷◌, ◌++◌, length, Option, Some, None, refl, sym, ap, ◌∙◌, subst, arith, inl, inr}
use Rattle.std.specs.Prelude.{slice_index_or, slice_set, unwrap_or, is_some}
use Rattle.std.specs.Fmt.{decimal}
use Rattle.std.specs.Str.{bytes_eq}
use Rattle.std.proofs.Common.{get_or-set_other, get_or-set_same, append_assoc, append-nil, add-zero, ◌-◌}
use Rattle.std.proofs.lemmas.List.{map-append}
use Rattle.std.proofs.Math.ListN.{length-set}
use Rattle.std.proofs.lemmas.Bool.{cases_Bool, eqb-true, eq-eqb, false_from_ne_true}
use Rattle.std.proofs.lemmas.Fmt.{decimal_injective}
use Rattle.std.proofs.lemmas.List.Sums.{fold-append}
use Rattle.rand_pcg.specs.Lcg.{Lcg, started, increment_of, state_after, next_state}
use Rattle.rand_pcg.specs.Pcg.{multiplier_64, pcg32}
use Rattle.script_text.specs.declared.commands.Command.{Command}
use Rattle.script_text.specs.declared.commands.CommandLine.{CommandLine}
use Rattle.script_text.specs.declared.generating.Known.{Known}
use Rattle.script_text.specs.declared.generating.Drawing.{Drawing}
use Rattle.script_text.specs.Names.{is_among, different, number_of_name}
use Rattle.script_text.specs.Generator.{generator, draw, name_draw, value_draw, name_of, choice_of, command_on, held_behind, is_held, drawn_behind, drawn, name_text, names_drawn, numbered, without_line, command_lines}
use Rattle.script_text.specs.Drawing.{known, unknown, HasDrawn}
use Rattle.script_text.proofs.NameLemmas.{same_bytes, bytes_same, bytes_back, among_push, before_known, before_new, different_push, or_true}

---- The generator

-- one step behind n steps
next_behind : (inc n state : ℕ) → next_state 64 multiplier_64 inc (state_after 64 multiplier_64 inc n state) ≡ state_after 64 multiplier_64 inc (suc n) state
unfolding state_after
next_behind inc zero state = refl
next_behind inc (suc n) state = next_behind inc n (next_state 64 multiplier_64 inc state)

-- a new generator
pub first_generator : (seed : ℕ) → started 64 multiplier_64 seed (increment_of 64 54) ≡ generator seed 0
unfolding generator state_after
first_generator seed = refl

-- a word, and the generator behind it
word_is : (seed k : ℕ) (g g' : Lcg) (a : ℕ) → g ≡ generator seed k → (a, g') ≡ pcg32 g → (a ≡ draw seed k) × (g' ≡ generator seed (suc k))
unfolding generator state_after
word_is seed k g g' a is made =
    let e : (a, g') ≡ pcg32 (generator seed k) = made ∙ ap pcg32 is in (
      ap (λ (r : ℕ × Lcg). r.0) e,
      ap (λ (r : ℕ × Lcg). r.1) e ∙ ap (λ (s : ℕ). record (generator seed k) { state = s }) (next_behind (generator seed 0).increment k (generator seed 0).state),
    )

-- the two draws of a command, and the generator behind them
pub record AreDraws (seed k a b : ℕ) (g : Lcg) : Type 0 where
  pub a_is : a ≡ name_draw seed k
  pub b_is : b ≡ value_draw seed k
  pub generator : g ≡ generator seed (2 * suc k)

pub two_words : (seed k a b : ℕ) (g g' g'' : Lcg) → g ≡ generator seed (2 * k) → (a, g') ≡ pcg32 g → (b, g'') ≡ pcg32 g' → AreDraws seed k a b g''
two_words seed k a b g g' g'' is first second =
    let once : suc (2 * k) ≡ 2 * k + 1 = omega arith in
    let twice : suc (2 * k + 1) ≡ 2 * suc k = omega arith in
    let one = word_is seed (2 * k) g g' a is first in
    let two = word_is seed (2 * k + 1) g' g'' b (one.1 ∙ ap (generator seed) once) second in
    record { a_is = one.0; b_is = two.0; generator = two.1 ∙ ap (generator seed) twice }

---- Names

-- another number is another name
pub other_text : (x y : ℕ) → x < 256 → y < 256 → bytes_eq (name_text x) (name_text y) ≡ eqb x y
other_text x y p q = elim (cases_Bool (eqb x y)) [
  | inl e ↦ let s = eqb-true x y e in rw (s, bytes_same (name_text y), eq-eqb y y refl) refl
  | inr e ↦ rw e (false_from_ne_true (bytes_eq (name_text x) (name_text y)) (λ h.
      let t : name_text x ≡ name_text y = same_bytes (name_text x) (name_text y) h in
      let d : decimal x ≡ decimal y = cc in
      let s = decimal_injective x y (omega arith) (omega arith) d in
      let f = eq-eqb x y s in
      absurd (let z : ⊥ = cc in z)))
]

-- a command by a choice leaves its name held where it is not a free
held_behind_own : (x choice b : ℕ) (held : Bool) → held_behind x held (command_on held choice x b) ≡ not (held && ltb choice 2)
held_behind_own x choice b false = rw (eq-eqb x x refl) refl
held_behind_own x choice b true = elim (cases_Bool (ltb choice 2)) [
  | inl e ↦ rw (e, eq-eqb x x refl) refl
  | inr e ↦ elim (cases_Bool (eqb choice 2)) [
    | inl f ↦ rw (e, f) refl
    | inr f ↦ rw (e, f) refl
  ]
]

-- and every other name as it was
held_behind_other : (x y choice b : ℕ) (held was : Bool) → eqb x y ≡ false → held_behind y was (command_on held choice x b) ≡ was
held_behind_other x y choice b false was e = rw e refl
held_behind_other x y choice b true was e = elim (cases_Bool (ltb choice 2)) [
  | inl f ↦ rw (f, e) refl
  | inr f ↦ elim (cases_Bool (eqb choice 2)) [
    | inl g ↦ rw (f, g) refl
    | inr g ↦ rw (f, g) refl
  ]
]

-- a command's own name gets the number that it has among the names
pub numbered_on : (names : List (List ℕ)) (held : Bool) (choice x b : ℕ) → numbered names (command_on held choice x b) ≡ command_on held choice (number_of_name names (name_text x)) b
numbered_on names false choice x b = refl
numbered_on names true choice x b = elim (cases_Bool (ltb choice 2)) [
  | inl f ↦ rw f refl
  | inr f ↦ elim (cases_Bool (eqb choice 2)) [
    | inl g ↦ rw (f, g) refl
    | inr g ↦ rw (f, g) refl
  ]
]

---- One command more

abbrev number_in : List (List ℕ) → List ℕ → Option ℕ
number_in names t = cond (is_among names t) (Some (number_of_name names t)) None

among_own : (names : List (List ℕ)) (t : List ℕ) → is_among (names ++ t ∷ []) t ≡ true
among_own names t = among_push names t t ∙ (ap (λ b. is_among names t || b) (bytes_same t) ∙ or_true (is_among names t))

-- a name keeps the number that it has, and a new one gets the next
pub number_pushed : (names : List (List ℕ)) (t : List ℕ) (n : ℕ) → n ≡ unwrap_or (number_in names t) (different names) → n ≡ number_of_name (names ++ t ∷ []) t
number_pushed names t n h = elim (cases_Bool (is_among names t)) [
  | inl e ↦ let k : n ≡ number_of_name names t = rw e at h in rw (before_known t names (t ∷ []) e) k
  | inr e ↦ let k : n ≡ different names = rw e at h in rw (before_new t names [] e) k
]

number_in_own : (names : List (List ℕ)) (t : List ℕ) (n : ℕ) → n ≡ unwrap_or (number_in names t) (different names) → Some n ≡ number_in (names ++ t ∷ []) t
number_in_own names t n h = rw (among_own names t) (ap Some (number_pushed names t n h))

number_in_other : (names : List (List ℕ)) (t q : List ℕ) → bytes_eq q t ≡ false → number_in (names ++ t ∷ []) q ≡ number_in names q
number_in_other names t q h = elim (cases_Bool (is_among names q)) [
  | inl e ↦ rw (among_push names t q, e, before_known q names (t ∷ []) e) refl
  | inr e ↦ rw (among_push names t q, e, h) refl
]

pub used_pushed : (names : List (List ℕ)) (t : List ℕ) (u : ℕ) → u ≡ different names → cond (is_some (number_in names t)) u (u + 1) ≡ different (names ++ t ∷ [])
used_pushed names t u h = elim (cases_Bool (is_among names t)) [
  | inl e ↦ rw (e, different_push names t, e) (omega arith)
  | inr e ↦ rw (e, different_push names t, e) (omega arith)
]

held_pushed : (before : List Command) (c : Command) (y : ℕ) → is_held (before ++ c ∷ []) y ≡ held_behind y (is_held before y) c
held_pushed before c y = fold-append (held_behind y) false before (c ∷ [])

-- what is made of the name of a command's draws
pub record IsStep (d : Drawing) (a number : ℕ) (held : Bool) : Type 0 where
  pub number_is : number ≡ unwrap_or (slice_index_or d.names (a % 256) unknown).number d.used
  pub held_is : held ≡ not ((slice_index_or d.names (a % 256) unknown).held && ltb (a / 256 % 4) 2)

module _ (d : Drawing) (seed k a b number : ℕ) (held : Bool) (g : Lcg) (has : HasDrawn d seed k) (draws : AreDraws seed k a b g) (step : IsStep d a number held) where
  abbrev x : ℕ
  x = a % 256

  abbrev names : List (List ℕ)
  names = names_drawn seed k

  abbrev command : Command
  command = command_on (is_held (drawn seed k) x) (a / 256 % 4) x b

  here : slice_index_or d.names x unknown ≡ known seed k x
  here = has.names x (omega arith)

  command_is : drawn_behind (drawn seed k) (name_draw seed k) (value_draw seed k) ≡ command
  command_is = ap (λ (n : ℕ). drawn_behind (drawn seed k) n (value_draw seed k)) (sym draws.a_is) ∙ ap (λ (n : ℕ). drawn_behind (drawn seed k) a n) (sym draws.b_is)

  names_are : names_drawn seed (suc k) ≡ names ++ name_text x ∷ []
  names_are = ap (λ (n : ℕ). names ++ name_text (n % 256) ∷ []) (sym draws.a_is)

  drawn_is : drawn seed (suc k) ≡ drawn seed k ++ command ∷ []
  drawn_is = ap (λ (c : Command). drawn seed k ++ c ∷ []) command_is

  number_in_names : number ≡ unwrap_or (number_in names (name_text x)) (different names)
  number_in_names = step.number_is ∙ (ap (λ (n : Known). unwrap_or n.number d.used) here ∙ ap (unwrap_or (number_in names (name_text x))) has.used)

  known_is : (y : ℕ) → known seed (suc k) y
      ≡ record { number = number_in (names ++ name_text x ∷ []) (name_text y); held = held_behind y (is_held (drawn seed k) y) command }
  known_is y =
      ap (λ (l : List (List ℕ)). record (known seed (suc k) y) { number = number_in l (name_text y) }) names_are
      ∙ ap (λ (h : Bool). record (known seed (suc k) y) { number = number_in (names ++ name_text x ∷ []) (name_text y); held = h })
      (ap (λ (l : List Command). is_held l y) drawn_is ∙ held_pushed (drawn seed k) command y)

  own : slice_index_or (slice_set d.names x (record { number = Some number; held = held })) x unknown ≡ known seed (suc k) x
  own =
      let within : x < length d.names = omega (arith, has.room) in
      let is_held_now : held ≡ held_behind x (is_held (drawn seed k) x) command =
      step.held_is ∙ (ap (λ (n : Known). not (n.held && ltb (a / 256 % 4) 2)) here ∙ sym (held_behind_own x (a / 256 % 4) b (is_held (drawn seed k) x))) in
      get_or-set_same d.names x (record { number = Some number; held = held }) unknown within
      ∙ (ap (λ (n : Option ℕ). record { number = n; held = held }) (number_in_own names (name_text x) number number_in_names)
      ∙ (ap (λ (h : Bool). record { number = number_in (names ++ name_text x ∷ []) (name_text x); held = h }) is_held_now
      ∙ sym (known_is x)))

  other : (y : ℕ) → y < 256 → eqb x y ≡ false → slice_index_or (slice_set d.names x (record { number = Some number; held = held })) y unknown ≡ known seed (suc k) y
  other y small e =
      let apart : y ≡ x → ⊥ = λ s. (let f = eq-eqb x y (sym s) in let z : ⊥ = cc in z) in
      let texts : bytes_eq (name_text y) (name_text x) ≡ false = bytes_back (name_text x) (name_text y) (other_text x y (omega arith) small ∙ e) in
      get_or-set_other d.names x y (record { number = Some number; held = held }) unknown apart
      ∙ (has.names y small
      ∙ (ap (λ (n : Option ℕ). record { number = n; held = is_held (drawn seed k) y }) (sym (number_in_other names (name_text x) (name_text y) texts))
      ∙ (ap (λ (h : Bool). record { number = number_in (names ++ name_text x ∷ []) (name_text y); held = h }) (sym (held_behind_other x y (a / 256 % 4) b (is_held (drawn seed k) x) (is_held (drawn seed k) y) e))
      ∙ sym (known_is y))))

  each : (y : ℕ) → y < 256 → slice_index_or (slice_set d.names x (record { number = Some number; held = held })) y unknown ≡ known seed (suc k) y
  each y small = elim (cases_Bool (eqb x y)) [
    | inl e ↦ let s : x ≡ y = eqb-true x y e in subst (λ (z : ℕ). slice_index_or (slice_set d.names x (record { number = Some number; held = held })) z unknown ≡ known seed (suc k) z) s own
    | inr e ↦ other y small e
  ]

  pub used_is : cond (is_some (slice_index_or d.names x unknown).number) d.used (d.used + 1) ≡ different (names_drawn seed (suc k))
  used_is =
      ap (λ (n : Known). cond (is_some n.number) d.used (d.used + 1)) here
      ∙ (used_pushed names (name_text x) d.used has.used ∙ ap different (sym names_are))

  -- the drawing behind the command
  pub has_drawn : (e : Drawing) → e ≡ record { generator = g; names = d.names; used = cond (is_some (slice_index_or d.names x unknown).number) d.used (d.used + 1) }
      → HasDrawn (record { generator = e.generator; names = slice_set e.names x (record { number = Some number; held = held }); used = e.used }) seed (suc k)
  has_drawn e is =
      subst (λ (f : Drawing). HasDrawn (record { generator = f.generator; names = slice_set f.names x (record { number = Some number; held = held }); used = f.used }) seed (suc k)) (sym is)
      (record { generator = draws.generator; room = length-set d.names x (record { number = Some number; held = held }) ∙ has.room; names = each; used = used_is })

  -- the command itself
  pub answered : (c : Command) → c ≡ command_on (slice_index_or d.names x unknown).held (a / 256 % 4) number b
      → c ≡ numbered (names_drawn seed (suc k)) (drawn_behind (drawn seed k) (name_draw seed k) (value_draw seed k))
  answered c is =
      is ∙ (ap (λ (n : Known). command_on n.held (a / 256 % 4) number b) here
      ∙ (ap (λ (n : ℕ). command_on (is_held (drawn seed k) x) (a / 256 % 4) n b) (number_pushed names (name_text x) number number_in_names)
      ∙ (sym (numbered_on (names ++ name_text x ∷ []) (is_held (drawn seed k) x) (a / 256 % 4) x b)
      ∙ (ap (λ (l : List (List ℕ)). numbered l command) (sym names_are)
      ∙ ap (numbered (names_drawn seed (suc k))) (sym command_is)))))

---- Many commands

-- the names of more commands begin with those of fewer
names_grow : (seed k j n : ℕ) → n ≡ k + j → (more : List (List ℕ)) × (names_drawn seed n ≡ names_drawn seed k ++ more)
names_grow seed k zero n e = ([], ap (names_drawn seed) (e ∙ add-zero k) ∙ sym (append-nil (names_drawn seed k)))
names_grow seed k (suc j) zero e = absurd (omega arith)
names_grow seed k (suc j) (suc n) e =
    let fewer = names_grow seed k j n (omega arith) in
    let last : List (List ℕ) = name_text (name_of (name_draw seed n)) ∷ [] in
    (fewer.0 ++ last, ap (λ (l : List (List ℕ)). l ++ last) fewer.1 ∙ append_assoc (names_drawn seed k) fewer.0 last)

-- so a command keeps its number
number_stays : (seed k n : ℕ) → suc k ≤ n → numbered (names_drawn seed (suc k)) (drawn_behind (drawn seed k) (name_draw seed k) (value_draw seed k))
    ≡ numbered (names_drawn seed n) (drawn_behind (drawn seed k) (name_draw seed k) (value_draw seed k))
number_stays seed k n l =
    let name : ℕ = name_of (name_draw seed k) in
    let choice : ℕ = choice_of (name_draw seed k) in
    let held : Bool = is_held (drawn seed k) name in
    let grown = names_grow seed (suc k) (n - suc k) n (omega arith) in
    let same : number_of_name (names_drawn seed n) (name_text name) ≡ number_of_name (names_drawn seed (suc k)) (name_text name) =
    ap (λ (l : List (List ℕ)). number_of_name l (name_text name)) grown.1
    ∙ ap different (before_known (name_text name) (names_drawn seed (suc k)) grown.0 (among_own (names_drawn seed k) (name_text name))) in
    numbered_on (names_drawn seed (suc k)) held choice name (value_draw seed k)
    ∙ (ap (λ (i : ℕ). command_on held choice i (value_draw seed k)) (sym same)
    ∙ sym (numbered_on (names_drawn seed n) held choice name (value_draw seed k)))

-- the commands of a script with n commands, and the next one
pub one_more : (seed k n : ℕ) (items : List CommandLine) (c : Command) → suc k ≤ n → items ≡ command_lines (names_drawn seed n) (drawn seed k)
    → c ≡ numbered (names_drawn seed (suc k)) (drawn_behind (drawn seed k) (name_draw seed k) (value_draw seed k))
    → items ++ without_line c ∷ [] ≡ command_lines (names_drawn seed n) (drawn seed (suc k))
one_more seed k n items c l so_far next =
    let last : Command = drawn_behind (drawn seed k) (name_draw seed k) (value_draw seed k) in
    ap (λ (xs : List CommandLine). xs ++ without_line c ∷ []) so_far
    ∙ (ap (λ (x : Command). command_lines (names_drawn seed n) (drawn seed k) ++ without_line x ∷ []) (next ∙ number_stays seed k n l)
    ∙ sym (map-append (λ x. without_line (numbered (names_drawn seed n) x)) (drawn seed k) (last ∷ [])))
