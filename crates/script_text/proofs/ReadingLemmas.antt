-- One line of a text more.
use Rattle.std.proofs.Common.{◌≡◌, ℕ, zero, suc, ◌+◌, ◌<◌, Bool, true, false, eqb, List, [], ◌∷◌, ◌++◌, length, take, drop, Option, Result, Ok, Err, refl, ap, sym, ◌∙◌, subst, arith, inl, inr, one-add, add-one, append_assoc, append-nil}
use Rattle.std.specs.List.{before_first, after_first, position_or_len, onto_first}
use Rattle.std.proofs.lemmas.Bool.{cases_Bool, ne_eqb}
use Rattle.std.proofs.lemmas.List.{length-drop, take-append-drop}
use Rattle.script_text.specs.Lines.{lines_of, fields_of}
use Rattle.script_text.specs.Names.{name_on, names_in}
use Rattle.script_text.specs.Reading.{said_on, noted, ended, lines_from, IsRefusedAs, IsUnsaid}
use Rattle.script_text.specs.declared.commands.Line.{Line}
use Rattle.script_text.specs.declared.commands.NumberedLine.{NumberedLine}
use Rattle.script_text.specs.declared.faults.ScriptFault.{ScriptFault}
use Rattle.script_text.specs.declared.faults.ScriptNo.{ScriptNo}
use Rattle.script_text.specs.declared.faults.ScriptNo.TheVariants as refusals

abbrev is_end : ℕ → Bool
is_end c = eqb c 10

-- the first line, and the others
lines-cut : (c : ℕ) (cs : List ℕ) → lines_of (c ∷ cs) ≡ before_first is_end (c ∷ cs) ∷ lines_of (after_first is_end (c ∷ cs))
lines-cut c [] = elim (cases_Bool (eqb c 10)) [
  | inl h ↦ rw h refl
  | inr h ↦ rw h refl
]
lines-cut c (d ∷ ds) =
    let e = rw add-one at (lines-cut d ds) in
    elim (cases_Bool (eqb c 10)) [
      | inl h ↦ rw h refl
      | inr h ↦ rw (h, one-add, add-one) (ap (onto_first c) e)
    ]

pub cut_lines : (text : List ℕ) → 0 < length text → lines_of text ≡ before_first is_end text ∷ lines_of (after_first is_end text)
cut_lines [] l = absurd (omega arith)
cut_lines (c ∷ cs) l = lines-cut c cs

-- what is behind a line is shorter
pub shorter : (text : List ℕ) → 0 < length text → length (after_first is_end text) < length text
shorter text l = omega (arith, length-drop (position_or_len is_end text + 1) text)

pub not_empty : (b : Bool) (xs : List ℕ) → b ≡ eqb (length xs) 0 → b ≡ false → 0 < length xs
not_empty b [] e f = absurd (let z : ⊥ = cc in z)
not_empty b (x ∷ xs) e f = omega arith

pub empty : (b : Bool) (xs : List ℕ) → b ≡ eqb (length xs) 0 → b ≡ true → xs ≡ []
empty b [] e f = refl
empty b (x ∷ xs) e f =
    let n = ne_eqb (length (x ∷ xs)) 0 (λ q. omega arith) in
    absurd (let z : ⊥ = cc in z)

---- One more of the lines

pub take_step : {X : Type 0} (xs : List X) (n : ℕ) (y : X) (ys : List X) → drop n xs ≡ y ∷ ys → take (n + 1) xs ≡ take n xs ++ y ∷ []
take_step [] zero y ys e = absurd (let z : ⊥ = cc in z)
take_step [] (suc n) y ys e = absurd (let z : ⊥ = cc in z)
take_step (x ∷ xs) zero y ys e = let f : x ≡ y = cc in ap (λ z. z ∷ []) f
take_step (x ∷ xs) (suc n) y ys e = let f = rw add-one at (take_step xs n y ys e) in rw add-one (ap (λ zs. x ∷ zs) f)

pub drop_step : {X : Type 0} (xs : List X) (n : ℕ) (y : X) (ys : List X) → drop n xs ≡ y ∷ ys → drop (n + 1) xs ≡ ys
drop_step [] zero y ys e = absurd (let z : ⊥ = cc in z)
drop_step [] (suc n) y ys e = absurd (let z : ⊥ = cc in z)
drop_step (x ∷ xs) zero y ys e = cc
drop_step (x ∷ xs) (suc n) y ys e = let f = rw add-one at (drop_step xs n y ys e) in rw add-one f

names_append : (xs ys : List (List ℕ)) → names_in (xs ++ ys) ≡ names_in xs ++ names_in ys
names_append [] ys = refl
names_append (x ∷ xs) ys = ap (λ zs. name_on (fields_of x) ++ zs) (names_append xs ys) ∙ sym (append_assoc (name_on (fields_of x)) (names_in xs) (names_in ys))

pub names_push : (lines : List (List ℕ)) (n : ℕ) (y : List ℕ) (ys : List (List ℕ)) → drop n lines ≡ y ∷ ys → names_in (take (n + 1) lines) ≡ names_in (take n lines) ++ name_on (fields_of y)
names_push lines n y ys e = ap names_in (take_step lines n y ys e) ∙ names_append (take n lines) (y ∷ []) ∙ ap (λ zs. names_in (take n lines) ++ zs) (append-nil (name_on (fields_of y)))

pub names_split : (lines : List (List ℕ)) (n : ℕ) (y : List ℕ) (ys : List (List ℕ)) → drop n lines ≡ y ∷ ys → names_in (take n lines) ++ name_on (fields_of y) ++ names_in ys ≡ names_in lines
names_split lines n y ys e =
    let a = take-append-drop n lines in
    append_assoc (names_in (take n lines)) (name_on (fields_of y)) (names_in ys) ∙ sym (names_append (take n lines) (y ∷ ys)) ∙ ap (λ zs. names_in (take n lines ++ zs)) (sym e) ∙ ap names_in a

---- Reading on

pub refused_along : {A : Type 0} (r s : Result A ScriptFault) (no : ScriptNo) → r ≡ s → IsRefusedAs r no → IsRefusedAs s no
refused_along r s (refusals.Fault f) e h = sym e ∙ h
refused_along r s refusals.OutOfMemory e h = tt

pub line_taken : (names : List (List ℕ)) (before more : List NumberedLine) (n : ℕ) (rest front behind : List ℕ) (line : Option Line) → 0 < length rest →
    front ≡ before_first is_end rest → behind ≡ after_first is_end rest → said_on names front ≡ Ok line → noted before (n + 1) (Ok line) ≡ Ok more →
    lines_from names more (n + 1 + 1) (lines_of behind) ≡ lines_from names before (n + 1) (lines_of rest)
line_taken names before more n rest front behind line l f b s t =
    let m : said_on names (before_first is_end rest) ≡ Ok line = rw (← f) s in
    rw (cut_lines rest l, m, t, b) refl

pub line_unsaid : (names : List (List ℕ)) (before : List NumberedLine) (n : ℕ) (rest front : List ℕ) (no : ScriptNo) → 0 < length rest →
    front ≡ before_first is_end rest → IsUnsaid (n + 1) (said_on names front) no → IsRefusedAs (lines_from names before (n + 1) (lines_of rest)) no
line_unsaid names before n rest front refusals.OutOfMemory l f h = tt
line_unsaid names before n rest front (refusals.Fault fault) l f h =
    let m : said_on names (before_first is_end rest) ≡ Err fault.cause = rw (← f) h.1 in
    rw (cut_lines rest l, m) (ap (λ k. Err (record { line = k; cause = fault.cause })) (sym h.0))

pub line_refused : (names : List (List ℕ)) (before : List NumberedLine) (n : ℕ) (rest front : List ℕ) (line : Option Line) (no : ScriptNo) → 0 < length rest →
    front ≡ before_first is_end rest → said_on names front ≡ Ok line → IsRefusedAs (noted before (n + 1) (Ok line)) no → IsRefusedAs (lines_from names before (n + 1) (lines_of rest)) no
line_refused names before n rest front line refusals.OutOfMemory l f s h = tt
line_refused names before n rest front line (refusals.Fault fault) l f s h =
    let m : said_on names (before_first is_end rest) ≡ Ok line = rw (← f) s in
    rw (cut_lines rest l, m, h) refl

pub end_reached : (names : List (List ℕ)) (before : List NumberedLine) (n : ℕ) (rest : List ℕ) → rest ≡ [] → lines_from names before n (lines_of rest) ≡ ended before n
end_reached names before n rest e = rw e refl

---- The line that is read

pub here : (lines : List (List ℕ)) (n : ℕ) (rest front behind : List ℕ) → 0 < length rest → front ≡ before_first is_end rest → behind ≡ after_first is_end rest →
    lines_of rest ≡ drop n lines → drop n lines ≡ front ∷ lines_of behind
here lines n rest front behind l f b e = sym e ∙ rw (f, b) (cut_lines rest l)

pub unsaid_here : (lines : List (List ℕ)) (before : List NumberedLine) (n : ℕ) (rest front behind : List ℕ) (refusal : ScriptNo) → 0 < length rest →
    front ≡ before_first is_end rest → behind ≡ after_first is_end rest → lines_of rest ≡ drop n lines →
    IsUnsaid (n + 1) (said_on (names_in (take n lines) ++ name_on (fields_of front) ++ names_in (lines_of behind)) front) refusal →
    IsRefusedAs (lines_from (names_in lines) before (n + 1) (lines_of rest)) refusal
unsaid_here lines before n rest front behind refusal l f b e h =
    let P : List (List ℕ) → Type 0 = λ names. IsUnsaid (n + 1) (said_on names front) refusal in
    line_unsaid (names_in lines) before n rest front refusal l f (subst P (names_split lines n front (lines_of behind) (here lines n rest front behind l f b e)) h)

pub said_here : (lines : List (List ℕ)) (n : ℕ) (rest front behind : List ℕ) (line : Option Line) → 0 < length rest →
    front ≡ before_first is_end rest → behind ≡ after_first is_end rest → lines_of rest ≡ drop n lines →
    said_on (names_in (take n lines) ++ name_on (fields_of front) ++ names_in (lines_of behind)) front ≡ Ok line → said_on (names_in lines) front ≡ Ok line
said_here lines n rest front behind line l f b e h =
    let P : List (List ℕ) → Type 0 = λ names. said_on names front ≡ Ok line in
    subst P (names_split lines n front (lines_of behind) (here lines n rest front behind l f b e)) h

pub all_taken : (lines : List (List ℕ)) (n : ℕ) (rest : List ℕ) → rest ≡ [] → lines_of rest ≡ drop n lines → take n lines ≡ lines
all_taken lines n rest z e =
    let f : drop n lines ≡ [] = sym e ∙ ap lines_of z in
    sym (append-nil (take n lines)) ∙ ap (λ zs. take n lines ++ zs) (sym f) ∙ take-append-drop n lines
