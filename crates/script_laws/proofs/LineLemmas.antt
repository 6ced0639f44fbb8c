-- A printed line is read as that line.
use Rattle.std.proofs.Common.{◌≡◌, ℕ, ◌<◌, true, false, ◌&&◌, cond, eqb, leb, List, [], ◌∷◌, length, map, Some, Ok, refl, ap, ◌∙◌, inl, inr}
use Rattle.std.specs.List.{AllByRecursion, list_all}
use Rattle.std.proofs.lemmas.Bool.{cases_Bool, and_parts, eqb-true}
use Rattle.script_text.specs.declared.commands.Target.{Target}
use Rattle.script_text.specs.declared.commands.Target.TheVariants as targets
use Rattle.script_text.specs.declared.commands.Command.TheVariants as commands
use Rattle.script_text.specs.declared.commands.Line.{Line}
use Rattle.script_text.specs.declared.commands.Line.TheVariants as lines
use Rattle.script_text.specs.Lines.{fields_of}
use Rattle.script_text.specs.Words.{is_name, begins_name, suits_name, target_field}
use Rattle.script_text.specs.Names.{name_on, number_on, number_of_name}
use Rattle.script_text.specs.Reading.{said, said_on}
use Rattle.script_laws.specs.Printer.{target_text, line_word, line_arguments, line_text}
use Rattle.script_laws.specs.Printable.{name_in, name_in_target, Fits, TargetFits}
use Rattle.script_laws.proofs.FieldLemmas.{IsField, IsOneLine, fields_are, one_line, decimal_is_field, decimal_is_read, address_is_field, name_is_field}

abbrev pub names_on : Line → List ℕ
names_on (lines.Runs command) = name_in command
names_on _ = []

abbrev pub LineFits : Line → Type 0
LineFits (lines.Runs command) = Fits command
LineFits _ = Unit {0}

abbrev pub Below : ℕ → List ℕ → Type 0
Below count ks = AllByRecursion (λ k. k < count) ks

abbrev pub AreValid : (ℕ → List ℕ) → ℕ → Type 0
AreValid f count = (k : ℕ) → k < count → is_name (f k) ≡ true

-- the names of a text have their own numbers in it
abbrev pub AreOwn : (ℕ → List ℕ) → ℕ → List (List ℕ) → Type 0
AreOwn f count all = (k : ℕ) → k < count → number_of_name all (f k) ≡ k

---- Fields

target_is_field : (f : ℕ → List ℕ) (count : ℕ) → AreValid f count → (t : Target) → Below count (name_in_target t) → TargetFits t → IsField (target_text f t)
target_is_field f count v (targets.Name k) b h = name_is_field (f k) (v k b.0)
target_is_field f count v (targets.Addr a) b h = address_is_field a h

word_is_field : (l : Line) → IsField (line_word l)
word_is_field lines.Round = (refl, refl)
word_is_field lines.Thread = (refl, refl)
word_is_field (lines.Runs commands.Lock) = (refl, refl)
word_is_field (lines.Runs commands.Unlock) = (refl, refl)
word_is_field (lines.Runs commands.Walk) = (refl, refl)
word_is_field (lines.Runs commands.Compact) = (refl, refl)
word_is_field (lines.Runs (commands.Alloc k n false)) = (refl, refl)
word_is_field (lines.Runs (commands.Alloc k n true)) = (refl, refl)
word_is_field (lines.Runs (commands.Realloc t n false)) = (refl, refl)
word_is_field (lines.Runs (commands.Realloc t n true)) = (refl, refl)
word_is_field (lines.Runs (commands.Free t)) = (refl, refl)
word_is_field (lines.Runs (commands.Size t)) = (refl, refl)
word_is_field (lines.Runs (commands.Get t i)) = (refl, refl)
word_is_field (lines.Runs (commands.Put t i x)) = (refl, refl)

arguments_are_fields : (f : ℕ → List ℕ) (count : ℕ) → AreValid f count → (l : Line) → Below count (names_on l) → LineFits l → AllByRecursion IsField (line_arguments f l)
arguments_are_fields f count v lines.Round b h = tt
arguments_are_fields f count v lines.Thread b h = tt
arguments_are_fields f count v (lines.Runs commands.Lock) b h = tt
arguments_are_fields f count v (lines.Runs commands.Unlock) b h = tt
arguments_are_fields f count v (lines.Runs commands.Walk) b h = tt
arguments_are_fields f count v (lines.Runs commands.Compact) b h = tt
arguments_are_fields f count v (lines.Runs (commands.Alloc k n z)) b h = (name_is_field (f k) (v k b.0), (decimal_is_field n h, tt))
arguments_are_fields f count v (lines.Runs (commands.Realloc t n p)) b h = (target_is_field f count v t b h.0, (decimal_is_field n h.1, tt))
arguments_are_fields f count v (lines.Runs (commands.Free t)) b h = (target_is_field f count v t b h, tt)
arguments_are_fields f count v (lines.Runs (commands.Size t)) b h = (target_is_field f count v t b h, tt)
arguments_are_fields f count v (lines.Runs (commands.Get t i)) b h = (target_is_field f count v t b h.0, (decimal_is_field i h.1, tt))
arguments_are_fields f count v (lines.Runs (commands.Put t i x)) b h = (target_is_field f count v t b h.0, (decimal_is_field i h.1, (decimal_is_field x h.2, tt)))

pub line_fields : (f : ℕ → List ℕ) (count : ℕ) → AreValid f count → (l : Line) → Below count (names_on l) → LineFits l → fields_of (line_text f l) ≡ line_word l ∷ line_arguments f l
line_fields f count v l b h = fields_are (line_word l) (line_arguments f l) (word_is_field l) (arguments_are_fields f count v l b h)

pub line_is_one : (f : ℕ → List ℕ) (count : ℕ) → AreValid f count → (l : Line) → Below count (names_on l) → LineFits l → IsOneLine (line_text f l)
line_is_one f count v l b h = one_line (line_word l) (line_arguments f l) (word_is_field l) (arguments_are_fields f count v l b h)

---- Names

target_name : (f : ℕ → List ℕ) (count : ℕ) → AreValid f count → (t : Target) → Below count (name_in_target t) → cond (is_name (target_text f t)) (target_text f t ∷ []) [] ≡ map f (name_in_target t)
target_name f count v (targets.Name k) b = let e = v k b.0 in rw e refl
target_name f count v (targets.Addr a) b = refl

pub line_name : (f : ℕ → List ℕ) (count : ℕ) → AreValid f count → (l : Line) → Below count (names_on l) → name_on (line_word l ∷ line_arguments f l) ≡ map f (names_on l)
line_name f count v lines.Round b = refl
line_name f count v lines.Thread b = refl
line_name f count v (lines.Runs commands.Lock) b = refl
line_name f count v (lines.Runs commands.Unlock) b = refl
line_name f count v (lines.Runs commands.Walk) b = refl
line_name f count v (lines.Runs commands.Compact) b = refl
line_name f count v (lines.Runs (commands.Alloc k n false)) b = let e = v k b.0 in rw e refl
line_name f count v (lines.Runs (commands.Alloc k n true)) b = let e = v k b.0 in rw e refl
line_name f count v (lines.Runs (commands.Realloc t n false)) b = target_name f count v t b
line_name f count v (lines.Runs (commands.Realloc t n true)) b = target_name f count v t b
line_name f count v (lines.Runs (commands.Free t)) b = target_name f count v t b
line_name f count v (lines.Runs (commands.Size t)) b = target_name f count v t b
line_name f count v (lines.Runs (commands.Get t i)) b = target_name f count v t b
line_name f count v (lines.Runs (commands.Put t i x)) b = target_name f count v t b

---- What is said

begins_no_at : (c : ℕ) (cs : List ℕ) → begins_name (c ∷ cs) ≡ true → eqb c 64 ≡ false
begins_no_at c cs h = elim (cases_Bool (eqb c 64)) [
  | inr a ↦ a
  | inl a ↦
      let e = eqb-true c 64 a in
      let g = rw e at h in
      absurd (let z : ⊥ = cc in z)
]

target_named : (name : ℕ) (cs : List ℕ) → is_name cs ≡ true → target_field name cs ≡ Ok (targets.Name name)
target_named name [] h = absurd (let z : ⊥ = cc in z)
target_named name (c ∷ cs) h =
    let k = and_parts (begins_name (c ∷ cs) && leb (length (c ∷ cs)) 32) (list_all suits_name (c ∷ cs)) h in
    let m = and_parts (begins_name (c ∷ cs)) (leb (length (c ∷ cs)) 32) k.0 in
    let a = begins_no_at c cs m.0 in
    rw (a, h) refl

target_number : (f : ℕ → List ℕ) (count : ℕ) (all : List (List ℕ)) → AreValid f count → AreOwn f count all → (t : Target) → Below count (name_in_target t) → TargetFits t →
    target_field (number_on all (map f (name_in_target t))) (target_text f t) ≡ Ok t
target_number f count all v o (targets.Name k) b h = target_named (number_of_name all (f k)) (f k) (v k b.0) ∙ ap (λ i. Ok (targets.Name i)) (o k b.0)
target_number f count all v o (targets.Addr a) b h = let e = decimal_is_read a h in rw e refl

says : (f : ℕ → List ℕ) (count : ℕ) (all : List (List ℕ)) → AreValid f count → AreOwn f count all → (l : Line) → Below count (names_on l) → LineFits l →
    said (number_on all (map f (names_on l))) (line_word l ∷ line_arguments f l) ≡ Ok (Some l)
says f count all v o lines.Round b h = refl
says f count all v o lines.Thread b h = refl
says f count all v o (lines.Runs commands.Lock) b h = refl
says f count all v o (lines.Runs commands.Unlock) b h = refl
says f count all v o (lines.Runs commands.Walk) b h = refl
says f count all v o (lines.Runs commands.Compact) b h = refl
says f count all v o (lines.Runs (commands.Alloc k n false)) b h = let e = v k b.0 in let i = o k b.0 in let d = decimal_is_read n h in rw (e, i, d) refl
says f count all v o (lines.Runs (commands.Alloc k n true)) b h = let e = v k b.0 in let i = o k b.0 in let d = decimal_is_read n h in rw (e, i, d) refl
says f count all v o (lines.Runs (commands.Realloc t n false)) b h = let e = target_number f count all v o t b h.0 in let d = decimal_is_read n h.1 in rw (e, d) refl
says f count all v o (lines.Runs (commands.Realloc t n true)) b h = let e = target_number f count all v o t b h.0 in let d = decimal_is_read n h.1 in rw (e, d) refl
says f count all v o (lines.Runs (commands.Free t)) b h = let e = target_number f count all v o t b h in rw e refl
says f count all v o (lines.Runs (commands.Size t)) b h = let e = target_number f count all v o t b h in rw e refl
says f count all v o (lines.Runs (commands.Get t i)) b h = let e = target_number f count all v o t b h.0 in let d = decimal_is_read i h.1 in rw (e, d) refl
says f count all v o (lines.Runs (commands.Put t i x)) b h = let e = target_number f count all v o t b h.0 in let d = decimal_is_read i h.1 in let y = decimal_is_read x h.2 in rw (e, d, y) refl

-- a printed line says that line
pub line_is_said : (f : ℕ → List ℕ) (count : ℕ) (all : List (List ℕ)) → AreValid f count → AreOwn f count all → (l : Line) → Below count (names_on l) → LineFits l →
    said_on all (line_text f l) ≡ Ok (Some l)
line_is_said f count all v o l b h =
    ap (λ fs. said (number_on all (name_on fs)) fs) (line_fields f count v l b h)
    ∙ ap (λ ns. said (number_on all ns) (line_word l ∷ line_arguments f l)) (line_name f count v l b)
    ∙ says f count all v o l b h
