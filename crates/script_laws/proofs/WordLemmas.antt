-- What is read of a line: its name and its numbers.
use Rattle.std.proofs.Common.{◌≡◌, ℕ, ◌+◌, ◌^◌, ◌<◌, Bool, true, false, ◌&&◌, cond, eqb, leb, ltb, List, [], ◌∷◌, length, map, codes, Option, Some, None, Result, Ok, Err, refl, ap, sym, ◌∙◌, subst, inl, inr}
use Rattle.std.specs.List.{list_all}
use Rattle.std.specs.Option.{option_or}
use Rattle.std.specs.Str.{bytes_eq}
use Rattle.std.proofs.lemmas.Bool.{cases_Bool, and_parts, eqb-true, ltb-true}
use Rattle.script_text.specs.declared.faults.Cause.{Cause}
use Rattle.script_text.specs.declared.words.Word.{Word}
use Rattle.script_text.specs.declared.words.Word.TheVariants as words
use Rattle.script_text.specs.declared.commands.Target.{Target}
use Rattle.script_text.specs.declared.commands.Target.TheVariants as targets
use Rattle.script_text.specs.declared.commands.Command.TheVariants as commands
use Rattle.script_text.specs.declared.commands.Line.{Line}
use Rattle.script_text.specs.declared.commands.Line.TheVariants as lines
use Rattle.script_text.specs.Lines.{fields_of, field}
use Rattle.script_text.specs.Words.{and_then, arguments, is_digit, value_of, is_number, is_name, bare_word, block_word, word_of, target_field, number_field, name_field, address, named, line_of, runs}
use Rattle.script_text.specs.Names.{name_on, name_by, number_on, number_of_name}
use Rattle.script_text.specs.Reading.{is_skipped, some_line, said_by, said_with, said_on}
use Rattle.script_text.proofs.NameLemmas.{same_bytes}
use Rattle.script_laws.specs.Printable.{name_in_target, TargetFits}
use Rattle.script_laws.proofs.LineLemmas.{names_on, LineFits}

---- Words

abbrev text_of_word : Word → List ℕ
text_of_word words.Round = codes "round"
text_of_word words.Thread = codes "thread"
text_of_word words.Lock = codes "lock"
text_of_word words.Unlock = codes "unlock"
text_of_word words.Walk = codes "walk"
text_of_word words.Compact = codes "compact"
text_of_word words.Alloc = codes "alloc"
text_of_word words.Zalloc = codes "zalloc"
text_of_word words.Realloc = codes "realloc"
text_of_word words.Inplace = codes "inplace"
text_of_word words.Free = codes "free"
text_of_word words.Size = codes "size"
text_of_word words.Get = codes "get"
text_of_word words.Put = codes "put"

one_word : (cs : List ℕ) (v w : Word) (rest : Option Word) → cond (bytes_eq cs (text_of_word v)) (Some v) rest ≡ Some w → (rest ≡ Some w → cs ≡ text_of_word w) → cs ≡ text_of_word w
one_word cs v w rest h next = elim (cases_Bool (bytes_eq cs (text_of_word v))) [
  | inl a ↦
      let g : Some v ≡ Some w = rw a at h in
      let e : v ≡ w = cc in
      same_bytes cs (text_of_word v) a ∙ ap text_of_word e
  | inr a ↦ next (rw a at h)
]

no_word : (cs : List ℕ) (w : Word) → None ≡ Some w → cs ≡ text_of_word w
no_word cs w h = absurd (let z : ⊥ = cc in z)

bare_is : (cs : List ℕ) (w : Word) → bare_word cs ≡ Some w → cs ≡ text_of_word w
bare_is cs w h = one_word cs words.Round w _ h λ h. one_word cs words.Thread w _ h λ h. one_word cs words.Lock w _ h λ h. one_word cs words.Unlock w _ h λ h. one_word cs words.Walk w _ h λ h. one_word cs words.Compact w _ h λ h. no_word cs w h

block_is : (cs : List ℕ) (w : Word) → block_word cs ≡ Some w → cs ≡ text_of_word w
block_is cs w h = one_word cs words.Alloc w _ h λ h. one_word cs words.Zalloc w _ h λ h. one_word cs words.Realloc w _ h λ h. one_word cs words.Inplace w _ h λ h. one_word cs words.Free w _ h λ h. one_word cs words.Size w _ h λ h. one_word cs words.Get w _ h λ h. one_word cs words.Put w _ h λ h. no_word cs w h

either_is : (cs : List ℕ) (w : Word) (a b : Option Word) → option_or a b ≡ Some w → (a ≡ Some w → cs ≡ text_of_word w) → (b ≡ Some w → cs ≡ text_of_word w) → cs ≡ text_of_word w
either_is cs w None b h f g = g h
either_is cs w (Some v) b h f g = f h

word_is : (cs : List ℕ) (w : Word) → word_of cs ≡ Some w → cs ≡ text_of_word w
word_is cs w h = either_is cs w (bare_word cs) (block_word cs) h (bare_is cs w) (block_is cs w)

---- Fields

number_is : (cs : List ℕ) (n : ℕ) → number_field cs ≡ Ok n → n < 2 ^ 64
number_is cs n h = elim (cases_Bool (is_number cs)) [
  | inl a ↦
      let k = and_parts (leb 1 (length cs) && leb (length cs) 20 && list_all is_digit cs) (ltb (value_of cs) (2 ^ 64)) a in
      let b = ltb-true (value_of cs) (2 ^ 64) k.1 in
      let v : Result ℕ Cause = Ok (value_of cs) in
      let g : v ≡ Ok n = rw a at h in
      let e : value_of cs ≡ n = cc in
      subst (λ m. m < 2 ^ 64) e b
  | inr a ↦ let g = rw a at h in absurd (let z : ⊥ = cc in z)
]

name_is : (name : ℕ) (cs : List ℕ) (x : ℕ) → name_field name cs ≡ Ok x → (is_name cs ≡ true) × (x ≡ name)
name_is name cs x h = elim (cases_Bool (is_name cs)) [
  | inl a ↦ let v : Result ℕ Cause = Ok name in let g : v ≡ Ok x = rw a at h in let e : name ≡ x = cc in (a, sym e)
  | inr a ↦ let g = rw a at h in absurd (let z : ⊥ = cc in z)
]

then_is : {A B : Type 0} (r : Result A Cause) (f : A → Result B Cause) (y : B) → and_then r f ≡ Ok y → (x : A) × (r ≡ Ok x) × (f x ≡ Ok y)
then_is (Ok x) f y h = (x, refl, h)
then_is (Err e) f y h = absurd (let z : ⊥ = cc in z)

-- the names of a text, by their numbers
abbrev pub numbers_of : List (List ℕ) → List (List ℕ) → List ℕ
numbers_of all xs = map (number_of_name all) xs

abbrev name_of_field : List ℕ → List (List ℕ)
name_of_field cs = cond (is_name cs) (cs ∷ []) []

target_is : (all : List (List ℕ)) (cs : List ℕ) (t : Target) → target_field (number_on all (name_of_field cs)) cs ≡ Ok t → (name_in_target t ≡ numbers_of all (name_of_field cs)) × TargetFits t
target_is all [] t h = absurd (let z : ⊥ = cc in z)
target_is all (c ∷ cs) t h = elim (cases_Bool (eqb c 64)) [
  | inl a ↦
      let e : c ≡ 64 = eqb-true c 64 a in
      let P : ℕ → Type 0 = λ d. target_field (number_on all (name_of_field (d ∷ cs))) (d ∷ cs) ≡ Ok t in
      let Q : ℕ → Type 0 = λ d. (name_in_target t ≡ numbers_of all (name_of_field (d ∷ cs))) × TargetFits t in
      subst Q (sym e) (at_address (subst P e h))
  | inr a ↦ at_name (rw a at h)
]
  where
    at_address : and_then (number_field cs) address ≡ Ok t → (name_in_target t ≡ []) × TargetFits t
    at_address h =
        let r = then_is (number_field cs) address t h in
        let e : targets.Addr r.0 ≡ t = let g = r.2 in cc in
        let R : Target → Type 0 = λ u. (name_in_target u ≡ []) × TargetFits u in
        subst R e (refl, number_is cs r.0 r.1)

    at_name : and_then (name_field (number_on all (name_of_field (c ∷ cs))) (c ∷ cs)) named ≡ Ok t → (name_in_target t ≡ numbers_of all (name_of_field (c ∷ cs))) × TargetFits t
    at_name h =
        let r = then_is (name_field (number_on all (name_of_field (c ∷ cs))) (c ∷ cs)) named t h in
        let k = name_is (number_on all (name_of_field (c ∷ cs))) (c ∷ cs) r.0 r.1 in
        let e : targets.Name r.0 ≡ t = let g = r.2 in cc in
        let R : Target → Type 0 = λ u. (name_in_target u ≡ numbers_of all (name_of_field (c ∷ cs))) × TargetFits u in
        let S : Bool → Type 0 = λ b. number_on all (cond b ((c ∷ cs) ∷ []) []) ∷ [] ≡ numbers_of all (cond b ((c ∷ cs) ∷ []) []) in
        let s : S true = refl in
        let m : number_on all (name_of_field (c ∷ cs)) ∷ [] ≡ numbers_of all (name_of_field (c ∷ cs)) = subst S (sym k.0) s in
        subst R e (ap (λ x. x ∷ []) k.1 ∙ m, tt)

---- Lines

-- a line that is read has the name on it, and its numbers have 64 bits
abbrev pub Reads : List (List ℕ) → List (List ℕ) → Line → Type 0
Reads all names l = (names_on l ≡ numbers_of all names) × LineFits l

abbrev pub ReadsAny : List (List ℕ) → List (List ℕ) → Option Line → Type 0
ReadsAny all names None = names ≡ []
ReadsAny all names (Some l) = Reads all names l

one_name : (all : List (List ℕ)) (cs : List ℕ) → is_name cs ≡ true → number_on all (name_of_field cs) ∷ [] ≡ numbers_of all (name_of_field cs)
one_name all cs h =
    let S : Bool → Type 0 = λ b. number_on all (cond b (cs ∷ []) []) ∷ [] ≡ numbers_of all (cond b (cs ∷ []) []) in
    let s : S true = refl in
    subst S (sym h) s

alloc_is : (all : List (List ℕ)) (a b : List ℕ) (zero : Bool) (l : Line) → and_then (name_field (number_on all (name_of_field a)) a) (λ x. and_then (number_field b) (λ n. runs (commands.Alloc x n zero))) ≡ Ok l → Reads all (name_of_field a) l
alloc_is all a b zero l h =
    let r = then_is (name_field (number_on all (name_of_field a)) a) (λ x. and_then (number_field b) (λ n. runs (commands.Alloc x n zero))) l h in
    let k = name_is (number_on all (name_of_field a)) a r.0 r.1 in
    let q = then_is (number_field b) (λ n. runs (commands.Alloc r.0 n zero)) l r.2 in
    let e : lines.Runs (commands.Alloc r.0 q.0 zero) ≡ l = let g = q.2 in cc in
    let R : Line → Type 0 = λ u. Reads all (name_of_field a) u in
    subst R e (ap (λ x. x ∷ []) k.1 ∙ one_name all a k.0, number_is b q.0 q.1)

realloc_is : (all : List (List ℕ)) (a b : List ℕ) (in_place : Bool) (l : Line) → and_then (target_field (number_on all (name_of_field a)) a) (λ t. and_then (number_field b) (λ n. runs (commands.Realloc t n in_place))) ≡ Ok l → Reads all (name_of_field a) l
realloc_is all a b in_place l h =
    let r = then_is (target_field (number_on all (name_of_field a)) a) (λ t. and_then (number_field b) (λ n. runs (commands.Realloc t n in_place))) l h in
    let k = target_is all a r.0 r.1 in
    let q = then_is (number_field b) (λ n. runs (commands.Realloc r.0 n in_place)) l r.2 in
    let e : lines.Runs (commands.Realloc r.0 q.0 in_place) ≡ l = let g = q.2 in cc in
    let R : Line → Type 0 = λ u. Reads all (name_of_field a) u in
    subst R e (k.0, (k.1, number_is b q.0 q.1))

get_is : (all : List (List ℕ)) (a b : List ℕ) (l : Line) → and_then (target_field (number_on all (name_of_field a)) a) (λ t. and_then (number_field b) (λ i. runs (commands.Get t i))) ≡ Ok l → Reads all (name_of_field a) l
get_is all a b l h =
    let r = then_is (target_field (number_on all (name_of_field a)) a) (λ t. and_then (number_field b) (λ i. runs (commands.Get t i))) l h in
    let k = target_is all a r.0 r.1 in
    let q = then_is (number_field b) (λ i. runs (commands.Get r.0 i)) l r.2 in
    let e : lines.Runs (commands.Get r.0 q.0) ≡ l = let g = q.2 in cc in
    let R : Line → Type 0 = λ u. Reads all (name_of_field a) u in
    subst R e (k.0, (k.1, number_is b q.0 q.1))

put_is : (all : List (List ℕ)) (a b c : List ℕ) (l : Line) →
    and_then (target_field (number_on all (name_of_field a)) a) (λ t. and_then (number_field b) (λ i. and_then (number_field c) (λ v. runs (commands.Put t i v)))) ≡ Ok l → Reads all (name_of_field a) l
put_is all a b c l h =
    let r = then_is (target_field (number_on all (name_of_field a)) a) (λ t. and_then (number_field b) (λ i. and_then (number_field c) (λ v. runs (commands.Put t i v)))) l h in
    let k = target_is all a r.0 r.1 in
    let q = then_is (number_field b) (λ i. and_then (number_field c) (λ v. runs (commands.Put r.0 i v))) l r.2 in
    let s = then_is (number_field c) (λ v. runs (commands.Put r.0 q.0 v)) l q.2 in
    let e : lines.Runs (commands.Put r.0 q.0 s.0) ≡ l = let g = s.2 in cc in
    let R : Line → Type 0 = λ u. Reads all (name_of_field a) u in
    subst R e (k.0, (k.1, number_is b q.0 q.1, number_is c s.0 s.1))

free_is : (all : List (List ℕ)) (a : List ℕ) (l : Line) → and_then (target_field (number_on all (name_of_field a)) a) (λ t. runs (commands.Free t)) ≡ Ok l → Reads all (name_of_field a) l
free_is all a l h =
    let r = then_is (target_field (number_on all (name_of_field a)) a) (λ t. runs (commands.Free t)) l h in
    let e : lines.Runs (commands.Free r.0) ≡ l = let g = r.2 in cc in
    let R : Line → Type 0 = λ u. Reads all (name_of_field a) u in
    subst R e (target_is all a r.0 r.1)

size_is : (all : List (List ℕ)) (a : List ℕ) (l : Line) → and_then (target_field (number_on all (name_of_field a)) a) (λ t. runs (commands.Size t)) ≡ Ok l → Reads all (name_of_field a) l
size_is all a l h =
    let r = then_is (target_field (number_on all (name_of_field a)) a) (λ t. runs (commands.Size t)) l h in
    let e : lines.Runs (commands.Size r.0) ≡ l = let g = r.2 in cc in
    let R : Line → Type 0 = λ u. Reads all (name_of_field a) u in
    subst R e (target_is all a r.0 r.1)

abbrev good : Line → Result Line Cause
good l = Ok l

bare_line : (all : List (List ℕ)) (m l : Line) → names_on m ≡ [] → LineFits m → good m ≡ good l → Reads all [] l
bare_line all m l n f h =
    let e : m ≡ l = cc in
    let R : Line → Type 0 = λ u. Reads all [] u in
    subst R e (n, f)

line_is : (all : List (List ℕ)) (w : Word) (a b c : List ℕ) (l : Line) → line_of (number_on all (name_by (text_of_word w) a)) w a b c ≡ Ok l → Reads all (name_by (text_of_word w) a) l
line_is all words.Round a b c l h = bare_line all lines.Round l refl tt h
line_is all words.Thread a b c l h = bare_line all lines.Thread l refl tt h
line_is all words.Lock a b c l h = bare_line all (lines.Runs commands.Lock) l refl tt h
line_is all words.Unlock a b c l h = bare_line all (lines.Runs commands.Unlock) l refl tt h
line_is all words.Walk a b c l h = bare_line all (lines.Runs commands.Walk) l refl tt h
line_is all words.Compact a b c l h = bare_line all (lines.Runs commands.Compact) l refl tt h
line_is all words.Alloc a b c l h = alloc_is all a b false l h
line_is all words.Zalloc a b c l h = alloc_is all a b true l h
line_is all words.Realloc a b c l h = realloc_is all a b false l h
line_is all words.Inplace a b c l h = realloc_is all a b true l h
line_is all words.Free a b c l h = free_is all a l h
line_is all words.Size a b c l h = size_is all a l h
line_is all words.Get a b c l h = get_is all a b l h
line_is all words.Put a b c l h = put_is all a b c l h

skipped_has_none : (w a : List ℕ) → is_skipped w ≡ true → name_by w a ≡ []
skipped_has_none [] a h = refl
skipped_has_none (c ∷ cs) a h =
    let e : c ≡ 35 = eqb-true c 35 h in
    let P : ℕ → Type 0 = λ d. name_by (d ∷ cs) a ≡ [] in
    subst P (sym e) refl

word_read : (all : List (List ℕ)) (count : ℕ) (w a b c : List ℕ) (o : Option Line) (v : Option Word) → word_of w ≡ v → said_by v (number_on all (name_by w a)) count a b c ≡ Ok o → ReadsAny all (name_by w a) o
word_read all count w a b c o None e h = absurd (let z : ⊥ = cc in z)
word_read all count w a b c o (Some v) e h = elim (cases_Bool (eqb count (arguments v + 1))) [
  | inr x ↦ let g = rw x at h in absurd (let z : ⊥ = cc in z)
  | inl x ↦
      let g : and_then (line_of (number_on all (name_by w a)) v a b c) some_line ≡ Ok o = rw x at h in
      let r = then_is (line_of (number_on all (name_by w a)) v a b c) some_line o g in
      let f : Some r.0 ≡ o = let k = r.2 in cc in
      let i = word_is w v e in
      let P : List ℕ → Type 0 = λ u. line_of (number_on all (name_by u a)) v a b c ≡ Ok r.0 in
      let Q : List ℕ → Type 0 = λ u. Reads all (name_by u a) r.0 in
      let R : Option Line → Type 0 = λ u. ReadsAny all (name_by w a) u in
      subst R f (subst Q (sym i) (line_is all v a b c r.0 (subst P i r.1)))
]

read_with : (all : List (List ℕ)) (count : ℕ) (w a b c : List ℕ) (o : Option Line) → said_with (number_on all (name_by w a)) count w a b c ≡ Ok o → ReadsAny all (name_by w a) o
read_with all count w a b c o h = elim (cases_Bool (is_skipped w)) [
  | inl x ↦
      let n : Option Line = None in
      let y : Result (Option Line) Cause = Ok n in
      let g : y ≡ Ok o = rw x at h in
      let f : n ≡ o = cc in
      let R : Option Line → Type 0 = λ u. ReadsAny all (name_by w a) u in
      subst R f (skipped_has_none w a x)
  | inr x ↦ word_read all count w a b c o (word_of w) refl (rw x at h)
]

pub line_reads : (all : List (List ℕ)) (line : List ℕ) (o : Option Line) → said_on all line ≡ Ok o → ReadsAny all (name_on (fields_of line)) o
line_reads all line o h = read_with all (length (fields_of line)) (field 0 (fields_of line)) (field 1 (fields_of line)) (field 2 (fields_of line)) (field 3 (fields_of line)) o h
