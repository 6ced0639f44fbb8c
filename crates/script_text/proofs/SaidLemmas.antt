-- What a line says, by its first five fields.
use Rattle.std.proofs.Common.{◌≡◌, ℕ, ◌+◌, ◌≤◌, Bool, true, false, ◌||◌, inl, inr, cond, eqb, List, [], ◌∷◌, ◌++◌, length, Option, Some, None, Result, Ok, Err, refl, ap, sym, ◌∙◌, arith}
use Rattle.std.specs.Prelude.{IfOk, is_some, codes, nat_lt}
use Rattle.std.specs.List.{list_all, slice_split}
use Rattle.std.proofs.lemmas.Bool.{ne_eqb, cases_Bool}
use Rattle.std.specs.Option.{option_or}
use Rattle.std.specs.Str.{bytes_eq}
use Rattle.script_text.specs.Lines.{has_bytes, field, fields_of, is_blank}
use Rattle.script_text.specs.Words.{arguments, block_word, word_of, is_name}
use Rattle.script_text.specs.Filled.{filled}
use Rattle.script_text.specs.Names.{is_among, different, number_of_name, number_on, takes_name, name_by, name_on}
use Rattle.script_text.specs.Reading.{said, said_with, said_by, said_on, is_skipped}
use Rattle.script_text.specs.declared.faults.Cause.{Cause}
use Rattle.script_text.specs.declared.commands.Line.{Line}
use Rattle.script_text.specs.declared.words.Word.{Word}
use Rattle.script_text.specs.declared.words.Word.TheVariants as words
use Rattle.script_text.proofs.FieldLemmas.{all_have_bytes}
use Rattle.script_text.proofs.NameLemmas.{before_known, bytes_same, same_bytes}

few : (w : Word) → arguments w ≤ 3
few words.Round = omega arith
few words.Thread = omega arith
few words.Lock = omega arith
few words.Unlock = omega arith
few words.Walk = omega arith
few words.Compact = omega arith
few words.Alloc = omega arith
few words.Zalloc = omega arith
few words.Realloc = omega arith
few words.Inplace = omega arith
few words.Free = omega arith
few words.Size = omega arith
few words.Get = omega arith
few words.Put = omega arith

too_many : (o : Option Word) (name count : ℕ) (a b c : List ℕ) → 5 ≤ count → said_by o name 5 a b c ≡ said_by o name count a b c
too_many None name count a b c h = refl
too_many (Some w) name count a b c h =
    let f = few w in
    let e : eqb 5 (arguments w + 1) ≡ false = ne_eqb _ _ (λ q. omega arith) in
    let g : eqb count (arguments w + 1) ≡ false = ne_eqb _ _ (λ q. omega arith) in
    rw (e, g) refl

pub said_same : (name : ℕ) (fs : List (List ℕ)) → list_all has_bytes fs ≡ true →
    said_with name (filled (field 0 fs) (field 1 fs) (field 2 fs) (field 3 fs) (field 4 fs)) (field 0 fs) (field 1 fs) (field 2 fs) (field 3 fs) ≡ said name fs
said_same name [] h = refl
said_same name ([] ∷ fs) h = absurd (let z : ⊥ = cc in z)
said_same name ((x ∷ xs) ∷ []) h = refl
said_same name ((x ∷ xs) ∷ [] ∷ fs) h = absurd (let z : ⊥ = cc in z)
said_same name ((x ∷ xs) ∷ (y ∷ ys) ∷ []) h = refl
said_same name ((x ∷ xs) ∷ (y ∷ ys) ∷ [] ∷ fs) h = absurd (let z : ⊥ = cc in z)
said_same name ((x ∷ xs) ∷ (y ∷ ys) ∷ (z ∷ zs) ∷ []) h = refl
said_same name ((x ∷ xs) ∷ (y ∷ ys) ∷ (z ∷ zs) ∷ [] ∷ fs) h = absurd (let z : ⊥ = cc in z)
said_same name ((x ∷ xs) ∷ (y ∷ ys) ∷ (z ∷ zs) ∷ (u ∷ us) ∷ []) h = refl
said_same name ((x ∷ xs) ∷ (y ∷ ys) ∷ (z ∷ zs) ∷ (u ∷ us) ∷ [] ∷ fs) h = absurd (let z : ⊥ = cc in z)
said_same name ((x ∷ xs) ∷ (y ∷ ys) ∷ (z ∷ zs) ∷ (u ∷ us) ∷ (v ∷ vs) ∷ fs) h =
    ap (λ r. cond (is_skipped (x ∷ xs)) (Ok None) r) (too_many (word_of (x ∷ xs)) name (length ((x ∷ xs) ∷ (y ∷ ys) ∷ (z ∷ zs) ∷ (u ∷ us) ∷ (v ∷ vs) ∷ fs)) (y ∷ ys) (z ∷ zs) (u ∷ us) (omega arith))

---- Words before a name

one_block : (b : Bool) (w : Word) (o : Option Word) → nat_lt 0 (arguments w) ≡ true → takes_name o ≡ is_some o → takes_name (cond b (Some w) o) ≡ is_some (cond b (Some w) o)
one_block true w o h k = h
one_block false w o h k = k

block_takes : (cs : List ℕ) → takes_name (block_word cs) ≡ is_some (block_word cs)
block_takes cs =
    let put : Option Word = cond (bytes_eq cs (codes "put")) (Some words.Put) None in
    let get : Option Word = cond (bytes_eq cs (codes "get")) (Some words.Get) put in
    let size : Option Word = cond (bytes_eq cs (codes "size")) (Some words.Size) get in
    let free : Option Word = cond (bytes_eq cs (codes "free")) (Some words.Free) size in
    let inplace : Option Word = cond (bytes_eq cs (codes "inplace")) (Some words.Inplace) free in
    let realloc : Option Word = cond (bytes_eq cs (codes "realloc")) (Some words.Realloc) inplace in
    let zalloc : Option Word = cond (bytes_eq cs (codes "zalloc")) (Some words.Zalloc) realloc in
    let alloc : Option Word = cond (bytes_eq cs (codes "alloc")) (Some words.Alloc) zalloc in
    one_block (bytes_eq cs (codes "alloc")) words.Alloc zalloc refl
    (one_block (bytes_eq cs (codes "zalloc")) words.Zalloc realloc refl
    (one_block (bytes_eq cs (codes "realloc")) words.Realloc inplace refl
    (one_block (bytes_eq cs (codes "inplace")) words.Inplace free refl
    (one_block (bytes_eq cs (codes "free")) words.Free size refl
    (one_block (bytes_eq cs (codes "size")) words.Size get refl
    (one_block (bytes_eq cs (codes "get")) words.Get put refl
    (one_block (bytes_eq cs (codes "put")) words.Put None refl
    (refl))))))))

one_bare : (cs word : List ℕ) (w : Word) (o : Option Word) → block_word word ≡ None → nat_lt 0 (arguments w) ≡ false →
    takes_name (option_or o (block_word cs)) ≡ is_some (block_word cs) → takes_name (option_or (cond (bytes_eq cs word) (Some w) o) (block_word cs)) ≡ is_some (block_word cs)
one_bare cs word w o none zero k = elim (cases_Bool (bytes_eq cs word)) [
  | inl h ↦
      let e = ap block_word (same_bytes cs word h) ∙ none in
      rw (h, e) zero
  | inr h ↦ rw h k
]

-- a word has a name or an address behind it exactly where it is one of the second kind
pub takes_block : (cs : List ℕ) → takes_name (word_of cs) ≡ is_some (block_word cs)
takes_block cs =
    let compact : Option Word = cond (bytes_eq cs (codes "compact")) (Some words.Compact) None in
    let walk : Option Word = cond (bytes_eq cs (codes "walk")) (Some words.Walk) compact in
    let unlock : Option Word = cond (bytes_eq cs (codes "unlock")) (Some words.Unlock) walk in
    let lock : Option Word = cond (bytes_eq cs (codes "lock")) (Some words.Lock) unlock in
    let thread : Option Word = cond (bytes_eq cs (codes "thread")) (Some words.Thread) lock in
    let round : Option Word = cond (bytes_eq cs (codes "round")) (Some words.Round) thread in
    one_bare cs (codes "round") words.Round thread refl refl
    (one_bare cs (codes "thread") words.Thread lock refl refl
    (one_bare cs (codes "lock") words.Lock unlock refl refl
    (one_bare cs (codes "unlock") words.Unlock walk refl refl
    (one_bare cs (codes "walk") words.Walk compact refl refl
    (one_bare cs (codes "compact") words.Compact None refl refl
    (block_takes cs))))))

pub name_there : (o : Option Word) (w f : List ℕ) → o ≡ word_of w → takes_name o ≡ true → is_name f ≡ true → name_by w f ≡ f ∷ []
name_there o w f e t n =
    let s : is_some (block_word w) ≡ true = sym (takes_block w) ∙ ap takes_name (sym e) ∙ t in
    rw (s, n) refl

pub other_word : (o : Option Word) (w f : List ℕ) → o ≡ word_of w → takes_name o ≡ false → name_by w f ≡ []
other_word o w f e t =
    let s : is_some (block_word w) ≡ false = sym (takes_block w) ∙ ap takes_name (sym e) ∙ t in
    rw s refl

pub no_name : (w f : List ℕ) → is_name f ≡ false → name_by w f ≡ []
no_name w f n = elim (cases_Bool (is_some (block_word w))) [
  | inl h ↦ rw (h, n) refl
  | inr h ↦ rw h refl
]

among_here : (names : List (List ℕ)) (x : List ℕ) → is_among (names ++ x ∷ []) x ≡ true
among_here [] x = rw (bytes_same x) refl
among_here (y ∷ ys) x = rw (among_here ys x) (or_true _)
  where
    or_true : (b : Bool) → (b || true) ≡ true
    or_true true = refl
    or_true false = refl

-- names that stand later change no number
pub number_stays : (before behind : List (List ℕ)) (x : List ℕ) → number_of_name (before ++ x ∷ [] ++ behind) x ≡ number_of_name (before ++ x ∷ []) x
number_stays before behind x = ap different (before_known x (before ++ x ∷ []) behind (among_here before x))

pub if_ok_more : {T E : Type 0} (r : Result T E) (P Q : T → Type 0) → ((x : T) → P x → Q x) → IfOk r P → IfOk r Q
if_ok_more (Ok x) P Q f h = f x h
if_ok_more (Err e) P Q f h = tt

pub say_is : (text w a b d e : List ℕ) (n : ℕ) (before behind : List (List ℕ)) (r : Result (Option Line) Cause) →
    w ≡ field 0 (fields_of text) → a ≡ field 1 (fields_of text) → b ≡ field 2 (fields_of text) → d ≡ field 3 (fields_of text) → e ≡ field 4 (fields_of text) →
    n ≡ number_on (before ++ name_by w a ++ behind) (name_by w a) → r ≡ said_with n (filled w a b d e) w a b d → said_on (before ++ name_on (fields_of text) ++ behind) text ≡ r
say_is text w a b d e n before behind r ew ea eb ed ee hn hr =
    let fs = fields_of text in
    let m : n ≡ number_on (before ++ name_on fs ++ behind) (name_on fs) = rw (ew, ea) at hn in
    let s : said_with n (filled w a b d e) w a b d ≡ said_with n (filled (field 0 fs) (field 1 fs) (field 2 fs) (field 3 fs) (field 4 fs)) (field 0 fs) (field 1 fs) (field 2 fs) (field 3 fs) = rw (ew, ea, eb, ed, ee) refl in
    sym (hr ∙ s ∙ said_same n fs (all_have_bytes (slice_split is_blank text)) ∙ ap (λ k. said k fs) m)
