-- What a word with dashes says.
use Rattle.std.proofs.Common.{◌≡◌, ℕ, zero, suc, Bool, true, false, not, ◌&&◌, eqb, List, [], ◌∷◌, ◌++◌, length, Option, Some, None, refl, sym, ap, ◌∙◌, arith, inl, inr, ◌⊎◌}
use Rattle.std.specs.Prelude.{nat_lt}
use Rattle.std.specs.List.{list_any, list_all}
use Rattle.std.specs.Str.{bytes_eq}
use Rattle.std.proofs.lemmas.Bool.{cases_Bool, eqb-true, eq-eqb, and_parts}
use Rattle.script_text.proofs.NameLemmas.{same_bytes}
use Rattle.clap.specs.Lexer.{long_of, short_of, name_and_value}
use Rattle.clap.proofs.CutLemmas.{Lacks}
use Rattle.clap.proofs.LexerLemmas.{name_and_value-at, name_and_value-without}
use Rattle.command_words.proofs.OnceLemmas.{not_true}
use Rattle.command_words.specs.Options.{dashed, begins_dash, is_ready}

abbrev Text : Type 0
Text = List ℕ

abbrev pub equals : ℕ → Bool
equals x = eqb x 61

lacks_more : (x : ℕ) (xs : Text) → eqb x 61 ≡ false → Lacks 61 xs → Lacks 61 (x ∷ xs)
lacks_more x xs e h zero lt is = let f = eq-eqb x 61 is in let z : ⊥ = cc in z
lacks_more x xs e h (suc i) lt is = h i (omega arith) is

pub lacks_by_test : (xs : Text) → list_any equals xs ≡ false → Lacks 61 xs
lacks_by_test [] t = λ i lt. absurd (omega arith)
lacks_by_test (x ∷ xs) t = elim (cases_Bool (eqb x 61)) [
  | inl e ↦ let f = rw e at t in absurd (let z : ⊥ = cc in z)
  | inr e ↦ let f : list_any equals xs ≡ false = rw e at t in lacks_more x xs e (lacks_by_test xs f)
]

-- a text up to a first `=`, and behind it
cut : (text : Text) → Lacks 61 text ⊎ ((xs : Text) × (ys : Text) × (text ≡ xs ++ 61 ∷ ys) × Lacks 61 xs)
cut [] = inl (λ i lt. absurd (omega arith))
cut (x ∷ xs) = elim (cases_Bool (eqb x 61)) [
  | inl e ↦ inr ([], xs, ap (λ (y : ℕ). y ∷ xs) (eqb-true x 61 e), λ i lt. absurd (omega arith))
  | inr e ↦ elim (cut xs) [
    | inl h ↦ inl (lacks_more x xs e h)
    | inr c ↦ inr (x ∷ c.0, c.1, ap (λ (l : Text). x ∷ l) c.2, lacks_more x c.0 e c.3)
  ]
]

-- a name with what stands behind it
abbrev pub behind : Text → Option Text → Text
behind name None = name
behind name (Some v) = name ++ 61 ∷ v

joined_back : (text name : Text) (v : Option Text) → name_and_value text ≡ (name, v) → text ≡ behind name v
joined_back text name v h = elim (cut text) [
  | inl l ↦
      let p : (text, None) ≡ (name, v) = sym (name_and_value-without text l) ∙ h in
      ap (λ (q : Text × Option Text). behind q.0 q.1) p
  | inr c ↦
      let p : (c.0, Some c.1) ≡ (name, v) = sym (ap name_and_value c.2 ∙ name_and_value-at c.0 c.1 c.3) ∙ h in
      c.2 ∙ ap (λ (q : Text × Option Text). behind q.0 q.1) p
]

some_same : {A : Type 0} (x y : A) → Some x ≡ Some y → x ≡ y
some_same x y h = let e : x ≡ y = cc in e

-- a word that is read as an option is that option
pub long_back : (word name : Text) (v : Option Text) → long_of word ≡ Some (name, v) → word ≡ 45 ∷ 45 ∷ behind name v
long_back [] name v h = absurd (let z : ⊥ = cc in z)
long_back (x ∷ []) name v h = elim (cases_Bool (eqb x 45)) [
  | inl e ↦ let k = rw e at h in absurd (let z : ⊥ = cc in z)
  | inr e ↦ let k = rw e at h in absurd (let z : ⊥ = cc in z)
]
long_back (x ∷ y ∷ []) name v h = elim (cases_Bool (eqb x 45)) [
  | inl e ↦ elim (cases_Bool (eqb y 45)) [
    | inl f ↦ let k = rw (e, f) at h in absurd (let z : ⊥ = cc in z)
    | inr f ↦ let k = rw (e, f) at h in absurd (let z : ⊥ = cc in z)
  ]
  | inr e ↦ let k = rw e at h in absurd (let z : ⊥ = cc in z)
]
long_back (x ∷ y ∷ c ∷ cs) name v h = elim (cases_Bool (eqb x 45)) [
  | inl e ↦ elim (cases_Bool (eqb y 45)) [
    | inl f ↦
        let k : Some (name_and_value (c ∷ cs)) ≡ Some (name, v) = rw (e, f) at h in
        let t = joined_back (c ∷ cs) name v (some_same (name_and_value (c ∷ cs)) (name, v) k) in
        let a = eqb-true x 45 e in
        let b = eqb-true y 45 f in
        cc
    | inr f ↦ let k = rw (e, f) at h in absurd (let z : ⊥ = cc in z)
  ]
  | inr e ↦ let k = rw e at h in absurd (let z : ⊥ = cc in z)
]

---- Names

-- the name of an option: some bytes, and no `=`
abbrev pub is_name : Text → Bool
is_name name = nat_lt 0 (length name) && not (list_any equals name)

pub known_is_name : (names : List Text) (name : Text) → list_all is_name names ≡ true → list_any (λ n. bytes_eq n name) names ≡ true → is_name name ≡ true
known_is_name [] name all known = absurd (let z : ⊥ = cc in z)
known_is_name (n ∷ ns) name all known =
    let parts = and_parts (is_name n) (list_all is_name ns) all in
    elim (cases_Bool (bytes_eq n name)) [
      | inl e ↦ ap is_name (sym (same_bytes n name e)) ∙ parts.0
      | inr e ↦ let k : list_any (λ n. bytes_eq n name) ns ≡ true = rw e at known in known_is_name ns name parts.1 k
    ]

-- an option is read back from its word
pub joined_word : (name v : Text) → is_name name ≡ true → long_of (dashed name ++ 61 ∷ v) ≡ Some (name, Some v)
joined_word [] v h = absurd (let z : ⊥ = cc in z)
joined_word (c ∷ cs) v h =
    let parts = and_parts (nat_lt 0 (length (c ∷ cs))) (not (list_any equals (c ∷ cs))) h in
    let lacks = lacks_by_test (c ∷ cs) (not_true (list_any equals (c ∷ cs)) parts.1) in
    ap (λ (q : Text × Option Text). Some q) (name_and_value-at (c ∷ cs) v lacks)

pub dashed_word : (name : Text) → is_name name ≡ true → long_of (dashed name) ≡ Some (name, None)
dashed_word [] h = absurd (let z : ⊥ = cc in z)
dashed_word (c ∷ cs) h =
    let parts = and_parts (nat_lt 0 (length (c ∷ cs))) (not (list_any equals (c ∷ cs))) h in
    let lacks = lacks_by_test (c ∷ cs) (not_true (list_any equals (c ∷ cs)) parts.1) in
    ap (λ (q : Text × Option Text). Some q) (name_and_value-without (c ∷ cs) lacks)

---- Words that clap is given

pub ready_no_end : (word : Text) → is_ready word ≡ true → bytes_eq word (45 ∷ 45 ∷ []) ≡ false
ready_no_end word h = elim (cases_Bool (bytes_eq word (45 ∷ 45 ∷ []))) [
  | inl e ↦ let k = ap is_ready (sym (same_bytes word (45 ∷ 45 ∷ []) e)) ∙ h in absurd (let z : ⊥ = cc in z)
  | inr e ↦ e
]

pub no_dash_no_long : (word : Text) → begins_dash word ≡ false → long_of word ≡ None
no_dash_no_long [] h = refl
no_dash_no_long (c ∷ cs) h = rw h refl

pub no_dash_no_short : (word : Text) → begins_dash word ≡ false → short_of word ≡ None
no_dash_no_short [] h = refl
no_dash_no_short (c ∷ cs) h = rw h refl

-- a word that is no option begins with no dash
pub ready_no_dash : (word : Text) → is_ready word ≡ true → long_of word ≡ None → begins_dash word ≡ false
ready_no_dash word h none =
    let k : not (begins_dash word) ≡ true = rw none at h in
    not_true (begins_dash word) k
