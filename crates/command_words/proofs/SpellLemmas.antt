-- Words give one list of options.
use Rattle.std.proofs.Common.{◌≡◌, ℕ, true, false, List, [], ◌∷◌, ◌++◌, Option, Some, None, refl, sym, ap, ◌∙◌, subst, inl, inr, ◌⊎◌}
use Rattle.std.specs.List.{list_any, list_all}
use Rattle.std.specs.Str.{bytes_eq}
use Rattle.std.proofs.lemmas.Bool.{and_parts}
use Rattle.clap.specs.Lexer.{long_of}
use Rattle.command_words.specs.Options.{Given, IsSpelled, are_among, dashed, begins_dash}
use Rattle.command_words.proofs.WordLemmas.{is_name, known_is_name, joined_word, dashed_word}

abbrev Text : Type 0
Text = List ℕ

abbrev Words : Type 0
Words = List Text

-- the first option of words, and the words behind it
abbrev IsFirst : Given → Words → Words → Type 0
IsFirst g words rest = (words ≡ (dashed g.name ++ 61 ∷ g.value) ∷ rest) ⊎ ((words ≡ dashed g.name ∷ g.value ∷ rest) × (begins_dash g.value ≡ false))

abbrev head_long : Words → Option (Option (Text × Option Text))
head_long [] = None
head_long (w ∷ ws) = Some (long_of w)

some_same : {A : Type 0} (x y : A) → Some x ≡ Some y → x ≡ y
some_same x y h = let e : x ≡ y = cc in e

module _ (names : List Text) (named : list_all is_name names ≡ true) (words : Words) where
  joined_head : (g : Given) (rest : Words) → list_any (λ n. bytes_eq n g.name) names ≡ true → words ≡ (dashed g.name ++ 61 ∷ g.value) ∷ rest → head_long words ≡ Some (Some (g.name, Some g.value))
  joined_head g rest known e = ap head_long e ∙ ap (λ (o : Option (Text × Option Text)). Some o) (joined_word g.name g.value (known_is_name names g.name named known))

  dashed_head : (g : Given) (rest : Words) → list_any (λ n. bytes_eq n g.name) names ≡ true → words ≡ dashed g.name ∷ g.value ∷ rest → head_long words ≡ Some (Some (g.name, None))
  dashed_head g rest known e = ap head_long e ∙ ap (λ (o : Option (Text × Option Text)). Some o) (dashed_word g.name (known_is_name names g.name named known))

  -- words have one first option
  one_first : (g k : Given) (rest others : Words) → list_any (λ n. bytes_eq n g.name) names ≡ true → list_any (λ n. bytes_eq n k.name) names ≡ true
      → IsFirst g words rest → IsFirst k words others → (g ≡ k) × (rest ≡ others)
  one_first g k rest others kg kk (inl a) (inl b) =
      let same : (g.name, Some g.value) ≡ (k.name, Some k.value) = some_same _ _ (some_same _ _ (sym (joined_head g rest kg a) ∙ joined_head k others kk b)) in
      let tail : (dashed g.name ++ 61 ∷ g.value) ∷ rest ≡ (dashed k.name ++ 61 ∷ k.value) ∷ others = sym a ∙ b in
      let name : g.name ≡ k.name = ap (λ (q : Text × Option Text). q.0) same in
      let value : g.value ≡ k.value = some_same g.value k.value (ap (λ (q : Text × Option Text). q.1) same) in
      let behind : rest ≡ others = cc in
      (ap (λ (n : Text). record { name = n; value = g.value }) name ∙ ap (λ (v : Text). record { name = k.name; value = v }) value, behind)
  one_first g k rest others kg kk (inl a) (inr b) =
      let same : (g.name, Some g.value) ≡ (k.name, None) = some_same _ _ (some_same _ _ (sym (joined_head g rest kg a) ∙ dashed_head k others kk b.0)) in
      let apart : Some g.value ≡ None = ap (λ (q : Text × Option Text). q.1) same in
      absurd (let z : ⊥ = cc in z)
  one_first g k rest others kg kk (inr a) (inl b) =
      let same : (g.name, None) ≡ (k.name, Some k.value) = some_same _ _ (some_same _ _ (sym (dashed_head g rest kg a.0) ∙ joined_head k others kk b)) in
      let apart : None ≡ Some k.value = ap (λ (q : Text × Option Text). q.1) same in
      absurd (let z : ⊥ = cc in z)
  one_first g k rest others kg kk (inr a) (inr b) =
      let same : (g.name, None) ≡ (k.name, None) = some_same _ _ (some_same _ _ (sym (dashed_head g rest kg a.0) ∙ dashed_head k others kk b.0)) in
      let tail : dashed g.name ∷ g.value ∷ rest ≡ dashed k.name ∷ k.value ∷ others = sym a.0 ∙ b.0 in
      let name : g.name ≡ k.name = ap (λ (q : Text × Option Text). q.0) same in
      let value : g.value ≡ k.value = cc in
      let behind : rest ≡ others = cc in
      (ap (λ (n : Text). record { name = n; value = g.value }) name ∙ ap (λ (v : Text). record { name = k.name; value = v }) value, behind)

  no_first : (g : Given) (rest : Words) → words ≡ [] → IsFirst g words rest → ⊥
  no_first g rest e (inl a) = let z : ⊥ = cc in z
  no_first g rest e (inr a) = let f = a.0 in let z : ⊥ = cc in z

pub one_spelling : (names : List Text) → list_all is_name names ≡ true → (gs ks : List Given) (words : Words) → are_among names gs ≡ true → are_among names ks ≡ true
    → IsSpelled gs words → IsSpelled ks words → gs ≡ ks
one_spelling names named [] [] words a b s t = refl
one_spelling names named [] (k ∷ ks) words a b s t = absurd (no_first names named words k t.0 s t.1)
one_spelling names named (g ∷ gs) [] words a b s t = absurd (no_first names named words g s.0 t s.1)
one_spelling names named (g ∷ gs) (k ∷ ks) words a b s t =
    let pa = and_parts (list_any (λ n. bytes_eq n g.name) names) (are_among names gs) a in
    let pb = and_parts (list_any (λ n. bytes_eq n k.name) names) (are_among names ks) b in
    let first = one_first names named words g k s.0 t.0 pa.0 pb.0 s.1 t.1 in
    let rest = one_spelling names named gs ks s.0 pa.1 pb.1 s.2 (subst (λ (ws : Words). IsSpelled ks ws) (sym first.1) t.2) in
    ap (λ (x : Given). x ∷ gs) first.0 ∙ ap (λ (l : List Given). k ∷ l) rest
