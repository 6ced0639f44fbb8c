-- Names that first stand in their order have their own numbers.
use Rattle.std.proofs.Common.{◌≡◌, ℕ, ◌+◌, ◌<◌, ◌≤◌, Bool, true, false, ◌||◌, max, List, [], ◌∷◌, ◌++◌, map, refl, ap, sym, ◌∙◌, subst, arith, inl, inr, append_assoc, append-nil}
use Rattle.std.specs.Str.{bytes_eq}
use Rattle.std.proofs.lemmas.Bool.{false_from_ne_true, cases_lt}
use Rattle.std.proofs.lemmas.List.Folds.{list_any-append}
use Rattle.script_text.specs.Names.{is_among, different, number_of_name}
use Rattle.script_text.proofs.NameLemmas.{same_bytes, bytes_same, before_known, before_new, different_push}
use Rattle.script_laws.specs.Printable.{AreNames, AreInOrder}
use Rattle.script_laws.proofs.LineLemmas.{Below, AreOwn}

or_false : (b : Bool) → (b || false) ≡ b
or_false true = refl
or_false false = refl

or_true : (b : Bool) → (b || true) ≡ true
or_true true = refl
or_true false = refl

among_push : (names : List (List ℕ)) (x q : List ℕ) → is_among (names ++ x ∷ []) q ≡ (is_among names q || bytes_eq q x)
among_push names x q = list_any-append (bytes_eq q) names (x ∷ []) ∙ ap (λ b. is_among names q || b) (or_false (bytes_eq q x))

-- the numbers below one stand among these names with their own numbers, and the others not yet
record AreSeen (f : ℕ → List ℕ) (next count : ℕ) (seen : List (List ℕ)) : Type 0 where
  many : different seen ≡ next
  among : (k : ℕ) → k < next → is_among seen (f k) ≡ true
  own : (k : ℕ) → k < next → number_of_name seen (f k) ≡ k
  later : (k : ℕ) → next ≤ k → k < count → is_among seen (f k) ≡ false

none_seen : (f : ℕ → List ℕ) (count : ℕ) → AreSeen f 0 count []
none_seen f count = record { many = refl; among = λ k h. absurd (omega arith); own = λ k h. absurd (omega arith); later = λ k h i. refl }

other : (f : ℕ → List ℕ) (count : ℕ) → AreNames f count → (j k : ℕ) → j < count → k < count → (j ≡ k → ⊥) → bytes_eq (f j) (f k) ≡ false
other f count names j k a b ne = false_from_ne_true (bytes_eq (f j) (f k)) (λ e. ne (names.different j k a b (same_bytes (f j) (f k) e)))

seen_again : (f : ℕ → List ℕ) (next count : ℕ) (seen : List (List ℕ)) → AreNames f count → AreSeen f next count seen → next ≤ count → (k : ℕ) → k < next → AreSeen f next count (seen ++ f k ∷ [])
seen_again f next count seen names s le k b =
    let a = s.among k b in
    record {
      many = let d : different (seen ++ f k ∷ []) ≡ different seen + 0 = rw a at (different_push seen (f k)) in omega (arith, s.many);
      among = λ j h. let e = s.among j h in rw (among_push seen (f k) (f j), e) refl;
      own = λ j h. let e = s.among j h in ap different (before_known (f j) seen (f k ∷ []) e) ∙ s.own j h;
      later = λ j h i.
          let e = s.later j h i in
          let o : bytes_eq (f j) (f k) ≡ false = other f count names j k i (omega arith) (λ z. omega arith) in
          rw (among_push seen (f k) (f j), e, o) refl;
    }

seen_first : (f : ℕ → List ℕ) (next count : ℕ) (seen : List (List ℕ)) → AreNames f count → AreSeen f next count seen → next < count → AreSeen f (next + 1) count (seen ++ f next ∷ [])
seen_first f next count seen names s lt =
    let a : is_among seen (f next) ≡ false = s.later next (omega arith) lt in
    record {
      many = let d : different (seen ++ f next ∷ []) ≡ different seen + 1 = rw a at (different_push seen (f next)) in omega (arith, s.many);
      among = λ j h. elim (cases_lt j next) [
        | inl b ↦ let e = s.among j b in rw (among_push seen (f next) (f j), e) refl
        | inr b ↦
            let e : j ≡ next = omega arith in
            rw (e, among_push seen (f next) (f next), bytes_same (f next)) (or_true (is_among seen (f next)))
      ];
      own = λ j h. elim (cases_lt j next) [
        | inl b ↦ let e = s.among j b in ap different (before_known (f j) seen (f next ∷ []) e) ∙ s.own j b
        | inr b ↦
            let e : j ≡ next = omega arith in
            rw e (ap different (before_new (f next) seen [] a) ∙ s.many)
      ];
      later = λ j h i.
          let e : is_among seen (f j) ≡ false = s.later j (omega arith) i in
          let o : bytes_eq (f j) (f next) ≡ false = other f count names j next i lt (λ z. omega arith) in
          rw (among_push seen (f next) (f j), e, o) refl;
    }

rises : (next last : ℕ) (ks : List ℕ) → AreInOrder next last ks → next ≤ last
rises next last [] h = omega (arith, h)
rises next last (k ∷ ks) h = omega (arith, rises (max next (k + 1)) last ks h.1)

pub below_last : (next last : ℕ) (ks : List ℕ) → AreInOrder next last ks → Below last ks
below_last next last [] h = tt
below_last next last (k ∷ ks) h = (omega (arith, rises (max next (k + 1)) last ks h.1), below_last (max next (k + 1)) last ks h.1)

seen_all : (f : ℕ → List ℕ) (next count : ℕ) (ks : List ℕ) (seen : List (List ℕ)) → AreNames f count → AreSeen f next count seen → AreInOrder next count ks → AreSeen f count count (seen ++ map f ks)
seen_all f next count [] seen names s h =
    let P : List (List ℕ) → Type 0 = λ zs. AreSeen f count count zs in
    let Q : ℕ → Type 0 = λ n. AreSeen f n count seen in
    subst P (sym (append-nil seen)) (subst Q h s)
seen_all f next count (k ∷ ks) seen names s h =
    let P : List (List ℕ) → Type 0 = λ zs. AreSeen f count count zs in
    let up = rises (max next (k + 1)) count ks h.1 in
    subst P (append_assoc seen (f k ∷ []) (map f ks)) (seen_all f (max next (k + 1)) count ks (seen ++ f k ∷ []) names (more up) h.1)
  where
    more : max next (k + 1) ≤ count → AreSeen f (max next (k + 1)) count (seen ++ f k ∷ [])
    more up = elim (cases_lt k next) [
      | inl b ↦
          let e : next ≡ max next (k + 1) = omega arith in
          let Q : ℕ → Type 0 = λ n. AreSeen f n count (seen ++ f k ∷ []) in
          subst Q e (seen_again f next count seen names s (omega arith) k b)
      | inr b ↦
          let e : next ≡ k = omega (arith, h.0) in
          let g : next + 1 ≡ max next (k + 1) = omega (arith, h.0) in
          let Q : ℕ → Type 0 = λ n. AreSeen f n count (seen ++ f k ∷ []) in
          let R : ℕ → Type 0 = λ n. AreSeen f (next + 1) count (seen ++ f n ∷ []) in
          subst Q g (subst R e (seen_first f next count seen names s (omega arith)))
    ]

pub all_own : (f : ℕ → List ℕ) (count : ℕ) (ks : List ℕ) → AreNames f count → AreInOrder 0 count ks → AreOwn f count (map f ks) × (different (map f ks) ≡ count)
all_own f count ks names h = let s = seen_all f 0 count ks [] names (none_seen f count) h in (s.own, s.many)
