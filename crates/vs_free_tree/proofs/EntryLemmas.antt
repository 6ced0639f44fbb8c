-- Lists of nodes whose gaps rise.
use Rattle.std.proofs.Common.{◌≡◌, ◌≢◌, ℕ, Bool, true, false, List, [], ◌∷◌, ◌++◌, arith, refl}
use Rattle.std.specs.List.{AllByRecursion}
use Rattle.std.proofs.lemmas.Bool.Decides.{nat_tests}
use Rattle.vs_free_tree.specs.Gaps.{is_before}
use Rattle.vs_free_tree.specs.Tree.{Entry, AreBefore, AreBehind, AreRising}

pub before_itself : (g : ℕ × ℕ) → is_before g g ≡ false
before_itself g = grind (arith, nat_tests)

pub before_both : (g h : ℕ × ℕ) → is_before g h ≡ true → is_before h g ≡ false
before_both g h e = grind (arith, nat_tests)

pub before_along : (f g h : ℕ × ℕ) → is_before f g ≡ true → is_before g h ≡ true → is_before f h ≡ true
before_along f g h d e = grind (arith, nat_tests)

-- gaps of which neither comes before the other are one
pub same_gap : (g h : ℕ × ℕ) → is_before g h ≡ false → is_before h g ≡ false → g ≡ h
same_gap g h d e = same_parts (grind (arith, nat_tests)) (grind (arith, nat_tests))
  where
    same_parts : g.0 ≡ h.0 → g.1 ≡ h.1 → g ≡ h
    same_parts p q i = (p i, q i)

pub behind_other : (g h : ℕ × ℕ) → is_before h g ≡ false → g ≢ h → is_before g h ≡ true
behind_other g h e other = by (is_before g h) refl
  where
    by : (b : Bool) → is_before g h ≡ b → is_before g h ≡ true
    by true f = f
    by false f = absurd (other (same_gap g h f e))

---- What holds of each

pub all_split : {X : Type 0} (P : X → Type 0) (xs ys : List X) → AllByRecursion P (xs ++ ys) → AllByRecursion P xs × AllByRecursion P ys
all_split P [] ys h = (tt, h)
all_split P (x ∷ xs) ys h = let both = all_split P xs ys h.1 in ((h.0, both.0), both.1)

pub all_join : {X : Type 0} (P : X → Type 0) (xs ys : List X) → AllByRecursion P xs → AllByRecursion P ys → AllByRecursion P (xs ++ ys)
all_join P [] ys h k = k
all_join P (x ∷ xs) ys h k = (h.0, all_join P xs ys h.1 k)

pub all_weaker : {X : Type 0} (P Q : X → Type 0) → ((x : X) → P x → Q x) → (xs : List X) → AllByRecursion P xs → AllByRecursion Q xs
all_weaker P Q f [] h = tt
all_weaker P Q f (x ∷ xs) h = (f x h.0, all_weaker P Q f xs h.1)

pub all_both : {X : Type 0} (P Q R : X → Type 0) → ((x : X) → P x → Q x → R x) → (xs : List X) → AllByRecursion P xs → AllByRecursion Q xs → AllByRecursion R xs
all_both P Q R f [] h k = tt
all_both P Q R f (x ∷ xs) h k = (f x h.0 k.0, all_both P Q R f xs h.1 k.1)

pub all_put : {X : Type 0} (P : X → Type 0) (xs : List X) (e : X) (ys : List X) → P e → AllByRecursion P (xs ++ ys) → AllByRecursion P (xs ++ e ∷ ys)
all_put P [] e ys p h = (p, h)
all_put P (x ∷ xs) e ys p h = (h.0, all_put P xs e ys p h.1)

pub all_drop : {X : Type 0} (P : X → Type 0) (xs : List X) (e : X) (ys : List X) → AllByRecursion P (xs ++ e ∷ ys) → AllByRecursion P (xs ++ ys)
all_drop P [] e ys h = h.1
all_drop P (x ∷ xs) e ys h = (h.0, all_drop P xs e ys h.1)

---- A rising list, at one of its nodes

pub record IsCutAt (a : List Entry) (e : Entry) (b : List Entry) : Type 0 where
  pub before : AreBefore a e.gap
  pub behind : AreBehind b e.gap
  pub front : AreRising a
  pub back : AreRising b

pub rising_cut : (a : List Entry) (e : Entry) (b : List Entry) → AreRising (a ++ e ∷ b) → IsCutAt a e b
rising_cut [] e b up = record { before = tt; behind = up.0; front = tt; back = up.1 }
rising_cut (x ∷ a) e b up =
    let parts = all_split (λ (y : Entry). is_before x.gap y.gap ≡ true) a (e ∷ b) up.0 in
    let rest = rising_cut a e b up.1 in
    record { before = (parts.1.0, rest.before); behind = rest.behind; front = (parts.0, rest.front); back = rest.back }

pub behind_along : (es : List Entry) (g h : ℕ × ℕ) → is_before g h ≡ true → AreBehind es h → AreBehind es g
behind_along es g h e all =
    all_weaker (λ (y : Entry). is_before h y.gap ≡ true) (λ (y : Entry). is_before g y.gap ≡ true) (λ y f. before_along g h y.gap e f) es all

pub before_along_all : (es : List Entry) (g h : ℕ × ℕ) → is_before g h ≡ true → AreBefore es g → AreBefore es h
before_along_all es g h e all =
    all_weaker (λ (y : Entry). is_before y.gap g ≡ true) (λ (y : Entry). is_before y.gap h ≡ true) (λ y f. before_along y.gap g h f e) es all

pub rising_join : (a : List Entry) (e : Entry) (b : List Entry) → AreBefore a e.gap → AreBehind b e.gap → AreRising a → AreRising b → AreRising (a ++ e ∷ b)
rising_join [] e b before behind front back = (behind, back)
rising_join (x ∷ a) e b before behind front back =
    (all_join (λ (y : Entry). is_before x.gap y.gap ≡ true) a (e ∷ b) front.0 (before.0, behind_along b x.gap e.gap before.0 behind), rising_join a e b before.1 behind front.1 back)

pub rising_drop : (a : List Entry) (e : Entry) (b : List Entry) → AreRising (a ++ e ∷ b) → AreRising (a ++ b)
rising_drop [] e b up = up.1
rising_drop (x ∷ a) e b up =
    let P = λ (y : Entry). is_before x.gap y.gap ≡ true in
    let parts = all_split P a (e ∷ b) up.0 in
    (all_join P a b parts.0 parts.1.1, rising_drop a e b up.1)

pub rising_front : (a b : List Entry) → AreRising (a ++ b) → AreRising a
rising_front [] b up = tt
rising_front (x ∷ a) b up = ((all_split (λ (y : Entry). is_before x.gap y.gap ≡ true) a b up.0).0, rising_front a b up.1)
