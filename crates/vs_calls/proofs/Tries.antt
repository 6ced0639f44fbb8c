-- Which acts try a lock, and what comes before them.
use Rattle.std.proofs.Common.{◌≡◌, ℕ, zero, suc, ◌+◌, ◌/◌, Bool, true, false, not, List, [], ◌∷◌, ◌++◌, refl, sym, ap, ◌∙◌, subst, inl, inr}
use Rattle.std.proofs.lemmas.Bool.{and_from, and_parts, false≢true}
use Rattle.std.proofs.lemmas.List.{append-nil}
use Rattle.std.specs.Prelude.{◌⊎◌}
use Rattle.heap_model.specs.declared.Act.{Act}
use Rattle.heap_model.specs.declared.What.{What}
use Rattle.heap_model.specs.Geometry.{words_of}
use Rattle.heap_model.specs.Shape.{zeros, zeroing}
use Rattle.heap_soundness.specs.Sound.{IsOneOf}
use Rattle.vs_calls.specs.Tries.{is_try, tries_none, TriesBehind}

---- Lists that try nothing

pub none-append : (what : What) (xs ys : List Act) → tries_none what xs ≡ true → tries_none what ys ≡ true → tries_none what (xs ++ ys) ≡ true
none-append what [] ys h k = k
none-append what (x ∷ xs) ys h k =
    let p = and_parts (not (is_try what x)) (tries_none what xs) h in
    and_from (not (is_try what x)) (tries_none what (xs ++ ys)) p.0 (none-append what xs ys p.1 k)

none_zeros : (what : What) (zero_it : Bool) (word count : ℕ) → tries_none what (zeros zero_it word count) ≡ true
none_zeros what false word count = refl
none_zeros what true word zero = refl
none_zeros what true word (suc count) = none_zeros what true (word + 1) count

-- zeroes, and then other acts
pub none_zeroed : (what : What) (addr n : ℕ) (zero_it : Bool) (rest : List Act) → tries_none what rest ≡ true → tries_none what (zeroing zero_it addr n ++ rest) ≡ true
none_zeroed what addr n zero_it rest none = none-append what (zeroing zero_it addr n) rest (none_zeros what zero_it (addr / 8) (words_of n)) none

---- What comes before a try

-- a try in a list whose first part has none
pub try_behind : (what : What) (xs ys before after : List Act) (act : Act) → tries_none what xs ≡ true → xs ++ ys ≡ before ++ act ∷ after → is_try what act ≡ true → (mid : List Act) × (before ≡ xs ++ mid) × (ys ≡ mid ++ act ∷ after)
try_behind what [] ys before after act none e is = (before, refl, e)
try_behind what (x ∷ xs) ys [] after act none e is =
    let same : x ≡ act = cc (e) in
    let p = and_parts (not (is_try what x)) (tries_none what xs) none in
    let no : not (is_try what act) ≡ true = subst (λ (y : Act). not (is_try what y) ≡ true) same p.0 in
    absurd (false≢true (ap not (sym is) ∙ no))
try_behind what (x ∷ xs) ys (y ∷ before) after act none e is =
    let p = and_parts (not (is_try what x)) (tries_none what xs) none in
    let rest : xs ++ ys ≡ before ++ act ∷ after = cc (e) in
    let same : y ≡ x = cc (e) in
    let r = try_behind what xs ys before after act p.1 rest is in
    let all : y ∷ before ≡ x ∷ (xs ++ r.0) = (λ i. same i ∷ r.1 i) in
    (r.0, all, r.2)

no_middle : (mid after : List Act) (act : Act) → [] ≡ mid ++ act ∷ after → ⊥
no_middle [] after act e = absurd (cc (e))
no_middle (x ∷ mid) after act e = absurd (cc (e))

-- a list that has none
pub behind_none : (what : What) (May : List Act → Type 0) (xs : List Act) → tries_none what xs ≡ true → TriesBehind what May xs
behind_none what May xs none before after act e is =
    let r = try_behind what xs [] before after act none (append-nil xs ∙ e) is in
    absurd (no_middle r.0 after act r.2)

-- .. one behind another, of which the first has none
pub behind_more : (what : What) (May Later : List Act → Type 0) (xs ys : List Act) → tries_none what xs ≡ true → TriesBehind what Later ys → ((mid : List Act) → Later mid → May (xs ++ mid)) → TriesBehind what May (xs ++ ys)
behind_more what May Later xs ys none t up before after act e is =
    let r = try_behind what xs ys before after act none e is in
    subst May (sym r.1) (up r.0 (t r.0 after act r.2 is))

-- .. and is enough for all that follow
pub behind_reason : (what : What) (May : List Act → Type 0) (xs ys : List Act) → tries_none what xs ≡ true → ((mid : List Act) → May (xs ++ mid)) → TriesBehind what May (xs ++ ys)
behind_reason what May xs ys none may before after act e is =
    let r = try_behind what xs ys before after act none e is in
    subst May (sym r.1) (may r.0)

-- where an act of two lists is: in the first, or in the second
where_it_is : (xs ys before after : List Act) (act : Act) → xs ++ ys ≡ before ++ act ∷ after → ((more : List Act) × (xs ≡ before ++ act ∷ more)) ⊎ ((mid : List Act) × (before ≡ xs ++ mid) × (ys ≡ mid ++ act ∷ after))
where_it_is [] ys before after act e = inr (before, refl, e)
where_it_is (x ∷ xs) ys [] after act e = inl (xs, cc (e))
where_it_is (x ∷ xs) ys (y ∷ before) after act e =
    let same : x ≡ y = cc (e) in
    elim (where_it_is xs ys before after act (cc (e))) [ inl z ↦ inl (z.0, (λ i. same i ∷ z.1 i)) | inr z ↦ inr (z.0, (λ i. sym same i ∷ z.1 i), z.2) ]

-- a list that is late, and is enough for all that follow
pub behind_after : (what : What) (May : List Act → Type 0) (xs ys : List Act) → TriesBehind what May xs → ((mid : List Act) → May (xs ++ mid)) → TriesBehind what May (xs ++ ys)
behind_after what May xs ys t may before after act e is = elim (where_it_is xs ys before after act e) [ inl z ↦ t before z.0 act z.1 is | inr z ↦ subst May (sym z.1) (may z.0) ]

-- .. or is followed by no try
pub behind_then : (what : What) (May : List Act → Type 0) (xs ys : List Act) → TriesBehind what May xs → tries_none what ys ≡ true → TriesBehind what May (xs ++ ys)
behind_then what May xs ys t none before after act e is =
    elim (where_it_is xs ys before after act e) [ inl z ↦ t before z.0 act z.1 is | inr z ↦ absurd (behind_none what (λ l. ⊥) ys none z.0 after act z.2 is) ]

-- .. and what lets each come lets it do so for another reason too
pub behind_so : (what : What) (May Other : List Act → Type 0) (xs : List Act) → ((before : List Act) → May before → Other before) → TriesBehind what May xs → TriesBehind what Other xs
behind_so what May Other xs up t before after act e is = up before (t before after act e is)

---- Members of lists

pub one_behind : {A : Type 0} (x : A) (xs ys : List A) → IsOneOf x ys → IsOneOf x (xs ++ ys)
one_behind x [] ys i = i
one_behind x (y ∷ xs) ys i = inr (one_behind x xs ys i)

pub one_before : {A : Type 0} (x : A) (xs ys : List A) → IsOneOf x xs → IsOneOf x (xs ++ ys)
one_before x [] ys i = absurd i
one_before x (y ∷ xs) ys (inl e) = inl e
one_before x (y ∷ xs) ys (inr i) = inr (one_before x xs ys i)
