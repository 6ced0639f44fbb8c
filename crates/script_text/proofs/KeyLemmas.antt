-- Names as numbers: which names have equal ones.
use Rattle.std.proofs.Common.{◌≡◌, ℕ, zero, suc, ◌+◌, ◌*◌, ◌-◌, ◌^◌, ◌<◌, ◌≤◌, true, List, [], ◌∷◌, ◌++◌, length, take, drop, get_or, refl, ap, add-one, sym, ◌∙◌, arith, inl, inr}
use Rattle.std.specs.List.{list_all}
use Rattle.std.specs.Str.{bytes_eq}
use Rattle.std.specs.Ordering.{nat_cmp, is_eq}
use Rattle.std.specs.declared.cmp.Ordering.TheVariants.{Less, Equal, Greater}
use Rattle.std.specs.declared.cmp.Ordering.{Ordering}
use Rattle.std.specs.Cmp.{nat_cmp_total}
use Rattle.std.proofs.lemmas.Cmp.{tied_itself}
use Rattle.std.proofs.Math.Nat.{pow-suc, pow-le-pow_right}
use Rattle.std.proofs.lemmas.Bool.{cases_Bool, and_parts, false_from_ne_true}
use Rattle.std.proofs.lemmas.List.{drop_more, take-append-drop}
use Rattle.std.proofs.lemmas.Map.Lookups.{exact_unsigned, exact_pairs}
use Rattle.script_text.specs.Words.{suits_name, is_name}
use Rattle.script_text.specs.Keys.{packed, key_of, key_cmp}
use Rattle.script_text.proofs.NameLemmas.{same_bytes, bytes_same}

---- Packing

pub packed_step : (cs : List ℕ) (left value b : ℕ) → 0 < left → left ≤ length cs → value ≡ packed (drop left cs) → b ≡ get_or cs (left - 1) 0 →
    value * 256 + b ≡ packed (drop (left - 1) cs)
packed_step cs zero value b some l e g = absurd (omega (arith, some))
packed_step cs (suc i) value b some l e g =
    let m : drop i cs ≡ get_or cs i 0 ∷ drop (i + 1) cs = drop_more cs i 0 (omega (arith, l)) in
    let f : value ≡ packed (drop (i + 1) cs) = rw add-one e in
    let n : packed (drop i cs) ≡ get_or cs i 0 + 256 * packed (drop (i + 1) cs) = ap packed m in
    let j : suc i - 1 ≡ i = omega arith in
    let b_is : b ≡ get_or cs i 0 = rw j at g in
    rw j (omega (arith, f, n, b_is))

pub room_step : (value b n left : ℕ) → value < 256 ^ (n - left) → b < 256 → 0 < left → left ≤ n → value * 256 + b < 256 ^ (n - (left - 1))
room_step value b n left h l some within =
    let e : n - (left - 1) ≡ suc (n - left) = omega arith in
    let p = pow-suc 256 (n - left) in
    rw (e, p) (omega (arith, h, l))

pub room : (k : ℕ) → k ≤ 16 → 256 ^ k ≤ 2 ^ 128
room k l = pow-le-pow_right {n = 256} (omega arith) l

---- Equal numbers

abbrev has_value : ℕ → Type 0
has_value c = (0 < c) × (c < 256)

abbrev pub HaveValues : List ℕ → Type 0
HaveValues [] = Unit {0}
HaveValues (c ∷ cs) = has_value c × HaveValues cs

packed_same : (xs ys : List ℕ) → HaveValues xs → HaveValues ys → packed xs ≡ packed ys → xs ≡ ys
packed_same [] [] h k e = refl
packed_same [] (y ∷ ys) h k e = absurd (omega (arith, e, k.0.0))
packed_same (x ∷ xs) [] h k e = absurd (omega (arith, e, h.0.0))
packed_same (x ∷ xs) (y ∷ ys) h k e =
    let a : x ≡ y = omega (arith, e, h.0.1, k.0.1) in
    let b : packed xs ≡ packed ys = omega (arith, e, h.0.1, k.0.1) in
    let c = packed_same xs ys h.1 k.1 b in
    cc

values_in_take : (n : ℕ) (cs : List ℕ) → HaveValues cs → HaveValues (take n cs)
values_in_take zero cs h = tt
values_in_take (suc n) [] h = tt
values_in_take (suc n) (c ∷ cs) h = (h.0, values_in_take n cs h.1)

values_in_drop : (n : ℕ) (cs : List ℕ) → HaveValues cs → HaveValues (drop n cs)
values_in_drop zero cs h = h
values_in_drop (suc n) [] h = tt
values_in_drop (suc n) (c ∷ cs) h = values_in_drop n cs h.1

value_suits : (c : ℕ) → suits_name c ≡ true → has_value c
value_suits c h = grind (arith, h)

values_suit : (cs : List ℕ) → list_all suits_name cs ≡ true → HaveValues cs
values_suit [] h = tt
values_suit (c ∷ cs) h =
    let k = and_parts (suits_name c) (list_all suits_name cs) h in
    (value_suits c k.0, values_suit cs k.1)

pub values_of_name : (x : List ℕ) → is_name x ≡ true → HaveValues x
values_of_name x h = let k = and_parts _ (list_all suits_name x) h in values_suit x k.1

pub key_same : (x y : List ℕ) → HaveValues x → HaveValues y → key_of x ≡ key_of y → x ≡ y
key_same x y h k e =
    let a : packed (take 16 x) ≡ packed (take 16 y) = ap (λ p. p.0) e in
    let b : packed (drop 16 x) ≡ packed (drop 16 y) = ap (λ p. p.1) e in
    let c = packed_same (take 16 x) (take 16 y) (values_in_take 16 x h) (values_in_take 16 y k) a in
    let d = packed_same (drop 16 x) (drop 16 y) (values_in_drop 16 x h) (values_in_drop 16 y k) b in
    sym (take-append-drop 16 x) ∙ ap (λ z. z ++ drop 16 x) c ∙ ap (λ z. take 16 y ++ z) d ∙ take-append-drop 16 y

tied_pairs : (k : ℕ × ℕ) → key_cmp k k ≡ Equal
tied_pairs k =
    let a = tied_itself nat_cmp_total k.0 in
    let b = tied_itself nat_cmp_total k.1 in
    rw (a, b) refl

equal_from_is_eq : (o : Ordering) → is_eq o ≡ true → o ≡ Equal
equal_from_is_eq Less h = absurd (let z : ⊥ = cc in z)
equal_from_is_eq Equal h = refl
equal_from_is_eq Greater h = absurd (let z : ⊥ = cc in z)

-- keys of names are equal exactly where the names are
pub key_tells : (x y : List ℕ) → is_name x ≡ true → is_name y ≡ true → is_eq (key_cmp (key_of x) (key_of y)) ≡ bytes_eq x y
key_tells x y hx hy = elim (cases_Bool (bytes_eq x y)) [
  | inl b ↦
      let s = same_bytes x y b in
      let e : key_cmp (key_of y) (key_of y) ≡ Equal = tied_pairs (key_of y) in
      rw (b, s, e) refl
  | inr b ↦
      rw b (false_from_ne_true (is_eq (key_cmp (key_of x) (key_of y))) (λ t.
      let e = exact_pairs nat_cmp nat_cmp exact_unsigned exact_unsigned (key_of x) (key_of y) (equal_from_is_eq (key_cmp (key_of x) (key_of y)) t) in
      let s = key_same x y (values_of_name x hx) (values_of_name y hy) e in
      let z : bytes_eq x y ≡ true = rw s (bytes_same y) in
      absurd (let w : ⊥ = cc in w)))
]
