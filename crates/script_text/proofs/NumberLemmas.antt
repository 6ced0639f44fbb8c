-- The value of digits, one after another.
use Rattle.std.proofs.Common.{◌≡◌, ℕ, ◌+◌, ◌*◌, ◌-◌, ◌^◌, ◌<◌, ◌≤◌, Bool, true, false, ◌&&◌, cond, ltb, eqb, List, [], ◌∷◌, length, Option, Some, None, Result, Ok, Err, refl, ap, sym, ◌∙◌, arith, inl, inr}
use Rattle.std.specs.Prelude.{nat_lt, if◌then◌else◌}
use Rattle.std.specs.List.{list_all}
use Rattle.std.proofs.lemmas.Bool.{cases_Bool, lt-ltb, le-ltb, le-leb, ltb-true, ltb-false}
use Rattle.script_text.specs.Words.{is_digit, value_behind, value_of, number_field}
use Rattle.script_text.specs.declared.faults.Cause.{Cause}
use Rattle.script_text.specs.declared.faults.Cause.TheVariants.{BadNumber}
use Rattle.script_text.specs.Digits.{number_from}

rises : (n : ℕ) (cs : List ℕ) → n ≤ value_behind n cs
rises n [] = omega arith
rises n (c ∷ cs) = omega (arith, rises (10 * n + (c - 48)) cs)

abbrev whole : (limit n : ℕ) → List ℕ → Option ℕ
whole limit n cs = if list_all is_digit cs && nat_lt (value_behind n cs) limit then Some (value_behind n cs) else None

and_false : (b : Bool) → (b && false) ≡ false
and_false true = refl
and_false false = refl

pub number_is : (n : ℕ) (cs : List ℕ) → n < 2 ^ 64 → number_from n cs ≡ whole (2 ^ 64) n cs
number_is n [] h = let e = lt-ltb n (2 ^ 64) h in rw e refl
number_is n (c ∷ cs) h = elim (cases_Bool (is_digit c)) [
  | inr d ↦ rw d refl
  | inl d ↦ elim (cases_Bool (ltb (10 * n + (c - 48)) (2 ^ 64))) [
    | inl l ↦ rw (d, l) (number_is (10 * n + (c - 48)) cs (ltb-true _ _ l))
    | inr l ↦
        let high : 2 ^ 64 ≤ 10 * n + (c - 48) = ltb-false _ _ l in
        let over = rises (10 * n + (c - 48)) cs in
        let e : ltb (value_behind (10 * n + (c - 48)) cs) (2 ^ 64) ≡ false = le-ltb _ _ (omega arith) in
        rw (d, l, e, and_false (list_all is_digit cs)) refl
  ]
]

field_found : (b : Bool) (v n : ℕ) → cond b (Some v) None ≡ Some n → cond {A = Result ℕ Cause} b (Ok v) (Err BadNumber) ≡ Ok n
field_found true v n h = let e : v ≡ n = cc in ap Ok e
field_found false v n h = absurd (let z : ⊥ = cc in z)

field_missing : (b : Bool) (v : ℕ) → cond b (Some v) None ≡ None → cond {A = Result ℕ Cause} b (Ok v) (Err BadNumber) ≡ Err BadNumber
field_missing true v h = absurd (let z : ⊥ = cc in z)
field_missing false v h = refl

pub number_found : (cs : List ℕ) (n : ℕ) → 1 ≤ length cs → length cs ≤ 20 → number_from 0 cs ≡ Some n → number_field cs ≡ Ok n
number_found cs n low high h =
    let a = le-leb 1 (length cs) low in
    let b = le-leb (length cs) 20 high in
    rw (a, b) (field_found (list_all is_digit cs && ltb (value_of cs) (2 ^ 64)) (value_of cs) n (sym (number_is 0 cs (omega arith)) ∙ h))

pub number_missing : (cs : List ℕ) → 1 ≤ length cs → length cs ≤ 20 → number_from 0 cs ≡ None → number_field cs ≡ Err BadNumber
number_missing cs low high h =
    let a = le-leb 1 (length cs) low in
    let b = le-leb (length cs) 20 high in
    rw (a, b) (field_missing (list_all is_digit cs && ltb (value_of cs) (2 ^ 64)) (value_of cs) (sym (number_is 0 cs (omega arith)) ∙ h))

pub not_empty : (b : Bool) (xs : List ℕ) → b ≡ eqb (length xs) 0 → b ≡ false → 1 ≤ length xs
not_empty b [] e f = absurd (let z : ⊥ = cc in z)
not_empty b (x ∷ xs) e f = omega arith
