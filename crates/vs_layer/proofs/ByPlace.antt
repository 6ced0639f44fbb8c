-- What a state tells of its places does not depend on their order.
use Rattle.std.proofs.Common.{◌≡◌, ℕ, ◌+◌, ◌-◌, ◌*◌, ◌/◌, ◌%◌, ◌<◌, ◌≤◌, Bool, true, false, not, List, [], ◌∷◌, refl, sym, ap, ◌∙◌, arith, ltb, inl, inr, cond}
use Rattle.std.specs.Prelude.{count_by, flat_map}
use Rattle.std.specs.List.{AllByRecursion, list_any}
use Rattle.std.proofs.Math.Path.{fun_ext}
use Rattle.std.proofs.lemmas.Bool.{cases_Bool, eqb-true, ne_eqb}
use Rattle.std.proofs.lemmas.List.Sums.{sum_by-cons}
use Rattle.heap_model.specs.declared.Layer.{Layer}
use Rattle.heap_model.specs.declared.Layer.TheVariants as layers
use Rattle.heap_model.specs.Runs.{runs}
use Rattle.heap_model.specs.State.{Span, Place, address, is_layer, insert_place, by_address, has_address}
use Rattle.heap_model.specs.Ranges.{in_place, is_clear, gaps_of}
use Rattle.heap_soundness.proofs.ByStart.{IsBefore, AreByStart}
use Rattle.serial_laws.proofs.Sorted.{OnlyOne, any_sorted}
use Rattle.vs_split.specs.Shown.{place_from, place_to}

---- Gaps

pub clear_sorted : (ps qs : List Place) → by_address ps ≡ qs → (g : ℕ) → is_clear ps g ≡ is_clear qs g
clear_sorted ps qs e g = ap not (sym (any_sorted (in_place g) ps) ∙ ap (λ (rs : List Place). list_any (in_place g) rs) e)

pub gaps_sorted : (xs : List Span) (ps qs : List Place) → by_address ps ≡ qs → gaps_of xs ps ≡ gaps_of xs qs
gaps_sorted xs ps qs e = ap (λ (t : ℕ → Bool). flat_map (λ (x : Span). runs t (256 * x.first + 3) (256 * x.pages - 3)) xs) (fun_ext (clear_sorted ps qs e))

---- Counts

-- one more in front, as a sum
pub count_cons : (t : Place → Bool) (p : Place) (ps : List Place) → count_by t (p ∷ ps) ≡ cond (t p) 1 0 + count_by t ps
count_cons t p ps = sum_by-cons (λ (q : Place). cond (t q) 1 0) p ps

pub count_inserted : (t : Place → Bool) (p : Place) (ps : List Place) → count_by t (insert_place p ps) ≡ cond (t p) 1 0 + count_by t ps
count_inserted t p [] = count_cons t p []
count_inserted t p (q ∷ qs) = elim (cases_Bool (ltb p.start q.start)) [
  | inl e ↦ rw e (count_cons t p (q ∷ qs))
  | inr e ↦
      let again = count_inserted t p qs in
      let there = count_cons t q (insert_place p qs) in
      let here = count_cons t q qs in
      rw e (omega (arith, again, there, here))
]

pub count_sorted : (t : Place → Bool) (ps : List Place) → count_by t (by_address ps) ≡ count_by t ps
count_sorted t [] = refl
count_sorted t (p ∷ ps) = count_inserted t p (by_address ps) ∙ ap (λ (k : ℕ). cond (t p) 1 0 + k) (count_sorted t ps) ∙ sym (count_cons t p ps)

---- One place

-- a place of VS, of granules
pub record IsVsPlace (p : Place) : Type 0 where
  pub some : 0 < p.granules
  pub aligned : p.start % 16 ≡ 0
  pub layer : p.layer ≡ layers.Vs

none_behind : (t : Place → Bool) (p : Place) (ps : List Place) → IsVsPlace p → AllByRecursion IsVsPlace ps → AllByRecursion (IsBefore p) ps → ((q : Place) → IsVsPlace q → IsBefore p q → t q ≡ false) → list_any t ps ≡ false
none_behind t p [] v a b f = refl
none_behind t p (q ∷ qs) v a b f = let e = f q a.0 b.0 in rw e (none_behind t p qs v a.1 b.1 f)

-- a test that no two places pass, one behind the other
only_one_of : (t : Place → Bool) → ((p q : Place) → IsVsPlace p → IsVsPlace q → IsBefore p q → t p ≡ true → t q ≡ false) → (ps : List Place) → AllByRecursion IsVsPlace ps → AreByStart ps → OnlyOne t ps
only_one_of t f [] a b = tt
only_one_of t f (p ∷ ps) a b = ((λ e. none_behind t p ps a.0 a.1 b.0 (λ q v k. f p q a.0 v k e)), only_one_of t f ps a.1 b.1)

start_of : (p q : Place) → IsVsPlace p → IsVsPlace q → IsBefore p q → p.start < q.start
start_of p q u v k =
    let a = k.0 in
    let b = u.some in
    let c = v.some in
    elim k.1 [ inl l ↦ omega arith | inr l ↦ omega arith ]

end_of : (p q : Place) → IsVsPlace p → IsVsPlace q → IsBefore p q → p.start + 16 * p.granules ≤ q.start
end_of p q u v k =
    let a = k.0 in
    let b = u.some in
    let c = v.some in
    elim k.1 [ inl l ↦ l | inr l ↦ absurd (omega arith) ]

vs_address : (p : Place) → p.layer ≡ layers.Vs → address p ≡ p.start + 16
vs_address p e = ap (λ (l : Layer). cond (is_layer l layers.Vs) (p.start + 16) p.start) e

pub one_address : (a : ℕ) (ps : List Place) → AllByRecursion IsVsPlace ps → AreByStart ps → OnlyOne (has_address a) ps
one_address a ps v b = only_one_of (has_address a) other ps v b
  where
    other : (p q : Place) → IsVsPlace p → IsVsPlace q → IsBefore p q → has_address a p ≡ true → has_address a q ≡ false
    other p q u w k e =
        let l = start_of p q u w k in
        let here = eqb-true (address p) a e in
        let i = vs_address p u.layer in
        let j = vs_address q w.layer in
        ne_eqb (address q) a (λ z. omega (arith, z, l, here, i, j))

pub one_start : (g : ℕ) (ps : List Place) → AllByRecursion IsVsPlace ps → AreByStart ps → OnlyOne (place_from g) ps
one_start g ps v b = only_one_of (place_from g) other ps v b
  where
    other : (p q : Place) → IsVsPlace p → IsVsPlace q → IsBefore p q → place_from g p ≡ true → place_from g q ≡ false
    other p q u w k e =
        let l = start_of p q u w k in
        let here = eqb-true p.start (16 * g) e in
        ne_eqb q.start (16 * g) (λ z. omega (arith, z, l, here))

pub one_end : (g : ℕ) (ps : List Place) → AllByRecursion IsVsPlace ps → AreByStart ps → OnlyOne (place_to g) ps
one_end g ps v b = only_one_of (place_to g) other ps v b
  where
    other : (p q : Place) → IsVsPlace p → IsVsPlace q → IsBefore p q → place_to g p ≡ true → place_to g q ≡ false
    other p q u w k e =
        let l = end_of p q u w k in
        let some = w.some in
        let here = eqb-true (p.start / 16 + p.granules) g e in
        ne_eqb (q.start / 16 + q.granules) g (λ z. omega (arith, z, l, here, some))
