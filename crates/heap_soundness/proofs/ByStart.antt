-- Places in the order of their starts; and that few of the large area fit.
use Rattle.std.proofs.Common.{◌≡◌, ℕ, suc, ◌+◌, ◌*◌, ◌≤◌, List, [], ◌∷◌, length, refl, ap, ◌∙◌, arith, ltb, inl, inr}
use Rattle.std.specs.List.{AllByRecursion}
use Rattle.std.proofs.lemmas.Bool.{cases_Bool, ltb-true, ltb-false}
use Rattle.heap_model.specs.declared.Limits.{Limits}
use Rattle.heap_model.specs.State.{Place, insert_place, by_address}
use Rattle.heap_model.specs.Ranges.{large_start}
use Rattle.heap_soundness.specs.Sound.{AreApart, AreDisjoint, AreAt, IsInLarge}
use Rattle.heap_soundness.proofs.Lists.{apart_swap}

all_inserted : (P : Place → Type 0) (x : Place) (ps : List Place) → P x → AllByRecursion P ps → AllByRecursion P (insert_place x ps)
all_inserted P x [] p a = (p, tt)
all_inserted P x (y ∷ ys) p a = elim (cases_Bool (ltb x.start y.start)) [ inl e ↦ rw e (p, a) | inr e ↦ rw e (a.0, all_inserted P x ys p a.1) ]

pub all_by_address : (P : Place → Type 0) (ps : List Place) → AllByRecursion P ps → AllByRecursion P (by_address ps)
all_by_address P [] a = tt
all_by_address P (p ∷ ps) a = all_inserted P p (by_address ps) a.0 (all_by_address P ps a.1)

-- places by their starts, each behind the ones before
abbrev pub IsBefore : Place → Place → Type 0
IsBefore p q = (p.start ≤ q.start) × AreApart p q

abbrev pub AreByStart : List Place → Type 0
AreByStart [] = Unit {0}
AreByStart (p ∷ ps) = AllByRecursion (IsBefore p) ps × AreByStart ps

before_from : (x y : Place) (ys : List Place) → x.start ≤ y.start → AllByRecursion (AreApart x) ys → AllByRecursion (IsBefore y) ys → AllByRecursion (IsBefore x) ys
before_from x y [] l a b = tt
before_from x y (z ∷ zs) l a b = let m = b.0.0 in ((omega arith, a.0), before_from x y zs l a.1 b.1)

by_start_inserted : (x : Place) (ps : List Place) → AllByRecursion (AreApart x) ps → AreByStart ps → AreByStart (insert_place x ps)
by_start_inserted x [] h a = (tt, tt)
by_start_inserted x (y ∷ ys) h a = elim (cases_Bool (ltb x.start y.start)) [
  | inl e ↦ let l = ltb-true x.start y.start e in rw e (((omega arith, h.0), before_from x y ys (omega arith) h.1 a.0), a)
  | inr e ↦ let l = ltb-false x.start y.start e in rw e (all_inserted (IsBefore y) x ys (l, apart_swap x y h.0) a.0, by_start_inserted x ys h.1 a.1)
]

pub by_address_by_start : (ps : List Place) → AreDisjoint ps → AreByStart (by_address ps)
by_address_by_start [] a = tt
by_address_by_start (p ∷ ps) a = by_start_inserted p (by_address ps) (all_by_address (AreApart p) ps a.0) (by_address_by_start ps a.1)

---- The large area has room for few

length_inserted : (x : Place) (ps : List Place) → length (insert_place x ps) ≡ suc (length ps)
length_inserted x [] = refl
length_inserted x (y ∷ ys) = elim (cases_Bool (ltb x.start y.start)) [ inl e ↦ rw e refl | inr e ↦ rw e (ap suc (length_inserted x ys)) ]

length_by_address : (ps : List Place) → length (by_address ps) ≡ length ps
length_by_address [] = refl
length_by_address (p ∷ ps) = length_inserted p (by_address ps) ∙ ap suc (length_by_address ps)

-- each takes 128 pages or more, behind the ones before
fits_from : (l : Limits) (from : ℕ) (ps : List Place) → from ≤ l.large_pages → AreAt (IsInLarge l) ps → AreByStart ps → AllByRecursion (λ p. 16 * (large_start l + 256 * from) ≤ p.start) ps → from + 128 * length ps ≤ l.large_pages
fits_from l from [] f a o h = omega arith
fits_from l from (p ∷ ps) f a o h =
    let b = a.0.begins in
    let i = a.0.inside in
    let n = a.0.enough in
    let g = h.0 in
    let r = fits_from l (a.0.page + a.0.pages) ps i a.1 o.1 (behind ps a.1 o.0) in
    omega arith
  where
    behind : (qs : List Place) → AreAt (IsInLarge l) qs → AllByRecursion (IsBefore p) qs → AllByRecursion (λ q. 16 * (large_start l + 256 * (a.0.page + a.0.pages)) ≤ q.start) qs
    behind [] b c = tt
    behind (q ∷ qs) b c = (one q b.0 c.0, behind qs b.1 c.1)
      where
        one : (q : Place) → IsInLarge l q.start q.granules → IsBefore p q → 16 * (large_start l + 256 * (a.0.page + a.0.pages)) ≤ q.start
        one q at c = by_place c.1
          where
            by_place : AreApart p q → 16 * (large_start l + 256 * (a.0.page + a.0.pages)) ≤ q.start
            by_place (inl m) = let b = a.0.begins in let w = a.0.whole in omega arith
            by_place (inr m) = let w = at.whole in let n = at.enough in let c0 = c.0 in absurd (omega arith)

pub large_fits : (l : Limits) (ps : List Place) → AreAt (IsInLarge l) ps → AreDisjoint ps → 128 * length ps ≤ l.large_pages
large_fits l ps a d =
    let r = fits_from l 0 (by_address ps) (omega arith) (all_by_address (λ p. IsInLarge l p.start p.granules) ps a) (by_address_by_start ps d) (all_by_address (λ p. 16 * (large_start l + 256 * 0) ≤ p.start) ps (low ps a)) in
    let e = length_by_address ps in
    omega (arith, r, e)
  where
    low : (qs : List Place) → AreAt (IsInLarge l) qs → AllByRecursion (λ p. 16 * (large_start l + 256 * 0) ≤ p.start) qs
    low [] a = tt
    low (q ∷ qs) a = (let b = a.0.begins in omega arith, low qs a.1)
