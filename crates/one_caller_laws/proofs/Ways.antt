-- A request for pages goes one way: into a segment that is reserved, into the next one, or nowhere.
use Rattle.std.proofs.Common.{◌≡◌, ℕ, zero, suc, ◌+◌, ◌-◌, ◌*◌, ◌/◌, ◌%◌, ◌<◌, ◌≤◌, Bool, true, false, ◌||◌, List, [], ◌∷◌, Option, Some, None, refl, sym, ap, ◌∙◌, subst, inl, inr, arith, eqb, leb, ltb}
use Rattle.std.specs.List.{list_all}
use Rattle.std.proofs.lemmas.Bool.{cases_Bool, and_parts, both_ways, eq-eqb, ne_eqb, ltb-true, lt-ltb, le-ltb, leb-true, leb-false, or_from, cases_eq, cases_lt}
use Rattle.heap_model.specs.Runs.{Run, runs, joined, fitting, least}
use Rattle.heap_model.specs.State.{Area}
use Rattle.heap_model.specs.Backend.{is_free, free_runs, back_place, first_or, next_segment, is_better}
use Rattle.heap_model.specs.Legal.{is_run_of}
use Rattle.heap_soundness.specs.Sound.{IsOneOf}
use Rattle.heap_soundness.proofs.BackendLemmas.{AreFree, back_place_free, usable_of, outside_of}
use Rattle.serial_laws.specs.BackCalls.{one_more_reserved}
use Rattle.one_caller_laws.proofs.InCall.{each_passes}

---- A run has the numbers that pass side by side

-- a run that begins here, of so many at least
record Begins (rs : List Run) (at p : ℕ) : Type 0 where
  pub head : Run
  pub tail : List Run
  pub is : rs ≡ head ∷ tail
  pub first : head.first ≡ at
  pub long : p ≤ head.count

begins_joined : (at : ℕ) (rs : List Run) → Begins (joined at rs) at 1
begins_joined at [] = record { head = record { first = at; count = 1 }; tail = []; is = refl; first = refl; long = omega arith }
begins_joined at (r ∷ rs) = elim (cases_Bool (eqb r.first (suc at))) [
  | inl e ↦ rw e (record { head = record { first = at; count = suc r.count }; tail = rs; is = refl; first = refl; long = omega arith })
  | inr e ↦ rw e (record { head = record { first = at; count = 1 }; tail = r ∷ rs; is = refl; first = refl; long = omega arith })
]

begins_more : (at p : ℕ) (rs : List Run) → Begins rs (suc at) p → Begins (joined at rs) at (suc p)
begins_more at p rs b =
    let e : eqb b.head.first (suc at) ≡ true = eq-eqb b.head.first (suc at) b.first in
    record {
      head = record { first = at; count = suc b.head.count };
      tail = b.tail;
      is = ap (joined at) b.is ∙ (rw e refl);
      first = refl;
      long = omega (arith, b.long);
    }

begins_here : (test : ℕ → Bool) (at n p : ℕ) → p < n → ((j : ℕ) → j ≤ p → test (at + j) ≡ true) → Begins (runs test at n) at (suc p)
begins_here test at zero p l h = absurd (omega (arith, l))
begins_here test at (suc n) zero l h =
    let z : at + 0 ≡ at = omega arith in
    let t : test at ≡ true = ap test (sym z) ∙ h 0 (omega arith) in
    rw t (begins_joined at (runs test (suc at) n))
begins_here test at (suc n) (suc p) l h =
    let z : at + 0 ≡ at = omega arith in
    let t : test at ≡ true = ap test (sym z) ∙ h 0 (omega arith) in
    let rest = begins_here test (suc at) n p (omega (arith, l)) (λ j k. let q : suc at + j ≡ at + suc j = omega arith in ap test q ∙ h (suc j) (omega (arith, k))) in
    rw t (begins_more at (suc p) (runs test (suc at) n) rest)

-- a run around these numbers
record Covers (rs : List Run) (k p : ℕ) : Type 0 where
  pub run : Run
  pub there : IsOneOf run rs
  pub first : run.first ≤ k
  pub long : p ≤ run.count

covers_joined : (at k p : ℕ) (rs : List Run) → at ≤ k → Covers rs k p → Covers (joined at rs) k p
covers_joined at k p [] l c = absurd c.there
covers_joined at k p (r ∷ rs) l c = elim (cases_Bool (eqb r.first (suc at))) [
  | inr e ↦ rw e (record { run = c.run; there = inr c.there; first = c.first; long = c.long })
  | inl e ↦ rw e (by_place c.there)
]
  where
    by_place : IsOneOf c.run (r ∷ rs) → Covers (record { first = at; count = suc r.count } ∷ rs) k p
    by_place (inr i) = record { run = c.run; there = inr i; first = c.first; long = c.long }
    by_place (inl i) = let n = ap (λ (x : Run). x.count) i in record { run = record { first = at; count = suc r.count }; there = inl refl; first = l; long = omega (arith, c.long, n) }

covers : (test : ℕ → Bool) (at n k p : ℕ) → at ≤ k → k + suc p ≤ at + n → ((j : ℕ) → j ≤ p → test (k + j) ≡ true) → Covers (runs test at n) k (suc p)
covers test at zero k p l u h = absurd (omega (arith, l, u))
covers test at (suc n) k p l u h = elim (cases_eq at k) [
  | inl e ↦
      let b = begins_here test at (suc n) p (omega (arith, l, u, e)) (λ j q. ap (λ (x : ℕ). test (x + j)) e ∙ h j q) in
      record { run = b.head; there = subst (IsOneOf b.head) (sym b.is) (inl refl); first = omega (arith, b.first, l); long = b.long }
  | inr ne ↦
      let above : suc at ≤ k = omega arith in
      let rest = covers test (suc at) n k p above (omega (arith, u)) h in
      elim (cases_Bool (test at)) [
        | inl t ↦ rw t (covers_joined at k (suc p) (runs test (suc at) n) l rest)
        | inr t ↦ rw t rest
      ]
]

---- The next segment is no way where another is

usable_more : (a : Area) (u : ℕ) → is_free a u ≡ true → is_free (one_more_reserved a) u ≡ true
usable_more a u h =
    let p = and_parts (ltb (u / 256) a.reserved) (leb 2 (u % 256)) (usable_of a u h) in
    let l = ltb-true (u / 256) a.reserved p.0 in
    let q = lt-ltb (u / 256) (a.reserved + 1) (omega (arith, l)) in
    let x = p.1 in
    let o = outside_of a u h in
    rw (q, x, o) refl

abbrev pub AreShort : Area → ℕ → Type 0
AreShort a p = list_all (λ r. is_run_of a.reserved r || ltb r.count p) (free_runs (one_more_reserved a)) ≡ true

pub here_or_next : (a : Area) (segments p first : ℕ) → 0 < p → back_place a segments p ≡ Some first → first / 256 < a.reserved → AreShort a p → ⊥
here_or_next a segments zero first some e l short = omega (arith, some)
here_or_next a segments (suc p) first some e l short =
    let free = back_place_free a segments (suc p) first e l in
    let last = and_parts (ltb ((first + p) / 256) a.reserved) (leb 2 ((first + p) % 256)) (usable_of a (first + p) (free p (omega arith))) in
    let below = ltb-true ((first + p) / 256) a.reserved last.0 in
    let c = covers (is_free (one_more_reserved a)) 0 (256 * (a.reserved + 1)) first p (omega arith) (omega (arith, below)) (λ j k. usable_more a (first + j) (free j (omega (arith, k)))) in
    let none : is_run_of a.reserved c.run ≡ false = ne_eqb (c.run.first / 256) a.reserved (λ q. omega (arith, q, l, c.first)) in
    let long : ltb c.run.count (suc p) ≡ false = le-ltb c.run.count (suc p) c.long in
    both_ways (is_run_of a.reserved c.run || ltb c.run.count (suc p)) (or_from (is_run_of a.reserved c.run) (ltb c.run.count (suc p)) none long)
    (each_passes (λ r. is_run_of a.reserved r || ltb r.count (suc p)) (free_runs (one_more_reserved a)) c.run short c.there)

first_or_none : (o : Option Run) (q : Option ℕ) → first_or o q ≡ None → q ≡ None
first_or_none (Some r) q h = absurd (let z : ⊥ = cc in z)
first_or_none None q h = h

next_none : (a : Area) (segments p : ℕ) → a.reserved < segments → next_segment a segments p ≡ None → 254 < p
next_none a segments p l h = elim (cases_Bool (leb p 254)) [
  | inr e ↦ leb-false p 254 e
  | inl e ↦ let q = lt-ltb a.reserved segments l in let z : Some (256 * a.reserved + 2) ≡ None = (rw (e, q) at h) in absurd (let bad : ⊥ = cc in bad)
]

-- so many units side by side are not free in a segment
too_long : (a : Area) (first p : ℕ) → 254 < p → AreFree a first p → ⊥
too_long a first p l free = elim (cases_lt (first % 256) 2) [
  | inl low ↦
      let z : first + 0 ≡ first = omega arith in
      let u = usable_of a first (subst (λ (x : ℕ). is_free a x ≡ true) z (free 0 (omega (arith, l)))) in
      let q = leb-true 2 (first % 256) (and_parts (ltb (first / 256) a.reserved) (leb 2 (first % 256)) u).1 in
      omega (arith, q, low)
  | inr high ↦
      let k = 256 - first % 256 in
      let u = usable_of a (first + (256 - first % 256)) (free (256 - first % 256) (omega (arith, l, high))) in
      let q = leb-true 2 ((first + (256 - first % 256)) % 256) (and_parts (ltb ((first + (256 - first % 256)) / 256) a.reserved) (leb 2 ((first + (256 - first % 256)) % 256)) u).1 in
      omega (arith, q, high)
]

pub none_or_next : (a : Area) (segments p first : ℕ) → back_place a segments p ≡ None → a.reserved < segments → back_place (one_more_reserved a) segments p ≡ Some first → first / 256 < a.reserved + 1 → ⊥
none_or_next a segments p first none l e below =
    let long = next_none a segments p l (first_or_none (least (is_better a) (fitting p (free_runs a))) (next_segment a segments p) none) in
    too_long (one_more_reserved a) first p long (back_place_free (one_more_reserved a) segments p first e below)

---- One way

-- where pages go: the area, with one segment more reserved perhaps, and the first page
pub record Spot : Type 0 where
  pub area : Area
  pub first : ℕ

pub data Way (a : Area) (segments p : ℕ) (spot : Option Spot) : Type 0 where
  Here : (first : ℕ) → spot ≡ Some (record { area = a; first = first }) → back_place a segments p ≡ Some first → first / 256 < a.reserved → Way a segments p spot
  Next : (first : ℕ) → spot ≡ Some (record { area = one_more_reserved a; first = first }) → a.reserved < segments → back_place (one_more_reserved a) segments p ≡ Some first → first / 256 < a.reserved + 1 → AreShort a p → Way a segments p spot
  Nowhere : spot ≡ None → back_place a segments p ≡ None → Way a segments p spot

pub one_way : (a : Area) (segments p : ℕ) (x y : Option Spot) → 0 < p → Way a segments p x → Way a segments p y → x ≡ y
one_way a segments p x y some (Here f e g l) (Here k h i j) = let z : Some f ≡ Some k = sym g ∙ i in let same : f ≡ k = cc in e ∙ ap (λ (n : ℕ). Some (record { area = a; first = n })) same ∙ sym h
one_way a segments p x y some (Here f e g l) (Next k h b i j short) = absurd (here_or_next a segments p f some g l short)
one_way a segments p x y some (Here f e g l) (Nowhere h i) = absurd (let z : Some f ≡ None = sym g ∙ i in let bad : ⊥ = cc in bad)
one_way a segments p x y some (Next k h b i j short) (Here f e g l) = absurd (here_or_next a segments p f some g l short)
one_way a segments p x y some (Next f e b g l short) (Next k h d i j short_too) = let z : Some f ≡ Some k = sym g ∙ i in let same : f ≡ k = cc in e ∙ ap (λ (n : ℕ). Some (record { area = one_more_reserved a; first = n })) same ∙ sym h
one_way a segments p x y some (Next f e b g l short) (Nowhere h i) = absurd (none_or_next a segments p f i b g l)
one_way a segments p x y some (Nowhere h i) (Here f e g l) = absurd (let z : Some f ≡ None = sym g ∙ i in let bad : ⊥ = cc in bad)
one_way a segments p x y some (Nowhere h i) (Next f e b g l short) = absurd (none_or_next a segments p f i b g l)
one_way a segments p x y some (Nowhere h i) (Nowhere k j) = h ∙ sym k
