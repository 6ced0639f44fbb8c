-- On the back end's spans.
use Rattle.heap_soundness.proofs.Spans.{all_inserted}
use Rattle.heap_soundness.proofs.Lists.{all_weaker}
use Rattle.std.proofs.Common.{◌≡◌, ℕ, ◌+◌, ◌-◌, ◌*◌, ◌/◌, ◌<◌, ◌≤◌, true, false, ◌&&◌, not, List, [], ◌∷◌, Option, Some, None, refl, subst, arith, leb, ltb, inl, inr}
use Rattle.std.specs.List.{list_any}
use Rattle.std.proofs.lemmas.Bool.{ltb-true, ltb-false, le-leb, lt-ltb, cases_Bool, and_parts, not-true, or_parts, both_ways, and_from, or_right, or_left, cases_lt}
use Rattle.heap_model.specs.Runs.{Run, fitting, least}
use Rattle.heap_model.specs.State.{Area, Span, insert_span}
use Rattle.heap_model.specs.Backend.{in_span, is_usable, is_free, free_runs, is_better, back_place, first_or, next_segment}
use Rattle.heap_model.specs.Legal.{commit, with_span}
use Rattle.heap_soundness.specs.Sound.{AreInOrder, IsCommittedSpan, HasSoundSpans}
use Rattle.heap_soundness.proofs.RunLemmas.{Passes, runs_pass, fitting_all, least_all}

-- n units from first on are free
abbrev pub AreFree : Area → ℕ → ℕ → Type 0
AreFree a first n = (k : ℕ) → k < n → is_free a (first + k) ≡ true

free_from_run : (a : Area) (n first : ℕ) (o : Option Run) (rest : Option ℕ) →
    ((r : Run) → o ≡ Some r → Passes (is_free a) r × (n ≤ r.count)) →
    (rest ≡ Some first → ⊥) → first_or o rest ≡ Some first → AreFree a first n
free_from_run a n first (Some r) rest h g e = λ k l.
    let p = h r refl in
    let same : r.first ≡ first = cc in
    subst (λ (x : ℕ). is_free a (x + k) ≡ true) same (p.0 k (omega (arith, p.1)))
free_from_run a n first None rest h g e = absurd (g e)

-- a place in the next segment is in none that is reserved
next_unreserved : (a : Area) (segments n first : ℕ) → next_segment a segments n ≡ Some first → first / 256 < a.reserved → ⊥
next_unreserved a segments n first g l = elim (cases_Bool (leb n 254 && ltb a.reserved segments)) [
  | inl e ↦ let k : Some (256 * a.reserved + 2) ≡ Some first = (rw e at g) in let same : 256 * a.reserved + 2 ≡ first = cc in omega arith
  | inr e ↦ let k : None ≡ Some first = (rw e at g) in let no : ⊥ = cc in no
]

-- where a request goes in a reserved segment, its units are free
pub back_place_free : (a : Area) (segments n first : ℕ) → back_place a segments n ≡ Some first → first / 256 < a.reserved → AreFree a first n
back_place_free a segments n first e l =
    free_from_run a n first (least (is_better a) (fitting n (free_runs a))) (next_segment a segments n)
    (λ r f. least_all (λ r. Passes (is_free a) r × (n ≤ r.count)) (is_better a) (fitting n (free_runs a)) r
    (fitting_all (Passes (is_free a)) n (free_runs a) (runs_pass (is_free a) 0 (256 * a.reserved))) f)
    (λ g. next_unreserved a segments n first g l) e

-- a unit that is free is usable and in no span
pub usable_of : (a : Area) (u : ℕ) → is_free a u ≡ true → is_usable a u ≡ true
usable_of a u h = (and_parts (is_usable a u) (not (list_any (in_span u) a.spans)) h).0

pub outside_of : (a : Area) (u : ℕ) → is_free a u ≡ true → list_any (in_span u) a.spans ≡ false
outside_of a u h = not-true _ (and_parts (is_usable a u) (not (list_any (in_span u) a.spans)) h).1

pub in_span_from : (u : ℕ) (x : Span) → x.first ≤ u → u < x.first + x.pages → in_span u x ≡ true
in_span_from u x low high = and_from (leb x.first u) (ltb u (x.first + x.pages)) (le-leb x.first u low) (lt-ltb u (x.first + x.pages) high)

-- no unit of x lies in these spans
abbrev pub IsClearOf : Span → List Span → Type 0
IsClearOf x ys = (u : ℕ) → x.first ≤ u → u < x.first + x.pages → list_any (in_span u) ys ≡ false

clear_head : (x y : Span) (ys : List Span) → 0 < x.pages → 0 < y.pages → IsClearOf x (y ∷ ys) → (x.first < y.first → x.first + x.pages ≤ y.first) × (y.first ≤ x.first → y.first + y.pages ≤ x.first)
clear_head x y ys p q h = (λ l. below l, λ l. above l)
  where
    below : x.first < y.first → x.first + x.pages ≤ y.first
    below l = elim (cases_lt y.first (x.first + x.pages)) [
      | inl k ↦ absurd (both_ways (in_span y.first y) (or_parts (in_span y.first y) (list_any (in_span y.first) ys) (h y.first (omega arith) k)).0 (in_span_from y.first y (omega arith) (omega arith)))
      | inr k ↦ k
    ]

    above : y.first ≤ x.first → y.first + y.pages ≤ x.first
    above l = elim (cases_lt x.first (y.first + y.pages)) [
      | inl k ↦ absurd (both_ways (in_span x.first y) (or_parts (in_span x.first y) (list_any (in_span x.first) ys) (h x.first (omega arith) (omega arith))).0 (in_span_from x.first y l k))
      | inr k ↦ k
    ]

clear_tail : (x y : Span) (ys : List Span) → IsClearOf x (y ∷ ys) → IsClearOf x ys
clear_tail x y ys h u low high = (or_parts (in_span u y) (list_any (in_span u) ys) (h u low high)).1

insert_in_order : (x : Span) (from : ℕ) (ys : List Span) → from ≤ x.first → 0 < x.pages → IsClearOf x ys → AreInOrder from ys → AreInOrder from (insert_span x ys)
insert_in_order x from [] l p h a = (l, p, tt)
insert_in_order x from (y ∷ ys) l p h a =
    elim (cases_Bool (ltb x.first y.first)) [
      | inl e ↦ rw e (l, p, ((clear_head x y ys p a.1 h).0 (ltb-true x.first y.first e), a.1, a.2))
      | inr e ↦ rw e (a.0, a.1, insert_in_order x (y.first + y.pages) ys ((clear_head x y ys p a.1 h).1 (ltb-false x.first y.first e)) p (clear_tail x y ys h) a.2)
    ]

-- a span where units are free
pub with_span_sound : (a : Area) (x : Span) → 0 < x.pages → AreFree a x.first x.pages → HasSoundSpans a → HasSoundSpans (with_span a x)
with_span_sound a x p free s = record {
  in_order = insert_in_order x 0 a.spans (omega arith) p (λ u low high. outside_of a u (at_unit u low high)) s.in_order;
  committed = all_inserted (IsCommittedSpan (with_span a x)) x a.spans
      (λ u low high. (usable_of a u (at_unit u low high), new_one u low high))
      (all_weaker (IsCommittedSpan a) (IsCommittedSpan (with_span a x)) a.spans (λ y i h u low high. ((h u low high).0, or_right _ (a.committed u) (h u low high).1)) s.committed);
}
  where
    at_unit : (u : ℕ) → x.first ≤ u → u < x.first + x.pages → is_free a u ≡ true
    at_unit u low high = let e : x.first + (u - x.first) ≡ u = omega arith in subst (λ (n : ℕ). is_free a n ≡ true) e (free (u - x.first) (omega arith))

    new_one : (u : ℕ) → x.first ≤ u → u < x.first + x.pages → commit x.first x.pages a.committed u ≡ true
    new_one u low high = or_left (leb x.first u && ltb u (x.first + x.pages)) (a.committed u) (in_span_from u x low high)
