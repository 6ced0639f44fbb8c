-- Where no range is long enough, none is beside one more span.
use Rattle.std.proofs.Common.{◌≡◌, ℕ, zero, suc, ◌+◌, ◌*◌, ◌/◌, ◌%◌, ◌<◌, ◌≤◌, Bool, true, false, ◌&&◌, ◌||◌, not, List, [], ◌∷◌, Option, Some, None, is_none, refl, sym, ap, subst, ◌∙◌, arith, add-zero, eqb, leb, ltb, inl, inr}
use Rattle.std.specs.Prelude.{filter}
use Rattle.std.specs.List.{list_any}
use Rattle.std.proofs.lemmas.Bool.{cases_Bool, cases_eq, and_parts, and_from, or_parts, le-leb, leb-true, ltb-true, eq-eqb, not-true, both_ways, false≢true}
use Rattle.heap_model.specs.Buckets.{bucket_pages, block_size}
use Rattle.heap_model.specs.Runs.{Run, joined, runs, fitting, least}
use Rattle.heap_model.specs.State.{Area, Span, insert_span}
use Rattle.heap_model.specs.Backend.{in_span, is_usable, is_free, free_runs, is_better, back_place, first_or, next_segment}
use Rattle.heap_model.specs.CallState.{Stage, NotBegun, AtHint, FirstPass, SecondPass, CallerView}
use Rattle.heap_model.specs.Search.{SearchKey, spans_of, is_span_of, first_of, is_read, last_read, all_read_at, is_spent}
use Rattle.heap_model.specs.Legal.{with_span, searched_once}
use Rattle.std.specs.Prelude.{is_some}
use Rattle.heap_model.proofs.ListLemmas.{filter-insert_span}
use Rattle.heap_soundness.proofs.RunLemmas.{Passes, runs_pass, fitting_all, least_all}
use Rattle.search_laws.specs.Calls.{lfh_span}

---- Numbers that pass lie in a run

-- a run has at least k
abbrev has_long : ℕ → List Run → Bool
has_long k rs = list_any (λ r. leb k r.count) rs

joined_long : (at k : ℕ) (rs : List Run) → has_long k rs ≡ true → has_long k (joined at rs) ≡ true
joined_long at k [] h = absurd (let z : ⊥ = cc in z)
joined_long at k (r ∷ rs) h = elim (cases_Bool (eqb r.first (suc at))) [
  | inr e ↦ rw e (either (leb k 1) h)
  | inl e ↦ rw e (elim (cases_Bool (leb k r.count)) [
    | inl f ↦ let l = le-leb k (suc r.count) (let g = leb-true k r.count f in omega arith) in rw l refl
    | inr f ↦ rest (leb k (suc r.count)) (rw f at h)
  ])
]
  where
    either : (t : Bool) → has_long k (r ∷ rs) ≡ true → (t || has_long k (r ∷ rs)) ≡ true
    either true h = refl
    either false h = h

    rest : (t : Bool) → has_long k rs ≡ true → (t || has_long k rs) ≡ true
    rest true h = refl
    rest false h = h

-- the first run, where it begins at once
record Leads (at k : ℕ) (rs : List Run) : Type 0 where
  pub first : Run
  pub others : List Run
  pub are : rs ≡ first ∷ others
  pub begins : first.first ≡ at
  pub long : k ≤ first.count

joined_leads : (at k : ℕ) (rs : List Run) → Leads (suc at) k rs → Leads at (suc k) (joined at rs)
joined_leads at k rs l =
    let e = eq-eqb l.first.first (suc at) l.begins in
    record {
      first = record { first = at; count = suc l.first.count };
      others = l.others;
      are = ap (joined at) l.are ∙ rw e refl;
      begins = refl;
      long = let h = l.long in omega arith;
    }

one_leads : (at : ℕ) (rs : List Run) → Leads at 1 (joined at rs)
one_leads at [] = record { first = record { first = at; count = 1 }; others = []; are = refl; begins = refl; long = omega arith }
one_leads at (r ∷ rs) = elim (cases_Bool (eqb r.first (suc at))) [
  | inl e ↦ record { first = record { first = at; count = suc r.count }; others = rs; are = rw e refl; begins = refl; long = omega arith }
  | inr e ↦ record { first = record { first = at; count = 1 }; others = r ∷ rs; are = rw e refl; begins = refl; long = omega arith }
]

module _ (test : ℕ → Bool) where
  leads : (n at k : ℕ) → k < n → ((j : ℕ) → j < suc k → test (at + j) ≡ true) → Leads at (suc k) (runs test at n)
  leads zero at k l h = absurd (omega arith)
  leads (suc n) at zero l h =
      let t : test at ≡ true = subst (λ (u : ℕ). test u ≡ true) (add-zero at) (h 0 (omega arith)) in
      rw t (one_leads at (runs test (suc at) n))
  leads (suc n) at (suc k) l h =
      let t : test at ≡ true = subst (λ (u : ℕ). test u ≡ true) (add-zero at) (h 0 (omega arith)) in
      rw t (joined_leads at (suc k) (runs test (suc at) n) (leads n (suc at) k (omega arith) (λ j m.
      let e : at + suc j ≡ suc at + j = omega arith in
      subst (λ (u : ℕ). test u ≡ true) e (h (suc j) (omega arith)))))

  leads_long : (at k : ℕ) (rs : List Run) → Leads at k rs → has_long k rs ≡ true
  leads_long at k rs l = let e = le-leb k l.first.count l.long in ap (has_long k) l.are ∙ rw e refl

  -- a range of numbers that pass is no longer than some run
  range_long : (n at first k : ℕ) → at ≤ first → first + suc k ≤ at + n → ((j : ℕ) → j < suc k → test (first + j) ≡ true) → has_long (suc k) (runs test at n) ≡ true
  range_long zero at first k low high h = absurd (omega arith)
  range_long (suc n) at first k low high h = elim (cases_eq at first) [
    | inl e ↦ subst (λ (u : ℕ). has_long (suc k) (runs test u (suc n)) ≡ true) (sym e) (leads_long first (suc k) (runs test first (suc n)) (leads (suc n) first k (omega (arith, e, high)) h))
    | inr e ↦
        let again = range_long n (suc at) first k (omega (arith, e, low)) (omega (arith, high)) h in
        elim (cases_Bool (test at)) [ inl t ↦ rw t (joined_long at (suc k) (runs test (suc at) n) again) | inr t ↦ rw t again ]
  ]

---- No range fits

-- where none is the least, none is long enough
none_long : (a : Area) (k : ℕ) (rs : List Run) → least (is_better a) (fitting k rs) ≡ None → has_long k rs ≡ false
none_long a k [] h = refl
none_long a k (r ∷ rs) h = elim (cases_Bool (leb k r.count)) [
  | inl e ↦ absurd (let f = rw e at h in let z : ⊥ = cc in z)
  | inr e ↦ rw e (none_long a k rs (rw e at h))
]

-- fewer spans have no more units
fewer : (t : Span → Bool) (x : Span) (ys : List Span) → list_any t (insert_span x ys) ≡ false → list_any t ys ≡ false
fewer t x [] h = refl
fewer t x (y ∷ ys) h = elim (cases_Bool (ltb x.first y.first)) [
  | inl e ↦ (or_parts (t x) (list_any t (y ∷ ys)) (rw e at h)).1
  | inr e ↦ let p = or_parts (t y) (list_any t (insert_span x ys)) (rw e at h) in let n = p.0 in rw n (fewer t x ys p.1)
]

module _ (a : Area) (x : Span) (segments k : ℕ) (none : back_place a segments (suc k) ≡ None) where
  abbrev more : Area
  more = with_span a x

  free_before : (u : ℕ) → is_free more u ≡ true → is_free a u ≡ true
  free_before u h =
      let p = and_parts (is_usable a u) (not (list_any (in_span u) more.spans)) h in
      let f = fewer (in_span u) x a.spans (not-true _ p.1) in
      and_from (is_usable a u) (not (list_any (in_span u) a.spans)) p.0 (rw f refl)

  -- neither a run nor the next segment
  parts : (o : Option Run) (rest : Option ℕ) → first_or o rest ≡ None → (o ≡ None) × (rest ≡ None)
  parts None rest h = (refl, h)
  parts (Some r) rest h = absurd (let z : ⊥ = cc in z)

  no_run : (least (is_better a) (fitting (suc k) (free_runs a)) ≡ None) × (next_segment a segments (suc k) ≡ None)
  no_run = parts (least (is_better a) (fitting (suc k) (free_runs a))) (next_segment a segments (suc k)) none

  -- a free unit is below the end
  below : (u : ℕ) → is_free a u ≡ true → u < 256 * a.reserved
  below u h =
      let p = and_parts (is_usable a u) (not (list_any (in_span u) a.spans)) h in
      let q = and_parts (ltb (u / 256) a.reserved) (leb 2 (u % 256)) p.0 in
      let l = ltb-true (u / 256) a.reserved q.0 in
      omega arith

  refused : (r : Run) → Passes (is_free more) r → suc k ≤ r.count → ⊥
  refused r p l =
      let free : (j : ℕ) → j < suc k → is_free a (r.first + j) ≡ true = λ j m. free_before (r.first + j) (p j (omega arith)) in
      let last = below (r.first + k) (free k (omega arith)) in
      both_ways (has_long (suc k) (free_runs a)) (none_long a (suc k) (free_runs a) no_run.0)
      (range_long (is_free a) (256 * a.reserved) 0 r.first k (omega arith) (omega (arith, last)) free)

  by_run : (o : Option Run) → ((r : Run) → o ≡ Some r → Passes (is_free more) r × (suc k ≤ r.count)) → first_or o (next_segment a segments (suc k)) ≡ None
  by_run None f = no_run.1
  by_run (Some r) f = let p = f r refl in absurd (refused r p.0 p.1)

  none_with : back_place more segments (suc k) ≡ None
  none_with = by_run (least (is_better more) (fitting (suc k) (free_runs more))) (λ r e.
      least_all (λ r. Passes (is_free more) r × (suc k ≤ r.count)) (is_better more) (fitting (suc k) (free_runs more)) r
      (fitting_all (Passes (is_free more)) (suc k) (free_runs more) (runs_pass (is_free more) 0 (256 * a.reserved))) e)

some_pages : (b : ℕ) → (k : ℕ) × (bucket_pages b ≡ suc k) × (leb (suc k) 254 ≡ true)
some_pages b = elim (cases_Bool (leb (block_size b) 256)) [
  | inl e ↦ (0, rw e refl, refl)
  | inr e ↦ elim (cases_Bool (leb (block_size b) 1024)) [
    | inl f ↦ (3, rw (e, f) refl, refl)
    | inr f ↦ elim (cases_Bool (leb (block_size b) 4096)) [ inl g ↦ (15, rw (e, f, g) refl, refl) | inr g ↦ (63, rw (e, f, g) refl, refl) ]
  ]
]

pub none_with_span : (a : Area) (x : Span) (segments b : ℕ) → back_place a segments (bucket_pages b) ≡ None → back_place (with_span a x) segments (bucket_pages b) ≡ None
none_with_span a x segments b h =
    let p = some_pages b in
    ap (back_place (with_span a x) segments) p.1 ∙ none_with a x segments p.0 (ap (back_place a segments) (sym p.1) ∙ h)

---- No segment is left

none_left : (a : Area) (segments k j : ℕ) → leb k 254 ≡ true → next_segment a segments k ≡ None → next_segment a segments j ≡ None
none_left a segments k j l h = elim (cases_Bool (ltb a.reserved segments)) [
  | inl e ↦ absurd (let f = rw (l, e) at h in let z : ⊥ = cc in z)
  | inr e ↦ rw e (elim (cases_Bool (leb j 254)) [ inl t ↦ rw t refl | inr t ↦ rw t refl ])
]

-- where no range is there for a bucket, a range for a span lies in a reserved segment
pub is_reserved : (a : Area) (segments b j first : ℕ) → 0 < j → back_place a segments (bucket_pages b) ≡ None → back_place a segments j ≡ Some first → first / 256 < a.reserved
is_reserved a segments b j first some h there =
    by_run (least (is_better a) (fitting j (free_runs a))) (λ r e.
    least_all (λ r. Passes (is_free a) r × (j ≤ r.count)) (is_better a) (fitting j (free_runs a)) r
    (fitting_all (Passes (is_free a)) j (free_runs a) (runs_pass (is_free a) 0 (256 * a.reserved))) e) there
  where
    pages : (k : ℕ) × (bucket_pages b ≡ suc k) × (leb (suc k) 254 ≡ true)
    pages = some_pages b

    no_next : next_segment a segments j ≡ None
    no_next =
        let x = lfh_span 0 b 0 in
        none_left a segments (suc pages.0) j pages.2 (no_run a x segments pages.0 (ap (back_place a segments) (sym pages.1) ∙ h)).1

    lower : (u : ℕ) → is_free a u ≡ true → u / 256 < a.reserved
    lower u f =
        let p = and_parts (is_usable a u) (not (list_any (in_span u) a.spans)) f in
        ltb-true (u / 256) a.reserved (and_parts (ltb (u / 256) a.reserved) (leb 2 (u % 256)) p.0).0

    by_run : (o : Option Run) → ((r : Run) → o ≡ Some r → Passes (is_free a) r × (j ≤ r.count)) → first_or o (next_segment a segments j) ≡ Some first → first / 256 < a.reserved
    by_run None f e = absurd (let g = no_next in let z : ⊥ = cc in z)
    by_run (Some r) f e =
        let p = f r refl in
        let same : r.first ≡ first = cc in
        let free : is_free a r.first ≡ true = subst (λ (u : ℕ). is_free a u ≡ true) (add-zero r.first) (p.0 0 (omega (arith, some, p.1))) in
        subst (λ (u : ℕ). u / 256 < a.reserved) same (lower r.first free)

---- A spent search

-- a search that is spent and has not lost counts as one
pub spent_counts : (a : Area) (k : CallerView) (g : SearchKey) → is_spent a k g ≡ true → k.call.search.lost ≡ 0 → searched_once k.call.search.stage ≡ 1
spent_counts a k g h none_lost =
    let p = and_parts k.back (eqb k.call.search.lost 8 || (k.call.search.ended && all_read_at a k g k.call.search.stage)) h in
    let q : (k.call.search.ended && all_read_at a k g k.call.search.stage) ≡ true = rw none_lost at p.1 in
    read (k.call.search.stage) (and_parts k.call.search.ended (all_read_at a k g k.call.search.stage) q).1
  where
    read : (stage : Stage) → all_read_at a k g stage ≡ true → searched_once stage ≡ 1
    read NotBegun e = absurd (false≢true e)
    read AtHint e = refl
    read FirstPass e = refl
    read SecondPass e = refl

all_same : (a c : Area) (k : CallerView) (g : SearchKey) (stage : Stage) → spans_of c g.bucket g.slot ≡ spans_of a g.bucket g.slot → all_read_at c k g stage ≡ all_read_at a k g stage
all_same a c k g NotBegun e = refl
all_same a c k g AtHint e = ap (λ (xs : List Span). is_none (first_of xs) && not k.call.no_span) e
all_same a c k g FirstPass e = ap (λ (xs : List Span). is_none (first_of (filter (λ x. not (is_read k.call.search x)) xs)) && not k.call.no_span) e
all_same a c k g SecondPass e = ap (λ (xs : List Span). is_none (first_of (filter (λ x. not (is_read k.call.search x)) xs)) && (is_some (last_read k.call.search) || k.vs)) e

-- a search that is spent is so beside one more span of another kind
pub spent_with : (a : Area) (x : Span) (k : CallerView) (g : SearchKey) → is_span_of g.bucket g.slot x ≡ false → is_spent a k g ≡ true → is_spent (with_span a x) k g ≡ true
spent_with a x k g other h =
    ap (λ (t : Bool). k.back && (eqb k.call.search.lost 8 || (k.call.search.ended && t))) (all_same a (with_span a x) k g k.call.search.stage (filter-insert_span (is_span_of g.bucket g.slot) x a.spans other)) ∙ h
