-- A VS place that gets longer or shorter where it is.
use Rattle.std.proofs.Common.{◌≡◌, ℕ, suc, ◌+◌, ◌-◌, ◌*◌, ◌/◌, ◌%◌, ◌<◌, ◌≤◌, true, false, List, ◌∷◌, Option, Some, None, refl, sym, ap, ◌∙◌, subst, arith, eqb, inl, inr, ◌⊎◌}
use Rattle.std.specs.Prelude.{filter, option_map, unwrap_or}
use Rattle.std.specs.List.{find}
use Rattle.std.proofs.lemmas.Bool.{cases_lt, both_ways, eqb-true, false_from_ne_true}
use Rattle.heap_model.specs.declared.Kind.TheVariants as kinds
use Rattle.heap_model.specs.Runs.{Run}
use Rattle.heap_model.specs.State.{Span, Place, is_kind}
use Rattle.heap_model.specs.Ranges.{in_place, is_clear, gaps_in, gaps_of, is_of_kind}
use Rattle.heap_model.specs.Stay.{run_from}
use Rattle.heap_soundness.specs.Sound.{AreInOrder, IsInVs}
use Rattle.heap_soundness.specs.Invariant.{IsVsSound}
use Rattle.heap_soundness.proofs.Lists.{all_at, found_in, found_passes, find_some, any_found}
use Rattle.heap_soundness.proofs.Spans.{above}
use Rattle.heap_soundness.proofs.VsGaps.{in_at, in_from, clear_parts, clear_from, StartsAligned, aligned_of, all_clear, same_vs, vs_dropped, vs_placed}
use Rattle.heap_soundness.proofs.GapRuns.{runs_begin, gaps_are, IsGap, in_filtered, any_flat}

-- what is free right behind a VS place: so many granules, and then no more
pub record IsFreeBehind (ps : List Place) (high end n : ℕ) : Type 0 where
  pub inside : end + n ≤ high
  pub passes : (k : ℕ) → k < n → is_clear ps (end + k) ≡ true
  pub behind : end + n < high → is_clear ps (end + n) ≡ false

-- p is the first of these, and the others are os
module _ (xs : List Span) (ps : List Place) (p : Place) (os : List Place) (a : AreInOrder 0 xs) (same : (g : ℕ) → is_clear ps g ≡ is_clear (p ∷ os) g) (h : IsVsSound xs (p ∷ os)) where
  abbrev pub home : IsInVs xs p.start p.granules
  home = h.places.0

  start : StartsAligned p
  start = aligned_of p.start home.aligned

  some : 0 < p.granules
  some = let two = home.two in omega arith

  in_span : (g : ℕ) → in_place g p ≡ true → (256 * home.span.first + 3 ≤ g) × (g < 256 * (home.span.first + home.span.pages))
  in_span g i = let q = in_at g p i in let b = home.behind in let e = home.before in let q0 = q.0 in let q1 = q.1 in (omega arith, omega (arith, start))

  taken : (g : ℕ) → in_place g p ≡ true → is_clear ps g ≡ false
  taken g i = same g ∙ (rw i refl)

  run_of : (r : Run) → IsGap xs ps r → r.first ≡ p.start / 16 + p.granules → IsFreeBehind ps (256 * (home.span.first + home.span.pages)) (p.start / 16 + p.granules) r.count
  run_of r g e =
      let i = g.run in
      let low = i.above in
      let high = i.below in
      let n = i.some in
      let last = in_from (p.start / 16 + p.granules - 1) p (omega (arith, some)) (omega (arith, some)) in
      let l = in_span (p.start / 16 + p.granules - 1) last in
      let l0 = l.0 in
      let l1 = l.1 in
      let pages = (above 0 xs g.span a g.there).1 in
      let is : g.span ≡ home.span = same_vs xs g.span home.span (p.start / 16 + p.granules - 1) a g.there home.there (omega arith) (omega arith) (omega arith) l1 in
      subst (λ (z : Span). IsFreeBehind ps (256 * (z.first + z.pages)) (p.start / 16 + p.granules) r.count) is (record {
        inside = omega arith;
        passes = λ k m. subst (λ (z : ℕ). is_clear ps (z + k) ≡ true) e (i.passes k m);
        behind = λ m. subst (λ (z : ℕ). is_clear ps (z + r.count) ≡ false) e (i.after (omega arith));
      })

  none_of : find (λ (r : Run). eqb r.first (p.start / 16 + p.granules)) (gaps_of (filter (is_of_kind kinds.Vs) xs) ps) ≡ None → IsFreeBehind ps (256 * (home.span.first + home.span.pages)) (p.start / 16 + p.granules) 0
  none_of e =
      let last = in_from (p.start / 16 + p.granules - 1) p (omega (arith, some)) (omega (arith, some)) in
      let l = in_span (p.start / 16 + p.granules - 1) last in
      let l0 = l.0 in
      let l1 = l.1 in
      record {
        inside = omega (arith, some);
        passes = λ k m. absurd (omega arith);
        behind = λ m. false_from_ne_true (is_clear ps (p.start / 16 + p.granules + 0)) (λ t. begins (end_is m) (end_clear t) (omega (arith, l0, some)) last);
      }
    where
      end_is : p.start / 16 + p.granules + 0 < 256 * (home.span.first + home.span.pages) → p.start / 16 + p.granules < 256 * (home.span.first + home.span.pages)
      end_is m = omega arith

      end_clear : is_clear ps (p.start / 16 + p.granules + 0) ≡ true → is_clear ps (p.start / 16 + p.granules) ≡ true
      end_clear t = let f : p.start / 16 + p.granules + 0 ≡ p.start / 16 + p.granules = omega arith in subst (λ (z : ℕ). is_clear ps z ≡ true) f t

      begins : p.start / 16 + p.granules < 256 * (home.span.first + home.span.pages) → is_clear ps (p.start / 16 + p.granules) ≡ true → 256 * home.span.first + 3 ≤ p.start / 16 + p.granules → in_place (p.start / 16 + p.granules - 1) p ≡ true → ⊥
      begins m t l last =
          let pages = (above 0 xs home.span a home.there).1 in
          let b = runs_begin (is_clear ps) (256 * home.span.first + 3) (256 * home.span.pages - 3) (p.start / 16 + p.granules) l (omega arith) t
          (λ j f g. let at : p.start / 16 + p.granules - 1 ≡ j = omega (arith, some) in subst (λ (z : ℕ). is_clear ps z ≡ false) at (taken (p.start / 16 + p.granules - 1) last)) in
          let kind : is_of_kind kinds.Vs home.span ≡ true = ap (λ k. is_kind k kinds.Vs) home.kind in
          let w = any_found (λ (r : Run). eqb r.first (p.start / 16 + p.granules)) (gaps_of (filter (is_of_kind kinds.Vs) xs) ps)
          (any_flat (λ (r : Run). eqb r.first (p.start / 16 + p.granules)) (gaps_in ps) (filter (is_of_kind kinds.Vs) xs) home.span (in_filtered (is_of_kind kinds.Vs) home.span xs kind home.there) b) in
          let f = find_some (λ (r : Run). eqb r.first (p.start / 16 + p.granules)) (gaps_of (filter (is_of_kind kinds.Vs) xs) ps) w.0 w.1 w.2 in
          let no : None ≡ Some f.0 = sym e ∙ f.1 in
          let z : ⊥ = cc in z

  pub free_behind : IsFreeBehind ps (256 * (home.span.first + home.span.pages)) (p.start / 16 + p.granules) (run_from (gaps_of (filter (is_of_kind kinds.Vs) xs) ps) (p.start / 16 + p.granules))
  free_behind = by_find (find (λ (r : Run). eqb r.first (p.start / 16 + p.granules)) (gaps_of (filter (is_of_kind kinds.Vs) xs) ps)) refl
    where
      by_find : (o : Option Run) → find (λ (r : Run). eqb r.first (p.start / 16 + p.granules)) (gaps_of (filter (is_of_kind kinds.Vs) xs) ps) ≡ o → IsFreeBehind ps (256 * (home.span.first + home.span.pages)) (p.start / 16 + p.granules) (unwrap_or (option_map (λ (r : Run). r.count) o) 0)
      by_find None e = none_of e
      by_find (Some r) e =
          run_of r (all_at (IsGap xs ps) r (gaps_of (filter (is_of_kind kinds.Vs) xs) ps) (gaps_are xs ps) (found_in (λ (r : Run). eqb r.first (p.start / 16 + p.granules)) (gaps_of (filter (is_of_kind kinds.Vs) xs) ps) r e))
          (eqb-true r.first (p.start / 16 + p.granules) (found_passes (λ (r : Run). eqb r.first (p.start / 16 + p.granules)) (gaps_of (filter (is_of_kind kinds.Vs) xs) ps) r e))

  -- p has n granules now, of those that it had and the free ones behind it
  pub vs_resized : (n free : ℕ) (q : Place) → IsFreeBehind ps (256 * (home.span.first + home.span.pages)) (p.start / 16 + p.granules) free → q.start ≡ p.start → q.granules ≡ n →
      2 ≤ n → n ≤ p.granules + free → (n ≡ p.granules + free) ⊎ (n + 2 ≤ p.granules + free) → IsVsSound xs (q ∷ os)
  vs_resized n free q f e g two l left = vs_placed xs q os a here (vs_dropped xs p os a h) (λ k l u. clear k (omega arith) (omega arith)) (record { before = before; behind = behind left })
    where
      here : IsInVs xs q.start q.granules
      here = record { span = home.span; there = home.there; kind = home.kind; behind = let b = home.behind in omega arith; before = let i = f.inside in omega (arith, start); two = omega arith; aligned = subst (λ (z : ℕ). z % 16 ≡ 0) (sym e) home.aligned }

      not_in : (k : ℕ) → (k < p.start / 16) ⊎ (p.start / 16 + p.granules ≤ k) → in_place k p ≡ false
      not_in k (inl l) = false_from_ne_true (in_place k p) (λ i. let r = (in_at k p i).0 in omega arith)
      not_in k (inr l) = false_from_ne_true (in_place k p) (λ i. let r = (in_at k p i).1 in omega arith)

      clear : (k : ℕ) → p.start / 16 ≤ k → k < p.start / 16 + p.granules + free → is_clear os k ≡ true
      clear k l u = elim (cases_lt k (p.start / 16 + p.granules)) [
        | inl m ↦ all_clear xs p os k start h.places.1 h.disjoint.0 (in_from k p l m)
        | inr m ↦ let at : p.start / 16 + p.granules + (k - (p.start / 16 + p.granules)) ≡ k = omega arith in (clear_parts k p os (sym (same k) ∙ subst (λ (z : ℕ). is_clear ps z ≡ true) at (f.passes (k - (p.start / 16 + p.granules)) (omega arith)))).1
      ]

      before : (k : ℕ) → suc k ≡ q.start / 16 → 256 * home.span.first + 3 ≤ k → is_clear os k ≡ true → (j : ℕ) × (suc j ≡ k) × (256 * home.span.first + 3 ≤ j) × (is_clear os j ≡ true)
      before k m lo t =
          let at : suc k ≡ p.start / 16 = omega arith in
          let first = in_from (suc k) p (omega arith) (omega (arith, some)) in
          let high = (in_span (suc k) first).1 in
          elim (h.clear home.span home.there home.kind k lo (omega arith) (clear_from k p os (not_in k (inl (omega arith))) t)) [
            | inl r ↦ absurd (both_ways _ (clear_parts (suc k) p os r.1).0 first)
            | inr r ↦ (r.0, r.1, r.2, (clear_parts r.0 p os r.3).1)
          ]

      behind : (n ≡ p.granules + free) ⊎ (n + 2 ≤ p.granules + free) → q.start / 16 + q.granules < 256 * (home.span.first + home.span.pages) → is_clear os (q.start / 16 + q.granules) ≡ true → (suc (q.start / 16 + q.granules) < 256 * (home.span.first + home.span.pages)) × (is_clear os (suc (q.start / 16 + q.granules)) ≡ true)
      behind (inl m) r t =
          let at : q.start / 16 + q.granules ≡ p.start / 16 + p.granules + free = omega arith in
          let c = clear_from (p.start / 16 + p.granules + free) p os (not_in (p.start / 16 + p.granules + free) (inr (omega arith))) (subst (λ (z : ℕ). is_clear os z ≡ true) at t) in
          absurd (both_ways _ (f.behind (omega arith)) (same (p.start / 16 + p.granules + free) ∙ c))
      behind (inr m) r t = let i = f.inside in (omega arith, clear (suc (q.start / 16 + q.granules)) (omega arith) (omega arith))
