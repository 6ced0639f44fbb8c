-- A run of free pages is no shorter where one more segment is reserved.
use Rattle.std.proofs.Common.{◌≡◌, ℕ, ◌+◌, ◌*◌, ◌/◌, ◌%◌, ◌<◌, ◌≤◌, Bool, true, false, ◌&&◌, not, Option, Some, None, refl, sym, ap, ◌∙◌, subst, inl, inr, arith, eqb, leb, ltb}
use Rattle.std.specs.Prelude.{option_map, unwrap_or}
use Rattle.std.specs.List.{find, list_any}
use Rattle.std.proofs.lemmas.Bool.{and_parts, both_ways, eqb-true, ltb-true, lt-ltb, cases_lt}
use Rattle.heap_model.specs.Runs.{Run, runs, IsRun}
use Rattle.heap_model.specs.State.{Area}
use Rattle.heap_model.specs.Backend.{is_free, free_runs, in_span}
use Rattle.heap_model.specs.Stay.{run_from}
use Rattle.heap_soundness.specs.Sound.{IsOneOf}
use Rattle.heap_soundness.proofs.Lists.{all_at, any_found, find_some, found_in, found_passes}
use Rattle.heap_soundness.proofs.Maximal.{runs_only}
use Rattle.heap_soundness.proofs.GapRuns.{runs_begin}
use Rattle.serial_laws.specs.BackCalls.{one_more_reserved}

abbrev count_of : Option Run → ℕ
count_of o = unwrap_or (option_map (λ (r : Run). r.count) o) 0

only_runs : (test : ℕ → Bool) (high : ℕ) (r : Run) → IsOneOf r (runs test 0 high) → IsRun test 0 high r
only_runs test high r i =
    let z : 0 + high ≡ high = omega arith in
    subst (λ (x : ℕ). IsRun test 0 x r) z (all_at (IsRun test 0 (0 + high)) r (runs test 0 high) (runs_only test 0 high) i)

-- where more numbers pass, and none beside those that did not pass among the first
module _ (test other : ℕ → Bool) (low high at : ℕ) (l : low ≤ high) (more : (u : ℕ) → test u ≡ true → other u ≡ true) (no_more : (u : ℕ) → u < low → test u ≡ false → other u ≡ false) where
  abbrev starts : Run → Bool
  starts r = eqb r.first at

  longer : (r y : Run) → IsRun test 0 low r → IsRun other 0 high y → r.first ≡ at → y.first ≡ at → r.count ≤ y.count
  longer r y i j e f = elim (cases_lt y.count r.count) [
    | inr h ↦ omega (arith, h)
    | inl h ↦
        let b = i.below in
        let p : test (r.first + y.count) ≡ true = i.passes y.count h in
        let w : r.first + y.count ≡ y.first + y.count = omega (arith, e, f) in
        let q = more (y.first + y.count) (subst (λ (x : ℕ). test x ≡ true) w p) in
        absurd (both_ways (other (y.first + y.count)) (j.after (omega (arith, b, h, e, f, l))) q)
  ]

  by_find : (o : Option Run) → find starts (runs test 0 low) ≡ o → count_of o ≤ run_from (runs other 0 high) at
  by_find None e = omega arith
  by_find (Some r) e =
      let i = only_runs test low r (found_in starts (runs test 0 low) r e) in
      let f = eqb-true r.first at (found_passes starts (runs test 0 low) r e) in
      let b = i.below in
      let c = i.some in
      let z : r.first + 0 ≡ at = omega (arith, f) in
      let here : other at ≡ true = more at (subst (λ (x : ℕ). test x ≡ true) z (i.passes 0 c)) in
      let any = runs_begin other 0 high at (omega arith) (omega (arith, b, c, f, l)) here (λ j g h. no_more j (omega (arith, b, c, f, g)) (i.before (omega (arith, f, g)) j (g ∙ sym f))) in
      let y = any_found (λ (r : Run). eqb r.first at) (runs other 0 high) any in
      let q = find_some (λ (r : Run). eqb r.first at) (runs other 0 high) y.0 y.1 y.2 in
      let j = only_runs other high q.0 (found_in (λ (r : Run). eqb r.first at) (runs other 0 high) q.0 q.1) in
      let g = eqb-true q.0.first at (found_passes (λ (r : Run). eqb r.first at) (runs other 0 high) q.0 q.1) in
      let k = longer r q.0 i j f g in
      let same : run_from (runs other 0 high) at ≡ q.0.count = ap count_of q.1 in
      omega (arith, k, same)

  pub run_longer : run_from (runs test 0 low) at ≤ run_from (runs other 0 high) at
  run_longer = by_find (find starts (runs test 0 low)) refl

---- The pages of one more segment

free_more : (a : Area) (u : ℕ) → is_free a u ≡ true → is_free (one_more_reserved a) u ≡ true
free_more a u h =
    let p = and_parts (ltb (u / 256) a.reserved && leb 2 (u % 256)) (not (list_any (in_span u) a.spans)) h in
    let q = and_parts (ltb (u / 256) a.reserved) (leb 2 (u % 256)) p.0 in
    let l = ltb-true (u / 256) a.reserved q.0 in
    let x = lt-ltb (u / 256) (a.reserved + 1) (omega (arith, l)) in
    let y = q.1 in
    let z = p.1 in
    rw (x, y, z) refl

free_no_more : (a : Area) (u : ℕ) → u < 256 * a.reserved → is_free a u ≡ false → is_free (one_more_reserved a) u ≡ false
free_no_more a u l h =
    let x = lt-ltb (u / 256) (a.reserved + 1) (omega (arith, l)) in
    let y = lt-ltb (u / 256) a.reserved (omega (arith, l)) in
    ap (λ (b : Bool). b && leb 2 (u % 256) && not (list_any (in_span u) a.spans)) (x ∙ sym y) ∙ h

pub reserved_longer : (a : Area) (at : ℕ) → run_from (free_runs a) at ≤ run_from (free_runs (one_more_reserved a)) at
reserved_longer a at = run_longer (is_free a) (is_free (one_more_reserved a)) (256 * a.reserved) (256 * (a.reserved + 1)) at (omega arith) (free_more a) (free_no_more a)
