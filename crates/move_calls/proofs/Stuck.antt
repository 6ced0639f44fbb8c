-- The old block stays where it is while its caller takes more locks, and it cannot stay at its address then either.
use Rattle.std.proofs.Common.{◌≡◌, ℕ, ◌+◌, ◌-◌, ◌*◌, ◌/◌, true, false, ◌&&◌, refl, sym, ap, ◌∙◌, subst, leb}
use Rattle.std.specs.List.{find}
use Rattle.std.proofs.lemmas.Bool.{true≢false}
use Rattle.heap_model.specs.declared.Layer.{Layer}
use Rattle.heap_model.specs.declared.Layer.TheVariants as layers
use Rattle.heap_model.specs.declared.What.{What}
use Rattle.heap_model.specs.declared.What.TheVariants as whats
use Rattle.heap_model.specs.CallState.{Configuration, caller_view}
use Rattle.heap_model.specs.Geometry.{route_of, is_paged, is_huge, units_of, pages_of}
use Rattle.heap_model.specs.Legal.{may_touch}
use Rattle.heap_model.specs.Ranges.{gaps_of, large_runs}
use Rattle.heap_model.specs.State.{Setting, VsPart, BackPart, Place, is_layer, has_address, holds, places_of}
use Rattle.heap_model.specs.Stay.{run_from, reach_back, lets_stay}
use Rattle.claim_rule.specs.Entries.{IsSettingOf}
use Rattle.heap_gate.specs.Token.{Token, Always, now, IsStanding, is_out}
use Rattle.heap_gate.specs.Calls.{IsGuarded}
use Rattle.stay_calls.specs.Stays.{IsStuck}

-- what lets a block stay is guarded by the lock of its layer
leaves_guarded : (s : Setting) (c : ℕ) (m k : Configuration) (p : Place) (n : ℕ) (l : Layer) → p.layer ≡ l → IsGuarded c m k → may_touch (caller_view m c) l ≡ true → lets_stay s.limits k.state p n ≡ lets_stay s.limits m.state p n
leaves_guarded s c m k p n layers.Lfh e x t = rw e refl
leaves_guarded s c m k p n layers.Vs e x t =
    rw e (λ i. leb n 131072 && leb (units_of n) (p.granules + run_from (gaps_of (x.spans t i) (x.vs t i).places) (p.start / 16 + p.granules)))
leaves_guarded s c m k p n layers.Back e x t = rw e (λ i. is_paged (route_of n) && leb (256 * pages_of n) (reach_back 4096 (x.back t i).area p))
leaves_guarded s c m k p n layers.Large e x t =
    rw e (λ i. is_huge (route_of n) && leb (256 * pages_of n) (p.granules + 256 * run_from (large_runs s.limits (x.large t i)) (p.start / 4096 - 256 * s.limits.segments + p.granules / 256)))

-- .. and so are its places
list_guarded : (c : ℕ) (m k : Configuration) (l : Layer) → IsGuarded c m k → is_layer l layers.Lfh ≡ false → may_touch (caller_view m c) l ≡ true → places_of k.state l ≡ places_of m.state l
list_guarded c m k layers.Lfh x f t = absurd (true≢false f)
list_guarded c m k layers.Vs x f t = ap (λ (y : VsPart). y.places) (x.vs t)
list_guarded c m k layers.Back x f t = ap (λ (y : BackPart). y.places) (x.back t)
list_guarded c m k layers.Large x f t = x.large t

-- a lock that is held is held behind more
touch_held : (n : ℕ) (m k : Configuration) (l : Layer) → ((w : What) → holds m.state.gate n w ≡ true → holds k.state.gate n w ≡ true) → may_touch (caller_view m n) l ≡ true → may_touch (caller_view k n) l ≡ true
touch_held n m k layers.Lfh h t = refl
touch_held n m k layers.Vs h t = h whats.Vs t
touch_held n m k layers.Back h t = h whats.Back t
touch_held n m k layers.Large h t = h whats.Large t

module _ (c d : Token) (number : d.number ≡ c.number) (before : (s : Setting) → IsSettingOf d.opening d.roll s → IsSettingOf c.opening c.roll s) (sc : IsStanding c) (sd : IsStanding d) (more : (w : What) → is_out w c.out ≡ true → is_out w d.out ≡ true)
    (g : Always d (λ s. IsGuarded c.number (now s c) (now s d))) where
  held_more : Always d (λ s. (w : What) → holds (now s c).state.gate c.number w ≡ true → holds (now s d).state.gate c.number w ≡ true)
  held_more s q w h =
      let a = sc s (before s q) in let b = sd s q in
      ap (λ (k : ℕ). holds (now s d).state.gate k w) (sym number) ∙ (b.locks w ∙ more w (sym (a.locks w) ∙ h))

  pub stuck_then : (addr size n : ℕ) (p : Place) → IsStuck c addr size n p → IsStuck d addr size n p
  stuck_then addr size n p x = record {
    live = x.live;
    behind = x.behind;
    there = λ s q. let y = before s q in ap (find (has_address addr)) (list_guarded c.number (now s c) (now s d) p.layer (g s q) x.behind (x.touch s y)) ∙ x.there s y;
    touch = λ s q. let y = before s q in subst (λ (k : ℕ). may_touch (caller_view (now s d) k) p.layer ≡ true) (sym number) (touch_held c.number (now s c) (now s d) p.layer (held_more s q) (x.touch s y));
    leaves = λ s q. let y = before s q in leaves_guarded s c.number (now s c) (now s d) p n p.layer refl (g s q) (x.touch s y) ∙ x.leaves s y;
  }
