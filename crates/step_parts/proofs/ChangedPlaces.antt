-- One place of the front end is taken away or changed, and the words that show it.
use Rattle.std.proofs.Common.{◌≡◌, ℕ, ◌+◌, ◌-◌, ◌*◌, ◌/◌, ◌%◌, ◌<◌, ◌≤◌, Bool, true, false, ◌&&◌, List, [], ◌∷◌, refl, sym, ap, ◌∙◌, subst, arith, Option, Some, None, inl, inr, eqb, eq-eqb}
use Rattle.std.specs.Prelude.{option_map, unwrap_or}
use Rattle.std.specs.List.{find, AllByRecursion}
use Rattle.std.proofs.lemmas.Bool.{cases_Bool, and_from, eqb-true}
use Rattle.heap_model.specs.declared.Layer.{Layer}
use Rattle.heap_model.specs.declared.Layer.TheVariants as layers
use Rattle.heap_model.specs.declared.Limits.{Limits}
use Rattle.heap_model.specs.Bits.{starts_at, bits_of, is_taken}
use Rattle.heap_model.specs.Buckets.{block_count, block_address}
use Rattle.heap_model.specs.State.{State as HeapState, Span, Place, Status, address, has_address, live_size, change_found, remove_found, gate_word}
use Rattle.heap_model.specs.CallState.{Configuration, SpanHistory}
use Rattle.heap_model.specs.Search.{begins_at}
use Rattle.heap_model.specs.Legal.{with_status}
use Rattle.heap_soundness.specs.Sound.{IsOneOf}
use Rattle.heap_soundness.proofs.Lists.{all_at, all_from, found_in, found_passes}
use Rattle.claim_rule.specs.declared.views.Owed.{Owed}
use Rattle.claim_rule.specs.Shown.{lfh_spans, flag, bitmap_word, size_word, owed_or, tag_word, hint_word}
use Rattle.claim_rule.proofs.Behind.{Becomes, stays, IsBehind, IsOwedSoundly, still_owed, locks_stay}
use Rattle.step_parts.proofs.BitmapWords.{same_word_of}
use Rattle.step_parts.specs.Starts.{HaveOwnStarts}
use Rattle.step_parts.proofs.Starts.{begins, OfLfh, same_removed, same_changed, any_changed}

---- The words where only places of the front end are others

-- the state with these places of the front end
abbrev pub with_lfh : HeapState → List Place → HeapState
with_lfh st qs = record st { lfh = qs }

module _ (l : Limits) (m' m : Configuration) (owes : List Owed) (at v : ℕ) (qs : List Place) (e : m'.state ≡ with_lfh m.state qs) (h : m'.now.span_history ≡ m.now.span_history) where
  -- the parts of the words where only bits and sizes change
  pub places_only : 2182 + 256 * l.segments ≤ at → at < 2182 + 66816 * l.segments
      → ((k : ℕ) → k < 1024 * l.segments → Becomes at v (2182 + 256 * l.segments + k) (bitmap_word qs (lfh_spans m.state.back.area) (k / 4) (k % 4)) (bitmap_word m.state.lfh (lfh_spans m.state.back.area) (k / 4) (k % 4)))
      → ((k : ℕ) → k < 65536 * l.segments → Becomes at v (2182 + 1280 * l.segments + k) (size_word qs k) (size_word m.state.lfh k))
      → IsBehind l m' m owes owes at v
  places_only low high bits sizes = record {
    gate = stays at v 1 _ _ (λ k. omega arith) (ap (λ (x : HeapState). gate_word x.gate) e);
    locks = locks_stay at v _ _ (inr (omega arith)) (ap (λ (x : HeapState). x.gate.locks) e);
    active = λ k lk. stays at v (6 + k) _ _ (λ g. omega arith) (ap (λ (x : HeapState). flag (x.vs.active (k + 1))) e);
    hints = λ b t lb hb ft. stays at v (118 + 16 * b + t) _ _ (λ g. omega arith) (ap (λ (z : HeapState × SpanHistory). owed_or owes (118 + 16 * b + t) (hint_word z.0.back.area z.1 b t)) (λ j. (e j, h j)));
    tags = λ page lp. stays at v (2182 + page) _ _ (λ g. omega arith) (ap (λ (x : HeapState). owed_or owes (2182 + page) (tag_word (lfh_spans x.back.area) page)) e);
    bitmaps = λ k lk. subst (λ (x : HeapState). Becomes at v (2182 + 256 * l.segments + k) (bitmap_word x.lfh (lfh_spans x.back.area) (k / 4) (k % 4)) (bitmap_word m.state.lfh (lfh_spans m.state.back.area) (k / 4) (k % 4))) (sym e) (bits k lk);
    sizes = λ k lk. subst (λ (x : HeapState). Becomes at v (2182 + 1280 * l.segments + k) (size_word x.lfh k) (size_word m.state.lfh k)) (sym e) (sizes k lk);
    stored = λ k lk. stays at v (2182 + 66816 * l.segments + k) _ _ (λ g. omega arith) (ap (λ (x : HeapState). x.words k) e);
  }

  -- what is owed stays
  pub owed_places : IsOwedSoundly l m owes → IsOwedSoundly l m' owes
  owed_places f = still_owed l m' m owes (ap (λ (x : HeapState). x.back.area) e) h (ap (λ (x : HeapState). x.gate.locks.back) e) (ap (λ (x : HeapState). x.gate.owner) e) f

---- The one place that begins at an address

-- two places that begin at one address are one
pub one_start : (ps : List Place) (p q : Place) → HaveOwnStarts ps → IsOneOf p ps → IsOneOf q ps → p.start ≡ q.start → p ≡ q
one_start [] p q h i j e = absurd i
one_start (x ∷ xs) p q h (inl a) (inl b) e = sym a ∙ b
one_start (x ∷ xs) p q h (inl a) (inr j) e = absurd (all_at (λ z. x.start ≡ z.start → ⊥) q xs h.0 j (ap (λ (z : Place). z.start) a ∙ e))
one_start (x ∷ xs) p q h (inr i) (inl b) e = absurd (all_at (λ z. x.start ≡ z.start → ⊥) p xs h.0 i (ap (λ (z : Place). z.start) b ∙ sym e))
one_start (x ∷ xs) p q h (inr i) (inr j) e = one_start xs p q h.1 i j e

-- a place of the front end has the address at which it begins
pub lfh_address : (p : Place) → p.layer ≡ layers.Lfh → address p ≡ p.start
lfh_address p e = by p.layer e
  where
    by : (k : Layer) → k ≡ layers.Lfh → address (record p { layer = k }) ≡ p.start
    by k e = rw e refl

-- .. one of another layer has the address that its layer says
pub vs_address : (q : Place) → q.layer ≡ layers.Vs → address q ≡ q.start + 16
vs_address q e = by q.layer e
  where
    by : (l : Layer) → l ≡ layers.Vs → address (record q { layer = l }) ≡ q.start + 16
    by l e = rw e refl

pub back_address : (q : Place) → q.layer ≡ layers.Back → address q ≡ q.start
back_address q e = by q.layer e
  where
    by : (l : Layer) → l ≡ layers.Back → address (record q { layer = l }) ≡ q.start
    by l e = rw e refl

pub large_address : (q : Place) → q.layer ≡ layers.Large → address q ≡ q.start
large_address q e = by q.layer e
  where
    by : (l : Layer) → l ≡ layers.Large → address (record q { layer = l }) ≡ q.start
    by l e = rw e refl

module _ (ps : List Place) (of : AllByRecursion OfLfh ps) (apart : HaveOwnStarts ps) (p : Place) (there : IsOneOf p ps) where
  -- a test of the address and of something that the place has
  same_test : (u : Status → Bool) → u p.status ≡ true → AllByRecursion (λ q. (has_address p.start q && u q.status) ≡ begins p.start q) ps
  same_test u h = all_from (λ q. (has_address p.start q && u q.status) ≡ begins p.start q) ps (λ q i.
      let a = lfh_address q (all_at OfLfh q ps of i) in
      elim (cases_Bool (eqb q.start p.start)) [
        | inl e ↦
            let same = one_start ps p q apart there i (sym (eqb-true q.start p.start e)) in
            and_from (has_address p.start q) (u q.status) (ap (λ (z : ℕ). eqb z p.start) a ∙ e) (ap (λ (z : Place). u z.status) (sym same) ∙ h) ∙ sym e
        | inr e ↦ let n : has_address p.start q ≡ false = ap (λ (z : ℕ). eqb z p.start) a ∙ e in (rw n refl) ∙ sym e
      ])

  -- to remove by a test of address and status is to remove what begins there
  pub removed_is : (u : Status → Bool) → u p.status ≡ true → remove_found (λ q. has_address p.start q && u q.status) ps ≡ remove_found (begins p.start) ps
  removed_is u h = same_removed (λ q. has_address p.start q && u q.status) (begins p.start) ps (same_test u h)

  -- .. and so it is to change
  pub changed_is : (u : Status → Bool) (f : Place → Place) → u p.status ≡ true → change_found (λ q. has_address p.start q && u q.status) f ps ≡ change_found (begins p.start) f ps
  changed_is u f h = same_changed (λ q. has_address p.start q && u q.status) (begins p.start) f ps (same_test u h)

  -- .. and to find
  pub found_is : find (begins p.start) ps ≡ Some p
  found_is =
      let r = Rattle.heap_soundness.proofs.Lists.find_some (begins p.start) ps p there (eq-eqb p.start p.start refl) in
      let e = eqb-true r.0.start p.start (found_passes (begins p.start) ps r.0 r.1) in
      r.1 ∙ ap Some (one_start ps r.0 p apart (found_in (begins p.start) ps r.0 r.1) there e)

  -- what the size word of its granule shows
  pub size_is : 16 * (p.start / 16) ≡ p.start → size_word ps (p.start / 16) ≡ unwrap_or (option_map (λ n. n + 1) (live_size p.status)) 0
  size_is g = ap (λ (o : Option Place). unwrap_or (option_map (λ q. unwrap_or (option_map (λ n. n + 1) (live_size q.status)) 0) o) 0) (ap (λ (z : ℕ). find (begins z) ps) g ∙ found_is)

---- Where places are changed and begin where they did

-- the bits stay
pub bits_on : (ps qs : List Place) (xs : List Span) → ((a : ℕ) → starts_at ps a ≡ starts_at qs a) → (page w : ℕ) → bitmap_word qs xs page w ≡ bitmap_word ps xs page w
bits_on ps qs xs h page w = ap (λ o. unwrap_or o 0) (by_span (find (begins_at page) xs))
  where
    by_span : (o : Option Span) → option_map (λ y. bits_of qs y w) o ≡ option_map (λ y. bits_of ps y w) o
    by_span None = refl
    by_span (Some y) = ap Some (same_word_of (λ n. is_taken qs y (64 * w + n)) (λ n. is_taken ps y (64 * w + n)) 0 64
        (λ n lo hi. ap (λ (c : Bool). Rattle.std.proofs.Common.ltb (64 * w + n) (block_count y.bucket) && c) (sym (h (block_address y.bucket y.first (64 * w + n))))))

-- places begin where they did
pub starts_on : (a : ℕ) (t : Place → Bool) (s : Status) (ps : List Place) → starts_at (change_found t (with_status s) ps) a ≡ starts_at ps a
starts_on a t s ps = any_changed (with_status s) (λ p. refl) a t ps
