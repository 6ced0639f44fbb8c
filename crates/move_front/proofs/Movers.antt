-- A call that moves a block.
use Rattle.std.proofs.Common.{◌≡◌, ℕ, Bool, true, false, not, ◌||◌, List, ◌++◌, Option, Some, None, refl, ap, ◌∙◌}
use Rattle.std.specs.Prelude.{cond, is_some, option_and_then}
use Rattle.std.proofs.lemmas.Bool.{and_from, or_right}
use Rattle.heap_model.specs.declared.Call.{Call}
use Rattle.heap_model.specs.declared.Flags.{Flags}
use Rattle.heap_model.specs.declared.What.TheVariants as whats
use Rattle.heap_model.specs.Agreement.{holds_old_block, moves_exclusive}
use Rattle.heap_model.specs.Buckets.{bucket_of}
use Rattle.heap_model.specs.CallState.{Configuration, caller_view}
use Rattle.heap_model.specs.Legal.{may_touch}
use Rattle.heap_model.specs.Search.{sought, sought_by, has_to_move}
use Rattle.heap_model.specs.State.{Setting, Place, exclusive_places, all_places, place_at, has_address, is_live, is_in_hand_of, holds, guarded}
use Rattle.heap_model.specs.Stay.{for_some, lets_stay}
use Rattle.heap_model.proofs.Stable.{find-gate}
use Rattle.move_front.specs.Front.{IsBesideFront}
use Rattle.move_front.specs.Laws.{MovesBlock, MoverPlaces, KeepsBehindBlock, KeepsWithoutBlock}

module _ (s : Setting) (m : Configuration) (n addr size : ℕ) (flags : Flags) (p : Place) (h : MovesBlock s m n addr size flags p) where
  at : place_at m.state n addr ≡ Some p
  at = find-gate (has_address addr) (exclusive_places m.state n) (all_places m.state) (ap is_some h.first) ∙ h.first

  moves : for_some (place_at m.state n addr) (has_to_move s m.state n size) ≡ true
  moves = ap (λ (o : Option Place). for_some o (has_to_move s m.state n size)) at
      ∙ and_from (is_live p.status || is_in_hand_of n p.status) (not (lets_stay s.limits m.state p size)) h.there (ap not h.leaves)

  sought_is : flags.in_place ≡ false → sought s m.state n (m.now.calls n) ≡ Some size
  sought_is may =
      ap (λ (placed : Bool). cond placed None (option_and_then (sought_by s m.state n) (m.now.calls n).call)) h.placed
      ∙ (ap (λ (o : Option Call). option_and_then (sought_by s m.state n) o) h.call
      ∙ ap (λ (x : Bool). cond x (Some size) None) (and_from (not flags.in_place) (for_some (place_at m.state n addr) (has_to_move s m.state n size)) (ap not may) moves))

  old_is : holds_old_block m n ≡ true
  old_is = or_right (m.now.calls n).placed (for_some (m.now.calls n).call (moves_exclusive m n))
      (ap (λ (o : Option Call). for_some o (moves_exclusive m n)) h.call ∙ (ap (λ (o : Option Place). for_some o (λ q. may_touch (caller_view m n) q.layer)) h.first ∙ h.touch))

pub mover_places : MoverPlaces
mover_places c addr size b flags p h may bucket inside whole searched drawn owes vs_out back_out = record {
  inside = inside;
  whole = whole;
  searched = searched;
  drawn = drawn;
  owes = owes;
  vs_out = vs_out;
  back_out = back_out;
  seeks = λ s q. ap (option_and_then bucket_of) (sought_is s _ c.number addr size flags p (h s q) may) ∙ bucket;
  old = λ s q. old_is s _ c.number addr size flags p (h s q);
  search = λ s q. (h s q).search;
  no_span = λ s q. (h s q).no_span;
}

---- What it keeps

guarded_same : (ps qs : List Place) (x y : Bool) → x ≡ y → (y ≡ true → ps ≡ qs) → guarded ps x ≡ guarded qs y
guarded_same ps qs x y e f = ap (guarded ps) e ∙ both y f
  where
    both : (y : Bool) → (y ≡ true → ps ≡ qs) → guarded ps y ≡ guarded qs y
    both true f = f refl
    both false f = refl

module _ (n : ℕ) (m k : Configuration) (x : IsBesideFront n m k) where
  vs_same : guarded k.state.vs.places (holds k.state.gate n whats.Vs) ≡ guarded m.state.vs.places (holds m.state.gate n whats.Vs)
  vs_same = guarded_same k.state.vs.places m.state.vs.places (holds k.state.gate n whats.Vs) (holds m.state.gate n whats.Vs) (x.locks whats.Vs) x.vs

  back_same : guarded k.state.back.places (holds k.state.gate n whats.Back) ≡ guarded m.state.back.places (holds m.state.gate n whats.Back)
  back_same = guarded_same k.state.back.places m.state.back.places (holds k.state.gate n whats.Back) (holds m.state.gate n whats.Back) (x.locks whats.Back) x.back

  large_same : guarded k.state.large (holds k.state.gate n whats.Large) ≡ guarded m.state.large (holds m.state.gate n whats.Large)
  large_same = guarded_same k.state.large m.state.large (holds k.state.gate n whats.Large) (holds m.state.gate n whats.Large) (x.locks whats.Large) x.large

pub keeps_behind_block : KeepsBehindBlock
keeps_behind_block n m k q x h = (λ i. h i ++ vs_same n m k x i ++ back_same n m k x i ++ large_same n m k x i)

pub keeps_without_block : KeepsWithoutBlock
keeps_without_block n m k x h = (λ i. h i ++ vs_same n m k x i ++ back_same n m k x i ++ large_same n m k x i)
