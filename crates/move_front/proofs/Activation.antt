-- What a caller has to place is the same when its bucket has become active.
use Rattle.std.proofs.Common.{◌≡◌, ℕ, ◌*◌, Bool, true, false, not, ◌&&◌, ◌||◌, Option, Some, None, refl, ap, ◌∙◌, eq-eqb}
use Rattle.std.specs.Prelude.{cond, nat_le, option_and_then}
use Rattle.std.specs.List.{find}
use Rattle.heap_model.specs.declared.Act.TheVariants as acts
use Rattle.heap_model.specs.declared.Call.{Call}
use Rattle.heap_model.specs.declared.Call.TheVariants as calls
use Rattle.heap_model.specs.declared.Layer.{Layer}
use Rattle.heap_model.specs.declared.Layer.TheVariants as layers
use Rattle.heap_model.specs.declared.What.TheVariants as whats
use Rattle.heap_model.specs.Agreement.{holds_old_block, moves_exclusive, is_exclusive_at}
use Rattle.heap_model.specs.Buckets.{bucket_of}
use Rattle.heap_model.specs.CallState.{Configuration, CallState, CallerView, caller_view}
use Rattle.heap_model.specs.Geometry.{units_of, pages_of, route_of, is_paged, is_huge}
use Rattle.heap_model.specs.Legal.{after, may_touch}
use Rattle.heap_model.specs.Search.{request_of, searched, sought, sought_by, has_to_move}
use Rattle.heap_model.specs.State.{Setting, Place, is_among, is_caller, is_entered, is_live, is_in_hand_of, holds, updated, place_at, exclusive_places, has_address}
use Rattle.heap_model.specs.Stay.{for_some, reach_in, lets_stay_in}
use Rattle.claim_rule.specs.Entries.{entry}

module _ (s : Setting) (m : Configuration) (n b : ℕ) where
  abbrev pub then_is : Configuration
  then_is = after s m (entry n (acts.Active b))

  pub call_same : then_is.now.calls n ≡ m.now.calls n
  call_same = let e = eq-eqb n n refl in rw e refl

  view_same : caller_view then_is n ≡ caller_view m n
  view_same = ap (λ (k : CallState). record {
    entered = is_entered m.state.gate n;
    turning = is_among n m.state.gate.turning;
    owns = is_caller n m.state.gate.owner;
    lfh = holds m.state.gate n whats.Lfh;
    vs = holds m.state.gate n whats.Vs;
    back = holds m.state.gate n whats.Back;
    large = holds m.state.gate n whats.Large;
    call = k;
  }) call_same

  -- only the caller changes its old block
  exclusive_same : (a : ℕ) → is_exclusive_at then_is n a ≡ is_exclusive_at m n a
  exclusive_same a = ap (λ (v : CallerView). for_some (find (has_address a) (exclusive_places m.state n)) (λ p. may_touch v p.layer)) view_same

  old_by : (placed : Bool) (call : Option Call) → (placed || for_some call (moves_exclusive then_is n)) ≡ (placed || for_some call (moves_exclusive m n))
  old_by true call = refl
  old_by false None = refl
  old_by false (Some (calls.Realloc a size flags)) = exclusive_same a
  old_by false (Some (calls.Alloc size flags)) = refl
  old_by false (Some (calls.Free a)) = refl
  old_by false (Some (calls.Size a)) = refl
  old_by false (Some (calls.Get a i)) = refl
  old_by false (Some (calls.Put a i v)) = refl
  old_by false (Some calls.Lock) = refl
  old_by false (Some calls.Unlock) = refl
  old_by false (Some (calls.WalkNext a)) = refl
  old_by false (Some calls.Compact) = refl
  old_by false (Some calls.Stay) = refl

  pub old_on : holds_old_block m n ≡ true → holds_old_block then_is n ≡ true
  old_on h = ap (λ (k : CallState). k.placed || for_some k.call (moves_exclusive then_is n)) call_same ∙ (old_by (m.now.calls n).placed (m.now.calls n).call ∙ h)

  -- .. which has to move as before
  reach_same : (p : Place) (l : Layer) → reach_in s.limits then_is.state p l ≡ reach_in s.limits m.state p l
  reach_same p layers.Lfh = refl
  reach_same p layers.Vs = refl
  reach_same p layers.Back = refl
  reach_same p layers.Large = refl

  stay_same : (p : Place) (size : ℕ) (l : Layer) → lets_stay_in s.limits then_is.state p size l ≡ lets_stay_in s.limits m.state p size l
  stay_same p size layers.Lfh = refl
  stay_same p size layers.Vs = ap (λ (x : ℕ). nat_le size 131072 && nat_le (units_of size) x) (reach_same p p.layer)
  stay_same p size layers.Back = ap (λ (x : ℕ). is_paged (route_of size) && nat_le (256 * pages_of size) x) (reach_same p p.layer)
  stay_same p size layers.Large = ap (λ (x : ℕ). is_huge (route_of size) && nat_le (256 * pages_of size) x) (reach_same p p.layer)

  moves_same : (size : ℕ) (o : Option Place) → for_some o (has_to_move s then_is.state n size) ≡ for_some o (has_to_move s m.state n size)
  moves_same size None = refl
  moves_same size (Some p) = ap (λ (x : Bool). (is_live p.status || is_in_hand_of n p.status) && not x) (stay_same p size p.layer)

  sought_by_same : (placed : Bool) (call : Option Call) → cond placed None (option_and_then (sought_by s then_is.state n) call) ≡ cond placed None (option_and_then (sought_by s m.state n) call)
  sought_by_same true call = refl
  sought_by_same false None = refl
  sought_by_same false (Some (calls.Realloc a size flags)) = ap (λ (x : Bool). cond (not flags.in_place && x) (Some size) None) (moves_same size (place_at m.state n a))
  sought_by_same false (Some (calls.Alloc size flags)) = refl
  sought_by_same false (Some (calls.Free a)) = refl
  sought_by_same false (Some (calls.Size a)) = refl
  sought_by_same false (Some (calls.Get a i)) = refl
  sought_by_same false (Some (calls.Put a i v)) = refl
  sought_by_same false (Some calls.Lock) = refl
  sought_by_same false (Some calls.Unlock) = refl
  sought_by_same false (Some (calls.WalkNext a)) = refl
  sought_by_same false (Some calls.Compact) = refl
  sought_by_same false (Some calls.Stay) = refl

  sought_same : sought s then_is.state n (then_is.now.calls n) ≡ sought s m.state n (m.now.calls n)
  sought_same = ap (sought s then_is.state n) call_same ∙ sought_by_same (m.now.calls n).placed (m.now.calls n).call

  at_once : (active : ℕ → Bool) → searched (updated active b true) (Some b) ≡ Some b
  at_once active = let e = eq-eqb b b refl in rw e refl

  -- it searches the bucket
  pub seeks_then : (request_of s m n).bucket ≡ Some b → (request_of s then_is n).search ≡ Some b
  seeks_then h = ap (λ (o : Option ℕ). searched then_is.state.vs.active (option_and_then bucket_of o)) sought_same ∙ (ap (searched then_is.state.vs.active) h ∙ at_once m.state.vs.active)
