-- The heap lock of the only caller, and a walk.
use Rattle.std.proofs.Common.{◌≡◌, ◌≢◌, ℕ, zero, suc, ◌+◌, ◌-◌, ◌==◌, Bool, true, List, [], ◌∷◌, map, Option, Some, None, refl, sym, ap, subst, ◌∙◌, arith, inl, inr, ne_eqb, if◌then◌else◌}
use Rattle.std.proofs.lemmas.Bool.{cases_Bool, eqb-true, eqb-false}
use Rattle.std.proofs.lemmas.List.{append-nil}
use Rattle.heap_model.specs.declared.Call.{Call}
use Rattle.heap_model.specs.declared.Call.TheVariants as calls
use Rattle.heap_model.specs.declared.Reply.{Reply}
use Rattle.heap_model.specs.declared.Reply.TheVariants as replies
use Rattle.heap_model.specs.Alone.{may_all_come}
use Rattle.heap_model.specs.History.{configuration_of}
use Rattle.heap_model.specs.Moments.{moments, moments_by}
use Rattle.heap_model.specs.Served.{GetsReply, IsWalk, IsServed, by_depth, depth_after}
use Rattle.heap_model.specs.Shape.{Replied}
use Rattle.heap_gate.specs.Calls.{with_depth}
use Rattle.heap_gate.specs.Roots.{RootToken}
use Rattle.heap_gate.specs.Token.{HeapToken, Token}
use Rattle.heap_now.specs.Calls.{IsReady}
use Rattle.heap_now.specs.Locks.{IsLockedMore, IsLockedLess}
use Rattle.serial_laws.proofs.Turns.{come_follow}
use Rattle.claim_rule.specs.Entries as rolls
use Rattle.claim_rule.proofs.Advance.{some_setting}
use Rattle.claim_rule.proofs.Lists.{prefix_trans}
use Rattle.thread_calls.specs.Serving.{Goes, HasWalked}
use Rattle.thread_calls.proofs.Served.{lock_deeper, unlock_inner}
use Rattle.thread_rounds.specs.Threads.{Tries}
use Rattle.one_heap.specs.Lone.{IsLone, Serves, Walks, act_of, only_one, seen_by, setting_of, behind}
use Rattle.one_heap.proofs.Serving.{Grows, s, added, added_legal, agrees, grown, moments_are, only, told, serves, still, walked_once}

---- No step

-- the depth answers the call, and the caller is else as it was
no_step : (h : HeapToken) (c : Token) (n : ℕ) (call : Call) (reply : Reply) → n ≡ depth_after c.depth call (reply ∷ []) → by_depth c.depth call ≡ Some reply → Serves (seen_by h c) (seen_by h (with_depth c n)) call (reply ∷ [])
no_step h c n call reply e by = record {
  added = [];
  opening = refl;
  acts = sym (append-nil (map act_of c.seen));
  depth = e;
  served = subst (λ (o : Option Reply). IsServed (GetsReply (setting_of (seen_by h c)) 0) o call (reply ∷ []) []) (sym by) (refl, refl);
}

no_step_lone : (h : HeapToken) (r : RootToken) (c : Token) (n : ℕ) → IsLone h r c → IsReady (with_depth c n) → IsLone h r (with_depth c n)
no_step_lone h r c n k ready = record { few = k.few; root = k.root; roll = k.roll; joined = k.joined; caller = record { table = k.caller.table; opening = k.caller.opening; is_ready = ready }; number = k.number; known = k.known }

-- behind a call that took or gave back the heap lock, which counts once more or no more
deeper_lone : (h : HeapToken) (r : RootToken) (d : Token) (n : ℕ) → IsLone h r (with_depth d n) → IsReady d → IsLone h r d
deeper_lone h r d n k ready = record { few = k.few; root = k.root; roll = k.roll; joined = k.joined; caller = record { table = k.caller.table; opening = k.caller.opening; is_ready = ready }; number = k.number; known = k.known }

---- The heap lock

module _ (h : HeapToken) (r : RootToken) (c d : Token) (k : IsLone h r c) where
  pub locks : IsLockedMore c d → Serves (seen_by h c) (seen_by h d) calls.Lock (replies.Done ∷ [])
  locks x = go c.depth refl
    where
      go : (n : ℕ) → c.depth ≡ n → Serves (seen_by h c) (seen_by h d) calls.Lock (replies.Done ∷ [])
      go zero e =
          serves h r c (with_depth d 0) k calls.Lock replies.Done (x.first e)
          (λ One xs one. subst (λ (n : ℕ). IsServed One (by_depth n calls.Lock) calls.Lock (replies.Done ∷ []) xs) (sym e) (replies.Done, refl, one)) d.depth x.depth
      go (suc n) e =
          let more : c.depth ≢ 0 = λ z. let none : ⊥ = omega (arith, e, z) in none in
          subst (λ (b : Token). Serves (seen_by h c) (seen_by h b) calls.Lock (replies.Done ∷ [])) (sym (x.again more))
          (no_step h c (c.depth + 1) calls.Lock replies.Done refl (lock_deeper c.depth more x.few))

  pub locked : IsLockedMore c d → IsLone h r d
  locked x = go c.depth refl
    where
      go : (n : ℕ) → c.depth ≡ n → IsLone h r d
      go zero e = deeper_lone h r d 0 (still h r c (with_depth d 0) k calls.Lock (Replied replies.Done) (x.first e)) x.ready
      go (suc n) e =
          let more : c.depth ≢ 0 = λ z. let none : ⊥ = omega (arith, e, z) in none in
          let y = x.again more in
          subst (IsLone h r) (sym y) (no_step_lone h r c (c.depth + 1) k (subst IsReady y x.ready))

  -- it has the heap lock as often as it may
  pub locks_no_more : c.depth ≡ 65535 → d ≡ c → Serves (seen_by h c) (seen_by h d) calls.Lock (replies.Depth ∷ [])
  locks_no_more e y =
      subst (λ (b : Token). Serves (seen_by h c) (seen_by h b) calls.Lock (replies.Depth ∷ [])) (sym y)
      (no_step h c c.depth calls.Lock replies.Depth refl (ap (λ (n : ℕ). by_depth n calls.Lock) e))

  pub same : d ≡ c → IsLone h r d
  same y = subst (IsLone h r) (sym y) k

  pub unlocks : IsLockedLess c d → Serves (seen_by h c) (seen_by h d) calls.Unlock (replies.Done ∷ [])
  unlocks x = elim (cases_Bool (c.depth == 1)) [
    | inl b ↦
        let e = eqb-true c.depth 1 b in
        serves h r c (with_depth d 1) k calls.Unlock replies.Done (x.last e)
        (λ One xs one. subst (λ (n : ℕ). IsServed One (by_depth n calls.Unlock) calls.Unlock (replies.Done ∷ []) xs) (sym e) (replies.Done, refl, one)) d.depth x.depth
    | inr b ↦
        let other = eqb-false c.depth 1 b in
        subst (λ (e : Token). Serves (seen_by h c) (seen_by h e) calls.Unlock (replies.Done ∷ [])) (sym (x.again other))
        (no_step h c (c.depth - 1) calls.Unlock replies.Done refl (unlock_inner c.depth x.owned other))
  ]

  pub unlocked : IsLockedLess c d → IsLone h r d
  unlocked x = elim (cases_Bool (c.depth == 1)) [
    | inl b ↦ deeper_lone h r d 1 (still h r c (with_depth d 1) k calls.Unlock (Replied replies.Done) (x.last (eqb-true c.depth 1 b))) x.ready
    | inr b ↦
        let y = x.again (eqb-false c.depth 1 b) in
        subst (IsLone h r) (sym y) (no_step_lone h r c (c.depth - 1) k (subst IsReady y x.ready))
  ]

  pub not_owner : c.depth ≡ 0 → d ≡ c → Serves (seen_by h c) (seen_by h d) calls.Unlock (replies.NotOwner ∷ [])
  not_owner e y =
      subst (λ (b : Token). Serves (seen_by h c) (seen_by h b) calls.Unlock (replies.NotOwner ∷ [])) (sym y)
      (no_step h c c.depth calls.Unlock replies.NotOwner refl (ap (λ (n : ℕ). by_depth n calls.Unlock) e))

  ---- A walk

  -- behind calls of which nothing is known but that the caller may call again
  pub goes_lone : Goes c d → IsLone h r d
  goes_lone g = record {
    few = k.few;
    root = k.root;
    roll = k.roll;
    joined = k.joined;
    caller = record { table = g.table ∙ k.caller.table; opening = g.opening ∙ k.caller.opening; is_ready = g.ready };
    number = g.number ∙ k.number;
    known = prefix_trans only_one c.roll d.roll k.known g.roll;
  }

  refused : (its : List Reply) → HasWalked c d its → c.depth ≡ 0 → Serves (seen_by h c) (seen_by h d) (calls.WalkNext 0) its
  refused its x e =
      let a = rolls.setting_of d.opening d.roll in
      let by : by_depth c.depth (calls.WalkNext 0) ≡ Some replies.NotLocked = ap (λ (n : ℕ). by_depth n (calls.WalkNext 0)) e in
      let told = subst (λ (o : Option Reply). IsServed (Tries a c.number) o (calls.WalkNext 0) its (moments a c.number (configuration_of a c.seen) x.serves.goes.seen.0)) by (x.serves.served a (some_setting d.opening d.roll)) in
      subst (λ (rs : List Reply). Serves (seen_by h c) (seen_by h d) (calls.WalkNext 0) rs) (sym told.0)
      (subst (λ (b : Token). Serves (seen_by h c) (seen_by h b) (calls.WalkNext 0) (replies.NotLocked ∷ [])) (sym (x.still e)) (no_step h c c.depth (calls.WalkNext 0) replies.NotLocked refl by))

  owned : (its : List Reply) → HasWalked c d its → c.depth ≢ 0 → Serves (seen_by h c) (seen_by h d) (calls.WalkNext 0) its
  owned its x owns =
      let g : Grows c d = record { opening = x.serves.goes.opening; roll = x.serves.goes.roll; seen = x.serves.goes.seen; legal = x.legal owns } in
      let a = s h r c d k g in
      let t = setting_of (seen_by h c) in
      let m = configuration_of a c.seen in
      let acts = added h r c d k g in
      let none : by_depth c.depth (calls.WalkNext 0) ≡ None = ap (λ (b : Bool). if b then Some replies.NotLocked else None) (ne_eqb c.depth 0 owns) in
      let its_own : IsWalk (Tries a c.number) 0 0 its (moments a c.number m g.seen.0) =
      subst (λ (o : Option Reply). IsServed (Tries a c.number) o (calls.WalkNext 0) its (moments a c.number m g.seen.0)) none (x.serves.served a (some_setting d.opening d.roll)) in
      let by_zero : IsWalk (Tries a 0) 0 0 its (moments_by a m acts) = told h r c d k g (λ n xs. IsWalk (Tries a n) 0 0 its xs) its_own in
      let come : may_all_come a m acts ≡ true = sym (come_follow a m acts) ∙ added_legal h r c d k g in
      let walked = walked_once a t (agrees h r c d k g).limits m 0 0 its acts (only h r c d k g) come by_zero in
      let here : IsWalk (GetsReply t 0) 0 0 its (moments_by t (behind (seen_by h c)) acts) = subst (IsWalk (GetsReply t 0) 0 0 its) (moments_are h r c d k g) walked in
      record {
        added = acts;
        opening = refl;
        acts = grown h r c d k g;
        depth = x.serves.depth;
        served = subst (λ (o : Option Reply). IsServed (GetsReply t 0) o (calls.WalkNext 0) its (moments_by t (behind (seen_by h c)) acts)) (sym none) here;
      }

  pub walks : (its : List Reply) → HasWalked c d its → Walks (seen_by h c) (seen_by h d) its
  walks its x = record { serves = go c.depth refl; ends = x.ends }
    where
      go : (n : ℕ) → c.depth ≡ n → Serves (seen_by h c) (seen_by h d) (calls.WalkNext 0) its
      go zero e = refused its x e
      go (suc n) e = owned its x (λ z. let none : ⊥ = omega (arith, e, z) in none)
