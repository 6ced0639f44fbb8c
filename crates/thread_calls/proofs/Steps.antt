-- The calls of a walk, one behind the other.
use Rattle.std.proofs.Common.{◌≡◌, ◌≢◌, ℕ, ◌+◌, ◌≤◌, Bool, true, false, List, [], ◌∷◌, ◌++◌, Option, Some, None, refl, sym, ap, ◌∙◌, subst, append_assoc, arith, if◌then◌else◌, ne_eqb}
use Rattle.std.specs.Prelude.{nat_le, MatchBool}
use Rattle.std.specs.List.{find}
use Rattle.std.proofs.lemmas.List.{append-nil}
use Rattle.std.proofs.lemmas.Bool.{leb-true}
use Rattle.heap_model.specs.declared.Block.{Block}
use Rattle.heap_model.specs.declared.Call.{Call}
use Rattle.heap_model.specs.declared.Call.TheVariants as calls
use Rattle.heap_model.specs.declared.Reply.{Reply}
use Rattle.heap_model.specs.declared.Reply.TheVariants as replies
use Rattle.heap_model.specs.History.{configuration_of}
use Rattle.heap_model.specs.Moments.{Moment, moments}
use Rattle.heap_model.specs.Served.{IsTried, IsServed, IsWalk, GetsReply, by_depth}
use Rattle.heap_model.specs.Shape.{Answer, Replied}
use Rattle.heap_model.specs.State.{Setting, live}
use Rattle.claim_rule.specs.Entries.{IsSettingOf, setting_of}
use Rattle.claim_rule.proofs.Advance.{some_setting}
use Rattle.claim_rule.proofs.Lists.{setting_less}
use Rattle.heap_gate.specs.Token.{Token, Always, now}
use Rattle.heap_now.specs.Calls.{IsReady}
use Rattle.walk_calls.specs.Walk.{Walks, IsWalked, walk_reply}
use Rattle.heap_api.proofs.Made.{begins_all, moments_on}
use Rattle.thread_calls.specs.Serving.{Goes, EndsOnce, HasWalked, is_last}

---- Lists that go on

abbrev pub goes_self : (a : Token) → IsReady a → Goes a a
goes_self a r = record { table = refl; opening = refl; number = refl; roll = ([], append-nil a.roll); seen = ([], append-nil a.seen); ready = r }

abbrev pub goes_on : (a b c : Token) → Goes a b → Goes b c → Goes a c
goes_on a b c x y = record {
  table = y.table ∙ x.table;
  opening = y.opening ∙ x.opening;
  number = y.number ∙ x.number;
  roll = begins_all a.roll b.roll c.roll x.roll y.roll;
  seen = begins_all a.seen b.seen c.seen x.seen y.seen;
  ready = y.ready;
}

-- a setting of more callers is one of fewer
pub setting_goes : (a b : Token) → Goes a b → (s : Setting) → IsSettingOf b.opening b.roll s → IsSettingOf a.opening a.roll s
setting_goes a b x s q = setting_less a.opening a.roll b.roll s x.roll (subst (λ o. IsSettingOf o b.roll s) x.opening q)

---- The blocks so far

-- these replies are blocks that a walk has seen from an address on, and then it goes on at the last address, where it has counted so many
abbrev pub IsWalkSoFar : (Call → Reply → List Moment → Type 0) → ℕ → ℕ → List Reply → List Moment → ℕ → ℕ → Type 0
IsWalkSoFar One count from [] xs count' from' = (xs ≡ []) × (count' ≡ count) × (from' ≡ from)
IsWalkSoFar One count from (replies.Seen b ∷ rs) xs count' from' =
    (its : List Moment) × (later : List Moment) × (xs ≡ its ++ later)
    × One (calls.WalkNext from) (replies.Seen b) its × IsWalkSoFar One (count + 1) (b.addr + 1) rs later count' from'
IsWalkSoFar One count from (r ∷ rs) xs count' from' = ⊥

module _ (One : Call → Reply → List Moment → Type 0) where
  pub walk_more : (count from : ℕ) (rs : List Reply) (xs : List Moment) (count' from' : ℕ) (b : Block) (ys : List Moment) → IsWalkSoFar One count from rs xs count' from'
      → One (calls.WalkNext from') (replies.Seen b) ys → IsWalkSoFar One count from (rs ++ replies.Seen b ∷ []) (xs ++ ys) (count' + 1) (b.addr + 1)
  walk_more count from [] xs count' from' b ys w o =
      (ys, [], ap (λ l. l ++ ys) w.0 ∙ sym (append-nil ys), subst (λ (n : ℕ). One (calls.WalkNext n) (replies.Seen b) ys) w.2 o, (refl, ap (λ n. n + 1) w.1, refl))
  walk_more count from (replies.Seen d ∷ rs) xs count' from' b ys w o =
      (w.0, w.1 ++ ys, ap (λ l. l ++ ys) w.2 ∙ append_assoc w.0 w.1 ys, w.3, walk_more (count + 1) (d.addr + 1) rs w.1 count' from' b ys w.4 o)
  walk_more count from (replies.Address a ∷ rs) xs count' from' b ys w o = absurd w
  walk_more count from (replies.Done ∷ rs) xs count' from' b ys w o = absurd w
  walk_more count from (replies.Number n ∷ rs) xs count' from' b ys w o = absurd w
  walk_more count from (replies.NoFit ∷ rs) xs count' from' b ys w o = absurd w
  walk_more count from (replies.NotLive ∷ rs) xs count' from' b ys w o = absurd w
  walk_more count from (replies.NoRoom ∷ rs) xs count' from' b ys w o = absurd w
  walk_more count from (replies.Past n ∷ rs) xs count' from' b ys w o = absurd w
  walk_more count from (replies.Depth ∷ rs) xs count' from' b ys w o = absurd w
  walk_more count from (replies.NotOwner ∷ rs) xs count' from' b ys w o = absurd w
  walk_more count from (replies.NotLocked ∷ rs) xs count' from' b ys w o = absurd w
  walk_more count from (replies.Walked n ∷ rs) xs count' from' b ys w o = absurd w
  walk_more count from (replies.Compacted n ∷ rs) xs count' from' b ys w o = absurd w

  pub walk_end : (count from : ℕ) (rs : List Reply) (xs : List Moment) (count' from' : ℕ) (ys : List Moment) → IsWalkSoFar One count from rs xs count' from'
      → One (calls.WalkNext from') (replies.Walked count') ys → IsWalk One count from (rs ++ replies.Walked count' ∷ []) (xs ++ ys)
  walk_end count from [] xs count' from' ys w o =
      (w.1, subst (λ (l : List Moment). One (calls.WalkNext from) (replies.Walked count') l) (ap (λ l. l ++ ys) (sym w.0)) (subst (λ (n : ℕ). One (calls.WalkNext n) (replies.Walked count') ys) w.2 o))
  walk_end count from (replies.Seen d ∷ rs) xs count' from' ys w o =
      (w.0, w.1 ++ ys, ap (λ l. l ++ ys) w.2 ∙ append_assoc w.0 w.1 ys, w.3, walk_end (count + 1) (d.addr + 1) rs w.1 count' from' ys w.4 o)
  walk_end count from (replies.Address a ∷ rs) xs count' from' ys w o = absurd w
  walk_end count from (replies.Done ∷ rs) xs count' from' ys w o = absurd w
  walk_end count from (replies.Number n ∷ rs) xs count' from' ys w o = absurd w
  walk_end count from (replies.NoFit ∷ rs) xs count' from' ys w o = absurd w
  walk_end count from (replies.NotLive ∷ rs) xs count' from' ys w o = absurd w
  walk_end count from (replies.NoRoom ∷ rs) xs count' from' ys w o = absurd w
  walk_end count from (replies.Past n ∷ rs) xs count' from' ys w o = absurd w
  walk_end count from (replies.Depth ∷ rs) xs count' from' ys w o = absurd w
  walk_end count from (replies.NotOwner ∷ rs) xs count' from' ys w o = absurd w
  walk_end count from (replies.NotLocked ∷ rs) xs count' from' ys w o = absurd w
  walk_end count from (replies.Walked n ∷ rs) xs count' from' ys w o = absurd w
  walk_end count from (replies.Compacted n ∷ rs) xs count' from' ys w o = absurd w

---- Replies

-- none is the last one
abbrev pub AreSeen : List Reply → Type 0
AreSeen [] = Unit {0}
AreSeen (r ∷ rs) = MatchBool (is_last r) ⊥ (AreSeen rs)

seen_more : (rs : List Reply) (b : Block) → AreSeen rs → AreSeen (rs ++ replies.Seen b ∷ [])
seen_more [] b h = tt
seen_more (r ∷ rs) b h = go (is_last r) h (seen_more rs b)
  where
    go : (x : Bool) → MatchBool x ⊥ (AreSeen rs) → (AreSeen rs → AreSeen (rs ++ replies.Seen b ∷ [])) → MatchBool x ⊥ (AreSeen (rs ++ replies.Seen b ∷ []))
    go true h more = absurd h
    go false h more = more h

seen_end : (rs : List Reply) (n : ℕ) → AreSeen rs → EndsOnce (rs ++ replies.Walked n ∷ [])
seen_end [] n h = refl
seen_end (r ∷ rs) n h = go (is_last r) h (seen_end rs n)
  where
    go : (x : Bool) → MatchBool x ⊥ (AreSeen rs) → (AreSeen rs → EndsOnce (rs ++ replies.Walked n ∷ [])) → MatchBool x (rs ++ replies.Walked n ∷ [] ≡ []) (EndsOnce (rs ++ replies.Walked n ∷ []))
    go true h more = absurd h
    go false h more = more h

pub once : (r : Reply) → is_last r ≡ true → EndsOnce (r ∷ [])
once r e = rw e refl

---- What a caller has walked

-- it has seen blocks up to an address, which are so many
pub record WalksSoFar (a b : Token) (its : List Reply) (count from : ℕ) : Type 0 where
  pub goes : Goes a b
  pub depth : b.depth ≡ a.depth
  pub so_far : Always b (λ s. IsWalkSoFar (λ asked reply xs. IsTried s a.number asked reply xs) 0 0 its (moments s a.number (configuration_of s a.seen) goes.seen.0) count from)
  pub seen : AreSeen its
  pub few : count ≤ from

pub walks_none : (a : Token) → IsReady a → WalksSoFar a a [] 0 0
walks_none a r = record { goes = goes_self a r; depth = refl; so_far = λ s q. (refl, refl, refl); seen = tt; few = omega arith }

-- one step of it
abbrev step_goes : (b c : Token) (from : ℕ) (answer : Answer) → IsWalked b c from answer → Goes b c
step_goes b c from answer w =
    let x = w.answers in
    record { table = x.table; opening = x.opening; number = x.number; roll = x.roll; seen = x.seen; ready = record { ready = x.ready; owes = w.owes } }

step_tried : (a b c : Token) (from : ℕ) (reply : Reply) (w : IsWalked b c from (Replied reply)) → b.number ≡ a.number
    → Always c (λ s. IsTried s a.number (calls.WalkNext from) reply (moments s a.number (configuration_of s b.seen) w.answers.seen.0))
step_tried a b c from reply w n s q = record {
  busy = [];
  last = moments s a.number (configuration_of s b.seen) w.answers.seen.0;
  are_busy = tt;
  gets = subst (λ (k : ℕ). GetsReply s k (calls.WalkNext from) reply (moments s k (configuration_of s b.seen) w.answers.seen.0)) n (w.answers.answered s q);
  all = refl;
}

module _ (a b c : Token) (its : List Reply) (count from : ℕ) (x : WalksSoFar a b its count from) where
  pub walks_more : (d : Block) → Walks b c from (Some d) → from ≤ d.addr → WalksSoFar a c (its ++ replies.Seen d ∷ []) (count + 1) (d.addr + 1)
  walks_more d y above =
      let w = y.answered 0 in
      let g = step_goes b c from (Replied (replies.Seen d)) w in
      let few = x.few in
      record {
        goes = goes_on a b c x.goes g;
        depth = w.answers.depth ∙ x.depth;
        so_far = λ s q.
            let One = λ (asked : Call) (reply : Reply) (xs : List Moment). IsTried s a.number asked reply xs in
            subst (λ (l : List Moment). IsWalkSoFar One 0 0 (its ++ replies.Seen d ∷ []) l (count + 1) (d.addr + 1)) (sym (moments_on s a.number a b c x.goes.seen g.seen))
            (walk_more One 0 0 its (moments s a.number (configuration_of s a.seen) x.goes.seen.0) count from d (moments s a.number (configuration_of s b.seen) g.seen.0)
            (x.so_far s (setting_goes b c g s q)) (step_tried a b c from (replies.Seen d) w x.goes.number s q));
        seen = seen_more its d x.seen;
        few = omega (arith, few);
      }

  pub walks_end : Walks b c from None → a.depth ≢ 0 → HasWalked a c (its ++ replies.Walked count ∷ [])
  walks_end y owns =
      let w = y.answered count in
      let g = step_goes b c from (Replied (replies.Walked count)) w in
      let all = its ++ replies.Walked count ∷ [] in
      record {
        serves = record {
          goes = goes_on a b c x.goes g;
          depth = w.answers.depth ∙ x.depth;
          served = λ s q.
              let One = λ (asked : Call) (reply : Reply) (xs : List Moment). IsTried s a.number asked reply xs in
              let none : by_depth a.depth (calls.WalkNext 0) ≡ None = ap (λ (z : Bool). if z then Some replies.NotLocked else None) (ne_eqb a.depth 0 owns) in
              subst (λ o. IsServed One o (calls.WalkNext 0) all (moments s a.number (configuration_of s a.seen) (x.goes.seen.0 ++ g.seen.0))) (sym none)
              (subst (λ (l : List Moment). IsWalk One 0 0 all l) (sym (moments_on s a.number a b c x.goes.seen g.seen))
              (walk_end One 0 0 its (moments s a.number (configuration_of s a.seen) x.goes.seen.0) count from (moments s a.number (configuration_of s b.seen) g.seen.0)
              (x.so_far s (setting_goes b c g s q)) (step_tried a b c from (replies.Walked count) w x.goes.number s q)));
        };
        ends = seen_end its count x.seen;
        still = λ none. absurd (owns none);
        legal = λ _. w.answers.legal;
      }

  pub still_goes : (found : Option Block) → Walks b c from found → Goes a c
  still_goes found y = goes_on a b c x.goes (step_goes b c from (Replied (walk_reply found 0)) (y.answered 0))

  pub still_deep : (found : Option Block) → Walks b c from found → c.depth ≡ a.depth
  still_deep found y = (y.answered 0).answers.depth ∙ x.depth

---- What is found

found_above : (from : ℕ) (bs : List Block) (d : Block) → Some d ≡ find (λ b. nat_le from b.addr) bs → from ≤ d.addr
found_above from [] d e = absurd (cc e)
found_above from (b ∷ bs) d e = go (nat_le from b.addr) refl e (found_above from bs d)
  where
    go : (x : Bool) → nat_le from b.addr ≡ x → Some d ≡ (if x then Some b else find (λ b. nat_le from b.addr) bs) → (Some d ≡ find (λ b. nat_le from b.addr) bs → from ≤ d.addr) → from ≤ d.addr
    go true q h more = let same : d ≡ b = cc h in rw same (leb-true from b.addr q)
    go false q h more = more h

pub walks_above : (b c : Token) (from : ℕ) (d : Block) → Walks b c from (Some d) → from ≤ d.addr
walks_above b c from d y =
    let s = setting_of c.opening c.roll in
    found_above from (live (now s c).state) d (y.next s (some_setting c.opening c.roll))

-- a caller that is not the owner is refused
pub refused : (a : Token) → IsReady a → a.depth ≡ 0 → HasWalked a a (replies.NotLocked ∷ [])
refused a r e = record {
  serves = record {
    goes = goes_self a r;
    depth = refl;
    served = λ s q.
        subst (λ (d : ℕ). IsServed (λ asked t xs. IsTried s a.number asked t xs) (by_depth d (calls.WalkNext 0)) (calls.WalkNext 0) (replies.NotLocked ∷ []) []) (sym e) (refl, refl);
  };
  ends = refl;
  still = λ _. refl;
  legal = λ owns. absurd (owns e);
}
