-- A caller that has taken a block has it still behind a lock, and behind what others do meanwhile.
use Rattle.std.proofs.Common.{◌≡◌, ℕ, ◌+◌, ◌*◌, ◌≤◌, true, false, List, [], ◌∷◌, ◌++◌, refl, sym, ap, ◌∙◌, subst}
use Rattle.std.specs.Prelude.{is_some}
use Rattle.heap_model.specs.declared.Act.TheVariants as acts
use Rattle.heap_model.specs.declared.Entry.{Entry}
use Rattle.heap_model.specs.declared.Flags.{Flags}
use Rattle.heap_model.specs.declared.Opening.{Opening}
use Rattle.heap_model.specs.declared.What.{What}
use Rattle.heap_model.specs.declared.What.TheVariants as whats
use Rattle.heap_model.specs.Buckets.{block_size}
use Rattle.heap_model.specs.CallState.{Configuration, CallState}
use Rattle.heap_model.specs.State.{Setting, State, hands, in_hand, places_of}
use Rattle.call_laws.proofs.Within.{updated_here}
use Rattle.claim_rule.specs.Entries.{IsSettingOf, entry}
use Rattle.claim_rule.specs.Home.{slot_of}
use Rattle.lock_steps.specs.Locks.{owed_with}
use Rattle.heap_gate.specs.Token.{Token, Always, now, IsStanding}
use Rattle.heap_gate.specs.Calls.{Does, with_prepared}
use Rattle.lfh_claims.specs.declared.tag.Tag.{Tag}
use Rattle.lfh_claims.specs.Stays.{all_stay, all_leave_spans}
use Rattle.lfh_claims.proofs.Hands.{homes_behind}
use Rattle.lfh_claims.proofs.Stays.{known_before, read_stays}
use Rattle.call_parts.proofs.Tokens.{now_more}
use Rattle.move_parts.specs.Moves.{IsTaken}
use Rattle.move_parts.proofs.Movers.{taken_hands}
use Rattle.move_taken.specs.Holds.{taken_place, HasTakenBlock, HoldsTaken}
use Rattle.move_taken.specs.Laws.{LockKeeps, GiftKeeps, MissKeeps, LookKeeps, SaidKeeps}
use Rattle.move_taken.proofs.Alone.{by_layers}
use Rattle.move_taken.proofs.Blocks.{inside_now}

-- what the token of the caller is behind a step that leaves its call alone
record IsBehind (old new : Token) (more : List ℕ) : Type 0 where
  pub call : new.call ≡ old.call
  pub fresh : new.fresh ≡ old.fresh
  pub inside : new.inside ≡ old.inside
  pub out : new.out ≡ more
  pub owes : old.owes ≡ [] → new.owes ≡ []
  pub searched : new.searched ≡ old.searched
  pub drawn : new.drawn ≡ old.drawn
  pub whole : new.whole ≡ true
  pub pending : new.pending ≡ false
  pub prepared : new.prepared ≡ []

module _ (old new : Token) (tag : Tag) (addr size n : ℕ) (flags : Flags) (out more : List ℕ) (es : List Entry) (h : HoldsTaken old tag addr size n flags out) (st : IsStanding old) (d : Does old new es) (stay : all_stay es ≡ true)
    (same : Always new (λ s. hands (now s new).state old.number ≡ hands (now s old).state old.number)) (calls_are : Always new (λ s. (now s new).now.calls old.number ≡ (now s old).now.calls old.number)) (x : IsBehind old new more) where
  all : all_stay (old.prepared ++ es) ≡ true
  all = ap (λ (l : List Entry). all_stay (l ++ es)) h.prepared ∙ stay

  plain : all_leave_spans old.prepared ≡ true
  plain = ap all_leave_spans h.prepared

  before : (s : Setting) → IsSettingOf new.opening new.roll s → IsSettingOf old.opening old.roll s
  before s q = known_before old new es d all plain s q

  hand : Always new (λ s. IsTaken (now s new) old.number addr (taken_place tag.bucket addr old.number))
  hand s q = record {
    at = refl;
    front = refl;
    status = refl;
    hand = by_layers (now s new).state old.number (taken_place tag.bucket addr old.number) (homes_behind s new.seen new.prepared) refl
        (same s q ∙ taken_hands (now s old) old.number addr (taken_place tag.bucket addr old.number) (h.block.hand s (before s q)));
  }

  block : HasTakenBlock new tag addr size
  block = record {
    inside = x.inside ∙ h.block.inside;
    whole = x.whole;
    begun = ap is_some x.call ∙ h.block.begun;
    hand = λ s q. subst (λ (k : ℕ). IsTaken (now s new) k addr (taken_place tag.bucket addr k)) (sym d.number) (hand s q);
    fits = h.block.fits;
    small = h.block.small;
    read = read_stays old new es d all plain (inside_now old tag addr size h.block st) tag.head tag.bucket tag.slot h.block.read;
    number = h.block.number;
    ends = subst (λ (o : Opening). addr + block_size tag.bucket ≤ 1048576 * o.limits.segments) (sym d.opening) h.block.ends;
  }

  keeps : HoldsTaken new tag addr size n flags more
  keeps = record {
    block = block;
    call_is = x.call ∙ h.call_is;
    fresh = x.fresh ∙ h.fresh;
    out_is = x.out;
    pending = x.pending;
    prepared = x.prepared;
    drawn = x.searched ∙ (h.drawn ∙ sym x.drawn);
    owes = x.owes h.owes;
    placed = λ s q. subst (λ (k : ℕ). ((now s new).now.calls k).placed ≡ false) (sym d.number) (ap (λ (k : CallState). k.placed) (calls_are s q) ∙ h.placed s (before s q));
    may_move = h.may_move;
    leaves = h.leaves;
  }

---- By the step

owes_none : (what : What) → owed_with what [] ≡ []
owes_none whats.Back = refl
owes_none whats.Gate = refl
owes_none whats.Lfh = refl
owes_none whats.Vs = refl
owes_none whats.Large = refl

pub lock_keeps : LockKeeps
lock_keeps old new tag addr size n flags out what h st r x =
    let out_is : slot_of what ∷ old.out ≡ slot_of what ∷ out = ap (λ (l : List ℕ). slot_of what ∷ l) h.out_is in
    keeps old new tag addr size n flags out (slot_of what ∷ out) (entry old.number (acts.TakeLock what) ∷ []) h st r.does refl r.hands
    (λ s q. (r.agrees s q).call ∙ updated_here (now s old).now.calls old.number ((now s old).now.calls old.number))
    (record {
      call = x.call;
      fresh = x.fresh;
      inside = x.inside;
      out = x.out ∙ out_is;
      owes = λ e. x.owes ∙ (ap (owed_with what) e ∙ owes_none what);
      searched = x.searched;
      drawn = x.drawn;
      whole = x.whole;
      pending = x.pending;
      prepared = x.prepared;
    })

pub gift_keeps : GiftKeeps
gift_keeps old new tag addr size n flags out more what h st r x =
    keeps old new tag addr size n flags out more (entry old.number (acts.GiveLock what) ∷ []) h st r.does refl r.hands
    (λ s q. (r.agrees s q).call ∙ updated_here (now s old).now.calls old.number ((now s old).now.calls old.number))
    (record { call = x.call; fresh = x.fresh; inside = x.inside; out = x.out; owes = λ e. x.owes ∙ e; searched = x.searched; drawn = x.drawn; whole = x.whole; pending = x.pending; prepared = x.prepared })

stays_blocked : (what : What) (n word : ℕ) → (what ≡ whats.Gate → ⊥) → all_stay (entry n (acts.Blocked what word) ∷ []) ≡ true
stays_blocked whats.Gate n word off = absurd (off refl)
stays_blocked whats.Lfh n word off = refl
stays_blocked whats.Vs n word off = refl
stays_blocked whats.Back n word off = refl
stays_blocked whats.Large n word off = refl

pub miss_keeps : MissKeeps
miss_keeps old new tag addr size n flags out what word h st off r x =
    keeps old new tag addr size n flags out out (entry old.number (acts.Blocked what word) ∷ []) h st r.does (stays_blocked what old.number word off) r.hands
    (λ s q. (r.agrees s q).call ∙ updated_here (now s old).now.calls old.number ((now s old).now.calls old.number))
    (record { call = x.call; fresh = x.fresh; inside = x.inside; out = x.out ∙ h.out_is; owes = λ e. x.owes ∙ e; searched = x.searched; drawn = x.drawn; whole = x.whole; pending = x.pending; prepared = x.prepared })

pub look_keeps : LookKeeps
look_keeps old new tag addr size n flags out h st r x =
    keeps old new tag addr size n flags out out [] h st r.does refl r.hands (λ s q. (r.agrees s q).call)
    (record { call = x.call; fresh = x.fresh; inside = x.inside; out = x.out ∙ h.out_is; owes = λ e. x.owes ∙ e; searched = x.searched; drawn = x.drawn; whole = x.whole; pending = x.pending; prepared = x.prepared })

---- It is said that no range fits

pub said_keeps : SaidKeeps
said_keeps c tag addr size n h =
    let d = with_prepared c (acts.NoFit n) in
    let same : (s : Setting) → (now s d).state ≡ (now s c).state = λ s. ap (λ (m : Configuration). m.state) (now_more s c (acts.NoFit n)) in
    record {
      inside = h.inside;
      whole = refl;
      begun = h.begun;
      hand = λ s q. let x = h.hand s q in record { at = refl; front = refl; status = refl; hand = λ layer. ap (λ (st : State). in_hand c.number (places_of st layer)) (same s) ∙ x.hand layer };
      fits = h.fits;
      small = h.small;
      read = λ s q.
          let z = h.read s q in
          record { span = z.span; there = subst (λ (st : State). Rattle.heap_soundness.specs.Sound.IsOneOf z.span (Rattle.claim_rule.specs.Shown.lfh_spans st.back.area)) (sym (same s)) z.there; begins = z.begins; bucket = z.bucket; slot = z.slot };
      number = h.number;
      ends = h.ends;
    }
