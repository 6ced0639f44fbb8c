-- A step of a walk as one call.
use Rattle.std.proofs.Common.{◌≡◌, ◌≢◌, ℕ, true, false, List, [], ◌∷◌, ◌++◌, map, Option, Some, None, refl, sym, ap, ◌∙◌, subst}
use Rattle.std.specs.List.{find, list_any}
use Rattle.std.proofs.lemmas.List.{append-nil}
use mathlib.Core.List.{IsPrefix}
use Rattle.heap_model.specs.declared.Act.{Act}
use Rattle.heap_model.specs.declared.Act.TheVariants as acts
use Rattle.heap_model.specs.declared.Block.{Block}
use Rattle.heap_model.specs.declared.Call.{Call}
use Rattle.heap_model.specs.declared.Call.TheVariants as calls
use Rattle.heap_model.specs.declared.Entry.{Entry}
use Rattle.heap_model.specs.declared.Opening.{Opening}
use Rattle.heap_model.specs.declared.What.TheVariants as whats
use Rattle.heap_model.specs.State.{Setting, State, is_caller, live}
use Rattle.heap_model.specs.CallState.{Configuration}
use Rattle.heap_model.specs.Layers.{StandsForVs, StandsForBack, StandsForLarge}
use Rattle.heap_model.specs.Legal.{is_begin, after}
use Rattle.heap_model.specs.History.{own, configuration_after, configuration_of, first_configuration, may_all_follow}
use Rattle.heap_model.specs.Agreement.{AgreesFor, GateIsSound, SameHeap}
use Rattle.heap_model.specs.Moments.{Moment, moments, acts_of, state_before, In}
use Rattle.heap_model.specs.Served.{IsAnswered}
use Rattle.heap_model.specs.Shape.{Replied, WalksTo, next_live, shown}
use Rattle.heap_model.proofs.GateSound.{gate_sound_after, gate_sound_first}
use Rattle.heap_model.proofs.Moments.{moments_acts}
use Rattle.call_laws.specs.Within.{by_all}
use Rattle.call_laws.proofs.Told.{own_acts_are_shown, first_is_before}
use Rattle.claim_rule.specs.Entries.{IsSettingOf, IsLegalWith, entry, setting_of}
use Rattle.claim_rule.proofs.Advance.{some_setting}
use Rattle.claim_rule.proofs.Lists.{own-append, legal_parts, follow_parts}
use Rattle.backend_fit.specs.Kept.{Kept}
use Rattle.backend_fit.specs.Kept as backs
use Rattle.large_blocks.specs.Table.{LargeTable}
use Rattle.large_blocks.specs.Table as larges
use Rattle.vs_layer.specs.Kept.{VsKept}
use Rattle.vs_layer.specs.Standing as vss
use Rattle.heap_gate.specs.Token.{Token, Always, IsStanding, now, is_out}
use Rattle.heap_gate.specs.Calls.{Runs, Stands, stance, with_prepared}
use Rattle.call_parts.specs.Calls.{IsReadyToCall, GoesOn, all_own}
use Rattle.call_parts.proofs.Joining.{goes_does, goes_prepared, goes_then, setting_before}
use Rattle.call_parts.proofs.Tokens.{now_more}
use Rattle.compact_calls.specs.Owner.{IsOwning}
use Rattle.compact_calls.proofs.Owning.{cancel}
use Rattle.compact_calls.proofs.Doing.{split, others_leave}
use Rattle.compact_calls.proofs.Decommitting.{owns_now}
use Rattle.layout_decode.specs.declared.Image.{Image}
use Rattle.layout_decode.specs.Decode.{decode, is_at_or_after}
use Rattle.walk_calls.specs.Words.{IsKnownFor, HasWords}
use Rattle.walk_calls.specs.Seen.{SameParts, Looks, IsImageOf, CanBeRead, TellsPages}
use Rattle.walk_calls.specs.Locks.{HasDone, TellAll, AreWhole, all_slots, taking, giving}
use Rattle.walk_calls.specs.Walk.{IsWalked, Walks, walk_reply}
use Rattle.walk_calls.proofs.Looking.{of_heap, parts_trans, parts_back, looks_runs}
use Rattle.walk_calls.proofs.Locking.{done_then, done_looks, vs_same, back_same, large_same, all_on}
use Rattle.walk_calls.proofs.Showing.{none_holds, seen, seen_lives, is_image, is_shown, can_be_read, image_same, live_same}

---- Its Begin

module _ (a b : Token) (call : Call) (st : IsStanding a) (ra : IsReadyToCall a) (wa : a.owes ≡ []) (owns : a.depth ≢ 0) (run : Runs (with_prepared a (acts.Begin call)) b []) (s1 : Stands b (stance (with_prepared a (acts.Begin call)))) where
  pub begun : IsOwning b call []
  begun = record {
    call_is = s1.call;
    outside = s1.inside ∙ ra.outside;
    owns = λ z. owns (sym s1.depth ∙ z);
    out_is = s1.out ∙ ra.out;
    whole = s1.whole;
    free = s1.free ∙ ra.free;
    pending = s1.pending;
    prepared = s1.prepared;
    owes = s1.owes ∙ wa;
  }

  pub begin_goes : GoesOn a b (acts.Begin call ∷ [])
  begin_goes = goes_then a (with_prepared a (acts.Begin call)) b (acts.Begin call ∷ []) [] (goes_prepared a (acts.Begin call)) (goes_does (with_prepared a (acts.Begin call)) b [] run.does s1.depth)

  pub begin_heap : Always b (λ s. SameParts (now s b) (now s a))
  begin_heap s q =
      let n = a.number in
      let r = subst (AgreesFor n (now s b)) (now_more s a (acts.Begin call)) (run.agrees s q) in
      let h : SameHeap (now s b) (after s (now s a) (entry n (acts.Begin call))) = r.owned (owns_now a st owns s (setting_before a b (acts.Begin call ∷ []) begin_goes s q)) in
      record { back = h.back; vs = h.vs; lfh = h.lfh; large = h.large }

-- .. as the caller's steps tell it
pub begun_by : (a t b : Token) (from : ℕ) → t ≡ with_prepared a (acts.Begin (calls.WalkNext from)) → IsStanding a → IsReadyToCall a → a.owes ≡ [] → a.depth ≢ 0 → Runs t b [] → Stands b (stance t) → IsOwning b (calls.WalkNext from) []
begun_by a t b from e st ra wa owns run s1 =
    begun a b (calls.WalkNext from) st ra wa owns (subst (λ (x : Token). Runs x b []) e run) (subst (λ (x : Token). Stands b (stance x)) e s1)

---- What the words and the states are

-- The owner outside knows that words show the heap.
pub words_at : (c : Token) → IsStanding c → c.depth ≢ 0 → c.out ≡ [] → (s : Setting) → IsSettingOf c.opening c.roll s → IsKnownFor c.opening (now s c) → ((now s c).state.gate.locks.back ≡ None → HasWords c.opening.limits (now s c)) → HasWords c.opening.limits (now s c)
words_at c st owns out s q k w = w (none_holds (now s c).state.gate c.number whats.Back k.keeps.gate (owns_now c st owns s q) ((st s q).locks whats.Back ∙ ap (is_out whats.Back) out))

-- An image of what it has when it has taken the locks.
pub record IsSeenAt (d : Token) (vs : VsKept) (back : Kept) (large : LargeTable) (s : Setting) : Type 0 where
  pub image : Image
  pub is : IsImageOf image d.opening.limits back.words vs.chunks (now s d).state
  pub large_is : image.large ≡ large
  pub lives : decode image ≡ live (now s d).state
  pub readable : CanBeRead d.opening.limits back.words vs.chunks

module _ (b d : Token) (vs : VsKept) (back : Kept) (large : LargeTable) (st : IsStanding b) (owns : b.depth ≢ 0) (out : b.out ≡ []) (known : Always b (λ s. IsKnownFor b.opening (now s b)))
    (words : Always b (λ s. (now s b).state.gate.locks.back ≡ None → HasWords b.opening.limits (now s b))) (take : HasDone b d taking [] all_slots) (tells : TellAll d vs back large) (wh : AreWhole vs back) where
  pub seen_at : Always d (IsSeenAt d vs back large)
  seen_at s q =
      let m = now s b in
      let qb = setting_before b d taking take.goes s q in
      let k = known s qb in
      let w = words_at b st owns out s qb k (words s qb) in
      let h = take.heap s q in
      let hb = parts_back (now s d) m h in
      let tv = subst (λ (o : Opening). StandsForVs o m.state (vss.layer_of vs)) take.goes.opening (vs_same d.opening m (now s d) (vss.layer_of vs) hb (tells.vs_is s q)) in
      let tb = subst (λ (o : Opening). StandsForBack o m.state (backs.layer_of back)) take.goes.opening (back_same d.opening m (now s d) (backs.layer_of back) hb (tells.back_is s q)) in
      let tl = subst (λ (o : Opening). StandsForLarge o m.state (larges.layer_of large)) take.goes.opening (large_same d.opening m (now s d) (larges.layer_of large) hb (tells.large_is s q)) in
      let i = seen b.opening m k w vs back large wh tv tb tl in
      let im : IsImageOf i d.opening.limits back.words vs.chunks m.state =
      subst (λ (o : Opening). IsImageOf i o.limits back.words vs.chunks m.state) (sym take.goes.opening) (is_image b.opening m k w vs back large wh tv tb tl) in
      record {
        image = i;
        is = image_same i d.opening.limits back.words vs.chunks (now s d) m h im;
        large_is = refl;
        lives = seen_lives b.opening m k w vs back large wh tv tb tl ∙ sym (live_same (now s d) m h);
        readable = subst (λ (o : Opening). CanBeRead o.limits back.words vs.chunks) (sym take.goes.opening) (can_be_read b.opening m k w vs back large wh tv tb tl);
      }

  pub read_at : CanBeRead d.opening.limits back.words vs.chunks
  read_at = (seen_at (setting_of d.opening d.roll) (some_setting d.opening d.roll)).readable

---- The list

acts_again : (n : ℕ) (rest : List Act) → map (λ (e : Entry). e.act) (by_all n rest) ≡ rest
acts_again n [] = refl
acts_again n (act ∷ rest) = ap (λ (l : List Act). act ∷ l) (acts_again n rest)

own_of : (a e : Token) (added : List Act) (x : GoesOn a e added) → a.prepared ≡ [] → e.prepared ≡ [] → own a.number x.seen.0 ≡ by_all a.number added
own_of a e added x na ne =
    let before : all_own a ≡ own a.number a.seen = ap (λ (l : List Entry). own a.number a.seen ++ l) na ∙ append-nil (own a.number a.seen) in
    let behind : own a.number e.seen ≡ own a.number a.seen ++ by_all a.number added =
    (λ j. own (sym x.number j) e.seen) ∙ (sym (append-nil (own e.number e.seen)) ∙ (ap (λ (l : List Entry). own e.number e.seen ++ l) (sym ne) ∙ (x.own ∙ ap (λ (l : List Entry). l ++ by_all a.number added) before))) in
    cancel (own a.number a.seen) (own a.number x.seen.0) (by_all a.number added) (sym (own-append a.number a.seen x.seen.0) ∙ (ap (own a.number) x.seen.1 ∙ behind))

own_grows : (a e : Token) (added : List Act) (x : GoesOn a e added) → a.prepared ≡ [] → e.prepared ≡ [] → own a.number e.seen ≡ own a.number a.seen ++ by_all a.number added
own_grows a e added x na ne = ap (own a.number) (sym x.seen.1) ∙ (own-append a.number a.seen x.seen.0 ∙ ap (λ (l : List Entry). own a.number a.seen ++ l) (own_of a e added x na ne))

legal_on : (a e : Token) (p : IsPrefix a.seen e.seen) → IsLegalWith e.opening e.roll e.seen → (s : Setting) → IsSettingOf e.opening e.roll s
    → (GateIsSound (configuration_of s a.seen).state.gate) × (may_all_follow s (configuration_of s a.seen) p.0 ≡ true)
legal_on a e p legal s q =
    let all = (legal_parts s e.seen (legal s q)).0 in
    let r = follow_parts s first_configuration a.seen p.0 (ap (may_all_follow s first_configuration) p.1 ∙ all) in
    (gate_sound_after s first_configuration a.seen r.0 gate_sound_first, r.1)

no_own_act : (s : Setting) (n : ℕ) (m : Configuration) (es : List Entry) (test : Act → Rattle.std.proofs.Common.Bool) → own n es ≡ [] → list_any test (acts_of (moments s n m es)) ≡ false
no_own_act s n m es test h = ap (list_any test) (moments_acts s n m es ∙ ap (map (λ (e : Entry). e.act)) h)

---- Its answer

abbrev pub walk_acts : List Act
walk_acts = ((taking ++ []) ++ giving) ++ []

-- a reply of a walk has this shape
reply_shape : (s : Setting) (c from count : ℕ) (found : Option Block) (xs : List Moment) → WalksTo from found xs → Rattle.heap_model.specs.Shape.HasShape s c (calls.WalkNext from) (Replied (walk_reply found count)) xs
reply_shape s c from count (Some b) xs w = w
reply_shape s c from count None xs w = w

module _ (a g : Token) (from : ℕ) (found : Option Block) (st : IsStanding a) (ra : IsReadyToCall a) (owns : a.depth ≢ 0) (goes : GoesOn a g (acts.Begin (calls.WalkNext from) ∷ walk_acts)) (legal : IsLegalWith g.opening g.roll g.seen)
    (rg : IsReadyToCall g) (wg : g.owes ≡ []) (heap : Always g (λ s. SameParts (now s g) (now s a))) (next : Always g (λ s. found ≡ next_live from (now s g).state)) where
  own_is : own a.number goes.seen.0 ≡ by_all a.number (acts.Begin (calls.WalkNext from) ∷ walk_acts)
  own_is = own_of a g (acts.Begin (calls.WalkNext from) ∷ walk_acts) goes ra.prepared rg.prepared

  module _ (s : Setting) (q : IsSettingOf g.opening g.roll s) where
    -- at the Begin the owner has the heap that it had
    begin_state : In (state_before is_begin (moments s a.number (configuration_of s a.seen) goes.seen.0)) (λ y. next_live from y ≡ found)
    begin_state =
        let m = configuration_of s a.seen in
        let n = a.number in
        let y = split n goes.seen.0 (entry n (acts.Begin (calls.WalkNext from))) (by_all n walk_acts) own_is in
        let l = legal_on a g goes.seen legal s q in
        let follow = follow_parts s m y.first (entry n (acts.Begin (calls.WalkNext from)) ∷ y.later) (ap (may_all_follow s m) (sym y.is) ∙ l.1) in
        let k = configuration_after s m y.first in
        let now_is : m ≡ now s a = ap (configuration_after s m) (sym ra.prepared) in
        let owner : is_caller n m.state.gate.owner ≡ true = ap (λ (z : Configuration). is_caller n z.state.gate.owner) now_is ∙ owns_now a st owns s (setting_before a g (acts.Begin (calls.WalkNext from) ∷ walk_acts) goes s q) in
        let o = others_leave s m n y.first y.none follow.0 l.0 owner in
        let at : state_before is_begin (moments s n m goes.seen.0) ≡ Some k.state =
        ap (λ (z : List Entry). state_before is_begin (moments s n m z)) y.is
        ∙ first_is_before s n m y.first y.later (acts.Begin (calls.WalkNext from)) is_begin refl (no_own_act s n m y.first is_begin y.none) in
        let lives : live k.state ≡ live (now s g).state = live_same k m (of_heap k m o.0) ∙ (ap (λ (z : Configuration). live z.state) now_is ∙ sym (live_same (now s g) (now s a) (heap s q))) in
        subst (λ (x : Option State). In x (λ y. next_live from y ≡ found)) (sym at) (ap (find (is_at_or_after from)) lives ∙ sym (next s q))

    told : WalksTo from found (moments s a.number (configuration_of s a.seen) goes.seen.0)
    told = ((own_acts_are_shown s a.number (configuration_of s a.seen) goes.seen.0 (calls.WalkNext from) walk_acts own_is refl).1, begin_state)

    pub answered : (count : ℕ) → IsAnswered s a.number (calls.WalkNext from) (Replied (walk_reply found count)) (moments s a.number (configuration_of s a.seen) goes.seen.0)
    answered count = record {
      one = (own_acts_are_shown s a.number (configuration_of s a.seen) goes.seen.0 (calls.WalkNext from) walk_acts own_is refl).0;
      shape = reply_shape s a.number from count found (moments s a.number (configuration_of s a.seen) goes.seen.0) told;
    }

  pub walked : (count : ℕ) → IsWalked a g from (Replied (walk_reply found count))
  walked count = record {
    rest = walk_acts;
    answers = record {
      table = goes.table;
      opening = goes.opening;
      number = goes.number;
      depth = goes.depth;
      roll = goes.roll;
      seen = goes.seen;
      own = own_grows a g (acts.Begin (calls.WalkNext from) ∷ walk_acts) goes ra.prepared rg.prepared;
      answered = λ s q. answered s q count;
      legal = legal;
      ready = rg;
    };
    owes = wg;
  }

---- All of it

module _ (a b d e f g : Token) (from : ℕ) (found : Option Block) (vs : VsKept) (back : Kept) (large : LargeTable) (sta : IsStanding a) (ra : IsReadyToCall a) (wa : a.owes ≡ []) (owns : a.depth ≢ 0)
    (run1 : Runs (with_prepared a (acts.Begin (calls.WalkNext from))) b []) (s1 : Stands b (stance (with_prepared a (acts.Begin (calls.WalkNext from)))))
    (known1 : Always b (λ s. IsKnownFor b.opening (now s b))) (words1 : Always b (λ s. (now s b).state.gate.locks.back ≡ None → HasWords b.opening.limits (now s b))) (stb : IsStanding b)
    (take : HasDone b d taking [] all_slots) (tells : TellAll d vs back large) (wh : AreWhole vs back) (look : Looks d e)
    (seen_is : TellsPages back.words vs.chunks d e (λ image. image.large ≡ large → found ≡ find (is_at_or_after from) (decode image))) (give : HasDone e f giving all_slots []) (stf : IsStanding f)
    (run2 : Runs f g []) (s2 : Stands g (stance f)) (known2 : Always g (λ s. IsKnownFor g.opening (now s g))) (words2 : Always g (λ s. (now s g).state.gate.locks.back ≡ None → HasWords g.opening.limits (now s g))) (stg : IsStanding g) where
  abbrev call : Call
  call = calls.WalkNext from

  abbrev begin_is : IsOwning b call []
  begin_is = begun a b call sta ra wa owns run1 s1

  to_f : HasDone b f ((taking ++ []) ++ giving) [] []
  to_f = done_then b e f (taking ++ []) giving [] all_slots [] (done_then b d e taking [] [] all_slots all_slots take (done_looks d e all_slots look)) give

  last : Looks f g
  last = looks_runs f g stf (to_f.did call begin_is).owning.owns run2 s2

  all : HasDone b g walk_acts [] []
  all = done_then b f g ((taking ++ []) ++ giving) [] [] [] [] to_f (done_looks f g [] last)

  goes : GoesOn a g (acts.Begin call ∷ walk_acts)
  goes = goes_then a b g (acts.Begin call ∷ []) walk_acts (begin_goes a b call sta ra wa owns run1 s1) all.goes

  own_g : IsOwning g call []
  own_g = (all.did call begin_is).owning

  heap : Always g (λ s. SameParts (now s g) (now s a))
  heap s q = parts_trans (now s g) (now s b) (now s a) (all.heap s q) (begin_heap a b call sta ra wa owns run1 s1 s (setting_before b g walk_acts all.goes s q))

  -- the states still tell what the locks guard
  tells_e : TellAll e vs back large
  tells_e = all_on d e [] look.goes look.heap vs back large tells

  tells_f : TellAll f vs back large
  tells_f = all_on e f giving give.goes give.heap vs back large tells_e

  tells_g : TellAll g vs back large
  tells_g = all_on f g [] last.goes last.heap vs back large tells_f

  next : Always g (λ s. found ≡ next_live from (now s g).state)
  next s q =
      let qf = setting_before f g [] last.goes s q in
      let qe = setting_before e f giving give.goes s qf in
      let qd = setting_before d e [] look.goes s qe in
      let i = seen_at b d vs back large stb begin_is.owns begin_is.out_is known1 words1 take tells wh s qd in
      let h = parts_trans (now s g) (now s f) (now s d) (last.heap s q) (parts_trans (now s f) (now s e) (now s d) (give.heap s qf) (look.heap s qe)) in
      seen_is s qe i.image i.is i.large_is ∙ ap (find (is_at_or_after from)) (i.lives ∙ sym (live_same (now s g) (now s d) h))

  pub walks : Walks a g from found
  walks = record {
    owns = owns;
    answered = walked a g from found sta ra owns goes run2.does.legal (record { outside = own_g.outside; out = own_g.out_is; free = own_g.free; whole = own_g.whole; pending = own_g.pending; prepared = own_g.prepared }) own_g.owes heap next;
    next = next;
    shown = λ s q.
        let k = known2 s q in
        is_shown g.opening (now s g) k (words_at g stg own_g.owns own_g.out_is s q k (words2 s q)) vs back large wh (tells_g.vs_is s q) (tells_g.back_is s q) (tells_g.large_is s q) s q.limits q.seed;
  }
