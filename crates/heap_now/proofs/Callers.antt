-- Callers between their calls and within a stay, behind each thing that a program does with them.
use Rattle.std.proofs.Common.{◌≡◌, ℕ, true, List, [], ◌∷◌, Some, refl, sym, ap, ◌∙◌, subst, arith}
use Rattle.heap_model.specs.declared.Act.TheVariants as acts
use Rattle.heap_model.specs.declared.Call.{Call}
use Rattle.heap_model.specs.declared.Entry.{Entry}
use Rattle.heap_model.specs.declared.Opening.{Opening}
use Rattle.heap_model.specs.declared.What.{What}
use Rattle.heap_model.specs.declared.What.TheVariants as whats
use Rattle.heap_model.specs.Buckets.{block_size}
use Rattle.heap_model.specs.Layers.{StandsForVs, StandsForBack}
use Rattle.heap_model.specs.Legal.{leaves_whole}
use Rattle.heap_model.specs.Shape.{Answer, Replied, WasBusy}
use Rattle.heap_model.specs.State.{Setting, Place, hands, holds}
use Rattle.claim_rule.specs.Entries.{IsSettingOf, entry}
use Rattle.claim_rule.specs.Places.{vs_slot, back_slot}
use Rattle.claim_rule.specs.declared.views.Assignment.{Assignment}
use Rattle.claim_rule.proofs.Lists.{setting_less}
use Rattle.step_parts.specs.InHand.{HasBlock}
use Rattle.block_steps.specs.Blocks.{MayAsk, MayPublish}
use Rattle.heap_gate.specs.Token.{HeapToken, Token, Always, now, IsStanding, is_out}
use Rattle.heap_gate.specs.Roots.{RootToken, HaveMet, HasJoined, fresh_caller}
use Rattle.heap_gate.specs.Calls.{rested, HasRested, HasTaken, HasGiven}
use Rattle.backend_fit.specs.Kept.{Kept}
use Rattle.backend_fit.specs.Kept as backs
use Rattle.backend_fit.proofs.Told.{spans_used}
use Rattle.large_blocks.specs.Table.{LargeTable}
use Rattle.large_blocks.specs.Table as larges
use Rattle.vs_layer.specs.Kept.{VsKept}
use Rattle.vs_layer.specs.Standing as vss
use Rattle.lfh_claims.specs.declared.tag.Tag.{Tag}
use Rattle.lfh_claims.specs.Blocks.{HasTag, HasTakenLive, HasPublished}
use Rattle.lfh_claims.specs.Moves.{IsWith}
use Rattle.lfh_claims.specs.Stays.{IsInside as IsEntered}
use Rattle.lfh_claims.proofs.Known.{asks_by_tag, publishes_in_hand}
use Rattle.call_parts.specs.Calls.{IsServing, IsInside}
use Rattle.call_parts.proofs.Joining.{goes_does, setting_before}
use Rattle.paged_calls.specs.Parts.{HasBoth}
use Rattle.front_calls.proofs.Steps.{hand_empty}
use Rattle.address_calls.proofs.States.{serving_taken, serving_given, serving_tagged, vs_tells, vs_stands, vs_used, back_stands, vs_taken, both_taken, given_tells, given_serving}
use Rattle.heap_now.specs.Calls.{IsCallerOf, HasBegun, HasGone, EndsWith}
use Rattle.heap_now.specs.Callers.{IsFreeCaller, IsRootOf, IsHere, IsInStay, MayGo, HoldsVs, HoldsBoth, HoldsAll, HasInHand}
use Rattle.heap_now.proofs.Frames.{again}

---- Between two calls

pub free_again : (May : What → Type 0) (h : HeapToken) (a e : Token) (call : Call) (answer : Answer) → IsFreeCaller h a → EndsWith May a e call answer → IsFreeCaller h e
free_again May h a e call (Replied reply) k x = record { caller = again May h a e call (Replied reply) k.caller x; depth = x.answers.depth ∙ k.depth }
free_again May h a e call (WasBusy busy) k x = record { caller = again May h a e call (WasBusy busy) k.caller x; depth = x.0.gets.answers.depth ∙ k.depth }

-- a new caller
fresh_is : (h : HeapToken) (r : RootToken) (slot stream : ℕ) → IsRootOf h r → IsFreeCaller h (fresh_caller r slot stream)
fresh_is h r slot stream k = record {
  caller = record {
    table = k.table;
    opening = k.opening;
    is_ready = record { ready = record { outside = refl; out = refl; free = refl; whole = refl; pending = refl; prepared = refl }; owes = refl };
  };
  depth = refl;
}

pub fresh_free : (h : HeapToken) (r : RootToken) (slot stream : ℕ) (c : Token) → IsRootOf h r → c ≡ fresh_caller r slot stream → IsFreeCaller h c
fresh_free h r slot stream c k e = subst (IsFreeCaller h) (sym e) (fresh_is h r slot stream k)

pub root_still : (h : HeapToken) (r r' : RootToken) (roll : List Assignment) → IsRootOf h r → r' ≡ record r { roll = roll } → IsRootOf h r'
root_still h r r' roll k e = subst (IsRootOf h) (sym e) (record { table = k.table; opening = k.opening })

-- it knows more
more_known : (h : HeapToken) (a : Token) (roll : List Assignment) (seen : List Entry) → IsFreeCaller h a → IsFreeCaller h (record a { roll = roll; seen = seen })
more_known h a roll seen k =
    let r = k.caller.is_ready.ready in
    record {
      caller = record {
        table = k.caller.table;
        opening = k.caller.opening;
        is_ready = record { ready = record { outside = r.outside; out = r.out; free = r.free; whole = r.whole; pending = r.pending; prepared = r.prepared }; owes = k.caller.is_ready.owes };
      };
      depth = k.depth;
    }

pub first_met : (h : HeapToken) (a b a' b' : Token) → IsFreeCaller h a → HaveMet a b a' b' → IsFreeCaller h a'
first_met h a b a' b' k x = subst (IsFreeCaller h) (sym x.same) (more_known h a a'.roll a'.seen k)

pub second_met : (h : HeapToken) (a b a' b' : Token) → IsFreeCaller h b → HaveMet a b a' b' → IsFreeCaller h b'
second_met h a b a' b' k x = subst (IsFreeCaller h) (sym x.same') (more_known h b b'.roll b'.seen k)

pub root_joined : (h : HeapToken) (r r' : RootToken) (c : Token) → IsRootOf h r → HasJoined r c r' → IsRootOf h r'
root_joined h r r' c k x = record { table = x.table ∙ k.table; opening = x.opening ∙ k.opening }

---- Within a stay

may_leave : (c : Token) (call : Call) → IsServing c call [] → IsInside c call
may_leave c call v = record {
  call_is = v.call_is;
  fresh = v.fresh;
  inside = v.inside;
  out = v.out_is;
  whole = v.whole;
  free = v.free;
  pending = v.pending;
  prepared = v.prepared;
  drawn = v.searched ∙ sym v.drawn;
  owes = v.owes;
}

pub stay_goes : (h : HeapToken) (c : Token) → IsInStay h c → MayGo h c
stay_goes h c k = record { here = k.here; call = k.call; inside = may_leave c k.call k.serving }

pub in_stay : (h : HeapToken) (a b : Token) (call : Call) → IsFreeCaller h a → HasBegun a b call → IsInStay h b
in_stay h a b call k x = record {
  here = record { table = x.goes.table ∙ k.caller.table; opening = x.goes.opening ∙ k.caller.opening; depth = x.goes.depth ∙ k.depth };
  call = call;
  serving = x.serving;
}

pub gone_free : (h : HeapToken) (a b : Token) → MayGo h a → HasGone a b → IsFreeCaller h b
gone_free h a b k x = record {
  caller = record { table = x.goes.table ∙ k.here.table; opening = x.goes.opening ∙ k.here.opening; is_ready = x.ready };
  depth = x.goes.depth ∙ k.here.depth;
}

---- Locks

pub stays_here : (h : HeapToken) (a b : Token) → IsHere h a → b.table ≡ a.table → b.opening ≡ a.opening → b.depth ≡ a.depth → IsHere h b
stays_here h a b k t o d = record { table = t ∙ k.table; opening = o ∙ k.opening; depth = d ∙ k.depth }

pub vs_held : (h : HeapToken) (a b : Token) (vs : VsKept) → IsInStay h a → HasTaken vss.layer_of a b whats.Vs vs → HoldsVs h b vs
vs_held h a b vs k x = record {
  here = stays_here h a b k.here x.reveals.does.table x.reveals.does.opening x.stands.depth;
  has = vs_taken a b vs k.call k.serving x;
}

pub vs_given : (h : HeapToken) (a b : Token) (vs : VsKept) → HoldsVs h a vs → HasGiven a b whats.Vs (entry a.number (acts.GiveLock whats.Vs) ∷ []) → MayGo h b
vs_given h a b vs k x =
    let v = serving_given a b whats.Vs k.has.call [] k.has.holds.serving x in
    record {
      here = stays_here h a b k.here x.runs.does.table x.runs.does.opening (x.stands [] k.has.holds.serving.out_is).depth;
      call = k.has.call;
      inside = may_leave b k.has.call v;
    }

-- the lock of the back end, taken behind it
pub both_held : (h : HeapToken) (a b : Token) (vs : VsKept) (back : Kept) → HoldsVs h a vs → IsStanding a → HasTaken backs.layer_of a b whats.Back back → HoldsBoth h b vs back
both_held h a b vs back k st x = record {
  here = stays_here h a b k.here x.reveals.does.table x.reveals.does.opening x.stands.depth;
  has = both_taken a vs k.has st b back x;
}

-- the lock of the large area, taken behind the two others
module _ (h : HeapToken) (a : Token) (vs : VsKept) (back : Kept) (both : HoldsBoth h a vs back) (st : IsStanding a) where
  k : HasBoth a vs back
  k = both.has

  pub all_held : (b : Token) (large : LargeTable) → HasTaken larges.layer_of a b whats.Large large → HoldsAll h b vs back large
  all_held b large x = record {
    here = stays_here h a b both.here x.reveals.does.table x.reveals.does.opening x.stands.depth;
    call = k.call;
    serving = serving_taken larges.layer_of a b whats.Large large k.call (back_slot ∷ vs_slot ∷ []) refl k.holds.serving x;
    used = λ s q. let g = x.guarded s q in vs_used (now s a).state (now s b).state (g.vs (vs_is s q)) (g.spans (vs_is s q)) (k.used s (before s q));
    tells_vs = λ s q. let g = x.guarded s q in
        subst (λ (o : Opening). StandsForVs o (now s b).state (vss.layer_of vs)) (sym x.reveals.does.opening) (vs_stands a.opening (now s a).state (now s b).state vs (k.holds.tells_vs s (before s q)) (g.vs (vs_is s q)) (g.spans (vs_is s q)));
    tells_back = λ s q. let g = x.guarded s q in
        subst (λ (o : Opening). StandsForBack o (now s b).state (backs.layer_of back)) (sym x.reveals.does.opening) (back_stands a.opening (now s a).state (now s b).state back (k.holds.tells_back s (before s q)) (g.back (back_is s q)));
    tells_large = x.tells_it;
  }
    where
      before : (s : Setting) → IsSettingOf b.opening b.roll s → IsSettingOf a.opening a.roll s
      before s q = setting_less a.opening a.roll b.roll s x.reveals.does.roll (subst (λ (o : Opening). IsSettingOf o b.roll s) x.reveals.does.opening q)

      vs_is : (s : Setting) → IsSettingOf b.opening b.roll s → holds (now s a).state.gate a.number whats.Vs ≡ true
      vs_is s q = (st s (before s q)).locks whats.Vs ∙ ap (is_out whats.Vs) k.holds.serving.out_is

      back_is : (s : Setting) → IsSettingOf b.opening b.roll s → holds (now s a).state.gate a.number whats.Back ≡ true
      back_is s q = (st s (before s q)).locks whats.Back ∙ ap (is_out whats.Back) k.holds.serving.out_is

-- .. and given before them
module _ (h : HeapToken) (a b : Token) (vs : VsKept) (back : Kept) (large : LargeTable) (k : HoldsAll h a vs back large) (st : IsStanding a) (x : HasGiven a b whats.Large (entry a.number (acts.GiveLock whats.Large) ∷ [])) where
  before_given : (s : Setting) → IsSettingOf b.opening b.roll s → IsSettingOf a.opening a.roll s
  before_given s q = setting_less a.opening a.roll b.roll s x.runs.does.roll (subst (λ (o : Opening). IsSettingOf o b.roll s) x.runs.does.opening q)

  vs_out : Always a (λ s. holds (now s a).state.gate a.number whats.Vs ≡ true)
  vs_out s q = (st s q).locks whats.Vs ∙ ap (is_out whats.Vs) k.serving.out_is

  large_here : IsHere h b
  large_here = stays_here h a b k.here x.runs.does.table x.runs.does.opening (x.stands (back_slot ∷ vs_slot ∷ []) k.serving.out_is).depth

  pub large_given : HoldsBoth h b vs back
  large_given =
      let t = vs_tells a b (entry a.number (acts.GiveLock whats.Large) ∷ []) x.runs vs (λ s. (refl, refl, refl)) vs_out k.used k.tells_vs in
      record {
        here = large_here;
        has = record {
          call = k.call;
          holds = record {
            serving = serving_given a b whats.Large k.call (back_slot ∷ vs_slot ∷ []) k.serving x;
            tells_vs = λ s q. (t s q).1;
            tells_back = λ s q.
                let held = (st s (before_given s q)).locks whats.Back ∙ ap (is_out whats.Back) k.serving.out_is in
                subst (λ (o : Opening). StandsForBack o (now s b).state (backs.layer_of back)) (sym x.runs.does.opening)
                (back_stands a.opening (now s a).state (now s b).state back (k.tells_back s (before_given s q)) ((x.runs.agrees s q).back held));
          };
          used = λ s q. (t s q).0;
        };
      }

-- the lock of the back end is given
pub back_given : (h : HeapToken) (a b : Token) (vs : VsKept) (back : Kept) → HoldsBoth h a vs back → IsStanding a → HasGiven a b whats.Back (entry a.number (acts.GiveLock whats.Back) ∷ []) → HoldsVs h b vs
back_given h a b vs back both st x =
    let k = both.has in
    let t = given_tells a vs back k st b x in
    record {
      here = stays_here h a b both.here x.runs.does.table x.runs.does.opening (x.stands (vs_slot ∷ []) k.holds.serving.out_is).depth;
      has = record {
        call = k.call;
        holds = record { serving = given_serving a vs back k st b x; tells = λ s q. (t s q).1 };
        used = λ s q. (t s q).0;
      };
    }

pub back_tells : (a : Token) (vs : VsKept) (back : Kept) → HasBoth a vs back → Always a (λ s. (leaves_whole (now s a).state whats.Back ≡ true) × StandsForBack a.opening (now s a).state (backs.layer_of back))
back_tells a vs back k s q = let t = k.holds.tells_back s q in (spans_used a.opening (now s a).state back t, t)

---- A block in hand

pub may_ask : (h : HeapToken) (a b : Token) (tag : Tag) → IsInStay h a → HasTag a b 18 (Some tag) → IsStanding b → Always b (λ s. MayAsk (now s b) b.number tag.head tag.bucket tag.slot 76720)
may_ask h a b tag k x st = asks_by_tag a b 76720 tag x st (x.stands.inside ∙ k.serving.inside) refl

pub in_hand : (h : HeapToken) (a b d : Token) (tag : Tag) (size : ℕ) → IsInStay h a → HasTag a b 18 (Some tag) → IsStanding b → tag.bucket ≡ 1 → HasTakenLive b d tag 76720 size → HasInHand h d 76720
in_hand h a b d tag size k t st bucket x =
    let v = serving_tagged a b 18 (Some tag) k.call [] k.serving t in
    let s' = x.stands in
    let n : d.number ≡ b.number = x.takes.does.number in
    record {
      here = stays_here h a d k.here (x.takes.does.table ∙ t.runs.does.table) (x.takes.does.opening ∙ t.runs.does.opening) (s'.depth ∙ t.stands.depth);
      call = k.call;
      call_is = s'.call ∙ v.call_is;
      fresh = s'.fresh ∙ v.fresh;
      inside = s'.inside ∙ v.inside;
      out = s'.out ∙ v.out_is;
      whole = s'.whole;
      pending = s'.pending;
      prepared = s'.prepared;
      drawn = (s'.searched ∙ v.searched) ∙ sym (s'.drawn ∙ v.drawn);
      owes = s'.owes ∙ v.owes;
      block = λ s q. subst (λ (m : ℕ). HasBlock (now s d) m 1 76720) (sym n) (subst (λ (u : ℕ). HasBlock (now s d) b.number u 76720) bucket (x.block s q));
      hand = λ s q.
          let qb = setting_before b d (acts.Take 76720 size ∷ []) (goes_does b d (acts.Take 76720 size ∷ []) x.takes.does s'.depth) s q in
          let none = (st s qb).hands v.free in
          subst (λ (m : ℕ). IsWith 76720 [] (hands (now s d).state m)) (sym n) (subst (λ (l : List Place). IsWith 76720 l (hands (now s d).state b.number)) none (x.takes.hands s q));
    }

module _ (h : HeapToken) (a : Token) (k : HasInHand h a 76720) (st : IsStanding a) where
  pub may_publish : Always a (λ s. MayPublish s (now s a) a.number 76720 16)
  may_publish =
      let inside : IsEntered a = λ s q. (st s q).entered ∙ k.inside in
      let size : block_size 1 ≡ 16 = refl in
      publishes_in_hand a 1 76720 16 inside k.block (omega (arith, size)) (omega arith)

  module _ (b : Token) (x : HasPublished a b 76720 16) where
    pub hand_rests : IsStanding b → Always b (λ s. HasRested (now s b) b.number)
    hand_rests sb s q =
        let qa = setting_before a b (acts.Give 76720 16 ∷ []) (goes_does a b (acts.Give 76720 16 ∷ []) x.moves.does x.stands.depth) s q in
        let none = hand_empty 76720 [] (hands (now s a).state a.number) (hands (now s b).state a.number) refl (k.hand s qa) (x.moves.hands s q) in
        record {
          hands = subst (λ (m : ℕ). hands (now s b).state m ≡ []) (sym x.moves.does.number) none;
          demand = (sb s q).demand x.stands.whole;
        }

    pub published_goes : (d : Token) → d ≡ rested b → MayGo h d
    published_goes d e = subst (MayGo h) (sym e) (record {
      here = record { table = x.moves.does.table ∙ k.here.table; opening = x.moves.does.opening ∙ k.here.opening; depth = x.stands.depth ∙ k.here.depth };
      call = k.call;
      inside = record {
        call_is = x.stands.call ∙ k.call_is;
        fresh = x.stands.fresh ∙ k.fresh;
        inside = x.stands.inside ∙ k.inside;
        out = x.stands.out ∙ k.out;
        whole = refl;
        free = refl;
        pending = x.stands.pending;
        prepared = x.stands.prepared;
        drawn = (x.stands.searched ∙ k.drawn) ∙ sym x.stands.drawn;
        owes = x.stands.owes ∙ k.owes;
      };
    })

---- The heap lock

pub owns_nothing : (h : HeapToken) (a b : Token) → IsCallerOf h a → (a.depth ≡ 0) × (b ≡ a) → IsFreeCaller h b
owns_nothing h a b k x = subst (IsFreeCaller h) (sym x.1) (record { caller = k; depth = x.0 })
