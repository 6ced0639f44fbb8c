-- The locks of the layers, taken and given back by the owner of the heap lock.
use Rattle.std.proofs.Common.{◌≡◌, ℕ, Bool, true, false, not, ◌||◌, ◌==◌, List, [], ◌∷◌, ◌++◌, refl, sym, ap, ◌∙◌, subst}
use Rattle.std.proofs.lemmas.Bool.{ne_eqb}
use Rattle.heap_model.specs.declared.Act.{Act}
use Rattle.heap_model.specs.declared.Act.TheVariants as acts
use Rattle.heap_model.specs.declared.Call.{Call}
use Rattle.heap_model.specs.declared.Kind.TheVariants as kinds
use Rattle.heap_model.specs.declared.Opening.{Opening}
use Rattle.heap_model.specs.declared.What.{What}
use Rattle.heap_model.specs.declared.What.TheVariants as whats
use Rattle.heap_model.specs.State.{BackPart, VsPart, by_address}
use Rattle.heap_model.specs.Ranges.{vs_spans}
use Rattle.heap_model.specs.CallState.{Configuration}
use Rattle.heap_model.specs.Legal.{after, are_used, leaves_whole}
use Rattle.heap_model.specs.Layers.{LayerState, StandsForVs, StandsForBack, StandsForLarge, sorted_vs, sorted_back}
use Rattle.heap_model.specs.Agreement.{SameHeap}
use Rattle.claim_rule.specs.Entries.{entry}
use Rattle.claim_rule.specs.Home.{slot_of}
use Rattle.lock_steps.specs.Locks.{owed_with}
use Rattle.claim_rule.specs.Places.{vs_slot, back_slot}
use Rattle.large_blocks.specs.Table.{LargeTable}
use Rattle.large_blocks.specs.Table as larges
use Rattle.backend_fit.specs.Kept.{Kept}
use Rattle.backend_fit.specs.Kept as backs
use Rattle.vs_layer.specs.Kept.{VsKept}
use Rattle.vs_layer.specs.Standing as vss
use Rattle.lfh_spans.proofs.Joined.{setting_of_old}
use Rattle.heap_gate.specs.Token.{Token, Always, IsStanding, now}
use Rattle.heap_gate.specs.Calls.{HasTaken, HasGiven}
use Rattle.call_parts.specs.Calls.{GoesOn}
use Rattle.call_parts.proofs.Joining.{goes_does, goes_then, setting_before}
use Rattle.compact_calls.specs.Owner.{IsOwning}
use Rattle.compact_calls.proofs.Doing.{did_take, did_give, did_then, taken_leaves}
use Rattle.compact_calls.proofs.Decommitting.{owns_now}
use Rattle.walk_calls.specs.Seen.{IsOwner, SameParts, Looks}
use Rattle.walk_calls.specs.Locks.{HasDone, TellAll, all_slots, taking, giving}
use Rattle.walk_calls.proofs.Looking.{of_heap, parts_trans}

---- One step

pub took : {T : Type 0} (tells : T → LayerState) (a b : Token) (what : What) (state : T) (out : List ℕ) → owed_with what [] ≡ [] → IsStanding a → IsOwner a → HasTaken tells a b what state → HasDone a b (acts.TakeLock what ∷ []) out (slot_of what ∷ out)
took tells a b what state out e st v x = record {
  goes = goes_does a b (acts.TakeLock what ∷ []) x.reveals.does x.stands.depth;
  did = λ call w. did_take tells a b call out what state e w x;
  heap = λ s q. of_heap (now s b) (now s a) (taken_leaves a b what x.reveals.does st v.owns v.prepared x.stands.prepared s q);
}

pub owner_took : {T : Type 0} (tells : T → LayerState) (a b : Token) (what : What) (state : T) → IsOwner a → HasTaken tells a b what state → IsOwner b
owner_took tells a b what state v x = record { owns = λ z. v.owns (sym x.stands.depth ∙ z); whole = x.stands.whole; pending = x.stands.pending; prepared = x.stands.prepared }

pub gave : (a b : Token) (what : What) (more : List ℕ) → IsStanding a → IsOwner a → a.out ≡ slot_of what ∷ more → HasGiven a b what (entry a.number (acts.GiveLock what) ∷ []) → HasDone a b (acts.GiveLock what ∷ []) (slot_of what ∷ more) more
gave a b what more st v out x = record {
  goes = goes_does a b (acts.GiveLock what ∷ []) x.runs.does (x.stands more out).depth;
  did = λ call w. did_give a b call what more w x;
  heap = λ s q.
      let qa = setting_of_old a b (entry a.number (acts.GiveLock what) ∷ []) x.runs.does s q in
      let h : SameHeap (now s b) (after s (now s a) (entry a.number (acts.GiveLock what))) = (x.runs.agrees s q).owned (owns_now a st v.owns s qa) in
      record { back = h.back; vs = h.vs; lfh = h.lfh; large = h.large };
}

pub owner_gave : (a b : Token) (what : What) (more : List ℕ) → IsOwner a → a.out ≡ slot_of what ∷ more → HasGiven a b what (entry a.number (acts.GiveLock what) ∷ []) → IsOwner b
owner_gave a b what more v out x = let s = x.stands more out in record { owns = λ z. v.owns (sym s.depth ∙ z); whole = s.whole; pending = s.pending; prepared = s.prepared }

---- One behind another

pub done_then : (a b c : Token) (xs ys : List Act) (p q r : List ℕ) → HasDone a b xs p q → HasDone b c ys q r → HasDone a c (xs ++ ys) p r
done_then a b c xs ys p q r x y = record {
  goes = goes_then a b c xs ys x.goes y.goes;
  did = λ call w. let d = x.did call w in did_then a b c call xs ys q r d (y.did call d.owning);
  heap = λ s k. parts_trans (now s c) (now s b) (now s a) (y.heap s k) (x.heap s (setting_before b c ys y.goes s k));
}

pub done_looks : (a b : Token) (out : List ℕ) → Looks a b → HasDone a b [] out out
done_looks a b out x =
    let s = x.stands in
    record {
      goes = x.goes;
      did = λ call v. record {
        goes = x.goes;
        no_begin = refl;
        owning = record {
          call_is = s.call ∙ v.call_is;
          outside = s.inside ∙ v.outside;
          owns = λ z. v.owns (sym s.depth ∙ z);
          out_is = s.out ∙ v.out_is;
          whole = s.whole;
          free = s.free ∙ v.free;
          pending = s.pending;
          prepared = s.prepared;
          owes = s.owes ∙ v.owes;
        };
        locked = s.locked;
      };
      heap = x.heap;
    }

---- What the states tell

pub vs_same : (o : Opening) (m k : Configuration) (t : LayerState) → SameParts m k → StandsForVs o k.state t → StandsForVs o m.state t
vs_same o m k t h x = record { lock = x.lock; limits = x.limits; key = x.key; part = x.part ∙ ap sorted_vs (sym h.vs); spans = x.spans ∙ ap (λ (b : BackPart). vs_spans b.area) (sym h.back) }

pub back_same : (o : Opening) (m k : Configuration) (t : LayerState) → SameParts m k → StandsForBack o k.state t → StandsForBack o m.state t
back_same o m k t h x = record { lock = x.lock; limits = x.limits; part = x.part ∙ ap sorted_back (sym h.back) }

pub large_same : (o : Opening) (m k : Configuration) (t : LayerState) → SameParts m k → StandsForLarge o k.state t → StandsForLarge o m.state t
large_same o m k t h x = record { lock = x.lock; limits = x.limits; part = x.part ∙ ap by_address (sym h.large) }

pub used_same : (m k : Configuration) → SameParts m k → leaves_whole k.state whats.Vs ≡ true → leaves_whole m.state whats.Vs ≡ true
used_same m k h e = subst (λ (z : VsPart × BackPart). are_used 4096 kinds.Vs z.0.places z.1.area.spans ≡ true) (sym (λ j. (h.vs j, h.back j))) e

module _ (a b : Token) (added : List Act) (g : GoesOn a b added) (h : Always b (λ s. SameParts (now s b) (now s a))) where
  pub vs_on : (t : LayerState) → Always a (λ s. StandsForVs a.opening (now s a).state t) → Always b (λ s. StandsForVs b.opening (now s b).state t)
  vs_on t x s q = subst (λ (o : Opening). StandsForVs o (now s b).state t) (sym g.opening) (vs_same a.opening (now s b) (now s a) t (h s q) (x s (setting_before a b added g s q)))

  pub back_on : (t : LayerState) → Always a (λ s. StandsForBack a.opening (now s a).state t) → Always b (λ s. StandsForBack b.opening (now s b).state t)
  back_on t x s q = subst (λ (o : Opening). StandsForBack o (now s b).state t) (sym g.opening) (back_same a.opening (now s b) (now s a) t (h s q) (x s (setting_before a b added g s q)))

  pub large_on : (t : LayerState) → Always a (λ s. StandsForLarge a.opening (now s a).state t) → Always b (λ s. StandsForLarge b.opening (now s b).state t)
  large_on t x s q = subst (λ (o : Opening). StandsForLarge o (now s b).state t) (sym g.opening) (large_same a.opening (now s b) (now s a) t (h s q) (x s (setting_before a b added g s q)))

  pub used_on : Always a (λ s. leaves_whole (now s a).state whats.Vs ≡ true) → Always b (λ s. leaves_whole (now s b).state whats.Vs ≡ true)
  used_on x s q = used_same (now s b) (now s a) (h s q) (x s (setting_before a b added g s q))

  pub all_on : (vs : VsKept) (back : Kept) (large : LargeTable) → TellAll a vs back large → TellAll b vs back large
  all_on vs back large x = record { used = used_on x.used; vs_is = vs_on _ x.vs_is; back_is = back_on _ x.back_is; large_is = large_on _ x.large_is }

-- it may take and give locks
pub under : (c : Token) → IsOwner c → (c.inside || not (c.depth == 0)) ≡ true
under c v = by c.inside
  where
    by : (b : Bool) → (b || not (c.depth == 0)) ≡ true
    by true = refl
    by false = ap not (ne_eqb c.depth 0 v.owns)

pub owner_in : (c : Token) (call : Call) (out : List ℕ) → IsOwning c call out → IsOwner c
owner_in c call out v = record { owns = v.owns; whole = v.whole; pending = v.pending; prepared = v.prepared }

---- All locks, taken

module _ (a b d : Token) (vs : VsKept) (back : Kept) (sta : IsStanding a) (va : IsOwner a) (x1 : HasTaken vss.layer_of a b whats.Vs vs) (stb : IsStanding b) (x2 : HasTaken backs.layer_of b d whats.Back back) where
  took_two : HasDone a d (acts.TakeLock whats.Vs ∷ acts.TakeLock whats.Back ∷ []) [] (back_slot ∷ vs_slot ∷ [])
  took_two =
      done_then a b d (acts.TakeLock whats.Vs ∷ []) (acts.TakeLock whats.Back ∷ []) [] (vs_slot ∷ []) (back_slot ∷ vs_slot ∷ [])
      (took vss.layer_of a b whats.Vs vs [] refl sta va x1) (took backs.layer_of b d whats.Back back (vs_slot ∷ []) refl stb (owner_took vss.layer_of a b whats.Vs vs va x1) x2)

  owner_two : IsOwner d
  owner_two = owner_took backs.layer_of b d whats.Back back (owner_took vss.layer_of a b whats.Vs vs va x1) x2

  module _ (e : Token) (large : LargeTable) (std : IsStanding d) (x3 : HasTaken larges.layer_of d e whats.Large large) where
    last_took : HasDone d e (acts.TakeLock whats.Large ∷ []) (back_slot ∷ vs_slot ∷ []) all_slots
    last_took = took larges.layer_of d e whats.Large large (back_slot ∷ vs_slot ∷ []) refl std owner_two x3

    pub took_all : HasDone a e taking [] all_slots
    took_all = done_then a d e (acts.TakeLock whats.Vs ∷ acts.TakeLock whats.Back ∷ []) (acts.TakeLock whats.Large ∷ []) [] (back_slot ∷ vs_slot ∷ []) all_slots took_two last_took

    pub told_all : TellAll e vs back large
    told_all =
        let y = took backs.layer_of b d whats.Back back (vs_slot ∷ []) refl stb (owner_took vss.layer_of a b whats.Vs vs va x1) x2 in
        let z = last_took in
        record {
          used = used_on d e _ z.goes z.heap (used_on b d _ y.goes y.heap (x1.used refl));
          vs_is = vs_on d e _ z.goes z.heap _ (vs_on b d _ y.goes y.heap _ x1.tells_it);
          back_is = back_on d e _ z.goes z.heap _ x2.tells_it;
          large_is = x3.tells_it;
        }

---- .. and given back

module _ (a b : Token) (vs : VsKept) (back : Kept) (large : LargeTable) (sta : IsStanding a) (va : IsOwner a) (out : a.out ≡ all_slots) (tells : TellAll a vs back large)
    (x1 : HasGiven a b whats.Large (entry a.number (acts.GiveLock whats.Large) ∷ [])) where
  pub owner_one : IsOwner b
  owner_one = owner_gave a b whats.Large (back_slot ∷ vs_slot ∷ []) va out x1

  pub gave_one : HasDone a b (acts.GiveLock whats.Large ∷ []) all_slots (back_slot ∷ vs_slot ∷ [])
  gave_one = gave a b whats.Large (back_slot ∷ vs_slot ∷ []) sta va out x1

  pub out_one : b.out ≡ back_slot ∷ vs_slot ∷ []
  out_one = (x1.stands (back_slot ∷ vs_slot ∷ []) out).out

  pub tells_one : TellAll b vs back large
  tells_one = all_on a b _ gave_one.goes gave_one.heap vs back large tells

  module _ (d : Token) (stb : IsStanding b) (x2 : HasGiven b d whats.Back (entry b.number (acts.GiveLock whats.Back) ∷ [])) where
    pub owner_next : IsOwner d
    owner_next = owner_gave b d whats.Back (vs_slot ∷ []) owner_one out_one x2

    pub gave_next : HasDone b d (acts.GiveLock whats.Back ∷ []) (back_slot ∷ vs_slot ∷ []) (vs_slot ∷ [])
    gave_next = gave b d whats.Back (vs_slot ∷ []) stb owner_one out_one x2

    pub out_next : d.out ≡ vs_slot ∷ []
    out_next = (x2.stands (vs_slot ∷ []) out_one).out

    pub tells_next : TellAll d vs back large
    tells_next = all_on b d _ gave_next.goes gave_next.heap vs back large tells_one

    module _ (e : Token) (std : IsStanding d) (x3 : HasGiven d e whats.Vs (entry d.number (acts.GiveLock whats.Vs) ∷ [])) where
      pub gave_all : HasDone a e giving all_slots []
      gave_all =
          done_then a d e (acts.GiveLock whats.Large ∷ acts.GiveLock whats.Back ∷ []) (acts.GiveLock whats.Vs ∷ []) all_slots (vs_slot ∷ []) []
          (done_then a b d (acts.GiveLock whats.Large ∷ []) (acts.GiveLock whats.Back ∷ []) all_slots (back_slot ∷ vs_slot ∷ []) (vs_slot ∷ []) gave_one gave_next) (gave d e whats.Vs [] std owner_next out_next x3)
