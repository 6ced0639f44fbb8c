-- One page that the owner of the heap lock decommits, and all of them.
use Rattle.std.proofs.Common.{◌≡◌, ◌≢◌, ℕ, ◌+◌, true, false, not, ◌&&◌, ◌||◌, List, [], ◌∷◌, refl, sym, ap, ◌∙◌, subst}
use Rattle.std.specs.Prelude.{is_some}
use Rattle.std.specs.List.{list_any}
use Rattle.std.proofs.lemmas.Bool.{and_parts, and_from, ne_eqb}
use Rattle.heap_model.specs.declared.Act.{Act}
use Rattle.heap_model.specs.declared.Act.TheVariants as acts
use Rattle.heap_model.specs.declared.Call.TheVariants as calls
use Rattle.heap_model.specs.declared.Entry.{Entry}
use Rattle.heap_model.specs.declared.Kind.{Kind}
use Rattle.heap_model.specs.declared.Kind.TheVariants as kinds
use Rattle.heap_model.specs.declared.Opening.{Opening}
use Rattle.heap_model.specs.declared.What.TheVariants as whats
use Rattle.heap_model.specs.State.{Setting, Area, BackPart, is_caller, by_address, updated}
use Rattle.heap_model.specs.Backend.{in_span, is_usable}
use Rattle.heap_model.specs.CallState.{caller_view}
use Rattle.heap_model.specs.Layers.{StandsForBack}
use Rattle.heap_model.specs.Legal.{may, may_follow, meets_demand, is_begin, after}
use Rattle.heap_model.specs.Agreement.{AgreesFor, SameHeap}
use Rattle.page_ranges.specs.Spans.{is_of_free}
use Rattle.backend_fit.specs.Kept.{Kept, area_of, places_in, layer_of}
use Rattle.claim_rule.specs.Entries.{IsSettingOf, entry, setting_of}
use Rattle.claim_rule.specs.Places.{back_slot}
use Rattle.claim_rule.proofs.Advance.{some_setting}
use Rattle.lfh_spans.specs.Subsegments.{IsBackOf}
use Rattle.lfh_spans.proofs.Joined.{setting_of_old}
use Rattle.heap_gate.specs.Token.{Token, Always, IsStanding, now, is_out}
use Rattle.heap_gate.specs.Calls.{Runs, with_prepared}
use Rattle.call_parts.specs.Calls.{GoesOn}
use Rattle.call_parts.proofs.Joining.{setting_before}
use Rattle.call_parts.proofs.Tokens.{now_more}
use Rattle.compact_calls.specs.Owner.{IsOwning}
use Rattle.compact_calls.specs.Sound.{IsSoundFor}
use Rattle.compact_calls.specs.Pages.{is_loose, swept, layer_swept, IsSwept, LeavesFront}
use Rattle.compact_calls.proofs.Sweeping.{swept_none, swept_over, swept_one, still_loose}

pub not_free : (k : Kind) → (k ≡ kinds.Free → ⊥) → is_of_free k ≡ false
not_free kinds.Free ne = absurd (ne refl)
not_free kinds.Header ne = refl
not_free kinds.Vs ne = refl
not_free kinds.Lfh ne = refl
not_free kinds.Back ne = refl

---- The owner

-- it owns the heap lock in all that it has
pub owns_now : (c : Token) → IsStanding c → c.depth ≢ 0 → Always c (λ s. is_caller c.number (now s c).state.gate.owner ≡ true)
owns_now c st d s q = (st s q).owns ∙ ap not (ne_eqb c.depth 0 d)

-- behind a step without an entry its heap is as before
pub still : (c b : Token) → IsStanding c → c.depth ≢ 0 → Runs c b [] → Always b (λ s. SameHeap (now s b) (now s c))
still c b st d x s q = (x.agrees s q).owned (owns_now c st d s (setting_of_old c b [] x.does s q))

pub front_still : (c b : Token) → IsStanding c → c.depth ≢ 0 → Runs c b [] → LeavesFront c b
front_still c b st d x s q = (still c b st d x s q).lfh

pub front_then : (a b c : Token) (added : List Act) → GoesOn b c added → LeavesFront a b → LeavesFront b c → LeavesFront a c
front_then a b c added g x y s q = y s q ∙ x s (setting_before b c added g s q)

---- One page

module _ (c : Token) (page : ℕ) (st : IsStanding c) (v : IsOwning c calls.Compact (back_slot ∷ [])) (loose : Always c (λ s. is_loose (now s c).state.back.area page ≡ true)) where
  pub decommit_may : Always c (λ s. may_follow s (now s c) (entry c.number (acts.Decommit page)) ≡ true)
  decommit_may s q =
      let m = now s c in
      let e : Entry = entry c.number (acts.Decommit page) in
      let k = caller_view m c.number in
      let a = st s q in
      let demand : meets_demand m.state.back.area e m.now.demand ≡ true = ap (meets_demand m.state.back.area e) (a.demand v.whole) in
      let begun : (is_begin e.act || is_some (m.now.calls c.number).call) ≡ true = ap is_some (a.call ∙ v.call_is) in
      let held : k.back ≡ true = a.locks whats.Back ∙ ap (is_out whats.Back) v.out_is in
      let l = and_parts (m.state.back.area.committed page) (not (list_any (in_span page) m.state.back.area.spans)) (loose s q) in
      let row : may s m c.number (acts.Decommit page) ≡ true = and_from (k.owns && k.back && m.state.back.area.committed page) (not (list_any (in_span page) m.state.back.area.spans))
      (and_from (k.owns && k.back) (m.state.back.area.committed page) (and_from k.owns k.back (owns_now c st v.owns s q) held) l.0) l.1 in
      and_from (meets_demand m.state.back.area e m.now.demand && (is_begin e.act || is_some (m.now.calls c.number).call)) (may s m c.number (acts.Decommit page))
      (and_from (meets_demand m.state.back.area e m.now.demand) (is_begin e.act || is_some (m.now.calls c.number).call) demand begun) row

  pub decommit_heap : (b : Token) → Runs (with_prepared c (acts.Decommit page)) b [] → Always b (λ s. SameHeap (now s b) (after s (now s c) (entry c.number (acts.Decommit page))))
  decommit_heap b x s q =
      let t = with_prepared c (acts.Decommit page) in
      let r = subst (AgreesFor c.number (now s b)) (now_more s c (acts.Decommit page)) (x.agrees s q) in
      r.owned (owns_now c st v.owns s (setting_of_old t b [] x.does s q))

---- What is swept

pub swept_stays : (c : Token) (k : Kept) (page : ℕ) → is_loose (area_of k) page ≡ false → IsSwept c k page → IsSwept c k (page + 1)
swept_stays c k page e h = record {
  tells = λ s q. subst (λ (a : Area). StandsForBack c.opening (now s c).state (record (layer_of k) { back = record { area = a; places = places_in k } })) (sym (swept_over (area_of k) page e)) (h.tells s q);
  usable = h.usable;
}

module _ (c : Token) (k : Kept) (page : ℕ) (h : IsSwept c k page) where
  area_is : (s : Setting) → IsSettingOf c.opening c.roll s → swept page (area_of k) ≡ (now s c).state.back.area
  area_is s q = ap (λ (p : BackPart). p.area) (h.tells s q).part

  pub loose_here : is_loose (area_of k) page ≡ true → Always c (λ s. is_loose (now s c).state.back.area page ≡ true)
  loose_here e s q = ap (λ (a : Area). is_loose a page) (sym (area_is s q)) ∙ still_loose (area_of k) page e

  pub swept_more : (b : Token) (added : List Act) → is_loose (area_of k) page ≡ true → GoesOn c b added → Always b (λ s. SameHeap (now s b) (after s (now s c) (entry c.number (acts.Decommit page)))) → IsSwept b k (page + 1)
  swept_more b added e g heap = record {
    tells = λ s q.
        let qc = setting_before c b added g s q in
        let t = h.tells s qc in
        let back = (heap s q).back in
        let without : Area → Area = λ x. record { reserved = x.reserved; committed = updated x.committed page false; spans = x.spans } in
        let area : swept (page + 1) (area_of k) ≡ (now s b).state.back.area = sym (swept_one (area_of k) page e) ∙ (ap without (area_is s qc) ∙ ap (λ (p : BackPart). p.area) (sym back)) in
        let places = ap (λ (p : BackPart). p.places) t.part ∙ ap (λ (p : BackPart). by_address p.places) (sym back) in
        record {
          lock = refl;
          limits = t.limits ∙ ap (λ (o : Opening). o.limits) (sym g.opening);
          part = (λ i. record { area = area i; places = places i });
        };
    usable = h.usable;
  }

-- nothing is swept yet
pub swept_first : (c : Token) (k : Kept) → IsBackOf c k → Always c (λ s. IsSoundFor c.opening.limits (now s c)) → IsSwept c k 0
swept_first c k back sound = record {
  tells = λ s q. subst (λ (a : Area). StandsForBack c.opening (now s c).state (record (layer_of k) { back = record { area = a; places = places_in k } })) (sym (swept_none (area_of k))) (back s q);
  usable =
      let s = setting_of c.opening c.roll in
      let q = some_setting c.opening c.roll in
      let e : (now s c).state.back.area ≡ area_of k = ap (λ (p : BackPart). p.area) (sym (back s q).part) in
      subst (λ (a : Area). (p : ℕ) → a.committed p ≡ true → is_usable a p ≡ true) e (sound s q).keeps.heap.usable;
}

-- all is swept
pub swept_back : (c : Token) (k m : Kept) (page : ℕ) → IsSwept c k page → layer_of m ≡ layer_swept page k → IsBackOf c m
swept_back c k m page h e s q = subst (StandsForBack c.opening (now s c).state) (sym e) (h.tells s q)
