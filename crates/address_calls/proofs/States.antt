-- What a caller that looks an address up has behind each step.
use Rattle.std.proofs.Common.{◌≡◌, ◌⊎◌, ℕ, ◌+◌, ◌*◌, ◌/◌, ◌%◌, ◌<◌, ◌≤◌, ◌==◌, true, false, List, [], ◌∷◌, ◌++◌, Option, Some, None, refl, sym, ap, ◌∙◌, subst, arith, inl, inr}
use Rattle.std.specs.Prelude.{suc, is_some, option_and_then}
use Rattle.std.specs.List.{AllByRecursion, list_any, list_all}
use Rattle.std.proofs.lemmas.Bool.{cases_Bool, eqb-true}
use Rattle.heap_model.specs.declared.Act.{Act}
use Rattle.heap_model.specs.declared.Act.TheVariants as acts
use Rattle.heap_model.specs.declared.Busy.{Busy}
use Rattle.heap_model.specs.declared.Call.{Call}
use Rattle.heap_model.specs.declared.Entry.{Entry}
use Rattle.heap_model.specs.declared.Opening.{Opening}
use Rattle.heap_model.specs.declared.What.{What}
use Rattle.heap_model.specs.declared.What.TheVariants as whats
use Rattle.heap_model.specs.Backend.{in_span}
use Rattle.heap_model.specs.Geometry.{page_bytes}
use Rattle.heap_model.specs.History.{configuration_after}
use Rattle.heap_model.specs.Layers.{LayerState, StandsForVs, StandsForBack, sorted_vs, sorted_back}
use Rattle.heap_model.specs.Legal.{leaves_whole, has_place}
use Rattle.heap_model.specs.Ranges.{vs_spans}
use Rattle.heap_model.specs.State.{Setting, State, Span, Place, live_size, has_address, holds}
use Rattle.heap_soundness.proofs.Lists.{all_append, all_at, found_in}
use Rattle.claim_rule.specs.Entries.{IsSettingOf, entry}
use Rattle.claim_rule.specs.Home.{slot_of}
use Rattle.claim_rule.specs.Places.{vs_slot, back_slot}
use Rattle.claim_rule.specs.declared.views.Owed.{Owed}
use Rattle.claim_rule.specs.Shown.{lfh_spans, tag_of, tag_word, owed_or}
use Rattle.claim_rule.proofs.Lists.{setting_less}
use Rattle.lock_steps.specs.Locks.{owed_with}
use Rattle.step_parts.specs.Seen.{bucket_of_tag, slot_of_tag, first_of_tag}
use Rattle.block_steps.specs.Blocks.{MayAsk}
use Rattle.look_steps.specs.Denials.{MayDeny}
use Rattle.lfh_buckets.specs.Blocks.{IsBucket}
use Rattle.heap_gate.specs.Token.{Token, Always, now, IsStanding, is_out}
use Rattle.heap_gate.specs.Calls.{Runs, HasTaken, HasMissed, HasGiven, Stands, stance}
use Rattle.vs_headers.specs.declared.Head.{Head}
use Rattle.vs_layer.specs.Kept.{VsKept, block_at, places_of, places_from, place_if}
use Rattle.vs_layer.specs.Standing as vss
use Rattle.backend_fit.specs.Kept.{Kept}
use Rattle.backend_fit.specs.Kept as backs
use Rattle.large_blocks.specs.Table.{LargeTable}
use Rattle.large_blocks.specs.Table as larges
use Rattle.call_parts.specs.Calls.{IsServing, Makes, GoesOn}
use Rattle.call_parts.specs.Entries.{HasAdded}
use Rattle.call_parts.proofs.Joining.{goes_does}
use Rattle.call_parts.proofs.Serving.{keeps_new, new_since}
use Rattle.call_parts.proofs.Tokens.{added_taken, added_runs, added_then, ended_given, ended_missed, ended_then, makes}
use Rattle.paged_calls.specs.Parts.{HasBoth, ForCall}
use Rattle.vs_calls.specs.Blocks.{HasVs, size_at}
use Rattle.lfh_claims.specs.declared.tag.Tag.{Tag}
use Rattle.lfh_claims.specs.Blocks.{HasTag, tag_told}
use Rattle.lfh_claims.specs.Stays.{all_stay, all_leave_spans}
use Rattle.lfh_claims.proofs.Stays.{ask_stays}
use Rattle.lfh_claims.proofs.Known.{asks_by_tag}
use Rattle.address_calls.specs.Answers.{MayGuard, MeetsOn}
use Rattle.address_calls.specs.declared.look.Found.{Found}
use Rattle.address_calls.specs.declared.look.Found.TheVariants as founds
use Rattle.address_calls.specs.Finds.{FrontBy, FindsFront, Looks, IsFront, IsOfVs, IsOfBack, IsOfLarge, IsNone}
use Rattle.address_calls.proofs.Behind.{looks_by}

---- Where the caller stands in its call

-- with these locks, behind acts that leave its call as new as it was
serving_on : (a b : Token) (call : Call) (before out : List ℕ) (rest : List Act) → IsServing a call before → GoesOn a b rest → list_all keeps_new rest ≡ true → Stands b (record (stance a) { out = out; owes = [] }) → IsServing b call out
serving_on a b call before out rest v g new s = record {
  call_is = s.call ∙ v.call_is;
  fresh = s.fresh ∙ v.fresh;
  inside = s.inside ∙ v.inside;
  out_is = s.out;
  whole = s.whole;
  free = s.free ∙ v.free;
  pending = s.pending;
  prepared = s.prepared;
  searched = s.searched ∙ v.searched;
  drawn = s.drawn ∙ v.drawn;
  owes = s.owes;
  is_new = new_since a b call rest g v.prepared s.prepared new v.is_new;
}

-- .. as before, or with another list of locks
stands_as : (b : Token) (a : Token) (out now_out : List ℕ) → Stands b (record (stance a) { out = out }) → out ≡ now_out → a.owes ≡ [] → Stands b (record (stance a) { out = now_out; owes = [] })
stands_as b a out now_out s e f = record {
  call = s.call;
  fresh = s.fresh;
  locked = s.locked;
  inside = s.inside;
  depth = s.depth;
  out = s.out ∙ e;
  owes = s.owes ∙ f;
  free = s.free;
  searches = s.searches;
  searched = s.searched;
  drawn = s.drawn;
  whole = s.whole;
  pending = s.pending;
  prepared = s.prepared;
}

pub serving_taken : {T : Type 0} (tells : T → LayerState) (a b : Token) (what : What) (state : T) (call : Call) (out : List ℕ) → owed_with what [] ≡ [] → IsServing a call out → HasTaken tells a b what state → IsServing b call (slot_of what ∷ out)
serving_taken tells a b what state call out e v x =
    let s = x.stands in
    record {
      call_is = s.call ∙ v.call_is;
      fresh = s.fresh ∙ v.fresh;
      inside = s.inside ∙ v.inside;
      out_is = s.out ∙ ap (λ (l : List ℕ). slot_of what ∷ l) v.out_is;
      whole = s.whole;
      free = s.free ∙ v.free;
      pending = s.pending;
      prepared = s.prepared;
      searched = s.searched ∙ v.searched;
      drawn = s.drawn ∙ v.drawn;
      owes = s.owes ∙ (ap (owed_with what) v.owes ∙ e);
      is_new = new_since a b call (acts.TakeLock what ∷ []) (goes_does a b (acts.TakeLock what ∷ []) x.reveals.does s.depth) v.prepared s.prepared refl v.is_new;
    }

pub serving_tagged : (a b : Token) (page : ℕ) (told : Option Tag) (call : Call) (out : List ℕ) → IsServing a call out → HasTag a b page told → IsServing b call out
serving_tagged a b page told call out v x =
    serving_on a b call out out [] v (goes_does a b [] x.runs.does x.stands.depth) refl (stands_as b a a.out out x.stands v.out_is v.owes)

pub serving_given : (a b : Token) (what : What) (call : Call) (out : List ℕ) → IsServing a call (slot_of what ∷ out) → HasGiven a b what (entry a.number (acts.GiveLock what) ∷ []) → IsServing b call out
serving_given a b what call out v x =
    let s = x.stands out v.out_is in
    serving_on a b call (slot_of what ∷ out) out (acts.GiveLock what ∷ []) v (goes_does a b (acts.GiveLock what ∷ []) x.runs.does s.depth) refl (stands_as b a out out s refl v.owes)

---- What it has looked at

pub looks_taken : {T : Type 0} (tells : T → LayerState) (a b : Token) (what : What) (state : T) → owed_with what [] ≡ [] → a.owes ≡ [] → HasTaken tells a b what state → Looks a b
looks_taken tells a b what state e o x = looks_by a b (acts.TakeLock what ∷ []) (added_taken tells a b what state (ap (owed_with what) o ∙ (e ∙ sym o)) x) refl refl refl

pub looks_tagged : (a b : Token) (page : ℕ) (told : Option Tag) → HasTag a b page told → Looks a b
looks_tagged a b page told x = looks_by a b [] (added_runs a b [] x.runs x.stands) refl refl refl

---- What the states of the layers tell then

pub vs_stands : (o : Opening) (m k : State) (vs : VsKept) → StandsForVs o m (vss.layer_of vs) → k.vs ≡ m.vs → vs_spans k.back.area ≡ vs_spans m.back.area → StandsForVs o k (vss.layer_of vs)
vs_stands o m k vs t e f = record { lock = t.lock; limits = t.limits; key = t.key; part = t.part ∙ ap sorted_vs (sym e); spans = t.spans ∙ sym f }

pub vs_used : (m k : State) → k.vs ≡ m.vs → vs_spans k.back.area ≡ vs_spans m.back.area → leaves_whole m whats.Vs ≡ true → leaves_whole k whats.Vs ≡ true
vs_used m k e f h = (λ j. list_all (has_place page_bytes ((e j).places)) (f j)) ∙ h

pub back_stands : (o : Opening) (m k : State) (back : Kept) → StandsForBack o m (backs.layer_of back) → k.back ≡ m.back → StandsForBack o k (backs.layer_of back)
back_stands o m k back t e = record { lock = t.lock; limits = t.limits; part = t.part ∙ ap sorted_back (sym e) }

-- VS is as it was behind acts that leave it
abbrev LeavesVs : Token → List Entry → Type 0
LeavesVs a es = (s : Setting) → ((configuration_after s (now s a) es).state.vs ≡ (now s a).state.vs) × ((configuration_after s (now s a) es).state.back.area ≡ (now s a).state.back.area) × (holds (configuration_after s (now s a) es).state.gate a.number whats.Vs ≡ holds (now s a).state.gate a.number whats.Vs)

module _ (a b : Token) (es : List Entry) (r : Runs a b es) where
  earlier : (s : Setting) → IsSettingOf b.opening b.roll s → IsSettingOf a.opening a.roll s
  earlier s q = setting_less a.opening a.roll b.roll s r.does.roll (subst (λ (o : Opening). IsSettingOf o b.roll s) r.does.opening q)

  pub vs_tells : (vs : VsKept) → LeavesVs a es → Always a (λ s. holds (now s a).state.gate a.number whats.Vs ≡ true) → Always a (λ s. leaves_whole (now s a).state whats.Vs ≡ true) → Always a (λ s. StandsForVs a.opening (now s a).state (vss.layer_of vs))
      → Always b (λ s. (leaves_whole (now s b).state whats.Vs ≡ true) × StandsForVs b.opening (now s b).state (vss.layer_of vs))
  vs_tells vs same held used tells s q =
      let qa = earlier s q in
      let x = r.agrees s q in let y = same s in let hold = y.2 ∙ held s qa in
      let e = x.vs hold ∙ y.0 in let f = x.spans hold ∙ ap vs_spans y.1 in
      let t = vs_stands a.opening (now s a).state (now s b).state vs (tells s qa) e f in
      (vs_used (now s a).state (now s b).state e f (used s qa), subst (λ (o : Opening). StandsForVs o (now s b).state (vss.layer_of vs)) (sym r.does.opening) t)

-- the back end, where nothing was added
pub back_tells : (a b : Token) (back : Kept) → Runs a b [] → Always a (λ s. holds (now s a).state.gate a.number whats.Back ≡ true) → Always a (λ s. StandsForBack a.opening (now s a).state (backs.layer_of back)) → Always b (λ s. StandsForBack b.opening (now s b).state (backs.layer_of back))
back_tells a b back r held tells s q =
    let qa = earlier a b [] r s q in
    let e = (r.agrees s q).back (held s qa) in
    subst (λ (o : Opening). StandsForBack o (now s b).state (backs.layer_of back)) (sym r.does.opening) (back_stands a.opening (now s a).state (now s b).state back (tells s qa) e)

---- Both locks

module _ (a : Token) (vs : VsKept) (h : HasVs a vs) (st : IsStanding a) where
  vs_held : Always a (λ s. holds (now s a).state.gate a.number whats.Vs ≡ true)
  vs_held s q = (st s q).locks whats.Vs ∙ ap (is_out whats.Vs) h.holds.serving.out_is

  pub both_taken : (b : Token) (back : Kept) → HasTaken backs.layer_of a b whats.Back back → HasBoth b vs back
  both_taken b back x = record {
    call = h.call;
    holds = record {
      serving = serving_taken backs.layer_of a b whats.Back back h.call (vs_slot ∷ []) refl h.holds.serving x;
      tells_vs = λ s q.
          let qa = before s q in let g = x.guarded s q in let v = vs_held s qa in
          subst (λ (o : Opening). StandsForVs o (now s b).state (vss.layer_of vs)) (sym x.reveals.does.opening) (vs_stands a.opening (now s a).state (now s b).state vs (h.holds.tells s qa) (g.vs v) (g.spans v));
      tells_back = x.tells_it;
    };
    used = λ s q. let qa = before s q in let g = x.guarded s q in let v = vs_held s qa in vs_used (now s a).state (now s b).state (g.vs v) (g.spans v) (h.used s qa);
  }
    where
      before : (s : Setting) → IsSettingOf b.opening b.roll s → IsSettingOf a.opening a.roll s
      before s q = setting_less a.opening a.roll b.roll s x.reveals.does.roll (subst (λ (o : Opening). IsSettingOf o b.roll s) x.reveals.does.opening q)

  -- another has the lock of the back end
  module _ (b : Token) (found : What) (word : ℕ) (x : HasMissed a b whats.Back found word) where
    pub missed_tells : Always b (λ s. (leaves_whole (now s b).state whats.Vs ≡ true) × StandsForVs b.opening (now s b).state (vss.layer_of vs))
    missed_tells = vs_tells a b (entry a.number (acts.Blocked whats.Back word) ∷ []) x.runs vs (λ s. (refl, refl, refl)) vs_held h.used h.holds.tells

    pub missed_both : (d : Token) → HasGiven b d whats.Vs (entry b.number (acts.GiveLock whats.Vs) ∷ []) → ForCall a (λ call. Makes a d call (acts.Blocked whats.Back word ∷ []))
    missed_both d g call e =
        let s = x.stands in let v = h.holds.serving in
        makes a d call h.call (vs_slot ∷ []) (acts.Blocked whats.Back word ∷ acts.GiveLock whats.Vs ∷ []) (acts.Blocked whats.Back word ∷ []) v e
        (ended_then a b d (acts.Blocked whats.Back word ∷ []) (acts.GiveLock whats.Vs ∷ []) [] (added_runs a b (acts.Blocked whats.Back word ∷ []) x.runs s)
        (ended_given b d whats.Vs [] (acts.GiveLock whats.Vs ∷ []) g (s.out ∙ v.out_is) (s.free ∙ v.free)))
        refl refl

---- A lock that another has

pub met_on : (a b : Token) (addr : ℕ) (busy : Busy) (what : What) (own_call : Call) → IsServing a own_call [] → MayGuard a.opening.limits addr what → HasMissed a b what busy.what busy.word → MeetsOn a b addr busy
met_on a b addr busy what own_call v g x = record {
  guards = subst (MayGuard a.opening.limits addr) (sym x.what_is) g;
  met = λ call e. record {
    made = subst (λ (w : What). Makes a b call (acts.Blocked w busy.word ∷ [])) (sym x.what_is)
        (makes a b call own_call [] (acts.Blocked what busy.word ∷ []) (acts.Blocked what busy.word ∷ []) v e (ended_missed a b what busy.what busy.word x v.out_is v.free) refl refl);
    what_is = refl;
    another = x.another;
  };
}

pub met_behind : (a b d : Token) (addr : ℕ) (busy : Busy) → MayGuard a.opening.limits addr whats.Back → HasMissed a b whats.Back busy.what busy.word → ForCall a (λ call. Makes a d call (acts.Blocked whats.Back busy.word ∷ [])) → MeetsOn a d addr busy
met_behind a b d addr busy g x f = record {
  guards = subst (MayGuard a.opening.limits addr) (sym x.what_is) g;
  met = λ call e. record {
    made = subst (λ (w : What). Makes a d call (acts.Blocked w busy.word ∷ [])) (sym x.what_is) (f call e);
    what_is = refl;
    another = x.another;
  };
}

---- The tag under both locks

-- a word of 0 is no tag
no_tag : (xs : List Span) (page : ℕ) → tag_word xs page ≡ 0 → list_any (in_span page) xs ≡ false
no_tag [] page e = refl
no_tag (x ∷ xs) page e = elim (cases_Bool (in_span page x)) [
  | inl h ↦ let t : tag_of x ≡ 0 = rw h at e in absurd (omega (arith, t))
  | inr h ↦ rw h (no_tag xs page (rw h at e))
]

told_none : (word : ℕ) → None ≡ tag_told word → word ≡ 0
told_none word e = elim (cases_Bool (word == 0)) [
  | inl h ↦ eqb-true word 0 h
  | inr h ↦ let bad : None ≡ Some (record { bucket = bucket_of_tag word; slot = slot_of_tag word; head = first_of_tag word }) = rw h at e in absurd (let no : ⊥ = cc (bad) in no)
]

none_owed : (os : List Owed) (r x page : ℕ) → os ≡ [] → r ≡ owed_or os (2182 + page) x → r ≡ x
none_owed os r x page e m = m ∙ ap (λ (l : List Owed). owed_or l (2182 + page) x) e

module _ (a : Token) (vs : VsKept) (back : Kept) (h : HasBoth a vs back) (st : IsStanding a) where
  vs_out : Always a (λ s. holds (now s a).state.gate a.number whats.Vs ≡ true)
  vs_out s q = (st s q).locks whats.Vs ∙ ap (is_out whats.Vs) h.holds.serving.out_is

  back_out : Always a (λ s. holds (now s a).state.gate a.number whats.Back ≡ true)
  back_out s q = (st s q).locks whats.Back ∙ ap (is_out whats.Back) h.holds.serving.out_is

  pub both_tagged : (b : Token) (page : ℕ) (told : Option Tag) → HasTag a b page told → HasBoth b vs back
  both_tagged b page told x =
      let t = vs_tells a b [] x.runs vs (λ s. (refl, refl, refl)) vs_out h.used h.holds.tells_vs in
      record {
        call = h.call;
        holds = record {
          serving = serving_tagged a b page told h.call (back_slot ∷ vs_slot ∷ []) h.holds.serving x;
          tells_vs = λ s q. (t s q).1;
          tells_back = back_tells a b back x.runs back_out h.holds.tells_back;
        };
        used = λ s q. (t s q).0;
      }

  -- under the lock of the back end a page without a tag has no subsegment
  pub none_tagged : (b : Token) (page : ℕ) → HasTag a b page None → IsStanding b → Always b (λ s. list_any (in_span page) (lfh_spans (now s b).state.back.area) ≡ false)
  none_tagged b page x sb s q =
      let w = x.tells s q in
      let v = (both_tagged b page None x).holds.serving in
      let held : holds (now s b).state.gate b.number whats.Back ≡ true = (sb s q).locks whats.Back ∙ ap (is_out whats.Back) v.out_is in
      let mine = w.mine (subst (λ (n : ℕ). holds (now s b).state.gate n whats.Back ≡ true) x.runs.does.number held) in
      no_tag (lfh_spans (now s b).state.back.area) page (sym (none_owed a.owes x.word (tag_word (lfh_spans (now s b).state.back.area) page) page h.holds.serving.owes mine) ∙ told_none x.word x.told_is)

  ---- Both locks given back, and a block that may be asked for

  module _ (b : Token) (g : HasGiven a b whats.Back (entry a.number (acts.GiveLock whats.Back) ∷ [])) where
    pub given_tells : Always b (λ s. (leaves_whole (now s b).state whats.Vs ≡ true) × StandsForVs b.opening (now s b).state (vss.layer_of vs))
    given_tells = vs_tells a b (entry a.number (acts.GiveLock whats.Back) ∷ []) g.runs vs (λ s. (refl, refl, refl)) vs_out h.used h.holds.tells_vs

    pub given_serving : IsServing b h.call (vs_slot ∷ [])
    given_serving = serving_given a b whats.Back h.call (vs_slot ∷ []) h.holds.serving g

    module _ (d : Token) (k : HasGiven b d whats.Vs (entry b.number (acts.GiveLock whats.Vs) ∷ [])) where
      out_serving : IsServing d h.call []
      out_serving = serving_given b d whats.Vs h.call [] given_serving k

      pub both_added : HasAdded a d (acts.GiveLock whats.Back ∷ acts.GiveLock whats.Vs ∷ [])
      both_added =
          let one = ended_given a b whats.Back (vs_slot ∷ []) (acts.GiveLock whats.Back ∷ []) g h.holds.serving.out_is h.holds.serving.free in
          added_then a b d (acts.GiveLock whats.Back ∷ []) (acts.GiveLock whats.Vs ∷ []) one.added (ended_given b d whats.Vs [] (acts.GiveLock whats.Vs ∷ []) k one.out_is one.free).added

      pub gone_out : Looks a d
      gone_out = looks_by a d (acts.GiveLock whats.Back ∷ acts.GiveLock whats.Vs ∷ []) both_added refl refl refl

      pub front_out : IsStanding b → IsStanding d → (addr : ℕ) (tag : Tag) → addr / 4096 < 256 * a.opening.limits.segments → IsBucket tag.bucket → Always a (λ s. MayAsk (now s a) a.number tag.head tag.bucket tag.slot addr) → IsFront d addr tag
      front_out sb sd addr tag below bucket may =
          let sa = h.holds.serving in let sv = given_serving in
          let mb = ask_stays a b (entry a.number (acts.GiveLock whats.Back) ∷ []) g.runs.does (ap (λ (l : List Entry). all_stay (l ++ entry a.number (acts.GiveLock whats.Back) ∷ [])) sa.prepared) (ap all_leave_spans sa.prepared) (λ s q. (may s q).inside) addr tag.head tag.bucket tag.slot may sb sv.inside in
          let md = ask_stays b d (entry b.number (acts.GiveLock whats.Vs) ∷ []) k.runs.does (ap (λ (l : List Entry). all_stay (l ++ entry b.number (acts.GiveLock whats.Vs) ∷ [])) sv.prepared) (ap all_leave_spans sv.prepared) (λ s q. (mb s q).inside) addr tag.head tag.bucket tag.slot mb sd out_serving.inside in
          let o : d.opening ≡ a.opening = k.runs.does.opening ∙ g.runs.does.opening in
          record { free = (h.call, out_serving); there = subst (λ (x : Opening). addr < 1048576 * x.limits.segments) (sym o) (omega (arith, below)); bucket = bucket; may = md }

---- An address where no block begins

pub may_deny_none : (c : Token) (addr : ℕ) (call : Call) → IsServing c call [] → IsStanding c → IsNone c.opening.limits addr → Always c (λ s. MayDeny c.opening.limits (now s c) c.number addr)
may_deny_none c addr call v st (inl off) s q =
    let a = st s q in
    record { begun = ap is_some (a.call ∙ v.call_is); inside = a.entered ∙ v.inside; lfh = inl (inl off); vs = inl (inl off); back = inl (inl off); large = inl (inl off) }
may_deny_none c addr call v st (inr far) s q =
    let a = st s q in
    let behind : 256 * c.opening.limits.segments ≤ addr / 4096 = omega (arith, far) in
    record { begun = ap is_some (a.call ∙ v.call_is); inside = a.entered ∙ v.inside; lfh = inl (inr (inl behind)); vs = inl (inr (inl behind)); back = inl (inr (inl behind)); large = inl (inr (inr far)) }

---- Found under a lock

abbrev has_size : Place → Type 0
has_size p = is_some (live_size p.status) ≡ true

live_places : (g : ℕ) (os : List (Option Head)) → AllByRecursion has_size (places_from g os)
live_places g [] = tt
live_places g (None ∷ os) = live_places (suc g) os
live_places g (Some h ∷ os) = all_append has_size (place_if g (Some h)) (places_from (suc g) os) (one (cases_Bool h.busy)) (live_places (suc g) os)
  where
    one : (h.busy ≡ true) ⊎ (h.busy ≡ false) → AllByRecursion has_size (place_if g (Some h))
    one (inl e) = rw e (refl, tt)
    one (inr e) = rw e tt

-- where no size is found there is no block
pub block_none : (vs : VsKept) (addr : ℕ) → size_at vs addr ≡ None → block_at vs addr ≡ None
block_none vs addr e = by (block_at vs addr) refl e
  where
    by : (o : Option Place) → block_at vs addr ≡ o → option_and_then (λ p. live_size p.status) o ≡ None → o ≡ None
    by None f g = refl
    by (Some p) f g =
        let i = found_in (has_address addr) (places_of vs) p f in
        let h = all_at has_size p (places_of vs) (live_places 0 vs.chunks.heads) i in
        let bad : true ≡ false = sym h ∙ ap is_some g in
        absurd (let no : ⊥ = cc in no)

pub vs_taken : (a b : Token) (vs : VsKept) (call : Call) → IsServing a call [] → HasTaken vss.layer_of a b whats.Vs vs → HasVs b vs
vs_taken a b vs call v x = record { call = call; holds = record { serving = serving_taken vss.layer_of a b whats.Vs vs call [] refl v x; tells = x.tells_it }; used = x.used refl }

pub of_vs_there : (a b : Token) (vs : VsKept) (addr size : ℕ) (call : Call) → IsServing a call [] → HasTaken vss.layer_of a b whats.Vs vs → addr / 4096 < 256 * a.opening.limits.segments → size_at vs addr ≡ Some size → IsOfVs b addr vs
of_vs_there a b vs addr size call v x below e = record {
  has = vs_taken a b vs call v x;
  below = subst (λ (o : Opening). addr / 4096 < 256 * o.limits.segments) (sym x.reveals.does.opening) below;
  live = ap is_some e;
}

pub of_large_there : (a b : Token) (large : LargeTable) (addr : ℕ) (call : Call) → IsServing a call [] → HasTaken larges.layer_of a b whats.Large large → 256 * a.opening.limits.segments ≤ addr / 4096 → IsOfLarge b addr large
of_large_there a b large addr call v x behind = record {
  has = (call, record { serving = serving_taken larges.layer_of a b whats.Large large call [] refl v x; tells = x.tells_it });
  behind = subst (λ (o : Opening). 256 * o.limits.segments ≤ addr / 4096) (sym x.reveals.does.opening) behind;
}

pub of_front_there : (a b : Token) (addr page : ℕ) (tag : Tag) (call : Call) → IsServing a call [] → HasTag a b page (Some tag) → IsBucket tag.bucket → page ≡ addr / 4096 → addr % 16 ≡ 0 → addr / 4096 < 256 * a.opening.limits.segments → IsStanding b → IsFront b addr tag
of_front_there a b addr page tag call v x bucket at aligned below st =
    let w = serving_tagged a b page (Some tag) call [] v x in
    record {
      free = (call, w);
      there = subst (λ (o : Opening). addr < 1048576 * o.limits.segments) (sym x.runs.does.opening) (omega (arith, below));
      bucket = bucket;
      may = asks_by_tag a b addr tag (subst (λ (n : ℕ). HasTag a b n (Some tag)) at x) st w.inside aligned;
    }

-- the same under both locks
pub may_there : (a b : Token) (addr page : ℕ) (tag : Tag) → HasTag a b page (Some tag) → page ≡ addr / 4096 → addr % 16 ≡ 0 → IsStanding b → a.inside ≡ true → Always b (λ s. MayAsk (now s b) b.number tag.head tag.bucket tag.slot addr)
may_there a b addr page tag x at aligned st i = asks_by_tag a b addr tag (subst (λ (n : ℕ). HasTag a b n (Some tag)) at x) st (x.stands.inside ∙ i) aligned

pub of_back_there : (a b : Token) (vs : VsKept) (back : Kept) (addr page : ℕ) → HasBoth a vs back → IsStanding a → HasTag a b page None → IsStanding b → page ≡ addr / 4096 → block_at vs addr ≡ None → addr / 4096 < 256 * a.opening.limits.segments → IsOfBack b addr vs back
of_back_there a b vs back addr page h sa x sb at none below = record {
  has = both_tagged a vs back h sa b page None x;
  below = subst (λ (o : Opening). addr / 4096 < 256 * o.limits.segments) (sym x.runs.does.opening) below;
  not_vs = none;
  not_front = subst (λ (p : ℕ). Always b (λ s. list_any (in_span p) (lfh_spans (now s b).state.back.area) ≡ false)) at (none_tagged a vs back h sa b page x sb);
}

---- What was done to find the front end

pub front_more : (a b d : Token) (first rest : List Act) → HasAdded a b first → (found : Found) → FrontBy rest b d found → FrontBy (first ++ rest) a d found
front_more a b d first rest x (founds.Front tag) y = added_then a b d first rest x y
front_more a b d first rest x (founds.Vs vs) y = y
front_more a b d first rest x (founds.Back vs back) y = y
front_more a b d first rest x (founds.Large large) y = y
front_more a b d first rest x founds.Nowhere y = y

pub front_later : (a d : Token) (found : Found) → FrontBy (acts.TakeLock whats.Vs ∷ acts.TakeLock whats.Back ∷ acts.GiveLock whats.Back ∷ acts.GiveLock whats.Vs ∷ []) a d found → FindsFront a d found
front_later a d (founds.Front tag) y = inr y
front_later a d (founds.Vs vs) y = y
front_later a d (founds.Back vs back) y = y
front_later a d (founds.Large large) y = y
front_later a d founds.Nowhere y = y

pub added_tagged : (a b : Token) (page : ℕ) (told : Option Tag) → HasTag a b page told → HasAdded a b []
added_tagged a b page told x = added_runs a b [] x.runs x.stands

pub added_lock : {T : Type 0} (tells : T → LayerState) (a b : Token) (what : What) (state : T) → owed_with what [] ≡ [] → a.owes ≡ [] → HasTaken tells a b what state → HasAdded a b (acts.TakeLock what ∷ [])
added_lock tells a b what state e o x = added_taken tells a b what state (ap (owed_with what) o ∙ (e ∙ sym o)) x
