-- The holder of VS looks at a bucket, and makes it active where it is due.
use Rattle.std.proofs.Common.{◌≡◌, ℕ, ◌+◌, ◌-◌, ◌==◌, ◌≤◌, Bool, true, false, not, ◌&&◌, ◌||◌, [], ◌∷◌, Option, refl, sym, ap, ◌∙◌, subst, arith, eq-eqb, inl, inr}
use Rattle.std.specs.Prelude.{is_some, option_and_then}
use Rattle.std.specs.List.{list_all}
use Rattle.std.proofs.lemmas.Bool.{and_from}
use Rattle.heap_model.specs.declared.Act.TheVariants as acts
use Rattle.heap_model.specs.declared.Layer.{Layer}
use Rattle.heap_model.specs.declared.Layer.TheVariants as layers
use Rattle.heap_model.specs.declared.Opening.{Opening}
use Rattle.heap_model.specs.declared.What.TheVariants as whats
use Rattle.heap_model.specs.Buckets.{bucket_of}
use Rattle.heap_model.specs.Geometry.{page_bytes}
use Rattle.heap_model.specs.Layers.{StandsForVs, sorted_back}
use Rattle.heap_model.specs.Legal.{has_place, may}
use Rattle.heap_model.specs.Ranges.{vs_spans}
use Rattle.heap_model.specs.Search.{request_of, sought, draw_of}
use Rattle.heap_model.specs.State.{Setting, BackPart, VsPart, holds, is_entered, is_layer, in_hand, places_of, updated}
use Rattle.heap_model.specs.Stay.{is_some_of, is_due}
use Rattle.heap_model.specs.CallState.{CallState, not_begun}
use Rattle.heap_soundness.proofs.MadeSpans.{search_is}
use Rattle.claim_rule.specs.Entries.{IsSettingOf, entry, setting_of}
use Rattle.claim_rule.proofs.Advance.{some_setting}
use Rattle.span_steps.specs.Stores.{MayActivate}
use Rattle.heap_gate.specs.Token.{Token, Always, now, is_out, IsStanding}
use Rattle.heap_gate.specs.Calls.{Runs, Stands, stance}
use Rattle.vs_layer.specs.Kept.{VsKept, part_of, active_of}
use Rattle.vs_layer.specs.Standing.{layer_of, Becomes, with_active}
use Rattle.vs_layer.proofs.Told.{due_is}
use Rattle.call_parts.specs.Calls.{GoesOn}
use Rattle.call_parts.proofs.Joining.{goes_none, goes_does, setting_before}
use Rattle.lfh_claims.specs.Search.{own_slot}
use Rattle.lfh_search.specs.Standing.{IsSearching}
use Rattle.lfh_search.proofs.Steps.{searching_same}
use Rattle.move_front.specs.Front.{IsToPlace, TellsVs, IsActiveNow, IsIdleNow}
use Rattle.move_front.proofs.Kept.{beside_self}
use Rattle.move_front.proofs.Activation.{then_is, call_same, old_on, seeks_then}

minus_one : (b : ℕ) → 1 ≤ b → b - 1 + 1 ≡ b
minus_one b h = omega (arith, h)

-- what is said of its call is said of one with a call
pub has_call : (c : Token) → IsStanding c → c.inside ≡ true → Always c (λ s. is_some ((now s c).now.calls c.number).call ≡ true)
has_call c st i s q = ap is_some (st s q).call ∙ (st s q).begun (ap (λ (x : Bool). x || not (c.depth == 0)) i)

module _ (c : Token) (vs : VsKept) (b : ℕ) (h : IsToPlace c b) (t : TellsVs c vs) where
  active_is : (s : Setting) → IsSettingOf c.opening c.roll s → (now s c).state.vs.active b ≡ active_of vs b
  active_is s q = sym (ap (λ (v : VsPart). v.active b) (t.tells s q).part)

  pub is_active : active_of vs b ≡ true → IsActiveNow c c vs b
  is_active e = record {
    its = [];
    its_are = inl refl;
    goes = goes_none c;
    to_place = h;
    active = λ s q. active_is s q ∙ e;
    slot = refl;
    call = refl;
    fresh = refl;
    out = refl;
    free = refl;
    beside = λ s q. beside_self c.number (now s c);
    hands = λ s q. refl;
    tells_vs = t;
    back_is = λ back x. x;
  }

  pub is_idle : active_of vs b ≡ false → is_due (part_of vs) b ≡ false → IsIdleNow c c vs vs b
  is_idle e f = record {
    same = refl;
    vs_is = refl;
    idle = λ s q. (λ i. (active_is s q ∙ e) i || (sym (due_is c.opening (now s c).state vs (t.tells s q) b) ∙ f) i);
  }

  module _ (st : IsStanding c) (low : 1 ≤ b) where
    held : (s : Setting) → IsSettingOf c.opening c.roll s → holds (now s c).state.gate c.number whats.Vs ≡ true
    held s q = (st s q).locks whats.Vs ∙ h.vs_out

    held_back : (s : Setting) → IsSettingOf c.opening c.roll s → holds (now s c).state.gate c.number whats.Back ≡ true
    held_back s q = (st s q).locks whats.Back ∙ h.back_out

    pub may_become : active_of vs b ≡ false → is_due (part_of vs) b ≡ true → Always c (λ s. MayActivate s (now s c) c.number (b - 1))
    may_become e f s q =
        let m = now s c in
        let own : is_some_of (request_of s m c.number).bucket b ≡ true = ap (λ (o : Option ℕ). is_some_of o b) (h.seeks s q) ∙ eq-eqb b b refl in
        let entered : is_entered m.state.gate c.number ≡ true = (st s q).entered ∙ h.inside in
        let idle : not (m.state.vs.active b) ≡ true = ap not (active_is s q ∙ e) in
        let due : is_due m.state.vs b ≡ true = sym (due_is c.opening m.state vs (t.tells s q) b) ∙ f in
        let one = and_from (is_entered m.state.gate c.number) (holds m.state.gate c.number whats.Vs) entered (held s q) in
        let two = and_from (is_entered m.state.gate c.number && holds m.state.gate c.number whats.Vs) (is_some_of (request_of s m c.number).bucket b) one own in
        let three = and_from (is_entered m.state.gate c.number && holds m.state.gate c.number whats.Vs && is_some_of (request_of s m c.number).bucket b) (not (m.state.vs.active b)) two idle in
        let all = and_from (is_entered m.state.gate c.number && holds m.state.gate c.number whats.Vs && is_some_of (request_of s m c.number).bucket b && not (m.state.vs.active b)) (is_due m.state.vs b) three due in
        record {
          begun = has_call c st h.inside s q;
          holds_it = held s q;
          old = h.old s q;
          ok = subst (λ (z : ℕ). may s m c.number (acts.Active z) ≡ true) (sym (minus_one b low)) all;
        }

    -- it became active
    module _ (d : Token) (later : VsKept) (r : Runs c d (entry c.number (acts.Active b) ∷ [])) (s' : Stands d (stance c)) (becomes : Becomes vs later (λ v. with_active v b) (λ xs. xs))
        (slot_c : Always c (λ s. s.slot c.number ≡ own_slot c)) (slot_d : Always d (λ s. s.slot d.number ≡ own_slot d)) where
      goes_active : GoesOn c d (acts.Active b ∷ [])
      goes_active = goes_does c d (acts.Active b ∷ []) r.does s'.depth

      before : (s : Setting) → IsSettingOf d.opening d.roll s → IsSettingOf c.opening c.roll s
      before s q = setting_before c d (acts.Active b ∷ []) goes_active s q

      vs_now : (s : Setting) → IsSettingOf d.opening d.roll s → (now s d).state.vs ≡ with_active (now s c).state.vs b
      vs_now s q = (r.agrees s q).vs (held s (before s q))

      spans_now : (s : Setting) → IsSettingOf d.opening d.roll s → vs_spans (now s d).state.back.area ≡ vs_spans (now s c).state.back.area
      spans_now s q = (r.agrees s q).spans (held s (before s q))

      back_now : (s : Setting) → IsSettingOf d.opening d.roll s → (now s d).state.back ≡ (now s c).state.back
      back_now s q = (r.agrees s q).back (held_back s (before s q))

      at_once : (active : ℕ → Bool) → updated active b true b ≡ true
      at_once active = let e = eq-eqb b b refl in rw e refl

      -- its search, as if it stood with some slot and some draw
      searches : (s : Setting) → IsSettingOf d.opening d.roll s → IsSearching s (now s d) d.number b (s.slot c.number) (draw_of s c.number ((now s c).now.calls c.number).searches) not_begun
      searches s q =
          let p = before s q in
          let m = now s c in
          let x : IsSearching s (then_is s m c.number b) c.number b (s.slot c.number) (draw_of s c.number ((now s c).now.calls c.number).searches) not_begun = record {
            begun = ap (λ (k : CallState). is_some k.call) (call_same s m c.number b) ∙ has_call c st h.inside s p;
            inside = (st s p).entered ∙ h.inside;
            seeks = seeks_then s m c.number b (h.seeks s p);
            slot = refl;
            draw = ap (λ (k : CallState). draw_of s c.number k.searches) (call_same s m c.number b);
            old = old_on s m c.number b (h.old s p);
            search = ap (λ (k : CallState). k.search) (call_same s m c.number b) ∙ h.search s p;
          } in
          subst (λ (n : ℕ). IsSearching s (now s d) n b (s.slot c.number) (draw_of s c.number ((now s c).now.calls c.number).searches) not_begun) (sym r.does.number)
          (searching_same s c.number (now s d) (then_is s m c.number b) (r.agrees s q) b (s.slot c.number) (draw_of s c.number ((now s c).now.calls c.number).searches) not_begun x)

      same_hand : (s : Setting) → IsSettingOf d.opening d.roll s → (l : Layer) → is_layer l layers.Lfh ≡ false → in_hand c.number (places_of (now s d).state l) ≡ in_hand c.number (places_of (now s c).state l)
      same_hand s q layers.Lfh e = (r.agrees s q).hands layers.Lfh
      same_hand s q layers.Vs e = (r.agrees s q).hands layers.Vs
      same_hand s q layers.Back e = (r.agrees s q).hands layers.Back
      same_hand s q layers.Large e = (r.agrees s q).hands layers.Large

      slot_same : own_slot d ≡ own_slot c
      slot_same =
          let s = setting_of d.opening d.roll in
          let q = some_setting d.opening d.roll in
          sym (slot_d s q) ∙ (ap s.slot r.does.number ∙ slot_c s (before s q))

      pub becomes_active : IsActiveNow c d later b
      becomes_active = record {
        its = acts.Active b ∷ [];
        its_are = inr refl;
        goes = goes_active;
        to_place = record {
          inside = s'.inside ∙ h.inside;
          whole = s'.whole;
          searched = s'.searched ∙ h.searched;
          drawn = s'.drawn ∙ h.drawn;
          owes = s'.owes ∙ h.owes;
          vs_out = ap (is_out whats.Vs) s'.out ∙ h.vs_out;
          back_out = ap (is_out whats.Back) s'.out ∙ h.back_out;
          seeks = λ s q. (search_is (now s d).state.vs.active (option_and_then bucket_of (sought s (now s d).state d.number ((now s d).now.calls d.number))) b (searches s q).seeks).0;
          old = λ s q. (searches s q).old;
          search = λ s q. (searches s q).search;
          no_span = λ s q.
              ap (λ (n : ℕ). ((now s d).now.calls n).no_span) r.does.number
              ∙ (ap (λ (k : CallState). k.no_span) (r.agrees s q).call ∙ (ap (λ (k : CallState). k.no_span) (call_same s (now s c) c.number b) ∙ h.no_span s (before s q)));
        };
        active = λ s q. ap (λ (v : VsPart). v.active b) (vs_now s q) ∙ at_once (now s c).state.vs.active;
        slot = slot_same;
        call = s'.call;
        fresh = s'.fresh;
        out = s'.out;
        free = s'.free;
        beside = λ s q. record {
          locks = λ w. (r.agrees s q).locks w;
          vs = λ e. ap (λ (v : VsPart). v.places) ((r.agrees s q).vs e);
          spans = λ e. (r.agrees s q).spans e;
          back = λ e. ap (λ (x : BackPart). x.places) ((r.agrees s q).back e);
          large = λ e. (r.agrees s q).large e;
          hand = same_hand s q;
        };
        hands = r.hands;
        tells_vs = record {
          tells = λ s q. subst (λ (o : Opening). StandsForVs o (now s d).state (layer_of later)) (sym r.does.opening) (becomes c.opening (now s c).state (now s d).state (t.tells s (before s q)) (vs_now s q) (spans_now s q));
          used = λ s q. (λ i. list_all (has_place page_bytes (vs_now s q i).places) (spans_now s q i)) ∙ t.used s (before s q);
        };
        back_is = λ back x s q.
            let y = x s (before s q) in
            record { lock = y.lock; limits = y.limits ∙ ap (λ (o : Opening). o.limits) (sym r.does.opening); part = y.part ∙ ap sorted_back (sym (back_now s q)) };
      }
