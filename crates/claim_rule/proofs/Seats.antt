-- The laws of the steps that count callers, cut seats in two and join them; the rule at the start and at the end.
use Rattle.std.proofs.Common.{◌≡◌, ◌≢◌, ◌⊎◌, inl, inr, ⊎_elim, ℕ, zero, suc, ◌+◌, ◌*◌, ◌%◌, ◌^◌, ◌<◌, ◌≤◌, Bool, true, false, not, ◌||◌, ◌==◌, cond, List, [], ◌∷◌, ◌++◌, length, get_or, set, refl, sym, ap, ◌∙◌, subst, arith, Option, Some, None, eq-eqb, ne_eqb, length-append}
use Rattle.std.specs.Prelude.{nat_lt}
use Rattle.std.proofs.lemmas.Bool.{and_parts, and_from, eqb-true, cases_Bool, or_cases, false≢true, lt-ltb}
use Rattle.std.proofs.lemmas.List.{append-nil}
use lib.ListN.{get_elem?, length-replicate, get_or-replicate}
use mathlib.Core.Option.{none, some, some-injective, some-ne-none}
use mathlib.Core.List.{IsPrefix}
use Rattle.atomic_table.specs.Table.{State, Me, step, keeps, Allows, Splits, Joins, opening as starting}
use Rattle.atomic_table.proofs.Lists.{set_again, set_else}
use Rattle.heap_model.specs.declared.Entry.{Entry}
use Rattle.heap_model.specs.declared.Limits.{Limits}
use Rattle.heap_model.specs.Limits.{AreValid}
use Rattle.heap_model.specs.State.{is_among, opening, holder_of, caller_word}
use Rattle.heap_model.specs.History.{configuration_of, first_configuration, is_legal, own}
use Rattle.claim_rule.specs.declared.views.Assignment.{Assignment}
use Rattle.heap_model.specs.declared.Opening.{Opening}
use Rattle.claim_rule.specs.declared.views.Lead.{Lead}
use Rattle.claim_rule.specs.declared.views.Role.{Role}
use Rattle.claim_rule.specs.declared.views.Role.TheVariants.{Caller, Root}
use Rattle.claim_rule.specs.declared.views.View.{View}
use Rattle.heap_model.specs.declared.What.{What}
use Rattle.heap_model.specs.declared.What.TheVariants as whats
use Rattle.claim_rule.specs.Places.{word_count, lock_at}
use Rattle.claim_rule.specs.Home.{HasSlot, IsFull}
use Rattle.claim_rule.specs.Shown.{AreAllShown, back_holder}
use Rattle.heap_model.specs.Layers.{LayerState, StandsForVs, StandsForBack, StandsForLarge}
use Rattle.claim_rule.specs.Entries.{IsLegalWith, is_named, have_slots}
use Rattle.claim_rule.specs.Rule.{IsSeen, are_distinct, KnowsAs, Knows, IsRuled, longer, zero_words, first_lead, first_view, spent_view, relay, next_lead, dealing, dealing_role, dealt, dealt_role, roll_of, told, taken_in, joined_role, view_of}
use Rattle.claim_rule.specs.Plays.{heard_all, agreed, numbered, number_of}
use Rattle.claim_rule.proofs.Lists.{prefix_self, prefix_nil, prefix_more, longer_begins, longer_one, own_between, none_between, own_unnamed, named_more, named_rest, none_at_all, setting_less}
use Rattle.claim_rule.proofs.Holders.{named_holder}
use Rattle.claim_rule.proofs.Behind.{all_made}
use Rattle.claim_rule.proofs.Words.{all_kept}
use Rattle.claim_rule.proofs.Known.{swapped, grown, seen_none, seen_still, knows_still, nobody}

abbrev quiet_role : Role → Role
quiet_role (Root q) = Root (record { counted = q.counted; roll = q.roll; joined = q.joined; lists = q.lists; last = 0 })
quiet_role r = r

abbrev hearing : View → List Assignment → List Entry → View
hearing v roll log = view_of v.opening (quiet_role v.role) roll log [] [] v.owes

-- legal is what the rule's list is, and what seats have seen
seen_whole : {T : Type 0} (stands : T → LayerState) (o : Opening) (st : State (Option T) View) (r : IsRuled stands o st) → IsSeen o r.log r.lead r.lead.roll r.log
seen_whole stands o st r = record { list_begins = prefix_self r.log; roll_begins = prefix_self r.lead.roll; legal = λ s q. (r.shown s q).legal }

pub at_joined : (n m : ℕ) (xs : List ℕ) → is_among m (n ∷ xs) ≡ true → (n ≡ m) ⊎ (is_among m xs ≡ true)
at_joined n m xs h = ⊎_elim (λ (t : (n == m) ≡ true). inl (eqb-true n m t)) (λ (t : is_among m xs ≡ true). inr t) (or_cases (n == m) (is_among m xs) h)

not_joined : (n m : ℕ) (xs : List ℕ) → n ≢ m → is_among m xs ≡ false → is_among m (n ∷ xs) ≡ false
not_joined n m xs ne h = rw (ne_eqb n m ne, h) refl

slots_more : (slots : ℕ) (a : Assignment) (roll : List Assignment) → have_slots slots roll ≡ true → a.slot < slots → have_slots slots (roll ++ a ∷ []) ≡ true
slots_more slots a [] h lt = and_from (nat_lt a.slot slots) true (lt-ltb a.slot slots lt) refl
slots_more slots a (x ∷ xs) h lt = let p = and_parts (nat_lt x.slot slots) (have_slots slots xs) h in and_from (nat_lt x.slot slots) (have_slots slots (xs ++ a ∷ [])) p.0 (slots_more slots a xs p.1 lt)

length_snoc : (a : Assignment) (roll : List Assignment) → length (roll ++ a ∷ []) ≡ length roll + 1
length_snoc a roll = length-append roll (a ∷ [])

module _ {T : Type 0} (stands : T → LayerState) (o : Opening) where
  pub root_of : (st : State (Option T) View) (r : IsRuled stands o st) (id : ℕ) (v : View) (q : Lead) → get_elem? st.views id ≡ some v → v.role ≡ Root q → KnowsAs o r.log r.lead r.top r.owner r.owes id v (Root q)
  root_of st r id v q at is = subst (KnowsAs o r.log r.lead r.top r.owner r.owes id v) is (r.known id v at).role

  pub numbers : (slots id : ℕ) (me : Me (Option T) View) (q : Lead) → me.0.role ≡ Root q → me.0.opening ≡ o → q.counted < o.limits.callers
      → Allows (IsRuled stands o) slots id me 0 (λ x. (x + 1) % 2 ^ 64) (numbered (step slots 0 1 0 none) me)
  numbers slots id me q is opened room st r deep at small =
      let p = root_of st r id me.0 q at is in
      let k = r.known id me.0 at in
      let x : ℕ = get_or st.words 0 0 in
      let f = r.numbers in
      let limits = f.limits in
      let top = limits.callers in
      let dealt = f.dealt in
      let s0 = Rattle.claim_rule.specs.Entries.setting_of o r.lead.roll in
      let made : x ≡ q.counted = (r.shown s0 (Rattle.claim_rule.proofs.Advance.some_setting o r.lead.roll)).words.made_is ∙ ap (λ (l : Lead). l.counted) (sym p.0) in
      let same : q.counted ≡ r.lead.counted = ap (λ (l : Lead). l.counted) p.0 in
      let lead : Lead = record { counted = r.lead.counted + 1; roll = r.lead.roll; joined = r.lead.joined; lists = r.lead.lists; last = r.lead.last } in
      let lead' : Lead = record { counted = q.counted + 1; roll = q.roll; joined = q.joined; lists = q.lists; last = q.last } in
      let alike : lead' ≡ lead = ap (λ (l : Lead). record { counted = l.counted + 1; roll = l.roll; joined = l.joined; lists = l.lists; last = l.last }) p.0 in
      let w : View = view_of me.0.opening (Root lead') me.0.roll me.0.seen me.0.heard_roll me.0.heard me.0.owes in
      let y : (x + 1) % 18446744073709551616 ≡ r.lead.counted + 1 = omega arith in (
        w,
        keeps,
        tt,
        record {
          log = r.log;
          lead = lead;
          top = r.top;
          owner = r.owner;
          owes = r.owes;
          numbers = record { limits = f.limits; slots = f.slots; dealt = omega arith; counted = omega arith; joined = f.joined; once = f.once; names = f.names };
          shown = λ s e. let t = r.shown s e in record {
            legal = t.legal;
            words = subst (λ (n : ℕ). AreAllShown o.limits n (configuration_of s r.log) r.owes (set st.words 0 ((x + 1) % 18446744073709551616))) y (all_made o.limits r.lead.counted (configuration_of s r.log) r.owes st.words ((x + 1) % 18446744073709551616) t.words);
            home = t.home;
          };
          known = swapped (Knows o r.log r.lead r.top r.owner r.owes) (Knows o r.log lead r.top r.owner r.owes) st.views id w
              (λ j v ne kn. knows_still o r.log r.lead lead r.top r.owner r.owner r.owes j (λ e. ne (sym e ∙ p.1)) (prefix_self r.lead.roll) (λ m a b c. (a, b, c)) v kn)
              r.known
              (record { seen = seen_still o r.log r.lead lead me.0.roll me.0.seen (prefix_self r.lead.roll) k.seen; heard = seen_still o r.log r.lead lead me.0.heard_roll me.0.heard (prefix_self r.lead.roll) k.heard; role = (alike, p.1, p.2, p.3, p.4) });
        },
        record {
          seen = refl;
          heard = refl;
          roll = refl;
          opening = refl;
          slots = refl;
          owes = refl;
          role = λ q' e. let i : q ≡ q' = cc (is, e) in (made ∙ ap (λ (l : Lead). l.counted) i, ap (λ (l : Lead). Root (record { counted = l.counted + 1; roll = l.roll; joined = l.joined; lists = l.lists; last = l.last })) i);
        },
      )

  pub hears : (slots id i : ℕ) (me : Me (Option T) View) (q : Lead) → me.0.role ≡ Root q
      → Allows (IsRuled stands o) slots id me i (λ x. x) (heard_all (step slots i 0 0 none) me)
  hears slots id i me q is st r deep at small =
      let p = root_of st r id me.0 q at is in
      let k = r.known id me.0 at in
      let f = r.numbers in
      let lead : Lead = record { counted = r.lead.counted; roll = r.lead.roll; joined = r.lead.joined; lists = r.lead.lists; last = 0 } in
      let w : View = hearing me.0 r.lead.roll r.log in (
        w,
        keeps,
        tt,
        record {
          log = r.log;
          lead = lead;
          top = r.top;
          owner = r.owner;
          owes = r.owes;
          numbers = record { limits = f.limits; slots = f.slots; dealt = f.dealt; counted = f.counted; joined = f.joined; once = f.once; names = f.names };
          shown = λ s e. let t = r.shown s e in record { legal = t.legal; words = all_kept o.limits r.lead.counted (configuration_of s r.log) r.owes st.words i t.words; home = t.home };
          known = swapped (Knows o r.log r.lead r.top r.owner r.owes) (Knows o r.log lead r.top r.owner r.owes) st.views id w
              (λ j v ne kn. knows_still o r.log r.lead lead r.top r.owner r.owner r.owes j (λ e. ne (sym e ∙ p.1)) (prefix_self r.lead.roll) (λ m a b c. (a, b, c)) v kn) r.known
              (record {
                seen = seen_still o r.log r.lead lead r.lead.roll r.log (prefix_self r.lead.roll) (seen_whole stands o st r);
                heard = seen_none o r.log lead;
                role = subst (λ (ro : Role). KnowsAs o r.log lead r.top r.owner r.owes id w (quiet_role ro)) (sym is) (ap (λ (l : Lead). record { counted = l.counted; roll = l.roll; joined = l.joined; lists = l.lists; last = 0 }) p.0, p.1, (λ n t. inr refl), (λ n t. absurd (omega arith)), p.4);
              });
        },
        record {
          seen = k.seen.list_begins;
          heard = k.heard.list_begins;
          heard_roll = k.heard.roll_begins;
          legal = subst (λ (b : Opening). IsLegalWith b r.lead.roll r.log) (sym p.4) (seen_whole stands o st r).legal;
          slots = refl;
          owes = refl;
          opening = refl;
          role = λ q' e. ap quiet_role e;
          roll = λ q' e. sym (ap (λ (l : Lead). l.roll) (root_of st r id me.0 q' at e).0);
          names = λ q' e. subst (λ (l : Lead). is_named (length l.roll) r.log ≡ true) (sym (root_of st r id me.0 q' at e).0) f.names;
          kept = λ q' e n t. let z = root_of st r id me.0 q' at e in subst (λ (l : Lead). (l.last ≡ n + 1) ⊎ (own n r.log ≡ own n me.0.seen)) (sym z.0) (z.2 n (subst (λ (l : Lead). is_among n l.joined ≡ true) z.0 t));
          once = λ q' e. subst (λ (l : Lead). are_distinct l.joined ≡ true) (sym (root_of st r id me.0 q' at e).0) f.once;
          last = λ q' e n t. let z = root_of st r id me.0 q' at e in (z.3 n (subst (λ (l : Lead). l.last ≡ n + 1) z.0 t)).1;
        },
      )

  pub relays : (id : ℕ) (v : View) → Splits (IsRuled stands o) id v v (relay v)
  relays id v st r at =
      let k = r.known id v at in
      record {
        log = r.log;
        lead = r.lead;
        top = r.top;
        owner = r.owner;
        owes = r.owes;
        numbers = r.numbers;
        shown = λ s e. let t = r.shown s e in record { legal = t.legal; words = t.words; home = t.home };
        known = subst (λ (l : List View). (j : ℕ) (u : View) → get_elem? (l ++ relay v ∷ []) j ≡ some u → Knows o r.log r.lead r.top r.owner r.owes j u) (sym (set_again st.views id v at))
            (grown (Knows o r.log r.lead r.top r.owner r.owes) (Knows o r.log r.lead r.top r.owner r.owes) st.views (relay v) (λ j u kn. kn) r.known
            (nobody o r.log r.lead r.top r.owner r.owes (length st.views) v.opening v.roll [] v.seen [] k.seen (seen_none o r.log r.lead)));
      }

  pub agrees : (slots id n i : ℕ) (me : Me (Option T) View) → me.0.role ≡ Caller n → Allows (IsRuled stands o) slots id me i (λ x. x) (agreed (step slots i 0 0 none) me)
  agrees slots id n i me is st r deep at small =
      let k = r.known id me.0 at in
      let p = subst (KnowsAs o r.log r.lead r.top r.owner r.owes id me.0) is k.role in
      let l = longer_begins me.0.seen me.0.heard r.log k.seen.list_begins k.heard.list_begins in
      let lr = longer_begins me.0.roll me.0.heard_roll r.lead.roll k.seen.roll_begins k.heard.roll_begins in
      let more : List Entry = longer me.0.seen me.0.heard in
      let roll : List Assignment = longer me.0.roll me.0.heard_roll in
      let u : own n r.log ≡ own n more = own_between n me.0.seen more r.log l.1 l.0 p.3 in
      let w : View = view_of me.0.opening me.0.role roll more [] [] me.0.owes in
      let legal : IsLegalWith o roll more =
      λ s e. longer_one (λ (x : List Entry). is_legal s x ≡ true) me.0.seen me.0.heard (k.seen.legal s (setting_less o me.0.roll roll s lr.1 e)) (k.heard.legal s (setting_less o me.0.heard_roll roll s lr.2 e)) in (
        w,
        keeps,
        tt,
        record {
          log = r.log;
          lead = r.lead;
          top = r.top;
          owner = r.owner;
          owes = r.owes;
          numbers = r.numbers;
          shown = λ s e. let t = r.shown s e in record { legal = t.legal; words = all_kept o.limits r.lead.counted (configuration_of s r.log) r.owes st.words i t.words; home = t.home };
          known = swapped (Knows o r.log r.lead r.top r.owner r.owes) (Knows o r.log r.lead r.top r.owner r.owes) st.views id w (λ j v ne kn. kn) r.known
              (record {
                seen = record { list_begins = l.0; roll_begins = lr.0; legal = legal };
                heard = seen_none o r.log r.lead;
                role = subst (KnowsAs o r.log r.lead r.top r.owner r.owes id w) (sym is) (p.0, p.1, p.2, u, p.4, p.5);
              });
        },
        record {
          seen_is = refl;
          roll_is = refl;
          seen = l.1;
          heard = l.2;
          roll = lr.1;
          heard_roll = lr.2;
          own_is = subst (λ (m : ℕ). own m more ≡ own m me.0.seen) (sym (ap number_of is)) (sym u ∙ p.3);
          legal = subst (λ (b : Opening). IsLegalWith b roll more) (sym p.4) legal;
          opening = refl;
          role = refl;
          slots = refl;
          owes = refl;
        },
      )

  pub tells : (id : ℕ) (v : View) (other : ℕ) (w : View) (n : ℕ) → v.role ≡ Caller n → Joins (IsRuled stands o) id v other w (told v w) spent_view
  tells id v other w n is st r at ne at' =
      let k = r.known id v at in
      let p = subst (KnowsAs o r.log r.lead r.top r.owner r.owes id v) is k.role in
      let far : get_elem? st.views other ≡ some w = sym (set_else st.views id other (told v w) ne) ∙ at' in
      let u = r.known other w far in
      record {
        log = r.log;
        lead = r.lead;
        top = r.top;
        owner = r.owner;
        owes = r.owes;
        numbers = r.numbers;
        shown = λ s e. let t = r.shown s e in record { legal = t.legal; words = t.words; home = t.home };
        known = swapped (Knows o r.log r.lead r.top r.owner r.owes) (Knows o r.log r.lead r.top r.owner r.owes) (set st.views id (told v w)) other spent_view (λ j x n kn. kn)
            (swapped (Knows o r.log r.lead r.top r.owner r.owes) (Knows o r.log r.lead r.top r.owner r.owes) st.views id (told v w) (λ j x n kn. kn) r.known
            (record { seen = k.seen; heard = u.seen; role = subst (KnowsAs o r.log r.lead r.top r.owner r.owes id (told v w)) (sym is) (p.0, p.1, p.2, p.3, p.4, p.5) }))
            (nobody o r.log r.lead r.top r.owner r.owes other spent_view.opening [] [] [] [] (seen_none o r.log r.lead) (seen_none o r.log r.lead));
      }

  -- the owner of the number d is the seat k
  abbrev put : (ℕ → ℕ) → ℕ → ℕ → ℕ → ℕ
  put owner d k m = cond (m == d) k (owner m)

  pub deals : (a : Assignment) (id : ℕ) (v : View) (q : Lead) → v.role ≡ Root q → length q.roll < q.counted → a.slot < o.limits.slots → Splits (IsRuled stands o) id v (dealing a v) (dealt a v)
  deals a id v q is room slot st r at =
      let p = root_of st r id v q at is in
      let k = r.known id v at in
      let f = r.numbers in
      let d : ℕ = length r.lead.roll in
      let same : length q.roll ≡ d = ap (λ (l : Lead). length l.roll) p.0 in
      let same' : q.counted ≡ r.lead.counted = ap (λ (l : Lead). l.counted) p.0 in
      let lead : Lead = next_lead a r.lead in
      let len : length lead.roll ≡ d + 1 = length_snoc a r.lead.roll in
      let more : IsPrefix r.lead.roll lead.roll = prefix_more r.lead.roll r.lead.roll (a ∷ []) (prefix_self r.lead.roll) in
      let seat : ℕ = length (set st.views id (dealing a v)) in
      let owner : ℕ → ℕ = put r.owner d seat in
      let on : (j m : ℕ) → m < d → r.owner m ≡ j → is_among m r.lead.joined ≡ false → (m < length lead.roll) × (owner m ≡ j) × (is_among m r.lead.joined ≡ false) =
      λ j m lt e u. (omega arith, ap (λ (b : Bool). cond b seat (r.owner m)) (ne_eqb m d (λ z. omega arith)) ∙ e, u) in
      let no_holder : (x : ℕ) → back_holder r.log ≡ Some x → x ≡ d → ⊥ = λ x e z. let lt = named_holder d x None r.log f.names e (λ w. absurd (let no : ⊥ = cc (w) in no)) in omega arith in
      let none_joined : is_among d r.lead.joined ≡ false = ⊎_elim (λ (t : is_among d r.lead.joined ≡ true). absurd (let l = f.joined d t in omega arith)) (λ (t : is_among d r.lead.joined ≡ false). t) (cases_Bool (is_among d r.lead.joined)) in
      record {
        log = r.log;
        lead = lead;
        top = r.top;
        owner = owner;
        owes = r.owes;
        numbers = record {
          limits = f.limits;
          slots = slots_more o.limits.slots a r.lead.roll f.slots slot;
          dealt = omega arith;
          counted = f.counted;
          joined = λ n t. let l = f.joined n t in omega arith;
          once = f.once;
          names = named_more d (length lead.roll) r.log (omega arith) f.names;
        };
        shown = λ s e. let t = r.shown s (setting_less o r.lead.roll lead.roll s more e) in record { legal = t.legal; words = t.words; home = t.home };
        known = grown (Knows o r.log lead r.top owner r.owes) (Knows o r.log lead r.top owner r.owes) (set st.views id (dealing a v)) (dealt a v) (λ j u kn. kn)
            (swapped (Knows o r.log r.lead r.top r.owner r.owes) (Knows o r.log lead r.top owner r.owes) st.views id (dealing a v)
            (λ j u ne kn. knows_still o r.log r.lead lead r.top r.owner owner r.owes j (λ e. ne (sym e ∙ p.1)) more (on j) u kn)
            r.known
            (record {
              seen = seen_still o r.log r.lead lead v.roll v.seen more k.seen;
              heard = seen_still o r.log r.lead lead v.heard_roll v.heard more k.heard;
              role = subst (λ (ro : Role). KnowsAs o r.log lead r.top owner r.owes id (view_of v.opening (dealing_role a ro) v.roll v.seen v.heard_roll v.heard v.owes) (dealing_role a ro)) (sym is) (ap (next_lead a) p.0, p.1, p.2, p.3, p.4);
            }))
            (subst (λ (ro : Role). Knows o r.log lead r.top owner r.owes seat (view_of v.opening (dealt_role ro) (roll_of ro ++ a ∷ []) [] [] [] [])) (sym is) (record {
              seen = record { list_begins = prefix_nil r.log; roll_begins = subst (λ (l : Lead). IsPrefix (l.roll ++ a ∷ []) lead.roll) (sym p.0) (prefix_self lead.roll); legal = λ s e. refl };
              heard = seen_none o r.log lead;
              role = (omega arith, ap (λ (b : Bool). cond b seat (r.owner (length q.roll))) (eq-eqb (length q.roll) d same), subst (λ (m : ℕ). is_among m r.lead.joined ≡ false) (sym same) none_joined, subst (λ (m : ℕ). own m r.log ≡ []) (sym same) (own_unnamed d d r.log (omega arith) f.names), p.4, (λ e. absurd (no_holder (length q.roll) e same)));
            }));
      }

  pub takes_in : (id : ℕ) (v : View) (other : ℕ) (w : View) (q : Lead) (n : ℕ) → v.role ≡ Root q → q.last ≡ 0 → w.role ≡ Caller n → Joins (IsRuled stands o) id v other w (taken_in v w) spent_view
  takes_in id v other w q n is fresh is' st r at ne at' =
      let p = root_of st r id v q at is in
      let k = r.known id v at in
      let f = r.numbers in
      let far : get_elem? st.views other ≡ some w = sym (set_else st.views id other (taken_in v w) ne) ∙ at' in
      let u = r.known other w far in
      let c = subst (KnowsAs o r.log r.lead r.top r.owner r.owes other w) is' u.role in
      let lead : Lead = record { counted = r.lead.counted; roll = r.lead.roll; joined = n ∷ r.lead.joined; lists = w.seen ∷ r.lead.lists; last = n + 1 } in
      let Q : ℕ → View → Type 0 = λ j x. j ≢ other → Knows o r.log lead r.top r.owner r.owes j x in
      record {
        log = r.log;
        lead = lead;
        top = r.top;
        owner = r.owner;
        owes = r.owes;
        numbers = record {
          limits = f.limits;
          slots = f.slots;
          dealt = f.dealt;
          counted = f.counted;
          joined = λ m t. ⊎_elim (λ (e : n ≡ m). let lt = c.0 in omega arith) (λ (h : is_among m r.lead.joined ≡ true). f.joined m h) (at_joined n m r.lead.joined t);
          once = and_from (not (is_among n r.lead.joined)) (are_distinct r.lead.joined) (ap not c.2) f.once;
          names = f.names;
        };
        shown = λ s e. let t = r.shown s e in record { legal = t.legal; words = t.words; home = t.home };
        known = swapped Q (Knows o r.log lead r.top r.owner r.owes) (set st.views id (taken_in v w)) other spent_view (λ j x ne' kn. kn ne')
            (swapped (Knows o r.log r.lead r.top r.owner r.owes) Q st.views id (taken_in v w)
            (λ j x ne' kn no. knows_still o r.log r.lead lead r.top r.owner r.owner r.owes j (λ e. ne' (sym e ∙ p.1)) (prefix_self r.lead.roll) (λ m lt ow u'. (lt, ow, not_joined n m r.lead.joined (λ e. no (sym ow ∙ (ap r.owner (sym e) ∙ c.1))) u')) x kn)
            r.known
            (λ no. record {
              seen = seen_still o r.log r.lead lead v.roll v.seen (prefix_self r.lead.roll) k.seen;
              heard = seen_still o r.log r.lead lead w.roll w.seen (prefix_self r.lead.roll) u.seen;
              role = subst (λ (z : Role × Role). KnowsAs o r.log lead r.top r.owner r.owes id (view_of v.opening (joined_role w.seen z.0 z.1) v.roll v.seen w.roll w.seen v.owes) (joined_role w.seen z.0 z.1)) (λ i. (sym is i, sym is' i)) (
                ap (λ (x : Lead). record { counted = x.counted; roll = x.roll; joined = n ∷ x.joined; lists = w.seen ∷ x.lists; last = n + 1 }) p.0,
                p.1,
                (λ m t. ⊎_elim
                    (λ (e : n ≡ m). inl (ap (λ (x : ℕ). x + 1) e))
                    (λ (h : is_among m r.lead.joined ≡ true). ⊎_elim
                    (λ (e : r.lead.last ≡ m + 1). absurd (let z : r.lead.last ≡ 0 = ap (λ (x : Lead). x.last) (sym p.0) ∙ fresh in omega arith))
                    (λ (e : own m r.log ≡ own m v.seen). inr e)
                    (p.2 m h))
                    (at_joined n m r.lead.joined t)),
                (λ m t. let e : n ≡ m = omega arith in (ap (λ (b : Bool). b || is_among m r.lead.joined) (eq-eqb n m e), subst (λ (x : ℕ). own x r.log ≡ own x w.seen) e c.3)),
                p.4,
              );
            }))
            (nobody o r.log lead r.top r.owner r.owes other spent_view.opening [] [] [] [] (seen_none o r.log lead) (seen_none o r.log lead));
      }

  -- once all callers have joined, the root has seen the whole history
  pub whole : (st : State (Option T) View) (r : IsRuled stands o st) (id : ℕ) (v : View) (q : Lead) → get_elem? st.views id ≡ some v → v.role ≡ Root q → q.last ≡ 0 → ((n : ℕ) → n < length q.roll → is_among n q.joined ≡ true) → r.log ≡ v.seen
  whole st r id v q at is fresh all =
      let p = root_of st r id v q at is in
      let k = r.known id v at in
      let b = k.seen.list_begins in
      let names : is_named (length r.lead.roll) b.0 ≡ true = named_rest (length r.lead.roll) v.seen b.0 (ap (is_named (length r.lead.roll)) b.1 ∙ r.numbers.names) in
      let nothing : b.0 ≡ [] = none_at_all (length r.lead.roll) b.0 names (λ n lt. none_between n r.log v.seen b (⊎_elim (λ (e : r.lead.last ≡ n + 1). absurd (let z : r.lead.last ≡ 0 = ap (λ (x : Lead). x.last) (sym p.0) ∙ fresh in omega arith)) (λ (e : own n r.log ≡ own n v.seen). e) (p.2 n (subst (λ (l : Lead). is_among n l.joined ≡ true) p.0 (all n (subst (λ (l : Lead). n < length l.roll) (sym p.0) lt)))))) in
      sym b.1 ∙ (ap (λ w. v.seen ++ w) nothing ∙ append-nil v.seen)

  ---- A new table: all words are 0, and the slots have the states of an empty heap

  zeros : (l : Limits) (i : ℕ) → get_or (zero_words (word_count l)) i 0 ≡ 0
  zeros l i = elim (cases_Bool (nat_lt i (word_count l))) [
    | inl e ↦ get_or-replicate (word_count l) i 0 0 (Rattle.std.proofs.lemmas.Bool.ltb-true i (word_count l) e)
    | inr e ↦ let le = Rattle.std.proofs.lemmas.Bool.ltb-false i (word_count l) e in beyond (word_count l) i le
  ]
    where
      beyond : (n i : ℕ) → n ≤ i → get_or (zero_words n) i 0 ≡ 0
      beyond zero i le = refl
      beyond (suc n) zero le = absurd (omega arith)
      beyond (suc n) (suc i) le = beyond n i (omega arith)

  -- nobody holds a lock
  unheld : (what : What) → 0 ≡ caller_word (holder_of first_configuration.state.gate.locks what)
  unheld whats.Gate = refl
  unheld whats.Lfh = refl
  unheld whats.Vs = refl
  unheld whats.Back = refl
  unheld whats.Large = refl

  shown_first : (l : Limits) → AreAllShown l 0 first_configuration [] (zero_words (word_count l))
  shown_first l =
      let z : (i : ℕ) → get_or (zero_words (word_count l)) i 0 ≡ 0 = zeros l in
      record {
        wide = length-replicate (word_count l) 0;
        made_is = z 0;
        gate = record { gate = z 1; locks = λ what is. z (lock_at what) ∙ unheld what };
        lfh = record {
          active = λ k lt. z (6 + k);
          bitmaps = λ k lt. z (2182 + 256 * l.segments + k);
          sizes = λ k lt. z (2182 + 1280 * l.segments + k);
          tags = λ page lt. (z (2182 + page), inl (z (2182 + page)));
          heads = λ b t first e. absurd (let no : ⊥ = cc in no);
          hints = λ b t low high few. (z (118 + 16 * b + t), inl (z (118 + 16 * b + t)));
          paid = λ e. refl;
        };
        stored = λ k lt. z (2182 + 66816 * l.segments + k);
      }

  pub opens : (vs back large : T) → AreValid o.limits → StandsForVs o opening (stands vs) → StandsForBack o opening (stands back) → StandsForLarge o opening (stands large)
      → IsRuled stands o (starting (zero_words (word_count o.limits)) (Some vs ∷ Some back ∷ Some large ∷ []) (first_view o))
  opens vs back large valid a b c = record {
    log = [];
    lead = first_lead;
    top = 0;
    owner = λ _. 0;
    owes = [];
    numbers = record { limits = valid; slots = refl; dealt = omega arith; counted = omega arith; joined = λ n h. absurd (false≢true h); once = refl; names = refl };
    shown = λ s e. record {
      legal = refl;
      words = shown_first o.limits;
      home = record { deep = refl; full = λ what has free. first_full what has };
    };
    known = only;
  }
    where
      first_full : (what : What) → HasSlot what → IsFull stands o opening (some (Some vs) ∷ some (Some back) ∷ some (Some large) ∷ []) what
      first_full whats.Vs has = (vs, refl, a)
      first_full whats.Back has = (back, refl, b)
      first_full whats.Large has = (large, refl, c)
      first_full whats.Gate has = absurd has
      first_full whats.Lfh has = absurd has

      only : (j : ℕ) (v : View) → get_elem? (first_view o ∷ []) j ≡ some v → Knows o [] first_lead 0 (λ _. 0) [] j v
      only zero v e = subst (Knows o [] first_lead 0 (λ _. 0) [] 0) (some-injective (first_view o) v e) (record { seen = seen_none o [] first_lead; heard = seen_none o [] first_lead; role = (refl, refl, (λ n t. inr refl), (λ n t. absurd (omega arith)), refl) })
      only (suc j) v e = absurd (some-ne-none v (sym e))
