-- One law for all steps of a caller: where its own entries may come behind the carried ones, and the words and the slots show what is behind
-- them, the rule goes on, and the caller has seen the whole history.
use Rattle.std.proofs.Common.{◌≡◌, ℕ, ◌≤◌, true, List, [], ◌∷◌, ◌++◌, length, set, refl, sym, ap, ◌∙◌, subst, inl, Option, None}
use mathlib.Core.Option.{some}
use lib.ListN.{get_elem?}
use Rattle.atomic_table.specs.Table.{State, Me, Act, stepped, homes_after}
use Rattle.heap_model.specs.declared.Act.{Act as Deed}
use Rattle.heap_model.specs.declared.Entry.{Entry}
use Rattle.heap_model.specs.State.{Setting, caller_word}
use Rattle.heap_model.specs.CallState.{Configuration, Nothing}
use Rattle.heap_model.specs.History.{configuration_after, configuration_of, first_configuration, may_all_follow, is_legal}
use Rattle.heap_model.specs.Agreement.{AgreesFor, GateIsSound}
use Rattle.heap_model.proofs.GateSound.{gate_sound_after, gate_sound_first}
use Rattle.heap_model.proofs.Others.{agrees_others}
use Rattle.claim_rule.specs.declared.views.Assignment.{Assignment}
use Rattle.heap_model.specs.declared.Opening.{Opening}
use Rattle.claim_rule.specs.declared.views.Owed.{Owed}
use Rattle.claim_rule.specs.declared.views.Role.TheVariants.{Caller}
use Rattle.claim_rule.specs.declared.views.View.{View}
use Rattle.claim_rule.specs.Shown.{holder_from, back_holder, AreAllShown}
use Rattle.heap_model.specs.Layers.{LayerState}
use Rattle.claim_rule.specs.Home.{AreHome}
use Rattle.claim_rule.specs.Entries.{IsSettingOf, IsLegalWith, is_by, entry}
use Rattle.claim_rule.specs.Rule.{KnowsAs, IsRuled, IsReady, view_of}
use Rattle.claim_rule.specs.Plays.{Goes, Adds, number_of}
use Rattle.claim_rule.specs.Laws.{ActsLaw, IsOwing}
use Rattle.claim_rule.proofs.Lists.{after-append, follow_join, follow_parts, legal_parts, legal_from, none_between, by-append, named-append, named_by, prefix_self, prefix_more, setting_less}
use Rattle.claim_rule.proofs.Counts.{IsCounted, counted_after, counted_first, counted_few, owner_few}
use Rattle.claim_rule.proofs.Prepared.{IsCarried, carried, prepared_by}
use Rattle.claim_rule.proofs.Slots.{homes_kept}
use Rattle.claim_rule.proofs.Words.{all_same}
use Rattle.claim_rule.proofs.Holders.{holder-append}
use Rattle.claim_rule.proofs.Known.{known_set}

-- the view that has seen the whole history
abbrev pub sees : View → List Assignment → List Entry → List Owed → View
sees v roll log owes = view_of v.opening v.role roll log v.heard_roll v.heard owes

-- some setting is one of these callers
pub some_setting : (o : Opening) (roll : List Assignment) → IsSettingOf o roll (Rattle.claim_rule.specs.Entries.setting_of o roll)
some_setting o roll = record { limits = refl; seed = refl; slot = λ c lt. refl; stream = λ c lt. refl }

module _ {T : Type 0} (stands : T → LayerState) (o : Opening) where
  abbrev St : Type 0
  St = State (Option T) View

  -- what the seat of a caller knows
  pub role_of : (st : St) (r : IsRuled stands o st) (id n : ℕ) (v : View) → get_elem? st.views id ≡ some v → v.role ≡ Caller n → KnowsAs o r.log r.lead r.top r.owner r.owes id v (Caller n)
  role_of st r id n v at is = subst (KnowsAs o r.log r.lead r.top r.owner r.owes id v) is (r.known id v at).role

  -- what is so in a setting behind the carried entries
  pub record IsBefore (st : St) (r : IsRuled stands o st) (n : ℕ) (v : View) (es : List Entry) (s : Setting) (m : Configuration) : Type 0 where
    pub carried : IsCarried s n (configuration_of s r.log) (configuration_of s v.seen) es
    pub whole : m.now.demand ≡ Nothing
    pub words : AreAllShown o.limits r.lead.counted m r.owes st.words
    pub home : AreHome stands o m.state st.homes
    pub counted : IsCounted m.state.gate
    pub gate : GateIsSound m.state.gate
    pub few : length m.state.gate.counted ≤ length r.lead.roll
    pub owner : caller_word m.state.gate.owner ≤ length r.lead.roll

  module _ (st : St) (r : IsRuled stands o st) (id n : ℕ) (v : View) (es : List Entry) (at : get_elem? st.views id ≡ some v) (h : IsReady n v es) where
    -- the settings of the rule are settings of the view
    pub setting_in : (s : Setting) → IsSettingOf o r.lead.roll s → IsSettingOf v.opening v.roll s
    setting_in s q =
        let p = role_of st r id n v at h.role in
        let k = r.known id v at in
        subst (λ (a : Opening). IsSettingOf a v.roll s) (sym p.4) (setting_less o v.roll r.lead.roll s k.seen.roll_begins q)

    -- what the caller alone decides is in the history as in what it has seen
    pub agrees : (s : Setting) → IsSettingOf o r.lead.roll s → AgreesFor n (configuration_of s r.log) (configuration_of s v.seen)
    agrees s q =
        let p = role_of st r id n v at h.role in
        let k = r.known id v at in
        let all = (legal_parts s r.log (r.shown s q).legal).0 in
        let legal : may_all_follow s first_configuration (v.seen ++ k.seen.list_begins.0) ≡ true = ap (may_all_follow s first_configuration) k.seen.list_begins.1 ∙ all in
        let parts = follow_parts s first_configuration v.seen k.seen.list_begins.0 legal in
        subst (λ (m : Configuration). AgreesFor n m (configuration_of s v.seen)) (sym (after-append s first_configuration v.seen k.seen.list_begins.0) ∙ ap (configuration_of s) k.seen.list_begins.1)
        (agrees_others s (configuration_of s v.seen) n k.seen.list_begins.0 (none_between n r.log v.seen k.seen.list_begins p.3) parts.1 (gate_sound_after s first_configuration v.seen parts.0 gate_sound_first))

    -- what is so behind the carried entries, in each setting of the rule
    pub before : (s : Setting) → IsSettingOf o r.lead.roll s → IsBefore st r n v es s (configuration_after s (configuration_of s r.log) es)
    before s q =
        let p = role_of st r id n v at h.role in
        let k = r.known id v at in
        let t = r.shown s q in
        let q' = setting_in s q in
        let log = legal_parts s r.log t.legal in
        let seen = legal_parts s v.seen (k.seen.legal s (setting_less o v.roll r.lead.roll s k.seen.roll_begins q)) in
        let c = carried s n (configuration_of s r.log) (configuration_of s v.seen) es (agrees s q) (log.1 ∙ sym seen.1) (h.prepared s q') in
        let same : configuration_after s (configuration_of s r.log) es ≡ configuration_of s (r.log ++ es) = sym (after-append s first_configuration r.log es) in
        let all = follow_join s first_configuration r.log es log.0 c.follows in
        let names = named-append (length r.lead.roll) r.log es r.numbers.names (named_by (length r.lead.roll) n es p.0 (prepared_by s n (configuration_of s v.seen) es (h.prepared s q'))) in
        record {
          carried = c;
          whole = c.demand ∙ h.whole s q';
          words = all_same o.limits r.lead.counted (configuration_after s (configuration_of s r.log) es) (configuration_of s r.log) r.owes st.words c.shown c.gate t.words;
          home = homes_kept stands o (configuration_after s (configuration_of s r.log) es).state (configuration_of s r.log).state st.homes c.homes t.home;
          counted = counted_after s (configuration_of s r.log) es c.follows (counted_after s first_configuration r.log log.0 counted_first);
          gate = gate_sound_after s (configuration_of s r.log) es c.follows (gate_sound_after s first_configuration r.log log.0 gate_sound_first);
          few = subst (λ (m : Configuration). length m.state.gate.counted ≤ length r.lead.roll) (sym same) (counted_few s (length r.lead.roll) (r.log ++ es) names all);
          owner = subst (λ (m : Configuration). caller_word m.state.gate.owner ≤ length r.lead.roll) (sym same) (owner_few s (length r.lead.roll) (r.log ++ es) names all);
        }

    -- the carried entries are the caller's
    pub by : is_by n es ≡ true
    by =
        let q = some_setting v.opening v.roll in
        let s = Rattle.claim_rule.specs.Entries.setting_of v.opening v.roll in
        prepared_by s n (configuration_of s v.seen) es (h.prepared s q)

    -- The law that each kind of step ends with: its own entries are ds.
    pub leaves : (c : List (ℕ × Option T)) (i x : ℕ) (a : Act (Option T)) (ds : List Entry) (owes mine : List Owed) → is_by n ds ≡ true → IsOwing stands n r.owes owes mine (r.log ++ (es ++ ds))
        → ((s : Setting) → IsSettingOf o r.lead.roll s →
        (may_all_follow s (configuration_after s (configuration_of s r.log) es) ds ≡ true)
        × ((configuration_after s (configuration_after s (configuration_of s r.log) es) ds).now.demand ≡ Nothing)
        × AreAllShown o.limits r.lead.counted (configuration_after s (configuration_after s (configuration_of s r.log) es) ds) owes (set st.words i x)
        × AreHome stands o (configuration_after s (configuration_after s (configuration_of s r.log) es) ds).state (homes_after st.homes c a))
        → (w : View) × IsRuled stands o (stepped st i x id c w a) × Goes n v w es ds × (w.owes ≡ mine) × (w.seen ≡ r.log ++ (es ++ ds)) × (w.roll ≡ r.lead.roll)
    leaves c i x a ds owes mine bd owing shows =
        let p = role_of st r id n v at h.role in
        let k = r.known id v at in
        let all : List Entry = es ++ ds in
        let ball = by-append n es ds by bd in
        let log : List Entry = r.log ++ all in
        let w : View = sees v r.lead.roll log mine in
        let behind : (s : Setting) → configuration_of s log ≡ configuration_after s (configuration_after s (configuration_of s r.log) es) ds =
        λ s. after-append s first_configuration r.log all ∙ after-append s (configuration_of s r.log) es ds in
        let legal : (s : Setting) → IsSettingOf o r.lead.roll s → is_legal s log ≡ true =
        λ s q. legal_from s log
        (follow_join s first_configuration r.log all (legal_parts s r.log (r.shown s q).legal).0 (follow_join s (configuration_of s r.log) es ds (before s q).carried.follows (shows s q).0))
        (ap (λ (m : Configuration). m.now.demand) (behind s) ∙ (shows s q).1) in (
          w,
          record {
            log = log;
            lead = r.lead;
            top = r.top;
            owner = r.owner;
            owes = owes;
            numbers = record {
              limits = r.numbers.limits;
              slots = r.numbers.slots;
              dealt = r.numbers.dealt;
              counted = r.numbers.counted;
              joined = r.numbers.joined;
              once = r.numbers.once;
              names = named-append (length r.lead.roll) r.log all r.numbers.names (named_by (length r.lead.roll) n all p.0 ball);
            };
            shown = λ s q. record {
              legal = legal s q;
              words = subst (λ (m : Configuration). AreAllShown o.limits r.lead.counted m owes (set st.words i x)) (sym (behind s)) (shows s q).2;
              home = subst (λ (m : Configuration). AreHome stands o m.state (homes_after st.homes c a)) (sym (behind s)) (shows s q).3;
            };
            known = known_set o r.log r.lead r.top r.owner n id p.1 p.2 all ball r.owes owes owing.same st.views w r.known (record {
              seen = record { list_begins = prefix_self log; roll_begins = prefix_self r.lead.roll; legal = legal };
              heard = record { list_begins = prefix_more v.heard r.log all k.heard.list_begins; roll_begins = k.heard.roll_begins; legal = k.heard.legal };
              role = subst (KnowsAs o log r.lead r.top r.owner owes id w) (sym h.role) (p.0, p.1, p.2, refl, p.4, owing.known);
            });
          },
          record {
            between = k.seen.list_begins.0;
            seen = ap (λ (l : List Entry). l ++ all) (sym k.seen.list_begins.1);
            others = none_between n r.log v.seen k.seen.list_begins p.3;
            legal = subst (λ (b : Opening). IsLegalWith b r.lead.roll log) (sym p.4) legal;
            goes = λ s q.
                let q' = subst (λ (b : Opening). IsSettingOf b r.lead.roll s) p.4 q in
                record { before = configuration_after s (configuration_of s r.log) es; agrees = (before s q').carried.agrees; whole = (before s q').whole; follows = (shows s q').0; behind = behind s };
            roll = k.seen.roll_begins;
            opening = refl;
            role = refl;
          },
          refl,
          refl,
          refl,
        )

    -- the setting of a view that has seen all is one of the rule, and the configuration behind what it has seen is that behind the entries
    pub setting_back : (w : View) (s : Setting) → w.opening ≡ v.opening → w.roll ≡ r.lead.roll → IsSettingOf w.opening w.roll s → IsSettingOf o r.lead.roll s
    setting_back w s a b q =
        let p = role_of st r id n v at h.role in
        subst (λ (z : Opening × List Assignment). IsSettingOf z.0 z.1 s) (λ i. ((a ∙ p.4) i, b i)) q

    -- what the caller has seen then
    pub seen_behind : (w : View) (s : Setting) (ds : List Entry) → w.seen ≡ r.log ++ (es ++ ds) → configuration_of s w.seen ≡ configuration_after s (configuration_after s (configuration_of s r.log) es) ds
    seen_behind w s ds e = ap (configuration_of s) e ∙ (after-append s first_configuration r.log (es ++ ds) ∙ after-append s (configuration_of s r.log) es ds)

    -- who holds Back behind the carried entries and those
    pub holder_behind : (ds : List Entry) → back_holder (r.log ++ (es ++ ds)) ≡ holder_from (back_holder r.log) ds
    holder_behind ds =
        let s0 = Rattle.claim_rule.specs.Entries.setting_of o r.lead.roll in
        let q0 = some_setting o r.lead.roll in
        holder-append None r.log (es ++ ds) ∙ (holder-append (back_holder r.log) es ds ∙ ap (λ (h : Option ℕ). holder_from h ds) ((before s0 q0).carried.holder (back_holder r.log)))

    -- a step that leaves Back with whom it was leaves what is owed
    pub owes_still : (ds : List Entry) → ((h : Option ℕ) → holder_from h ds ≡ h) → IsOwing stands n r.owes r.owes v.owes (r.log ++ (es ++ ds))
    owes_still ds same =
        let p = role_of st r id n v at h.role in
        record { same = inl refl; known = λ e. p.5 (sym (same (back_holder r.log)) ∙ (sym (holder_behind ds) ∙ e)) }

    -- .. where they leave Back with whom it was, and nothing more is owed
    pub acts : (c : List (ℕ × Option T)) (i x : ℕ) (a : Act (Option T)) (ds : List Entry) → is_by n ds ≡ true → ((h : Option ℕ) → holder_from h ds ≡ h)
        → ((s : Setting) → IsSettingOf o r.lead.roll s →
        (may_all_follow s (configuration_after s (configuration_of s r.log) es) ds ≡ true)
        × ((configuration_after s (configuration_after s (configuration_of s r.log) es) ds).now.demand ≡ Nothing)
        × AreAllShown o.limits r.lead.counted (configuration_after s (configuration_after s (configuration_of s r.log) es) ds) r.owes (set st.words i x)
        × AreHome stands o (configuration_after s (configuration_after s (configuration_of s r.log) es) ds).state (homes_after st.homes c a))
        → (w : View) × IsRuled stands o (stepped st i x id c w a) × Goes n v w es ds × (w.owes ≡ v.owes) × (w.seen ≡ r.log ++ (es ++ ds)) × (w.roll ≡ r.lead.roll)
    acts c i x a ds bd same shows = leaves c i x a ds r.owes v.owes bd (owes_still ds same) shows

-- the law, as the contract has it
pub acts_law : {T : Type 0} (stands : T → LayerState) → ActsLaw stands
acts_law stands o st r id n v es ds c i x a owes mine at h by owing shows =
    leaves stands o st r id n v es at h c i x a ds owes mine by owing (λ s q.
    let b = before stands o st r id n v es at h s q in
    let t = shows s q (record { agrees = b.carried.agrees; whole = b.whole; words = b.words; home = b.home; gate = b.gate; few = b.few; owner = b.owner }) in
    (t.follows, t.whole, t.shown, t.home))

-- with the number that the view names
pub adds_of : {T : Type 0} (m m' : Me (Option T) View) (n : ℕ) (es : List Entry) (d : Deed) → m.0.role ≡ Caller n → Goes n m.0 m'.0 es (entry n d ∷ []) → Adds es d m m'
adds_of m m' n es d is g = subst (λ (k : ℕ). Goes k m.0 m'.0 es (entry k d ∷ [])) (sym (ap number_of is)) g

pub goes_of : {T : Type 0} (m m' : Me (Option T) View) (n : ℕ) (es ds : List Entry) → m.0.role ≡ Caller n → Goes n m.0 m'.0 es ds → Goes (number_of m.0.role) m.0 m'.0 es ds
goes_of m m' n es ds is g = subst (λ (k : ℕ). Goes k m.0 m'.0 es ds) (sym (ap number_of is)) g
