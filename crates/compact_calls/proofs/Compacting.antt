-- A compaction as one call.
use Rattle.std.proofs.Common.{◌≡◌, ℕ, ◌==◌, Bool, true, false, not, List, [], ◌∷◌, ◌++◌, map, length, Option, Some, refl, sym, ap, ◌∙◌, subst, append_assoc}
use Rattle.std.specs.List.{list_any}
use Rattle.std.proofs.lemmas.List.{append-nil}
use mathlib.Core.List.{IsPrefix}
use Rattle.heap_model.specs.declared.Act.{Act}
use Rattle.heap_model.specs.declared.Act.TheVariants as acts
use Rattle.heap_model.specs.declared.Call.TheVariants as calls
use Rattle.heap_model.specs.declared.Entry.{Entry}
use Rattle.heap_model.specs.declared.Kind.TheVariants as kinds
use Rattle.heap_model.specs.declared.Reply.TheVariants as replies
use Rattle.heap_model.specs.State.{Setting, State, BackPart, Place, is_caller}
use Rattle.heap_model.specs.CallState.{Configuration}
use Rattle.heap_model.specs.Legal.{is_begin, are_used}
use Rattle.heap_model.specs.History.{own, configuration_after, configuration_of, first_configuration, may_all_follow}
use Rattle.heap_model.specs.Agreement.{GateIsSound}
use Rattle.heap_model.specs.Moments.{moments, acts_of, state_before, state_before_last, In}
use Rattle.heap_model.specs.Served.{IsOneCall}
use Rattle.heap_model.specs.Shape.{Replied, is_unspan, are_spans_first, shape_of, shown, under_lock, IsCompact, Compacts, loose_pages}
use Rattle.heap_model.proofs.GateSound.{gate_sound_after, gate_sound_first}
use Rattle.heap_model.proofs.Moments.{moments_acts}
use Rattle.heap_model.proofs.Others.{agrees_others}
use Rattle.call_laws.specs.Within.{by_all}
use Rattle.call_laws.proofs.Told.{own_acts_are_shown, first_is_before, last_is_before}
use Rattle.claim_rule.specs.Entries.{IsSettingOf, IsLegalWith, entry}
use Rattle.claim_rule.proofs.Lists.{own-append, after-append, legal_parts, follow_parts}
use Rattle.lfh_spans.proofs.Joined.{setting_of_old}
use Rattle.heap_gate.specs.Token.{Token, IsStanding}
use Rattle.call_parts.specs.Calls.{IsReadyToCall, GoesOn, Answers, all_own}
use Rattle.call_parts.proofs.Joining.{setting_before}
use Rattle.call_parts.proofs.Serving.{none_begins}
use Rattle.compact_calls.specs.Empties.{unspans}
use Rattle.compact_calls.specs.Pages.{decommits}
use Rattle.compact_calls.specs.Compact.{cleaning, Ends}
use Rattle.compact_calls.proofs.Owning.{cancel, own_since, legal_since, owner_is}
use Rattle.compact_calls.proofs.Doing.{split, others_leave}

---- Its acts

unspans_left_out : (heads : List ℕ) (l : List Act) → shape_of (unspans heads ++ l) ≡ shape_of l
unspans_left_out [] l = refl
unspans_left_out (h ∷ heads) l = unspans_left_out heads l

decommits_shown : (pages : List ℕ) (l : List Act) → shape_of (decommits pages ++ l) ≡ decommits pages ++ shape_of l
decommits_shown [] l = refl
decommits_shown (p ∷ pages) l = ap (λ (r : List Act). acts.Decommit p ∷ r) (decommits_shown pages l)

pub cleaning_shown : (heads pages : List ℕ) (l : List Act) → shape_of (cleaning heads pages ++ l) ≡ decommits pages ++ shape_of l
cleaning_shown heads pages l = ap shape_of (append_assoc (unspans heads) (decommits pages) l) ∙ (unspans_left_out heads (decommits pages ++ l) ∙ decommits_shown pages l)

unspans_first : (heads : List ℕ) (l : List Act) → are_spans_first (unspans heads ++ l) ≡ are_spans_first l
unspans_first [] l = refl
unspans_first (h ∷ heads) l = unspans_first heads l

no_unspan : (pages : List ℕ) (l : List Act) → list_any is_unspan (decommits pages ++ l) ≡ list_any is_unspan l
no_unspan [] l = refl
no_unspan (p ∷ pages) l = no_unspan pages l

decommits_first : (pages : List ℕ) (l : List Act) → list_any is_unspan l ≡ false → are_spans_first l ≡ true → are_spans_first (decommits pages ++ l) ≡ true
decommits_first [] l n f = f
decommits_first (p ∷ pages) l n f = ap not (no_unspan pages l ∙ n)

pub cleaning_first : (heads pages : List ℕ) (l : List Act) → list_any is_unspan l ≡ false → are_spans_first l ≡ true → are_spans_first (cleaning heads pages ++ l) ≡ true
cleaning_first heads pages l n f = ap are_spans_first (append_assoc (unspans heads) (decommits pages) l) ∙ (unspans_first heads (decommits pages ++ l) ∙ decommits_first pages l n f)

---- What was added to the list

acts_again : (n : ℕ) (rest : List Act) → map (λ (e : Entry). e.act) (by_all n rest) ≡ rest
acts_again n [] = refl
acts_again n (act ∷ rest) = ap (λ (l : List Act). act ∷ l) (acts_again n rest)

own_of : (a e : Token) (added : List Act) (x : GoesOn a e added) → a.prepared ≡ [] → e.prepared ≡ [] → own a.number x.seen.0 ≡ by_all a.number added
own_of a e added x na ne =
    let before : all_own a ≡ own a.number a.seen = ap (λ (l : List Entry). own a.number a.seen ++ l) na ∙ append-nil (own a.number a.seen) in
    let behind : own a.number e.seen ≡ own a.number a.seen ++ by_all a.number added =
    (λ j. own (sym x.number j) e.seen) ∙ (sym (append-nil (own e.number e.seen)) ∙ (ap (λ (l : List Entry). own e.number e.seen ++ l) (sym ne) ∙ (x.own ∙ ap (λ (l : List Entry). l ++ by_all a.number added) before))) in
    cancel (own a.number a.seen) (own a.number x.seen.0) (by_all a.number added) (sym (own-append a.number a.seen x.seen.0) ∙ (ap (own a.number) x.seen.1 ∙ behind))

own_grows : (a e : Token) (added : List Act) (x : GoesOn a e added) → a.prepared ≡ [] → e.prepared ≡ [] → own a.number e.seen ≡ own a.number a.seen ++ by_all a.number added
own_grows a e added x na ne = ap (own a.number) (sym x.seen.1) ∙ (own-append a.number a.seen x.seen.0 ∙ ap (λ (l : List Entry). own a.number a.seen ++ l) (own_of a e added x na ne))

legal_on : (a e : Token) (p : IsPrefix a.seen e.seen) → IsLegalWith e.opening e.roll e.seen → (s : Setting) → IsSettingOf e.opening e.roll s
    → (GateIsSound (configuration_of s a.seen).state.gate) × (may_all_follow s (configuration_of s a.seen) p.0 ≡ true)
legal_on a e p legal s q =
    let all = (legal_parts s e.seen (legal s q)).0 in
    let r = follow_parts s first_configuration a.seen p.0 (ap (may_all_follow s first_configuration) p.1 ∙ all) in
    (gate_sound_after s first_configuration a.seen r.0 gate_sound_first, r.1)

---- The state before an act

no_own_act : (s : Setting) (n : ℕ) (m : Configuration) (es : List Entry) (test : Act → Bool) → own n es ≡ [] → list_any test (acts_of (moments s n m es)) ≡ false
no_own_act s n m es test h = ap (list_any test) (moments_acts s n m es ∙ ap (map (λ (e : Entry). e.act)) h)

compact_same : (m k : State) → m.back ≡ k.back → m.lfh ≡ k.lfh → IsCompact k → IsCompact m
compact_same m k b f c = subst (λ (z : List Place × BackPart). (are_used 4096 kinds.Lfh z.0 z.1.area.spans ≡ true) × (loose_pages z.1.area ≡ [])) (sym (λ j. (f j, b j))) c

module _ (a e : Token) (b : Bool) (pages : List ℕ) (number : ℕ) (added : List Act) (last : Act) (st : IsStanding a) (na : a.prepared ≡ []) (lock : not (a.depth == 0) ≡ b)
    (x : Ends a e last) (goes : GoesOn a e (acts.Begin calls.Compact ∷ (added ++ last ∷ []))) (legal : IsLegalWith e.opening e.roll e.seen) (ready : IsReadyToCall e)
    (shape : shape_of (added ++ last ∷ []) ≡ under_lock b (decommits pages)) (first : are_spans_first (added ++ last ∷ []) ≡ true) (none : none_begins (added ++ last ∷ []) ≡ true) (count : number ≡ length pages) where
  own_is : own a.number goes.seen.0 ≡ by_all a.number (acts.Begin calls.Compact ∷ (added ++ last ∷ []))
  own_is = own_of a e (acts.Begin calls.Compact ∷ (added ++ last ∷ [])) goes na ready.prepared

  module _ (s : Setting) (q : IsSettingOf e.opening e.roll s) where
    all_acts : acts_of (moments s a.number (configuration_of s a.seen) goes.seen.0) ≡ acts.Begin calls.Compact ∷ (added ++ last ∷ [])
    all_acts = moments_acts s a.number (configuration_of s a.seen) goes.seen.0 ∙ (ap (map (λ (y : Entry). y.act)) own_is ∙ acts_again a.number (acts.Begin calls.Compact ∷ (added ++ last ∷ [])))

    told : IsOneCall calls.Compact (acts_of (moments s a.number (configuration_of s a.seen) goes.seen.0)) × (shown (moments s a.number (configuration_of s a.seen) goes.seen.0) ≡ shape_of (added ++ last ∷ []))
    told = own_acts_are_shown s a.number (configuration_of s a.seen) goes.seen.0 calls.Compact (added ++ last ∷ []) own_is none

    -- at the Begin the caller owns the heap lock or not as it did
    begin_state : In (state_before is_begin (moments s a.number (configuration_of s a.seen) goes.seen.0)) (λ y. shown (moments s a.number (configuration_of s a.seen) goes.seen.0) ≡ under_lock (is_caller a.number y.gate.owner) (decommits pages))
    begin_state =
        let m = configuration_of s a.seen in
        let y = split a.number goes.seen.0 (entry a.number (acts.Begin calls.Compact)) (by_all a.number (added ++ last ∷ [])) own_is in
        let l = legal_on a e goes.seen legal s q in
        let follow = follow_parts s m y.first (entry a.number (acts.Begin calls.Compact) ∷ y.later) (ap (may_all_follow s m) (sym y.is) ∙ l.1) in
        let r = agrees_others s m a.number y.first y.none follow.0 l.0 in
        let at : state_before is_begin (moments s a.number m goes.seen.0) ≡ Some (configuration_after s m y.first).state =
        ap (λ (z : List Entry). state_before is_begin (moments s a.number m z)) y.is
        ∙ first_is_before s a.number m y.first y.later (acts.Begin calls.Compact) is_begin refl (no_own_act s a.number m y.first is_begin y.none) in
        let now_is : is_caller a.number m.state.gate.owner ≡ not (a.depth == 0) = ap (λ (ps : List Entry). is_caller a.number (configuration_after s m ps).state.gate.owner) (sym na) ∙ (st s (setting_before a e (acts.Begin calls.Compact ∷ (added ++ last ∷ [])) goes s q)).owns in
        let owner : is_caller a.number (configuration_after s m y.first).state.gate.owner ≡ b = r.owner ∙ (now_is ∙ lock) in
        subst (λ (o : Option State). In o (λ z. shown (moments s a.number m goes.seen.0) ≡ under_lock (is_caller a.number z.gate.owner) (decommits pages))) (sym at)
        (told.1 ∙ (shape ∙ ap (λ (c : Bool). under_lock c (decommits pages)) (sym owner)))

    -- before the last act the heap is compact
    last_state : In (state_before_last (moments s a.number (configuration_of s a.seen) goes.seen.0)) IsCompact
    last_state =
        let m = configuration_of s a.seen in
        let d = x.before in
        let z = x.does in
        let qd = setting_of_old d e (entry d.number last ∷ []) z s q in
        let l = legal_since d e (entry d.number last ∷ []) z s q in
        let y = split d.number z.seen.0 (entry d.number last) [] (own_since d e (entry d.number last ∷ []) z x.prepared) in
        let k = configuration_of s d.seen in
        let follow = follow_parts s k y.first (entry d.number last ∷ y.later) (ap (may_all_follow s k) (sym y.is) ∙ l.1) in
        let o = others_leave s k d.number y.first y.none follow.0 l.0 (owner_is d x.standing x.owns x.prepared s qd) in
        let parts : goes.seen.0 ≡ (x.seen.0 ++ y.first) ++ entry d.number last ∷ y.later =
        cancel a.seen goes.seen.0 ((x.seen.0 ++ y.first) ++ entry d.number last ∷ y.later)
        (goes.seen.1
        ∙ (sym z.seen.1
        ∙ (ap (λ (w : List Entry). w ++ z.seen.0) (sym x.seen.1)
        ∙ (append_assoc a.seen x.seen.0 z.seen.0
        ∙ ap (λ (w : List Entry). a.seen ++ w) (ap (λ (w : List Entry). x.seen.0 ++ w) y.is ∙ sym (append_assoc x.seen.0 y.first (entry d.number last ∷ y.later))))))) in
        let by_a : goes.seen.0 ≡ (x.seen.0 ++ y.first) ++ entry a.number last ∷ y.later = subst (λ (i : ℕ). goes.seen.0 ≡ (x.seen.0 ++ y.first) ++ entry i last ∷ y.later) x.number parts in
        let later : own a.number y.later ≡ [] = subst (λ (i : ℕ). own i y.later ≡ []) x.number y.others in
        let at : state_before_last (moments s a.number m goes.seen.0) ≡ Some (configuration_after s m (x.seen.0 ++ y.first)).state =
        ap (λ (w : List Entry). state_before_last (moments s a.number m w)) by_a ∙ last_is_before s a.number m (x.seen.0 ++ y.first) y.later last later in
        let is : configuration_after s m (x.seen.0 ++ y.first) ≡ configuration_after s k y.first =
        after-append s m x.seen.0 y.first ∙ ap (λ (w : Configuration). configuration_after s w y.first) (sym (after-append s first_configuration a.seen x.seen.0) ∙ ap (configuration_of s) x.seen.1) in
        let here : IsCompact k.state = subst (λ (ps : List Entry). IsCompact (configuration_after s k ps).state) x.prepared (x.compact s qd) in
        let there : IsCompact (configuration_after s k y.first).state = compact_same (configuration_after s k y.first).state k.state o.0.back o.0.lfh here in
        subst (λ (w : Option State). In w IsCompact) (sym at) (subst (λ (w : Configuration). IsCompact w.state) (sym is) there)

    compacts : Compacts a.number number (moments s a.number (configuration_of s a.seen) goes.seen.0)
    compacts = record { pages = pages; acts_are = begin_state; spans_first = ap are_spans_first all_acts ∙ first; all = last_state; counted = count }

  pub compacted : Answers a e calls.Compact (Replied (replies.Compacted number)) (added ++ last ∷ [])
  compacted = record {
    table = goes.table;
    opening = goes.opening;
    number = goes.number;
    depth = goes.depth;
    roll = goes.roll;
    seen = goes.seen;
    own = own_grows a e (acts.Begin calls.Compact ∷ (added ++ last ∷ [])) goes na ready.prepared;
    answered = λ s q. record { one = (told s q).0; shape = compacts s q };
    legal = legal;
    ready = ready;
  }
