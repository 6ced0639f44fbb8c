-- The block that a call has found and taken: it is all that is in hand, and no longer than its place.
use Rattle.std.proofs.Common.{◌≡◌, ℕ, ◌*◌, ◌/◌, ◌≤◌, ◌&&◌, Bool, true, false, List, [], ◌∷◌, ◌++◌, map, Option, Some, refl, sym, ap, ◌∙◌, subst, eq-eqb, inl, inr}
use Rattle.std.specs.Prelude.{nat_le}
use Rattle.std.specs.List.{find, list_any}
use Rattle.std.proofs.lemmas.Bool.{cases_Bool, and_parts, and_from, false≢true}
use Rattle.heap_model.specs.declared.Act.{Act}
use Rattle.heap_model.specs.declared.Act.TheVariants as acts
use Rattle.heap_model.specs.declared.Call.TheVariants as calls
use Rattle.heap_model.specs.declared.Entry.{Entry}
use Rattle.heap_model.specs.declared.Flags.{Flags}
use Rattle.heap_model.specs.declared.Layer.{Layer}
use Rattle.heap_model.specs.declared.Layer.TheVariants as layers
use Rattle.heap_model.specs.Agreement.{AgreesFor, HasHomes}
use Rattle.heap_model.specs.Buckets.{block_size}
use Rattle.heap_model.specs.CallState.{Configuration, CallState, caller_view}
use Rattle.heap_model.specs.History.{own, configuration_of, configuration_after, first_configuration, may_all_follow}
use Rattle.heap_model.specs.Legal.{after, may_follow, may_touch, with_status, layer_of, on}
use Rattle.heap_model.specs.Moments.{moments, acts_of, In, Before}
use Rattle.heap_model.specs.Shape.{is_take}
use Rattle.heap_model.specs.State.{Setting, State, Place, Status, Live, InHand, is_layer, is_live, is_live_of, is_live_at, is_in_hand_of, in_hand, hands, places_of, place_at, room, change_found}
use Rattle.heap_model.proofs.GateSound.{row_of, gate_sound_after, gate_sound_first}
use Rattle.heap_model.proofs.Homes.{homes_act, place_found}
use Rattle.heap_model.proofs.ListLemmas.{for_some_parts}
use Rattle.heap_model.proofs.Moments.{moments_acts}
use Rattle.heap_model.proofs.Others.{agrees_others}
use Rattle.heap_soundness.specs.Sound.{IsOneOf, HasSoundSize, HasSoundSizes}
use Rattle.heap_soundness.proofs.Lists.{all_at, found_in}
use Rattle.heap_soundness.proofs.SizeLemmas.{sizes_act}
use Rattle.call_laws.specs.Within.{by_all}
use Rattle.call_laws.proofs.Told.{first_is_before}
use Rattle.claim_rule.specs.Entries.{IsLegalWith, IsSettingOf, entry}
use Rattle.claim_rule.proofs.Advance.{some_setting}
use Rattle.claim_rule.proofs.Lists.{after-append, follow_parts, legal_parts}
use Rattle.claim_rule.specs.Entries.{setting_of}
use Rattle.search_laws.proofs.Blocks.{whole_granules}
use Rattle.step_parts.specs.InHand.{HasBlock}
use Rattle.heap_gate.specs.Token.{Token, now}
use Rattle.lfh_claims.specs.declared.tag.Tag.{Tag}
use Rattle.lfh_claims.proofs.Hands.{homes_of, homes_behind}
use Rattle.call_parts.specs.Calls.{IsServing}
use Rattle.call_parts.proofs.Joining.{by_all-append, called_since, setting_before}
use Rattle.call_parts.proofs.Own.{call_from, call_from-append}
use Rattle.small_calls.proofs.Given.{ends_within}
use Rattle.stay_calls.specs.Stays.{IsTakenToMove, FindsFrontBlock}
use Rattle.stay_calls.proofs.Histories.{own_added}
use Rattle.move_parts.specs.Moves.{IsTaken}
use Rattle.move_taken.specs.Holds.{taken_place}
use Rattle.move_taken.specs.Laws.{TakenHolds}
use Rattle.move_taken.proofs.Alone.{is_taken}
use Rattle.move_taken.proofs.Before.{split_last, none_takes, still_unplaced}

---- Each live block suits its place, behind any legal list

sizes_from : (s : Setting) (m : Configuration) (es : List Entry) → may_all_follow s m es ≡ true → HasHomes m.state → HasSoundSizes m.state → HasSoundSizes (configuration_after s m es).state
sizes_from s m [] h homes z = z
sizes_from s m (e ∷ es) h homes z =
    let p = and_parts (may_follow s m e) (may_all_follow s (after s m e) es) h in
    sizes_from s (after s m e) es p.1 (homes_act m.state (m.now.calls e.caller) e.caller e.act homes) (sizes_act s m e.caller e.act (row_of s m e p.0) homes z)

---- Lists

changed_in : {A : Type 0} (test : A → Bool) (f : A → A) (xs : List A) (x : A) → find test xs ≡ Some x → IsOneOf (f x) (change_found test f xs)
changed_in test f [] x e = absurd (let bad : ⊥ = cc (e) in bad)
changed_in test f (y ∷ ys) x e = elim (cases_Bool (test y)) [
  | inl h ↦ let both : Some y ≡ Some x = rw h at e in let same : y ≡ x = cc in rw h (inl (ap f same))
  | inr h ↦ rw h (inr (changed_in test f ys x (rw h at e)))
]

hand_in : (c : ℕ) (x : Place) (ps : List Place) → is_in_hand_of c x.status ≡ true → IsOneOf x ps → IsOneOf x (in_hand c ps)
hand_in c x [] h i = absurd i
hand_in c x (y ∷ ys) h (inl e) = let g : is_in_hand_of c y.status ≡ true = ap (λ (z : Place). is_in_hand_of c z.status) e ∙ h in rw g (inl e)
hand_in c x (y ∷ ys) h (inr i) = elim (cases_Bool (is_in_hand_of c y.status)) [
  | inl g ↦ rw g (inr (hand_in c x ys h i))
  | inr g ↦ rw g (hand_in c x ys h i)
]

---- The entry

module _ (old new : Token) (addr size n : ℕ) (flags : Flags) (tag : Tag) (v : IsServing old (calls.Realloc addr n flags) []) (x : IsTakenToMove old new addr tag size n) (legal : IsLegalWith new.opening new.roll new.seen) where
  abbrev c : ℕ
  c = old.number

  abbrev take : Act
  take = acts.Take addr size

  own_new : own c x.added.goes.seen.0 ≡ by_all c x.looks ++ entry c take ∷ []
  own_new = own_added old new (x.looks ++ take ∷ []) x.added.goes v.prepared x.one.prepared x.added.goes.seen ∙ by_all-append c x.looks (take ∷ [])

  abbrev split : Rattle.move_taken.proofs.Before.IsSplit c x.added.goes.seen.0 (by_all c x.looks) (entry c take)
  split = split_last c x.added.goes.seen.0 (by_all c x.looks) (entry c take) own_new

  -- the configuration in which it came
  abbrev start : Setting → Configuration
  start s = configuration_of s old.seen

  abbrev met : Setting → Configuration
  met s = configuration_after s (start s) split.first

  module _ (s : Setting) (q : IsSettingOf new.opening new.roll s) where
    all_follow : may_all_follow s first_configuration (old.seen ++ (split.first ++ entry c take ∷ split.tail)) ≡ true
    all_follow = ap (λ (l : List Entry). may_all_follow s first_configuration (old.seen ++ l)) (sym split.is) ∙ (ap (may_all_follow s first_configuration) x.added.goes.seen.1 ∙ (legal_parts s new.seen (legal s q)).0)

    before : (may_all_follow s first_configuration old.seen ≡ true) × (may_all_follow s (start s) (split.first ++ entry c take ∷ split.tail) ≡ true)
    before = follow_parts s first_configuration old.seen (split.first ++ entry c take ∷ split.tail) all_follow

    behind : (may_all_follow s (start s) split.first ≡ true) × (may_all_follow s (met s) (entry c take ∷ split.tail) ≡ true)
    behind = follow_parts s (start s) split.first (entry c take ∷ split.tail) before.1

    step : (may_follow s (met s) (entry c take) ≡ true) × (may_all_follow s (after s (met s) (entry c take)) split.tail ≡ true)
    step = and_parts (may_follow s (met s) (entry c take)) (may_all_follow s (after s (met s) (entry c take)) split.tail) behind.1

    ---- The place that was taken

    row : (p : Place) × (place_at (met s).state c addr ≡ Some p) × ((may_touch (caller_view (met s) c) p.layer && is_live_of size p.status) ≡ true)
    row =
        for_some_parts (place_at (met s).state c addr) (λ p. may_touch (caller_view (met s) c) p.layer && is_live_of size p.status)
        (and_parts (caller_view (met s) c).entered _ (row_of s (met s) (entry c take) step.0)).1

    none_before : list_any is_take (acts_of (moments s c (start s) split.first)) ≡ false
    none_before = ap (list_any is_take) (moments_acts s c (start s) split.first ∙ (ap (map (λ e. e.act)) split.before ∙ acts_again c x.looks)) ∙ none_takes x.looks x.shape_is
      where
        acts_again : (k : ℕ) (xs : List Act) → map (λ e. e.act) (by_all k xs) ≡ xs
        acts_again k [] = refl
        acts_again k (y ∷ ys) = ap (λ (l : List Act). y ∷ l) (acts_again k ys)

    found : FindsFrontBlock old addr n s (met s).state
    found = subst (λ (o : Option State). In o (FindsFrontBlock old addr n s)) (first_is_before s c (start s) split.first split.tail take is_take refl none_before)
        (subst (λ (l : List Entry). Before is_take (FindsFrontBlock old addr n s) (moments s c (start s) l)) split.is (x.leaves s q))

    abbrev p : Place
    p = found.0

    front : p.layer ≡ layers.Lfh
    front = by p.layer found.1
      where
        by : (l : Layer) → is_layer l layers.Lfh ≡ true → l ≡ layers.Lfh
        by layers.Lfh h = refl
        by layers.Vs h = absurd (false≢true h)
        by layers.Back h = absurd (false≢true h)
        by layers.Large h = absurd (false≢true h)

    live : p.status ≡ Live size
    live =
        let both : Some row.0 ≡ Some p = sym row.1 ∙ found.2.0 in let same : row.0 ≡ p = cc in
        by p.status (ap (λ (y : Place). is_live_of size y.status) (sym same) ∙ (and_parts (may_touch (caller_view (met s) c) row.0.layer) (is_live_of size row.0.status) row.2).1)
      where
        by : (t : Status) → is_live_of size t ≡ true → t ≡ Live size
        by (Live k) h = ap Live (Rattle.std.proofs.lemmas.Bool.eqb-true k size h)
        by (InHand d) h = absurd (false≢true h)

    homes : HasHomes (met s).state
    homes = homes_behind s old.seen split.first

    in_front : find (is_live_at addr) (met s).state.lfh ≡ Some p
    in_front = subst (λ (l : Layer). find (is_live_at addr) (places_of (met s).state l) ≡ Some p) front (place_found (met s).state homes c addr p (ap is_live live) found.2.0)

    sizes : HasSoundSizes (met s).state
    sizes = sizes_from s (start s) split.first behind.0 (homes_of s old.seen) (sizes_from s first_configuration old.seen before.0 (record { lfh = tt; vs = tt; back = tt; large = tt }) (record { lfh = tt; vs = tt; back = tt; large = tt }))

    sound : (size ≤ 16 * p.granules) × (size ≤ 16368)
    sound =
        let z = all_at (λ (y : Place). HasSoundSize y y.status) p (met s).state.lfh sizes.lfh (found_in (is_live_at addr) (met s).state.lfh p in_front) in
        let at : HasSoundSize p (Live size) = subst (HasSoundSize p) live z in
        by p.layer front at
      where
        by : (l : Layer) → l ≡ layers.Lfh → (size ≤ room (record p { layer = l })) × Rattle.heap_soundness.specs.Sound.SuitsSize l p.granules size → (size ≤ 16 * p.granules) × (size ≤ 16368)
        by layers.Lfh e k = k
        by layers.Vs e k = absurd (Rattle.std.proofs.lemmas.Bool.false≢true (ap (λ (l : Layer). is_layer l layers.Lfh) e))
        by layers.Back e k = absurd (Rattle.std.proofs.lemmas.Bool.false≢true (ap (λ (l : Layer). is_layer l layers.Lfh) e))
        by layers.Large e k = absurd (Rattle.std.proofs.lemmas.Bool.false≢true (ap (λ (l : Layer). is_layer l layers.Lfh) e))

    ---- The place that is in hand

    abbrev k : Configuration
    k = after s (met s) (entry c take)

    last : AgreesFor c (now s new) k
    last =
        let gate = gate_sound_after s first_configuration old.seen before.0 gate_sound_first in
        let sound = gate_sound_after s (met s) (entry c take ∷ []) (and_from (may_follow s (met s) (entry c take)) true step.0 refl) (gate_sound_after s (start s) split.first behind.0 gate) in
        let others = agrees_others s k c split.tail split.behind step.1 sound in
        let all : configuration_of s new.seen ≡ configuration_after s k split.tail =
        ap (configuration_of s) (sym x.added.goes.seen.1 ∙ ap (λ (l : List Entry). old.seen ++ l) split.is)
        ∙ (after-append s first_configuration old.seen (split.first ++ entry c take ∷ split.tail) ∙ after-append s (start s) split.first (entry c take ∷ split.tail)) in
        let has : now s new ≡ configuration_after s k split.tail = ap (configuration_after s (configuration_of s new.seen)) x.one.prepared ∙ all in
        subst (λ (m : Configuration). AgreesFor c m k) (sym has) others

    block : HasBlock (now s new) c tag.bucket addr
    block = subst (λ (j : ℕ). HasBlock (now s new) j tag.bucket addr) x.added.goes.number (x.one.block s q)

    alone : (y : Place) × (hands (now s new).state c ≡ y ∷ [])
    alone = subst (λ (j : ℕ). (y : Place) × (hands (now s new).state j ≡ y ∷ [])) x.added.goes.number (x.one.alone s q)

    pub taken : IsTaken (now s new) c addr (taken_place tag.bucket addr c)
    taken = is_taken (now s new) c tag.bucket addr (homes_behind s new.seen new.prepared) block alone

    abbrev put : List Place → List Place
    put ps = change_found (is_live_at addr) (with_status (InHand c)) ps

    lists : k.state.lfh ≡ put (met s).state.lfh
    lists = ap (λ (o : Option Place). on layers.Lfh put (met s).state.lfh (layer_of o)) found.2.0 ∙ ap (λ (l : Layer). on layers.Lfh put (met s).state.lfh (Some l)) front

    in_now : IsOneOf (with_status (InHand c) p) (in_hand c (now s new).state.lfh)
    in_now =
        let i : IsOneOf (with_status (InHand c) p) k.state.lfh = subst (IsOneOf (with_status (InHand c) p)) (sym lists) (changed_in (is_live_at addr) (with_status (InHand c)) (met s).state.lfh p in_front) in
        subst (IsOneOf (with_status (InHand c) p)) (sym (last.hands layers.Lfh)) (hand_in c (with_status (InHand c) p) k.state.lfh (eq-eqb c c refl) i)

    granules : p.granules ≡ block_size tag.bucket / 16
    granules = by (subst (IsOneOf (with_status (InHand c) p)) (taken.hand layers.Lfh) in_now)
      where
        by : IsOneOf (with_status (InHand c) p) (taken_place tag.bucket addr c ∷ []) → p.granules ≡ block_size tag.bucket / 16
        by (inl e) = ap (λ (y : Place). y.granules) (sym e)
        by (inr i) = absurd i

    long : 16 * p.granules ≡ block_size tag.bucket
    long = ap (λ (g : ℕ). 16 * g) granules ∙ whole_granules tag.bucket

    pub fits : size ≤ block_size tag.bucket
    fits = subst (λ (g : ℕ). size ≤ g) long sound.0

    pub small : size ≤ 16368
    small = sound.1

    pub leaves : (nat_le n 16368 && nat_le n (block_size tag.bucket)) ≡ false
    leaves = ap (λ (g : ℕ). nat_le n 16368 && nat_le n g) (sym long) ∙ (sym (by p.layer front) ∙ found.2.1)
      where
        by : (l : Layer) → l ≡ layers.Lfh → Rattle.heap_model.specs.Stay.lets_stay_in s.limits (met s).state p n l ≡ (nat_le n 16368 && nat_le n (16 * p.granules))
        by l e = ap (Rattle.heap_model.specs.Stay.lets_stay_in s.limits (met s).state p n) e

    pub unplaced : ((now s new).now.calls c).placed ≡ false
    unplaced =
        let qo = setting_before old new (x.looks ++ take ∷ []) x.added.goes s q in
        let is = called_since s old new (x.looks ++ take ∷ []) x.added.goes (ap (Rattle.claim_rule.specs.Entries.is_by old.number) v.prepared) (ap (Rattle.claim_rule.specs.Entries.is_by new.number) x.one.prepared) in
        let k0 = (now s old).now.calls c in
        let all : (now s new).now.calls c ≡ call_from s c (call_from s c k0 (by_all c x.looks)) (by_all c (take ∷ [])) =
        (λ i. (now s new).now.calls (sym x.added.goes.number i)) ∙ (is ∙ (ap (call_from s c k0) (by_all-append c x.looks (take ∷ [])) ∙ call_from-append s c k0 (by_all c x.looks) (by_all c (take ∷ [])))) in
        ap (λ (y : CallState). y.placed) all ∙ still_unplaced s c k0 x.looks x.shape_is (v.is_new s qo).placed

pub taken_holds : TakenHolds
taken_holds old new addr size n flags tag v may_move x standing legal =
    let here = setting_of new.opening new.roll in let known = some_setting new.opening new.roll in
    let t = x.added.steady in
    record {
      block = record {
        inside = x.one.inside;
        whole = x.one.whole;
        begun = x.one.begun;
        hand = λ s q. subst (λ (j : ℕ). IsTaken (now s new) j addr (taken_place tag.bucket addr j)) (sym x.added.goes.number) (taken old new addr size n flags tag v x legal s q);
        fits = fits old new addr size n flags tag v x legal here known;
        small = small old new addr size n flags tag v x legal here known;
        read = x.read;
        number = x.number;
        ends = ends_within new tag.bucket addr x.one legal;
      };
      call_is = t.call ∙ v.call_is;
      fresh = t.fresh ∙ v.fresh;
      out_is = x.out;
      pending = x.pending;
      prepared = x.one.prepared;
      drawn = (t.searched ∙ v.searched) ∙ sym (t.drawn ∙ v.drawn);
      owes = t.owes ∙ v.owes;
      placed = λ s q. subst (λ (j : ℕ). ((now s new).now.calls j).placed ≡ false) (sym x.added.goes.number) (unplaced old new addr size n flags tag v x legal s q);
      may_move = may_move;
      leaves = leaves old new addr size n flags tag v x legal here known;
    }
