-- A new block in hand is zeroed and given.
use Rattle.std.proofs.Common.{◌≡◌, ◌≢◌, ℕ, zero, suc, ◌+◌, ◌/◌, ◌≤◌, ◌==◌, Bool, true, false, not, ◌&&◌, ◌||◌, List, [], ◌∷◌, ◌++◌, length, Option, Some, refl, sym, ap, ◌∙◌, subst, arith, eq-eqb, inl, inr}
use Rattle.std.specs.Prelude.{is_some}
use Rattle.std.specs.List.{find}
use Rattle.std.proofs.lemmas.Bool.{cases_Bool, and_from, and_right}
use Rattle.std.proofs.lemmas.List.{append-nil}
use Rattle.heap_model.specs.declared.Act.{Act}
use Rattle.heap_model.specs.declared.Act.TheVariants as acts
use Rattle.heap_model.specs.declared.Layer.{Layer}
use Rattle.heap_model.specs.declared.Layer.TheVariants as layers
use Rattle.heap_model.specs.declared.What.{What}
use Rattle.heap_model.specs.declared.What.TheVariants as whats
use Rattle.heap_model.specs.Geometry.{words_of}
use Rattle.heap_model.specs.Shape.{zeros}
use Rattle.heap_model.specs.Ranges.{vs_spans}
use Rattle.heap_model.specs.State.{Setting, State, BackPart, VsPart, Place, Live, InHand, hands, hand_at, in_hand, places_of, holds, is_layer, address, has_address, is_hand_at, is_in_hand_of, is_entered, change_found}
use Rattle.heap_model.specs.Stay.{for_some}
use Rattle.heap_model.specs.CallState.{Configuration, Nothing, caller_view}
use Rattle.heap_model.specs.Legal.{after, meets_demand, may_touch, suits, with_status, with_places, layer_of}
use Rattle.heap_model.specs.History.{configuration_after}
use Rattle.heap_model.specs.Agreement.{AgreesFor}
use Rattle.claim_rule.specs.Entries.{IsSettingOf, entry, is_of_lfh, may_prepare}
use Rattle.heap_gate.specs.Token.{Token, Always, now, IsStanding, is_out}
use Rattle.heap_gate.specs.Calls.{with_prepared, rested, HasRested}
use Rattle.data_words.specs.Clears.{clears}
use Rattle.call_parts.proofs.Joining.{setting_before}
use Rattle.call_parts.specs.Entries.{holding, HasNew, Zeroes, HasAdded, IsGiven, HasHandedOver}
use Rattle.call_parts.proofs.Tokens.{now_more, prepares, added_none, added_runs, added_one, added_rested, added_then}

---- Zeroing

-- what n alone has is so in k as it was in m: its locks, what is in its hand, and the layers that it holds
pub record IsKept (n : ℕ) (m k : Configuration) : Type 0 where
  pub locks : (w : What) → holds k.state.gate n w ≡ holds m.state.gate n w
  pub hand : (layer : Layer) → in_hand n (places_of k.state layer) ≡ in_hand n (places_of m.state layer)
  pub back : holds m.state.gate n whats.Back ≡ true → k.state.back ≡ m.state.back
  pub large : holds m.state.gate n whats.Large ≡ true → k.state.large ≡ m.state.large
  pub vs : holds m.state.gate n whats.Vs ≡ true → k.state.vs ≡ m.state.vs
  pub spans : holds m.state.gate n whats.Vs ≡ true → vs_spans k.state.back.area ≡ vs_spans m.state.back.area

kept_self : (n : ℕ) (m : Configuration) → IsKept n m m
kept_self n m = record { locks = λ w. refl; hand = λ l. refl; back = λ h. refl; large = λ h. refl; vs = λ h. refl; spans = λ h. refl }

-- stores change the words alone
stored : (s : Setting) (n : ℕ) (m k : Configuration) (word count : ℕ) → AgreesFor n k (configuration_after s m (clears n word count)) → IsKept n m k
stored s n m k word zero a = record { locks = a.locks; hand = a.hands; back = a.back; large = a.large; vs = a.vs; spans = a.spans }
stored s n m k word (suc count) a =
    let r = stored s n (after s m (entry n (acts.Store word 0))) k (word + 1) count a in
    record { locks = r.locks; hand = hand r; back = r.back; large = r.large; vs = r.vs; spans = r.spans }
  where
    hand : IsKept n (after s m (entry n (acts.Store word 0))) k → (layer : Layer) → in_hand n (places_of k.state layer) ≡ in_hand n (places_of m.state layer)
    hand r layers.Lfh = r.hand layers.Lfh
    hand r layers.Vs = r.hand layers.Vs
    hand r layers.Back = r.hand layers.Back
    hand r layers.Large = r.hand layers.Large

pub record HasZeroed (a b : Token) (word count : ℕ) (zero_it : Bool) : Type 0 where
  pub added : HasAdded a b (zeros zero_it word count)
  pub whole : b.whole ≡ true
  pub out_is : b.out ≡ a.out
  pub room : length b.prepared ≤ length a.prepared
  pub kept : Always b (λ s. IsKept a.number (now s a) (now s b))

as_it_was : (a b : Token) → a.whole ≡ true → b ≡ a → HasAdded a b [] × (b.whole ≡ true) × (b.out ≡ a.out) × (length b.prepared ≤ length a.prepared) × Always b (λ s. IsKept a.number (now s a) (now s b))
as_it_was a b w e =
    subst (λ (t : Token). HasAdded a t [] × (t.whole ≡ true) × (t.out ≡ a.out) × (length t.prepared ≤ length a.prepared) × Always t (λ s. IsKept a.number (now s a) (now s t))) (sym e)
    (added_none a, w, refl, omega arith, λ s q. kept_self a.number (now s a))

pub zeroed : (a b : Token) (word count : ℕ) (zero_it : Bool) → a.whole ≡ true → Zeroes a b word count zero_it → HasZeroed a b word count zero_it
zeroed a b word count false w e = let x = as_it_was a b w e in record { added = x.0; whole = x.1; out_is = x.2; room = x.3; kept = x.4 }
zeroed a b word zero true w e = let x = as_it_was a b w (e.none refl) in record { added = x.0; whole = x.1; out_is = x.2; room = x.3; kept = x.4 }
zeroed a b word (suc count) true w e =
    let some : suc count ≢ 0 = λ no. let bad : ⊥ = omega (arith, no) in bad in
    let r = e.runs some in let st = e.stands some in
    let x = added_runs a b (zeros true word (suc count)) r st in
    let none : length b.prepared ≡ 0 = ap length st.prepared in
    record {
      added = x;
      whole = st.whole;
      out_is = st.out;
      room = omega (arith, none);
      kept = λ s q. stored s a.number (now s a) (now s b) word (suc count) (r.agrees s q);
    }

---- Giving

abbrev pub new_place : ℕ → Layer → ℕ → ℕ → Place
new_place c layer start granules = record { start = start; granules = granules; layer = layer; status = InHand c }

-- it is such a place
pub as_new : (c : ℕ) (p : Place) → p.status ≡ InHand c → p ≡ new_place c p.layer p.start p.granules
as_new c p e = λ i. record { start = p.start; granules = p.granules; layer = p.layer; status = e i }

-- all that is in hand
pub hands_are : (st : State) (c : ℕ) (l : Layer) (start granules : ℕ) → ((layer : Layer) → in_hand c (places_of st layer) ≡ holding (new_place c l start granules) layer) → hands st c ≡ new_place c l start granules ∷ []
hands_are st c layers.Lfh start granules h = (λ i. h layers.Lfh i ++ h layers.Vs i ++ h layers.Back i ++ h layers.Large i)
hands_are st c layers.Vs start granules h = (λ i. h layers.Lfh i ++ h layers.Vs i ++ h layers.Back i ++ h layers.Large i)
hands_are st c layers.Back start granules h = (λ i. h layers.Lfh i ++ h layers.Vs i ++ h layers.Back i ++ h layers.Large i)
hands_are st c layers.Large start granules h = (λ i. h layers.Lfh i ++ h layers.Vs i ++ h layers.Back i ++ h layers.Large i)

-- the list with the one in hand given
abbrev pub give_in : ℕ → ℕ → ℕ → List Place → List Place
give_in c addr n ps = change_found (is_hand_at c addr) (with_status (Live n)) ps

given_hand : (c : ℕ) (l : Layer) (start granules n : ℕ) (ps : List Place) → in_hand c ps ≡ new_place c l start granules ∷ [] → in_hand c (give_in c (address (new_place c l start granules)) n ps) ≡ []
given_hand c l start granules n [] e = absurd (let bad : ⊥ = cc in bad)
given_hand c l start granules n (q ∷ qs) e = elim (cases_Bool (is_in_hand_of c q.status)) [
  | inl h ↦
      let both : q ∷ in_hand c qs ≡ new_place c l start granules ∷ [] = rw h at e in
      let same : q ≡ new_place c l start granules = cc in
      let rest : in_hand c qs ≡ [] = cc in
      let at : is_hand_at c (address (new_place c l start granules)) q ≡ true = and_from (has_address (address (new_place c l start granules)) q) (is_in_hand_of c q.status) (eq-eqb (address q) (address (new_place c l start granules)) (ap address same)) h in
      rw at rest
  | inr h ↦
      let off : is_hand_at c (address (new_place c l start granules)) q ≡ false = and_right (has_address (address (new_place c l start granules)) q) (is_in_hand_of c q.status) h in
      let rest = given_hand c l start granules n qs (rw h at e) in
      rw off (rw h rest)
]

-- the one in front is given
given_front : (c : ℕ) (l : Layer) (start granules n : ℕ) (ps : List Place) → give_in c (address (new_place c l start granules)) n (new_place c l start granules ∷ ps) ≡ with_status (Live n) (new_place c l start granules) ∷ ps
given_front c l start granules n ps =
    let a = eq-eqb (address (new_place c l start granules)) (address (new_place c l start granules)) refl in
    let b = eq-eqb c c refl in
    let at : is_hand_at c (address (new_place c l start granules)) (new_place c l start granules) ≡ true = and_from _ (c == c) a b in
    rw at refl

hands_given : (st : State) (c : ℕ) (l : Layer) (start granules n : ℕ) → ((layer : Layer) → in_hand c (places_of st layer) ≡ holding (new_place c l start granules) layer)
    → hands (with_places st (Some l) (give_in c (address (new_place c l start granules)) n)) c ≡ []
hands_given st c layers.Lfh start granules n h = let k = given_hand c layers.Lfh start granules n st.lfh (h layers.Lfh) in (λ i. k i ++ h layers.Vs i ++ h layers.Back i ++ h layers.Large i)
hands_given st c layers.Vs start granules n h = let k = given_hand c layers.Vs start granules n st.vs.places (h layers.Vs) in (λ i. h layers.Lfh i ++ k i ++ h layers.Back i ++ h layers.Large i)
hands_given st c layers.Back start granules n h = let k = given_hand c layers.Back start granules n st.back.places (h layers.Back) in (λ i. h layers.Lfh i ++ h layers.Vs i ++ k i ++ h layers.Large i)
hands_given st c layers.Large start granules n h = let k = given_hand c layers.Large start granules n st.large (h layers.Large) in (λ i. h layers.Lfh i ++ h layers.Vs i ++ h layers.Back i ++ k i)

back_given : (st : State) (c : ℕ) (l : Layer) (start granules n : ℕ) (ps : List Place) → l ≡ layers.Back → st.back.places ≡ new_place c l start granules ∷ ps
    → (with_places st (Some l) (give_in c (address (new_place c l start granules)) n)).back ≡ record { area = st.back.area; places = with_status (Live n) (new_place c l start granules) ∷ ps }
back_given st c layers.Back start granules n ps e p = ap (λ (qs : List Place). record { area = st.back.area; places = qs }) (ap (give_in c start n) p ∙ given_front c layers.Back start granules n ps)
back_given st c layers.Lfh start granules n ps e p = absurd (let bad : ⊥ = cc in bad)
back_given st c layers.Vs start granules n ps e p = absurd (let bad : ⊥ = cc in bad)
back_given st c layers.Large start granules n ps e p = absurd (let bad : ⊥ = cc in bad)

large_given : (st : State) (c : ℕ) (l : Layer) (start granules n : ℕ) (ps : List Place) → l ≡ layers.Large → st.large ≡ new_place c l start granules ∷ ps
    → (with_places st (Some l) (give_in c (address (new_place c l start granules)) n)).large ≡ with_status (Live n) (new_place c l start granules) ∷ ps
large_given st c layers.Large start granules n ps e p = ap (give_in c start n) p ∙ given_front c layers.Large start granules n ps
large_given st c layers.Lfh start granules n ps e p = absurd (let bad : ⊥ = cc in bad)
large_given st c layers.Vs start granules n ps e p = absurd (let bad : ⊥ = cc in bad)
large_given st c layers.Back start granules n ps e p = absurd (let bad : ⊥ = cc in bad)

vs_given : (st : State) (c : ℕ) (l : Layer) (start granules n : ℕ) (ps : List Place) → l ≡ layers.Vs → st.vs.places ≡ new_place c l start granules ∷ ps
    → (with_places st (Some l) (give_in c (address (new_place c l start granules)) n)).vs ≡ record { places = with_status (Live n) (new_place c l start granules) ∷ ps; active = st.vs.active; served = st.vs.served }
vs_given st c layers.Vs start granules n ps e p =
    ap (λ (qs : List Place). record { places = qs; active = st.vs.active; served = st.vs.served }) (ap (give_in c (start + 16) n) p ∙ given_front c layers.Vs start granules n ps)
vs_given st c layers.Lfh start granules n ps e p = absurd (let bad : ⊥ = cc in bad)
vs_given st c layers.Back start granules n ps e p = absurd (let bad : ⊥ = cc in bad)
vs_given st c layers.Large start granules n ps e p = absurd (let bad : ⊥ = cc in bad)

area_given : (st : State) (l : Layer) (f : List Place → List Place) → (with_places st (Some l) f).back.area ≡ st.back.area
area_given st l f = refl

-- the layers that are open stay so where the locks are as they were
same_touch : (m k : Configuration) (c : ℕ) (l : Layer) → ((w : What) → holds k.state.gate c w ≡ holds m.state.gate c w) → may_touch (caller_view k c) l ≡ may_touch (caller_view m c) l
same_touch m k c layers.Lfh e = refl
same_touch m k c layers.Vs e = e whats.Vs
same_touch m k c layers.Back e = e whats.Back
same_touch m k c layers.Large e = e whats.Large

touch_back : (m : Configuration) (c : ℕ) (l : Layer) → l ≡ layers.Back → may_touch (caller_view m c) l ≡ true → holds m.state.gate c whats.Back ≡ true
touch_back m c l e t = subst (λ (x : Layer). may_touch (caller_view m c) x ≡ true) e t

touch_vs : (m : Configuration) (c : ℕ) (l : Layer) → l ≡ layers.Vs → may_touch (caller_view m c) l ≡ true → holds m.state.gate c whats.Vs ≡ true
touch_vs m c l e t = subst (λ (x : Layer). may_touch (caller_view m c) x ≡ true) e t

touch_large : (m : Configuration) (c : ℕ) (l : Layer) → l ≡ layers.Large → may_touch (caller_view m c) l ≡ true → holds m.state.gate c whats.Large ≡ true
touch_large m c l e t = subst (λ (x : Layer). may_touch (caller_view m c) x ≡ true) e t

module _ (s : Setting) (m : Configuration) (c : ℕ) (l : Layer) (start granules n : ℕ) (front : is_layer l layers.Lfh ≡ false) (ent : is_entered m.state.gate c ≡ true) (beg : is_some (m.now.calls c).call ≡ true) (dem : m.now.demand ≡ Nothing)
    (hand : (layer : Layer) → in_hand c (places_of m.state layer) ≡ holding (new_place c l start granules) layer) (open_to : may_touch (caller_view m c) l ≡ true) (suit : suits n (new_place c l start granules) ≡ true) where
  abbrev p : Place
  p = new_place c l start granules

  abbrev give : Act
  give = acts.Give (address p) n

  found : hand_at m.state c (address p) ≡ Some p
  found = ap (find (has_address (address p))) (hands_are m.state c l start granules hand) ∙ (let e = eq-eqb (address p) (address p) refl in rw e refl)

  pub may_give_it : may_prepare s m c give ≡ true
  may_give_it = prepares s m c give refl (ap (λ (o : Option Place). not (is_of_lfh o)) found ∙ ap not front)
      (and_from (meets_demand m.state.back.area (entry c give) m.now.demand && (false || is_some (m.now.calls c).call)) _
      (and_from (meets_demand m.state.back.area (entry c give) m.now.demand) (false || is_some (m.now.calls c).call) (ap (meets_demand m.state.back.area (entry c give)) dem) beg)
      (and_from (is_entered m.state.gate c) _ ent
      (ap (λ (o : Option Place). for_some o (λ q. may_touch (caller_view m c) q.layer && suits n q)) found ∙ and_from (may_touch (caller_view m c) l) (suits n p) open_to suit)))

  state_is : (after s m (entry c give)).state ≡ with_places m.state (Some l) (give_in c (address p) n)
  state_is = ap (λ (o : Option Place). with_places m.state (layer_of o) (give_in c (address p) n)) found

  pub rests_then : HasRested (after s m (entry c give)) c
  rests_then = record { hands = ap (λ (st : State). hands st c) state_is ∙ hands_given m.state c l start granules n hand; demand = refl }

  pub given_then : IsGiven p n m (after s m (entry c give))
  given_then = record {
    back = λ ps e h. ap (λ (st : State). st.back) state_is ∙ back_given m.state c l start granules n ps e h;
    large = λ ps e h. ap (λ (st : State). st.large) state_is ∙ large_given m.state c l start granules n ps e h;
    vs = λ ps e h. ap (λ (st : State). st.vs) state_is ∙ vs_given m.state c l start granules n ps e h;
    spans = λ e. ap (λ (st : State). vs_spans st.back.area) state_is ∙ ap vs_spans (area_given m.state l (give_in c (address p) n));
  }

  pub back_beside : l ≡ layers.Vs → (after s m (entry c give)).state.back ≡ m.state.back
  back_beside vs = ap (λ (st : State). st.back) state_is ∙ ap (λ (k : Layer). (with_places m.state (Some k) (give_in c (address p) n)).back) vs

---- The token

module _ (a b : Token) (l : Layer) (start granules addr n word count : ℕ) (zero_it : Bool) (h : HasNew a (new_place a.number l start granules) addr n) (z : HasZeroed a b word count zero_it) (st : IsStanding b) where
  abbrev tp : Place
  tp = new_place a.number l start granules

  abbrev tgive : Act
  tgive = acts.Give (address tp) n

  before : (s : Setting) → IsSettingOf b.opening b.roll s → IsSettingOf a.opening a.roll s
  before s q = setting_before a b (zeros zero_it word count) z.added.goes s q

  number : b.number ≡ a.number
  number = z.added.goes.number

  entered_now : (s : Setting) → IsSettingOf b.opening b.roll s → is_entered (now s b).state.gate a.number ≡ true
  entered_now s q = subst (λ (x : ℕ). is_entered (now s b).state.gate x ≡ true) number ((st s q).entered ∙ (z.added.steady.inside ∙ h.inside))

  begun_now : (s : Setting) → IsSettingOf b.opening b.roll s → is_some ((now s b).now.calls a.number).call ≡ true
  begun_now s q = subst (λ (x : ℕ). is_some ((now s b).now.calls x).call ≡ true) number (ap is_some ((st s q).call ∙ z.added.steady.call) ∙ h.begun)

  hand_now : (s : Setting) → IsSettingOf b.opening b.roll s → (layer : Layer) → in_hand a.number (places_of (now s b).state layer) ≡ holding tp layer
  hand_now s q layer = (z.kept s q).hand layer ∙ h.hand s (before s q) layer

  open_now : (s : Setting) → IsSettingOf b.opening b.roll s → may_touch (caller_view (now s b) a.number) l ≡ true
  open_now s q = same_touch (now s a) (now s b) a.number l (z.kept s q).locks ∙ h.open_to s (before s q)

  pub give_may : Always b (λ s. may_prepare s (now s b) b.number tgive ≡ true)
  give_may s q = subst (λ (x : ℕ). may_prepare s (now s b) x tgive ≡ true) (sym number)
      (may_give_it s (now s b) a.number l start granules n h.behind (entered_now s q) (begun_now s q) ((st s q).demand z.whole) (hand_now s q) (open_now s q) h.suits_it)

  abbrev pub given_token : Token
  given_token = with_prepared b tgive

  after_is : (s : Setting) → now s given_token ≡ after s (now s b) (entry a.number tgive)
  after_is s = now_more s b tgive ∙ ap (λ (x : ℕ). after s (now s b) (entry x tgive)) number

  pub give_rests : Always given_token (λ s. HasRested (now s given_token) given_token.number)
  give_rests s q = subst (λ (x : ℕ). HasRested (now s given_token) x) (sym number) (subst (λ (m : Configuration). HasRested m a.number) (sym (after_is s))
      (rests_then s (now s b) a.number l start granules n h.behind (entered_now s q) (begun_now s q) ((st s q).demand z.whole) (hand_now s q) (open_now s q) h.suits_it))

  given_now : (s : Setting) → IsSettingOf b.opening b.roll s → IsGiven tp n (now s a) (now s given_token)
  given_now s q =
      let m = now s a in
      let y = given_then s (now s b) a.number l start granules n h.behind (entered_now s q) (begun_now s q) ((st s q).demand z.whole) (hand_now s q) (open_now s q) h.suits_it in
      let kept = z.kept s q in
      let touch = h.open_to s (before s q) in
      record {
        back = λ ps e f.
            let same : (now s b).state.back ≡ m.state.back = kept.back (touch_back m a.number l e touch) in
            ap (λ (k : Configuration). k.state.back) (after_is s) ∙ (y.back ps e (ap (λ (x : BackPart). x.places) same ∙ f) ∙ ap (λ (x : BackPart). record { area = x.area; places = with_status (Live n) tp ∷ ps }) same);
        large = λ ps e f.
            let same : (now s b).state.large ≡ m.state.large = kept.large (touch_large m a.number l e touch) in
            ap (λ (k : Configuration). k.state.large) (after_is s) ∙ y.large ps e (same ∙ f);
        vs = λ ps e f.
            let same : (now s b).state.vs ≡ m.state.vs = kept.vs (touch_vs m a.number l e touch) in
            ap (λ (k : Configuration). k.state.vs) (after_is s)
            ∙ (y.vs ps e (ap (λ (x : VsPart). x.places) same ∙ f) ∙ ap (λ (x : VsPart). record { places = with_status (Live n) tp ∷ ps; active = x.active; served = x.served }) same);
        spans = λ e. ap (λ (k : Configuration). vs_spans k.state.back.area) (after_is s) ∙ (y.spans e ∙ kept.spans (touch_vs m a.number l e touch));
      }

  -- what the lock of the back end guards is left alone by a block of VS
  back_kept : l ≡ layers.Vs → is_out whats.Back a.out ≡ true → Always given_token (λ s. (now s given_token).state.back ≡ (now s a).state.back)
  back_kept vs out s q =
      let kept = z.kept s q in
      let held_b : holds (now s b).state.gate a.number whats.Back ≡ true =
      subst (λ (x : ℕ). holds (now s b).state.gate x whats.Back ≡ true) number ((st s q).locks whats.Back ∙ (ap (is_out whats.Back) z.out_is ∙ out)) in
      ap (λ (k : Configuration). k.state.back) (after_is s)
      ∙ (back_beside s (now s b) a.number l start granules n h.behind (entered_now s q) (begun_now s q) ((st s q).demand z.whole) (hand_now s q) (open_now s q) h.suits_it vs ∙ kept.back (sym (kept.locks whats.Back) ∙ held_b))

  pub handed_over : word ≡ addr / 8 → count ≡ words_of n → HasHandedOver a (rested given_token) tp n zero_it
  handed_over ew ec =
      let given = added_then a b given_token (zeros zero_it word count) (tgive ∷ []) z.added (added_one b tgive refl) in
      let rest = added_then a given_token (rested given_token) (zeros zero_it word count ++ tgive ∷ []) [] given (added_rested given_token) in
      let all = subst (HasAdded a (rested given_token)) (append-nil (zeros zero_it word count ++ tgive ∷ [])) rest in
      let from : word ≡ address tp / 8 = ew ∙ ap (λ (x : ℕ). x / 8) (sym h.at) in
      record {
        added = subst (λ (x : ℕ × ℕ). HasAdded a (rested given_token) (zeros zero_it x.0 x.1 ++ tgive ∷ [])) (λ i. (from i, ec i)) all;
        out_is = z.out_is;
        whole = refl;
        free = refl;
        given = λ s q. given_now s q;
        kept_back = λ vs out s q. back_kept vs out s q;
      }
