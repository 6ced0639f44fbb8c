-- What a caller relies on: its prepared entries may come behind whatever others did meanwhile.
use Rattle.std.proofs.Common.{◌≡◌, ℕ, Bool, true, false, ◌&&◌, not, List, [], ◌∷◌, refl, sym, ap, ◌∙◌, subst, eqb}
use Rattle.std.proofs.lemmas.Bool.{and_parts, and_from, eqb-true, false≢true}
use Rattle.heap_model.specs.declared.Act.{Act}
use Rattle.heap_model.specs.declared.Act.TheVariants as acts
use Rattle.heap_model.specs.declared.Entry.{Entry}
use Rattle.heap_model.specs.declared.Layer.{Layer}
use Rattle.heap_model.specs.declared.Layer.TheVariants as layers
use Rattle.heap_model.specs.declared.What.TheVariants as whats
use Rattle.heap_model.specs.State.{State, BackPart, VsPart, Setting, Place, places_of}
use Rattle.heap_model.specs.CallState.{Configuration, caller_view, CallerView}
use Rattle.heap_model.specs.Legal.{may_follow, after, demand_after, may_touch, has_live, may_not_be_live}
use Rattle.heap_model.specs.History.{configuration_after, may_all_follow, own}
use Rattle.heap_model.specs.Agreement.{AgreesFor, GateIsSound, is_stable, reveals_nothing, is_prepared, revealed}
use Rattle.heap_model.proofs.GateSound.{row_of}
use Rattle.heap_model.proofs.Others.{agrees_others}
use Rattle.heap_model.proofs.Stable.{caller_view_same, stable_follows}
use Rattle.heap_model.proofs.Own.{act_agrees, demand_same}

-- what c alone decides opens nothing to it
reveals_nothing_if_stable : (m : Configuration) (c : ℕ) (act : Act) → is_stable m c act ≡ true → reveals_nothing m c act ≡ true
reveals_nothing_if_stable m c (acts.Take a size) h = h
reveals_nothing_if_stable m c (acts.Resize a granules size) h = h
reveals_nothing_if_stable m c (acts.TakeLock what) h = absurd (false≢true h)
reveals_nothing_if_stable m c acts.Lock h = absurd (false≢true h)
reveals_nothing_if_stable m c _ h = refl

-- Prepared entries that may follow in n, where their caller prepared them, may follow in each m that agrees with n on what it alone decides.
pub agrees_prepared : (s : Setting) (c : ℕ) (m n : Configuration) (es : List Entry) → AgreesFor c m n → m.now.demand ≡ n.now.demand → is_prepared s n c es ≡ true → may_all_follow s n es ≡ true →
    (may_all_follow s m es ≡ true) × AgreesFor c (configuration_after s m es) (configuration_after s n es) × ((configuration_after s m es).now.demand ≡ (configuration_after s n es).now.demand)
agrees_prepared s c m n [] r d p h = (refl, r, d)
agrees_prepared s c m n (e ∷ es) r d p h =
    let p1 = and_parts (eqb e.caller c && is_stable n c e.act) (is_prepared s (after s n e) c es) p in
    let p2 = and_parts (eqb e.caller c) (is_stable n c e.act) p1.0 in
    let h1 = and_parts (may_follow s n e) (may_all_follow s (after s n e) es) h in
    let is : c ≡ e.caller = sym (eqb-true e.caller c p2.0) in
    let here = step e is p2.1 h1.0 in
    let rest = agrees_prepared s c (after s m e) (after s n e) es here.1 here.2 p1.1 h1.1 in
    (and_from (may_follow s m e) (may_all_follow s (after s m e) es) here.0 rest.0, rest.1, rest.2)
  where
    own_step : (act : Act) → is_stable n c act ≡ true → may_follow s n (record { caller = c; act = act }) ≡ true →
        (may_follow s m (record { caller = c; act = act }) ≡ true) × AgreesFor c (after s m (record { caller = c; act = act })) (after s n (record { caller = c; act = act })) × (demand_after m.state c act ≡ demand_after n.state c act)
    own_step act w h =
        let f = stable_follows s c m n r act d w h in
        (f, act_agrees s c m n r act (row_of s m (record { caller = c; act = act }) f) (reveals_nothing_if_stable n c act w), demand_same s c m n r act)

    step : (e : Entry) → c ≡ e.caller → is_stable n c e.act ≡ true → may_follow s n e ≡ true →
        (may_follow s m e ≡ true) × AgreesFor c (after s m e) (after s n e) × ((after s m e).now.demand ≡ (after s n e).now.demand)
    step e is = subst (λ (x : ℕ). is_stable n c e.act ≡ true → may_follow s n (record { caller = x; act = e.act }) ≡ true →
        (may_follow s m (record { caller = x; act = e.act }) ≡ true) × AgreesFor c (after s m (record { caller = x; act = e.act })) (after s n (record { caller = x; act = e.act })) × (demand_after m.state x e.act ≡ demand_after n.state x e.act)) is (own_step e.act)

-- A caller that is shown the heap agrees with it.
pub agrees_revealed : (c : ℕ) (m n : Configuration) → AgreesFor c m n → AgreesFor c m (revealed m n)
agrees_revealed c m n r = record { counted = r.counted; turning = r.turning; owner = r.owner; locks = r.locks; call = r.call; hands = λ l. hand l; active = λ b h. h; vs = λ _. refl; spans = λ _. refl; back = λ _. refl; span_history = λ _. refl; large = λ _. refl; owned = λ _. record { back = refl; vs = refl; lfh = refl; large = refl; words = refl; span_history = refl } }
  where
    hand : (l : Layer) → Rattle.heap_model.specs.State.in_hand c (places_of m.state l) ≡ Rattle.heap_model.specs.State.in_hand c (places_of (revealed m n).state l)
    hand layers.Lfh = refl
    hand layers.Vs = refl
    hand layers.Back = refl
    hand layers.Large = refl

---- No live place has the address

abbrev pub is_closed : CallerView → Layer → Bool
is_closed k layers.Lfh = true
is_closed k l = not (may_touch k l)

-- NotLive may follow in m, where it may in n, if the layers whose lock c has not have no live place there.
pub not_live : (s : Setting) (c : ℕ) (m n : Configuration) (a : ℕ) → AgreesFor c m n → may_not_be_live n.state (caller_view n c) a ≡ true →
    ((l : Layer) → is_closed (caller_view m c) l ≡ true → has_live (places_of m.state l) a ≡ false) → may_not_be_live m.state (caller_view m c) a ≡ true
not_live s c m n a r h closed =
    let row : may_not_be_live n.state (caller_view m c) a ≡ true = subst (λ (k : CallerView). may_not_be_live n.state k a ≡ true) (sym (caller_view_same c m n r)) h in
    let p4 = and_parts _ (not (has_live n.state.large a)) row in
    let p3 = and_parts _ (not (has_live n.state.back.places a)) p4.0 in
    let p2 = and_parts _ (not (has_live n.state.vs.places a)) p3.0 in
    let p1 = and_parts (caller_view m c).entered (not (has_live n.state.lfh a)) p2.0 in
    and_from _ (not (has_live m.state.large a))
    (and_from _ (not (has_live m.state.back.places a))
    (and_from _ (not (has_live m.state.vs.places a))
    (and_from (caller_view m c).entered (not (has_live m.state.lfh a)) p1.0 (none m.state.lfh (closed layers.Lfh refl)))
    (by_lock (caller_view m c).vs m.state.vs.places n.state.vs.places (λ e. ap (λ (v : VsPart). v.places) (r.vs (sym (r.locks whats.Vs) ∙ e))) (λ e. closed layers.Vs (ap not e)) p2.1))
    (by_lock (caller_view m c).back m.state.back.places n.state.back.places (λ e. ap (λ (b : BackPart). b.places) (r.back (sym (r.locks whats.Back) ∙ e))) (λ e. closed layers.Back (ap not e)) p3.1))
    (by_lock (caller_view m c).large m.state.large n.state.large (λ e. r.large (sym (r.locks whats.Large) ∙ e)) (λ e. closed layers.Large (ap not e)) p4.1)
  where
    none : (ps : List Place) → has_live ps a ≡ false → not (has_live ps a) ≡ true
    none ps e = ap not e

    by_lock : (b : Bool) (ps qs : List Place) → (b ≡ true → ps ≡ qs) → (b ≡ false → has_live ps a ≡ false) → not (has_live qs a) ≡ true → not (has_live ps a) ≡ true
    by_lock true ps qs f g e = ap (λ (xs : List Place). not (has_live xs a)) (f refl) ∙ e
    by_lock false ps qs f g e = none ps (g refl)

---- A step's prepared entries, behind what others did meanwhile

-- What c prepared in m it may add behind the entries es of others, and knows the rest from what it knew.
pub carried : (s : Setting) (m : Configuration) (c : ℕ) (es ps : List Entry) → own c es ≡ [] → may_all_follow s m es ≡ true → GateIsSound m.state.gate →
    (configuration_after s m es).now.demand ≡ m.now.demand → is_prepared s m c ps ≡ true → may_all_follow s m ps ≡ true →
    (may_all_follow s (configuration_after s m es) ps ≡ true) × AgreesFor c (configuration_after s (configuration_after s m es) ps) (configuration_after s m ps)
carried s m c es ps o l g d p h =
    let r = agrees_prepared s c (configuration_after s m es) m ps (agrees_others s m c es o l g) d p h in
    (r.0, r.1)
