-- Lists of loads and stores: what they leave to their caller, and how they join.
use Rattle.std.proofs.Common.{◌≡◌, ℕ, ◌+◌, List, [], ◌∷◌, ◌++◌, length, refl, sym, ap, ◌∙◌, subst, append_assoc, arith}
use Rattle.heap_model.specs.declared.Act.TheVariants as acts
use Rattle.heap_model.specs.declared.Entry.{Entry}
use Rattle.heap_model.specs.declared.Opening.{Opening}
use Rattle.heap_model.specs.State.{Setting, hands, updated}
use Rattle.heap_model.specs.CallState.{Configuration, CallState}
use Rattle.heap_model.specs.Legal.{after}
use Rattle.heap_model.specs.History.{configuration_after, own}
use Rattle.heap_model.specs.Agreement.{AgreesFor}
use Rattle.heap_model.proofs.Others.{agrees_trans}
use Rattle.claim_rule.specs.Entries.{IsSettingOf, entry}
use Rattle.claim_rule.proofs.Lists.{after-append, prefix_trans, setting_less}
use Rattle.heap_gate.specs.Token.{Token, now}
use Rattle.heap_gate.specs.Calls.{Does, Runs, Stands, stance}
use Rattle.data_words.specs.Copies.{copies, IsCopied}

---- What loads and stores leave

-- the list has loads and stores of n alone
pub data AreData (n : ℕ) : List Entry → Type 0 where
  none : AreData n []
  load : (w v : ℕ) (es : List Entry) → AreData n es → AreData n (entry n (acts.Load w v) ∷ es)
  store : (w v : ℕ) (es : List Entry) → AreData n es → AreData n (entry n (acts.Store w v) ∷ es)

module _ (s : Setting) (n : ℕ) (m k : Configuration) (r : AgreesFor n m k) where
  own_call : (x y : CallState) → x ≡ y → updated m.now.calls n x n ≡ updated k.now.calls n y n
  own_call x y e = let h = Rattle.std.proofs.Common.eq-eqb n n refl in rw h e

  load_agrees : (w v : ℕ) → AgreesFor n (after s m (entry n (acts.Load w v))) (after s k (entry n (acts.Load w v)))
  load_agrees w v = record {
    counted = r.counted;
    turning = r.turning;
    owner = r.owner;
    locks = r.locks;
    call = own_call (m.now.calls n) (k.now.calls n) r.call;
    hands = r.hands;
    active = r.active;
    vs = r.vs;
    spans = r.spans;
    back = r.back;
    span_history = r.span_history;
    large = r.large;
    owned = λ o. let h = r.owned o in record { back = h.back; vs = h.vs; lfh = h.lfh; large = h.large; words = h.words; span_history = h.span_history };
  }

  store_agrees : (w v : ℕ) → AgreesFor n (after s m (entry n (acts.Store w v))) (after s k (entry n (acts.Store w v)))
  store_agrees w v = record {
    counted = r.counted;
    turning = r.turning;
    owner = r.owner;
    locks = r.locks;
    call = own_call (m.now.calls n) (k.now.calls n) r.call;
    hands = hand;
    active = r.active;
    vs = r.vs;
    spans = r.spans;
    back = r.back;
    span_history = r.span_history;
    large = r.large;
    owned = λ o. let h = r.owned o in record { back = h.back; vs = h.vs; lfh = h.lfh; large = h.large; words = ap (λ (f : ℕ → ℕ). updated f w v) h.words; span_history = h.span_history };
  }
    where
      hand : (l : Rattle.heap_model.specs.declared.Layer.Layer) → Rattle.heap_model.specs.State.in_hand n (Rattle.heap_model.specs.State.places_of (after s m (entry n (acts.Store w v))).state l) ≡ Rattle.heap_model.specs.State.in_hand n (Rattle.heap_model.specs.State.places_of (after s k (entry n (acts.Store w v))).state l)
      hand Rattle.heap_model.specs.declared.Layer.TheVariants.Lfh = r.hands Rattle.heap_model.specs.declared.Layer.TheVariants.Lfh
      hand Rattle.heap_model.specs.declared.Layer.TheVariants.Vs = r.hands Rattle.heap_model.specs.declared.Layer.TheVariants.Vs
      hand Rattle.heap_model.specs.declared.Layer.TheVariants.Back = r.hands Rattle.heap_model.specs.declared.Layer.TheVariants.Back
      hand Rattle.heap_model.specs.declared.Layer.TheVariants.Large = r.hands Rattle.heap_model.specs.declared.Layer.TheVariants.Large

-- what n alone decides is so behind them, where it was so before
pub data_agrees : (s : Setting) (n : ℕ) (m k : Configuration) (es : List Entry) → AreData n es → AgreesFor n m k → AgreesFor n (configuration_after s m es) (configuration_after s k es)
data_agrees s n m k [] none r = r
data_agrees s n m k (e ∷ es) (load w v xs d) r = data_agrees s n (after s m e) (after s k e) es d (load_agrees s n m k r w v)
data_agrees s n m k (e ∷ es) (store w v xs d) r = data_agrees s n (after s m e) (after s k e) es d (store_agrees s n m k r w v)

---- How they join

pub does_then : (a b c : Token) (xs ys : List Entry) → Does a b xs → Does b c ys → Does a c (xs ++ ys)
does_then a b c xs ys x y = record {
  table = y.table ∙ x.table;
  opening = y.opening ∙ x.opening;
  number = y.number ∙ x.number;
  roll = prefix_trans a.roll b.roll c.roll x.roll y.roll;
  seen = prefix_trans a.seen b.seen c.seen x.seen y.seen;
  own = subst (λ (n : ℕ). own n c.seen ≡ own n b.seen ++ (b.prepared ++ ys)) x.number y.own
      ∙ (ap (λ (l : List Entry). own a.number b.seen ++ (l ++ ys)) x.prepared
      ∙ (ap (λ (l : List Entry). l ++ ys) x.own ∙ (append_assoc (own a.number a.seen) (a.prepared ++ xs) ys ∙ ap (λ (l : List Entry). own a.number a.seen ++ l) (append_assoc a.prepared xs ys))));
  prepared = y.prepared;
  legal = y.legal;
}

pub runs_then : (a b c : Token) (xs ys : List Entry) → AreData a.number ys → Runs a b xs → Runs b c ys → Runs a c (xs ++ ys)
runs_then a b c xs ys d x y = record {
  does = does_then a b c xs ys x.does y.does;
  agrees = λ s q.
      let q1 = before s q in
      let first : AgreesFor a.number (configuration_after s (now s b) ys) (configuration_after s (configuration_after s (now s a) xs) ys) = data_agrees s a.number (now s b) (configuration_after s (now s a) xs) ys d (x.agrees s q1) in
      let second = subst (λ (n : ℕ). AgreesFor n (now s c) (configuration_after s (now s b) ys)) x.does.number (y.agrees s q) in
      subst (AgreesFor a.number (now s c)) (sym (after-append s (now s a) xs ys)) (agrees_trans a.number (now s c) (configuration_after s (now s b) ys) (configuration_after s (configuration_after s (now s a) xs) ys) second first);
  hands = λ s q. subst (λ (n : ℕ). hands (now s c).state n ≡ hands (now s b).state n) x.does.number (y.hands s q) ∙ x.hands s (before s q);
}
  where
    before : (s : Setting) → IsSettingOf c.opening c.roll s → IsSettingOf b.opening b.roll s
    before s q = setting_less b.opening b.roll c.roll s y.does.roll (subst (λ (o : Opening). IsSettingOf o c.roll s) y.does.opening q)

---- Copies

-- one word more at the end
copies_more : (n from to v : ℕ) (vs : List ℕ) → copies n from to (vs ++ v ∷ []) ≡ copies n from to vs ++ entry n (acts.Load (from + length vs) v) ∷ entry n (acts.Store (to + length vs) v) ∷ []
copies_more n from to v [] =
    let a : from + 0 ≡ from = omega arith in let b : to + 0 ≡ to = omega arith in
    λ j. entry n (acts.Load (sym a j) v) ∷ entry n (acts.Store (sym b j) v) ∷ []
copies_more n from to v (x ∷ xs) =
    let a : from + 1 + length xs ≡ from + length (x ∷ xs) = omega arith in let b : to + 1 + length xs ≡ to + length (x ∷ xs) = omega arith in
    ap (λ (l : List Entry). entry n (acts.Load from x) ∷ entry n (acts.Store to x) ∷ l) (copies_more n (from + 1) (to + 1) v xs
    ∙ (λ j. copies n (from + 1) (to + 1) xs ++ entry n (acts.Load (a j) v) ∷ entry n (acts.Store (b j) v) ∷ []))

pub stands_then : (a b c : Token) → Stands b (stance a) → Stands c (stance b) → Stands c (stance a)
stands_then a b c x y = record {
  call = y.call ∙ x.call;
  fresh = y.fresh ∙ x.fresh;
  locked = y.locked ∙ x.locked;
  inside = y.inside ∙ x.inside;
  depth = y.depth ∙ x.depth;
  out = y.out ∙ x.out;
  owes = y.owes ∙ x.owes;
  free = y.free ∙ x.free;
  searches = y.searches ∙ x.searches;
  searched = y.searched ∙ x.searched;
  drawn = y.drawn ∙ x.drawn;
  whole = y.whole;
  pending = y.pending;
  prepared = y.prepared;
}

-- a load and a store of its value
abbrev pub one : ℕ → ℕ → ℕ → ℕ → List Entry
one n from to v = entry n (acts.Load from v) ∷ entry n (acts.Store to v) ∷ []

one_is : (n from to v : ℕ) → AreData n (one n from to v)
one_is n from to v = load from v (entry n (acts.Store to v) ∷ []) (store to v [] none)

pub loaded_and_stored : (a b c : Token) (from to v : ℕ) → Runs a b (entry a.number (acts.Load from v) ∷ []) → Runs b c (entry b.number (acts.Store to v) ∷ []) → Runs a c (one a.number from to v)
loaded_and_stored a b c from to v x y =
    runs_then a b c (entry a.number (acts.Load from v) ∷ []) (entry a.number (acts.Store to v) ∷ []) (store to v [] none) x (subst (λ (n : ℕ). Runs b c (entry n (acts.Store to v) ∷ [])) x.does.number y)

-- one word more was copied
pub copied_more : (a b c : Token) (from to v : ℕ) (vs : List ℕ) → IsCopied a b from to vs → Runs b c (one b.number (from + length vs) (to + length vs) v) → Stands c (stance b) → IsCopied a c from to (vs ++ v ∷ [])
copied_more a b c from to v [] x y z =
    let e : from + 0 ≡ from = omega arith in let g : to + 0 ≡ to = omega arith in
    subst (λ (t : Token). Runs t c (one t.number from to v) × Stands c (stance t)) x (subst (λ (p : ℕ × ℕ). Runs b c (one b.number p.0 p.1 v)) (λ j. (e j, g j)) y, z)
copied_more a b c from to v (u ∷ us) x y z =
    let vs : List ℕ = u ∷ us in
    let y1 = subst (λ (n : ℕ). Runs b c (one n (from + length vs) (to + length vs) v)) x.0.does.number y in
    (subst (Runs a c) (sym (copies_more a.number from to v vs)) (runs_then a b c (copies a.number from to vs) (one a.number (from + length vs) (to + length vs) v) (one_is a.number (from + length vs) (to + length vs) v) x.0 y1), stands_then a b c x.1 z)
