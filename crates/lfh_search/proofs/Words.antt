-- What the acts of a search leave to the caller that knows how its search stands.
use Rattle.std.proofs.Common.{◌≡◌, ℕ, ◌+◌, ◌*◌, true, List, [], ◌∷◌, ◌++◌, Option, refl, sym, ap, ◌∙◌, subst}
use Rattle.std.specs.Prelude.{unwrap_or}
use Rattle.std.proofs.lemmas.Bool.{false≢true}
use Rattle.std.proofs.lemmas.List.{append-nil}
use Rattle.heap_model.specs.declared.Act.{Act}
use Rattle.heap_model.specs.declared.Act.TheVariants as acts
use Rattle.heap_model.specs.declared.What.TheVariants as whats
use Rattle.heap_model.specs.State.{State, Setting, holds}
use Rattle.heap_model.specs.CallState.{Configuration, Search}
use Rattle.heap_model.specs.Legal.{after}
use Rattle.heap_model.specs.History.{configuration_after}
use Rattle.claim_rule.specs.Entries.{IsSettingOf, setting_of, entry}
use Rattle.claim_rule.specs.Shown.{hint_word, owed_or}
use Rattle.claim_rule.proofs.Advance.{some_setting}
use Rattle.heap_gate.specs.Token.{Token, now, Always, is_out}
use Rattle.heap_gate.specs.Calls.{Runs}
use Rattle.lfh_claims.specs.Search.{sought, own_slot, own_hint}
use Rattle.lfh_search.specs.Acts.{by, is_reading, AreReadings, after_acts}
use Rattle.lfh_search.specs.Standing.{key, IsSearching}
use Rattle.lfh_search.specs.Results.{Searches, Went}
use Rattle.lfh_search.specs.Readings.{KnowsHint, HasHint}
use Rattle.lfh_search.proofs.Steps.{searching_same, searching_after, earlier, runs_then, by-append}

---- What it knows of its bucket and its slot

module _ (c : Token) (b d : ℕ) (f : Search) (h : Searches c b d f) where
  pub sought_is : sought c ≡ b
  sought_is = ap (λ (o : Option ℕ). unwrap_or o 0) (h (setting_of c.opening c.roll) (some_setting c.opening c.roll)).seeks

---- Readings leave the state

pub left : (s : Setting) (n : ℕ) (its : List Act) (m : Configuration) → AreReadings its → ((configuration_after s m (by n its)).state ≡ m.state) × ((configuration_after s m (by n its)).now.span_history ≡ m.now.span_history)
left s n [] m are = (refl, refl)
left s n (act ∷ rest) m are =
    let e = one act are.0 in
    let k = left s n rest (after s m (entry n act)) are.1 in
    (k.0 ∙ e.0, k.1 ∙ e.1)
  where
    one : (act : Act) → is_reading act ≡ true → ((after s m (entry n act)).state ≡ m.state) × ((after s m (entry n act)).now.span_history ≡ m.now.span_history)
    one (acts.Saw head word bits) i = (refl, refl)
    one (acts.Lost head index) i = (refl, refl)
    one (acts.NoHint bucket slot) i = (refl, refl)
    one _ i = absurd (false≢true i)

---- Behind readings

module _ (c e : Token) (its : List Act) (are : AreReadings its) (r : Runs c e (by c.number its)) where
  pub before : (s : Setting) → IsSettingOf e.opening e.roll s → IsSettingOf c.opening c.roll s
  before = earlier c e (by c.number its) r.does

  module _ (b d : ℕ) (f : Search) (h : Searches c b d f) where
    here : (s : Setting) → IsSettingOf e.opening e.roll s → IsSearching s (now s e) e.number b (own_slot c) d (after_acts (key b (own_slot c) d) f its)
    here s q =
        let g = searching_after s c.number b (own_slot c) d its (now s c) f are (h s (before s q)) in
        subst (λ (n : ℕ). IsSearching s (now s e) n b (own_slot c) d (after_acts (key b (own_slot c) d) f its)) (sym r.does.number)
        (searching_same s c.number (now s e) (configuration_after s (now s c) (by c.number its)) (r.agrees s q) b (own_slot c) d (after_acts (key b (own_slot c) d) f its) g)

    pub same_slot : own_slot e ≡ own_slot c
    same_slot = (here (setting_of e.opening e.roll) (some_setting e.opening e.roll)).slot

    -- the search stands as its acts make it
    pub searches_on : Searches e b d (after_acts (key b (own_slot c) d) f its)
    searches_on s q = subst (λ (t : ℕ). IsSearching s (now s e) e.number b t d (after_acts (key b (own_slot c) d) f its)) (sym same_slot) (here s q)

  -- what Back guards stays for its holder
  module _ (held : Always c (λ s. holds (now s c).state.gate c.number whats.Back ≡ true)) where
    abbrev behind : Setting → Configuration
    behind s = configuration_after s (now s c) (by c.number its)

    held_behind : (s : Setting) → IsSettingOf e.opening e.roll s → holds (behind s).state.gate c.number whats.Back ≡ true
    held_behind s q = ap (λ (x : State). holds x.gate c.number whats.Back) (left s c.number its (now s c) are).0 ∙ held s (before s q)

    pub held_on : Always e (λ s. holds (now s e).state.gate e.number whats.Back ≡ true)
    held_on s q = ap (λ (n : ℕ). holds (now s e).state.gate n whats.Back) r.does.number ∙ ((r.agrees s q).locks whats.Back ∙ held_behind s q)

    pub back_on : (s : Setting) → IsSettingOf e.opening e.roll s → (now s e).state.back ≡ (now s c).state.back
    back_on s q = (r.agrees s q).back (held_behind s q) ∙ ap (λ (x : State). x.back) (left s c.number its (now s c) are).0

    pub history_on : (s : Setting) → IsSettingOf e.opening e.roll s → (now s e).now.span_history ≡ (now s c).now.span_history
    history_on s q = (r.agrees s q).span_history (held_behind s q) ∙ (left s c.number its (now s c) are).1

-- .. and its hint
pub hint_on : (c e : Token) (its : List Act) → AreReadings its → (r : Runs c e (by c.number its)) → (b d : ℕ) (f : Search) → Searches c b d f → e.owes ≡ c.owes → e.out ≡ c.out → HasHint c → HasHint e
hint_on c e its are r b d f h o u k i = record {
  held = held_on c e its are r k0.held;
  known = λ _ s q. word s q ∙ sym (word (setting_of e.opening e.roll) (some_setting e.opening e.roll));
}
  where
    i0 : is_out whats.Back c.out ≡ true
    i0 = ap (is_out whats.Back) (sym u) ∙ i

    k0 : KnowsHint c
    k0 = k i0

    sought_same : sought e ≡ sought c
    sought_same = sought_is e b d _ (searches_on c e its are r b d f h) ∙ sym (sought_is c b d f h)

    -- the word in each setting is what it was
    word : (s : Setting) → IsSettingOf e.opening e.roll s → owed_or e.owes (118 + 16 * sought e + own_slot e) (hint_word (now s e).state.back.area (now s e).now.span_history (sought e) (own_slot e)) ≡ own_hint c
    word s q =
        (λ j. owed_or (o j) (118 + 16 * sought_same j + same_slot c e its are r b d f h j) (hint_word (back_on c e its are r k0.held s q j).area (history_on c e its are r k0.held s q j) (sought_same j) (same_slot c e its are r b d f h j)))
        ∙ k0.known i0 s (before c e its are r s q)

---- Acts one after another

pub went_then : (a c e : Token) (xs ys : List Act) → AreReadings ys → Went a c xs → Went c e ys → Went a e (xs ++ ys)
went_then a c e [] ys are x y = subst (λ (t : Token). Went t e ys) x y
went_then a c e (x ∷ xs) [] are h y = subst (λ (l : List Act). Went a e l) (sym (append-nil (x ∷ xs))) (subst (λ (t : Token). Went a t (x ∷ xs)) (sym y) h)
went_then a c e (x ∷ xs) (y ∷ ys) are h k = (
  subst (Runs a e) (sym (by-append a.number (x ∷ xs) (y ∷ ys))) (runs_then a c e (by a.number (x ∷ xs)) (y ∷ ys) are h.0 k.0),
  record {
    call = k.1.call ∙ h.1.call;
    fresh = k.1.fresh ∙ h.1.fresh;
    locked = k.1.locked ∙ h.1.locked;
    inside = k.1.inside ∙ h.1.inside;
    depth = k.1.depth ∙ h.1.depth;
    out = k.1.out ∙ h.1.out;
    owes = k.1.owes ∙ h.1.owes;
    free = k.1.free ∙ h.1.free;
    searches = k.1.searches ∙ h.1.searches;
    searched = k.1.searched;
    drawn = k.1.drawn ∙ h.1.drawn;
    whole = k.1.whole;
    pending = k.1.pending;
    prepared = k.1.prepared;
  },
)
