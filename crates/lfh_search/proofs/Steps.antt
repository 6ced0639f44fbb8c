-- What the acts of a search leave to their caller, and how lists of them join.
use Rattle.std.proofs.Common.{◌≡◌, ℕ, Bool, true, false, ◌||◌, List, [], ◌∷◌, ◌++◌, Option, Some, None, refl, sym, ap, ◌∙◌, subst, eq-eqb}
use Rattle.std.specs.Prelude.{is_some, option_and_then}
use Rattle.std.specs.List.{find}
use Rattle.std.proofs.lemmas.Bool.{false≢true}
use Rattle.heap_model.specs.declared.Act.{Act}
use Rattle.heap_model.specs.declared.Act.TheVariants as acts
use Rattle.heap_model.specs.declared.Call.{Call}
use Rattle.heap_model.specs.declared.Call.TheVariants as calls
use Rattle.heap_model.specs.declared.Entry.{Entry}
use Rattle.heap_model.specs.declared.Opening.{Opening}
use Rattle.heap_model.specs.Buckets.{bucket_of}
use Rattle.heap_model.specs.Stay.{for_some}
use Rattle.heap_model.specs.State.{Setting, State, Place, updated, hands, is_entered, exclusive_places, has_address}
use Rattle.heap_model.specs.CallState.{Configuration, CallState, Nothing, Search, CallerView, caller_view}
use Rattle.heap_model.specs.Search.{SearchKey, search_key_of, request_of, request_for, sought, asked_bucket, draw_of, after_saw, after_lost, after_no_hint}
use Rattle.heap_model.specs.Legal.{after, step_search, with_search, may_touch}
use Rattle.heap_model.specs.History.{configuration_after}
use Rattle.heap_model.specs.Agreement.{AgreesFor, holds_old_block, moves_exclusive, is_exclusive_at}
use Rattle.heap_model.proofs.Others.{agrees_trans}
use Rattle.heap_model.proofs.Own.{call_own}
use Rattle.heap_model.proofs.Stable.{caller_view_same, same_exclusive, same_search}
use Rattle.heap_soundness.proofs.MadeSpans.{search_is}
use Rattle.heap_soundness.proofs.Picks.{sought_asked}
use Rattle.claim_rule.specs.Entries.{IsSettingOf, entry}
use Rattle.claim_rule.proofs.Lists.{after-append, setting_less}
use Rattle.heap_gate.specs.Token.{Token, now}
use Rattle.heap_gate.specs.Calls.{Does, Runs}
use Rattle.data_words.proofs.Copying.{does_then}
use Rattle.lfh_search.specs.Acts.{by, is_reading, AreReadings, after_act, after_acts}
use Rattle.lfh_search.specs.Standing.{key, IsSearching}

---- Others leave the search of a caller

module _ (s : Setting) (n : ℕ) (m k : Configuration) (r : AgreesFor n m k) where
  old_same : holds_old_block k n ≡ true → holds_old_block m n ≡ true
  old_same h = ap (λ (c : CallState). c.placed || for_some c.call (moves_exclusive m n)) r.call ∙ by_call (k.now.calls n).placed (k.now.calls n).call h
    where
      at : (a : ℕ) → is_exclusive_at m n a ≡ is_exclusive_at k n a
      at a =
          ap (λ (v : CallerView). for_some (find (has_address a) (exclusive_places m.state n)) (λ p. may_touch v p.layer)) (caller_view_same n m k r)
          ∙ ap (λ (ps : List Place). for_some (find (has_address a) ps) (λ p. may_touch (caller_view k n) p.layer)) (same_exclusive s n m k r)

      by_call : (placed : Bool) (call : Option Call) → (placed || for_some call (moves_exclusive k n)) ≡ true → (placed || for_some call (moves_exclusive m n)) ≡ true
      by_call true call h = refl
      by_call false None h = h
      by_call false (Some (calls.Realloc a size flags)) h = at a ∙ h
      by_call false (Some (calls.Alloc size flags)) h = refl
      by_call false (Some (calls.Free a)) h = refl
      by_call false (Some (calls.Size a)) h = refl
      by_call false (Some (calls.Get a i)) h = refl
      by_call false (Some (calls.Put a i v)) h = refl
      by_call false (Some calls.Lock) h = refl
      by_call false (Some calls.Unlock) h = refl
      by_call false (Some (calls.WalkNext a)) h = refl
      by_call false (Some calls.Compact) h = refl
      by_call false (Some calls.Stay) h = refl

  pub searching_same : (b t d : ℕ) (f : Search) → IsSearching s k n b t d f → IsSearching s m n b t d f
  searching_same b t d f h = record {
    begun = ap (λ (c : CallState). is_some c.call) r.call ∙ h.begun;
    inside = ap (λ (v : CallerView). v.entered) (caller_view_same n m k r) ∙ h.inside;
    seeks = same_search s n m k r h.old b h.seeks ∙ h.seeks;
    slot = h.slot;
    draw = ap (λ (c : CallState). draw_of s n c.searches) r.call ∙ h.draw;
    old = old_same h.old;
    search = ap (λ (c : CallState). c.search) r.call ∙ h.search;
  }

---- An own act of the search

pub asks : (s : Setting) (m : Configuration) (n b : ℕ) → (request_of s m n).search ≡ Some b → asked_bucket (m.now.calls n) ≡ Some b
asks s m n b e = sought_asked s m.state n (m.now.calls n) b (search_is m.state.vs.active (option_and_then bucket_of (sought s m.state n (m.now.calls n))) b e).0

module _ (s : Setting) (m : Configuration) (n b t d : ℕ) (f : Search) (h : IsSearching s m n b t d f) where
  -- its search has changed alone
  with_call : (g : Search) (k : Configuration) → k.state ≡ m.state → k.now.calls n ≡ with_search (m.now.calls n) g → IsSearching s k n b t d g
  with_call g k st e = record {
    begun = ap (λ (c : CallState). is_some c.call) e ∙ h.begun;
    inside = ap (λ (x : State). is_entered x.gate n) st ∙ h.inside;
    seeks = ap (λ (c : CallState). (request_for k.state.vs.active (sought s k.state n c)).search) e ∙ (ap (λ (x : State). (request_for x.vs.active (sought s x n (m.now.calls n))).search) st ∙ h.seeks);
    slot = h.slot;
    draw = ap (λ (c : CallState). draw_of s n c.searches) e ∙ h.draw;
    old = ap (λ (c : CallState). c.placed || for_some c.call (moves_exclusive k n)) e
        ∙ (ap (λ (x : State). (m.now.calls n).placed || for_some (m.now.calls n).call (moves_exclusive (record k { state = x }) n)) st ∙ h.old);
    search = ap (λ (c : CallState). c.search) e;
  }

  pub keyed : search_key_of s n (m.now.calls n) b ≡ key b t d
  keyed = λ j. record { bucket = b; slot = h.slot j; draw = h.draw j }

  stepped : (step : SearchKey → Search → Search) → step_search s n (m.now.calls n) step (asked_bucket (m.now.calls n)) ≡ with_search (m.now.calls n) (step (key b t d) f)
  stepped step = ap (step_search s n (m.now.calls n) step) (asks s m n b h.seeks)
      ∙ (ap (λ (g : SearchKey). with_search (m.now.calls n) (step g (m.now.calls n).search)) keyed ∙ ap (λ (x : Search). with_search (m.now.calls n) (step (key b t d) x)) h.search)

  at_once : (c : CallState) → updated m.now.calls n c n ≡ c
  at_once c = let e = eq-eqb n n refl in rw e refl

  pub searching_on : (act : Act) → is_reading act ≡ true → IsSearching s (after s m (entry n act)) n b t d (after_act (key b t d) f act)
  searching_on (acts.Saw head word bits) i = with_call _ (after s m (entry n (acts.Saw head word bits))) refl (at_once _ ∙ stepped (λ g f. after_saw g f head word bits))
  searching_on (acts.Lost head index) i = with_call _ (after s m (entry n (acts.Lost head index))) refl (at_once _ ∙ stepped (λ g f. after_lost f))
  searching_on (acts.NoHint bucket slot) i = with_call _ (after s m (entry n (acts.NoHint bucket slot))) refl (at_once _ ∙ stepped (λ g f. after_no_hint f))
  searching_on _ i = absurd (false≢true i)

pub searching_after : (s : Setting) (n b t d : ℕ) (its : List Act) (m : Configuration) (f : Search) → AreReadings its → IsSearching s m n b t d f → IsSearching s (configuration_after s m (by n its)) n b t d (after_acts (key b t d) f its)
searching_after s n b t d [] m f are h = h
searching_after s n b t d (act ∷ rest) m f are h = searching_after s n b t d rest (after s m (entry n act)) (after_act (key b t d) f act) are.1 (searching_on s m n b t d f h act are.0)

---- What a caller alone decides, behind its own acts

module _ (s : Setting) (n : ℕ) (m k : Configuration) (r : AgreesFor n m k) where
  -- its call moves, and nothing else of what it decides
  call_alone : (x y : ℕ → CallState) (u v : ℕ → Bool) → x n ≡ y n → AgreesFor n (record m { now = record m.now { calls = x; disturbed = u; demand = Nothing } }) (record k { now = record k.now { calls = y; disturbed = v; demand = Nothing } })
  call_alone x y u v e = record {
    counted = r.counted;
    turning = r.turning;
    owner = r.owner;
    locks = r.locks;
    call = e;
    hands = r.hands;
    active = r.active;
    vs = r.vs;
    spans = r.spans;
    back = r.back;
    span_history = r.span_history;
    large = r.large;
    owned = λ o. let h = r.owned o in record { back = h.back; vs = h.vs; lfh = h.lfh; large = h.large; words = h.words; span_history = h.span_history };
  }

  pub act_same : (act : Act) → is_reading act ≡ true → AgreesFor n (after s m (entry n act)) (after s k (entry n act))
  act_same (acts.Saw head word bits) i = call_alone _ _ _ _ (call_own s n m k r (acts.Saw head word bits))
  act_same (acts.Lost head index) i = call_alone _ _ _ _ (call_own s n m k r (acts.Lost head index))
  act_same (acts.NoHint bucket slot) i = call_alone _ _ _ _ (call_own s n m k r (acts.NoHint bucket slot))
  act_same _ i = absurd (false≢true i)

pub acts_same : (s : Setting) (n : ℕ) (its : List Act) (m k : Configuration) → AreReadings its → AgreesFor n m k → AgreesFor n (configuration_after s m (by n its)) (configuration_after s k (by n its))
acts_same s n [] m k are r = r
acts_same s n (act ∷ rest) m k are r = acts_same s n rest (after s m (entry n act)) (after s k (entry n act)) are.1 (act_same s n m k r act are.0)

---- How they join

pub by-append : (n : ℕ) (xs ys : List Act) → by n (xs ++ ys) ≡ by n xs ++ by n ys
by-append n [] ys = refl
by-append n (x ∷ xs) ys = ap (λ (l : List Entry). entry n x ∷ l) (by-append n xs ys)

pub readings-append : (xs ys : List Act) → AreReadings xs → AreReadings ys → AreReadings (xs ++ ys)
readings-append [] ys h k = k
readings-append (x ∷ xs) ys h k = (h.0, readings-append xs ys h.1 k)

pub after_acts-append : (g : SearchKey) (f : Search) (xs ys : List Act) → after_acts g f (xs ++ ys) ≡ after_acts g (after_acts g f xs) ys
after_acts-append g f [] ys = refl
after_acts-append g f (x ∷ xs) ys = after_acts-append g (after_act g f x) xs ys

-- a setting of the later token is one of the earlier
pub earlier : (b c : Token) (ys : List Entry) → Does b c ys → (s : Setting) → IsSettingOf c.opening c.roll s → IsSettingOf b.opening b.roll s
earlier b c ys y s q = setting_less b.opening b.roll c.roll s y.roll (subst (λ (o : Opening). IsSettingOf o c.roll s) y.opening q)

-- readings behind other entries
pub runs_then : (a b c : Token) (xs : List Entry) (its : List Act) → AreReadings its → Runs a b xs → Runs b c (by b.number its) → Runs a c (xs ++ by a.number its)
runs_then a b c xs its are x y0 = record {
  does = does_then a b c xs ys x.does y.does;
  agrees = λ s q.
      let q1 = earlier b c ys y.does s q in
      let first : AgreesFor a.number (configuration_after s (now s b) ys) (configuration_after s (configuration_after s (now s a) xs) ys) = acts_same s a.number its (now s b) (configuration_after s (now s a) xs) are (x.agrees s q1) in
      let second = subst (λ (n : ℕ). AgreesFor n (now s c) (configuration_after s (now s b) ys)) x.does.number (y.agrees s q) in
      subst (AgreesFor a.number (now s c)) (sym (after-append s (now s a) xs ys)) (agrees_trans a.number (now s c) (configuration_after s (now s b) ys) (configuration_after s (configuration_after s (now s a) xs) ys) second first);
  hands = λ s q. subst (λ (n : ℕ). hands (now s c).state n ≡ hands (now s b).state n) x.does.number (y.hands s q) ∙ x.hands s (earlier b c ys y.does s q);
}
  where
    ys : List Entry
    ys = by a.number its

    y : Runs b c ys
    y = subst (λ (n : ℕ). Runs b c (by n its)) x.does.number y0
