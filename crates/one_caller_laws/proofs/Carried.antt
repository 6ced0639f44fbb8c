-- Behind the place of a call, words are loaded and stored, and a block is taken somewhere amid them: what that leaves.
use Rattle.std.proofs.Common.{◌≡◌, ℕ, zero, suc, ◌+◌, ◌-◌, ◌/◌, Bool, true, false, ◌&&◌, List, [], ◌∷◌, ◌++◌, map, length, Option, Some, refl, sym, ap, ◌∙◌, subst, eqb, ltb}
use Rattle.std.specs.List.{find}
use Rattle.std.proofs.lemmas.Bool.{and_parts, eqb-true}
use Rattle.heap_model.specs.declared.Act.{Act}
use Rattle.heap_model.specs.declared.Act.TheVariants as acts
use Rattle.heap_model.specs.declared.Call.{Call}
use Rattle.heap_model.specs.Geometry.{words_of}
use Rattle.heap_model.specs.Backend.{numbers}
use Rattle.heap_model.specs.State.{Setting, Place, Live, InHand, has_address, place_at, is_live_at, is_hand_at, change_found, remove_found, updated}
use Rattle.heap_model.specs.CallState.{Configuration, caller_view}
use Rattle.heap_model.specs.Legal.{may_follow, after, with_status, layer_of, data_words}
use Rattle.heap_model.specs.Alone.{by_zero, configuration_by}
use Rattle.heap_model.specs.Shape.{shape_of, zeros, zeroing_more, copying, moving}
use Rattle.heap_model.proofs.GateSound.{row_of}
use Rattle.heap_soundness.specs.Invariant.{Keeps}
use Rattle.heap_soundness.proofs.Addresses.{place_among_all}
use Rattle.one_caller_laws.specs.OneCall.{AreAlike}
use Rattle.one_caller_laws.proofs.Core.{Core, core_of, places_in_core}
use Rattle.one_caller_laws.proofs.InCall.{SearchesNone}
use Rattle.one_caller_laws.proofs.Reach.{Calm, Goes, to_shown, goes_after, may_first}
use Rattle.one_caller_laws.proofs.Pair.{within_next, none_placed, calm_look, take_finds, ends_alike, HintsAlike}
use Rattle.one_caller_laws.proofs.Duo.{Duo, duo_at, hints_at}
use Rattle.one_caller_laws.proofs.Asks.{alike_at}
use Rattle.one_caller_laws.proofs.Placing.{duo_give}
use Rattle.one_caller_laws.proofs.Freeing.{changed_core, hand_of, whole_restatused}
use Rattle.one_caller_laws.proofs.Closing.{closed, closes_so}

---- Words

abbrev pub AreWords : List Act → Type 0
AreWords [] = Unit {0}
AreWords (acts.Load w v ∷ ws) = AreWords ws
AreWords (acts.Store w v ∷ ws) = AreWords ws
AreWords (_ ∷ ws) = ⊥

-- what they leave
abbrev pub words_by : List Act → (ℕ → ℕ) → ℕ → ℕ
words_by [] w = w
words_by (acts.Store x v ∷ ws) w = words_by ws (updated w x v)
words_by (_ ∷ ws) w = words_by ws w

-- each word that is loaded is the word there
abbrev pub Reads : List Act → (ℕ → ℕ) → Type 0
Reads [] w = Unit {0}
Reads (acts.Load x v ∷ ws) w = (w x ≡ v) × Reads ws w
Reads (acts.Store x v ∷ ws) w = Reads ws (updated w x v)
Reads (_ ∷ ws) w = ⊥

words_append : (xs ys : List Act) (w : ℕ → ℕ) → AreWords xs → words_by (xs ++ ys) w ≡ words_by ys (words_by xs w)
words_append [] ys w a = refl
words_append (acts.Load x v ∷ xs) ys w a = words_append xs ys w a
words_append (acts.Store x v ∷ xs) ys w a = words_append xs ys (updated w x v) a
words_append (_ ∷ xs) ys w a = absurd a

reads_append : (xs ys : List Act) (w : ℕ → ℕ) → AreWords xs → Reads xs w → Reads ys (words_by xs w) → Reads (xs ++ ys) w
reads_append [] ys w a r q = q
reads_append (acts.Load x v ∷ xs) ys w a r q = (r.0, reads_append xs ys w a r.1 q)
reads_append (acts.Store x v ∷ xs) ys w a r q = reads_append xs ys (updated w x v) a r q
reads_append (_ ∷ xs) ys w a r q = absurd a

pub are_words_split : (xs ys : List Act) → AreWords (xs ++ ys) → AreWords xs × AreWords ys
are_words_split [] ys a = (tt, a)
are_words_split (acts.Load x v ∷ xs) ys a = are_words_split xs ys a
are_words_split (acts.Store x v ∷ xs) ys a = are_words_split xs ys a
are_words_split (_ ∷ xs) ys a = absurd a

are_stores : (words : List ℕ) → AreWords (map (λ w. acts.Store w 0) words)
are_stores [] = tt
are_stores (w ∷ words) = are_stores words

are_zeros : (zeroes : Bool) (word count : ℕ) → AreWords (zeros zeroes word count)
are_zeros true word count = are_stores (numbers word count)
are_zeros false word count = tt

are_copied : (from to : ℕ) (values : List ℕ) (zs : List Act) → AreWords zs → AreWords (copying from to values ++ zs)
are_copied from to [] zs a = a
are_copied from to (v ∷ vs) zs a = are_copied (from + 1) (to + 1) vs zs a

pub are_moved : (a size b n : ℕ) (zeroes : Bool) (values : List ℕ) → AreWords (moving a size b n zeroes values)
are_moved a size b n zeroes values = are_copied (a / 8) (b / 8) values (zeroing_more zeroes b size n) (are_zeros zeroes (b / 8 + words_of size) (words_of n - words_of size))

-- so many words copied from one word on to another on, one after another
abbrev pub copied : ℕ → ℕ → ℕ → (ℕ → ℕ) → ℕ → ℕ
copied from to zero w = w
copied from to (suc k) w = copied (from + 1) (to + 1) k (updated w to (w from))

-- whatever the values are, they are those that stood there
pub copying_is : (from to : ℕ) (values : List ℕ) (zs : List Act) (w : ℕ → ℕ) → Reads (copying from to values ++ zs) w → words_by (copying from to values ++ zs) w ≡ words_by zs (copied from to (length values) w)
copying_is from to [] zs w r = refl
copying_is from to (v ∷ vs) zs w r =
    copying_is (from + 1) (to + 1) vs zs (updated w to v) r.1
    ∙ ap (λ (x : ℕ). words_by zs (copied (from + 1) (to + 1) (length vs) (updated w to x))) (sym r.0)

loaded : (s : Setting) (m : Configuration) (word v : ℕ) → may_follow s m (by_zero (acts.Load word v)) ≡ true → m.state.words word ≡ v
loaded s m word v h =
    let k = caller_view m 0 in
    let r = and_parts (k.entered && eqb (m.state.words word) v) (ltb word (data_words s)) (row_of s m (by_zero (acts.Load word v)) h) in
    eqb-true (m.state.words word) v (and_parts k.entered (eqb (m.state.words word) v) r.0).1

---- In a call that has placed

-- words are behind
pub record Worded (s : Setting) (call : Call) (m : Configuration) (rest ws t : List Act) : Type 0 where
  pub at : Configuration
  pub later : List Act
  pub calm : Calm s call at
  pub goes : Goes s at later
  pub core : core_of at ≡ record (core_of m) { words = words_by ws m.state.words }
  pub hints : HintsAlike at m
  pub reads : Reads ws m.state.words
  pub shape : shape_of later ≡ t
  pub ends : configuration_by s m rest ≡ configuration_by s at later

pub worded : (s : Setting) (call : Call) (ws : List Act) (m : Configuration) (rest t : List Act) → AreWords ws → (m.now.calls 0).placed ≡ true → Calm s call m → Goes s m rest → shape_of rest ≡ ws ++ t → Worded s call m rest ws t
worded s call [] m rest t a p c g e = record { at = m; later = rest; calm = c; goes = g; core = refl; hints = λ b t. refl; reads = tt; shape = e; ends = refl }
worded s call (acts.Load x v ∷ ws) m rest t a p c g e =
    let act = acts.Load x v in
    let y = to_shown s call m rest act (ws ++ t) c g e refl in
    let k = after s y.at (by_zero act) in
    let q = ap (λ (c : Core). c.placed) y.core ∙ p in
    let z = worded s call ws k y.later t a q (calm_look s call y.at act y.later y.calm y.goes refl) (goes_after s y.at act y.later y.goes) y.shape in
    record {
      at = z.at;
      later = z.later;
      calm = z.calm;
      goes = z.goes;
      core = z.core ∙ ap (λ (c : Core). record c { words = words_by ws c.words }) y.core;
      hints = λ b t. z.hints b t ∙ hints_at y.at m y.core y.hints b t;
      reads = (ap (λ (c : Core). c.words x) (sym y.core) ∙ loaded s y.at x v (may_first s y.at act y.later y.goes), subst (λ (c : Core). Reads ws c.words) y.core z.reads);
      shape = z.shape;
      ends = y.ends ∙ z.ends;
    }
worded s call (acts.Store x v ∷ ws) m rest t a p c g e =
    let act = acts.Store x v in
    let y = to_shown s call m rest act (ws ++ t) c g e refl in
    let k = after s y.at (by_zero act) in
    let q = ap (λ (c : Core). c.placed) y.core ∙ p in
    let ck : Calm s call k = record { within = within_next s call y.at act y.later y.calm.within y.goes; whole = record { vs = y.calm.whole.vs; back = y.calm.whole.back }; none = none_placed s k q; plain = c.plain; demand = refl } in
    let z = worded s call ws k y.later t a q ck (goes_after s y.at act y.later y.goes) y.shape in
    record {
      at = z.at;
      later = z.later;
      calm = z.calm;
      goes = z.goes;
      core = z.core ∙ ap (λ (c : Core). record c { words = words_by ws (updated c.words x v) }) y.core;
      hints = λ b t. z.hints b t ∙ hints_at y.at m y.core y.hints b t;
      reads = subst (λ (c : Core). Reads ws (updated c.words x v)) y.core z.reads;
      shape = z.shape;
      ends = y.ends ∙ z.ends;
    }
worded s call (_ ∷ ws) m rest t a p c g e = absurd a

-- a block is taken
abbrev pub taken_core : ℕ → Core → Core
taken_core a c = changed_core c (layer_of (find (has_address a) (places_in_core c))) (change_found (is_live_at a) (with_status (InHand 0)))

pub core_taken : (s : Setting) (m : Configuration) (a size : ℕ) → Keeps s m → core_of (after s m (by_zero (acts.Take a size))) ≡ taken_core a (core_of m)
core_taken s m a size k = ap (λ (o : Option Place). changed_core (core_of m) (layer_of o) (change_found (is_live_at a) (with_status (InHand 0)))) (place_among_all s m 0 a k)

pub calm_taken : (s : Setting) (call : Call) (m : Configuration) (a size : ℕ) (rest : List Act) → Calm s call m → Goes s m (acts.Take a size ∷ rest) → SearchesNone s (after s m (by_zero (acts.Take a size))) → Calm s call (after s m (by_zero (acts.Take a size)))
calm_taken s call m a size rest c g none = record {
  within = within_next s call m (acts.Take a size) rest c.within g;
  whole = whole_restatused (core_of m) (layer_of (place_at m.state 0 a)) (is_live_at a) (InHand 0) c.whole;
  none = none;
  plain = c.plain;
  demand = refl;
}

-- a live block of this size is found
pub record Lives (c : Core) (a size : ℕ) : Type 0 where
  pub place : Place
  pub found : find (has_address a) (places_in_core c) ≡ Some place
  pub live : place.status ≡ Live size

pub taken_lives : (s : Setting) (m : Configuration) (a size : ℕ) → Keeps s m → may_follow s m (by_zero (acts.Take a size)) ≡ true → Lives (core_of m) a size
taken_lives s m a size k h = let f = take_finds s m a size h in record { place = f.place; found = sym (place_among_all s m 0 a k) ∙ f.is; live = f.live }

-- words are behind, and amid them the block was taken
pub record Carried (s : Setting) (call : Call) (m : Configuration) (rest ws t : List Act) (a size : ℕ) : Type 0 where
  pub at : Configuration
  pub later : List Act
  pub calm : Calm s call at
  pub goes : Goes s at later
  pub core : core_of at ≡ record (taken_core a (core_of m)) { words = words_by ws m.state.words }
  pub hints : HintsAlike at m
  pub reads : Reads ws m.state.words
  pub lives : Lives (core_of m) a size
  pub shape : shape_of later ≡ t
  pub ends : configuration_by s m rest ≡ configuration_by s at later

pub carried : (s : Setting) (call : Call) (first more : List Act) (m : Configuration) (rest t : List Act) (a size : ℕ) → AreWords first → AreWords more → (m.now.calls 0).placed ≡ true → Calm s call m → Goes s m rest → shape_of rest ≡ first ++ acts.Take a size ∷ (more ++ t) →
    Carried s call m rest (first ++ more) t a size
carried s call first more m rest t a size wf wm p c g e =
    let act = acts.Take a size in
    let x = worded s call first m rest (act ∷ (more ++ t)) wf p c g e in
    let y = to_shown s call x.at x.later act (more ++ t) x.calm x.goes x.shape refl in
    let k = after s y.at (by_zero act) in
    let back : core_of y.at ≡ record (core_of m) { words = words_by first m.state.words } = y.core ∙ x.core in
    let q : (k.now.calls 0).placed ≡ true = ap (λ (c : Core). c.placed) back ∙ p in
    let to : core_of k ≡ taken_core a (record (core_of m) { words = words_by first m.state.words }) = core_taken s y.at a size y.calm.within.keeps ∙ ap (taken_core a) back in
    let z = worded s call more k y.later t wm q (calm_taken s call y.at a size y.later y.calm y.goes (none_placed s k q)) (goes_after s y.at act y.later y.goes) y.shape in
    let l = taken_lives s y.at a size y.calm.within.keeps (may_first s y.at act y.later y.goes) in
    let l2 = subst (λ (c : Core). Lives c a size) back l in
    record {
      at = z.at;
      later = z.later;
      calm = z.calm;
      goes = z.goes;
      core = z.core ∙ ap (λ (c : Core). record c { words = words_by more c.words }) to ∙ ap (λ (w : ℕ → ℕ). record (taken_core a (core_of m)) { words = w }) (sym (words_append first more m.state.words wf));
      hints = λ b t. z.hints b t ∙ hints_at y.at x.at y.core y.hints b t ∙ x.hints b t;
      reads = reads_append first more m.state.words wf x.reads (subst (λ (c : Core). Reads more c.words) to z.reads);
      lives = record { place = l2.place; found = l2.found; live = l2.live };
      shape = z.shape;
      ends = x.ends ∙ y.ends ∙ z.ends;
    }

---- The end of both

-- a block in hand is dropped, and nothing more is shown
duo_dropped : (s : Setting) (call : Call) (m : Configuration) (a : ℕ) (rest : List Act) (n : Configuration) (others : List Act) → (m.now.calls 0).placed ≡ true → Duo s call m (acts.Drop a ∷ rest) n (acts.Drop a ∷ others) →
    shape_of rest ≡ [] → shape_of others ≡ [] → AreAlike (configuration_by s (after s m (by_zero (acts.Drop a))) rest) (configuration_by s (after s n (by_zero (acts.Drop a))) others)
duo_dropped s call m a rest n others p d e f =
    let k = after s m (by_zero (acts.Drop a)) in
    let l = after s n (by_zero (acts.Drop a)) in
    let c = d.core in
    let q = sym (ap (λ (c : Core). c.placed) c) ∙ p in
    let same : core_of k ≡ core_of l = λ i. changed_core (c i) (layer_of (hand_of (c i) a)) (remove_found (is_hand_at 0 a)) in
    let x = closes_so s call k rest (within_next s call m (acts.Drop a) rest d.calm.within d.goes) d.calm.plain (λ u v g. none_placed s u (ap (λ (c : Core). c.placed) g ∙ p)) (goes_after s m (acts.Drop a) rest d.goes) e in
    let y = closes_so s call l others (within_next s call n (acts.Drop a) others d.calm_too.within d.goes_too) d.calm.plain (λ u v g. none_placed s u (ap (λ (c : Core). c.placed) g ∙ q)) (goes_after s n (acts.Drop a) others d.goes_too) f in
    ends_alike s call (configuration_by s k rest) (configuration_by s l others) x.within y.within d.goes.idle d.goes_too.idle (x.core ∙ ap closed same ∙ sym y.core) (λ b t. x.hints b t ∙ d.hints b t ∙ sym (y.hints b t))

-- the new block is given, and the old one goes
pub duo_gone : (s : Setting) (call : Call) (b n a : ℕ) (m : Configuration) (rest : List Act) (k : Configuration) (others : List Act) → (m.now.calls 0).placed ≡ true → Duo s call m rest k others →
    shape_of rest ≡ acts.Give b n ∷ acts.Drop a ∷ [] → shape_of others ≡ acts.Give b n ∷ acts.Drop a ∷ [] → AreAlike (configuration_by s m rest) (configuration_by s k others)
duo_gone s call b n a m rest k others p d e f =
    let x = duo_at s call m rest k others (acts.Give b n) (acts.Drop a ∷ []) (acts.Give b n) (acts.Drop a ∷ []) d e f refl refl in
    let q = ap (λ (c : Core). c.placed) x.core_stays ∙ p in
    let i = after s x.at (by_zero (acts.Give b n)) in
    let j = after s x.at_too (by_zero (acts.Give b n)) in
    let y = duo_at s call i x.later j x.later_too (acts.Drop a) [] (acts.Drop a) [] (duo_give s call x.at b n x.later x.at_too x.later_too q x.duo) x.shape x.shape_too refl refl in
    let r = ap (λ (c : Core). c.placed) y.core_stays ∙ q in
    alike_at _ _ _ _ (x.ends ∙ y.ends) (x.ends_too ∙ y.ends_too) (duo_dropped s call y.at a y.later y.at_too y.later_too r y.duo y.shape y.shape_too)
