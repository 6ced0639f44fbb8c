-- What taking and giving back the lock of a layer makes of a caller.
use Rattle.std.proofs.Common.{◌≡◌, ℕ, ◌+◌, ◌==◌, true, false, ◌&&◌, not, List, [], ◌∷◌, Option, Some, None, refl, sym, ap, ◌∙◌, subst, arith, eq-eqb}
use Rattle.std.proofs.lemmas.Bool.{and_parts, false≢true, eqb-true, both_ways, not-true}
use Rattle.atomic_table.specs.Table.{Me}
use Rattle.atomic_table.specs.Seated.{TableId}
use Rattle.rand_core.specs.Stream.{Stream}
use Rattle.heap_model.specs.declared.Act.TheVariants as acts
use Rattle.heap_model.specs.declared.Entry.{Entry}
use Rattle.heap_model.specs.declared.What.{What}
use Rattle.heap_model.specs.declared.What.TheVariants as whats
use Rattle.heap_model.specs.Layers.{LayerState}
use Rattle.heap_model.specs.State.{Setting, hands}
use Rattle.heap_model.specs.Stay.{for_some}
use Rattle.heap_model.specs.CallState.{Configuration}
use Rattle.heap_model.specs.Legal.{may, may_follow, after, leaves_whole}
use Rattle.heap_model.specs.History.{configuration_of}
use Rattle.heap_model.specs.Agreement.{AgreesFor, revealed}
use Rattle.heap_model.proofs.GateSound.{row_of}
use Rattle.claim_rule.specs.declared.views.View.{View}
use Rattle.claim_rule.specs.Entries.{IsSettingOf, setting_of, entry}
use Rattle.claim_rule.specs.Rule.{ready_after}
use Rattle.claim_rule.specs.Plays.{Goes}
use Rattle.claim_rule.proofs.Advance.{some_setting}
use Rattle.claim_rule.proofs.Gate.{one_by}
use Rattle.claim_rule.specs.Home.{HasSlot, slot_of, Tells}
use Rattle.lock_steps.specs.Locks.{owed_with}
use Rattle.heap_gate.specs.Token.{Token, IsAt, IsCaller, AreOut, outs, is_out}
use Rattle.heap_gate.specs.Seated.{Face, tok}
use Rattle.heap_gate.specs.Calls.{IsGuarded, Stands, HasTaken, HasMissed, HasGiven, stance}
use Rattle.heap_gate.proofs.Standing.{at_taken, at_missed, at_given}
use Rattle.heap_gate.proofs.Tokens.{Behind, Acted, acted, acted_once, as_was, faced, marks, moved_by, at_behind, with_left, take_shows, same_in_hand, guarded_by}
use Rattle.heap_gate.proofs.Acting.{runs_of}
use Rattle.heap_gate.proofs.FreeVs.{taken_whole}

---- The word of a lock that another holds

another_has : (o : Option ℕ) (n word : ℕ) → for_some o (λ d. not (d == n) && (word == d + 1)) ≡ true → (word ≡ 0 → ⊥) × (word ≡ n + 1 → ⊥)
another_has None n word h = absurd (false≢true h)
another_has (Some d) n word h =
    let p = and_parts (not (d == n)) (word == d + 1) h in
    let w : word ≡ d + 1 = eqb-true word (d + 1) p.1 in
    let apart : d ≡ n → ⊥ = λ e. both_ways (d == n) (not-true (d == n) p.0) (eq-eqb d n e) in
    (λ e. let x : ⊥ = omega arith in x, λ e. apart (let x : d ≡ n = omega arith in x))

missed_word : (s : Setting) (m : Configuration) (n : ℕ) (what : What) (word : ℕ) → HasSlot what → may_follow s m (entry n (acts.Blocked what word)) ≡ true → (word ≡ 0 → ⊥) × (word ≡ n + 1 → ⊥)
missed_word s m n what word slot e = go what slot (row_of s m (entry n (acts.Blocked what word)) e)
  where
    go : (what : What) → HasSlot what → may s m n (acts.Blocked what word) ≡ true → (word ≡ 0 → ⊥) × (word ≡ n + 1 → ⊥)
    go whats.Vs y r = another_has m.state.gate.locks.vs n word r
    go whats.Back y r = another_has m.state.gate.locks.back n word r
    go whats.Large y r = another_has m.state.gate.locks.large n word r
    go whats.Gate y r = absurd y
    go whats.Lfh y r = absurd y

pub missed_by : (n : ℕ) (v w : View) (es : List Entry) (what : What) (word : ℕ) → HasSlot what → Goes n v w es (entry n (acts.Blocked what word) ∷ []) → (word ≡ 0 → ⊥) × (word ≡ n + 1 → ⊥)
missed_by n v w es what word slot g =
    let s = setting_of w.opening w.roll in
    let y = g.goes s (some_setting w.opening w.roll) in
    missed_word s y.before n what word slot (and_parts (may_follow s y.before (entry n (acts.Blocked what word))) true y.follows).0

---- The slot that was taken last

pub out_head : {T : Type 0} (xs : List (ℕ × Option T)) (slot : ℕ) (more : List ℕ) → AreOut xs → outs xs ≡ slot ∷ more → (ys : List (ℕ × Option T)) × (xs ≡ (slot, None) ∷ ys) × (outs ys ≡ more) × AreOut ys
out_head [] slot more h e = absurd (let no : ⊥ = cc in no)
out_head (x ∷ xs) slot more h e =
    let a : x.0 ≡ slot = cc in
    let b : outs xs ≡ more = cc in
    (xs, (λ i. (a i, h.0 i) ∷ xs), b, h.1)

pub out_top : (what : What) (more : List ℕ) → HasSlot what → is_out what (slot_of what ∷ more) ≡ true
out_top whats.Vs more h = refl
out_top whats.Back more h = refl
out_top whats.Large more h = refl
out_top whats.Gate more h = absurd h
out_top whats.Lfh more h = absurd h

---- The calls

-- no layer's lock moves what is in hand
blocked_hands : (s : Setting) (m : Configuration) (n : ℕ) (what : What) (word : ℕ) → HasSlot what → hands (after s m (entry n (acts.Blocked what word))).state n ≡ hands m.state n
blocked_hands s m n whats.Vs word y = refl
blocked_hands s m n whats.Back word y = refl
blocked_hands s m n whats.Large word y = refl
blocked_hands s m n whats.Gate word y = absurd y
blocked_hands s m n whats.Lfh word y = absurd y

module _ {T : Type 0} (z : TableId) (me : Me (Option T) View) (f : Face) (slot : ℕ) (stream : Stream) (h : IsCaller me (tok z me f) slot stream) (w : f.whole ≡ true) (what : What) (has : HasSlot what)
    (me' : Me (Option T) View) (z' : TableId) (ez : z' ≡ z) (left : List Entry) (le : left ≡ []) where
  ---- Taking

  module _ (go : Goes f.number me.0 me'.0 f.prepared (entry f.number (acts.TakeLock what) ∷ [])) (slots : me'.1 ≡ (slot_of what, None) ∷ me.1) (owes : me'.0.owes ≡ owed_with what me.0.owes) where
    abbrev pub behind_take : Behind z me f slot stream h
    behind_take = record { fresh = f.fresh; locked = f.locked; inside = f.inside; depth = f.depth; free = f.free; out = slot_of what ∷ outs me.1; marks = marks z me f slot stream h }

    abbrev take : List Entry
    take = entry f.number (acts.TakeLock what) ∷ []

    pub taking : Acted z me f slot stream h me' z' left (entry f.number (acts.TakeLock what) ∷ []) behind_take (owed_with what me.0.owes)
    taking = acted z me f slot stream h w me' take (moved_by z me f slot stream h me'.0 take (one_by f.number (acts.TakeLock what)) go) z' left ez le behind_take (record {
      slots = subst AreOut (sym slots) (refl, h.slots);
      out_is = ap outs slots;
      at = at_behind z me f slot stream h me'.0 take (one_by f.number (acts.TakeLock what)) go (λ m. IsAt m f.number f.call f.fresh f.inside f.depth (slot_of what ∷ outs me.1) true f.free)
          (λ s m a. at_taken s m f.number f.call f.fresh f.inside f.depth (outs me.1) f.whole f.free what has a);
      marks_are = refl;
      made_is = refl;
      rests = h.even.rests;
      drawn = h.even.drawn;
    }) (owed_with what me.0.owes) owes

    pub has_taken : (stands : T → LayerState) (state : T) → ((s : Setting) → IsSettingOf me'.0.opening me'.0.roll s → Tells what me'.0.opening (configuration_of s me'.0.seen).state (stands state))
        → HasTaken stands (tok z me f) (tok z' me' (faced z me f slot stream h behind_take left)) what state
    has_taken stands state tells = record {
      reveals = record {
        does = taking.does;
        agrees = with_left z me f slot stream h me' left le (λ s m. AgreesFor f.number m (after s (revealed m (ready_after s me.0 f.prepared)) (entry f.number (acts.TakeLock what))))
            (λ s q. take_shows s f.number me.0 me'.0 f.prepared what (go.goes s q));
        hands = with_left z me f slot stream h me' left le (λ s m. hands m.state f.number ≡ hands (ready_after s me.0 f.prepared).state f.number)
            (λ s q. same_in_hand s f.number me.0 me'.0 f.prepared take (go.goes s q) (λ m. refl));
      };
      stands = taking.stands;
      tells_it = with_left z me f slot stream h me' left le (λ s m. Tells what me'.0.opening m.state (stands state)) tells;
      guarded = with_left z me f slot stream h me' left le (λ s m. IsGuarded f.number (ready_after s me.0 f.prepared) m) (λ s q. guarded_by s f.number me.0 me'.0 f.prepared what (go.goes s q));
      used = λ e. with_left z me f slot stream h me' left le (λ s m. leaves_whole m.state whats.Vs ≡ true)
          (taken_whole f.number me.0 me'.0 f.prepared (subst (λ (x : What). Goes f.number me.0 me'.0 f.prepared (entry f.number (acts.TakeLock x) ∷ [])) e go));
    }

  ---- .. or missing

  module _ (word : ℕ) (go : Goes f.number me.0 me'.0 f.prepared (entry f.number (acts.Blocked what word) ∷ [])) (slots : me'.1 ≡ me.1) (owes : me'.0.owes ≡ me.0.owes) where
    blocked_marks : (what : What) → HasSlot what → (k : Rattle.heap_gate.specs.Token.SearchMarks) → Rattle.heap_gate.specs.Token.search_mark k (acts.Blocked what word) ≡ k
    blocked_marks what y k = refl

    pub missing_lock : Acted z me f slot stream h me' z' left (entry f.number (acts.Blocked what word) ∷ []) (as_was z me f slot stream h) me.0.owes
    missing_lock = acted_once z me f slot stream h w me' (acts.Blocked what word) go slots owes (blocked_marks what has) f.fresh f.locked f.inside f.depth
        (λ s m a. at_missed s m f.number f.call f.fresh f.inside f.depth (outs me.1) f.whole f.free what word has a) h.even.rests h.even.drawn z' left ez le

    pub has_missed_lock : HasMissed (tok z me f) (tok z' me' (faced z me f slot stream h (as_was z me f slot stream h) left)) what what word
    has_missed_lock = record {
      what_is = refl;
      another = missed_by f.number me.0 me'.0 f.prepared what word has go;
      runs = runs_of z me f slot stream h w me' (acts.Blocked what word) (as_was z me f slot stream h) z' left le go (λ m. refl) (λ s m. blocked_hands s m f.number what word has) missing_lock;
      stands = missing_lock.stands;
    }

  ---- Giving back

  module _ (go : Goes f.number me.0 me'.0 f.prepared (entry f.number (acts.GiveLock what) ∷ [])) (more : List ℕ) (out : outs me.1 ≡ slot_of what ∷ more) (once : is_out what more ≡ false) (slots : AreOut me'.1) (rest : outs me'.1 ≡ more) (owes : me'.0.owes ≡ me.0.owes) where
    abbrev pub behind_give : Behind z me f slot stream h
    behind_give = record { fresh = f.fresh; locked = f.locked; inside = f.inside; depth = f.depth; free = f.free; out = more; marks = marks z me f slot stream h }

    abbrev give : List Entry
    give = entry f.number (acts.GiveLock what) ∷ []

    pub giving : Acted z me f slot stream h me' z' left (entry f.number (acts.GiveLock what) ∷ []) behind_give me.0.owes
    giving = acted z me f slot stream h w me' give (moved_by z me f slot stream h me'.0 give (one_by f.number (acts.GiveLock what)) go) z' left ez le behind_give (record {
      slots = slots;
      out_is = rest;
      at = at_behind z me f slot stream h me'.0 give (one_by f.number (acts.GiveLock what)) go (λ m. IsAt m f.number f.call f.fresh f.inside f.depth more true f.free)
          (λ s m a. at_given s m f.number f.call f.fresh f.inside f.depth more f.whole f.free what has once (subst (λ (o : List ℕ). IsAt m f.number f.call f.fresh f.inside f.depth o f.whole f.free) out a));
      marks_are = refl;
      made_is = refl;
      rests = h.even.rests;
      drawn = h.even.drawn;
    }) me.0.owes owes

    pub has_given : HasGiven (tok z me f) (tok z' me' (faced z me f slot stream h behind_give left)) what (entry f.number (acts.GiveLock what) ∷ [])
    has_given = record {
      runs = runs_of z me f slot stream h w me' (acts.GiveLock what) behind_give z' left le go (λ m. refl) (λ s m. refl) giving;
      stands = λ others e. subst (λ (o : List ℕ). Stands (tok z' me' (faced z me f slot stream h behind_give left)) (record (stance (tok z me f)) { out = o })) (same_tail others e) giving.stands;
    }
      where
        same_tail : (others : List ℕ) → outs me.1 ≡ slot_of what ∷ others → more ≡ others
        same_tail others e = let a : slot_of what ∷ more ≡ slot_of what ∷ others = sym out ∙ e in cc (a)
