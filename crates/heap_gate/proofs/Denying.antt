-- A caller that says that no live block has an address, with the step that leaves or gives a lock back.
use Rattle.std.proofs.Common.{◌≡◌, ℕ, Bool, true, false, List, [], ◌∷◌, Option, refl, sym, ap, ◌∙◌, subst, eq-eqb}
use Rattle.std.proofs.lemmas.Bool.{and_parts}
use Rattle.atomic_table.specs.Table.{Me}
use Rattle.atomic_table.specs.Seated.{TableId}
use Rattle.rand_core.specs.Stream.{Stream}
use Rattle.heap_model.specs.declared.Act.{Act}
use Rattle.heap_model.specs.declared.Act.TheVariants as acts
use Rattle.heap_model.specs.declared.Entry.{Entry}
use Rattle.heap_model.specs.declared.What.{What}
use Rattle.heap_model.specs.State.{Setting, hands}
use Rattle.heap_model.specs.CallState.{Configuration}
use Rattle.heap_model.specs.Legal.{may_follow, after}
use Rattle.heap_model.specs.History.{configuration_after, configuration_of}
use Rattle.heap_model.specs.Agreement.{AgreesFor, reveals_nothing}
use Rattle.heap_model.proofs.GateSound.{row_of}
use Rattle.heap_model.proofs.Own.{act_agrees}
use Rattle.claim_rule.specs.declared.views.View.{View}
use Rattle.claim_rule.specs.Entries.{is_by, entry}
use Rattle.claim_rule.specs.Rule.{ready_after}
use Rattle.claim_rule.specs.Plays.{Goes, GoesIn}
use Rattle.claim_rule.specs.Home.{HasSlot, slot_of}
use Rattle.heap_gate.specs.Token.{IsAt, IsCaller, AreOut, outs, is_out}
use Rattle.heap_gate.specs.Seated.{Face, tok}
use Rattle.heap_gate.specs.Calls.{Runs, Stands, HasLeft, HasGiven, stance}
use Rattle.heap_gate.proofs.Standing.{at_leave, at_given, at_plain}
use Rattle.heap_gate.proofs.Tokens.{Behind, At, Acted, acted, faced, marks, moved_by, at_behind, with_left, same_in_hand}

abbrev pub two : ℕ → Act → Act → List Entry
two n a b = entry n a ∷ entry n b ∷ []

pub two_by : (n : ℕ) (a b : Act) → is_by n (two n a b) ≡ true
two_by n a b = let e = eq-eqb n n refl in rw e refl

-- two acts that open nothing to the caller
pub two_agree : (s : Setting) (n : ℕ) (v w : View) (es : List Entry) (a b : Act) → ((m : Configuration) → reveals_nothing m n a ≡ true) → ((m : Configuration) → reveals_nothing m n b ≡ true) → GoesIn s n v w es (two n a b)
    → AgreesFor n (configuration_of s w.seen) (configuration_after s (ready_after s v es) (two n a b))
two_agree s n v w es a b qa qb g =
    let m = g.before in let k = ready_after s v es in
    let p = and_parts (may_follow s m (entry n a)) _ g.follows in
    let q = and_parts (may_follow s (after s m (entry n a)) (entry n b)) true p.1 in
    let first : AgreesFor n (after s m (entry n a)) (after s k (entry n a)) = act_agrees s n m k g.agrees a (row_of s m (entry n a) p.0) (qa k) in
    subst (λ (x : Configuration). AgreesFor n x (configuration_after s k (two n a b))) (sym g.behind)
    (act_agrees s n (after s m (entry n a)) (after s k (entry n a)) first b (row_of s (after s m (entry n a)) (entry n b) q.0) (qb (after s k (entry n a))))

module _ {T : Type 0} (z : TableId) (me : Me (Option T) View) (f : Face) (slot : ℕ) (stream : Stream) (h : IsCaller me (tok z me f) slot stream) (w : f.whole ≡ true) (addr : ℕ)
    (me' : Me (Option T) View) (z' : TableId) (ez : z' ≡ z) (left : List Entry) (le : left ≡ []) where
  -- nothing of the caller moves with the word alone
  at_denied : (s : Setting) (m : Configuration) → At z me f slot stream h m → IsAt (after s m (entry f.number (acts.NotLive addr))) f.number f.call f.fresh f.inside f.depth (outs me.1) true f.free
  at_denied s m a = at_plain s m f.number f.call f.fresh f.inside f.depth (outs me.1) f.whole f.free (acts.NotLive addr) refl refl refl refl a

  runs_two : (b : Act) (k : Behind z me f slot stream h) → ((m : Configuration) → reveals_nothing m f.number b ≡ true) → ((s : Setting) (m : Configuration) → hands (after s m (entry f.number b)).state f.number ≡ hands m.state f.number)
      → Goes f.number me.0 me'.0 f.prepared (two f.number (acts.NotLive addr) b) → Acted z me f slot stream h me' z' left (two f.number (acts.NotLive addr) b) k me.0.owes → Runs (tok z me f) (tok z' me' (faced z me f slot stream h k left)) (two f.number (acts.NotLive addr) b)
  runs_two b k quiet keeps go a = record {
    does = a.does;
    agrees = with_left z me f slot stream h me' left le (λ s m. AgreesFor f.number m (configuration_after s (ready_after s me.0 f.prepared) (two f.number (acts.NotLive addr) b)))
        (λ s q. two_agree s f.number me.0 me'.0 f.prepared (acts.NotLive addr) b (λ m. refl) quiet (go.goes s q));
    hands = with_left z me f slot stream h me' left le (λ s m. hands m.state f.number ≡ hands (ready_after s me.0 f.prepared).state f.number)
        (λ s q. same_in_hand s f.number me.0 me'.0 f.prepared (two f.number (acts.NotLive addr) b) (go.goes s q) (λ m. keeps s (after s m (entry f.number (acts.NotLive addr)))));
  }

  ---- Leaving

  module _ (go : Goes f.number me.0 me'.0 f.prepared (two f.number (acts.NotLive addr) acts.Leave)) (slots : me'.1 ≡ me.1) (owes : me'.0.owes ≡ me.0.owes) (in_is : f.inside ≡ true) (free : f.free ≡ true) (drawn : (marks z me f slot stream h).begun ≡ f.drawn) where
    abbrev pub behind_left : Behind z me f slot stream h
    behind_left = record { fresh = f.fresh; locked = f.locked; inside = false; depth = f.depth; free = f.free; out = outs me.1; marks = marks z me f slot stream h }

    pub denied_leaving : Acted z me f slot stream h me' z' left (two f.number (acts.NotLive addr) acts.Leave) behind_left me.0.owes
    denied_leaving = acted z me f slot stream h w me' (two f.number (acts.NotLive addr) acts.Leave) (moved_by z me f slot stream h me'.0 (two f.number (acts.NotLive addr) acts.Leave) (two_by f.number (acts.NotLive addr) acts.Leave) go) z' left ez le behind_left (record {
      slots = subst AreOut (sym slots) h.slots;
      out_is = ap outs slots;
      at = at_behind z me f slot stream h me'.0 (two f.number (acts.NotLive addr) acts.Leave) (two_by f.number (acts.NotLive addr) acts.Leave) go (λ m. IsAt m f.number f.call f.fresh false f.depth (outs me.1) true f.free)
          (λ s m a. at_leave s (after s m (entry f.number (acts.NotLive addr))) f.number f.call f.fresh f.depth (outs me.1) true f.free
          (subst (λ (b : Bool). IsAt (after s m (entry f.number (acts.NotLive addr))) f.number f.call f.fresh b f.depth (outs me.1) true f.free) in_is (at_denied s m a)));
      marks_are = refl;
      made_is = refl;
      rests = λ _. free;
      drawn = λ _. drawn;
    }) me.0.owes owes

    pub has_denied_left : HasLeft (tok z me f) (tok z' me' (faced z me f slot stream h behind_left left)) (two f.number (acts.NotLive addr) acts.Leave)
    has_denied_left = record { runs = runs_two acts.Leave behind_left (λ m. refl) (λ s m. refl) go denied_leaving; stands = denied_leaving.stands }

  ---- Giving a lock back

  module _ (what : What) (has : HasSlot what) (go : Goes f.number me.0 me'.0 f.prepared (two f.number (acts.NotLive addr) (acts.GiveLock what))) (more : List ℕ) (out : outs me.1 ≡ slot_of what ∷ more) (once : is_out what more ≡ false)
      (slots : AreOut me'.1) (rest : outs me'.1 ≡ more) (owes : me'.0.owes ≡ me.0.owes) where
    abbrev pub behind_given : Behind z me f slot stream h
    behind_given = record { fresh = f.fresh; locked = f.locked; inside = f.inside; depth = f.depth; free = f.free; out = more; marks = marks z me f slot stream h }

    pub denied_giving : Acted z me f slot stream h me' z' left (two f.number (acts.NotLive addr) (acts.GiveLock what)) behind_given me.0.owes
    denied_giving = acted z me f slot stream h w me' (two f.number (acts.NotLive addr) (acts.GiveLock what)) (moved_by z me f slot stream h me'.0 (two f.number (acts.NotLive addr) (acts.GiveLock what)) (two_by f.number (acts.NotLive addr) (acts.GiveLock what)) go) z' left ez le behind_given (record {
      slots = slots;
      out_is = rest;
      at = at_behind z me f slot stream h me'.0 (two f.number (acts.NotLive addr) (acts.GiveLock what)) (two_by f.number (acts.NotLive addr) (acts.GiveLock what)) go (λ m. IsAt m f.number f.call f.fresh f.inside f.depth more true f.free)
          (λ s m a. at_given s (after s m (entry f.number (acts.NotLive addr))) f.number f.call f.fresh f.inside f.depth more true f.free what has once
          (subst (λ (o : List ℕ). IsAt (after s m (entry f.number (acts.NotLive addr))) f.number f.call f.fresh f.inside f.depth o true f.free) out (at_denied s m a)));
      marks_are = refl;
      made_is = refl;
      rests = h.even.rests;
      drawn = h.even.drawn;
    }) me.0.owes owes

    pub has_denied_given : HasGiven (tok z me f) (tok z' me' (faced z me f slot stream h behind_given left)) what (two f.number (acts.NotLive addr) (acts.GiveLock what))
    has_denied_given = record {
      runs = runs_two (acts.GiveLock what) behind_given (λ m. refl) (λ s m. refl) go denied_giving;
      stands = λ others e. subst (λ (o : List ℕ). Stands (tok z' me' (faced z me f slot stream h behind_given left)) (record (stance (tok z me f)) { out = o })) (same_tail others e) denied_giving.stands;
    }
      where
        same_tail : (others : List ℕ) → outs me.1 ≡ slot_of what ∷ others → more ≡ others
        same_tail others e = let a : slot_of what ∷ more ≡ slot_of what ∷ others = sym out ∙ e in cc (a)
