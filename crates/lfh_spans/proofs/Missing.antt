-- A caller whose search finds no hint.
use Rattle.std.proofs.Common.{◌≡◌, ℕ, Bool, true, false, List, [], ◌∷◌, Option, Some, None, refl, sym, ap, ◌∙◌, subst, eq-eqb}
use Rattle.std.proofs.lemmas.Bool.{false≢true}
use Rattle.atomic_table.specs.Table.{Me}
use Rattle.atomic_table.specs.Seated.{TableId}
use Rattle.rand_core.specs.Stream.{Stream}
use Rattle.heap_model.specs.declared.Act.TheVariants as acts
use Rattle.heap_model.specs.declared.Call.{Call}
use Rattle.heap_model.specs.declared.Entry.{Entry}
use Rattle.heap_model.specs.State.{Setting, hands, updated}
use Rattle.heap_model.specs.CallState.{Configuration, CallState}
use Rattle.heap_model.specs.Search.{asked_bucket, after_no_hint}
use Rattle.heap_model.specs.Legal.{after, call_after, step_search}
use Rattle.heap_model.specs.Agreement.{AgreesFor}
use Rattle.claim_rule.specs.declared.views.View.{View}
use Rattle.claim_rule.specs.Entries.{entry}
use Rattle.claim_rule.specs.Rule.{ready_after}
use Rattle.claim_rule.specs.Plays.{Goes}
use Rattle.claim_rule.proofs.Gate.{one_by}
use Rattle.heap_gate.specs.Token.{IsAt, IsCaller, AreOut, outs}
use Rattle.heap_gate.specs.Seated.{Face, tok}
use Rattle.heap_gate.specs.Calls.{Runs, Stands, stance}
use Rattle.heap_gate.proofs.Tokens.{Behind, Acted, acted, as_was, faced, marks, moved_by, at_behind, with_left, one_agrees, same_in_hand}

-- the caller stands as it did
at_missed_hint : (s : Setting) (m : Configuration) (n : ℕ) (c : Option Call) (f i : Bool) (d : ℕ) (out : List ℕ) (w e : Bool) (b t : ℕ) → IsAt m n c f i d out w e → IsAt (after s m (entry n (acts.NoHint b t))) n c f i d out true e
at_missed_hint s m n c f i d out w e b t h =
    let u : updated m.now.calls n (call_after s n (m.now.calls n) (acts.NoHint b t)) n ≡ call_after s n (m.now.calls n) (acts.NoHint b t) = (let q = eq-eqb n n refl in rw q refl) in
    let k = searching (m.now.calls n) (asked_bucket (m.now.calls n)) in
    record {
      entered = h.entered;
      turning = h.turning;
      owns = h.owns;
      locks = h.locks;
      hands = h.hands;
      begun = h.begun;
      call = ap (λ (x : CallState). x.call) u ∙ (k.0 ∙ h.call);
      fresh = λ y. ap (λ (x : CallState). x.entered) u ∙ (k.1 ∙ h.fresh y);
      demand = λ _. refl;
    }
  where
    searching : (k : CallState) (o : Option ℕ) → ((step_search s n k (λ g x. after_no_hint x) o).call ≡ k.call) × ((step_search s n k (λ g x. after_no_hint x) o).entered ≡ k.entered)
    searching k None = (refl, refl)
    searching k (Some y) = (refl, refl)

module _ {T : Type 0} (z : TableId) (me : Me (Option T) View) (f : Face) (slot : ℕ) (stream : Stream) (h : IsCaller me (tok z me f) slot stream) (w : f.whole ≡ true)
    (me' : Me (Option T) View) (slots : me'.1 ≡ me.1) (owes : me'.0.owes ≡ me.0.owes) (z' : TableId) (ez : z' ≡ z) (left : List Entry) (le : left ≡ []) (inside : f.inside ≡ true) (b t : ℕ)
    (go : Goes f.number me.0 me'.0 f.prepared (entry f.number (acts.NoHint b t) ∷ [])) where
  abbrev deed : List Entry
  deed = entry f.number (acts.NoHint b t) ∷ []

  -- a search of this call has begun
  abbrev searched : Behind z me f slot stream h
  searched = record { fresh = f.fresh; locked = f.locked; inside = f.inside; depth = f.depth; free = f.free; out = outs me.1; marks = record { made = (marks z me f slot stream h).made; begun = true } }

  not_outside : {A : Type 0} → f.inside ≡ false → A
  not_outside e = absurd (false≢true (sym e ∙ inside))

  missing : Acted z me f slot stream h me' z' left (entry f.number (acts.NoHint b t) ∷ []) searched me.0.owes
  missing = acted z me f slot stream h w me' deed (moved_by z me f slot stream h me'.0 deed (one_by f.number (acts.NoHint b t)) go) z' left ez le searched (record {
    slots = subst AreOut (sym slots) h.slots;
    out_is = ap outs slots;
    at = at_behind z me f slot stream h me'.0 deed (one_by f.number (acts.NoHint b t)) go (λ m. IsAt m f.number f.call f.fresh f.inside f.depth (outs me.1) true f.free)
        (λ s m a. at_missed_hint s m f.number f.call f.fresh f.inside f.depth (outs me.1) f.whole f.free b t a);
    marks_are = refl;
    made_is = refl;
    rests = λ e. not_outside e;
    drawn = λ e. not_outside e;
  }) me.0.owes owes

  -- .. and the token is the one behind any step without an entry

  pub missed_caller : IsCaller me' (tok z' me' (faced z me f slot stream h (as_was z me f slot stream h) left)) slot stream
  missed_caller = missing.caller

  pub missed_runs : Runs (tok z me f) (tok z' me' (faced z me f slot stream h (as_was z me f slot stream h) left)) (entry f.number (acts.NoHint b t) ∷ [])
  missed_runs = record {
    does = missing.does;
    agrees = with_left z me f slot stream h me' left le (λ s m. AgreesFor f.number m (after s (ready_after s me.0 f.prepared) (entry f.number (acts.NoHint b t))))
        (λ s q. one_agrees s f.number me.0 me'.0 f.prepared (acts.NoHint b t) (go.goes s q) refl);
    hands = with_left z me f slot stream h me' left le (λ s m. hands m.state f.number ≡ hands (ready_after s me.0 f.prepared).state f.number)
        (λ s q. same_in_hand s f.number me.0 me'.0 f.prepared deed (go.goes s q) (λ m. refl));
  }

  pub missed_stands : Stands (tok z' me' (faced z me f slot stream h (as_was z me f slot stream h) left)) (record (stance (tok z me f)) { searched = true })
  missed_stands = missing.stands
