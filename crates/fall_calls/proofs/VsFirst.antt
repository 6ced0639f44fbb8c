-- Both locks are given back, that of VS first.
use Rattle.std.proofs.Common.{◌≡◌, ◌==◌, ◌||◌, not, Bool, true, false, [], ◌∷◌, sym, ap, ◌∙◌, subst}
use Rattle.heap_model.specs.declared.Act.TheVariants as acts
use Rattle.heap_model.specs.declared.Opening.{Opening}
use Rattle.heap_model.specs.declared.What.TheVariants as whats
use Rattle.heap_model.specs.Layers.{StandsForVs, StandsForBack, sorted_back}
use Rattle.heap_model.specs.Legal.{leaves_whole}
use Rattle.heap_model.specs.State.{holds}
use Rattle.claim_rule.specs.Entries.{entry}
use Rattle.claim_rule.specs.Places.{back_slot}
use Rattle.backend_fit.specs.Kept.{Kept}
use Rattle.backend_fit.specs.Kept as backs
use Rattle.backend_fit.proofs.Told.{spans_used}
use Rattle.vs_layer.specs.Kept.{VsKept}
use Rattle.vs_layer.specs.Standing.{layer_of}
use Rattle.heap_gate.specs.Token.{Token, Always, now, IsStanding, is_out}
use Rattle.heap_gate.specs.Calls.{IsUnder, HasGiven}
use Rattle.call_parts.specs.Entries.{HasEnded}
use Rattle.call_parts.proofs.Joining.{setting_before}
use Rattle.call_parts.proofs.Tokens.{ended_given, ended_then}
use Rattle.vs_calls.specs.Blocks.{HasVsAndBack}
use Rattle.fall_calls.specs.Both.{HasTwo}

module _ (c : Token) (vs : VsKept) (back : Kept) (h : HasTwo c vs back true) (st : IsStanding c) where
  held : Always c (λ s. holds (now s c).state.gate c.number whats.Back ≡ true)
  held s q = (st s q).locks whats.Back ∙ ap (is_out whats.Back) h.out_is

  pub vs_tells : Always c (λ s. (leaves_whole (now s c).state whats.Vs ≡ true) × StandsForVs c.opening (now s c).state (layer_of vs))
  vs_tells s q = (h.keeps.used s q, h.keeps.tells s q)

  module _ (d : Token) (g : HasGiven c d whats.Vs (entry c.number (acts.GiveLock whats.Vs) ∷ [])) where
    pub given : HasEnded c d (acts.GiveLock whats.Vs ∷ []) (back_slot ∷ [])
    given = ended_given c d whats.Vs (back_slot ∷ []) (acts.GiveLock whats.Vs ∷ []) g h.out_is h.free

    pub under : IsUnder d.inside d.depth
    under = ap (λ (y : Bool). y || not (d.depth == 0)) (given.added.steady.inside ∙ h.inside)

    pub back_tells : Always d (λ s. (leaves_whole (now s d).state whats.Back ≡ true) × StandsForBack d.opening (now s d).state (backs.layer_of back))
    back_tells s q =
        let qc = setting_before c d (acts.GiveLock whats.Vs ∷ []) given.added.goes s q in
        let t = h.back_is s qc in
        let e = (g.runs.agrees s q).back (held s qc) in
        let u : StandsForBack d.opening (now s d).state (backs.layer_of back) =
        subst (λ (o : Opening). StandsForBack o (now s d).state (backs.layer_of back)) (sym given.added.goes.opening) (record { lock = t.lock; limits = t.limits; part = t.part ∙ ap sorted_back (sym e) }) in
        (spans_used d.opening (now s d).state back u, u)

    pub both : (f : Token) → HasGiven d f whats.Back (entry d.number (acts.GiveLock whats.Back) ∷ []) → HasEnded c f (acts.GiveLock whats.Vs ∷ acts.GiveLock whats.Back ∷ []) []
    both f k =
        ended_then c d f (acts.GiveLock whats.Vs ∷ []) (acts.GiveLock whats.Back ∷ []) [] given.added
        (ended_given d f whats.Back [] (acts.GiveLock whats.Back ∷ []) k given.out_is given.free)

-- .. or that of the back end first, as the layer itself does
pub vs_and_back : (c : Token) (vs : VsKept) (back : Kept) → HasTwo c vs back false → HasVsAndBack c vs back
vs_and_back c vs back h = record { inside = h.inside; whole = h.whole; free = h.free; out_is = h.out_is; owes = h.owes; used = h.keeps.used; tells_vs = h.keeps.tells; tells_back = h.back_is }
