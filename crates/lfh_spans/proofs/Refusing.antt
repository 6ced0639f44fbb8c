-- Where a search is spent and the back end has no room, a caller may say so.
use Rattle.std.proofs.Common.{◌≡◌, ℕ, ◌==◌, Bool, true, false, not, ◌&&◌, ◌||◌, [], ◌∷◌, Option, Some, refl, sym, ap, ◌∙◌, subst, eq-eqb}
use Rattle.std.specs.Prelude.{is_some, is_none}
use Rattle.std.proofs.lemmas.Bool.{and_from}
use Rattle.heap_model.specs.declared.Act.TheVariants as acts
use Rattle.heap_model.specs.declared.What.TheVariants as whats
use Rattle.heap_model.specs.Buckets.{bucket_pages}
use Rattle.heap_model.specs.State.{BackPart, holds, is_entered}
use Rattle.heap_model.specs.Backend.{back_place}
use Rattle.heap_model.specs.Stay.{for_some, is_some_of}
use Rattle.heap_model.specs.CallState.{Configuration, caller_view}
use Rattle.heap_model.specs.Search.{request_of, search_key_of, is_spent}
use Rattle.heap_model.specs.Legal.{may, may_act, meets_demand, fits_none}
use Rattle.heap_model.specs.Agreement.{holds_old_block}
use Rattle.claim_rule.specs.Entries.{entry, may_prepare}
use Rattle.claim_rule.proofs.Lists.{after-append}
use Rattle.heap_model.specs.History.{configuration_of}
use Rattle.heap_model.specs.Layers.{StandsForBack}
use Rattle.backend_fit.specs.Kept.{Kept, layer_of}
use Rattle.heap_gate.specs.Calls.{with_prepared}
use Rattle.heap_gate.specs.Token.{Token, Always, IsStanding, now, is_out}
use Rattle.lfh_spans.specs.Subsegments.{IsBackOf, MayMake, HasNoRoom}

row : (en bk seen : Bool) → en ≡ true → bk ≡ true → seen ≡ false → (b : ℕ) (o : Option ℕ) → o ≡ Some b → (spent full : ℕ → Bool) → spent b ≡ true → full b ≡ true →
    (en && for_some o (λ k. (b == k) && bk && not seen && (is_some_of o k && spent k && full k))) ≡ true
row en bk seen x y z b o e spent full f g =
    let own = eq-eqb b b refl in
    rw (x, y, z, e, own) (rw (f, g) refl)

pub may_refuse : (c : Token) (k after : Kept) (b draw : ℕ) → IsStanding c → c.whole ≡ true → c.inside ≡ true → is_out whats.Back c.out ≡ true → IsBackOf c k → Always c (λ s. MayMake s (now s c) c.number b draw)
    → Always c (λ s. ((now s c).now.calls c.number).no_span ≡ false) → HasNoRoom k after b → Always c (λ s. may_prepare s (now s c) c.number (acts.NoSpan b) ≡ true)
may_refuse c k after b draw at whole inside out back makes first room s q =
    let n = c.number in
    let m = now s c in
    let a = at s q in
    let h = makes s q in
    let st = back s q in
    let none : is_none (back_place m.state.back.area s.limits.segments (bucket_pages b)) ≡ true =
    ap is_none (sym (λ j. back_place (ap (λ (p : BackPart). p.area) st.part j) ((st.limits ∙ sym q.limits) j).segments (bucket_pages b)) ∙ room.place) in
    let fits : may_act s m n (caller_view m n) (acts.NoSpan b) ≡ true =
    row (is_entered m.state.gate n) (holds m.state.gate n whats.Back) (m.now.calls n).no_span (a.entered ∙ inside) (a.locks whats.Back ∙ out) (first s q) b (request_of s m n).search h.seeks
    (λ x. is_spent m.state.back.area (caller_view m n) (search_key_of s n (m.now.calls n) x)) (λ x. fits_none s m.state.back.area (bucket_pages x)) h.spent none in
    let begun : is_some (m.now.calls n).call ≡ true = ap is_some a.call ∙ a.begun (ap (λ (x : Bool). x || not (c.depth == 0)) inside) in
    and_from (holds_old_block m n && true) _ (and_from (holds_old_block m n) true h.old refl)
    (and_from (meets_demand m.state.back.area (entry n (acts.NoSpan b)) m.now.demand && (false || is_some (m.now.calls n).call)) (may s m n (acts.NoSpan b))
    (and_from (meets_demand m.state.back.area (entry n (acts.NoSpan b)) m.now.demand) (false || is_some (m.now.calls n).call) (ap (meets_demand m.state.back.area (entry n (acts.NoSpan b))) (a.demand whole)) begun) fits)

-- .. and the back end is as it was
pub back_prepared : (c : Token) (k : Kept) (b : ℕ) → IsBackOf c k → IsBackOf (with_prepared c (acts.NoSpan b)) k
back_prepared c k b h s q = subst (λ (m : Configuration). StandsForBack c.opening m.state (layer_of k)) (sym (after-append s (configuration_of s c.seen) c.prepared (entry c.number (acts.NoSpan b) ∷ []))) (h s q)
