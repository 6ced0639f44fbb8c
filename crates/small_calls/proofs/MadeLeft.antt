-- What the holder of VS has stays where a block of the front end is placed, also in a subsegment that was made.
use Rattle.std.proofs.Common.{◌≡◌, ℕ, ◌/◌, true, List, [], ◌∷◌, ◌++◌, refl, sym, ap, ◌∙◌, subst, inl, inr}
use Rattle.std.specs.Prelude.{nat_lt}
use Rattle.std.proofs.lemmas.Bool.{cases_Bool}
use Rattle.heap_model.specs.declared.Act.{Act}
use Rattle.heap_model.specs.declared.Act.TheVariants as acts
use Rattle.heap_model.specs.declared.Kind.TheVariants as kinds
use Rattle.heap_model.specs.declared.What.TheVariants as whats
use Rattle.heap_model.specs.Buckets.{bucket_pages}
use Rattle.heap_model.specs.Ranges.{vs_spans, is_of_kind}
use Rattle.heap_model.specs.State.{Setting, State, Area, GateAndLocks, holds}
use Rattle.heap_model.specs.CallState.{Configuration}
use Rattle.heap_model.specs.Legal.{after}
use Rattle.heap_model.specs.History.{configuration_after}
use Rattle.heap_model.specs.Agreement.{AgreesFor}
use Rattle.heap_model.proofs.ListLemmas.{filter-insert_span}
use Rattle.claim_rule.specs.Entries.{entry}
use Rattle.claim_rule.proofs.Lists.{after-append}
use Rattle.backend_fit.specs.Kept.{Kept, area_of}
use Rattle.lfh_search.specs.Acts.{by, AreReadings}
use Rattle.lfh_search.specs.Results.{place}
use Rattle.lfh_search.specs.Under.{CameBy, Found, Made, makes}
use Rattle.lfh_search.proofs.Steps.{by-append}
use Rattle.lfh_search.proofs.Words.{left}

-- the locks are the same, and VS with its spans
record IsVsSame (m k : Configuration) : Type 0 where
  pub gate : k.state.gate ≡ m.state.gate
  pub vs : k.state.vs ≡ m.state.vs
  pub spans : vs_spans k.state.back.area ≡ vs_spans m.state.back.area

same_then : (l m k : Configuration) → IsVsSame l m → IsVsSame m k → IsVsSame l k
same_then l m k x y = record { gate = y.gate ∙ x.gate; vs = y.vs ∙ x.vs; spans = y.spans ∙ x.spans }

span_same : (s : Setting) (n first pages b t : ℕ) (m : Configuration) → IsVsSame m (after s m (entry n (acts.Span first pages kinds.Lfh b t)))
span_same s n first pages b t m = record {
  gate = refl;
  vs = refl;
  spans = filter-insert_span (is_of_kind kinds.Vs) (record { first = first; pages = pages; kind = kinds.Lfh; bucket = b; slot = t }) m.state.back.area.spans refl;
}

reserve_same : (s : Setting) (n segment : ℕ) (m : Configuration) → IsVsSame m (after s m (entry n (acts.Reserve segment)))
reserve_same s n segment m = record { gate = refl; vs = refl; spans = refl }

made_same : (s : Setting) (n : ℕ) (a : Area) (first b t : ℕ) (m : Configuration) → IsVsSame m (configuration_after s m (by n (makes a first b t)))
made_same s n a first b t m = elim (cases_Bool (nat_lt (first / 256) a.reserved)) [
  | inl e ↦ rw e (span_same s n first (bucket_pages b) b t m)
  | inr e ↦
      let one = after s m (entry n (acts.Reserve a.reserved)) in
      rw e (same_then m one (after s one (entry n (acts.Span first (bucket_pages b) kinds.Lfh b t))) (reserve_same s n a.reserved m) (span_same s n first (bucket_pages b) b t one))
]

came_same : (s : Setting) (n : ℕ) (back later : Kept) (b t d head i : ℕ) (made : List Act) (m : Configuration) → CameBy back later b t d head i made → IsVsSame m (configuration_after s m (by n made))
came_same s n back later b t d head i made m (Found there none same) = subst (λ (l : List Act). IsVsSame m (configuration_after s m (by n l))) (sym none) (record { gate = refl; vs = refl; spans = refl })
came_same s n back later b t d head i made m (Made room are drawn) = subst (λ (l : List Act). IsVsSame m (configuration_after s m (by n l))) (sym are) (made_same s n (area_of back) head b t m)

-- A block is placed behind readings and the acts that made its subsegment.
pub served_left : (s : Setting) (n : ℕ) (back later : Kept) (b t d head i : ℕ) (its made : List Act) (m k : Configuration) → AreReadings its → CameBy back later b t d head i made
    → AgreesFor n k (configuration_after s m (by n (its ++ (made ++ place b head i ∷ [])))) → holds m.state.gate n whats.Vs ≡ true
    → (k.state.vs ≡ m.state.vs) × (vs_spans k.state.back.area ≡ vs_spans m.state.back.area)
served_left s n back later b t d head i its made m k are came r held =
    let read = configuration_after s m (by n its) in
    let more = configuration_after s read (by n made) in
    let ps : List Act = place b head i ∷ [] in
    let last = after s more (entry n (place b head i)) in
    let x = left s n its m are in
    let first : IsVsSame m read = record { gate = ap (λ (y : State). y.gate) x.0; vs = ap (λ (y : State). y.vs) x.0; spans = ap (λ (y : State). vs_spans y.back.area) x.0 } in
    let second : IsVsSame read more = came_same s n back later b t d head i made read came in
    let third : IsVsSame more last = record { gate = refl; vs = refl; spans = refl } in
    let all : IsVsSame m last = same_then m more last (same_then m read more first second) third in
    let is : configuration_after s m (by n (its ++ (made ++ ps))) ≡ last =
    ap (configuration_after s m) (by-append n its (made ++ ps))
    ∙ (after-append s m (by n its) (by n (made ++ ps)) ∙ (ap (configuration_after s read) (by-append n made ps) ∙ after-append s read (by n made) (entry n (place b head i) ∷ []))) in
    let q = subst (AgreesFor n k) is r in
    let h : holds last.state.gate n whats.Vs ≡ true = ap (λ (g : GateAndLocks). holds g n whats.Vs) all.gate ∙ held in
    (q.vs h ∙ all.vs, q.spans h ∙ all.spans)
