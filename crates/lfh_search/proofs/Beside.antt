-- What a caller holds stays, beside spans and blocks of the front end.
use Rattle.std.proofs.Common.{◌≡◌, ℕ, ◌/◌, false, List, [], ◌∷◌, ◌++◌, refl, sym, ap, ◌∙◌, subst, inl, inr}
use Rattle.std.specs.Prelude.{nat_lt}
use Rattle.std.proofs.lemmas.Bool.{cases_Bool, false≢true}
use Rattle.heap_model.specs.declared.Act.{Act}
use Rattle.heap_model.specs.declared.Act.TheVariants as acts
use Rattle.heap_model.specs.declared.Kind.TheVariants as kinds
use Rattle.heap_model.specs.declared.Layer.{Layer}
use Rattle.heap_model.specs.declared.Layer.TheVariants as layers
use Rattle.heap_model.specs.declared.What.{What}
use Rattle.heap_model.specs.declared.What.TheVariants as whats
use Rattle.heap_model.specs.Buckets.{bucket_pages}
use Rattle.heap_model.specs.Ranges.{vs_spans, is_of_kind}
use Rattle.heap_model.specs.State.{Setting, State, Area, BackPart, VsPart, GateAndLocks, holds, in_hand, places_of, is_layer}
use Rattle.heap_model.specs.CallState.{Configuration}
use Rattle.heap_model.specs.Legal.{after}
use Rattle.heap_model.specs.History.{configuration_after}
use Rattle.heap_model.specs.Agreement.{AgreesFor}
use Rattle.heap_model.proofs.ListLemmas.{filter-insert_span}
use Rattle.claim_rule.specs.Entries.{entry}
use Rattle.claim_rule.proofs.Lists.{after-append}
use Rattle.backend_fit.specs.Kept.{Kept, area_of}
use Rattle.lfh_search.specs.Acts.{by, AreReadings}
use Rattle.lfh_search.specs.Results.{place}
use Rattle.lfh_search.specs.Under.{CameBy, Found, Made, makes}
use Rattle.lfh_search.specs.Both.{IsBeside}
use Rattle.lfh_search.proofs.Steps.{by-append}
use Rattle.lfh_search.proofs.Words.{left}

-- all but spans and blocks of the front end is the same
record IsLike (m k : Configuration) : Type 0 where
  pub gate : k.state.gate ≡ m.state.gate
  pub vs : k.state.vs ≡ m.state.vs
  pub spans : vs_spans k.state.back.area ≡ vs_spans m.state.back.area
  pub back : k.state.back.places ≡ m.state.back.places
  pub large : k.state.large ≡ m.state.large

like_then : (l m k : Configuration) → IsLike l m → IsLike m k → IsLike l k
like_then l m k x y = record { gate = y.gate ∙ x.gate; vs = y.vs ∙ x.vs; spans = y.spans ∙ x.spans; back = y.back ∙ x.back; large = y.large ∙ x.large }

beside_by : (n : ℕ) (m m' k : Configuration) → IsLike m m' → AgreesFor n k m' → IsBeside n m k
beside_by n m m' k a r = record {
  locks = λ w. r.locks w ∙ held w;
  vs = λ h. r.vs (held whats.Vs ∙ h) ∙ a.vs;
  spans = λ h. r.spans (held whats.Vs ∙ h) ∙ a.spans;
  back = λ h. ap (λ (b : BackPart). b.places) (r.back (held whats.Back ∙ h)) ∙ a.back;
  large = λ h. r.large (held whats.Large ∙ h) ∙ a.large;
  hand = hand;
}
  where
    held : (w : What) → holds m'.state.gate n w ≡ holds m.state.gate n w
    held w = ap (λ (g : GateAndLocks). holds g n w) a.gate

    hand : (layer : Layer) → is_layer layer layers.Lfh ≡ false → in_hand n (places_of k.state layer) ≡ in_hand n (places_of m.state layer)
    hand layers.Lfh e = absurd (false≢true (sym e))
    hand layers.Vs e = r.hands layers.Vs ∙ ap (λ (v : VsPart). in_hand n v.places) a.vs
    hand layers.Back e = r.hands layers.Back ∙ ap (in_hand n) a.back
    hand layers.Large e = r.hands layers.Large ∙ ap (in_hand n) a.large

pub beside_self : (n : ℕ) (m : Configuration) → IsBeside n m m
beside_self n m = record { locks = λ w. refl; vs = λ h. refl; spans = λ h. refl; back = λ h. refl; large = λ h. refl; hand = λ l e. refl }

pub beside_then : (n : ℕ) (l m k : Configuration) → IsBeside n l m → IsBeside n m k → IsBeside n l k
beside_then n l m k x y = record {
  locks = λ w. y.locks w ∙ x.locks w;
  vs = λ h. y.vs (x.locks whats.Vs ∙ h) ∙ x.vs h;
  spans = λ h. y.spans (x.locks whats.Vs ∙ h) ∙ x.spans h;
  back = λ h. y.back (x.locks whats.Back ∙ h) ∙ x.back h;
  large = λ h. y.large (x.locks whats.Large ∙ h) ∙ x.large h;
  hand = λ l e. y.hand l e ∙ x.hand l e;
}

---- Acts that leave it

read_like : (s : Setting) (n : ℕ) (its : List Act) (m : Configuration) → AreReadings its → IsLike m (configuration_after s m (by n its))
read_like s n its m are =
    let x = left s n its m are in
    record { gate = ap (λ (y : State). y.gate) x.0; vs = ap (λ (y : State). y.vs) x.0; spans = ap (λ (y : State). vs_spans y.back.area) x.0; back = ap (λ (y : State). y.back.places) x.0; large = ap (λ (y : State). y.large) x.0 }

-- readings
pub read_beside : (s : Setting) (n : ℕ) (its : List Act) (m k : Configuration) → AreReadings its → AgreesFor n k (configuration_after s m (by n its)) → IsBeside n m k
read_beside s n its m k are r = beside_by n m (configuration_after s m (by n its)) k (read_like s n its m are) r

-- NoSpan
pub said_beside : (s : Setting) (n b : ℕ) (m : Configuration) → IsBeside n m (after s m (entry n (acts.NoSpan b)))
said_beside s n b m = record { locks = λ w. refl; vs = λ h. refl; spans = λ h. refl; back = λ h. refl; large = λ h. refl; hand = λ l e. refl }

span_like : (s : Setting) (n first pages b t : ℕ) (m : Configuration) → IsLike m (after s m (entry n (acts.Span first pages kinds.Lfh b t)))
span_like s n first pages b t m = record {
  gate = refl;
  vs = refl;
  spans = filter-insert_span (is_of_kind kinds.Vs) (record { first = first; pages = pages; kind = kinds.Lfh; bucket = b; slot = t }) m.state.back.area.spans refl;
  back = refl;
  large = refl;
}

reserve_like : (s : Setting) (n segment : ℕ) (m : Configuration) → IsLike m (after s m (entry n (acts.Reserve segment)))
reserve_like s n segment m = record { gate = refl; vs = refl; spans = refl; back = refl; large = refl }

made_like : (s : Setting) (n : ℕ) (a : Area) (first b t : ℕ) (m : Configuration) → IsLike m (configuration_after s m (by n (makes a first b t)))
made_like s n a first b t m = elim (cases_Bool (nat_lt (first / 256) a.reserved)) [
  | inl e ↦ rw e (span_like s n first (bucket_pages b) b t m)
  | inr e ↦
      let one = after s m (entry n (acts.Reserve a.reserved)) in
      rw e (like_then m one (after s one (entry n (acts.Span first (bucket_pages b) kinds.Lfh b t))) (reserve_like s n a.reserved m) (span_like s n first (bucket_pages b) b t one))
]

came_like : (s : Setting) (n : ℕ) (back later : Kept) (b t d head i : ℕ) (made : List Act) (m : Configuration) → CameBy back later b t d head i made → IsLike m (configuration_after s m (by n made))
came_like s n back later b t d head i made m (Found there none same) = subst (λ (l : List Act). IsLike m (configuration_after s m (by n l))) (sym none) (record { gate = refl; vs = refl; spans = refl; back = refl; large = refl })
came_like s n back later b t d head i made m (Made room are drawn) = subst (λ (l : List Act). IsLike m (configuration_after s m (by n l))) (sym are) (made_like s n (area_of back) head b t m)

-- a block is placed behind readings and the acts that made its subsegment
pub served_beside : (s : Setting) (n : ℕ) (back later : Kept) (b t d head i : ℕ) (its made : List Act) (m k : Configuration) → AreReadings its → CameBy back later b t d head i made
    → AgreesFor n k (configuration_after s m (by n (its ++ (made ++ place b head i ∷ [])))) → IsBeside n m k
served_beside s n back later b t d head i its made m k are came r =
    let read = configuration_after s m (by n its) in
    let more = configuration_after s read (by n made) in
    let ps : List Act = place b head i ∷ [] in
    let last = after s more (entry n (place b head i)) in
    let third : IsLike more last = record { gate = refl; vs = refl; spans = refl; back = refl; large = refl } in
    let all : IsLike m last = like_then m more last (like_then m read more (read_like s n its m are) (came_like s n back later b t d head i made read came)) third in
    let is : configuration_after s m (by n (its ++ (made ++ ps))) ≡ last =
    ap (configuration_after s m) (by-append n its (made ++ ps))
    ∙ (after-append s m (by n its) (by n (made ++ ps)) ∙ (ap (configuration_after s read) (by-append n made ps) ∙ after-append s read (by n made) (entry n (place b head i) ∷ []))) in
    beside_by n m last k all (subst (AgreesFor n k) is r)
