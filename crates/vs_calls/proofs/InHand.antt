-- A new block of VS in hand: it may be given, and once it is given the layer tells it.
use Rattle.std.proofs.Common.{◌≡◌, ◌⊎◌, ℕ, ◌+◌, ◌-◌, ◌*◌, ◌≤◌, Bool, true, ◌==◌, List, [], ◌∷◌, refl, sym, ap, subst, ◌∙◌, arith, eq-eqb, le-leb, inl, inr}
use Rattle.std.specs.Prelude.{is_some}
use Rattle.std.specs.List.{list_all}
use Rattle.std.proofs.lemmas.Bool.{or_right}
use Rattle.heap_model.specs.declared.Layer.{Layer}
use Rattle.heap_model.specs.declared.Layer.TheVariants as layers
use Rattle.heap_model.specs.declared.Opening.{Opening}
use Rattle.heap_model.specs.declared.What.TheVariants as whats
use Rattle.heap_model.specs.Buckets.{bucket_of}
use Rattle.heap_model.specs.Geometry.{units_of}
use Rattle.heap_model.specs.Layers.{StandsForVs}
use Rattle.heap_model.specs.Legal.{suits, serve, lies_in, has_place, leaves_whole}
use Rattle.heap_model.specs.Ranges.{vs_spans}
use Rattle.heap_model.specs.Runs.{Run}
use Rattle.heap_model.specs.State.{Setting, State, Span, Place, hands, in_hand, places_of, holds}
use Rattle.vs_layer.specs.Kept.{VsKept, block_in}
use Rattle.vs_layer.specs.Standing.{layer_of, with_block}
use Rattle.heap_gate.specs.Token.{Token, Always, now}
use Rattle.call_parts.specs.Entries.{holding, HasNew, HasHandedOver}
use Rattle.call_parts.proofs.Handing.{new_place}
use Rattle.call_parts.proofs.Joining.{setting_before}
use Rattle.call_parts.proofs.VsBlocks.{HasNothing, has_nothing}
use Rattle.vs_calls.proofs.SpansUsed.{true_from, true_at}

---- The place

-- the state with the place of a new block in hand
abbrev pub with_hand : State → ℕ → ℕ → Run → State
with_hand st c n r = record st { vs = record { places = new_place c layers.Vs (16 * r.first) r.count ∷ st.vs.places; active = st.vs.active; served = serve (bucket_of n) st.vs.served } }

-- a block of n bytes may be there
pub suits_run : (n c : ℕ) (r : Run) → n ≤ 131072 → (r.count ≡ units_of n) ⊎ (r.count ≡ units_of n + 1) → suits n (new_place c layers.Vs (16 * r.first) r.count) ≡ true
suits_run n c r l (inl e) =
    let a = le-leb n (16 * r.count - 16) (omega arith) in
    let b = le-leb n 131072 l in
    let d = eq-eqb r.count (units_of n) e in
    rw (a, b, d) refl
suits_run n c r l (inr e) =
    let a = le-leb n (16 * r.count - 16) (omega arith) in
    let b = le-leb n 131072 l in
    let d = eq-eqb r.count (units_of n + 1) e in
    rw (a, b, d) (or_right (r.count == units_of n) true refl)

hand_of : (st : State) (c n : ℕ) (r : Run) → hands st c ≡ [] → (layer : Layer) → in_hand c (places_of (with_hand st c n r) layer) ≡ holding (new_place c layers.Vs (16 * r.first) r.count) layer
hand_of st c n r e layer = by layer
  where
    none : HasNothing st c
    none = has_nothing st c e

    by : (l : Layer) → in_hand c (places_of (with_hand st c n r) l) ≡ holding (new_place c layers.Vs (16 * r.first) r.count) l
    by layers.Lfh = none.lfh
    by layers.Vs = let k = eq-eqb c c refl in rw k (ap (λ (ps : List Place). new_place c layers.Vs (16 * r.first) r.count ∷ ps) none.vs)
    by layers.Back = none.back
    by layers.Large = none.large

-- one more place takes none from a span
pub used_more : (p : Place) (ps : List Place) (xs : List Span) → list_all (has_place 4096 ps) xs ≡ true → list_all (has_place 4096 (p ∷ ps)) xs ≡ true
used_more p ps xs h = true_from (has_place 4096 (p ∷ ps)) xs (λ y i. or_right (lies_in 4096 y p) (has_place 4096 ps y) (true_at (has_place 4096 ps) xs y h i))

---- The caller

-- All that the caller has in hand is a new block of n bytes, whose place was put in front of those of VS in this state. Once the block is given the layer
-- tells it, and each span of VS has a place.
pub record HasNewBlock (t : Token) (before : Setting → State) (later : VsKept) (n addr : ℕ) (run : Run) : Type 0 where
  pub at : addr ≡ 16 * run.first + 16
  pub size : n ≤ 131072
  pub count : (run.count ≡ units_of n) ⊎ (run.count ≡ units_of n + 1)
  pub inside : t.inside ≡ true
  pub whole : t.whole ≡ true
  pub begun : is_some t.call ≡ true
  pub state : Always t (λ s. (now s t).state ≡ with_hand (before s) t.number n run)
  pub none : Always t (λ s. hands (before s) t.number ≡ [])
  pub held : Always t (λ s. holds (before s).gate t.number whats.Vs ≡ true)
  pub tells : Always t (λ s. (k : State) → k.vs ≡ with_block (before s).vs run n → vs_spans k.back.area ≡ vs_spans (before s).back.area → StandsForVs t.opening k (layer_of later))
  pub used : Always t (λ s. list_all (has_place 4096 (block_in run n ∷ (before s).vs.places)) (vs_spans (before s).back.area) ≡ true)

module _ (t : Token) (before : Setting → State) (later : VsKept) (n addr : ℕ) (run : Run) (h : HasNewBlock t before later n addr run) where
  abbrev pub place : Place
  place = new_place t.number layers.Vs (16 * run.first) run.count

  pub new_block : HasNew t place addr n
  new_block = record {
    at = sym h.at;
    suits_it = suits_run n t.number run h.size h.count;
    behind = refl;
    status = refl;
    inside = h.inside;
    whole = h.whole;
    begun = h.begun;
    hand = λ s q layer. ap (λ (x : State). in_hand t.number (places_of x layer)) (h.state s q) ∙ hand_of (before s) t.number n run (h.none s q) layer;
    open_to = λ s q. ap (λ (x : State). holds x.gate t.number whats.Vs) (h.state s q) ∙ h.held s q;
  }

  module _ (d : Token) (zero_it : Bool) (over : HasHandedOver t d place n zero_it) where
    -- the part of VS and its spans are then
    pub given_vs_part : Always d (λ s. (now s d).state.vs ≡ with_block (before s).vs run n)
    given_vs_part s q =
        let qt = setting_before t d _ over.added.goes s q in
        let st = h.state s qt in
        (over.given s q).vs (before s).vs.places refl (ap (λ (x : State). x.vs.places) st)
        ∙ (λ i. record { places = block_in run n ∷ (before s).vs.places; active = (st i).vs.active; served = (st i).vs.served })

    pub given_spans : Always d (λ s. vs_spans (now s d).state.back.area ≡ vs_spans (before s).back.area)
    given_spans s q =
        let qt = setting_before t d _ over.added.goes s q in
        (over.given s q).spans refl ∙ ap (λ (x : State). vs_spans x.back.area) (h.state s qt)

    pub given_tells : Always d (λ s. (leaves_whole (now s d).state whats.Vs ≡ true) × StandsForVs d.opening (now s d).state (layer_of later))
    given_tells s q =
        let qt = setting_before t d _ over.added.goes s q in
        let v = given_vs_part s q in let x = given_spans s q in (
          (λ i. list_all (has_place 4096 (v i).places) (x i)) ∙ h.used s qt,
          subst (λ (o : Opening). StandsForVs o (now s d).state (layer_of later)) (sym over.added.goes.opening) (h.tells s qt (now s d).state v x),
        )
