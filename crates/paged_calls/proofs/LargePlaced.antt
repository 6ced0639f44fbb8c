-- A block of the large area that is placed and handed over, under the lock.
use Rattle.std.proofs.Common.{◌≡◌, ℕ, ◌+◌, ◌*◌, ◌-◌, ◌/◌, ◌≤◌, Bool, true, List, [], ◌∷◌, ◌++◌, Option, Some, None, refl, sym, ap, ◌∙◌, subst, arith, ltb, inl, inr, eq-eqb}
use Rattle.std.specs.Prelude.{is_some}
use Rattle.std.proofs.lemmas.Bool.{cases_Bool, lt-leb, le-leb}
use Rattle.heap_model.specs.declared.Act.{Act}
use Rattle.heap_model.specs.declared.Act.TheVariants as acts
use Rattle.heap_model.specs.declared.Call.{Call}
use Rattle.heap_model.specs.declared.Call.TheVariants as calls
use Rattle.heap_model.specs.declared.Flags.{Flags}
use Rattle.heap_model.specs.declared.Layer.{Layer}
use Rattle.heap_model.specs.declared.Layer.TheVariants as layers
use Rattle.heap_model.specs.declared.Limits.{Limits}
use Rattle.heap_model.specs.declared.Opening.{Opening}
use Rattle.heap_model.specs.declared.What.TheVariants as whats
use Rattle.heap_model.specs.Geometry.{pages_of, words_of, route_of, is_huge}
use Rattle.heap_model.specs.Ranges.{large_place}
use Rattle.heap_model.specs.State.{State, Place, hands, in_hand, places_of, holds}
use Rattle.heap_model.specs.CallState.{Configuration, caller_view}
use Rattle.heap_model.specs.Legal.{leaves_whole, suits}
use Rattle.heap_model.specs.Layers.{StandsForLarge}
use Rattle.heap_model.specs.Shape.{zeroing}
use Rattle.claim_rule.specs.Entries.{setting_of, entry, may_prepare}
use Rattle.claim_rule.specs.Places.{large_slot, data_count}
use Rattle.claim_rule.proofs.Advance.{some_setting}
use Rattle.serial_laws.proofs.Allocate.{empty_parts}
use Rattle.call_laws.specs.Within.{IsWithin, LeadsTo}
use Rattle.call_laws.proofs.Exclusive.{allocation_holds_old}
use Rattle.call_laws.proofs.Places.{placing_large, refusing_large}
use Rattle.large_blocks.specs.declared.LargeBlock.{LargeBlock}
use Rattle.large_blocks.specs.Table.{LargeTable, layer_of, insert_block}
use Rattle.large_blocks.specs.Effects.{InEach, Becomes, with_block}
use Rattle.large_blocks.specs.Sound.{IsLaid, AreLaid, end_of}
use Rattle.heap_gate.specs.Token.{Token, Always, now, IsStanding, is_out}
use Rattle.heap_gate.specs.Calls.{with_prepared, HasGiven}
use Rattle.call_parts.specs.Calls.{HoldsLarge}
use Rattle.call_parts.proofs.Joining.{setting_before}
use Rattle.call_parts.proofs.Serving.{within}
use Rattle.call_parts.specs.Entries.{holding, HasNew, HasAdded, HasHandedOver}
use Rattle.paged_calls.specs.Parts.{HasPlaced}
use Rattle.call_parts.proofs.Tokens.{now_more, prepares, added_one, added_then}
use Rattle.call_parts.proofs.Handing.{new_place}
use Rattle.paged_calls.proofs.Shapes.{given_behind, placed_shows}

pub huge_route : (n : ℕ) → 520193 ≤ n → is_huge (route_of n) ≡ true
huge_route n l =
    let a = lt-leb n 16368 (omega arith) in
    let b = lt-leb n 131072 (omega arith) in
    let d = lt-leb n 520192 (omega arith) in
    rw (a, b, d) refl

-- a block that was taken lies in the area
laid_inserted : (l : Limits) (from : ℕ) (b : LargeBlock) (bs : List LargeBlock) → AreLaid l from (insert_block b bs) → (at : ℕ) × IsLaid l at b
laid_inserted l from b [] h = (from, h.0)
laid_inserted l from b (x ∷ xs) h = elim (cases_Bool (ltb b.addr x.addr)) [
  | inl e ↦ let k = rw e at h in (from, k.0)
  | inr e ↦ let k = rw e at h in laid_inserted l (end_of l x) b xs k.1
]

pub words_there : (l : Limits) (addr n : ℕ) (bs : List LargeBlock) → AreLaid l 0 (insert_block (record { addr = addr; size = n }) bs) → addr / 8 + words_of n ≤ data_count l
words_there l addr n bs h = let x = (laid_inserted l 0 (record { addr = addr; size = n }) bs h).1 in let a = x.aligned in let b = x.inside in omega arith

placed_hand : (st : State) (c addr n : ℕ) → hands st c ≡ [] → (layer : Layer) → in_hand c (places_of (record st { large = new_place c layers.Large addr (256 * pages_of n) ∷ st.large }) layer) ≡ holding (new_place c layers.Large addr (256 * pages_of n)) layer
placed_hand st c addr n e layer = by layer
  where
    one : (in_hand c st.lfh ++ in_hand c st.vs.places ++ in_hand c st.back.places ≡ []) × (in_hand c st.large ≡ [])
    one = empty_parts (in_hand c st.lfh ++ in_hand c st.vs.places ++ in_hand c st.back.places) (in_hand c st.large) e

    two : (in_hand c st.lfh ++ in_hand c st.vs.places ≡ []) × (in_hand c st.back.places ≡ [])
    two = empty_parts (in_hand c st.lfh ++ in_hand c st.vs.places) (in_hand c st.back.places) one.0

    three : (in_hand c st.lfh ≡ []) × (in_hand c st.vs.places ≡ [])
    three = empty_parts (in_hand c st.lfh) (in_hand c st.vs.places) two.0

    by : (l : Layer) → in_hand c (places_of (record st { large = new_place c layers.Large addr (256 * pages_of n) ∷ st.large }) l) ≡ holding (new_place c layers.Large addr (256 * pages_of n)) l
    by layers.Lfh = three.0
    by layers.Vs = three.1
    by layers.Back = two.1
    by layers.Large = let k = eq-eqb c c refl in rw k (ap (λ (ps : List Place). new_place c layers.Large addr (256 * pages_of n) ∷ ps) one.1)

large_suits : (c addr n : ℕ) → is_huge (route_of n) ≡ true → suits n (new_place c layers.Large addr (256 * pages_of n)) ≡ true
large_suits c addr n h =
    let a = le-leb n (16 * (256 * pages_of n)) (omega arith) in
    let b = eq-eqb (256 * pages_of n) (256 * pages_of n) refl in
    rw (a, h, b) refl

module _ (k : Token) (flags : Flags) (large : LargeTable) (n : ℕ) (h : HoldsLarge k (calls.Alloc n flags) large) (st : IsStanding k) (huge : is_huge (route_of n) ≡ true) where
  abbrev call : Call
  call = calls.Alloc n flags

  within_now : Always k (λ s. IsWithin (now s k) k.number call)
  within_now = within k call st h.serving.inside h.serving.call_is h.serving.whole

  held_now : Always k (λ s. (caller_view (now s k) k.number).large ≡ true)
  held_now s q = (st s q).locks whats.Large ∙ ap (is_out whats.Large) h.serving.out_is

  fits_now : (o : Option ℕ) → InEach large (λ o' st'. o ≡ large_place o'.limits st'.large (pages_of n)) → Always k (λ s. large_place s.limits (now s k).state.large (pages_of n) ≡ o)
  fits_now o f s q = ap (λ (l : Limits). large_place l (now s k).state.large (pages_of n)) q.limits ∙ sym (f k.opening (now s k).state (h.tells s q))

  module _ (addr : ℕ) (fits : InEach large (λ o' st'. Some addr ≡ large_place o'.limits st'.large (pages_of n))) where
    abbrev place : Act
    place = acts.Place addr (256 * pages_of n) layers.Large

    abbrev pub large_new : Place
    large_new = new_place k.number layers.Large addr (256 * pages_of n)

    abbrev pub large_token : Token
    large_token = with_prepared k place

    leads_now : Always k (λ s. LeadsTo s (now s k) k.number call place (record (now s k).state { large = large_new ∷ (now s k).state.large }))
    leads_now s q = placing_large s (now s k) k.number call n addr (within_now s q) (held_now s q) refl huge (fits_now (Some addr) fits s q)

    pub place_may : Always k (λ s. may_prepare s (now s k) k.number place ≡ true)
    place_may s q = prepares s (now s k) k.number place refl refl (leads_now s q).may

    state_now : Always k (λ s. (now s large_token).state ≡ record (now s k).state { large = large_new ∷ (now s k).state.large })
    state_now s q = ap (λ (m : Configuration). m.state) (now_more s k place) ∙ (leads_now s q).state

    new_block : HasNew large_token large_new addr n
    new_block = record {
      at = refl;
      suits_it = large_suits k.number addr n huge;
      behind = refl;
      status = refl;
      inside = h.serving.inside;
      whole = refl;
      begun = ap is_some h.serving.call_is;
      hand = λ s q layer. ap (λ (x : State). in_hand k.number (places_of x layer)) (state_now s q) ∙ placed_hand (now s k).state k.number addr n ((st s q).hands h.serving.free) layer;
      open_to = λ s q. ap (λ (x : State). holds x.gate k.number whats.Large) (state_now s q) ∙ held_now s q;
    }

    module _ (t : Token) (et : t ≡ large_token) where
      pub large_here : HasNew t large_new addr n
      large_here = subst (λ (x : Token). HasNew x large_new addr n) (sym et) new_block

      module _ (d : Token) (zero_it : Bool) (over : (p : Place) → HasNew t p addr n → HasHandedOver t d p n zero_it) where
        over_it : HasHandedOver large_token d large_new n zero_it
        over_it = subst (λ (x : Token). HasHandedOver x d large_new n zero_it) et (over large_new large_here)

        pub large_added : HasAdded k d (place ∷ (zeroing zero_it addr n ++ acts.Give addr n ∷ []))
        large_added = added_then k large_token d (place ∷ []) (zeroing zero_it addr n ++ acts.Give addr n ∷ []) (added_one k place refl) over_it.added

        pub large_out : d.out ≡ large_slot ∷ []
        large_out = over_it.out_is ∙ h.serving.out_is

        pub large_inside : d.inside ≡ true
        large_inside = large_added.steady.inside ∙ h.serving.inside

        pub large_whole : d.whole ≡ true
        large_whole = over_it.whole

        pub large_tells : (new : LargeTable) → Becomes large new (λ ps. with_block ps addr n) → Always d (λ s. (leaves_whole (now s d).state whats.Large ≡ true) × StandsForLarge d.opening (now s d).state (layer_of new))
        large_tells new becomes s q =
            let qt = setting_before large_token d _ over_it.added.goes s q in
            let given = (over_it.given s q).large (now s k).state.large refl (ap (λ (x : State). x.large) (state_now s qt)) in
            let t' = becomes k.opening (now s k).state (now s d).state (h.tells s qt) given in
            (refl, subst (λ (x : Opening). StandsForLarge x (now s d).state (layer_of new)) (sym over_it.added.goes.opening) t')

        pub large_placed : (b : Token) → HasGiven d b whats.Large (entry d.number (acts.GiveLock whats.Large) ∷ []) → HasPlaced k b addr n zero_it
        large_placed b g =
            placed_shows k b (place ∷ []) addr (256 * pages_of n) layers.Large addr n zero_it whats.Large refl refl refl
            (given_behind k d b whats.Large (place ∷ (zeroing zero_it addr n ++ acts.Give addr n ∷ [])) [] large_added g large_out over_it.free)

  module _ (fits : InEach large (λ o' st'. None ≡ large_place o'.limits st'.large (pages_of n))) where
    abbrev refused_token : Token
    refused_token = with_prepared k (acts.NoFit n)

    pub large_refused : Always k (λ s. may_prepare s (now s k) k.number (acts.NoFit n) ≡ true)
    large_refused s q =
        prepares s (now s k) k.number (acts.NoFit n) (allocation_holds_old (now s k) k.number n flags (within_now s q).call_is) refl
        (refusing_large s (now s k) k.number call n (within_now s q) (held_now s q) refl huge (fits_now None fits s q)).may

    pub large_refused_tells : (new : LargeTable) → new ≡ large → Always refused_token (λ s. (leaves_whole (now s refused_token).state whats.Large ≡ true) × StandsForLarge refused_token.opening (now s refused_token).state (layer_of new))
    large_refused_tells new e s q =
        let t = subst (λ (m : Configuration). StandsForLarge k.opening m.state (layer_of large)) (sym (now_more s k (acts.NoFit n))) (h.tells s q) in
        (refl, subst (λ (x : LargeTable). StandsForLarge k.opening (now s refused_token).state (layer_of x)) (sym e) t)

-- the limits that the table was made for are the heap's
pub large_limits : (c : Token) (large : LargeTable) → Always c (λ s. StandsForLarge c.opening (now s c).state (layer_of large)) → large.limits ≡ c.opening.limits
large_limits c large t = (t (setting_of c.opening c.roll) (some_setting c.opening c.roll)).limits
