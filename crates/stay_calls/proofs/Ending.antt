-- How a block that is found under its layer's lock ends: resized where it is, left as it was, or to be moved.
use Rattle.std.proofs.Common.{◌≡◌, ℕ, zero, suc, ◌+◌, ◌-◌, ◌/◌, ◌≤◌, Bool, true, false, not, List, [], ◌∷◌, ◌++◌, length, Some, refl, sym, ap, ◌∙◌, subst, arith, inl}
use Rattle.std.specs.Prelude.{is_some}
use Rattle.std.specs.List.{find, list_any}
use Rattle.std.proofs.lemmas.Bool.{true≢false}
use Rattle.heap_model.specs.declared.Act.{Act}
use Rattle.heap_model.specs.declared.Act.TheVariants as acts
use Rattle.heap_model.specs.declared.Call.{Call}
use Rattle.heap_model.specs.declared.Call.TheVariants as calls
use Rattle.heap_model.specs.declared.Flags.{Flags}
use Rattle.heap_model.specs.Geometry.{words_of}
use Rattle.heap_model.specs.State.{State, Place, Live, is_layer, has_address, places_of, hands}
use Rattle.heap_model.specs.CallState.{Configuration}
use Rattle.heap_model.specs.History.{configuration_of}
use Rattle.heap_model.specs.declared.Layer.{Layer}
use Rattle.heap_model.specs.declared.Layer.TheVariants as layers
use Rattle.heap_model.specs.Shape.{shape_of, zeros, zeroing_more, is_resize, is_sized, Finds}
use Rattle.claim_rule.specs.Entries.{IsLegalWith, may_prepare}
use Rattle.heap_gate.specs.Token.{Token, Always, now, IsStanding}
use Rattle.heap_gate.specs.Calls.{with_prepared, rested, HasRested}
use Rattle.call_parts.specs.Calls.{IsServing, Makes}
use Rattle.call_parts.specs.Entries.{HasEnded}
use Rattle.call_parts.proofs.Handing.{HasZeroed}
use Rattle.call_parts.proofs.Joining.{goes_none, setting_before}
use Rattle.call_parts.proofs.Serving.{none_begins, none_begins-append, shape-append}
use Rattle.address_calls.specs.Finds.{Looks}
use Rattle.call_parts.proofs.Tokens.{now_more, added_none, added_one, added_rested, added_then, ended_then, makes}
use Rattle.stay_calls.specs.Stays.{StaysAt, HasNoRoomAt, HasToMove}
use Rattle.stay_calls.proofs.Histories.{met, met_agrees, found_before, shown_added}
use Rattle.stay_calls.proofs.Finding.{IsFoundAt, MayGrow, kept_by, finds, finds_kept, grow_kept, sized_may, resize_may, rests, state_is, with_length}

---- Zeroes among a shape

pub zeros_shown : (zero_it : Bool) (word count : ℕ) → shape_of (zeros zero_it word count) ≡ zeros zero_it word count
zeros_shown false word count = refl
zeros_shown true word zero = refl
zeros_shown true word (suc count) = ap (λ (l : List Act). acts.Store word 0 ∷ l) (zeros_shown true (word + 1) count)

pub zeros_no_begin : (zero_it : Bool) (word count : ℕ) → none_begins (zeros zero_it word count) ≡ true
zeros_no_begin false word count = refl
zeros_no_begin true word zero = refl
zeros_no_begin true word (suc count) = zeros_no_begin true (word + 1) count

-- none of them passes a test that no Store passes
pub zeros_none : (test : Act → Bool) → ((w v : ℕ) → test (acts.Store w v) ≡ false) → (zero_it : Bool) (word count : ℕ) → list_any test (zeros zero_it word count) ≡ false
zeros_none test h false word count = refl
zeros_none test h true word zero = refl
zeros_none test h true word (suc count) = let a = h word 0 in let b = zeros_none test h true (word + 1) count in rw (a, b) refl

nothing_left : {A : Type 0} (xs : List A) → length xs ≤ 0 → xs ≡ []
nothing_left [] h = refl
nothing_left (x ∷ xs) h = absurd (let no : ⊥ = omega (arith, h) in no)

---- Flags

pub is_off : (b : Bool) → not b ≡ true → b ≡ false
is_off true h = absurd (true≢false (sym h))
is_off false h = refl

pub is_on : (b : Bool) → not b ≡ false → b ≡ true
is_on true h = refl
is_on false h = absurd (true≢false h)

---- What is found

-- nothing was done to find it
pub looks_none : (c : Token) → Looks c c
looks_none c = record { rest = []; added = added_none c; no_begin = refl; no_move = refl; shape_is = refl }

-- The caller finds so, in each setting that it knows of.
abbrev pub AllFound : Token → ℕ → Place → ℕ → ℕ → Bool → Type 0
AllFound c addr p size n stays = Always c (λ s. IsFoundAt s (now s c) c.number addr p size n stays)

abbrev pub AllGrow : Token → ℕ → Place → ℕ → ℕ → ℕ → Type 0
AllGrow c addr p size n granules = Always c (λ s. MayGrow s (now s c) c.number addr p size n granules)

pub has_to_move : (c : Token) (addr : ℕ) (p : Place) (size n : ℕ) (layer : Layer) → p.layer ≡ layer → p.status ≡ Live size → is_layer p.layer layers.Lfh ≡ false → Always c (λ s. find (has_address addr) (places_of (now s c).state p.layer) ≡ Some p) → AllFound c addr p size n false
    → HasToMove c layer addr size n
has_to_move c addr p size n layer e live behind there x = (
  p,
  e,
  record { live = live; behind = behind; there = there; touch = λ s q. (x s q).touch; leaves = λ s q. (x s q).stays_is },
  λ s q. finds s (now s c) c.number addr p size n false (x s q),
)

---- It is resized

module _ (k b : Token) (addr : ℕ) (p : Place) (size n granules : ℕ) (flags : Flags) (out : List ℕ) (own_call : Call) (v : IsServing k own_call out) (z : HasZeroed k b (addr / 8 + words_of size) (words_of n - words_of size) flags.zero) where
  abbrev zs : List Act
  zs = zeroing_more flags.zero addr size n

  pub nothing_prepared : b.prepared ≡ []
  nothing_prepared = let e = ap length v.prepared in let r = z.room in nothing_left b.prepared (omega (arith, e, r))

  pub grow_later : AllGrow k addr p size n granules → AllGrow b addr p size n granules
  grow_later x s q =
      let qk = setting_before k b zs z.added.goes s q in
      subst (λ (c : ℕ). MayGrow s (now s b) c addr p size n granules) (sym z.added.goes.number) (grow_kept s (now s k) (now s b) k.number addr p size n granules (x s qk) (z.kept s q))

  module _ (x : AllGrow b addr p size n granules) (sk : IsStanding k) (st : IsStanding b) where
    abbrev resize : Act
    resize = acts.Resize addr granules n

    entered_now : Always b (λ s. Rattle.heap_model.specs.State.is_entered (now s b).state.gate b.number ≡ true)
    entered_now s q = (st s q).entered ∙ (z.added.steady.inside ∙ v.inside)

    begun_now : Always b (λ s. is_some ((now s b).now.calls b.number).call ≡ true)
    begun_now s q = ap is_some ((st s q).call ∙ (z.added.steady.call ∙ v.call_is))

    pub grow_may : Always b (λ s. may_prepare s (now s b) b.number resize ≡ true)
    grow_may s q = resize_may s (now s b) b.number addr p size n granules (x s q) (entered_now s q) (begun_now s q) ((st s q).demand z.whole)

    -- what is left then
    pub grown_state : Always b (λ s. (now s (with_prepared b resize)).state ≡ with_length (now s b).state p addr granules n)
    grown_state s q = ap (λ (m : Configuration). m.state) (now_more s b resize) ∙ state_is s (now s b) b.number addr p size n granules (x s q) (entered_now s q) (begun_now s q) ((st s q).demand z.whole)

    none_now : Always b (λ s. hands (now s b).state b.number ≡ [])
    none_now s q =
        let qk = setting_before k b zs z.added.goes s q in let y = z.kept s q in
        let same : hands (now s b).state k.number ≡ hands (now s k).state k.number = (λ i. y.hand layers.Lfh i ++ y.hand layers.Vs i ++ y.hand layers.Back i ++ y.hand layers.Large i) in
        subst (λ (c : ℕ). hands (now s b).state c ≡ []) (sym z.added.goes.number) (same ∙ (sk s qk).hands v.free)

    abbrev pub grown : Token
    grown = with_prepared b resize

    pub grown_rests : Always grown (λ s. HasRested (now s grown) grown.number)
    grown_rests s q =
        subst (λ (m : Configuration). HasRested m b.number) (sym (now_more s b resize))
        (rests s (now s b) b.number addr p size n granules (x s q) (entered_now s q) (begun_now s q) ((st s q).demand z.whole) (none_now s q))

    module _ (d : Token) (more : List Act) (nb : none_begins more ≡ true) (sh : shape_of more ≡ []) (e : HasEnded (rested grown) d more []) (legal : IsLegalWith d.opening d.roll d.seen) (call_is : k.call ≡ Some (calls.Realloc addr n flags)) where
      abbrev call : Call
      call = calls.Realloc addr n flags

      behind : HasEnded b d (resize ∷ more) []
      behind = ended_then b (rested grown) d (resize ∷ []) more [] (added_then b grown (rested grown) (resize ∷ []) [] (added_one b resize refl) (added_rested grown)) e

      whole : HasEnded k d (zs ++ resize ∷ more) []
      whole = ended_then k b d zs (resize ∷ more) [] z.added behind

      shape_is : shape_of (zs ++ resize ∷ more) ≡ zs ++ resize ∷ []
      shape_is = shape-append zs (resize ∷ more) ∙ (λ i. zeros_shown flags.zero (addr / 8 + words_of size) (words_of n - words_of size) i ++ resize ∷ sh i)

      made : Makes k d call (zs ++ resize ∷ [])
      made =
          makes k d call own_call out (zs ++ resize ∷ more) (zs ++ resize ∷ []) v call_is whole
          (none_begins-append zs (resize ∷ more) (zeros_no_begin flags.zero (addr / 8 + words_of size) (words_of n - words_of size)) nb) shape_is

      pub stays_at : StaysAt k d addr n flags
      stays_at = record {
        shape = zs ++ resize ∷ [];
        makes = made;
        told = λ s q.
            let qb = setting_before b d (resize ∷ more) behind.added.goes s q in
            let y = x s qb in
            let g = behind.added.goes in
            let met_is = met b d resize more g nothing_prepared e.prepared legal s in
            let same = kept_by b.number (now s b) met_is (met_agrees b d resize more g nothing_prepared e.prepared legal s q) in
            inl (record {
              old = p;
              size = size;
              granules = granules;
              live = y.found.live;
              stays = found_before b d resize more g nothing_prepared e.prepared legal s q k zs z.added.goes v.prepared made.goes.seen is_resize refl
                  (zeros_none is_resize (λ w u. refl) flags.zero (addr / 8 + words_of size) (words_of n - words_of size)) (Finds s k.number addr n p true)
                  (subst (λ (c : ℕ). Finds s c addr n p true met_is.state) z.added.goes.number (finds_kept s (now s b) b.number addr p size n true y.found met_is same));
              acts_are = shown_added k d (zs ++ resize ∷ more) whole.added.goes v.prepared e.prepared made.goes.seen s (configuration_of s k.seen) ∙ shape_is;
            });
      }

---- It is as it was

module _ (k : Token) (addr : ℕ) (p : Place) (size n : ℕ) (flags : Flags) (out : List ℕ) (own_call : Call) (v : IsServing k own_call out) (x : AllFound k addr p size n false) (sk : IsStanding k) where
  abbrev sized : Act
  sized = acts.Sized addr size

  pub leave_may : Always k (λ s. may_prepare s (now s k) k.number sized ≡ true)
  leave_may s q = let a = sk s q in sized_may s (now s k) k.number addr p size n false (x s q) (a.entered ∙ v.inside) (ap is_some (a.call ∙ v.call_is)) (a.demand v.whole)

  module _ (d : Token) (more : List Act) (nb : none_begins more ≡ true) (sh : shape_of more ≡ []) (e : HasEnded (with_prepared k sized) d more []) (legal : IsLegalWith d.opening d.roll d.seen)
      (call_is : k.call ≡ Some (calls.Realloc addr n flags)) (in_place : flags.in_place ≡ true) where
    all : HasEnded k d (sized ∷ more) []
    all = ended_then k (with_prepared k sized) d (sized ∷ []) more [] (added_one k sized refl) e

    sized_shape : shape_of (sized ∷ more) ≡ sized ∷ []
    sized_shape = ap (λ (l : List Act). sized ∷ l) sh

    sized_made : Makes k d (calls.Realloc addr n flags) (sized ∷ [])
    sized_made = makes k d (calls.Realloc addr n flags) own_call out (sized ∷ more) (sized ∷ []) v call_is all nb sized_shape

    pub no_room_at : HasNoRoomAt k d addr n flags
    no_room_at = (
      in_place,
      record {
        shape = sized ∷ [];
        makes = sized_made;
        told = λ s q.
            let qk = setting_before k d (sized ∷ more) all.added.goes s q in
            let y = x s qk in
            let g = all.added.goes in
            let met_is = met k d sized more g v.prepared e.prepared legal s in
            let same = kept_by k.number (now s k) met_is (met_agrees k d sized more g v.prepared e.prepared legal s q) in
            record {
              old = p;
              size = size;
              leaves = found_before k d sized more g v.prepared e.prepared legal s q k [] (goes_none k) v.prepared sized_made.goes.seen is_sized refl refl (Finds s k.number addr n p false)
                  (finds_kept s (now s k) k.number addr p size n false y met_is same);
              acts_are = shown_added k d (sized ∷ more) g v.prepared e.prepared sized_made.goes.seen s (configuration_of s k.seen) ∙ sized_shape;
            };
      },
    )

---- None is there

pub denied : (k d : Token) (addr n : ℕ) (flags : Flags) (out : List ℕ) (own_call : Call) (more : List Act) → IsServing k own_call out → k.call ≡ Some (calls.Realloc addr n flags)
    → none_begins more ≡ true → shape_of more ≡ [] → HasEnded k d (acts.NotLive addr ∷ more) [] → Makes k d (calls.Realloc addr n flags) (acts.NotLive addr ∷ [])
denied k d addr n flags out own_call more v call_is nb sh e =
    makes k d (calls.Realloc addr n flags) own_call out (acts.NotLive addr ∷ more) (acts.NotLive addr ∷ []) v call_is e nb (ap (λ (l : List Act). acts.NotLive addr ∷ l) sh)
