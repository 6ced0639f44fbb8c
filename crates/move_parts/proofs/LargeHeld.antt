-- A new block of the large area in hand, for one that moves.
use Rattle.std.proofs.Common.{◌≡◌, ℕ, ◌+◌, ◌*◌, ◌/◌, ◌≤◌, Bool, true, List, [], ◌∷◌, Option, Some, None, refl, sym, ap, ◌∙◌, subst, arith, ltb, inl, inr, eq-eqb}
use Rattle.std.specs.Prelude.{cond}
use Rattle.std.proofs.lemmas.Bool.{cases_Bool, lt-leb, le-leb}
use Rattle.heap_model.specs.declared.Act.{Act}
use Rattle.heap_model.specs.declared.Act.TheVariants as acts
use Rattle.heap_model.specs.declared.Call.{Call}
use Rattle.heap_model.specs.declared.Call.TheVariants as calls
use Rattle.heap_model.specs.declared.Flags.{Flags}
use Rattle.heap_model.specs.declared.Layer.{Layer}
use Rattle.heap_model.specs.declared.Layer.TheVariants as layers
use Rattle.heap_model.specs.declared.Limits.{Limits}
use Rattle.heap_model.specs.declared.What.TheVariants as whats
use Rattle.heap_model.specs.Geometry.{pages_of, words_of, route_of, is_huge}
use Rattle.heap_model.specs.Limits.{AreValid}
use Rattle.heap_model.specs.Ranges.{large_place, vs_spans}
use Rattle.heap_model.specs.State.{State, Place, is_layer, places_of}
use Rattle.heap_model.specs.CallState.{Configuration, caller_view}
use Rattle.heap_model.specs.Agreement.{holds_old_block}
use Rattle.heap_model.specs.Legal.{suits}
use Rattle.claim_rule.specs.Entries.{IsLegalWith, setting_of, may_prepare}
use Rattle.claim_rule.specs.Places.{data_count}
use Rattle.claim_rule.proofs.Advance.{some_setting}
use Rattle.call_laws.specs.Within.{IsWithin, LeadsTo}
use Rattle.call_laws.proofs.Places.{placing_large, refusing_large}
use Rattle.large_blocks.specs.declared.LargeBlock.{LargeBlock}
use Rattle.large_blocks.specs.Table.{LargeTable, insert_block}
use Rattle.large_blocks.specs.Effects.{InEach, Becomes, with_block}
use Rattle.large_blocks.specs.Sound.{IsLaid, AreLaid, end_of}
use Rattle.heap_gate.specs.Calls.{with_prepared}
use Rattle.heap_gate.specs.Token.{Token, Always, now, IsStanding, is_out}
use Rattle.call_parts.proofs.Handing.{new_place}
use Rattle.call_parts.proofs.Serving.{within}
use Rattle.call_parts.proofs.Tokens.{now_more, prepares, one_prepared, added_one}
use Rattle.move_parts.specs.Moves.{IsMovingAny, IsHalfwayAny, with_given, TellsLarge}
use Rattle.move_parts.specs.Places.{HasHeldLarge, IsWithout}
use Rattle.move_parts.proofs.Ended.{vs_stands, vs_used, back_stands}
use Rattle.move_parts.proofs.Holding.{IsMadePlainly, half_any, given_front}
use Rattle.move_parts.proofs.Movers.{IsMover, mover, holds_mine}
use Rattle.move_parts.proofs.Put.{IsPut}

pub huge_route : (n : ℕ) → 520193 ≤ n → is_huge (route_of n) ≡ true
huge_route n l =
    let a = lt-leb n 16368 (omega arith) in
    let b = lt-leb n 131072 (omega arith) in
    let d = lt-leb n 520192 (omega arith) in
    rw (a, b, d) refl

-- a block that was taken lies in the area
laid_inserted : (l : Limits) (from : ℕ) (b : LargeBlock) (bs : List LargeBlock) → AreLaid l from (insert_block b bs) → (at : ℕ) × IsLaid l at b
laid_inserted l from b [] h = (from, h.0)
laid_inserted l from b (x ∷ xs) h = elim (cases_Bool (ltb b.addr x.addr)) [
  | inl e ↦ let k = rw e at h in (from, k.0)
  | inr e ↦ let k = rw e at h in laid_inserted l (end_of l x) b xs k.1
]

pub words_there : (l : Limits) (addr n : ℕ) (bs : List LargeBlock) → AreLaid l 0 (insert_block (record { addr = addr; size = n }) bs) → addr / 8 + words_of n ≤ data_count l
words_there l addr n bs h = let x = (laid_inserted l 0 (record { addr = addr; size = n }) bs h).1 in let a = x.aligned in let b = x.inside in omega arith

large_suits : (c addr n : ℕ) → is_huge (route_of n) ≡ true → suits n (new_place c layers.Large addr (256 * pages_of n)) ≡ true
large_suits c addr n h =
    let a = le-leb n (16 * (256 * pages_of n)) (omega arith) in
    let b = eq-eqb (256 * pages_of n) (256 * pages_of n) refl in
    rw (a, h, b) refl

-- the limits that the table was made for are the heap's
pub large_limits : (c : Token) (large : LargeTable) → TellsLarge c large → large.limits ≡ c.opening.limits
large_limits c large t = (t (setting_of c.opening c.roll) (some_setting c.opening c.roll)).limits

module _ (c : Token) (taken : Bool) (addr size n : ℕ) (flags : Flags) (p : Place) (out : List ℕ) (v : IsMovingAny taken c addr size n flags p out) (st : IsStanding c) (held : is_out whats.Large out ≡ true) (large : LargeTable) (w : TellsLarge c large) (huge : is_huge (route_of n) ≡ true) where
  abbrev call : Call
  call = calls.Realloc addr n flags

  abbrev mine : IsMover c addr n flags p out
  mine = mover taken c addr size n flags p out v

  within_now : Always c (λ s. IsWithin (now s c) c.number call)
  within_now = within c call st mine.inside mine.call_is mine.whole

  held_now : Always c (λ s. (caller_view (now s c) c.number).large ≡ true)
  held_now s x = (st s x).locks whats.Large ∙ (ap (is_out whats.Large) mine.out_is ∙ held)

  fits_now : (o : Option ℕ) → InEach large (λ o' st'. o ≡ large_place o'.limits st'.large (pages_of n)) → Always c (λ s. large_place s.limits (now s c).state.large (pages_of n) ≡ o)
  fits_now o f s x = ap (λ (l : Limits). large_place l (now s c).state.large (pages_of n)) x.limits ∙ sym (f c.opening (now s c).state (w s x))

  -- what it places the caller alone decides
  pub holds_old : Always c (λ s. holds_old_block (now s c) c.number ≡ true)
  holds_old s x = holds_mine (now s c) c.number addr n flags p (within_now s x).call_is (mine.old s x)

  module _ (b : ℕ) (fits : InEach large (λ o' st'. Some b ≡ large_place o'.limits st'.large (pages_of n))) where
    abbrev place : Act
    place = acts.Place b (256 * pages_of n) layers.Large

    abbrev q : Place
    q = new_place c.number layers.Large b (256 * pages_of n)

    abbrev pub large_token : Token
    large_token = with_prepared c place

    leads_now : Always c (λ s. LeadsTo s (now s c) c.number call place (record (now s c).state { large = q ∷ (now s c).state.large }))
    leads_now s x = placing_large s (now s c) c.number call n b (within_now s x) (held_now s x) refl huge (fits_now (Some b) fits s x)

    pub place_may : Always c (λ s. may_prepare s (now s c) c.number place ≡ true)
    place_may s x = prepares s (now s c) c.number place refl refl (leads_now s x).may

    state_now : Always c (λ s. (now s large_token).state ≡ record (now s c).state { large = q ∷ (now s c).state.large })
    state_now s x = ap (λ (m : Configuration). m.state) (now_more s c place) ∙ (leads_now s x).state

    put_now : Always c (λ s. IsPut q (now s c).state (now s large_token).state)
    put_now s x = record { gate = ap (λ (y : State). y.gate) (state_now s x); lists = λ l. ap (λ (y : State). places_of y l) (state_now s x) ∙ by l }
      where
        by : (l : Layer) → places_of (record (now s c).state { large = q ∷ (now s c).state.large }) l ≡ cond (is_layer l layers.Large) (q ∷ places_of (now s c).state l) (places_of (now s c).state l)
        by layers.Lfh = refl
        by layers.Vs = refl
        by layers.Back = refl
        by layers.Large = refl

    module _ (valid : AreValid c.opening.limits) (legal : IsLegalWith c.opening c.roll c.seen) (to : b / 8 + words_of n ≤ data_count c.opening.limits) where
      large_half : IsHalfwayAny taken large_token call addr size p b n q out
      large_half =
          half_any taken c addr size n flags p out v st valid legal (place ∷ []) refl layers.Large b (256 * pages_of n) refl (omega arith) mine.pending
          (λ s x. one_prepared s (now s c) c.number place [] (place_may s x) refl) put_now refl (large_suits c.number b n huge) held_now to

      large_made : IsMadePlainly c large_token p n q
      large_made = record {
        made = record {
          reserves = [];
          begins = place;
          more = [];
          added = added_one c place refl;
          begins_it = refl;
          no_begin = refl;
          shape_is = refl;
          reserves_are = inl refl;
        };
        plain = refl;
      }

      given_large : Always large_token (λ s. (with_given (now s large_token).state c.number q n).large ≡ with_block (now s c).state.large b n)
      given_large s x = ap (λ (y : State). (with_given y c.number q n).large) (state_now s x) ∙ given_front c.number layers.Large b (256 * pages_of n) n (now s c).state.large

      pub large_held : (t : Token) → t ≡ large_token → (more : LargeTable) → Becomes large more (λ ps. with_block ps b n) → HasHeldLarge taken c t addr size n flags p out b more
      large_held t e more becomes = subst (λ (y : Token). HasHeldLarge taken c y addr size n flags p out b more) (sym e) (record {
        place = q;
        held = record { half = large_half; made = large_made.made; plain = large_made.plain };
        large = λ s x. becomes c.opening (now s c).state (with_given (now s large_token).state c.number q n) (w s x) (given_large s x);
        vs = λ vs f s x. (
          vs_used (now s c).state (with_given (now s large_token).state c.number q n) (ap (λ (y : State). y.vs) (state_now s x)) (ap (λ (y : State). vs_spans y.back.area) (state_now s x)) (f.used s x),
          vs_stands c.opening (now s c).state (with_given (now s large_token).state c.number q n) vs (f.tells s x) (ap (λ (y : State). y.vs) (state_now s x)) (ap (λ (y : State). vs_spans y.back.area) (state_now s x)),
        );
        back = λ back f s x. back_stands c.opening (now s c).state (with_given (now s large_token).state c.number q n) back (f s x) (ap (λ (y : State). y.back) (state_now s x));
      })

  pub large_without : InEach large (λ o' st'. None ≡ large_place o'.limits st'.large (pages_of n)) → (t : Token) → t ≡ c → IsWithout c t n
  large_without fits t e = record {
    same = e;
    may = λ s x. prepares s (now s c) c.number (acts.NoFit n) (holds_old s x) refl (refusing_large s (now s c) c.number call n (within_now s x) (held_now s x) refl huge (fits_now None fits s x)).may;
  }
