-- The search of a caller that allocates, and the block that it finds.
use Rattle.std.proofs.Common.{◌≡◌, ℕ, ◌/◌, Bool, true, false, ◌||◌, List, [], ◌∷◌, ◌++◌, Option, Some, refl, sym, ap, ◌∙◌, subst, append_assoc}
use Rattle.std.specs.Prelude.{is_some, option_and_then}
use Rattle.std.proofs.lemmas.List.{append-nil}
use Rattle.heap_model.specs.declared.Act.{Act}
use Rattle.heap_model.specs.declared.Act.TheVariants as acts
use Rattle.heap_model.specs.declared.Call.{Call}
use Rattle.heap_model.specs.declared.Call.TheVariants as calls
use Rattle.heap_model.specs.declared.Entry.{Entry}
use Rattle.heap_model.specs.declared.Flags.{Flags}
use Rattle.heap_model.specs.declared.What.TheVariants as whats
use Rattle.heap_model.specs.Buckets.{bucket_of, block_size, block_address}
use Rattle.heap_model.specs.Shape.{zeroing}
use Rattle.heap_model.specs.State.{Setting, State, Place, hands}
use Rattle.heap_model.specs.Stay.{for_some}
use Rattle.heap_model.specs.CallState.{Configuration, CallState, not_begun}
use Rattle.heap_model.specs.Search.{request_of, searched, sought, draw_of}
use Rattle.heap_model.specs.Agreement.{moves_exclusive}
use Rattle.claim_rule.specs.declared.views.Owed.{Owed}
use Rattle.claim_rule.specs.Entries.{IsSettingOf, entry}
use Rattle.heap_soundness.proofs.MadeSpans.{bucket_is}
use Rattle.lfh_buckets.specs.Blocks.{IsBucket}
use Rattle.step_parts.specs.InHand.{HasBlock}
use Rattle.step_parts.specs.Claims.{owed_by_place}
use Rattle.call_laws.specs.Within.{by_all}
use Rattle.heap_gate.specs.Token.{Token, Always, now, is_out, IsStanding}
use Rattle.heap_gate.specs.Calls.{Does, IsGuarded}
use Rattle.lfh_claims.specs.Moves.{block_place}
use Rattle.lfh_claims.specs.Search.{own_slot}
use Rattle.lfh_search.specs.declared.hint.Found.{Found}
use Rattle.lfh_search.specs.Acts.{by}
use Rattle.lfh_search.specs.Results.{Searches, place}
use Rattle.lfh_search.specs.Hints.{HasFound}
use Rattle.claim_rule.proofs.Lists.{prefix_self}
use Rattle.call_parts.specs.Calls.{GoesOn, all_own}
use Rattle.call_parts.proofs.Joining.{goes_does, goes_then, setting_before}
use Rattle.small_calls.specs.Fronts.{HasOne, IsHandedOver, IsAsking, HasGivenBlock}
use Rattle.small_calls.proofs.Guarded.{IsLeft, guarded_then, place_left}

-- the bucket of a size
pub is_bucket : (n b : ℕ) → bucket_of n ≡ Some b → IsBucket b
is_bucket n b e = let r = bucket_is (Some n) b e in record { first = r.0; last = r.1 }

---- It may search

-- a call that allocates and has placed nothing seeks its size
pub sought_size : (s : Setting) (st : State) (c n : ℕ) (flags : Flags) (k : CallState) → k.placed ≡ false → k.call ≡ Some (calls.Alloc n flags) → sought s st c k ≡ Some n
sought_size s st c n flags k p e = rw (p, e) refl

searched_active : (active : ℕ → Bool) (b : ℕ) → active b ≡ true → searched active (Some b) ≡ Some b
searched_active active b e = rw e refl

pub no_old : (m : Configuration) (c n : ℕ) (flags : Flags) (placed : Bool) (o : Option Call) → placed ≡ false → o ≡ Some (calls.Alloc n flags) → (placed || for_some o (moves_exclusive m c)) ≡ true
no_old m c n flags placed o p e = rw (p, e) refl

-- the caller with its draw
abbrev pub drawing : Token → Token
drawing c = record c { drawn = true }

pub goes_drawing : (c : Token) → GoesOn c (drawing c) []
goes_drawing c = record {
  table = refl;
  opening = refl;
  number = refl;
  depth = refl;
  roll = prefix_self c.roll;
  seen = prefix_self c.seen;
  own = sym (append-nil (all_own c));
}

module _ (c : Token) (b d n : ℕ) (zero : Bool) (out : List ℕ) (x : IsAsking c n zero out) (st : IsStanding c) (bucket : bucket_of n ≡ Some b) (active : Always c (λ s. (now s c).state.vs.active b ≡ true)) where
  pub searching : Always c (λ s. s.slot c.number ≡ own_slot c) → Always c (λ s. d ≡ draw_of s c.number ((now s c).now.calls c.number).searches) → Searches (drawing c) b d not_begun
  searching slot draw s q =
      let m = now s c in
      let k = x.serving.is_new s q in
      let seeks : (request_of s m c.number).search ≡ Some b =
      ap (λ (o : Option ℕ). searched m.state.vs.active (option_and_then bucket_of o)) (sought_size s m.state c.number n x.flags (m.now.calls c.number) k.placed k.call_is)
      ∙ (ap (searched m.state.vs.active) bucket ∙ searched_active m.state.vs.active b (active s q)) in
      record {
        begun = ap is_some k.call_is;
        inside = (st s q).entered ∙ x.serving.inside;
        seeks = seeks;
        slot = slot s q;
        draw = sym (draw s q);
        old = no_old m c.number n x.flags (m.now.calls c.number).placed (m.now.calls c.number).call k.placed k.call_is;
        search = k.search;
      }

---- The block that it finds

pub same_by : (n : ℕ) (rest : List Act) → by n rest ≡ by_all n rest
same_by n [] = refl
same_by n (act ∷ rest) = ap (λ (l : List Entry). entry n act ∷ l) (same_by n rest)

unowed : (back : Bool) (b t hint : ℕ) (owes : List Owed) → back ≡ false → owed_by_place back b t hint owes ≡ owes
unowed back b t hint owes e = rw e refl

module _ (a e : Token) (b n addr : ℕ) (zero : Bool) (out : List ℕ) (x : IsAsking a n zero out) (st : IsStanding a) (free : is_out whats.Back a.out ≡ false) (f : Found) (y : HasFound (drawing a) e b f) where
  number : e.number ≡ a.number
  number = y.placed.moves.does.number

  found_does : Does (drawing a) e (by_all a.number (y.placed.its ++ place b f.head f.index ∷ []))
  found_does = subst (Does (drawing a) e) (same_by a.number (y.placed.its ++ place b f.head f.index ∷ [])) y.placed.moves.does

  found_goes : GoesOn (drawing a) e (y.placed.its ++ place b f.head f.index ∷ [])
  found_goes = goes_does (drawing a) e (y.placed.its ++ place b f.head f.index ∷ []) found_does y.placed.stands.depth

  before : (s : Setting) → IsSettingOf e.opening e.roll s → IsSettingOf a.opening a.roll s
  before s q = setting_before (drawing a) e (y.placed.its ++ place b f.head f.index ∷ []) found_goes s q

  pub has_one : HasOne e b f.addr
  has_one = record {
    inside = y.placed.stands.inside ∙ x.serving.inside;
    whole = y.placed.stands.whole;
    begun = ap is_some (y.placed.stands.call ∙ x.serving.call_is);
    prepared = y.placed.stands.prepared;
    block = λ s q. subst (λ (z : ℕ × ℕ). HasBlock (now s e) z.0 b z.1) (λ i. (sym number i, sym y.address i)) (y.placed.block s q);
    alone = λ s q.
        let none : hands (now s a).state a.number ≡ [] = (st s (before s q)).hands x.serving.free in
        let are : hands (now s e).state a.number ≡ block_place b f.head f.index a.number ∷ hands (now s a).state a.number = y.placed.moves.hands s q in
        (block_place b f.head f.index a.number, subst (λ (z : ℕ). hands (now s e).state z ≡ block_place b f.head f.index a.number ∷ []) (sym number) (are ∙ ap (λ (ps : List Place). block_place b f.head f.index a.number ∷ ps) none));
  }

  found_left : Always e (λ s. IsLeft a.number (now s a) (now s e))
  found_left s q =
      place_left s a.number (block_address b f.head f.index) (block_size b / 16) y.placed.its (now s a) (now s e) y.placed.are ((st s (before s q)).locks whats.Back ∙ free) (y.placed.moves.agrees s q)

  pub served : (g : Token) → IsHandedOver e g f.addr n zero → HasGivenBlock a g (calls.Alloc n x.flags) b n zero f.addr
  served g z = record {
    head = f.head;
    index = f.index;
    at = y.address;
    its = y.placed.its;
    are = y.placed.are;
    goes = subst (GoesOn a g) (append_assoc y.placed.its (place b f.head f.index ∷ []) (zeroing zero (block_address b f.head f.index) n ++ acts.Give (block_address b f.head f.index) n ∷ [])) joined;
    rests = record {
      call_is = z.ended.added.steady.call ∙ (y.placed.stands.call ∙ x.serving.call_is);
      fresh = z.ended.added.steady.fresh ∙ (y.placed.stands.fresh ∙ x.serving.fresh);
      inside = z.ended.added.steady.inside ∙ (y.placed.stands.inside ∙ x.serving.inside);
      out_is = z.ended.out_is ∙ y.placed.stands.out;
      whole = z.ended.whole;
      free = z.ended.free;
      pending = z.ended.pending;
      prepared = z.ended.prepared;
      drawn = (z.ended.added.steady.searched ∙ y.placed.stands.searched) ∙ sym (z.ended.added.steady.drawn ∙ y.placed.stands.drawn);
      owes = z.ended.added.steady.owes ∙ (y.placed.stands.owes ∙ (unowed (is_out whats.Back a.out) b (own_slot a) y.placed.hint a.owes free ∙ x.serving.owes));
    };
    guarded = λ s q.
        let qe = setting_before e g (zeroing zero f.addr n ++ acts.Give f.addr n ∷ []) z.ended.added.goes s q in
        guarded_then a.number (now s a) (now s e) (now s g) (found_left s qe) (subst (λ (w : ℕ). IsGuarded w (now s e) (now s g)) number (z.guarded s q));
  }
    where
      joined : GoesOn a g ((y.placed.its ++ place b f.head f.index ∷ []) ++ (zeroing zero (block_address b f.head f.index) n ++ acts.Give (block_address b f.head f.index) n ∷ []))
      joined = goes_then a (drawing a) g [] ((y.placed.its ++ place b f.head f.index ∷ []) ++ (zeroing zero (block_address b f.head f.index) n ++ acts.Give (block_address b f.head f.index) n ∷ [])) (goes_drawing a)
          (goes_then (drawing a) e g (y.placed.its ++ place b f.head f.index ∷ []) (zeroing zero (block_address b f.head f.index) n ++ acts.Give (block_address b f.head f.index) n ∷ []) found_goes
          (subst (λ (w : ℕ). GoesOn e g (zeroing zero w n ++ acts.Give w n ∷ [])) y.address z.ended.added.goes))
