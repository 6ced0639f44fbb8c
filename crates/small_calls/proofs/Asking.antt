-- A caller that allocates, behind steps that leave its call as new as it was, and what the holder of VS sees of a bucket.
use Rattle.std.proofs.Common.{◌≡◌, ℕ, ◌+◌, ◌-◌, ◌≤◌, Bool, true, false, not, ◌&&◌, ◌||◌, List, [], ◌∷◌, Option, Some, refl, sym, ap, ◌∙◌, subst, arith, eq-eqb, inl, inr}
use Rattle.std.specs.Prelude.{is_some, option_and_then}
use Rattle.std.specs.List.{list_all}
use Rattle.std.proofs.lemmas.Bool.{and_from}
use Rattle.heap_model.specs.declared.Act.{Act}
use Rattle.heap_model.specs.declared.Act.TheVariants as acts
use Rattle.heap_model.specs.declared.Call.TheVariants as calls
use Rattle.heap_model.specs.declared.Opening.{Opening}
use Rattle.heap_model.specs.declared.What.TheVariants as whats
use Rattle.heap_model.specs.Buckets.{bucket_of}
use Rattle.heap_model.specs.Geometry.{page_bytes}
use Rattle.heap_model.specs.Layers.{StandsForVs}
use Rattle.heap_model.specs.Legal.{goes_to_lfh, has_place, may}
use Rattle.heap_model.specs.Ranges.{vs_spans}
use Rattle.heap_model.specs.Search.{request_of}
use Rattle.heap_model.specs.State.{Setting, VsPart, holds, is_entered, updated}
use Rattle.heap_model.specs.Stay.{for_some, is_some_of, is_due}
use Rattle.claim_rule.specs.Entries.{IsSettingOf, entry}
use Rattle.claim_rule.specs.Places.{vs_slot}
use Rattle.span_steps.specs.Stores.{MayActivate}
use Rattle.call_laws.specs.Within.{by_all}
use Rattle.heap_gate.specs.Token.{Token, Always, now, is_out, IsStanding}
use Rattle.heap_gate.specs.Calls.{Runs, Stands, stance}
use Rattle.vs_layer.specs.Kept.{VsKept, part_of, active_of}
use Rattle.vs_layer.specs.Standing.{layer_of, Becomes, with_active}
use Rattle.vs_layer.proofs.Told.{due_is}
use Rattle.call_parts.specs.Calls.{GoesOn}
use Rattle.call_parts.proofs.Joining.{goes_none, goes_does, setting_before}
use Rattle.call_parts.proofs.Serving.{keeps_new, new_since}
use Rattle.paged_calls.specs.Parts.{Places}
use Rattle.vs_calls.specs.Blocks.{IsForVs}
use Rattle.small_calls.specs.Fronts.{IsAsking, IsResting, HasGivenBlock, front_acts}
use Rattle.small_calls.specs.Ways.{AsksUnderVs, IsFrontNow}
use Rattle.small_calls.proofs.Found.{sought_size, no_old}
use Rattle.small_calls.proofs.Shown.{IsShown, shown_then, served_shown, front_places}

-- steps that leave the call as new as it was
pub asking_kept : (a m : Token) (n : ℕ) (zero_it : Bool) (out : List ℕ) (rest : List Act) → list_all keeps_new rest ≡ true → Runs a m (by_all a.number rest) → Stands m (stance a) → IsAsking a n zero_it out → IsAsking m n zero_it out
asking_kept a m n zero_it out rest keeps r s x = record {
  flags = x.flags;
  zero_is = x.zero_is;
  serving = record {
    call_is = s.call ∙ x.serving.call_is;
    fresh = s.fresh ∙ x.serving.fresh;
    inside = s.inside ∙ x.serving.inside;
    out_is = s.out ∙ x.serving.out_is;
    whole = s.whole;
    free = s.free ∙ x.serving.free;
    pending = s.pending;
    prepared = s.prepared;
    searched = s.searched ∙ x.serving.searched;
    drawn = s.drawn ∙ x.serving.drawn;
    owes = s.owes ∙ x.serving.owes;
    is_new = new_since a m (calls.Alloc n x.flags) rest (goes_does a m rest r.does s.depth) x.serving.prepared s.prepared keeps x.serving.is_new;
  };
}

pub goes_quiet : (a m : Token) → Runs a m [] → Stands m (stance a) → GoesOn a m []
goes_quiet a m r s = goes_does a m [] r.does s.depth

-- the block that was found answers the call, where the caller holds no lock
pub try_places : (a m f : Token) (n b addr : ℕ) (zero_it : Bool) (x : IsAsking m n zero_it []) → Runs a m [] → Stands m (stance a) → HasGivenBlock m f (calls.Alloc n x.flags) b n zero_it addr → Places a f addr
try_places a m f n b addr zero_it x r s g =
    let quiet : IsShown a m [] = record { added = []; goes = goes_quiet a m r s; no_begin = refl; shape_is = refl } in
    front_places a f x.flags n b g.head g.index addr zero_it x.zero_is g.at (sym s.call ∙ x.serving.call_is)
    (shown_then a m f [] (front_acts b g.head g.index n zero_it) quiet (served_shown m f (calls.Alloc n x.flags) b n addr zero_it g))
    (subst (IsResting f (calls.Alloc n x.flags)) x.serving.out_is g.rests)

---- Under the lock of VS

minus_one : (b : ℕ) → 1 ≤ b → b - 1 + 1 ≡ b
minus_one b h = omega (arith, h)

module _ (c : Token) (vs : VsKept) (n b : ℕ) (zero_it : Bool) (h : AsksUnderVs c n zero_it vs) (bucket : bucket_of n ≡ Some b) where
  active_is : (s : Setting) → IsSettingOf c.opening c.roll s → (now s c).state.vs.active b ≡ active_of vs b
  active_is s q = sym (ap (λ (v : VsPart). v.active b) (h.tells s q).part)

  pub is_active : active_of vs b ≡ true → IsFrontNow c c vs n zero_it b
  is_active e = record {
    its = [];
    its_are = inl refl;
    goes = goes_none c;
    asks = h;
    call = refl;
    active = λ s q. active_is s q ∙ e;
  }

  pub is_none : active_of vs b ≡ false → is_due (part_of vs) b ≡ false → IsForVs c n
  is_none e f s q =
      ap (λ (o : Option ℕ). for_some o (goes_to_lfh (now s c).state.vs)) bucket
      ∙ (λ i. (active_is s q ∙ e) i || (sym (due_is c.opening (now s c).state vs (h.tells s q) b) ∙ f) i)

  module _ (st : IsStanding c) (low : 1 ≤ b) where
    held : (s : Setting) → IsSettingOf c.opening c.roll s → holds (now s c).state.gate c.number whats.Vs ≡ true
    held s q = (st s q).locks whats.Vs ∙ ap (is_out whats.Vs) h.asking.serving.out_is

    pub may_become : active_of vs b ≡ false → is_due (part_of vs) b ≡ true → Always c (λ s. MayActivate s (now s c) c.number (b - 1))
    may_become e f s q =
        let m = now s c in
        let k = h.asking.serving.is_new s q in
        let asks : (request_of s m c.number).bucket ≡ Some b = ap (option_and_then bucket_of) (sought_size s m.state c.number n h.asking.flags (m.now.calls c.number) k.placed k.call_is) ∙ bucket in
        let own : is_some_of (request_of s m c.number).bucket b ≡ true = ap (λ (o : Option ℕ). is_some_of o b) asks ∙ eq-eqb b b refl in
        let entered : is_entered m.state.gate c.number ≡ true = (st s q).entered ∙ h.asking.serving.inside in
        let idle : not (m.state.vs.active b) ≡ true = ap not (active_is s q ∙ e) in
        let due : is_due m.state.vs b ≡ true = sym (due_is c.opening m.state vs (h.tells s q) b) ∙ f in
        let one = and_from (is_entered m.state.gate c.number) (holds m.state.gate c.number whats.Vs) entered (held s q) in
        let two = and_from (is_entered m.state.gate c.number && holds m.state.gate c.number whats.Vs) (is_some_of (request_of s m c.number).bucket b) one own in
        let three = and_from (is_entered m.state.gate c.number && holds m.state.gate c.number whats.Vs && is_some_of (request_of s m c.number).bucket b) (not (m.state.vs.active b)) two idle in
        let all = and_from (is_entered m.state.gate c.number && holds m.state.gate c.number whats.Vs && is_some_of (request_of s m c.number).bucket b && not (m.state.vs.active b)) (is_due m.state.vs b) three due in
        record {
          begun = ap is_some k.call_is;
          holds_it = held s q;
          old = no_old m c.number n h.asking.flags (m.now.calls c.number).placed (m.now.calls c.number).call k.placed k.call_is;
          ok = subst (λ (z : ℕ). may s m c.number (acts.Active z) ≡ true) (sym (minus_one b low)) all;
        }

    -- it became active
    module _ (d : Token) (later : VsKept) (r : Runs c d (entry c.number (acts.Active b) ∷ [])) (s' : Stands d (stance c)) (becomes : Becomes vs later (λ v. with_active v b) (λ xs. xs)) where
      goes_active : GoesOn c d (acts.Active b ∷ [])
      goes_active = goes_does c d (acts.Active b ∷ []) r.does s'.depth

      before : (s : Setting) → IsSettingOf d.opening d.roll s → IsSettingOf c.opening c.roll s
      before s q = setting_before c d (acts.Active b ∷ []) goes_active s q

      vs_now : (s : Setting) → IsSettingOf d.opening d.roll s → (now s d).state.vs ≡ with_active (now s c).state.vs b
      vs_now s q = (r.agrees s q).vs (held s (before s q))

      spans_now : (s : Setting) → IsSettingOf d.opening d.roll s → vs_spans (now s d).state.back.area ≡ vs_spans (now s c).state.back.area
      spans_now s q = (r.agrees s q).spans (held s (before s q))

      at_once : (active : ℕ → Bool) → updated active b true b ≡ true
      at_once active = let e = eq-eqb b b refl in rw e refl

      pub becomes_front : IsFrontNow c d later n zero_it b
      becomes_front = record {
        its = acts.Active b ∷ [];
        its_are = inr refl;
        goes = goes_active;
        asks = record {
          asking = asking_kept c d n zero_it (vs_slot ∷ []) (acts.Active b ∷ []) refl r s' h.asking;
          tells = λ s q. subst (λ (o : Opening). StandsForVs o (now s d).state (layer_of later)) (sym r.does.opening) (becomes c.opening (now s c).state (now s d).state (h.tells s (before s q)) (vs_now s q) (spans_now s q));
          used = λ s q. (λ i. list_all (has_place page_bytes (vs_now s q i).places) (spans_now s q i)) ∙ h.used s (before s q);
        };
        call = s'.call;
        active = λ s q. ap (λ (v : VsPart). v.active b) (vs_now s q) ∙ at_once (now s c).state.vs.active;
      }
