-- Who holds the lock of VS tries that of the back end.
use Rattle.std.proofs.Common.{◌≡◌, ℕ, Bool, true, false, [], ◌∷◌, Option, Some, None, refl, sym, ap, subst, ◌∙◌}
use Rattle.std.specs.Prelude.{is_some}
use Rattle.heap_model.specs.declared.Act.TheVariants as acts
use Rattle.heap_model.specs.declared.Call.{Call}
use Rattle.heap_model.specs.declared.Call.TheVariants as calls
use Rattle.heap_model.specs.declared.Opening.{Opening}
use Rattle.heap_model.specs.declared.What.TheVariants as whats
use Rattle.heap_model.specs.Buckets.{bucket_of}
use Rattle.heap_model.specs.Layers.{StandsForVs}
use Rattle.heap_model.specs.Legal.{leaves_whole, goes_to_lfh}
use Rattle.heap_model.specs.State.{Setting, VsPart, holds}
use Rattle.heap_model.specs.Stay.{for_some}
use Rattle.claim_rule.specs.Entries.{IsSettingOf, entry}
use Rattle.backend_fit.specs.Kept.{Kept}
use Rattle.backend_fit.specs.Kept as backs
use Rattle.vs_layer.specs.Kept.{VsKept, place_for}
use Rattle.vs_layer.specs.Standing.{layer_of}
use Rattle.heap_gate.specs.Token.{Token, Always, now, IsStanding, is_out}
use Rattle.heap_gate.specs.Calls.{HasTaken, HasMissed}
use Rattle.call_parts.specs.Calls.{HoldsVs, HoldsBoth}
use Rattle.call_parts.proofs.Joining.{setting_before}
use Rattle.vs_calls.specs.Parts.{IsPlacing, IsPlacingAnew}
use Rattle.vs_calls.proofs.BothGiven.{vs_stands, vs_used, given_vs}
use Rattle.vs_calls.proofs.Shapes.{serving_both, added_back}

module _ (c : Token) (call : Call) (vs : VsKept) (h : HoldsVs c call vs) (st : IsStanding c) (used : Always c (λ s. leaves_whole (now s c).state whats.Vs ≡ true)) where
  held : Always c (λ s. holds (now s c).state.gate c.number whats.Vs ≡ true)
  held s q = (st s q).locks whats.Vs ∙ ap (is_out whats.Vs) h.serving.out_is

  -- it was missed
  pub missed_tells : (b : Token) (busy : Rattle.heap_model.specs.declared.Busy.Busy) → HasMissed c b whats.Back busy.what busy.word → Always b (λ s. (leaves_whole (now s b).state whats.Vs ≡ true) × StandsForVs b.opening (now s b).state (layer_of vs))
  missed_tells b busy x = given_vs c b (entry c.number (acts.Blocked whats.Back busy.word) ∷ []) vs x.runs (λ s. (refl, refl, refl)) held used h.tells

  -- it was taken
  module _ (b : Token) (back : Kept) (x : HasTaken backs.layer_of c b whats.Back back) where
    before : (s : Setting) → IsSettingOf b.opening b.roll s → IsSettingOf c.opening c.roll s
    before s q = setting_before c b (acts.TakeLock whats.Back ∷ []) (added_back backs.layer_of c b back call h.serving x).goes s q

    same_opening : b.opening ≡ c.opening
    same_opening = (added_back backs.layer_of c b back call h.serving x).goes.opening

    pub same_part : Always b (λ s. (now s b).state.vs ≡ (now s c).state.vs)
    same_part s q = (x.guarded s q).vs (held s (before s q))

    pub taken_used : Always b (λ s. leaves_whole (now s b).state whats.Vs ≡ true)
    taken_used s q = let g = x.guarded s q in let k = held s (before s q) in vs_used (now s c).state (now s b).state (g.vs k) (g.spans k) (used s (before s q))

    pub holds_both : HoldsBoth b call vs back
    holds_both = record {
      serving = serving_both backs.layer_of c b back call h.serving x;
      tells_vs = λ s q.
          let g = x.guarded s q in let k = held s (before s q) in
          subst (λ (o : Opening). StandsForVs o (now s b).state (layer_of vs)) (sym same_opening) (vs_stands c.opening (now s c).state (now s b).state vs (h.tells s (before s q)) (g.vs k) (g.spans k));
      tells_back = x.tells_it;
    }

no_gap_is : {A : Type 0} (o : Option A) → is_some o ≡ false → o ≡ None
no_gap_is None e = refl
no_gap_is (Some y) e = absurd (let no : ⊥ = cc in no)

pub is_anew : (c b : Token) (vs : VsKept) (back : Kept) (n : ℕ) (zero_it : Bool) (v : IsPlacing c vs n zero_it) → IsStanding c → HasTaken backs.layer_of c b whats.Back back → place_for vs n ≡ None → IsPlacingAnew b vs back n zero_it
is_anew c b vs back n zero_it v st x none = record {
  flags = v.flags;
  zero_is = v.zero_is;
  holds = holds_both c (calls.Alloc n v.flags) vs v.holds st v.used b back x;
  used = taken_used c (calls.Alloc n v.flags) vs v.holds st v.used b back x;
  bucket = λ s q. ap (λ (p : VsPart). for_some (bucket_of n) (goes_to_lfh p)) (same_part c (calls.Alloc n v.flags) vs v.holds st v.used b back x s q) ∙ v.bucket s (before c (calls.Alloc n v.flags) vs v.holds st v.used b back x s q);
  no_gap = none;
}

pub none_fits : (vs : VsKept) (n : ℕ) (answer : Bool) → answer ≡ is_some (place_for vs n) → answer ≡ false → place_for vs n ≡ None
none_fits vs n answer e f = no_gap_is (place_for vs n) (sym e ∙ f)
