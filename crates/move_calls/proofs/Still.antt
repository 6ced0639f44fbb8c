-- What the locks that a caller holds guard stays as it was, whatever others do.
use Rattle.std.proofs.Common.{◌≡◌, ℕ, true, List, ◌∷◌, sym, ap, ◌∙◌, subst}
use Rattle.std.proofs.lemmas.Bool.{or_right}
use Rattle.heap_model.specs.declared.Entry.{Entry}
use Rattle.heap_model.specs.declared.Opening.{Opening}
use Rattle.heap_model.specs.declared.What.{What}
use Rattle.heap_model.specs.declared.What.TheVariants as whats
use Rattle.heap_model.specs.History.{configuration_after}
use Rattle.heap_model.specs.Layers.{StandsForVs, StandsForBack, StandsForLarge, sorted_back}
use Rattle.heap_model.specs.Ranges.{vs_spans}
use Rattle.heap_model.specs.State.{Setting, State, holds, is_among, by_address}
use Rattle.claim_rule.specs.Entries.{IsSettingOf}
use Rattle.claim_rule.specs.Places.{vs_slot, back_slot, large_slot}
use Rattle.claim_rule.proofs.Lists.{setting_less}
use Rattle.backend_fit.specs.Kept.{Kept}
use Rattle.backend_fit.specs.Kept as backs
use Rattle.large_blocks.specs.Table.{LargeTable}
use Rattle.large_blocks.specs.Table as larges
use Rattle.vs_layer.specs.Standing as vss
use Rattle.heap_gate.specs.Token.{Token, Always, now, IsStanding, is_out}
use Rattle.heap_gate.specs.Calls.{Does, Runs, IsGuarded}
use Rattle.stay_calls.proofs.BackStays.{vs_stands, vs_used}
use Rattle.move_calls.specs.Holds.{TellsStill}

back_stands : (o : Opening) (m k : State) (back : Kept) → StandsForBack o m (backs.layer_of back) → k.back ≡ m.back → StandsForBack o k (backs.layer_of back)
back_stands o m k back t e = record { lock = t.lock; limits = t.limits; part = t.part ∙ ap sorted_back (sym e) }

large_stands : (o : Opening) (m k : State) (large : LargeTable) → StandsForLarge o m (larges.layer_of large) → k.large ≡ m.large → StandsForLarge o k (larges.layer_of large)
large_stands o m k large t e = record { lock = t.lock; limits = t.limits; part = t.part ∙ ap by_address (sym e) }

pub setting_does : (c d : Token) (es : List Entry) → Does c d es → (s : Setting) → IsSettingOf d.opening d.roll s → IsSettingOf c.opening c.roll s
setting_does c d es x s q = setting_less c.opening c.roll d.roll s x.roll (subst (λ (o : Opening). IsSettingOf o d.roll s) x.opening q)

-- where the locks that are held before and behind guard the same
module _ (c d : Token) (opening : d.opening ≡ c.opening) (before : (s : Setting) → IsSettingOf d.opening d.roll s → IsSettingOf c.opening c.roll s)
    (vs : is_out whats.Vs c.out ≡ true → is_out whats.Vs d.out ≡ true → Always d (λ s. ((now s d).state.vs ≡ (now s c).state.vs) × (vs_spans (now s d).state.back.area ≡ vs_spans (now s c).state.back.area)))
    (back : is_out whats.Back c.out ≡ true → is_out whats.Back d.out ≡ true → Always d (λ s. (now s d).state.back ≡ (now s c).state.back))
    (large : is_out whats.Large c.out ≡ true → is_out whats.Large d.out ≡ true → Always d (λ s. (now s d).state.large ≡ (now s c).state.large)) where
  still_by : TellsStill c d
  still_by = record {
    vs = λ a b kept t. record {
      tells = λ s q.
          let e = vs a b s q in
          subst (λ (o : Opening). StandsForVs o (now s d).state (vss.layer_of kept)) (sym opening) (vs_stands c.opening (now s c).state (now s d).state kept (t.tells s (before s q)) e.0 e.1);
      used = λ s q. let e = vs a b s q in vs_used (now s c).state (now s d).state e.0 e.1 (t.used s (before s q));
    };
    back = λ a b kept t s q. subst (λ (o : Opening). StandsForBack o (now s d).state (backs.layer_of kept)) (sym opening) (back_stands c.opening (now s c).state (now s d).state kept (t s (before s q)) (back a b s q));
    large = λ a b kept t s q. subst (λ (o : Opening). StandsForLarge o (now s d).state (larges.layer_of kept)) (sym opening) (large_stands c.opening (now s c).state (now s d).state kept (t s (before s q)) (large a b s q));
  }

-- where what they guard stays
pub still_kept : (c d : Token) (opening : d.opening ≡ c.opening) (before : (s : Setting) → IsSettingOf d.opening d.roll s → IsSettingOf c.opening c.roll s) → IsStanding c → Always d (λ s. IsGuarded c.number (now s c) (now s d)) → TellsStill c d
still_kept c d opening before st g =
    still_by c d opening before
    (λ a b s q. let h = (st s (before s q)).locks whats.Vs ∙ a in ((g s q).vs h, (g s q).spans h))
    (λ a b s q. (g s q).back ((st s (before s q)).locks whats.Back ∙ a))
    (λ a b s q. (g s q).large ((st s (before s q)).locks whats.Large ∙ a))

-- behind steps that only let others in
pub still_guarded : (c d : Token) (es : List Entry) → Does c d es → IsStanding c → Always d (λ s. IsGuarded c.number (now s c) (now s d)) → TellsStill c d
still_guarded c d es x st g = still_kept c d x.opening (setting_does c d es x) st g

-- .. and behind entries of its own that leave the layers as they are
module _ (c d : Token) (es : List Entry) (r : Runs c d es) (st : IsStanding d) (same : (s : Setting) → ((configuration_after s (now s c) es).state.vs ≡ (now s c).state.vs) × ((configuration_after s (now s c) es).state.back ≡ (now s c).state.back) × ((configuration_after s (now s c) es).state.large ≡ (now s c).state.large)) where
  held : (w : What) → is_out w d.out ≡ true → Always d (λ s. holds (configuration_after s (now s c) es).state.gate c.number w ≡ true)
  held w b s q = sym ((r.agrees s q).locks w) ∙ (ap (λ (k : ℕ). holds (now s d).state.gate k w) (sym r.does.number) ∙ ((st s q).locks w ∙ b))

  pub still_runs : TellsStill c d
  still_runs =
      still_by c d r.does.opening (setting_does c d es r.does)
      (λ a b s q.
      let h = held whats.Vs b s q in let x = r.agrees s q in
      (x.vs h ∙ (same s).0, x.spans h ∙ ap (λ (y : Rattle.heap_model.specs.State.BackPart). vs_spans y.area) (same s).1))
      (λ a b s q. (r.agrees s q).back (held whats.Back b s q) ∙ (same s).1)
      (λ a b s q. (r.agrees s q).large (held whats.Large b s q) ∙ (same s).2)

---- Locks that are held

pub out_more : (w : What) (x : ℕ) (out : List ℕ) → is_out w out ≡ true → is_out w (x ∷ out) ≡ true
out_more whats.Vs x out h = or_right _ (is_among vs_slot out) h
out_more whats.Back x out h = or_right _ (is_among back_slot out) h
out_more whats.Large x out h = or_right _ (is_among large_slot out) h
out_more _ x out h = h
