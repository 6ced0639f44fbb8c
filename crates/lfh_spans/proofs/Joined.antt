-- Steps of a caller one behind another, and what the holder of Back still has behind steps without entries.
use Rattle.std.proofs.Common.{◌≡◌, ℕ, true, false, List, [], ◌++◌, refl, sym, ap, ◌∙◌, subst}
use Rattle.std.proofs.lemmas.List.{append-nil}
use Rattle.heap_model.specs.declared.Entry.{Entry}
use Rattle.heap_model.specs.declared.Opening.{Opening}
use Rattle.heap_model.specs.declared.What.TheVariants as whats
use Rattle.heap_model.specs.State.{Setting, BackPart, holds}
use Rattle.heap_model.specs.History.{own}
use Rattle.heap_model.specs.Layers.{sorted_back}
use Rattle.heap_model.proofs.Others.{agrees_self}
use Rattle.claim_rule.specs.declared.views.Owed.{Owed}
use Rattle.claim_rule.specs.Entries.{IsSettingOf, IsLegalWith}
use Rattle.claim_rule.specs.Shown.{lfh_spans, tag_word, hint_word}
use Rattle.claim_rule.proofs.Lists.{prefix_self, setting_less}
use Rattle.backend_fit.specs.Kept.{Kept}
use Rattle.heap_gate.specs.Token.{Token, Always, IsStanding, now, is_out}
use Rattle.heap_gate.specs.Calls.{Does, Runs, Stands, stance}
use Rattle.lfh_spans.specs.Stores.{AreTagged}
use Rattle.lfh_spans.specs.Subsegments.{IsBackOf}

-- no step
pub runs_none : (c : Token) → c.prepared ≡ [] → IsLegalWith c.opening c.roll c.seen → Runs c c []
runs_none c e l = record {
  does = record {
    table = refl;
    opening = refl;
    number = refl;
    roll = prefix_self c.roll;
    seen = prefix_self c.seen;
    own = sym (append-nil (own c.number c.seen)) ∙ ap (λ (x : List Entry). own c.number c.seen ++ (x ++ [])) (sym e);
    prepared = e;
    legal = l;
  };
  agrees = λ s q. agrees_self c.number (now s c);
  hands = λ s q. refl;
}

-- .. and two, behind which other words are owed
pub stands_owing : (a b c : Token) (owed : List Owed) → Stands b (record (stance a) { owes = b.owes }) → Stands c (record (stance b) { owes = owed }) → Stands c (record (stance a) { owes = c.owes })
stands_owing a b c owed x y = record {
  call = y.call ∙ x.call;
  fresh = y.fresh ∙ x.fresh;
  locked = y.locked ∙ x.locked;
  inside = y.inside ∙ x.inside;
  depth = y.depth ∙ x.depth;
  out = y.out ∙ x.out;
  owes = refl;
  free = y.free ∙ x.free;
  searches = y.searches ∙ x.searches;
  searched = y.searched ∙ x.searched;
  drawn = y.drawn ∙ x.drawn;
  whole = y.whole;
  pending = y.pending;
  prepared = y.prepared;
}

-- it stands as before
pub stands_here : (c : Token) → c.whole ≡ true → c.pending ≡ false → c.prepared ≡ [] → Stands c (record (stance c) { owes = c.owes })
stands_here c w p e = record { call = refl; fresh = refl; locked = refl; inside = refl; depth = refl; out = refl; owes = refl; free = refl; searches = refl; searched = refl; drawn = refl; whole = w; pending = p; prepared = e }

pub setting_of_old : (a b : Token) (es : List Entry) → Does a b es → (s : Setting) → IsSettingOf b.opening b.roll s → IsSettingOf a.opening a.roll s
setting_of_old a b es x s q = setting_less a.opening a.roll b.roll s x.roll (subst (λ (o : Opening). IsSettingOf o b.roll s) x.opening q)

---- What the holder of Back has

-- it holds Back in all that it has seen
abbrev pub HasBack : Token → Type 0
HasBack c = Always c (λ s. holds (now s c).state.gate c.number whats.Back ≡ true)

pub has_back_by : (c : Token) → IsStanding c → is_out whats.Back c.out ≡ true → HasBack c
has_back_by c at o s q = (at s q).locks whats.Back ∙ o

module _ (a b : Token) (x : Runs a b []) (held : HasBack a) where
  -- it holds it still
  pub still_held : HasBack b
  still_held s q = ap (λ (n : ℕ). holds (now s b).state.gate n whats.Back) x.does.number ∙ ((x.agrees s q).locks whats.Back ∙ held s (setting_of_old a b [] x.does s q))

  -- the back end and the hints are as they were
  pub back_still : (s : Setting) → IsSettingOf b.opening b.roll s → ((now s b).state.back ≡ (now s a).state.back) × ((now s b).now.span_history ≡ (now s a).now.span_history)
  back_still s q =
      let h = held s (setting_of_old a b [] x.does s q) in
      ((x.agrees s q).back h, (x.agrees s q).span_history h)

  pub tags_still : (first pages tag : ℕ) → Always a (λ s. AreTagged (now s a) first pages tag) → Always b (λ s. AreTagged (now s b) first pages tag)
  tags_still first pages tag t s q page low high =
      ap (λ (p : BackPart). tag_word (lfh_spans p.area) page) (back_still s q).0 ∙ t s (setting_of_old a b [] x.does s q) page low high

  pub hint_still : (k t head : ℕ) → Always a (λ s. hint_word (now s a).state.back.area (now s a).now.span_history k t ≡ head) → Always b (λ s. hint_word (now s b).state.back.area (now s b).now.span_history k t ≡ head)
  hint_still k t head h s q = (λ j. hint_word ((back_still s q).0 j).area ((back_still s q).1 j) k t) ∙ h s (setting_of_old a b [] x.does s q)

  pub back_of_still : (k : Kept) → IsBackOf a k → IsBackOf b k
  back_of_still k t s q =
      let y = t s (setting_of_old a b [] x.does s q) in
      let e = (back_still s q).0 in
      record { lock = y.lock; limits = y.limits ∙ ap (λ (z : Opening). z.limits) (sym x.does.opening); part = y.part ∙ ap sorted_back (sym e) }
