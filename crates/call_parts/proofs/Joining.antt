-- What a caller has added, one part behind another.
use Rattle.std.proofs.Common.{◌≡◌, ℕ, true, List, [], ◌∷◌, ◌++◌, refl, sym, ap, ◌∙◌, subst, append_assoc}
use Rattle.std.proofs.lemmas.List.{append-nil}
use Rattle.heap_model.specs.declared.Act.{Act}
use Rattle.heap_model.specs.declared.Entry.{Entry}
use Rattle.heap_model.specs.declared.Opening.{Opening}
use Rattle.heap_model.specs.State.{Setting}
use Rattle.heap_model.specs.CallState.{CallState}
use Rattle.heap_model.specs.History.{own, first_configuration, no_call}
use Rattle.call_laws.specs.Within.{by_all}
use Rattle.claim_rule.specs.Entries.{IsSettingOf, entry, is_by}
use Rattle.claim_rule.proofs.Lists.{prefix_self, prefix_trans, own-append, own_by, after-append, setting_less}
use Rattle.heap_gate.specs.Token.{Token, now}
use Rattle.heap_gate.specs.Calls.{Does, with_prepared, rested}
use Rattle.call_parts.specs.Calls.{GoesOn, all_own}
use Rattle.call_parts.proofs.Own.{call_from, call_from-append, calls_by}

pub by_all-append : (n : ℕ) (xs ys : List Act) → by_all n (xs ++ ys) ≡ by_all n xs ++ by_all n ys
by_all-append n [] ys = refl
by_all-append n (x ∷ xs) ys = ap (λ (l : List Entry). entry n x ∷ l) (by_all-append n xs ys)

---- One part

pub goes_none : (c : Token) → GoesOn c c []
goes_none c = record {
  table = refl;
  opening = refl;
  number = refl;
  depth = refl;
  roll = prefix_self c.roll;
  seen = prefix_self c.seen;
  own = sym (append-nil (all_own c));
}

-- steps, with all that was prepared before them
pub goes_does : (a b : Token) (added : List Act) → Does a b (by_all a.number added) → b.depth ≡ a.depth → GoesOn a b added
goes_does a b added x d = record {
  table = x.table;
  opening = x.opening;
  number = x.number;
  depth = d;
  roll = x.roll;
  seen = x.seen;
  own =
      (λ j. own (x.number j) b.seen ++ x.prepared j)
      ∙ (append-nil (own a.number b.seen) ∙ (x.own ∙ sym (append_assoc (own a.number a.seen) a.prepared (by_all a.number added))));
}

-- one act that is prepared
pub goes_prepared : (c : Token) (act : Act) → GoesOn c (with_prepared c act) (act ∷ [])
goes_prepared c act = record {
  table = refl;
  opening = refl;
  number = refl;
  depth = refl;
  roll = prefix_self c.roll;
  seen = prefix_self c.seen;
  own = sym (append_assoc (own c.number c.seen) c.prepared (entry c.number act ∷ []));
}

pub goes_rested : (c : Token) → GoesOn c (rested c) []
goes_rested c = record {
  table = refl;
  opening = refl;
  number = refl;
  depth = refl;
  roll = prefix_self c.roll;
  seen = prefix_self c.seen;
  own = sym (append-nil (all_own c));
}

---- Parts one behind another

pub goes_then : (a b c : Token) (xs ys : List Act) → GoesOn a b xs → GoesOn b c ys → GoesOn a c (xs ++ ys)
goes_then a b c xs ys x y = record {
  table = y.table ∙ x.table;
  opening = y.opening ∙ x.opening;
  number = y.number ∙ x.number;
  depth = y.depth ∙ x.depth;
  roll = prefix_trans a.roll b.roll c.roll x.roll y.roll;
  seen = prefix_trans a.seen b.seen c.seen x.seen y.seen;
  own =
      y.own
      ∙ ((λ j. x.own j ++ by_all (x.number j) ys)
      ∙ (append_assoc (all_own a) (by_all a.number xs) (by_all a.number ys) ∙ ap (λ (l : List Entry). all_own a ++ l) (sym (by_all-append a.number xs ys))));
}

-- what is said of a token's settings is said of an earlier one's
pub setting_before : (a b : Token) (xs : List Act) → GoesOn a b xs → (s : Setting) → IsSettingOf b.opening b.roll s → IsSettingOf a.opening a.roll s
setting_before a b xs x s q = setting_less a.opening a.roll b.roll s x.roll (subst (λ (o : Opening). IsSettingOf o b.roll s) x.opening q)

---- The call

-- the state of a caller's call, by all its own entries
pub called : (s : Setting) (c : Token) → is_by c.number c.prepared ≡ true → (now s c).now.calls c.number ≡ call_from s c.number no_call (all_own c)
called s c by =
    ap (λ (m : Rattle.heap_model.specs.CallState.Configuration). m.now.calls c.number) (sym (after-append s first_configuration c.seen c.prepared))
    ∙ (calls_by s first_configuration c.number (c.seen ++ c.prepared)
    ∙ ap (call_from s c.number no_call) (own-append c.number c.seen c.prepared ∙ ap (λ (l : List Entry). own c.number c.seen ++ l) (own_by c.number c.prepared by)))

-- .. from that of an earlier token, by what was added since
pub called_since : (s : Setting) (a b : Token) (added : List Act) → GoesOn a b added → is_by a.number a.prepared ≡ true → is_by b.number b.prepared ≡ true
    → (now s b).now.calls b.number ≡ call_from s a.number ((now s a).now.calls a.number) (by_all a.number added)
called_since s a b added x ba bb =
    called s b bb
    ∙ ((λ j. call_from s (x.number j) no_call (x.own j))
    ∙ (call_from-append s a.number no_call (all_own a) (by_all a.number added) ∙ ap (λ (k : CallState). call_from s a.number k (by_all a.number added)) (sym (called s a ba))))
