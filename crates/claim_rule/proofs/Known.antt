-- What seats know when the history grows by entries of one caller, and when the views change.
use Rattle.std.proofs.Common.{◌≡◌, ◌≢◌, ◌⊎◌, ℕ, zero, suc, ◌+◌, ◌<◌, true, false, List, [], ◌∷◌, ◌++◌, length, set, refl, sym, ap, ◌∙◌, subst, ⊎_elim, inl, inr, Some, None}
use Rattle.std.proofs.lemmas.List.{append-nil}
use Rattle.std.proofs.lemmas.Bool.{true≢false}
use mathlib.Core.Option.{some, some-injective, some-ne-none}
use mathlib.Core.List.{IsPrefix}
use lib.ListN.{get_elem?}
use Rattle.atomic_table.proofs.Lists.{at_set}
use Rattle.heap_model.specs.declared.Entry.{Entry}
use Rattle.heap_model.specs.State.{is_among}
use Rattle.heap_model.specs.History.{own}
use Rattle.claim_rule.specs.declared.views.Assignment.{Assignment}
use Rattle.heap_model.specs.declared.Opening.{Opening}
use Rattle.claim_rule.specs.declared.views.Lead.{Lead}
use Rattle.claim_rule.specs.declared.views.Owed.{Owed}
use Rattle.claim_rule.specs.declared.views.Role.{Role}
use Rattle.claim_rule.specs.declared.views.Role.TheVariants.{Nobody, Caller, Root}
use Rattle.claim_rule.specs.declared.views.View.{View}
use Rattle.claim_rule.specs.Shown.{back_holder}
use Rattle.claim_rule.specs.Entries.{is_by}
use Rattle.claim_rule.specs.Rule.{IsSeen, KnowsAs, Knows, view_of}
use Rattle.claim_rule.proofs.Lists.{own-append, own_by_other, prefix_more, prefix_nil, prefix_trans}
use Rattle.claim_rule.proofs.Holders.{holder-append, holder_other}

-- one view of the list is another
pub swapped : (P Q : ℕ → View → Type 0) (views : List View) (id : ℕ) (w : View) → ((j : ℕ) (v : View) → j ≢ id → P j v → Q j v) → ((j : ℕ) (v : View) → get_elem? views j ≡ some v → P j v) → Q id w
    → (j : ℕ) (v : View) → get_elem? (set views id w) j ≡ some v → Q j v
swapped P Q views id w on all new j v e = ⊎_elim
    (λ (t : (j ≡ id) × (w ≡ v)). subst (λ (y : ℕ × View). Q y.0 y.1) (λ i. (sym t.0 i, t.1 i)) new)
    (λ (t : (j ≢ id) × (get_elem? views j ≡ some v)). on j v t.0 (all j v t.1))
    (at_set views id j w v e)

at_end : (l : List View) (a b : View) (j : ℕ) → get_elem? (l ++ a ∷ []) j ≡ some b → (get_elem? l j ≡ some b) ⊎ ((j ≡ length l) × (a ≡ b))
at_end [] a b zero e = inr (refl, some-injective a b e)
at_end [] a b (suc j) e = absurd (some-ne-none b (sym e))
at_end (x ∷ xs) a b zero e = inl e
at_end (x ∷ xs) a b (suc j) e = ⊎_elim (λ (t : get_elem? xs j ≡ some b). inl t) (λ (t : (j ≡ length xs) × (a ≡ b)). inr (ap suc t.0, t.1)) (at_end xs a b j e)

-- one view more
pub grown : (P Q : ℕ → View → Type 0) (views : List View) (w : View) → ((j : ℕ) (v : View) → P j v → Q j v) → ((j : ℕ) (v : View) → get_elem? views j ≡ some v → P j v) → Q (length views) w
    → (j : ℕ) (v : View) → get_elem? (views ++ w ∷ []) j ≡ some v → Q j v
grown P Q views w on all new j v e = ⊎_elim
    (λ (t : get_elem? views j ≡ some v). on j v (all j v t))
    (λ (t : (j ≡ length views) × (w ≡ v)). subst (λ (y : ℕ × View). Q y.0 y.1) (λ i. (sym t.0 i, t.1 i)) new)
    (at_end views w v j e)

pub own_kept : (m n : ℕ) (log seen es : List Entry) → n ≢ m → is_by n es ≡ true → own m log ≡ own m seen → own m (log ++ es) ≡ own m seen
own_kept m n log seen es ne b h = own-append m log es ∙ (ap (λ l. own m log ++ l) (own_by_other m n es ne b) ∙ (append-nil (own m log) ∙ h))

pub seen_on : (o : Opening) (log es : List Entry) (lead : Lead) (roll : List Assignment) (list : List Entry) → IsSeen o log lead roll list → IsSeen o (log ++ es) lead roll list
seen_on o log es lead roll list h = record { list_begins = prefix_more list log es h.list_begins; roll_begins = h.roll_begins; legal = h.legal }

-- nothing was seen
pub seen_none : (o : Opening) (log : List Entry) (lead : Lead) → IsSeen o log lead [] []
seen_none o log lead = record { list_begins = prefix_nil log; roll_begins = prefix_nil lead.roll; legal = λ s h. refl }

---- The history grows by entries of n

module _ (o : Opening) (log : List Entry) (lead : Lead) (top : ℕ) (owner : ℕ → ℕ) (n id : ℕ) (mine : owner n ≡ id) (here : is_among n lead.joined ≡ false) (es : List Entry) (b : is_by n es ≡ true)
    (owes owes' : List Owed) (still : (owes' ≡ owes) ⊎ (back_holder (log ++ es) ≡ Some n)) where
  -- what another seat knows to owe stays
  owed_on : (m : ℕ) (mine : List Owed) → n ≢ m → (back_holder log ≡ Some m → mine ≡ owes) → back_holder (log ++ es) ≡ Some m → mine ≡ owes'
  owed_on m mine ne k e = ⊎_elim
      (λ (t : owes' ≡ owes). k (holder_other n m (back_holder log) es ne b (sym (holder-append None log es) ∙ e)) ∙ sym t)
      (λ (t : back_holder (log ++ es) ≡ Some n). absurd (ne (let z : Some n ≡ Some m = sym t ∙ e in cc (z))))
      still

  -- another seat knows as much
  role_on : (j : ℕ) (v : View) (role : Role) → j ≢ id → KnowsAs o log lead top owner owes j v role → KnowsAs o (log ++ es) lead top owner owes' j v role
  role_on j v Nobody ne k = tt
  role_on j v (Caller m) ne k =
      let no : n ≢ m = λ e. ne (sym k.1 ∙ (ap owner (sym e) ∙ mine)) in
      (k.0, k.1, k.2, own_kept m n log v.seen es no b k.3, k.4, owed_on m v.owes no k.5)
  role_on j v (Root q) ne k =
      let other : (m : ℕ) → is_among m lead.joined ≡ true → n ≢ m = λ m t e. true≢false (sym (ap (λ (x : ℕ). is_among x lead.joined) e ∙ t) ∙ here) in
      (k.0, k.1, (λ m t. ⊎_elim (λ (e : lead.last ≡ m + 1). inl e) (λ (e : own m log ≡ own m v.seen). inr (own_kept m n log v.seen es (other m t) b e)) (k.2 m t)), (λ m t. let z = k.3 m t in (z.0, own_kept m n log v.heard es (other m z.0) b z.1)), k.4)

  knows_on : (j : ℕ) (v : View) → j ≢ id → Knows o log lead top owner owes j v → Knows o (log ++ es) lead top owner owes' j v
  knows_on j v ne k = record { seen = seen_on o log es lead v.roll v.seen k.seen; heard = seen_on o log es lead v.heard_roll v.heard k.heard; role = role_on j v v.role ne k.role }

  pub known_set : (views : List View) (w : View) → ((j : ℕ) (v : View) → get_elem? views j ≡ some v → Knows o log lead top owner owes j v) → Knows o (log ++ es) lead top owner owes' id w
      → (j : ℕ) (v : View) → get_elem? (set views id w) j ≡ some v → Knows o (log ++ es) lead top owner owes' j v
  known_set views w all new = swapped (Knows o log lead top owner owes) (Knows o (log ++ es) lead top owner owes') views id w knows_on all new

pub seen_still : (o : Opening) (log : List Entry) (lead lead' : Lead) (roll : List Assignment) (list : List Entry) → IsPrefix lead.roll lead'.roll → IsSeen o log lead roll list → IsSeen o log lead' roll list
seen_still o log lead lead' roll list more h = record { list_begins = h.list_begins; roll_begins = prefix_trans roll lead.roll lead'.roll h.roll_begins more; legal = h.legal }

---- A seat that is not the root's goes on where the callers' facts do

module _ (o : Opening) (log : List Entry) (lead lead' : Lead) (top : ℕ) (owner owner' : ℕ → ℕ) (owes : List Owed) (j : ℕ) (far : top ≢ j) (more : IsPrefix lead.roll lead'.roll)
    (on : (m : ℕ) → m < length lead.roll → owner m ≡ j → is_among m lead.joined ≡ false → (m < length lead'.roll) × (owner' m ≡ j) × (is_among m lead'.joined ≡ false)) where
  role_still : (v : View) (role : Role) → KnowsAs o log lead top owner owes j v role → KnowsAs o log lead' top owner' owes j v role
  role_still v Nobody k = tt
  role_still v (Caller m) k = let t = on m k.0 k.1 k.2 in (t.0, t.1, t.2, k.3, k.4, k.5)
  role_still v (Root q) k = absurd (far k.1)

  pub knows_still : (v : View) → Knows o log lead top owner owes j v → Knows o log lead' top owner' owes j v
  knows_still v k = record { seen = seen_still o log lead lead' v.roll v.seen more k.seen; heard = seen_still o log lead lead' v.heard_roll v.heard more k.heard; role = role_still v v.role k.role }

-- nobody sits on the seat
pub nobody : (o : Opening) (log : List Entry) (lead : Lead) (top : ℕ) (owner : ℕ → ℕ) (owes : List Owed) (j : ℕ) (a : Opening) (roll heard_roll : List Assignment) (seen heard : List Entry) → IsSeen o log lead roll seen → IsSeen o log lead heard_roll heard
    → Knows o log lead top owner owes j (view_of a Nobody roll seen heard_roll heard [])
nobody o log lead top owner owes j a roll heard_roll seen heard p q = record { seen = p; heard = q; role = tt }
