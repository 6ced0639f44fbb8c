-- The configuration before the last own entry, and what a call has done that shows nothing.
use Rattle.std.proofs.Common.{◌≡◌, ℕ, ◌==◌, true, false, List, [], ◌∷◌, ◌++◌, Option, Some, None, refl, sym, ap, ◌∙◌, inl, inr}
use Rattle.std.specs.List.{list_any}
use Rattle.std.proofs.lemmas.Bool.{cases_Bool, false≢true}
use Rattle.heap_model.specs.declared.Act.{Act}
use Rattle.heap_model.specs.declared.Act.TheVariants as acts
use Rattle.heap_model.specs.declared.Entry.{Entry}
use Rattle.heap_model.specs.declared.Kind.{Kind}
use Rattle.heap_model.specs.declared.Kind.TheVariants as kinds
use Rattle.heap_model.specs.CallState.{CallState, Search}
use Rattle.heap_model.specs.History.{own}
use Rattle.heap_model.specs.Legal.{call_after, step_search, after_span}
use Rattle.heap_model.specs.Search.{SearchKey, asked_bucket, after_own_span, after_saw, after_lost, after_no_hint, after_no_span}
use Rattle.heap_model.specs.Shape.{shape_of, is_left_out, is_take}
use Rattle.heap_model.specs.State.{Setting}
use Rattle.call_laws.specs.Within.{by_all}
use Rattle.call_parts.proofs.Own.{call_from}

---- The last own entry

pub record IsSplit (n : ℕ) (rest : List Entry) (xs : List Entry) (e : Entry) : Type 0 where
  pub first : List Entry
  pub tail : List Entry
  pub is : rest ≡ first ++ e ∷ tail
  pub before : own n first ≡ xs
  pub behind : own n tail ≡ []

own_more : (n : ℕ) (y : Entry) (ys : List Entry) → (y.caller == n) ≡ true → own n (y ∷ ys) ≡ y ∷ own n ys
own_more n y ys h = rw h refl

own_less : (n : ℕ) (y : Entry) (ys : List Entry) → (y.caller == n) ≡ false → own n (y ∷ ys) ≡ own n ys
own_less n y ys h = rw h refl

pub split_last : (n : ℕ) (rest xs : List Entry) (e : Entry) → own n rest ≡ xs ++ e ∷ [] → IsSplit n rest xs e
split_last n [] [] e h = absurd (let bad : ⊥ = cc (h) in bad)
split_last n [] (x ∷ xs) e h = absurd (let bad : ⊥ = cc (h) in bad)
split_last n (y ∷ ys) xs e h = elim (cases_Bool (y.caller == n)) [
  | inl q ↦ by xs (sym (own_more n y ys q) ∙ h) q (λ zs g. split_last n ys zs e g)
  | inr q ↦
      let r = split_last n ys xs e (sym (own_less n y ys q) ∙ h) in
      record { first = y ∷ r.first; tail = r.tail; is = ap (λ (l : List Entry). y ∷ l) r.is; before = own_less n y r.first q ∙ r.before; behind = r.behind }
]
  where
    by : (zs : List Entry) → y ∷ own n ys ≡ zs ++ e ∷ [] → (y.caller == n) ≡ true → ((ws : List Entry) → own n ys ≡ ws ++ e ∷ [] → IsSplit n ys ws e) → IsSplit n (y ∷ ys) zs e
    by [] g q again = let same : y ≡ e = cc (g) in let none : own n ys ≡ [] = cc (g) in record { first = []; tail = ys; is = ap (λ (z : Entry). z ∷ ys) same; before = refl; behind = none }
    by (z ∷ zs) g q again =
        let same : y ≡ z = cc (g) in let more : own n ys ≡ zs ++ e ∷ [] = cc (g) in
        let r = again zs more in
        record { first = y ∷ r.first; tail = r.tail; is = ap (λ (l : List Entry). y ∷ l) r.is; before = own_more n y r.first q ∙ (λ i. same i ∷ r.before i); behind = r.behind }

---- Acts that no shape shows

pub hidden_parts : (x : Act) (xs : List Act) → shape_of (x ∷ xs) ≡ [] → (is_left_out x ≡ true) × (shape_of xs ≡ [])
hidden_parts x xs h = elim (cases_Bool (is_left_out x)) [
  | inl e ↦ (e, let g = rw e at h in g)
  | inr e ↦ absurd (let g = rw e at h in let bad : ⊥ = cc (g) in bad)
]

not_take : (x : Act) → is_left_out x ≡ true → is_take x ≡ false
not_take (acts.Take a size) h = absurd (false≢true h)
not_take _ h = refl

pub none_takes : (xs : List Act) → shape_of xs ≡ [] → list_any is_take xs ≡ false
none_takes [] h = refl
none_takes (x ∷ xs) h = let p = hidden_parts x xs h in let e = not_take x p.0 in rw e (none_takes xs p.1)

searched_placed : (s : Setting) (n : ℕ) (k : CallState) (f : SearchKey → Search → Search) (o : Option ℕ) → (step_search s n k f o).placed ≡ k.placed
searched_placed s n k f None = refl
searched_placed s n k f (Some b) = refl

span_placed : (s : Setting) (n : ℕ) (k : CallState) (first : ℕ) (kind : Kind) → (after_span s n k first kind).placed ≡ k.placed
span_placed s n k first kinds.Lfh = searched_placed s n k (λ g f. after_own_span g f first) (asked_bucket k)
span_placed s n k first kinds.Header = refl
span_placed s n k first kinds.Free = refl
span_placed s n k first kinds.Vs = refl
span_placed s n k first kinds.Back = refl

left_placed : (s : Setting) (n : ℕ) (k : CallState) (x : Act) → is_left_out x ≡ true → k.placed ≡ false → (call_after s n k x).placed ≡ false
left_placed s n k (acts.Begin call) h p = refl
left_placed s n k acts.Enter h p = p
left_placed s n k acts.Leave h p = p
left_placed s n k (acts.TakeLock what) h p = p
left_placed s n k (acts.GiveLock what) h p = p
left_placed s n k (acts.Reserve segment) h p = p
left_placed s n k (acts.Span first pages kind bucket slot) h p = span_placed s n k first kind ∙ p
left_placed s n k (acts.Unspan first) h p = p
left_placed s n k (acts.Active bucket) h p = p
left_placed s n k (acts.Saw head word bits) h p = searched_placed s n k (λ g f. after_saw g f head word bits) (asked_bucket k) ∙ p
left_placed s n k (acts.Lost head index) h p = searched_placed s n k (λ g f. after_lost f) (asked_bucket k) ∙ p
left_placed s n k (acts.NoHint bucket slot) h p = searched_placed s n k (λ g f. after_no_hint f) (asked_bucket k) ∙ p
left_placed s n k (acts.NoSpan bucket) h p = searched_placed s n k (λ g f. after_no_span f) (asked_bucket k) ∙ p
left_placed s n k _ h p = absurd (false≢true h)

pub still_unplaced : (s : Setting) (n : ℕ) (k : CallState) (xs : List Act) → shape_of xs ≡ [] → k.placed ≡ false → (call_from s n k (by_all n xs)).placed ≡ false
still_unplaced s n k [] h p = p
still_unplaced s n k (x ∷ xs) h p = let q = hidden_parts x xs h in still_unplaced s n (call_after s n k x) xs q.1 (left_placed s n k x q.0 p)
