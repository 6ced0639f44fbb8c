-- One name more, in a map of names to their numbers.
use Rattle.std.proofs.Common.{◌≡◌, ℕ, ◌+◌, true, false, cond, List, [], ◌∷◌, ◌++◌, Some, None, Result, Ok, Err, refl, ap, sym, ◌∙◌, arith, inl, inr}
use Rattle.std.specs.Prelude.{is_some, IfOk}
use Rattle.std.specs.Option.{unwrap_or}
use Rattle.std.specs.Str.{bytes_eq}
use Rattle.std.specs.BTreeMap.{BTreeMap, get, btree_map_len, Updates}
use Rattle.std.proofs.lemmas.Bool.{cases_Bool}
use Rattle.script_text.specs.Words.{is_name}
use Rattle.script_text.specs.Keys.{key_of, key_cmp}
use Rattle.script_text.specs.Names.{is_among, different, number_of_name, AreNumbered}
use Rattle.script_text.proofs.NameLemmas.{same_bytes, bytes_same, bytes_back, or_false, or_true, among_push, before_known, before_new, different_push}
use Rattle.script_text.proofs.KeyLemmas.{key_tells}

-- what a map has at a name, behind an entry for another or the same name
at_entry : (m m' : BTreeMap (ℕ × ℕ) ℕ) (x q : List ℕ) (n : ℕ) → is_name x ≡ true → is_name q ≡ true → Updates key_cmp m m' (key_of x) (Some n) →
    get key_cmp m' (key_of q) ≡ cond (bytes_eq x q) (Some n) (get key_cmp m (key_of q))
at_entry m m' x q n hx hq u = u.0 (key_of q) ∙ ap (λ b. cond b (Some n) (get key_cmp m (key_of q))) (key_tells x q hx hq)

known : (m m' : BTreeMap (ℕ × ℕ) ℕ) (names : List (List ℕ)) (x : List ℕ) (n : ℕ) → is_name x ≡ true → AreNumbered m names → is_among names x ≡ true →
    n ≡ number_of_name names x → btree_map_len m' ≡ btree_map_len m → Updates key_cmp m m' (key_of x) (Some n) →
    AreNumbered m' (names ++ x ∷ []) × (n ≡ number_of_name (names ++ x ∷ []) x)
known m m' names x n hx h k is len u = (
  record {
    found = λ q hq. at_entry m m' x q n hx hq u ∙ elim (cases_Bool (bytes_eq x q)) [
      | inl b ↦
          let s : q ≡ x = sym (same_bytes x q b) in
          rw (b, among_push names x q, s, k, before_known x names (x ∷ []) k) (ap Some is)
      | inr b ↦
          let back = bytes_back x q b in
          rw (b, among_push names x q, back, or_false (is_among names q)) (h.found q hq ∙ elim (cases_Bool (is_among names q)) [
            | inl a ↦ rw (a, before_known q names (x ∷ []) a) refl
            | inr a ↦ rw a refl
          ])
    ];
    count = rw (different_push names x, k) (omega (arith, h.count, len));
  },
  rw (before_known x names (x ∷ []) k) is,
)

fresh : (m m' : BTreeMap (ℕ × ℕ) ℕ) (names : List (List ℕ)) (x : List ℕ) (n : ℕ) → is_name x ≡ true → AreNumbered m names → is_among names x ≡ false →
    n ≡ btree_map_len m → btree_map_len m' ≡ btree_map_len m + 1 → Updates key_cmp m m' (key_of x) (Some n) →
    AreNumbered m' (names ++ x ∷ []) × (n ≡ number_of_name (names ++ x ∷ []) x)
fresh m m' names x n hx h k is len u =
    let new : number_of_name (names ++ x ∷ []) x ≡ different names = ap different (before_new x names [] k) in
    let number : n ≡ number_of_name (names ++ x ∷ []) x = is ∙ h.count ∙ sym new in (
      record {
        found = λ q hq. at_entry m m' x q n hx hq u ∙ elim (cases_Bool (bytes_eq x q)) [
          | inl b ↦
              let s : q ≡ x = sym (same_bytes x q b) in
              rw (b, among_push names x q, s, bytes_same x, or_true (is_among names x)) (ap Some number)
          | inr b ↦
              let back = bytes_back x q b in
              rw (b, among_push names x q, back, or_false (is_among names q)) (h.found q hq ∙ elim (cases_Bool (is_among names q)) [
                | inl a ↦ rw (a, before_known q names (x ∷ []) a) refl
                | inr a ↦ rw a refl
              ])
        ];
        count = rw (different_push names x, k) (len ∙ ap (λ i. i + 1) h.count);
      },
      number,
    )

-- a name is entered: with its number, if it stood before, or else with the next one
pub entered : (m m' : BTreeMap (ℕ × ℕ) ℕ) (names : List (List ℕ)) (x : List ℕ) (n : ℕ) → is_name x ≡ true → AreNumbered m names →
    n ≡ unwrap_or (get key_cmp m (key_of x)) (btree_map_len m) → btree_map_len m' ≡ btree_map_len m + cond (is_some (get key_cmp m (key_of x))) 0 1 →
    Updates key_cmp m m' (key_of x) (Some n) → AreNumbered m' (names ++ x ∷ []) × (n ≡ number_of_name (names ++ x ∷ []) x)
entered m m' names x n hx h is len u =
    let f = h.found x hx in
    elim (cases_Bool (is_among names x)) [
      | inl k ↦
          let g : get key_cmp m (key_of x) ≡ Some (number_of_name names x) = rw k at f in
          known m m' names x n hx h k (rw g at is) (let l = rw g at len in omega (arith, l)) u
      | inr k ↦
          let g : get key_cmp m (key_of x) ≡ None = rw k at f in
          fresh m m' names x n hx h k (rw g at is) (rw g at len) u
    ]

abbrev IsNumbered : BTreeMap (ℕ × ℕ) ℕ → BTreeMap (ℕ × ℕ) ℕ → List ℕ → Type 0
IsNumbered m m' x = (names : List (List ℕ)) → AreNumbered m names → AreNumbered m' (names ++ x ∷ [])

abbrev HasNumber : BTreeMap (ℕ × ℕ) ℕ → List ℕ → ℕ → Type 0
HasNumber m x n = (names : List (List ℕ)) → AreNumbered m names → n ≡ number_of_name (names ++ x ∷ []) x

-- the same of an answer that may want memory
pub entered_by : {E : Type 0} (r : Result ℕ E) (m m' : BTreeMap (ℕ × ℕ) ℕ) (x : List ℕ) (k : ℕ × ℕ) → k ≡ key_of x → is_name x ≡ true →
    IfOk r (λ n. n ≡ unwrap_or (get key_cmp m k) (btree_map_len m)) → IfOk r (λ _. btree_map_len m' ≡ btree_map_len m + cond (is_some (get key_cmp m k)) 0 1) →
    IfOk r (λ n. Updates key_cmp m m' k (Some n)) → IfOk r (λ _. IsNumbered m m' x) × IfOk r (HasNumber m x)
entered_by (Err e) m m' x k same hx is len u = (tt, tt)
entered_by (Ok n) m m' x k same hx is len u =
    let is_here = rw same at is in
    let len_here = rw same at len in
    let u_here = rw same at u in (
      λ names h. (entered m m' names x n hx h is_here len_here u_here).0,
      λ names h. (entered m m' names x n hx h is_here len_here u_here).1,
    )
