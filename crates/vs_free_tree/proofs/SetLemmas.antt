-- What the set of a list of gaps holds.
use Rattle.std.proofs.Common.{◌≡◌, ◌≢◌, ℕ, ◌+◌, Bool, true, false, cond, not, ◌&&◌, ◌||◌, ◌⊎◌, inl, inr, List, [], ◌∷◌, ◌++◌, refl, sym, ap, subst, ◌∙◌, true≢false}
use Rattle.std.specs.List.{list_any, AllByRecursion}
use Rattle.std.specs.Cmp.{IsTotalOrder, on_total}
use Rattle.std.specs.Ordering.{nat_cmp, eq_by_cmp, is_eq}
use Rattle.std.proofs.lemmas.Cmp.{then_total, nat_cmp_total, tied_itself}
use Rattle.std.proofs.lemmas.Map.Lookups.{CmpEqualImpliesEq, exact_pairs, exact_unsigned}
use Rattle.std.proofs.lemmas.Map.Views.{tells_apart}
use Rattle.std.specs.FinSet as set
use Rattle.vs_free_tree.specs.Gaps.{gap_cmp, Gaps}

abbrev Gap : Type 0
Gap = ℕ × ℕ

pub gap_cmp_total : IsTotalOrder gap_cmp
gap_cmp_total = then_total (on_total (λ (g : Gap). g.0) nat_cmp_total) (on_total (λ (g : Gap). g.1) nat_cmp_total)

tells_gaps : CmpEqualImpliesEq gap_cmp
tells_gaps = exact_pairs nat_cmp nat_cmp exact_unsigned exact_unsigned

abbrev same : Gap → Gap → Bool
same = eq_by_cmp gap_cmp

abbrev of : List Gap → Gaps
of gs = set.from_list gs

same_itself : (g : Gap) → same g g ≡ true
same_itself g = ap is_eq (tied_itself gap_cmp_total g)

first_or_later : (a b : Bool) → (a || b) ≡ true → (a ≡ true) ⊎ (b ≡ true)
first_or_later true b e = inl refl
first_or_later false b e = inr e

neither : (a b : Bool) → (a || b) ≡ false → (a ≡ false) × (b ≡ false)
neither true b e = absurd (true≢false e)
neither false b e = (refl, e)

---- One gap among others

swap_tests : (a b c : Bool) → (a || (b || c)) ≡ (b || (a || c))
swap_tests true true c = refl
swap_tests true false c = refl
swap_tests false b c = refl

any_between : (test : Gap → Bool) (a : List Gap) (g : Gap) (b : List Gap) → list_any test (a ++ g ∷ b) ≡ (test g || list_any test (a ++ b))
any_between test [] g b = refl
any_between test (x ∷ a) g b = ap (λ r. test x || r) (any_between test a g b) ∙ swap_tests (test x) (test g) (list_any test (a ++ b))

pub put_between : (a : List Gap) (g : Gap) (b : List Gap) → of (a ++ g ∷ b) ≡ set.insert (of (a ++ b)) g
put_between a g b = set.same_set gap_cmp_total tells_gaps _ _ (λ q.
    set.contains-from_list gap_cmp_total (a ++ g ∷ b) q
    ∙ any_between (same q) a g b
    ∙ sym (set.contains-insert gap_cmp_total (of (a ++ b)) g q ∙ ap (λ r. same q g || r) (set.contains-from_list gap_cmp_total (a ++ b) q)))

pub contained : (a : List Gap) (g : Gap) (b : List Gap) → set.contains (of (a ++ g ∷ b)) g ≡ true
contained a g b =
    ap (λ s. set.contains s g) (put_between a g b)
    ∙ set.contains-insert gap_cmp_total (of (a ++ b)) g g
    ∙ ap (λ r. r || set.contains (of (a ++ b)) g) (same_itself g)

---- What holds of all

any_is : (P : Gap → Type 0) (h : Gap) (gs : List Gap) → AllByRecursion P gs → list_any (same h) gs ≡ true → P h
any_is P h [] all e = absurd (true≢false (sym e))
any_is P h (g ∷ gs) all e = elim (first_or_later (same h g) (list_any (same h) gs) e) [
  | inl here ↦ subst P (sym (tells_apart tells_gaps h g here)) all.0
  | inr there ↦ any_is P h gs all.1 there
]

pub of_each : (P : Gap → Type 0) (gs : List Gap) (h : Gap) → AllByRecursion P gs → set.contains (of gs) h ≡ true → P h
of_each P gs h all e = any_is P h gs all (sym (set.contains-from_list gap_cmp_total gs h) ∙ e)

none_is : (g : Gap) (gs : List Gap) → list_any (same g) gs ≡ false → AllByRecursion (λ h. h ≢ g) gs
none_is g [] e = tt
none_is g (x ∷ gs) e =
    let parts = neither (same g x) (list_any (same g) gs) e in
    ((λ at. true≢false (sym (ap (same g) at ∙ same_itself g) ∙ parts.0)), none_is g gs parts.1)

pub others_if_absent : (gs : List Gap) (g : Gap) → set.contains (of gs) g ≡ false → AllByRecursion (λ h. h ≢ g) gs
others_if_absent gs g e = none_is g gs (sym (set.contains-from_list gap_cmp_total gs g) ∙ e)

pub absent_if_others : (gs : List Gap) (g : Gap) → AllByRecursion (λ h. h ≢ g) gs → set.contains (of gs) g ≡ false
absent_if_others gs g others = by (set.contains (of gs) g) refl
  where
    by : (b : Bool) → set.contains (of gs) g ≡ b → set.contains (of gs) g ≡ false
    by false e = e
    by true e = absurd (of_each (λ h. h ≢ g) gs g others e refl)

---- One more, or one less

pub insert_counts : (s : Gaps) (g : Gap) → set.contains s g ≡ false → set.len (set.insert s g) ≡ set.len s + 1
insert_counts s g e = set.len-insert gap_cmp_total s g ∙ ap (λ b. cond b (set.len s) (set.len s + 1)) e

remove_from : (s t : Gaps) (g : Gap) → ((q : Gap) → (not (same q g) && set.contains s q) ≡ set.contains t q) → set.remove s g ≡ t
remove_from s t g e = set.same_set gap_cmp_total tells_gaps _ _ (λ q. set.contains-remove gap_cmp_total s g q ∙ e q)

-- a gap that is not there is not removed
pub untouched : (s : Gaps) (g : Gap) → set.contains s g ≡ false → set.remove s g ≡ s
untouched s g absent = remove_from s s g (λ q. by q (same q g) refl)
  where
    by : (q : Gap) (b : Bool) → same q g ≡ b → (not (same q g) && set.contains s q) ≡ set.contains s q
    by q true e = ap (λ b. not b && set.contains s q) e ∙ sym (ap (set.contains s) (tells_apart tells_gaps q g e) ∙ absent)
    by q false e = ap (λ b. not b && set.contains s q) e

-- what was put in comes out again
taken_back : (s : Gaps) (g : Gap) → set.contains s g ≡ false → set.remove (set.insert s g) g ≡ s
taken_back s g absent =
    remove_from (set.insert s g) s g (λ q. ap (λ b. not (same q g) && b) (set.contains-insert gap_cmp_total s g q) ∙ by q (same q g) refl)
  where
    by : (q : Gap) (b : Bool) → same q g ≡ b → (not (same q g) && (same q g || set.contains s q)) ≡ set.contains s q
    by q true e =
        ap (λ b. not b && (b || set.contains s q)) e ∙ sym (ap (set.contains s) (tells_apart tells_gaps q g e) ∙ absent)
    by q false e = ap (λ b. not b && (b || set.contains s q)) e

pub taken_between : (a : List Gap) (g : Gap) (b : List Gap) → AllByRecursion (λ h. h ≢ g) (a ++ b) → of (a ++ b) ≡ set.remove (of (a ++ g ∷ b)) g
taken_between a g b others =
    sym (ap (λ s. set.remove s g) (put_between a g b) ∙ taken_back (of (a ++ b)) g (absent_if_others (a ++ b) g others))
