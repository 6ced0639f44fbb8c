-- The gaps of a list of nodes, as a set.
use Rattle.std.proofs.Common.{◌≡◌, ◌≢◌, ℕ, ◌<◌, ◌≤◌, true, false, List, [], ◌∷◌, ◌++◌, map, length, Option, Some, None, sym, ap, subst, ◌∙◌, arith, true≢false}
use Rattle.std.specs.List.{AllByRecursion}
use Rattle.std.specs.FinSet as set
use Rattle.std.specs.Option.{MatchOption}
use Rattle.std.proofs.lemmas.List.{map-append}
use Rattle.std.proofs.lemmas.Bool.Decides.{nat_tests}
use Rattle.vs_free_tree.specs.Gaps.{gap_cmp, Gaps, IsUpTo, NoneFits, IsBest, is_before}
use Rattle.vs_free_tree.specs.Tree.{Entry, Tree, leaf, fork, entries, AreBefore, AreBehind, AreRising, Lack, IsSearchTree}
use Rattle.vs_free_tree.specs.Slots.{IsFirstFit, Finds}
use Rattle.vs_free_tree.proofs.EntryLemmas.{before_itself, all_join, all_weaker, rising_cut}
use Rattle.vs_free_tree.proofs.SetLemmas.{put_between, contained, of_each, others_if_absent, absent_if_others, insert_counts, taken_between}

abbrev pub gaps_of : List Entry → Gaps
gaps_of es = set.from_list (map (λ e. e.gap) es)

abbrev gap_list : List Entry → List (ℕ × ℕ)
gap_list es = map (λ e. e.gap) es

all_gaps : (P : ℕ × ℕ → Type 0) (es : List Entry) → AllByRecursion (λ e. P e.gap) es → AllByRecursion P (gap_list es)
all_gaps P [] all = tt
all_gaps P (e ∷ es) all = (all.0, all_gaps P es all.1)

all_entries : (P : ℕ × ℕ → Type 0) (es : List Entry) → AllByRecursion P (gap_list es) → AllByRecursion (λ e. P e.gap) es
all_entries P [] all = tt
all_entries P (e ∷ es) all = (all.0, all_entries P es all.1)

gaps_between : (a : List Entry) (e : Entry) (b : List Entry) → gap_list (a ++ e ∷ b) ≡ gap_list a ++ e.gap ∷ gap_list b
gaps_between a e b = map-append (λ (x : Entry). x.gap) a (e ∷ b)

gaps_beside : (a b : List Entry) → gap_list (a ++ b) ≡ gap_list a ++ gap_list b
gaps_beside a b = map-append (λ (x : Entry). x.gap) a b

pub of_put : (a : List Entry) (e : Entry) (b : List Entry) → gaps_of (a ++ e ∷ b) ≡ set.insert (gaps_of (a ++ b)) e.gap
of_put a e b =
    ap (λ (gs : List (ℕ × ℕ)). set.from_list {R = gap_cmp} gs) (gaps_between a e b)
    ∙ put_between (gap_list a) e.gap (gap_list b)
    ∙ ap (λ (gs : List (ℕ × ℕ)). set.insert (set.from_list {R = gap_cmp} gs) e.gap) (sym (gaps_beside a b))

pub of_held : (a : List Entry) (e : Entry) (b : List Entry) → set.contains (gaps_of (a ++ e ∷ b)) e.gap ≡ true
of_held a e b =
    ap (λ (gs : List (ℕ × ℕ)). set.contains (set.from_list {R = gap_cmp} gs) e.gap) (gaps_between a e b) ∙ contained (gap_list a) e.gap (gap_list b)

pub lack_if_absent : (es : List Entry) (g : ℕ × ℕ) → set.contains (gaps_of es) g ≡ false → Lack es g
lack_if_absent es g e = all_entries (λ h. h ≢ g) es (others_if_absent (gap_list es) g e)

pub absent_if_lack : (es : List Entry) (g : ℕ × ℕ) → Lack es g → set.contains (gaps_of es) g ≡ false
absent_if_lack es g lack = absent_if_others (gap_list es) g (all_gaps (λ h. h ≢ g) es lack)

not_itself : (g h : ℕ × ℕ) → is_before g h ≡ true → h ≢ g
not_itself g h e same = true≢false (sym e ∙ ap (is_before g) same ∙ before_itself g)

not_other : (g h : ℕ × ℕ) → is_before h g ≡ true → h ≢ g
not_other g h e same = true≢false (sym e ∙ ap (λ x. is_before x g) same ∙ before_itself g)

lack_behind : (es : List Entry) (g : ℕ × ℕ) → AreBehind es g → Lack es g
lack_behind es g behind = all_weaker (λ (x : Entry). is_before g x.gap ≡ true) (λ (x : Entry). x.gap ≢ g) (λ x b. not_itself g x.gap b) es behind

lack_before : (es : List Entry) (g : ℕ × ℕ) → AreBefore es g → Lack es g
lack_before es g before = all_weaker (λ (x : Entry). is_before x.gap g ≡ true) (λ (x : Entry). x.gap ≢ g) (λ x b. not_other g x.gap b) es before

-- no gap is there twice
pub counted : (es : List Entry) → AreRising es → set.len (gaps_of es) ≡ length es
counted [] up = set.len-empty gap_cmp
counted (e ∷ es) up =
    omega (arith, insert_counts (gaps_of es) e.gap (absent_if_lack es e.gap (lack_behind es e.gap up.0)), counted es up.1)

pub of_taken : (a : List Entry) (e : Entry) (b : List Entry) → AreRising (a ++ e ∷ b) → gaps_of (a ++ b) ≡ set.remove (gaps_of (a ++ e ∷ b)) e.gap
of_taken a e b up =
    let cut = rising_cut a e b up in
    let lack : Lack (a ++ b) e.gap = all_join (λ (x : Entry). x.gap ≢ e.gap) a b (lack_before a e.gap cut.before) (lack_behind b e.gap cut.behind) in
    let others = subst (AllByRecursion (λ h. h ≢ e.gap)) (gaps_beside a b) (all_gaps (λ h. h ≢ e.gap) (a ++ b) lack) in
    ap (λ (gs : List (ℕ × ℕ)). set.from_list {R = gap_cmp} gs) (gaps_beside a b)
    ∙ taken_between (gap_list a) e.gap (gap_list b) others
    ∙ ap (λ (gs : List (ℕ × ℕ)). set.remove (set.from_list {R = gap_cmp} gs) e.gap) (sym (gaps_between a e b))

pub is_search_tree : (t : Tree) → AreRising (entries t) → IsSearchTree t
is_search_tree leaf up = tt
is_search_tree (fork l e r) up =
    let cut = rising_cut (entries l) e (entries r) up in
    (cut.before, cut.behind, is_search_tree l cut.front, is_search_tree r cut.back)

---- The best gap

up_to_itself : (g : ℕ × ℕ) → IsUpTo g g
up_to_itself g = record { units = omega arith; at = λ e. omega arith }

up_to_if_before : (g h : ℕ × ℕ) → is_before g h ≡ true → IsUpTo g h
up_to_if_before g h e = record { units = grind (arith, nat_tests); at = grind (arith, nat_tests) }

first_is_best : (units : ℕ) (es : List Entry) (g : ℕ × ℕ) → AreRising es → IsFirstFit units es g → IsBest units (gaps_of es) g
first_is_best units es g up f =
    let cut = rising_cut f.front f.entry f.back (subst AreRising f.holds up) in
    let all : AllByRecursion (λ (x : Entry). units ≤ x.gap.0 → IsUpTo f.entry.gap x.gap) (f.front ++ f.entry ∷ f.back) =
    all_join (λ (x : Entry). units ≤ x.gap.0 → IsUpTo f.entry.gap x.gap) f.front (f.entry ∷ f.back)
    (all_weaker (λ (x : Entry). x.gap.0 < units) (λ (x : Entry). units ≤ x.gap.0 → IsUpTo f.entry.gap x.gap) (λ x low fits. absurd (omega arith)) f.front f.smaller) (
      (λ fits. up_to_itself f.entry.gap),
      all_weaker (λ (x : Entry). is_before f.entry.gap x.gap ≡ true) (λ (x : Entry). units ≤ x.gap.0 → IsUpTo f.entry.gap x.gap)
          (λ x before fits. up_to_if_before f.entry.gap x.gap before) f.back cut.behind,
    ) in
    subst (IsBest units (gaps_of es)) f.gap (record {
      held = ap (λ (xs : List Entry). set.contains (gaps_of xs) f.entry.gap) f.holds ∙ of_held f.front f.entry f.back;
      fits = subst (λ (h : ℕ × ℕ). units ≤ h.0) (sym f.gap) f.fits;
      least = λ h in_set fits.
          of_each (λ x. units ≤ x.0 → IsUpTo f.entry.gap x) (gap_list es) h
          (all_gaps (λ x. units ≤ x.0 → IsUpTo f.entry.gap x) es (subst (AllByRecursion (λ (x : Entry). units ≤ x.gap.0 → IsUpTo f.entry.gap x.gap)) (sym f.holds) all))
          in_set fits;
    })

pub found_is_best : (units : ℕ) (es : List Entry) (found : Option (ℕ × ℕ)) → AreRising es → Finds units es found
    → MatchOption found (NoneFits units (gaps_of es)) (IsBest units (gaps_of es))
found_is_best units es None up smaller = λ h in_set. of_each (λ x. x.0 < units) (gap_list es) h (all_gaps (λ x. x.0 < units) es smaller) in_set
found_is_best units es (Some g) up first = first_is_best units es g up first
