-- What the acts of a search show.
use Rattle.std.proofs.Common.{◌≡◌, ℕ, ◌/◌, Bool, true, not, List, [], ◌∷◌, ◌++◌, refl, sym, ap, ◌∙◌, subst, inl, inr}
use Rattle.std.specs.Prelude.{◌⊎◌, nat_lt}
use Rattle.std.specs.List.{list_all}
use Rattle.std.proofs.lemmas.Bool.{cases_Bool, and_from, and_parts, false≢true}
use Rattle.std.proofs.lemmas.List.{append-nil}
use Rattle.heap_model.specs.declared.Act.{Act}
use Rattle.heap_model.specs.declared.Act.TheVariants as acts
use Rattle.heap_model.specs.declared.Entry.{Entry}
use Rattle.heap_model.specs.State.{Area}
use Rattle.heap_model.specs.Shape.{shape_of, begins_move}
use Rattle.claim_rule.specs.Entries.{entry}
use Rattle.claim_rule.proofs.Lists.{prefix_self}
use Rattle.backend_fit.specs.Kept.{Kept, area_of}
use Rattle.call_laws.specs.Within.{by_all}
use Rattle.call_parts.specs.Calls.{GoesOn, all_own}
use Rattle.call_parts.proofs.Serving.{none_begins, none_begins-append, shape-append}
use Rattle.heap_gate.specs.Token.{Token}
use Rattle.lfh_search.specs.Acts.{by}
use Rattle.lfh_search.specs.Under.{CameBy, Found, Made, makes}
use Rattle.lfh_search.specs.Both.{is_of_search, AreOfSearch}
use Rattle.move_front.specs.Front.{is_quiet, AreBefore}

pub same_by : (n : ℕ) (rest : List Act) → by n rest ≡ by_all n rest
same_by n [] = refl
same_by n (act ∷ rest) = ap (λ (l : List Entry). entry n act ∷ l) (same_by n rest)

-- the caller with its draw
abbrev pub drawing : Token → Token
drawing c = record c { drawn = true }

pub goes_drawing : (c : Token) → GoesOn c (drawing c) []
goes_drawing c = record {
  table = refl;
  opening = refl;
  number = refl;
  depth = refl;
  roll = prefix_self c.roll;
  seen = prefix_self c.seen;
  own = sym (append-nil (all_own c));
}

all-append : (test : Act → Bool) (xs ys : List Act) → list_all test xs ≡ true → list_all test ys ≡ true → list_all test (xs ++ ys) ≡ true
all-append test [] ys h k = k
all-append test (x ∷ xs) ys h k = let p = and_parts (test x) (list_all test xs) h in and_from (test x) (list_all test (xs ++ ys)) p.0 (all-append test xs ys p.1 k)

pub before-append : (xs ys : List Act) → AreBefore xs → AreBefore ys → AreBefore (xs ++ ys)
before-append xs ys x y = record {
  quiet = all-append is_quiet xs ys x.quiet y.quiet;
  shape_is = shape-append xs ys ∙ (λ i. x.shape_is i ++ y.shape_is i);
  no_begin = none_begins-append xs ys x.no_begin y.no_begin;
  no_move = all-append (λ act. not (begins_move act)) xs ys x.no_move y.no_move;
}

pub search_before : (its : List Act) → AreOfSearch its → AreBefore its
search_before [] are = record { quiet = refl; shape_is = refl; no_begin = refl; no_move = refl }
search_before (act ∷ rest) are = one act are.0 (search_before rest are.1)
  where
    one : (act : Act) → is_of_search act ≡ true → AreBefore rest → AreBefore (act ∷ rest)
    one (acts.Saw head word bits) i h = record { quiet = h.quiet; shape_is = h.shape_is; no_begin = h.no_begin; no_move = h.no_move }
    one (acts.Lost head index) i h = record { quiet = h.quiet; shape_is = h.shape_is; no_begin = h.no_begin; no_move = h.no_move }
    one (acts.NoHint bucket slot) i h = record { quiet = h.quiet; shape_is = h.shape_is; no_begin = h.no_begin; no_move = h.no_move }
    one (acts.NoSpan bucket) i h = record { quiet = h.quiet; shape_is = h.shape_is; no_begin = h.no_begin; no_move = h.no_move }
    one _ i h = absurd (false≢true i)

pub active_before : (b : ℕ) (its : List Act) → (its ≡ []) ⊎ (its ≡ acts.Active b ∷ []) → AreBefore its
active_before b its (inl e) = subst AreBefore (sym e) (record { quiet = refl; shape_is = refl; no_begin = refl; no_move = refl })
active_before b its (inr e) = subst AreBefore (sym e) (record { quiet = refl; shape_is = refl; no_begin = refl; no_move = refl })

makes_shown : (a : Area) (first b t : ℕ) → (shape_of (makes a first b t) ≡ []) × (none_begins (makes a first b t) ≡ true)
makes_shown a first b t = elim (cases_Bool (nat_lt (first / 256) a.reserved)) [ inl e ↦ rw e (refl, refl) | inr e ↦ rw e (refl, refl) ]

pub came_shown : (back later : Kept) (b t d head i : ℕ) (made : List Act) → CameBy back later b t d head i made → (shape_of made ≡ []) × (none_begins made ≡ true)
came_shown back later b t d head i made (Found there none same) = subst (λ (l : List Act). (shape_of l ≡ []) × (none_begins l ≡ true)) (sym none) (refl, refl)
came_shown back later b t d head i made (Made room are drawn) = subst (λ (l : List Act). (shape_of l ≡ []) × (none_begins l ≡ true)) (sym are) (makes_shown (area_of back) head b t)
