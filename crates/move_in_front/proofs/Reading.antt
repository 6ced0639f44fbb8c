-- What the caller has read counts as read still.
use Rattle.std.proofs.Common.{◌≡◌, ℕ, zero, suc, ◌+◌, ◌-◌, ◌/◌, Bool, true, false, List, [], ◌∷◌, ◌++◌, refl, sym, ap, ◌∙◌, inl, inr}
use Rattle.std.specs.Prelude.{nat_lt}
use Rattle.std.specs.List.{list_all}
use Rattle.std.proofs.lemmas.Bool.{cases_Bool, and_parts, and_from, false≢true}
use Rattle.heap_model.specs.declared.Act.{Act}
use Rattle.heap_model.specs.declared.Act.TheVariants as acts
use Rattle.heap_model.specs.declared.Entry.{Entry}
use Rattle.heap_model.specs.Geometry.{words_of}
use Rattle.heap_model.specs.History.{own}
use Rattle.heap_model.specs.Shape.{copying, zeros, zeroing_more, moving}
use Rattle.claim_rule.specs.Entries.{IsLegalWith}
use Rattle.claim_rule.proofs.Lists.{own-append}
use Rattle.call_laws.specs.Within.{by_all}
use Rattle.backend_fit.specs.Kept.{Kept, area_of}
use Rattle.heap_gate.specs.Token.{Token}
use Rattle.heap_gate.specs.Calls.{Does}
use Rattle.lfh_claims.specs.Stays.{stays_in, all_stay, all_leave_spans, IsInside, HasRead}
use Rattle.lfh_claims.proofs.Stays.{read_stays}
use Rattle.lfh_search.specs.Results.{place}
use Rattle.lfh_search.specs.Under.{CameBy, Found, Made}
use Rattle.call_parts.specs.Calls.{GoesOn}
use Rattle.move_front.specs.Front.{is_quiet}
use Rattle.stay_calls.proofs.Histories.{own_added}

---- Acts that stay inside

pub stay_by : (n : ℕ) (xs : List Act) → list_all stays_in xs ≡ true → all_stay (by_all n xs) ≡ true
stay_by n [] h = refl
stay_by n (x ∷ xs) h = let p = and_parts (stays_in x) (list_all stays_in xs) h in and_from (stays_in x) (all_stay (by_all n xs)) p.0 (stay_by n xs p.1)

pub stay_two : (xs ys : List Act) → list_all stays_in xs ≡ true → list_all stays_in ys ≡ true → list_all stays_in (xs ++ ys) ≡ true
stay_two [] ys h k = k
stay_two (x ∷ xs) ys h k = let p = and_parts (stays_in x) (list_all stays_in xs) h in and_from (stays_in x) (list_all stays_in (xs ++ ys)) p.0 (stay_two xs ys p.1 k)

quiet_inside : (act : Act) → is_quiet act ≡ true → stays_in act ≡ true
quiet_inside (acts.Active b) q = refl
quiet_inside (acts.Reserve segment) q = refl
quiet_inside (acts.Saw head word bits) q = refl
quiet_inside (acts.Lost head index) q = refl
quiet_inside (acts.NoHint bucket slot) q = refl
quiet_inside (acts.NoSpan bucket) q = refl
quiet_inside _ q = absurd (false≢true q)

pub stay_quiet : (xs : List Act) → list_all is_quiet xs ≡ true → list_all stays_in xs ≡ true
stay_quiet [] h = refl
stay_quiet (x ∷ xs) h = let p = and_parts (is_quiet x) (list_all is_quiet xs) h in and_from (stays_in x) (list_all stays_in xs) (quiet_inside x p.0) (stay_quiet xs p.1)

pub stay_came : (made : List Act) (back kept : Kept) (b t d head i : ℕ) → CameBy back kept b t d head i made → list_all stays_in (made ++ place b head i ∷ []) ≡ true
stay_came made back kept b t d head i (Found there none same) = ap (λ (l : List Act). list_all stays_in (l ++ place b head i ∷ [])) none
stay_came made back kept b t d head i (Made room are drawn) =
    ap (λ (l : List Act). list_all stays_in (l ++ place b head i ∷ [])) are ∙ elim (cases_Bool (nat_lt (head / 256) (area_of back).reserved)) [ inl e ↦ rw e refl | inr e ↦ rw e refl ]

stay_zeros : (zero_it : Bool) (word count : ℕ) → list_all stays_in (zeros zero_it word count) ≡ true
stay_zeros false word count = refl
stay_zeros true word zero = refl
stay_zeros true word (suc count) = stay_zeros true (word + 1) count

stay_copying : (from to : ℕ) (values : List ℕ) → list_all stays_in (copying from to values) ≡ true
stay_copying from to [] = refl
stay_copying from to (v ∷ vs) = stay_copying (from + 1) (to + 1) vs

pub stay_moving : (addr size b n : ℕ) (zero_it : Bool) (values : List ℕ) → list_all stays_in (moving addr size b n zero_it values) ≡ true
stay_moving addr size b n zero_it values =
    stay_two (copying (addr / 8) (b / 8) values) (zeroing_more zero_it b size n) (stay_copying (addr / 8) (b / 8) values) (stay_zeros zero_it (b / 8 + words_of size) (words_of n - words_of size))

---- The caller's list

does_of : (a b : Token) (xs : List Act) (g : GoesOn a b xs) → a.prepared ≡ [] → b.prepared ≡ [] → IsLegalWith b.opening b.roll b.seen → Does a b (by_all a.number xs)
does_of a b xs g na nb legal = record {
  table = g.table;
  opening = g.opening;
  number = g.number;
  roll = g.roll;
  seen = g.seen;
  own =
      ap (own a.number) (sym g.seen.1)
      ∙ (own-append a.number a.seen g.seen.0 ∙ ap (λ (l : List Entry). own a.number a.seen ++ l) (own_added a b xs g na nb g.seen ∙ ap (λ (l : List Entry). l ++ by_all a.number xs) (sym na)));
  prepared = nb;
  legal = legal;
}

pub reads_on : (a b : Token) (xs : List Act) → GoesOn a b xs → a.prepared ≡ [] → b.prepared ≡ [] → IsLegalWith b.opening b.roll b.seen → list_all stays_in xs ≡ true → IsInside a → (head k t : ℕ) → HasRead a head k t → HasRead b head k t
reads_on a b xs g na nb legal stay inside head k t read =
    read_stays a b (by_all a.number xs) (does_of a b xs g na nb legal) (ap (λ (l : List Entry). all_stay (l ++ by_all a.number xs)) na ∙ stay_by a.number xs stay) (ap all_leave_spans na) inside head k t read
