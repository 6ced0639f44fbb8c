-- Which acts try a lock, and what comes before them.
use Rattle.std.proofs.Common.{◌≡◌, ℕ, ◌/◌, Bool, true, List, [], ◌∷◌, ◌++◌, refl, sym, ap, ◌∙◌, subst, append_assoc, inl, inr}
use Rattle.std.proofs.lemmas.Bool.{cases_Bool, false≢true}
use Rattle.std.specs.Prelude.{nat_lt}
use Rattle.heap_model.specs.declared.Act.{Act}
use Rattle.heap_model.specs.declared.Act.TheVariants as acts
use Rattle.heap_model.specs.declared.Call.{Call}
use Rattle.heap_model.specs.declared.What.{What}
use Rattle.heap_model.specs.declared.What.TheVariants as whats
use Rattle.heap_model.specs.State.{Area}
use Rattle.heap_gate.specs.Token.{Token}
use Rattle.backend_fit.specs.Kept.{Kept, area_of}
use Rattle.lfh_claims.specs.Search.{own_slot}
use Rattle.lfh_search.specs.Acts.{is_reading, AreReadings, losses}
use Rattle.lfh_search.specs.Hints.{IsSpentBy}
use Rattle.lfh_search.specs.Results.{place}
use Rattle.lfh_search.specs.Under.{CameBy, Found, Made, makes}
use Rattle.call_parts.specs.Calls.{GoesOn}
use Rattle.call_parts.proofs.Joining.{goes_then}
use Rattle.small_calls.specs.Fronts.{HasGivenBlock, front_acts}
use Rattle.vs_calls.specs.Tries.{tries_none}
use Rattle.vs_calls.proofs.Tries.{none-append, none_zeroed}
use Rattle.small_calls.specs.Late.{HasSpentFirst, TriesNeither}

---- Lists that try nothing

pub none_read : (what : What) (its : List Act) → AreReadings its → tries_none what its ≡ true
none_read what [] are = refl
none_read what (act ∷ rest) are = one act are.0 (none_read what rest are.1)
  where
    one : (act : Act) → is_reading act ≡ true → tries_none what rest ≡ true → tries_none what (act ∷ rest) ≡ true
    one (acts.Saw head word bits) i h = h
    one (acts.Lost head index) i h = h
    one (acts.NoHint bucket slot) i h = h
    one _ i h = absurd (false≢true i)

pub none_front : (what : What) (b head i n : ℕ) (zero_it : Bool) → tries_none what (front_acts b head i n zero_it) ≡ true
none_front what b head i n zero_it =
    let a = Rattle.heap_model.specs.Buckets.block_address b head i in
    none_zeroed what a n zero_it (acts.Give a n ∷ []) refl

none_made : (what : What) (a : Area) (first b t : ℕ) → tries_none what (makes a first b t) ≡ true
none_made what a first b t = elim (cases_Bool (nat_lt (first / 256) a.reserved)) [ inl e ↦ rw e refl | inr e ↦ rw e refl ]

pub none_came : (what : What) (back after : Kept) (b t d head i : ℕ) (made : List Act) → CameBy back after b t d head i made → tries_none what made ≡ true
none_came what back after b t d head i made (Found there none same) = subst (λ (l : List Act). tries_none what l ≡ true) (sym none) refl
none_came what back after b t d head i made (Made place are drawn) = subst (λ (l : List Act). tries_none what l ≡ true) (sym are) (none_made what (area_of back) head b t)

---- Reasons

pub spent_by : (a at : Token) (b d : ℕ) (earlier its mid : List Act) → GoesOn a at earlier → AreReadings its → IsSpentBy b (own_slot at) d (losses its) its → HasSpentFirst a b ((earlier ++ its) ++ mid)
spent_by a at b d earlier its mid g are why = record { earlier = earlier; its = its; later = mid; parts = append_assoc earlier its mid; are = are; at = at; goes = g; draw = d; why = why }

pub spent_more : (a : Token) (b : ℕ) (xs ys : List Act) → HasSpentFirst a b xs → HasSpentFirst a b (xs ++ ys)
spent_more a b xs ys h = record {
  earlier = h.earlier;
  its = h.its;
  later = h.later ++ ys;
  parts = (λ i. h.parts i ++ ys) ∙ (append_assoc h.earlier (h.its ++ h.later) ys ∙ ap (λ (l : List Act). h.earlier ++ l) (append_assoc h.its h.later ys));
  are = h.are;
  at = h.at;
  goes = h.goes;
  draw = h.draw;
  why = h.why;
}

pub spent_later : (a m : Token) (b : ℕ) (xs ys : List Act) → GoesOn a m xs → HasSpentFirst m b ys → HasSpentFirst a b (xs ++ ys)
spent_later a m b xs ys g h = record {
  earlier = xs ++ h.earlier;
  its = h.its;
  later = h.later;
  parts = ap (λ (l : List Act). xs ++ l) h.parts ∙ sym (append_assoc xs h.earlier (h.its ++ h.later));
  are = h.are;
  at = h.at;
  goes = goes_then a m h.at xs h.earlier g h.goes;
  draw = h.draw;
  why = h.why;
}

---- A block that is found without a lock

-- readings, and then the block
pub front_neither : (what : What) (its : List Act) (b head i n : ℕ) (zero_it : Bool) → AreReadings its → tries_none what (its ++ front_acts b head i n zero_it) ≡ true
front_neither what its b head i n zero_it are = none-append what its (front_acts b head i n zero_it) (none_read what its are) (none_front what b head i n zero_it)

pub try_neither : (a m f : Token) → GoesOn a m [] → {call : Call} (b n : ℕ) (zero_it : Bool) (addr : ℕ) → HasGivenBlock m f call b n zero_it addr → TriesNeither a f
try_neither a m f goes b n zero_it addr g = record {
  added = g.its ++ front_acts b g.head g.index n zero_it;
  goes = goes_then a m f [] (g.its ++ front_acts b g.head g.index n zero_it) goes g.goes;
  back = front_neither whats.Back g.its b g.head g.index n zero_it g.are;
  vs = front_neither whats.Vs g.its b g.head g.index n zero_it g.are;
}
