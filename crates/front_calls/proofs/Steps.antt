-- The token of a caller behind the steps of a part.
use Rattle.std.proofs.Common.{◌≡◌, ℕ, true, false, List, [], ◌∷◌, ◌++◌, Some, refl, sym, ap, ◌∙◌, subst}
use Rattle.std.specs.Prelude.{Option, None, IfSome, IfNone}
use Rattle.heap_model.specs.declared.Act.{Act}
use Rattle.heap_model.specs.declared.Act.TheVariants as acts
use Rattle.heap_model.specs.declared.Call.{Call}
use Rattle.heap_model.specs.declared.Entry.{Entry}
use Rattle.heap_model.specs.State.{Place, hands}
use Rattle.heap_model.specs.Shape.{shape_of}
use Rattle.claim_rule.specs.Entries.{entry}
use Rattle.step_parts.specs.InHand.{HasBlock}
use Rattle.block_steps.specs.Blocks.{MayAsk}
use Rattle.heap_gate.specs.Token.{Token, Always, now, IsStanding}
use Rattle.heap_gate.specs.Calls.{Stands, Does, stance, rested, HasRested}
use Rattle.lfh_claims.specs.declared.tag.Tag.{Tag}
use Rattle.lfh_claims.specs.Blocks.{HasTakenLive, HasFoundNone, HasSize, HasCleared, MayGiveUp}
use Rattle.lfh_claims.specs.Moves.{IsWith}
use Rattle.lfh_claims.specs.Stays.{all_stay, all_leave_spans, IsInside, HasRead}
use Rattle.lfh_claims.proofs.Stays.{read_stays}
use Rattle.lfh_claims.proofs.Known.{clears_in_hand}
use Rattle.call_parts.specs.Calls.{IsServing, GoesOn}
use Rattle.call_parts.proofs.Joining.{goes_does, goes_rested, goes_then, setting_before}
use Rattle.call_parts.proofs.Serving.{none_begins}
use Rattle.front_calls.specs.Parts.{GoesBy, Measures}

---- Where the caller stands

-- as it did, and at rest
pub record IsBack (a b : Token) : Type 0 where
  pub call : b.call ≡ a.call
  pub fresh : b.fresh ≡ a.fresh
  pub inside : b.inside ≡ a.inside
  pub out : b.out ≡ a.out
  pub searched : b.searched ≡ a.searched
  pub drawn : b.drawn ≡ a.drawn
  pub owes : b.owes ≡ a.owes
  pub whole : b.whole ≡ true
  pub free : b.free ≡ true
  pub pending : b.pending ≡ false
  pub prepared : b.prepared ≡ []

pub goes_by : (a b : Token) (own_call : Call) (rest : List Act) → IsServing a own_call [] → GoesOn a b rest → IsBack a b → none_begins rest ≡ true → shape_of rest ≡ rest → GoesBy a b rest
goes_by a b own_call rest v g y none shape call e = record {
  makes = record {
    added = rest;
    goes = g;
    no_begin = none;
    shape_is = shape;
    stands = record {
      call_is = y.call ∙ e;
      fresh = y.fresh ∙ v.fresh;
      inside = y.inside ∙ v.inside;
      out = y.out ∙ v.out_is;
      whole = y.whole;
      free = y.free;
      pending = y.pending;
      prepared = y.prepared;
      drawn = (y.searched ∙ v.searched) ∙ sym (y.drawn ∙ v.drawn);
      owes = y.owes ∙ v.owes;
    };
  };
  just = refl;
}

-- one act that leaves the caller where it stood
pub one_act : (a b : Token) (own_call : Call) (act : Act) → IsServing a own_call [] → Does a b (entry a.number act ∷ []) → Stands b (stance a) → none_begins (act ∷ []) ≡ true → shape_of (act ∷ []) ≡ act ∷ [] → GoesBy a b (act ∷ [])
one_act a b own_call act v d s none shape =
    goes_by a b own_call (act ∷ []) v (goes_does a b (act ∷ []) d s.depth)
    (record { call = s.call; fresh = s.fresh; inside = s.inside; out = s.out; searched = s.searched; drawn = s.drawn; owes = s.owes; whole = s.whole; free = s.free ∙ v.free; pending = s.pending; prepared = s.prepared })
    none shape

pub found_none : (a b : Token) (own_call : Call) (addr : ℕ) → IsServing a own_call [] → HasFoundNone a b addr → GoesBy a b (acts.NotLive addr ∷ [])
found_none a b own_call addr v x = one_act a b own_call (acts.NotLive addr) v x.runs.does x.stands refl refl

pub measured : (a b : Token) (own_call : Call) (addr : ℕ) (told : Option ℕ) → IsServing a own_call [] → IfSome told (HasSize a b addr) → IfNone told (HasFoundNone a b addr) → Measures a b addr told
measured a b own_call addr (Some size) v x y = one_act a b own_call (acts.Sized addr size) v x.runs.does x.stands refl refl
measured a b own_call addr None v x y = found_none a b own_call addr v y

---- What is in hand

-- a list that has one place more than none
alone : (addr : ℕ) (more : List Place) → IsWith addr [] more → (p : Place) × (more ≡ p ∷ [])
alone addr more x = (x.place, by x.front x.back x.less_is x.more_is)
  where
    by : (front back : List Place) → [] ≡ front ++ back → more ≡ front ++ x.place ∷ back → more ≡ x.place ∷ []
    by [] [] e m = m
    by [] (q ∷ qs) e m = absurd (let bad : ⊥ = cc (e) in bad)
    by (q ∷ qs) back e m = absurd (let bad : ⊥ = cc (e) in bad)

-- .. and one that has a place less than a list of one
none_left : (addr : ℕ) (less : List Place) (p : Place) → IsWith addr less (p ∷ []) → less ≡ []
none_left addr less p x = by x.front x.back x.less_is x.more_is
  where
    by : (front back : List Place) → less ≡ front ++ back → p ∷ [] ≡ front ++ x.place ∷ back → less ≡ []
    by [] [] e m = e
    by [] (q ∷ qs) e m = absurd (let bad : ⊥ = cc (m) in bad)
    by (q ∷ []) back e m = absurd (let bad : ⊥ = cc (m) in bad)
    by (q ∷ r ∷ qs) back e m = absurd (let bad : ⊥ = cc (m) in bad)

pub hand_empty : (addr : ℕ) (first between last : List Place) → first ≡ [] → IsWith addr first between → IsWith addr last between → last ≡ []
hand_empty addr first between last e x y =
    let z = alone addr between (subst (λ (l : List Place). IsWith addr l between) e x) in
    none_left addr last z.0 (subst (IsWith addr last) z.1 y)

---- A block that is taken and given back

module _ (a b : Token) (own_call : Call) (tag : Tag) (addr size : ℕ) (v : IsServing a own_call []) (may : Always a (λ s. MayAsk (now s a) a.number tag.head tag.bucket tag.slot addr)) (x : HasTakenLive a b tag addr size) where
  taken : GoesOn a b (acts.Take addr size ∷ [])
  taken = goes_does a b (acts.Take addr size ∷ []) x.takes.does x.stands.depth

  pub inside_still : IsStanding b → IsInside b
  inside_still st s q = (st s q).entered ∙ (x.stands.inside ∙ v.inside)

  nothing_prepared : all_stay (a.prepared ++ entry a.number (acts.Take addr size) ∷ []) ≡ true
  nothing_prepared = ap (λ (l : List Entry). all_stay (l ++ entry a.number (acts.Take addr size) ∷ [])) v.prepared

  read_still : HasRead b tag.head tag.bucket tag.slot
  read_still = read_stays a b (entry a.number (acts.Take addr size) ∷ []) x.takes.does nothing_prepared (ap all_leave_spans v.prepared) (λ s q. (may s q).inside) tag.head tag.bucket tag.slot (λ s q. (may s q).seen)

  pub may_give_up : IsStanding b → MayGiveUp b tag addr
  may_give_up st = clears_in_hand b tag addr (inside_still st) read_still x.number
      (λ s q. subst (λ (n : ℕ). HasBlock (now s b) n tag.bucket addr) (sym x.takes.does.number) (x.block s q))

  module _ (d : Token) (y : HasCleared b d addr) where
    cleared : GoesOn b d (acts.Drop addr ∷ [])
    cleared = goes_does b d (acts.Drop addr ∷ []) y.moves.does y.stands.depth

    pub rests : IsStanding a → IsStanding d → Always d (λ s. HasRested (now s d) d.number)
    rests at_first at_last s q =
        let qb = setting_before b d (acts.Drop addr ∷ []) cleared s q in
        let qa = setting_before a b (acts.Take addr size ∷ []) taken s qb in
        let first = (at_first s qa).hands v.free in
        let more = x.takes.hands s qb in
        let less = subst (λ (n : ℕ). IsWith addr (hands (now s d).state n) (hands (now s b).state n)) x.takes.does.number (y.moves.hands s q) in
        record {
          hands = subst (λ (n : ℕ). hands (now s d).state n ≡ []) (sym (y.moves.does.number ∙ x.takes.does.number)) (hand_empty addr (hands (now s a).state a.number) (hands (now s b).state a.number) (hands (now s d).state a.number) first more less);
          demand = (at_last s q).demand y.stands.whole;
        }

    pub dropped : GoesBy a (rested d) (acts.Take addr size ∷ acts.Drop addr ∷ [])
    dropped =
        let u = x.stands in let w = y.stands in
        goes_by a (rested d) own_call (acts.Take addr size ∷ acts.Drop addr ∷ []) v
        (goes_then a d (rested d) (acts.Take addr size ∷ acts.Drop addr ∷ []) [] (goes_then a b d (acts.Take addr size ∷ []) (acts.Drop addr ∷ []) taken cleared) (goes_rested d))
        (record {
          call = w.call ∙ u.call;
          fresh = w.fresh ∙ u.fresh;
          inside = w.inside ∙ u.inside;
          out = w.out ∙ u.out;
          searched = w.searched ∙ u.searched;
          drawn = w.drawn ∙ u.drawn;
          owes = w.owes ∙ u.owes;
          whole = refl;
          free = refl;
          pending = w.pending;
          prepared = w.prepared;
        })
        refl refl
