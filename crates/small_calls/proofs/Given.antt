-- A block of the front end in hand is zeroed and given.
use Rattle.std.proofs.Common.{◌≡◌, ℕ, ◌+◌, ◌*◌, ◌/◌, ◌≤◌, Bool, true, List, [], ◌∷◌, ◌++◌, refl, sym, ap, ◌∙◌, subst}
use Rattle.std.specs.Prelude.{is_some}
use Rattle.std.specs.List.{find}
use Rattle.std.proofs.lemmas.List.{append-nil}
use Rattle.heap_model.specs.declared.Act.{Act}
use Rattle.heap_model.specs.declared.Act.TheVariants as acts
use Rattle.heap_model.specs.declared.Layer.TheVariants as layers
use Rattle.heap_model.specs.Buckets.{block_size}
use Rattle.heap_model.specs.Geometry.{words_of}
use Rattle.heap_model.specs.Shape.{zeros}
use Rattle.heap_model.specs.State.{Setting, Place, hands, has_address}
use Rattle.claim_rule.specs.Entries.{IsSettingOf, IsLegalWith, setting_of}
use Rattle.claim_rule.proofs.Advance.{some_setting}
use Rattle.step_parts.specs.InHand.{HasBlock}
use Rattle.block_steps.specs.Blocks.{MayPublish}
use Rattle.heap_model.specs.declared.Entry.{Entry}
use Rattle.heap_model.specs.History.{configuration_after, configuration_of}
use Rattle.heap_gate.specs.Token.{Token, Always, now, IsStanding}
use Rattle.heap_gate.specs.Calls.{rested, HasRested}
use Rattle.lfh_claims.specs.Moves.{IsWith}
use Rattle.lfh_claims.specs.Blocks.{HasPublished}
use Rattle.lfh_claims.specs.Stays.{IsInside}
use Rattle.lfh_claims.proofs.Known.{publishes_in_hand}
use Rattle.call_parts.specs.Entries.{Zeroes, HasAdded}
use Rattle.call_parts.proofs.Joining.{goes_does, setting_before}
use Rattle.call_parts.proofs.Tokens.{added_then, added_rested}
use Rattle.call_parts.proofs.Handing.{HasZeroed}
use Rattle.small_calls.specs.Fronts.{HasOne, IsHandedOver}
use Rattle.small_calls.proofs.Bounds.{block_within}
use Rattle.small_calls.proofs.Guarded.{IsLeft, left_then, zero_left, give_left}

---- Where it lies

-- it ends in the segments of the heap
pub ends_within : (c : Token) (b addr : ℕ) → HasOne c b addr → IsLegalWith c.opening c.roll c.seen → addr + block_size b ≤ 1048576 * c.opening.limits.segments
ends_within c b addr h legal =
    let s = setting_of c.opening c.roll in let q = some_setting c.opening c.roll in
    block_within s c.seen c.number b addr (legal s q) (subst (λ (l : List Entry). HasBlock (configuration_after s (configuration_of s c.seen) l) c.number b addr) h.prepared (h.block s q))

---- What is in hand

-- a list that has a place less than a list of one
none_left : (addr : ℕ) (less : List Place) (p : Place) → IsWith addr less (p ∷ []) → less ≡ []
none_left addr less p x = by x.front x.back x.less_is x.more_is
  where
    by : (front back : List Place) → less ≡ front ++ back → p ∷ [] ≡ front ++ x.place ∷ back → less ≡ []
    by [] [] e m = e
    by [] (q ∷ qs) e m = absurd (let bad : ⊥ = cc (m) in bad)
    by (q ∷ []) back e m = absurd (let bad : ⊥ = cc (m) in bad)
    by (q ∷ r ∷ qs) back e m = absurd (let bad : ⊥ = cc (m) in bad)

module _ (a b : Token) (k addr n word count : ℕ) (zero_it : Bool) (h : HasOne a k addr) (z : HasZeroed a b word count zero_it) (st : IsStanding b) where
  before : (s : Setting) → IsSettingOf b.opening b.roll s → IsSettingOf a.opening a.roll s
  before s q = setting_before a b (zeros zero_it word count) z.added.goes s q

  number : b.number ≡ a.number
  number = z.added.goes.number

  hands_same : (s : Setting) → IsSettingOf b.opening b.roll s → hands (now s b).state a.number ≡ hands (now s a).state a.number
  hands_same s q = let x = z.kept s q in (λ i. x.hand layers.Lfh i ++ x.hand layers.Vs i ++ x.hand layers.Back i ++ x.hand layers.Large i)

  block_now : Always b (λ s. HasBlock (now s b) b.number k addr)
  block_now s q =
      let y = h.block s (before s q) in
      subst (λ (x : ℕ). HasBlock (now s b) x k addr) (sym number) (record {
        hand = record {
          begun = subst (λ (x : ℕ). is_some ((now s b).now.calls x).call ≡ true) number (ap is_some ((st s q).call ∙ z.added.steady.call) ∙ h.begun);
          place = y.hand.place;
          hand = ap (find (has_address addr)) (hands_same s q) ∙ y.hand.hand;
          layer = y.hand.layer;
        };
        long = y.long;
      })

  inside_now : IsInside b
  inside_now s q = (st s q).entered ∙ (z.added.steady.inside ∙ h.inside)

  pub may_publish : n ≤ block_size k → n ≤ 16368 → Always b (λ s. MayPublish s (now s b) b.number addr n)
  may_publish long few = publishes_in_hand b k addr n inside_now block_now long few

  module _ (d : Token) (p : HasPublished b d addr n) (sd : IsStanding d) where
    abbrev gives : List Act
    gives = acts.Give addr n ∷ []

    given : HasAdded b d gives
    given = record {
      goes = goes_does b d gives p.moves.does p.stands.depth;
      steady = record { call = p.stands.call; fresh = p.stands.fresh; inside = p.stands.inside; searched = p.stands.searched; drawn = p.stands.drawn; owes = p.stands.owes };
    }

    before_d : (s : Setting) → IsSettingOf d.opening d.roll s → IsSettingOf b.opening b.roll s
    before_d s q = setting_before b d gives given.goes s q

    pub rests : Always d (λ s. HasRested (now s d) d.number)
    rests s q =
        let qb = before_d s q in
        let one = h.alone s (before s qb) in
        let less : IsWith addr (hands (now s d).state b.number) (hands (now s b).state b.number) = p.moves.hands s q in
        let at : IsWith addr (hands (now s d).state a.number) (hands (now s b).state a.number) = subst (λ (x : ℕ). IsWith addr (hands (now s d).state x) (hands (now s b).state x)) number less in
        let none : hands (now s d).state a.number ≡ [] = none_left addr (hands (now s d).state a.number) one.0 (subst (IsWith addr (hands (now s d).state a.number)) (hands_same s qb ∙ one.1) at) in
        record {
          hands = subst (λ (x : ℕ). hands (now s d).state x ≡ []) (sym (p.moves.does.number ∙ number)) none;
          demand = (sd s q).demand p.stands.whole;
        }

    added : HasAdded a (rested d) (zeros zero_it word count ++ gives)
    added =
        let both = added_then a b d (zeros zero_it word count) gives z.added given in
        subst (HasAdded a (rested d)) (append-nil (zeros zero_it word count ++ gives)) (added_then a d (rested d) (zeros zero_it word count ++ gives) [] both (added_rested d))

    left_here : Zeroes a b word count zero_it → Always d (λ s. IsLeft a.number (now s a) (now s d))
    left_here zs s q =
        let qb = before_d s q in
        let x = block_now s qb in
        left_then a.number (now s a) (now s b) (now s d) (zero_left a b word count zero_it zs s qb)
        (subst (λ (y : ℕ). IsLeft y (now s b) (now s d)) number (give_left s b.number addr n (now s b) (now s d) x.hand.place x.hand.hand x.hand.layer (p.moves.agrees s q)))

    pub handed_over : Zeroes a b word count zero_it → word ≡ addr / 8 → count ≡ words_of n → IsHandedOver a (rested d) addr n zero_it
    handed_over zs ew ec = record {
      ended = record {
        added = subst (λ (x : ℕ × ℕ). HasAdded a (rested d) (zeros zero_it x.0 x.1 ++ gives)) (λ i. (ew i, ec i)) added;
        out_is = p.stands.out ∙ z.out_is;
        whole = refl;
        free = refl;
        pending = p.stands.pending;
        prepared = p.stands.prepared;
      };
      guarded = λ s q. (left_here zs s q).guarded;
    }
