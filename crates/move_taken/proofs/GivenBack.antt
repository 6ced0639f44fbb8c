-- A block that was taken is live again.
use Rattle.std.proofs.Common.{◌≡◌, ℕ, ◌*◌, ◌<◌, List, [], ◌∷◌, refl, sym, subst, arith}
use Rattle.heap_model.specs.declared.Act.{Act}
use Rattle.heap_model.specs.declared.Act.TheVariants as acts
use Rattle.heap_model.specs.State.{Setting, Place, hands}
use Rattle.claim_rule.specs.Entries.{IsSettingOf}
use Rattle.block_steps.specs.Blocks.{MayPublish}
use Rattle.heap_gate.specs.Token.{Token, Always, now, IsStanding}
use Rattle.heap_gate.specs.Calls.{rested, HasRested}
use Rattle.lfh_claims.specs.declared.tag.Tag.{Tag}
use Rattle.lfh_claims.specs.Blocks.{HasPublished}
use Rattle.lfh_claims.specs.Moves.{IsWith}
use Rattle.lfh_claims.proofs.Known.{publishes_in_hand}
use Rattle.call_parts.specs.Entries.{HasAdded}
use Rattle.call_parts.proofs.Joining.{goes_does, setting_before}
use Rattle.call_parts.proofs.Tokens.{added_then, added_rested}
use Rattle.small_calls.proofs.Guarded.{give_left}
use Rattle.move_parts.proofs.Movers.{taken_hands}
use Rattle.move_taken.specs.Holds.{taken_place, HasTakenBlock}
use Rattle.move_taken.specs.Moved.{IsGivenBack}
use Rattle.move_taken.proofs.Blocks.{positive, block_now, inside_now}
use Rattle.move_taken.proofs.Hands.{none_left}

module _ (c : Token) (tag : Tag) (addr size : ℕ) (h : HasTakenBlock c tag addr size) (st : IsStanding c) where
  pub there : addr < 1048576 * c.opening.limits.segments
  there = let e = h.ends in let n = positive tag.bucket h.number.number h.number.below in omega (arith, e, n)

  pub may_publish : Always c (λ s. MayPublish s (now s c) c.number addr size)
  may_publish = publishes_in_hand c tag.bucket addr size (inside_now c tag addr size h st) (block_now c tag addr size h st) h.fits h.small

  module _ (d : Token) (p : HasPublished c d addr size) where
    abbrev gives : List Act
    gives = acts.Give addr size ∷ []

    given : HasAdded c d gives
    given = record {
      goes = goes_does c d gives p.moves.does p.stands.depth;
      steady = record { call = p.stands.call; fresh = p.stands.fresh; inside = p.stands.inside; searched = p.stands.searched; drawn = p.stands.drawn; owes = p.stands.owes };
    }

    before : (s : Setting) → IsSettingOf d.opening d.roll s → IsSettingOf c.opening c.roll s
    before s q = setting_before c d gives given.goes s q

    abbrev place : Place
    place = taken_place tag.bucket addr c.number

    none : Always d (λ s. hands (now s d).state d.number ≡ [])
    none s q =
        let one = taken_hands (now s c) c.number addr place (h.hand s (before s q)) in
        let less : IsWith addr (hands (now s d).state c.number) (hands (now s c).state c.number) = p.moves.hands s q in
        subst (λ (k : ℕ). hands (now s d).state k ≡ []) (sym p.moves.does.number)
        (none_left addr (hands (now s d).state c.number) place (subst (IsWith addr (hands (now s d).state c.number)) one less))

    pub rests : IsStanding d → Always d (λ s. HasRested (now s d) d.number)
    rests sd s q = record { hands = none s q; demand = (sd s q).demand p.stands.whole }

    pub given_back : IsGivenBack c (rested d) addr size
    given_back = record {
      ended = record {
        added = added_then c d (rested d) gives [] given (added_rested d);
        out_is = p.stands.out;
        whole = refl;
        free = refl;
        pending = p.stands.pending;
        prepared = p.stands.prepared;
      };
      guarded = λ s q.
          let x = block_now c tag addr size h st s (before s q) in
          (give_left s c.number addr size (now s c) (now s d) x.hand.place x.hand.hand x.hand.layer (p.moves.agrees s q)).guarded;
    }
