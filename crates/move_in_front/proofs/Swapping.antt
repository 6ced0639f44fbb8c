-- The words were moved, the new block is given, and the old one dropped.
use Rattle.std.proofs.Common.{◌≡◌, ℕ, ◌*◌, ◌<◌, ◌≤◌, Bool, true, List, [], ◌∷◌, ◌++◌, length, Some, refl, sym, ap, ◌∙◌, subst, arith, eq-eqb}
use Rattle.std.specs.Prelude.{is_some, min}
use Rattle.std.specs.List.{find}
use Rattle.heap_model.specs.declared.Act.{Act}
use Rattle.heap_model.specs.declared.Act.TheVariants as acts
use Rattle.heap_model.specs.declared.Call.{Call}
use Rattle.heap_model.specs.declared.Layer.TheVariants as layers
use Rattle.heap_model.specs.declared.Opening.{Opening}
use Rattle.heap_model.specs.declared.What.TheVariants as whats
use Rattle.heap_model.specs.Agreement.{AgreesFor}
use Rattle.heap_model.specs.Geometry.{words_of}
use Rattle.heap_model.specs.CallState.{Configuration}
use Rattle.heap_model.specs.Legal.{after}
use Rattle.heap_model.specs.Ranges.{vs_spans}
use Rattle.heap_model.specs.Shape.{moving}
use Rattle.heap_model.specs.State.{Setting, State, Place, address, has_address, hands, hand_at, holds, is_hand_at, remove_found}
use Rattle.claim_rule.specs.Entries.{IsSettingOf, IsLegalWith, entry}
use Rattle.block_steps.specs.Blocks.{MayPublish}
use Rattle.step_parts.proofs.BlocksInHand.{found_lfh}
use Rattle.step_parts.proofs.ChangedPlaces.{lfh_address}
use Rattle.backend_fit.specs.Kept.{Kept}
use Rattle.vs_layer.specs.Kept.{VsKept}
use Rattle.heap_gate.specs.Token.{Token, Always, now, IsStanding, is_out}
use Rattle.heap_gate.specs.Calls.{HasRested, rested}
use Rattle.lfh_claims.specs.declared.tag.Tag.{Tag}
use Rattle.lfh_claims.specs.Blocks.{HasPublished, HasCleared, MayGiveUp}
use Rattle.lfh_claims.specs.Stays.{HasRead, IsInside}
use Rattle.lfh_claims.proofs.Known.{publishes_in_hand, clears_in_hand}
use Rattle.call_parts.specs.Calls.{GoesOn}
use Rattle.call_parts.specs.Entries.{HasAdded}
use Rattle.call_parts.proofs.Joining.{goes_does, setting_before}
use Rattle.call_parts.proofs.Tokens.{added_then, added_rested}
use Rattle.small_calls.proofs.Guarded.{give_left}
use Rattle.move_parts.specs.Moves.{HasFilled}
use Rattle.move_to_front.specs.Moved.{TellsLow}
use Rattle.move_to_front.proofs.Filled.{vs_filled, back_filled}
use Rattle.move_to_front.proofs.Tells.{vs_later, back_later}
use Rattle.move_in_front.specs.Halfway.{HoldsTwo, HasSwappedTaken}
use Rattle.move_in_front.proofs.Lists.{left_old, none_left}
use Rattle.move_in_front.proofs.Reading.{reads_on, stay_moving}

nothing_left : {A : Type 0} (xs : List A) → length xs ≤ 0 → xs ≡ []
nothing_left [] h = refl
nothing_left (x ∷ xs) h = absurd (let z : ⊥ = omega (arith, h) in z)

-- what the locks guard stays where a block of the front end goes
drop_left : (s : Setting) (n addr : ℕ) (m k : Configuration) (p : Place) → hand_at m.state n addr ≡ Some p → p.layer ≡ layers.Lfh → AgreesFor n k (after s m (entry n (acts.Drop addr)))
    → (holds m.state.gate n whats.Vs ≡ true → (k.state.vs ≡ m.state.vs) × (vs_spans k.state.back.area ≡ vs_spans m.state.back.area)) × (holds m.state.gate n whats.Back ≡ true → k.state.back ≡ m.state.back)
drop_left s n addr m k p e l r =
    let is = found_lfh m.state (hand_at m.state n addr) p (remove_found (is_hand_at n addr)) e l in (
      λ h. (r.vs h ∙ ap (λ (x : State). x.vs) is, r.spans h ∙ ap (λ (x : State). vs_spans x.back.area) is),
      λ h. r.back h ∙ ap (λ (x : State). x.back) is,
    )

module _ (c : Token) (call : Call) (tag : Tag) (addr size : ℕ) (p : Place) (b n : ℕ) (q : Place) (out : List ℕ) (h : HoldsTwo c call tag addr size p b n q out) (st : IsStanding c) (u : Token) (zero : Bool) (values : List ℕ) (f : HasFilled c u (moving addr size b n zero values)) (su : IsStanding u)
    (legal : IsLegalWith u.opening u.roll u.seen) where
  abbrev words : List Act
  words = moving addr size b n zero values

  prepared_u : u.prepared ≡ []
  prepared_u = nothing_left u.prepared (let k = f.few in let none = ap length h.prepared in omega (arith, k, none))

  number_u : u.number ≡ c.number
  number_u = f.added.goes.number

  at_c : (s : Setting) → IsSettingOf u.opening u.roll s → IsSettingOf c.opening c.roll s
  at_c s z = setting_before c u words f.added.goes s z

  hands_u : (s : Setting) → IsSettingOf u.opening u.roll s → hands (now s u).state u.number ≡ q ∷ p ∷ []
  hands_u s z =
      let y = f.same s z in
      subst (λ (k : ℕ). hands (now s u).state k ≡ q ∷ p ∷ []) (sym number_u) ((λ i. y.hand layers.Lfh i ++ y.hand layers.Vs i ++ y.hand layers.Back i ++ y.hand layers.Large i) ∙ h.hand s (at_c s z))

  inside_u : IsInside u
  inside_u s z = (su s z).entered ∙ (f.added.steady.inside ∙ h.inside)

  read_u : HasRead u tag.head tag.bucket tag.slot
  read_u = reads_on c u words f.added.goes h.prepared prepared_u legal (stay_moving addr size b n zero values) (λ s z. (st s z).entered ∙ h.inside) tag.head tag.bucket tag.slot h.read

  begun_u : (s : Setting) → IsSettingOf u.opening u.roll s → is_some ((now s u).now.calls u.number).call ≡ true
  begun_u s z = ap is_some ((su s z).call ∙ (f.added.steady.call ∙ h.call_is))

  hand_b : (s : Setting) → IsSettingOf u.opening u.roll s → hand_at (now s u).state u.number b ≡ Some q
  hand_b s z = ap (find (has_address b)) (hands_u s z) ∙ (let k = eq-eqb (address q) b h.at in rw k refl)

  pub publish_ok : Always u (λ s. MayPublish s (now s u) u.number b n)
  publish_ok = publishes_in_hand u h.bucket b n inside_u (λ s z. record { hand = record { begun = begun_u s z; place = q; hand = hand_b s z; layer = h.front }; long = h.long }) h.fits h.small

  pub publish_table : (t : Rattle.atomic_table.specs.Seated.TableId) (o : Opening) → c.table ≡ t → c.opening ≡ o → (u.table ≡ t) × (u.opening ≡ o)
  publish_table t o x y = (f.added.goes.table ∙ x, f.added.goes.opening ∙ y)

  pub publish_whole : u.whole ≡ true
  publish_whole = f.whole

  pub publish_inside : u.inside ≡ true
  publish_inside = f.added.steady.inside ∙ h.inside

  pub publish_there : b < 1048576 * u.opening.limits.segments
  publish_there = subst (λ (o : Opening). b < 1048576 * o.limits.segments) (sym f.added.goes.opening) h.there

  module _ (d : Token) (y : HasPublished u d b n) (sd : IsStanding d) where
    goes_ud : GoesOn u d (acts.Give b n ∷ [])
    goes_ud = goes_does u d (acts.Give b n ∷ []) y.moves.does y.stands.depth

    number_d : d.number ≡ u.number
    number_d = y.moves.does.number

    at_u : (s : Setting) → IsSettingOf d.opening d.roll s → IsSettingOf u.opening u.roll s
    at_u s z = setting_before u d (acts.Give b n ∷ []) goes_ud s z

    p_start : p.start ≡ addr
    p_start = sym (lfh_address p h.old_front) ∙ h.old_at

    hands_d : (s : Setting) → IsSettingOf d.opening d.roll s → hands (now s d).state d.number ≡ p ∷ []
    hands_d s z = subst (λ (k : ℕ). hands (now s d).state k ≡ p ∷ []) (sym number_d)
        (left_old b (hands (now s d).state u.number) q p (subst (Rattle.lfh_claims.specs.Moves.IsWith b (hands (now s d).state u.number)) (hands_u s (at_u s z)) (y.moves.hands s z)) (λ e. h.apart (sym p_start ∙ e)))

    inside_d : IsInside d
    inside_d s z = (sd s z).entered ∙ (y.stands.inside ∙ publish_inside)

    hand_a : (s : Setting) → IsSettingOf d.opening d.roll s → hand_at (now s d).state d.number addr ≡ Some p
    hand_a s z = ap (find (has_address addr)) (hands_d s z) ∙ (let k = eq-eqb (address p) addr h.old_at in rw k refl)

    pub clear_ok : MayGiveUp d tag addr
    clear_ok = clears_in_hand d tag addr inside_d (reads_on u d (acts.Give b n ∷ []) goes_ud prepared_u y.stands.prepared y.moves.does.legal refl inside_u tag.head tag.bucket tag.slot read_u) h.number
        (λ s z. record { hand = record { begun = ap is_some ((sd s z).call ∙ (y.stands.call ∙ (f.added.steady.call ∙ h.call_is))); place = p; hand = hand_a s z; layer = h.old_front }; long = h.old_long })

    pub clear_table : (t : Rattle.atomic_table.specs.Seated.TableId) (o : Opening) → c.table ≡ t → c.opening ≡ o → (d.table ≡ t) × (d.opening ≡ o)
    clear_table t o k l = (y.moves.does.table ∙ (f.added.goes.table ∙ k), y.moves.does.opening ∙ (f.added.goes.opening ∙ l))

    pub clear_inside : d.inside ≡ true
    clear_inside = y.stands.inside ∙ publish_inside

    pub clear_there : tag.head < 256 * d.opening.limits.segments
    clear_there = subst (λ (o : Opening). tag.head < 256 * o.limits.segments) (sym (y.moves.does.opening ∙ f.added.goes.opening)) h.head

    module _ (g : Token) (x : HasCleared d g addr) (sg : IsStanding g) where
      goes_dg : GoesOn d g (acts.Drop addr ∷ [])
      goes_dg = goes_does d g (acts.Drop addr ∷ []) x.moves.does x.stands.depth

      at_d : (s : Setting) → IsSettingOf g.opening g.roll s → IsSettingOf d.opening d.roll s
      at_d s z = setting_before d g (acts.Drop addr ∷ []) goes_dg s z

      pub rest_ok : Always g (λ s. HasRested (now s g) g.number)
      rest_ok s z = record {
        hands = subst (λ (k : ℕ). hands (now s g).state k ≡ []) (sym x.moves.does.number)
            (none_left addr (hands (now s g).state d.number) p (subst (Rattle.lfh_claims.specs.Moves.IsWith addr (hands (now s g).state d.number)) (hands_d s (at_d s z)) (x.moves.hands s z)));
        demand = (sg s z).demand x.stands.whole;
      }

      give_added : HasAdded u d (acts.Give b n ∷ [])
      give_added = record {
        goes = goes_ud;
        steady = record { call = y.stands.call; fresh = y.stands.fresh; inside = y.stands.inside; searched = y.stands.searched; drawn = y.stands.drawn; owes = y.stands.owes };
      }

      drop_added : HasAdded d g (acts.Drop addr ∷ [])
      drop_added = record {
        goes = goes_dg;
        steady = record { call = x.stands.call; fresh = x.stands.fresh; inside = x.stands.inside; searched = x.stands.searched; drawn = x.stands.drawn; owes = x.stands.owes };
      }

      pub swapped : length values ≡ words_of (min size n) → (t : Token) → t ≡ rested g → HasSwappedTaken c t addr size b n zero
      swapped count t is = subst (λ (k : Token). HasSwappedTaken c k addr size b n zero) (sym is) (record {
        values = values;
        count = count;
        ended = record {
          added = added_then c u (rested g) words (acts.Give b n ∷ acts.Drop addr ∷ []) f.added
              (added_then u d (rested g) (acts.Give b n ∷ []) (acts.Drop addr ∷ []) give_added (added_then d g (rested g) (acts.Drop addr ∷ []) [] drop_added (added_rested g)));
          out_is = x.stands.out ∙ (y.stands.out ∙ f.out_is);
          whole = refl;
          free = refl;
          pending = x.stands.pending;
          prepared = x.stands.prepared;
        };
      })

      pub tells_on : is_out whats.Vs out ≡ true → is_out whats.Back out ≡ true → (vs : VsKept) (back : Kept) → TellsLow c vs back → (t : Token) → t ≡ rested g → TellsLow t vs back
      tells_on vs_out back_out vs back w t is =
          let cv : is_out whats.Vs c.out ≡ true = ap (is_out whats.Vs) h.out_is ∙ vs_out in
          let cb : is_out whats.Back c.out ≡ true = ap (is_out whats.Back) h.out_is ∙ back_out in
          let uv = vs_filled c u words f st cv vs w.vs in let ub = back_filled c u words f st cb back w.back in
          let out_u : u.out ≡ out = f.out_is ∙ h.out_is in
          let out_d : d.out ≡ out = y.stands.out ∙ out_u in
          let dv = vs_later u d y.moves.does.opening at_u vs (λ s z.
          let k = at_u s z in let l = give_left s u.number b n (now s u) (now s d) q (hand_b s k) h.front (y.moves.agrees s z) in
          let held : holds (now s u).state.gate u.number whats.Vs ≡ true = (su s k).locks whats.Vs ∙ (ap (is_out whats.Vs) out_u ∙ vs_out) in
          (l.guarded.vs held, l.guarded.spans held)) uv in
          let db = back_later u d y.moves.does.opening at_u back (λ s z.
          let k = at_u s z in let l = give_left s u.number b n (now s u) (now s d) q (hand_b s k) h.front (y.moves.agrees s z) in
          l.guarded.back ((su s k).locks whats.Back ∙ (ap (is_out whats.Back) out_u ∙ back_out))) ub in
          let gv = vs_later d g x.moves.does.opening at_d vs (λ s z.
          let k = at_d s z in
          (drop_left s d.number addr (now s d) (now s g) p (hand_a s k) h.old_front (x.moves.agrees s z)).0 ((sd s k).locks whats.Vs ∙ (ap (is_out whats.Vs) out_d ∙ vs_out))) dv in
          let gb = back_later d g x.moves.does.opening at_d back (λ s z.
          let k = at_d s z in
          (drop_left s d.number addr (now s d) (now s g) p (hand_a s k) h.old_front (x.moves.agrees s z)).1 ((sd s k).locks whats.Back ∙ (ap (is_out whats.Back) out_d ∙ back_out))) db in
          subst (λ (k : Token). TellsLow k vs back) (sym is) (record { vs = record { tells = gv.tells; used = gv.used }; back = gb })
