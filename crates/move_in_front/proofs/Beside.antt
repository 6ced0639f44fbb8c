-- A new block of the front end in hand, in front of the one that was taken.
use Rattle.std.proofs.Common.{◌≡◌, ◌⊎◌, ℕ, ◌+◌, ◌*◌, ◌/◌, ◌%◌, ◌<◌, ◌≤◌, ◌&&◌, true, false, List, [], ◌∷◌, ◌++◌, Some, refl, sym, ap, ◌∙◌, subst, arith, eq-eqb, inl, inr}
use Rattle.std.specs.Prelude.{is_some, nat_le}
use Rattle.std.specs.List.{find}
use Rattle.std.proofs.lemmas.Bool.{ne_eqb}
use Rattle.std.proofs.lemmas.List.{append-nil}
use Rattle.heap_model.specs.declared.Act.{Act}
use Rattle.heap_model.specs.declared.Call.TheVariants as calls
use Rattle.heap_model.specs.declared.Entry.{Entry}
use Rattle.heap_model.specs.declared.Flags.{Flags}
use Rattle.heap_model.specs.declared.Layer.{Layer}
use Rattle.heap_model.specs.declared.Layer.TheVariants as layers
use Rattle.heap_model.specs.declared.Opening.{Opening}
use Rattle.heap_model.specs.declared.What.TheVariants as whats
use Rattle.heap_model.specs.Agreement.{AgreesFor}
use Rattle.heap_model.specs.Buckets.{bucket_of, block_size, block_address}
use Rattle.heap_model.specs.CallState.{Configuration, CallState, caller_view}
use Rattle.heap_model.specs.History.{configuration_of, configuration_after}
use Rattle.heap_model.specs.Legal.{cannot_be_served}
use Rattle.heap_model.specs.Limits.{AreValid}
use Rattle.heap_model.specs.Search.{request_of}
use Rattle.heap_model.specs.State.{Setting, State, Place, address, has_address, in_hand, hands, holds, places_of, guarded, exclusive_places}
use Rattle.heap_model.proofs.Stable.{same_hands, find-gate}
use Rattle.heap_soundness.proofs.Whole.{all_disjoint}
use Rattle.claim_rule.specs.Entries.{IsSettingOf, IsLegalWith, have_slots, is_by}
use Rattle.search_laws.proofs.Blocks.{bucket_fits, whole_granules}
use Rattle.lfh_buckets.proofs.BlockLemmas.{size_in_granules}
use Rattle.step_parts.specs.InHand.{HasBlock}
use Rattle.backend_fit.specs.Kept.{Kept}
use Rattle.vs_layer.specs.Kept.{VsKept}
use Rattle.heap_gate.specs.Token.{Token, Always, now, IsStanding, is_out}
use Rattle.heap_gate.specs.Calls.{Runs, Stands, stance}
use Rattle.lfh_claims.specs.declared.tag.Tag.{Tag}
use Rattle.lfh_claims.specs.Moves.{block_place}
use Rattle.lfh_claims.specs.Search.{own_slot}
use Rattle.lfh_claims.specs.Stays.{IsInside, HasRead}
use Rattle.lfh_search.specs.Results.{place}
use Rattle.lfh_search.specs.Under.{CannotBeServed}
use Rattle.call_parts.specs.Calls.{GoesOn}
use Rattle.call_parts.specs.Entries.{holding}
use Rattle.call_parts.proofs.Joining.{goes_does, goes_then, called_since, setting_before}
use Rattle.small_calls.proofs.Bounds.{block_within}
use Rattle.small_calls.proofs.Found.{is_bucket}
use Rattle.move_front.specs.Front.{IsBesideFront, IsToPlace, HasFrontBlock, HasNoFrontBlock}
use Rattle.move_front.proofs.Movers.{mover_places}
use Rattle.move_parts.specs.Moves.{IsTaken}
use Rattle.move_parts.proofs.Known.{home, home_is, keeps_behind}
use Rattle.move_parts.proofs.Movers.{mover, holds_mine}
use Rattle.move_to_front.specs.Halfway.{HoldsFrontPlace}
use Rattle.move_to_front.proofs.Tells.{as_moves, vs_loaded, back_loaded}
use Rattle.move_to_front.proofs.Unserved.{still_cannot}
use Rattle.move_taken.specs.Holds.{taken_place, HoldsTaken}
use Rattle.move_taken.proofs.Before.{still_unplaced}
use Rattle.move_taken.proofs.Blocks.{positive}
use Rattle.move_taken.proofs.Moving.{bucket_read, taken_moving}
use Rattle.move_in_front.specs.Taken.{HasTaken, IsUnserved}
use Rattle.move_in_front.specs.Halfway.{HoldsTwo, HasNewBeside}
use Rattle.move_in_front.proofs.Lists.{disjoint_front, apart_in, front_only}
use Rattle.move_in_front.proofs.Reading.{reads_on, stay_two, stay_quiet, stay_came}

---- States

all_hands : (st : State) (n : ℕ) (p : Place) → HoldsFrontPlace st n p → hands st n ≡ p ∷ []
all_hands st n p one = (λ i. one.lfh i ++ one.vs i ++ one.back i ++ one.large i)

-- what is in hand is found before all else
hand_first : (st : State) (n a : ℕ) (p : Place) → find (has_address a) (hands st n) ≡ Some p → find (has_address a) (exclusive_places st n) ≡ Some p
hand_first st n a p e =
    let x = hands st n in let y = guarded st.vs.places (holds st.gate n whats.Vs) in let u = guarded st.back.places (holds st.gate n whats.Back) in let w = guarded st.large (holds st.gate n whats.Large) in
    let f1 = find-gate (has_address a) x y (ap is_some e) ∙ e in
    let f2 = find-gate (has_address a) (x ++ y) u (ap is_some f1) ∙ f1 in
    find-gate (has_address a) (x ++ y ++ u) w (ap is_some f2) ∙ f2

module _ (n : ℕ) (m k j : Configuration) (p : Place) (one : HoldsFrontPlace m.state n p) (bs : IsBesideFront n m k) (ag : AgreesFor n j k) where
  vs_k : in_hand n k.state.vs.places ≡ []
  vs_k = bs.hand layers.Vs refl ∙ one.vs

  back_k : in_hand n k.state.back.places ≡ []
  back_k = bs.hand layers.Back refl ∙ one.back

  large_k : in_hand n k.state.large ≡ []
  large_k = bs.hand layers.Large refl ∙ one.large

  -- what is in hand of the front end
  lfh_now : (xs : List Place) → hands k.state n ≡ xs → in_hand n j.state.lfh ≡ xs
  lfh_now xs e = ag.hands layers.Lfh ∙ front_only (in_hand n k.state.lfh) (in_hand n k.state.vs.places) (in_hand n k.state.back.places) (in_hand n k.state.large) xs vs_k back_k large_k e

  still_one : hands k.state n ≡ hands m.state n → HoldsFrontPlace j.state n p
  still_one e = record {
    lfh = lfh_now (p ∷ []) (e ∙ all_hands m.state n p one);
    vs = ag.hands layers.Vs ∙ vs_k;
    back = ag.hands layers.Back ∙ back_k;
    large = ag.hands layers.Large ∙ large_k;
  }

---- A caller that has taken a block

module _ (a : Token) (tag : Tag) (addr size n : ℕ) (flags : Flags) (out : List ℕ) (v : HasTaken a tag addr size n flags out) (sa : IsStanding a) where
  abbrev pub p : Place
  p = taken_place tag.bucket addr a.number

  abbrev h : HoldsTaken a tag addr size n flags out
  h = v.holds

  pub long : 16 * (block_size tag.bucket / 16) ≡ block_size tag.bucket
  long = whole_granules tag.bucket

  one_granule : 16 ≤ block_size tag.bucket
  one_granule = let e = long in let k = positive tag.bucket h.block.number.number h.block.number.below in omega (arith, e, k)

  one_now : Always a (λ s. HoldsFrontPlace (now s a).state a.number p)
  one_now s z = let x = (h.block.hand s z).hand in record { lfh = x layers.Lfh; vs = x layers.Vs; back = x layers.Back; large = x layers.Large }

  first_now : Always a (λ s. find (has_address addr) (exclusive_places (now s a).state a.number) ≡ Some p)
  first_now s z = hand_first (now s a).state a.number addr p (ap (find (has_address addr)) (all_hands (now s a).state a.number p (one_now s z)) ∙ (let k = eq-eqb addr addr refl in rw k refl))

  pub to_place : (bucket : ℕ) → bucket_of n ≡ Some bucket → is_out whats.Vs out ≡ true → is_out whats.Back out ≡ true → IsToPlace a bucket
  to_place bucket bucket_is vs_out back_out =
      mover_places a addr n bucket flags p
      (λ s z. record {
        call = (sa s z).call ∙ h.call_is;
        placed = h.placed s z;
        no_span = v.nothing.no_span s z;
        search = v.nothing.search s z;
        first = first_now s z;
        touch = refl;
        there = eq-eqb a.number a.number refl;
        leaves = ap (λ (y : ℕ). nat_le n 16368 && nat_le n y) long ∙ h.leaves;
      })
      h.may_move bucket_is h.block.inside h.block.whole v.nothing.searched (sym h.drawn ∙ v.nothing.searched) h.owes (ap (is_out whats.Vs) h.out_is ∙ vs_out) (ap (is_out whats.Back) h.out_is ∙ back_out)

  inside_a : IsInside a
  inside_a s z = (sa s z).entered ∙ h.block.inside

  ---- The new block

  module _ (d e : Token) (more : VsKept) (back kept : Kept) (bucket b : ℕ) (x : HasFrontBlock a d more back kept bucket b) (r : Runs d e []) (t : Stands e (stance d)) (sd : IsStanding d) (se : IsStanding e) (slots : have_slots e.opening.limits.slots e.roll ≡ true)
      (valid : AreValid a.opening.limits) (few : n ≤ 16368) (bucket_is : bucket_of n ≡ Some bucket) (vs_out : is_out whats.Vs out ≡ true) (back_out : is_out whats.Back out ≡ true) where
    abbrev q : Place
    q = block_place bucket x.head x.index a.number

    abbrev list : List Act
    list = x.its ++ (x.made ++ place bucket x.head x.index ∷ [])

    legal : IsLegalWith e.opening e.roll e.seen
    legal = r.does.legal

    goes_de : GoesOn d e []
    goes_de = goes_does d e [] r.does t.depth

    goes_ae : GoesOn a e (x.its ++ (x.made ++ place bucket x.head x.index ∷ []))
    goes_ae = subst (GoesOn a e) (append-nil list) (goes_then a d e list [] x.goes goes_de)

    number : e.number ≡ a.number
    number = goes_ae.number

    at_d : (s : Setting) → IsSettingOf e.opening e.roll s → IsSettingOf d.opening d.roll s
    at_d s z = setting_before d e [] goes_de s z

    at_a : (s : Setting) → IsSettingOf e.opening e.roll s → IsSettingOf a.opening a.roll s
    at_a s z = setting_before a e list goes_ae s z

    agree : (s : Setting) → IsSettingOf e.opening e.roll s → AgreesFor a.number (now s e) (now s d)
    agree s z = subst (λ (k : ℕ). AgreesFor k (now s e) (now s d)) x.goes.number (r.agrees s z)

    hands_d : (s : Setting) → IsSettingOf e.opening e.roll s → hands (now s d).state a.number ≡ q ∷ p ∷ []
    hands_d s z = x.hands s (at_d s z) ∙ ap (λ (ps : List Place). q ∷ ps) (all_hands (now s a).state a.number p (one_now s (at_a s z)))

    hands_e : (s : Setting) → IsSettingOf e.opening e.roll s → hands (now s e).state a.number ≡ q ∷ p ∷ []
    hands_e s z = same_hands s a.number (now s e) (now s d) (agree s z) ∙ hands_d s z

    valid_e : AreValid e.opening.limits
    valid_e = subst (λ (o : Opening). AreValid o.limits) (sym goes_ae.opening) valid

    new_granules : (block_size bucket % 16 ≡ 0) × (16 ≤ block_size bucket)
    new_granules = size_in_granules bucket (is_bucket n bucket bucket_is)

    new_long : 16 * (block_size bucket / 16) ≡ block_size bucket
    new_long = let k = new_granules.0 in omega (arith, k)

    at_b : address q ≡ b
    at_b = sym x.address

    apart : addr ≡ b → ⊥
    apart is =
        let s = home e t.prepared valid_e slots legal in let z = home_is e t.prepared valid_e slots legal in
        let w = keeps_behind e t.prepared valid_e slots legal [] refl in
        let st = (now s e).state in
        let d1 = disjoint_front ((st.lfh ++ st.vs.places) ++ st.back.places) st.large (all_disjoint s (now s e) w) in
        let d2 = disjoint_front (st.lfh ++ st.vs.places) st.back.places d1 in
        let d3 = disjoint_front st.lfh st.vs.places d2 in
        let two = lfh_now a.number (now s a) (now s d) (now s e) p (one_now s (at_a s z)) (x.stands.beside s (at_d s z)) (agree s z) (q ∷ p ∷ []) (hands_d s z) in
        let start : q.start ≡ addr = at_b ∙ sym is in
        meet (block_address bucket x.head x.index) (block_size bucket / 16) (block_size tag.bucket / 16) (block_size bucket) (block_size tag.bucket) new_long long new_granules.1 one_granule start (apart_in a.number st.lfh q p two d3)
      where
        meet : (start g1 g2 s1 s2 : ℕ) → 16 * g1 ≡ s1 → 16 * g2 ≡ s2 → 16 ≤ s1 → 16 ≤ s2 → start ≡ addr → (start + 16 * g1 ≤ addr) ⊎ (addr + 16 * g2 ≤ start) → ⊥
        meet start g1 g2 s1 s2 a1 a2 b1 b2 c (inl h) = omega (arith, a1, a2, b1, b2, c, h)
        meet start g1 g2 s1 s2 a1 a2 b1 b2 c (inr h) = omega (arith, a1, a2, b1, b2, c, h)

    begun_e : (s : Setting) → IsSettingOf e.opening e.roll s → is_some ((now s e).now.calls a.number).call ≡ true
    begun_e s z = subst (λ (k : ℕ). is_some ((now s e).now.calls k).call ≡ true) number (ap is_some ((se s z).call ∙ (t.call ∙ (x.stands.call ∙ h.call_is))))

    new_block : (s : Setting) → IsSettingOf e.opening e.roll s → HasBlock (now s e) a.number bucket b
    new_block s z = record {
      hand = record { begun = begun_e s z; place = q; hand = ap (find (has_address b)) (hands_e s z) ∙ (let k = eq-eqb (address q) b at_b in rw k refl); layer = refl };
      long = new_long;
    }

    old_block : (s : Setting) → IsSettingOf e.opening e.roll s → HasBlock (now s e) a.number tag.bucket addr
    old_block s z = record {
      hand = record {
        begun = begun_e s z;
        place = p;
        hand = ap (find (has_address addr)) (hands_e s z) ∙ (let k = ne_eqb (address q) addr (λ h. apart (sym h ∙ at_b)) in let g = eq-eqb addr addr refl in rw k (rw g refl));
        layer = refl;
      };
      long = long;
    }

    within_of : (k y : ℕ) → ((s : Setting) → IsSettingOf e.opening e.roll s → HasBlock (now s e) a.number k y) → y + block_size k ≤ 1048576 * e.opening.limits.segments
    within_of k y h =
        let s = home e t.prepared valid_e slots legal in let z = home_is e t.prepared valid_e slots legal in
        block_within s e.seen a.number k y (legal s z) (subst (λ (l : List Entry). HasBlock (configuration_after s (configuration_of s e.seen) l) a.number k y) t.prepared (h s z))

    fits : n ≤ block_size bucket
    fits = (bucket_fits n bucket bucket_is).1

    read : HasRead e tag.head tag.bucket tag.slot
    read =
        reads_on a e list goes_ae h.prepared t.prepared legal (stay_two x.its (x.made ++ place bucket x.head x.index ∷ []) (stay_quiet x.its x.are.quiet) (stay_came x.made back kept bucket (own_slot a) x.draw x.head x.index x.came)) inside_a
        tag.head tag.bucket tag.slot h.block.read

    two : HoldsTwo e (calls.Realloc addr n flags) tag addr size p b n q out
    two =
        let nw = within_of bucket b new_block in let ow = within_of tag.bucket addr old_block in
        let y = new_granules.1 in let l = fits in let lo = h.block.fits in let yo = one_granule in
        let at : addr ≡ 4096 * tag.head + 64 + h.block.number.number * block_size tag.bucket = h.block.number.start in
        record {
          call_is = t.call ∙ (x.stands.call ∙ h.call_is);
          fresh = t.fresh ∙ (x.stands.fresh ∙ h.fresh);
          inside = t.inside ∙ x.stands.inside;
          out_is = t.out ∙ (x.stands.out ∙ h.out_is);
          whole = t.whole;
          pending = t.pending;
          prepared = t.prepared;
          drawn = (t.searched ∙ x.stands.searched) ∙ sym (t.drawn ∙ x.stands.drawn);
          owes = t.owes ∙ x.stands.owes;
          hand = λ s z. subst (λ (k : ℕ). hands (now s e).state k ≡ q ∷ p ∷ []) (sym number) (hands_e s z);
          front = refl;
          at = at_b;
          bucket = bucket;
          long = new_long;
          fits = fits;
          small = few;
          there = omega (arith, nw, y);
          old_front = refl;
          old_at = refl;
          old_long = long;
          of = bucket_read e t.prepared valid_e slots legal tag.head tag.bucket tag.slot read;
          apart = apart;
          read = read;
          number = h.block.number;
          head = below tag.head (h.block.number.number * block_size tag.bucket) (block_size tag.bucket) e.opening.limits.segments at ow;
          from = omega (arith, ow, lo, yo);
          to = omega (arith, nw, l, y);
        }
      where
        below : (head more s segments : ℕ) → addr ≡ 4096 * head + 64 + more → addr + s ≤ 1048576 * segments → head < 256 * segments
        below head more s segments h k = omega (arith, h, k)

    out_d : d.out ≡ out
    out_d = x.stands.out ∙ h.out_is

    pub has_new : HasNewBeside a e (calls.Realloc addr n flags) tag addr size n p out more kept b
    has_new = record {
      place = q;
      two = two;
      made = record {
        added = list;
        goes = goes_ae;
        no_begin = x.no_begin;
        shape_is = x.shape_is;
        call = t.call ∙ x.stands.call;
        fresh = t.fresh ∙ x.stands.fresh;
        inside = (t.inside ∙ x.stands.inside) ∙ sym h.block.inside;
        out = t.out ∙ x.stands.out;
      };
      tells = record {
        vs = vs_loaded d e r t sd (ap (is_out whats.Vs) out_d ∙ vs_out) more (as_moves d more x.tells_vs);
        back = back_loaded d e r t sd (ap (is_out whats.Back) out_d ∙ back_out) kept x.back_is;
      };
    }

  ---- None

  module _ (d e : Token) (more : VsKept) (back kept : Kept) (bucket : ℕ) (x : HasNoFrontBlock a d more back kept bucket) (r : Runs d e []) (t : Stands e (stance d)) (sd : IsStanding d) (se : IsStanding e) (slots : have_slots e.opening.limits.slots e.roll ≡ true)
      (vs_out : is_out whats.Vs out ≡ true) (back_out : is_out whats.Back out ≡ true) where
    goes_de2 : GoesOn d e []
    goes_de2 = goes_does d e [] r.does t.depth

    goes_ae2 : GoesOn a e x.its
    goes_ae2 = subst (GoesOn a e) (append-nil x.its) (goes_then a d e x.its [] x.goes goes_de2)

    number2 : e.number ≡ a.number
    number2 = goes_ae2.number

    before_d : (s : Setting) → IsSettingOf e.opening e.roll s → IsSettingOf d.opening d.roll s
    before_d s z = setting_before d e [] goes_de2 s z

    before_a : (s : Setting) → IsSettingOf e.opening e.roll s → IsSettingOf a.opening a.roll s
    before_a s z = setting_before a e x.its goes_ae2 s z

    agree2 : (s : Setting) → IsSettingOf e.opening e.roll s → AgreesFor a.number (now s e) (now s d)
    agree2 s z = subst (λ (k : ℕ). AgreesFor k (now s e) (now s d)) x.goes.number (r.agrees s z)

    still : (s : Setting) → IsSettingOf e.opening e.roll s → HoldsFrontPlace (now s e).state a.number p
    still s z = still_one a.number (now s a) (now s d) (now s e) p (one_now s (before_a s z)) (x.stands.beside s (before_d s z)) (agree2 s z) (x.hands s (before_d s z))

    call_e : e.call ≡ Some (calls.Realloc addr n flags)
    call_e = t.call ∙ (x.stands.call ∙ h.call_is)

    out_now : d.out ≡ out
    out_now = x.stands.out ∙ h.out_is

    old_hand : Always e (λ s. IsTaken (now s e) e.number addr (taken_place tag.bucket addr e.number))
    old_hand s z = subst (λ (k : ℕ). IsTaken (now s e) k addr (taken_place tag.bucket addr k)) (sym number2) (record { at = refl; front = refl; status = refl; hand = by })
      where
        by : (l : Layer) → in_hand a.number (places_of (now s e).state l) ≡ holding p l
        by layers.Lfh = (still s z).lfh
        by layers.Vs = (still s z).vs
        by layers.Back = (still s z).back
        by layers.Large = (still s z).large

    unplaced : Always e (λ s. ((now s e).now.calls e.number).placed ≡ false)
    unplaced s z =
        ap (λ (k : CallState). k.placed) (called_since s a e x.its goes_ae2 (ap (is_by a.number) h.prepared) (ap (is_by e.number) t.prepared))
        ∙ still_unplaced s a.number ((now s a).now.calls a.number) x.its x.are.shape_is (h.placed s (before_a s z))

    holds_still : HoldsTaken e tag addr size n flags out
    holds_still = record {
      block = record {
        inside = t.inside ∙ x.stands.inside;
        whole = t.whole;
        begun = ap is_some call_e;
        hand = old_hand;
        fits = h.block.fits;
        small = h.block.small;
        read = reads_on a e x.its goes_ae2 h.prepared t.prepared r.does.legal (stay_quiet x.its x.are.quiet) inside_a tag.head tag.bucket tag.slot h.block.read;
        number = h.block.number;
        ends = subst (λ (o : Opening). addr + block_size tag.bucket ≤ 1048576 * o.limits.segments) (sym goes_ae2.opening) h.block.ends;
      };
      call_is = call_e;
      fresh = t.fresh ∙ (x.stands.fresh ∙ h.fresh);
      out_is = t.out ∙ out_now;
      pending = t.pending;
      prepared = t.prepared;
      drawn = (t.searched ∙ x.stands.searched) ∙ sym (t.drawn ∙ x.stands.drawn);
      owes = t.owes ∙ x.stands.owes;
      placed = unplaced;
      may_move = h.may_move;
      leaves = h.leaves;
    }

    cannot_now : CannotBeServed e bucket
    cannot_now = record {
      said = λ s z. subst (λ (k : ℕ). ((now s e).now.calls k).no_span ≡ true) (sym r.does.number) (ap (λ (k : CallState). k.no_span) (r.agrees s z).call ∙ x.cannot.said s (before_d s z));
      refused = λ s z.
          let held : holds (now s d).state.gate d.number whats.Back ≡ true = (sd s (before_d s z)).locks whats.Back ∙ (ap (is_out whats.Back) out_now ∙ back_out) in
          subst (λ (k : ℕ). cannot_be_served s (now s e).state.back.area k (caller_view (now s e) k) (request_of s (now s e) k) bucket ≡ true) (sym r.does.number)
          (still_cannot s d.number (now s d) (now s e) bucket (r.agrees s z) held (x.cannot.old s (before_d s z)) (x.cannot.refused s (before_d s z)));
      old = λ s z. holds_mine (now s e) e.number addr n flags (taken_place tag.bucket addr e.number) ((se s z).call ∙ call_e)
          ((mover true e addr size n flags (taken_place tag.bucket addr e.number) out (taken_moving e tag addr size n flags out holds_still slots)).old s z);
    }

    pub unserved : IsUnserved a e tag addr size n flags out back kept bucket
    unserved = record {
      its = x.its;
      are = x.are;
      goes = goes_ae2;
      holds = holds_still;
      cannot = cannot_now;
      slots = slots;
      same = x.same;
    }

    pub unserved_tells : Rattle.move_to_front.specs.Moved.TellsLow e more kept
    unserved_tells = record {
      vs = vs_loaded d e r t sd (ap (is_out whats.Vs) out_now ∙ vs_out) more (as_moves d more x.tells_vs);
      back = back_loaded d e r t sd (ap (is_out whats.Back) out_now ∙ back_out) kept x.back_is;
    }
