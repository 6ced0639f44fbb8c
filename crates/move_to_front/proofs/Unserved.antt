-- The front end was searched in vain: the call may go on to VS with its move.
use Rattle.std.proofs.Common.{◌≡◌, ℕ, ◌+◌, ◌/◌, ◌≤◌, ◌&&◌, true, false, List, [], Some, sym, ap, ◌∙◌, subst}
use Rattle.std.proofs.lemmas.Bool.{and_parts}
use Rattle.std.proofs.lemmas.List.{append-nil}
use Rattle.heap_model.specs.declared.Call.TheVariants as calls
use Rattle.heap_model.specs.declared.Flags.{Flags}
use Rattle.heap_model.specs.declared.Opening.{Opening}
use Rattle.heap_model.specs.declared.What.TheVariants as whats
use Rattle.heap_model.specs.Agreement.{AgreesFor, holds_old_block}
use Rattle.heap_model.specs.Buckets.{bucket_pages}
use Rattle.heap_model.specs.CallState.{Configuration, CallState, caller_view}
use Rattle.heap_model.specs.Geometry.{words_of}
use Rattle.heap_model.specs.Legal.{cannot_be_served, fits_none}
use Rattle.heap_model.specs.Search.{request_of, search_key_of, is_spent}
use Rattle.heap_model.specs.State.{Setting, BackPart, Place, holds}
use Rattle.heap_model.specs.Stay.{is_some_of, lets_stay}
use Rattle.heap_model.proofs.ListLemmas.{is_some_of_parts}
use Rattle.heap_model.proofs.Stable.{caller_view_same, same_search}
use Rattle.claim_rule.specs.Entries.{IsSettingOf, have_slots}
use Rattle.claim_rule.specs.Places.{data_count}
use Rattle.backend_fit.specs.Kept.{Kept}
use Rattle.vs_layer.specs.Kept.{VsKept}
use Rattle.heap_gate.specs.Token.{Token, Always, now, IsStanding, is_out}
use Rattle.heap_gate.specs.Calls.{Runs, Stands, stance}
use Rattle.lfh_search.specs.Under.{CannotBeServed}
use Rattle.call_parts.specs.Calls.{GoesOn}
use Rattle.call_parts.proofs.Joining.{goes_does, goes_then, setting_before}
use Rattle.move_front.specs.Front.{HasNoFrontBlock, IsBesideFront}
use Rattle.move_front.proofs.Quiet.{still_moves}
use Rattle.move_parts.specs.Moves.{IsHeld, IsMoving}
use Rattle.move_parts.proofs.Reserved.{holds_by}
use Rattle.move_to_front.specs.Halfway.{IsMovingOn, IsBehindFront}
use Rattle.move_to_front.proofs.Tells.{as_moves, vs_loaded, back_loaded, large_loaded, large_later}
use Rattle.move_to_front.proofs.Beside.{held_beside, stays_agreed}

-- what the front end could not serve it cannot serve still, whatever others do
pub still_cannot : (s : Setting) (n : ℕ) (k j : Configuration) (b : ℕ) → AgreesFor n j k → holds k.state.gate n whats.Back ≡ true → holds_old_block k n ≡ true → cannot_be_served s k.state.back.area n (caller_view k n) (request_of s k n) b ≡ true
    → cannot_be_served s j.state.back.area n (caller_view j n) (request_of s j n) b ≡ true
still_cannot s n k j b ag back old h =
    let two = and_parts (is_some_of (request_of s k n).search b && is_spent k.state.back.area (caller_view k n) (search_key_of s n (caller_view k n).call b)) (fits_none s k.state.back.area (bucket_pages b)) h in
    let one = and_parts (is_some_of (request_of s k n).search b) (is_spent k.state.back.area (caller_view k n) (search_key_of s n (caller_view k n).call b)) two.0 in
    let search = same_search s n j k ag old b (is_some_of_parts (request_of s k n).search b one.0) in
    let view = caller_view_same n j k ag in
    let area = ap (λ (p : BackPart). p.area) (ag.back back) in
    (λ i. is_some_of (search i) b && is_spent (area i) (view i) (search_key_of s n (view i).call b) && fits_none s (area i) (bucket_pages b)) ∙ h

module _ (a d e : Token) (addr size n : ℕ) (flags : Flags) (p : Place) (out : List ℕ) (v : IsMoving a addr size n flags p out) (more : VsKept) (back kept : Kept) (bucket : ℕ) (x : HasNoFrontBlock a d more back kept bucket) (r : Runs d e []) (t : Stands e (stance d))
    (sd : IsStanding d) (se : IsStanding e) (slots : have_slots e.opening.limits.slots e.roll ≡ true) (few : n ≤ 16368) (back_out : is_out whats.Back out ≡ true) where
  goes_de : GoesOn d e []
  goes_de = goes_does d e [] r.does t.depth

  pub goes_behind : GoesOn a e x.its
  goes_behind = subst (GoesOn a e) (append-nil x.its) (goes_then a d e x.its [] x.goes goes_de)

  number : e.number ≡ a.number
  number = goes_behind.number

  at_d : (s : Setting) → IsSettingOf e.opening e.roll s → IsSettingOf d.opening d.roll s
  at_d s z = setting_before d e [] goes_de s z

  at_a : (s : Setting) → IsSettingOf e.opening e.roll s → IsSettingOf a.opening a.roll s
  at_a s z = setting_before a e x.its goes_behind s z

  agree : (s : Setting) → IsSettingOf e.opening e.roll s → AgreesFor a.number (now s e) (now s d)
  agree s z = subst (λ (k : ℕ). AgreesFor k (now s e) (now s d)) x.goes.number (r.agrees s z)

  beside : (s : Setting) → IsSettingOf e.opening e.roll s → IsBesideFront a.number (now s a) (now s d)
  beside s z = x.stands.beside s (at_d s z)

  old_now : Always e (λ s. IsHeld (now s e) e.number addr p size)
  old_now s z = subst (λ (k : ℕ). IsHeld (now s e) k addr p size) (sym number) (held_beside s a.number (now s a) (now s d) (now s e) (beside s z) (agree s z) (x.hands s (at_d s z)) addr size p (v.old s (at_a s z)))

  leaves_now : Always e (λ s. lets_stay s.limits (now s e).state p n ≡ false)
  leaves_now s z =
      let old = v.old s (at_a s z) in
      let left = (still_moves s (now s a) (now s d) a.number addr n p (beside s z) (x.hands s (at_d s z)) old.first old.touch few (v.leaves s (at_a s z))).1 in
      stays_agreed s a.number (now s a) (now s d) (now s e) (beside s z) (agree s z) n p old.touch few ∙ left

  pub call_now : e.call ≡ Some (calls.Realloc addr n flags)
  call_now = t.call ∙ (x.stands.call ∙ v.serving.call_is)

  pub on_now : IsMovingOn e addr size n flags p out
  on_now = record {
    call_is = call_now;
    fresh = t.fresh ∙ (x.stands.fresh ∙ v.serving.fresh);
    inside = t.inside ∙ x.stands.inside;
    out_is = t.out ∙ (x.stands.out ∙ v.serving.out_is);
    whole = t.whole;
    free = t.free ∙ (x.free ∙ v.serving.free);
    pending = t.pending;
    prepared = t.prepared;
    drawn = (t.searched ∙ x.stands.searched) ∙ sym (t.drawn ∙ x.stands.drawn);
    owes = t.owes ∙ x.stands.owes;
    may_move = v.may_move;
    old = old_now;
    leaves = leaves_now;
    from = subst (λ (o : Opening). addr / 8 + words_of size ≤ data_count o.limits) (sym goes_behind.opening) v.from;
    slots = slots;
  }

  pub cannot_now : CannotBeServed e bucket
  cannot_now = record {
    said = λ s z. subst (λ (k : ℕ). ((now s e).now.calls k).no_span ≡ true) (sym r.does.number) (ap (λ (k : CallState). k.no_span) (r.agrees s z).call ∙ x.cannot.said s (at_d s z));
    refused = λ s z.
        let held : holds (now s d).state.gate d.number whats.Back ≡ true = (sd s (at_d s z)).locks whats.Back ∙ (ap (is_out whats.Back) (x.stands.out ∙ v.serving.out_is) ∙ back_out) in
        subst (λ (k : ℕ). cannot_be_served s (now s e).state.back.area k (caller_view (now s e) k) (request_of s (now s e) k) bucket ≡ true) (sym r.does.number)
        (still_cannot s d.number (now s d) (now s e) bucket (r.agrees s z) held (x.cannot.old s (at_d s z)) (x.cannot.refused s (at_d s z)));
    old = λ s z. holds_by (now s e) e.number addr size n flags p ((se s z).call ∙ call_now) (old_now s z);
  }

  out_d : d.out ≡ out
  out_d = x.stands.out ∙ v.serving.out_is

  pub is_behind : IsStanding a → is_out whats.Vs out ≡ true → IsBehindFront a e addr size n flags p out more back kept bucket
  is_behind sa vs_out = record {
    its = x.its;
    are = x.are;
    goes = goes_behind;
    on = on_now;
    cannot = cannot_now;
    tells = record {
      vs = vs_loaded d e r t sd (ap (is_out whats.Vs) out_d ∙ vs_out) more (as_moves d more x.tells_vs);
      back = back_loaded d e r t sd (ap (is_out whats.Back) out_d ∙ back_out) kept x.back_is;
    };
    same = x.same;
    large = λ o large w. large_loaded d e r t sd (ap (is_out whats.Large) out_d ∙ o) large (large_later a d x.goes.opening (setting_before a d x.its x.goes) large (λ s z.
        (x.stands.beside s z).large ((sa s (setting_before a d x.its x.goes s z)).locks whats.Large ∙ (ap (is_out whats.Large) v.serving.out_is ∙ o))) w);
  }
