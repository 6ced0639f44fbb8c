-- A caller with one prepared entry more.
use Rattle.std.proofs.Common.{◌≡◌, ℕ, ◌+◌, ◌<◌, Bool, true, false, ◌&&◌, ◌==◌, List, [], ◌∷◌, ◌++◌, length, Option, None, refl, sym, ap, ◌∙◌, subst, arith, eq-eqb, append_assoc, length-append}
use Rattle.std.specs.Prelude.{is_some}
use Rattle.std.proofs.lemmas.Bool.{and_parts, and_from, both_ways, false≢true, true≢false, not-true}
use Rattle.atomic_table.specs.Table.{Me}
use Rattle.atomic_table.specs.Seated.{TableId}
use Rattle.rand_core.specs.Stream.{Stream}
use Rattle.random_pick.specs.CallerDraws.{IsBeforeDraw}
use Rattle.heap_model.specs.declared.Act.{Act}
use Rattle.heap_model.specs.declared.Act.TheVariants as acts
use Rattle.heap_model.specs.declared.Call.{Call}
use Rattle.heap_model.specs.declared.Entry.{Entry}
use Rattle.heap_model.specs.declared.Limits.{Limits}
use Rattle.heap_model.specs.declared.Layer.TheVariants as layers
use Rattle.heap_model.specs.declared.What.TheVariants as whats
use Rattle.heap_model.specs.State.{Setting, Place, hands, is_entered}
use Rattle.heap_model.specs.Stay.{for_some}
use Rattle.heap_model.specs.CallState.{Configuration, caller_view, holds_none}
use Rattle.heap_model.specs.Legal.{may, may_follow, after}
use Rattle.heap_model.specs.History.{configuration_after, configuration_of, own}
use Rattle.heap_model.proofs.GateSound.{row_of, none_held}
use Rattle.claim_rule.specs.declared.views.View.{View}
use Rattle.claim_rule.specs.Entries.{IsSettingOf, setting_of, entry, leaves_words, may_prepare, are_prepared}
use Rattle.claim_rule.specs.Rule.{ready_after}
use Rattle.claim_rule.proofs.Lists.{after-append}
use Rattle.claim_rule.proofs.Advance.{some_setting}
use Rattle.heap_gate.specs.Token.{IsAt, IsCaller, IsEven, SearchMarks, search_mark, search_marks, count, outs}
use Rattle.heap_gate.specs.Seated.{Face, tok}
use Rattle.heap_gate.specs.Calls.{call_with, is_begun_with, is_unless_begun, is_whole_with, is_free_with, searches_with, with_prepared, HasRested}
use Rattle.heap_gate.proofs.Standing.{at_prepared, at_rested, begin_ok, none_of}
use Rattle.heap_gate.proofs.Tokens.{marks-append, no_marks}

-- where no layer lock is held, nothing but a Begin can be prepared
pub only_begin : (s : Setting) (m : Configuration) (n : ℕ) (act : Act) → holds_none (caller_view m n) ≡ true → hands m.state n ≡ [] → may_prepare s m n act ≡ true → (call : Call) × (act ≡ acts.Begin call)
only_begin s m n act l e h = let q = and_parts (Rattle.heap_model.specs.Agreement.is_stable m n act && leaves_words m n act) (may_follow s m (entry n act)) h in go act q.0 (Rattle.heap_model.proofs.GateSound.row_of s m (entry n act) q.1)
  where
    no_back : (caller_view m n).back ≡ false
    no_back = none_held (caller_view m n) whats.Back l

    no_vs : (caller_view m n).vs ≡ false
    no_vs = none_held (caller_view m n) whats.Vs l

    no_large : (caller_view m n).large ≡ false
    no_large = none_held (caller_view m n) whats.Large l

    -- no place is held fast
    exclusive : Rattle.heap_model.specs.State.exclusive_places m.state n ≡ []
    exclusive = let a = no_vs in let b = no_back in let c = no_large in rw (a, b, c, e) refl

    not_locked : (a : ℕ) → Rattle.heap_model.specs.Agreement.is_locked_at m n a ≡ false
    not_locked a = ap (λ (ps : List Place). for_some (Rattle.std.specs.List.find (Rattle.heap_model.specs.State.has_address a) ps) (Rattle.heap_model.specs.Agreement.is_locked (caller_view m n))) exclusive

    no_hand : (a : ℕ) → Rattle.heap_model.specs.State.hand_at m.state n a ≡ None
    no_hand a = ap (λ (ps : List Place). Rattle.std.specs.List.find (Rattle.heap_model.specs.State.has_address a) ps) e

    go : (act : Act) → (Rattle.heap_model.specs.Agreement.is_stable m n act && leaves_words m n act) ≡ true → may s m n act ≡ true → (call : Call) × (act ≡ acts.Begin call)
    go (acts.Begin call) q r = (call, refl)
    go (acts.Reserve segment) q r = absurd (both_ways _ no_back (Rattle.heap_model.proofs.Others.reserve_locks s m n segment r).1)
    go (acts.Span first pages kind bucket slot) q r = absurd (both_ways _ no_back (Rattle.heap_model.proofs.Others.span_locks s m n (record { first = first; pages = pages; kind = kind; bucket = bucket; slot = slot }) r).1)
    go (acts.Unspan first) q r = absurd (both_ways _ no_back (Rattle.heap_model.proofs.Others.unspan_locks s m n first r).0)
    go (acts.Place start granules layers.Vs) q r = absurd (both_ways _ no_vs (Rattle.heap_model.proofs.Others.place_vs_locks s m n start granules r).1)
    go (acts.Place start granules layers.Lfh) q r = absurd (false≢true (and_parts (Rattle.heap_model.specs.Agreement.is_stable m n (acts.Place start granules layers.Lfh)) false q).1)
    go (acts.Place start granules layers.Back) q r = absurd (both_ways _ no_back (and_parts (caller_view m n).entered (caller_view m n).back (and_parts _ _ r).0).1)
    go (acts.Place start granules layers.Large) q r = absurd (both_ways _ no_large (Rattle.heap_model.proofs.Others.place_large_locks s m n start granules r).1)
    go (acts.Give a size) q r = absurd (false≢true (sym (ap (λ (o : Option Place). for_some o (λ p. Rattle.heap_model.specs.Legal.may_touch (caller_view m n) p.layer && Rattle.heap_model.specs.Legal.suits size p)) (no_hand a)) ∙ (and_parts (caller_view m n).entered _ r).1))
    go (acts.Take a size) q r = absurd (both_ways _ (not_locked a) (and_parts _ _ q).0)
    go (acts.Drop a) q r = absurd (false≢true (sym (ap (λ (o : Option Place). for_some o (λ p. Rattle.heap_model.specs.Legal.may_touch (caller_view m n) p.layer)) (no_hand a)) ∙ (and_parts (caller_view m n).entered _ r).1))
    go (acts.Resize a granules size) q r = absurd (both_ways _ (not_locked a) (and_parts _ _ q).0)
    go (acts.NoSpan bucket) q r = no_span
      where
        no_span : (call : Call) × (acts.NoSpan bucket ≡ acts.Begin call)
        no_span =
            let p = Rattle.heap_model.proofs.ListLemmas.for_some_parts (Rattle.heap_model.specs.Search.request_of s m n).search _ (and_parts (caller_view m n).entered _ r).1 in
            absurd (both_ways _ no_back (and_parts (bucket == p.0) (caller_view m n).back (and_parts _ _ (and_parts _ _ p.2).0).0).1)
    go (acts.NoFit size) q r = absurd (fit (Rattle.heap_model.specs.Geometry.route_of size) (and_parts _ _ r).1)
      where
        vs_range : (size : ℕ) → Rattle.heap_model.specs.Legal.has_no_vs_range s m.state.back.area (Rattle.heap_model.specs.Ranges.gaps m.state) (caller_view m n) size ≡ true → ⊥
        vs_range size h = both_ways _ no_vs (and_parts (caller_view m n).vs (caller_view m n).back (and_parts _ _ (and_parts _ _ h).0).0).0

        fit : (route : Rattle.heap_model.specs.Geometry.Route) → Rattle.heap_model.specs.Legal.has_no_range s m.state n (caller_view m n) (Rattle.heap_model.specs.Search.request_of s m n) size route ≡ true → ⊥
        fit Rattle.heap_model.specs.Geometry.Small h = vs_range size (and_parts _ _ h).0
        fit Rattle.heap_model.specs.Geometry.Variable h = vs_range size h
        fit Rattle.heap_model.specs.Geometry.Paged h = both_ways _ no_back (and_parts (caller_view m n).back _ h).0
        fit Rattle.heap_model.specs.Geometry.Huge h = both_ways _ no_large (and_parts (caller_view m n).large _ h).0
    go (acts.Sized a size) q r = absurd (both_ways _ (not_locked a) (and_parts _ _ q).0)
    go (acts.Decommit page) q r = absurd (both_ways _ no_back (Rattle.heap_model.proofs.Others.decommit_locks s m n page r).1)
    go acts.Enter q r = absurd (false≢true q)
    go acts.Leave q r = absurd (false≢true (and_parts (Rattle.heap_model.specs.Agreement.is_stable m n acts.Leave) false q).1)
    go acts.Lock q r = absurd (false≢true q)
    go acts.Unlock q r = absurd (false≢true (and_parts (Rattle.heap_model.specs.Agreement.is_stable m n acts.Unlock) false q).1)
    go (acts.Blocked what word) q r = absurd (false≢true q)
    go (acts.TakeLock what) q r = absurd (false≢true q)
    go (acts.GiveLock what) q r = absurd (false≢true (and_parts (Rattle.heap_model.specs.Agreement.is_stable m n (acts.GiveLock what)) false q).1)
    go (acts.Saw head word bits) q r = absurd (false≢true q)
    go (acts.Lost head index) q r = absurd (false≢true q)
    go (acts.NoHint bucket slot) q r = absurd (false≢true q)
    go (acts.Active bucket) q r = absurd (false≢true (and_parts (Rattle.heap_model.specs.Agreement.is_stable m n (acts.Active bucket)) false q).1)
    go (acts.NotLive a) q r = absurd (false≢true q)
    go (acts.Load w v) q r = absurd (false≢true q)
    go (acts.Store w v) q r = absurd (false≢true (and_parts (Rattle.heap_model.specs.Agreement.is_stable m n (acts.Store w v)) false q).1)

-- a prepared entry that leaves something in hand is of a caller inside
pub no_hand : (s : Setting) (m : Configuration) (n : ℕ) (act : Act) (free : Bool) → may_prepare s m n act ≡ true → is_entered m.state.gate n ≡ false → free ≡ true → is_free_with free act ≡ true
no_hand s m n act free h out e = go act (row_of s m (entry n act) (and_parts _ (may_follow s m (entry n act)) h).1)
  where
    off : (rest : Bool) → (is_entered m.state.gate n && rest) ≡ true → ⊥
    off rest r = true≢false (sym (and_parts (is_entered m.state.gate n) rest r).0 ∙ out)

    go : (act : Act) → may s m n act ≡ true → is_free_with free act ≡ true
    go (acts.Place start granules layers.Vs) r = absurd (off _ (and_parts _ _ r).0)
    go (acts.Place start granules layers.Lfh) r = absurd (off _ (and_parts _ _ r).0)
    go (acts.Place start granules layers.Back) r = absurd (off _ (and_parts _ _ r).0)
    go (acts.Place start granules layers.Large) r = absurd (off _ (and_parts _ _ r).0)
    go (acts.Give a size) r = absurd (off _ r)
    go (acts.Take a size) r = absurd (off _ r)
    go (acts.Drop a) r = absurd (off _ r)
    go (acts.Resize a granules size) r = absurd (off _ r)
    go _ r = e

-- no search begins with a prepared entry
pub marks_prepared : (m : Configuration) (n : ℕ) (k : SearchMarks) (act : Act) → leaves_words m n act ≡ true → search_mark k act ≡ record { made = searches_with k.made k.begun act; begun = is_unless_begun k.begun act }
marks_prepared m n k (acts.Saw head word bits) h = absurd (false≢true h)
marks_prepared m n k (acts.NoHint bucket slot) h = absurd (false≢true h)
marks_prepared m n k (acts.Begin call) h = refl
marks_prepared m n k _ h = refl

prepared-append : (s : Setting) (m : Configuration) (n : ℕ) (es : List Entry) (act : Act) → are_prepared s m n es ≡ true → may_prepare s (configuration_after s m es) n act ≡ true → are_prepared s m n (es ++ entry n act ∷ []) ≡ true
prepared-append s m n [] act y k = and_from ((n == n) && may_prepare s m n act) true (and_from (n == n) (may_prepare s m n act) (eq-eqb n n refl) k) refl
prepared-append s m n (e ∷ es) act y k =
    let p = and_parts ((e.caller == n) && may_prepare s m n e.act) (are_prepared s (after s m e) n es) y in
    and_from ((e.caller == n) && may_prepare s m n e.act) (are_prepared s (after s m e) n (es ++ entry n act ∷ [])) p.0 (prepared-append s (after s m e) n es act p.1 k)

quiet_of : (s : Setting) (m : Configuration) (n : ℕ) (act : Act) → may_prepare s m n act ≡ true → leaves_words m n act ≡ true
quiet_of s m n act e = (and_parts (Rattle.heap_model.specs.Agreement.is_stable m n act) (leaves_words m n act) (and_parts (Rattle.heap_model.specs.Agreement.is_stable m n act && leaves_words m n act) (may_follow s m (entry n act)) e).0).1

is_begun_so : (p f : Bool) (call : Option Call) (act : Act) → (p ≡ true → (f ≡ true) × (is_some call ≡ true)) → is_begun_with p act ≡ true → (is_begun_with f act ≡ true) × (is_some (call_with call act) ≡ true)
is_begun_so p f call (acts.Begin x) h e = (refl, refl)
is_begun_so p f call _ h e = h e

module _ {T : Type 0} (z : TableId) (me : Me (Option T) View) (f : Face) (slot : ℕ) (stream : Stream) (h : IsCaller me (tok z me f) slot stream) where
  abbrev pub more : Act → Face
  more act = record {
    number = f.number;
    prepared = f.prepared ++ entry f.number act ∷ [];
    pending = is_begun_with f.pending act;
    call = call_with f.call act;
    fresh = is_begun_with f.fresh act;
    locked = is_unless_begun f.locked act;
    inside = f.inside;
    depth = f.depth;
    whole = is_whole_with act;
    free = is_free_with f.free act;
    drawn = is_unless_begun f.drawn act;
  }

  abbrev marks : SearchMarks
  marks = search_marks (own f.number me.0.seen ++ f.prepared)

  abbrev some : Setting
  some = setting_of me.0.opening me.0.roll

  one : IsSettingOf me.0.opening me.0.roll some
  one = some_setting me.0.opening me.0.roll

  module _ (act : Act) (may : (s : Setting) → IsSettingOf me.0.opening me.0.roll s → may_prepare s (ready_after s me.0 f.prepared) f.number act ≡ true) where
    abbrev here : Configuration
    here = ready_after some me.0 f.prepared

    quiet : leaves_words here f.number act ≡ true
    quiet = quiet_of some here f.number act (may some one)

    marked : search_marks (own f.number me.0.seen ++ (f.prepared ++ entry f.number act ∷ [])) ≡ record { made = searches_with marks.made marks.begun act; begun = is_unless_begun marks.begun act }
    marked = ap search_marks (sym (append_assoc (own f.number me.0.seen) f.prepared (entry f.number act ∷ [])))
        ∙ (marks-append no_marks (own f.number me.0.seen ++ f.prepared) (entry f.number act ∷ []) ∙ marks_prepared here f.number marks act quiet)

    -- the caller as it is seen then
    pub prepared_is : tok z me (more act) ≡ with_prepared (tok z me f) act
    prepared_is = ap (λ (k : SearchMarks). record (tok z me (more act)) { searches = k.made; searched = k.begun }) marked

    -- outside, with no lock held, nothing but a Begin was prepared
    begins : f.inside ≡ false → outs me.1 ≡ [] → (call : Call) × (act ≡ acts.Begin call)
    begins i o =
        let at = h.at some one in
        only_begin some here f.number act (none_of here f.number f.call f.depth (outs me.1) f.fresh f.inside f.whole f.free o at) (at.hands (h.even.rests i)) (may some one)

    even : IsEven (with_prepared (tok z me f) act)
    even = record {
      rests = λ i. no_hand some here f.number act f.free (may some one) ((h.at some one).entered ∙ i) (h.even.rests i);
      drawn = λ i. ap (λ (b : Bool). is_unless_begun b act) (h.even.drawn i);
      whole = λ i o. let b = begins i o in ap is_whole_with b.1;
      alone = λ i o p. let b = begins i o in absurd (true≢false (sym (ap (is_begun_with f.pending) b.1) ∙ p));
      begun = is_begun_so f.pending f.fresh f.call act h.even.begun;
    }

    -- only a caller outside begins
    out_of_begin : (call : Call) → act ≡ acts.Begin call → f.inside ≡ false
    out_of_begin call e =
        let r = row_of some here (entry f.number (acts.Begin call)) (and_parts true (may_follow some here (entry f.number (acts.Begin call))) (subst (λ (a : Act). may_prepare some here f.number a ≡ true) e (may some one))).1 in
        let a = (and_parts _ _ (and_parts _ _ r).0).0 in
        let o = (and_parts _ _ a).1 in
        sym (h.at some one).entered ∙ not-true (is_entered here.state.gate f.number) (and_parts _ _ o).0

    drawn_then : (s : Setting) → IsSettingOf me.0.opening me.0.roll s → IsBeforeDraw s f.number (searches_with marks.made marks.begun act + count (is_unless_begun f.drawn act)) stream
    drawn_then s q = go act refl
      where
        add_nought : (x : ℕ) → x + 0 ≡ x
        add_nought x = omega arith

        go : (a : Act) → act ≡ a → IsBeforeDraw s f.number (searches_with marks.made marks.begun a + count (is_unless_begun f.drawn a)) stream
        go (acts.Begin call) e =
            let same : marks.begun ≡ f.drawn = h.even.drawn (out_of_begin call e) in
            subst (λ (k : ℕ). IsBeforeDraw s f.number k stream) (ap (λ (b : Bool). marks.made + count b) (sym same) ∙ sym (add_nought (marks.made + count marks.begun))) (h.draws s q)
        go _ e = h.draws s q

    pub prepared_more : length f.prepared < 16 → IsCaller me (tok z me (more act)) slot stream
    prepared_more room =
        let e : (s : Setting) → configuration_after s (configuration_of s me.0.seen) (f.prepared ++ entry f.number act ∷ []) ≡ after s (ready_after s me.0 f.prepared) (entry f.number act) =
        λ s. after-append s (configuration_of s me.0.seen) f.prepared (entry f.number act ∷ []) in
        record {
          role = h.role;
          prepared = λ s q. prepared-append s (configuration_of s me.0.seen) f.number f.prepared act (h.prepared s q) (may s q);
          legal = h.legal;
          slots = h.slots;
          at = λ s q. subst (λ (m : Configuration). IsAt m f.number (call_with f.call act) (is_begun_with f.fresh act) f.inside f.depth (outs me.1) (is_whole_with act) (is_free_with f.free act)) (sym (e s))
              (at_prepared s (ready_after s me.0 f.prepared) f.number f.call f.fresh f.inside f.depth (outs me.1) f.whole f.free (h.at s q) act (quiet_of s (ready_after s me.0 f.prepared) f.number act (may s q)));
          even = subst IsEven (sym prepared_is) even;
          known = h.known;
          few = h.few;
          small = h.small;
          few_prepared = let a = length-append f.prepared (entry f.number act ∷ []) in omega arith;
          slot_is = h.slot_is;
          slot_few = h.slot_few;
          draws = λ s q. subst (λ (k : SearchMarks). IsBeforeDraw s f.number (k.made + count (is_unless_begun f.drawn act)) stream) (sym marked) (drawn_then s q);
        }

  pub begin_may : (call : Call) → f.inside ≡ false → outs me.1 ≡ [] → (s : Setting) → IsSettingOf me.0.opening me.0.roll s → may_prepare s (ready_after s me.0 f.prepared) f.number (acts.Begin call) ≡ true
  begin_may call i o s q =
      let lt : f.number < s.limits.callers = subst (λ (x : Limits). f.number < x.callers) (sym q.limits) h.few in
      begin_ok s (ready_after s me.0 f.prepared) f.number f.call f.fresh f.inside f.depth (outs me.1) f.whole f.free (h.at s q) call lt i o (h.even.rests i) (h.even.whole i o)

  pub room_to_begin : f.inside ≡ false → outs me.1 ≡ [] → f.pending ≡ false → length f.prepared < 16
  room_to_begin i o p = let e : length f.prepared ≡ 0 = ap length (h.even.alone i o p) in omega arith

  abbrev pub rested_face : Face
  rested_face = record f { whole = true; free = true }

  pub rests_so : ((s : Setting) → IsSettingOf me.0.opening me.0.roll s → HasRested (ready_after s me.0 f.prepared) f.number) → IsCaller me (tok z me rested_face) slot stream
  rests_so r = record {
    role = h.role;
    prepared = h.prepared;
    legal = h.legal;
    slots = h.slots;
    at = λ s q. at_rested (ready_after s me.0 f.prepared) f.number f.call f.fresh f.inside f.depth (outs me.1) f.whole f.free (r s q) (h.at s q);
    even = record { rests = λ _. refl; drawn = h.even.drawn; whole = λ _ _. refl; alone = h.even.alone; begun = h.even.begun };
    known = h.known;
    few = h.few;
    small = h.small;
    few_prepared = h.few_prepared;
    slot_is = h.slot_is;
    slot_few = h.slot_few;
    draws = h.draws;
  }
