-- What the whole move adds, and where its caller stands then.
use Rattle.std.proofs.Common.{◌≡◌, ◌⊎◌, ℕ, ◌+◌, ◌-◌, ◌/◌, ◌≤◌, Bool, true, false, List, [], ◌∷◌, ◌++◌, length, refl, sym, ap, ◌∙◌, subst, arith, append_assoc, inl, inr}
use Rattle.std.specs.Prelude.{min}
use Rattle.std.specs.List.{list_all}
use Rattle.std.proofs.lemmas.Bool.{and_from, and_parts}
use Rattle.heap_model.specs.declared.Act.{Act}
use Rattle.heap_model.specs.declared.Act.TheVariants as acts
use Rattle.heap_model.specs.declared.Flags.{Flags}
use Rattle.heap_model.specs.State.{Setting, State, Place}
use Rattle.heap_model.specs.Stay.{lets_stay}
use Rattle.heap_model.specs.CallState.{Configuration}
use Rattle.heap_model.specs.Geometry.{words_of}
use Rattle.heap_model.specs.History.{configuration_of, configuration_after}
use Rattle.heap_model.specs.Moments.{Before, moments}
use Rattle.heap_model.specs.declared.Entry.{Entry}
use Rattle.heap_model.specs.Shape.{Finds, shape_of, begins_move, copying, zeroing_more, moving}
use Rattle.backend_fit.specs.Kept.{Kept}
use Rattle.vs_layer.specs.Kept.{VsKept}
use Rattle.heap_gate.specs.Token.{Token, now}
use Rattle.call_parts.specs.Calls.{GoesOn}
use Rattle.call_parts.proofs.Joining.{goes_then, setting_before}
use Rattle.call_parts.proofs.Serving.{none_begins, none_begins-append, shape-append}
use Rattle.call_parts.proofs.Tokens.{added_then}
use Rattle.move_front.specs.Front.{is_quiet}
use Rattle.move_front.proofs.Quiet.{still_moves}
use Rattle.move_parts.specs.Moves.{IsHeld, IsMoving, HasFilled}
use Rattle.move_parts.specs.Moved.{HasMoved}
use Rattle.move_parts.specs.Places.{HasChanged, IsWithout}
use Rattle.stay_calls.specs.Moments.{OfMoments}
use Rattle.stay_calls.proofs.Ending.{zeros_shown, zeros_no_begin}
use Rattle.stay_calls.proofs.Histories.{joined}
use Rattle.move_to_front.specs.Moved.{HasMovedOver, FitsNowhere, TellsLow}
use Rattle.move_to_front.specs.Ends.{HasFilledAndChanged}
use Rattle.move_to_front.specs.Halfway.{HasNewFront, IsMovingOn, IsBehindFront, HasHeldSettled}
use Rattle.move_to_front.specs.Late.{MovesLate}
use Rattle.move_to_front.proofs.Through.{through, before_longer}

---- Shapes

copying_shown : (from to : ℕ) (values : List ℕ) → (shape_of (copying from to values) ≡ copying from to values) × (none_begins (copying from to values) ≡ true)
copying_shown from to [] = (refl, refl)
copying_shown from to (v ∷ vs) = let h = copying_shown (from + 1) (to + 1) vs in (ap (λ (l : List Act). acts.Load from v ∷ acts.Store to v ∷ l) h.0, h.1)

pub moving_shown : (addr size b n : ℕ) (zero_it : Bool) (values : List ℕ) → (shape_of (moving addr size b n zero_it values) ≡ moving addr size b n zero_it values) × (none_begins (moving addr size b n zero_it values) ≡ true)
moving_shown addr size b n zero_it values =
    let xs = copying (addr / 8) (b / 8) values in let ys = zeroing_more zero_it b size n in
    let h = copying_shown (addr / 8) (b / 8) values in
    let k = zeros_shown zero_it (b / 8 + words_of size) (words_of n - words_of size) in let l = zeros_no_begin zero_it (b / 8 + words_of size) (words_of n - words_of size) in
    (shape-append xs ys ∙ (λ i. h.0 i ++ k i), none_begins-append xs ys h.1 l)

last_shown : (last : List Act) → (last ≡ []) ⊎ ((first : ℕ) × (last ≡ acts.Unspan first ∷ [])) → (shape_of last ≡ []) × (none_begins last ≡ true)
last_shown last (inl e) = (ap shape_of e, ap none_begins e)
last_shown last (inr e) = (ap shape_of e.1, ap none_begins e.1)

-- the words, and the end
tail_shown : (addr size b n : ℕ) (zero_it : Bool) (values : List ℕ) (last : List Act) → (last ≡ []) ⊎ ((first : ℕ) × (last ≡ acts.Unspan first ∷ []))
    → (shape_of (moving addr size b n zero_it values ++ acts.Take addr size ∷ acts.Give b n ∷ acts.Drop addr ∷ last) ≡ moving addr size b n zero_it values ++ acts.Take addr size ∷ acts.Give b n ∷ acts.Drop addr ∷ [])
    × (none_begins (moving addr size b n zero_it values ++ acts.Take addr size ∷ acts.Give b n ∷ acts.Drop addr ∷ last) ≡ true)
tail_shown addr size b n zero_it values last is =
    let words = moving addr size b n zero_it values in
    let h = moving_shown addr size b n zero_it values in let l = last_shown last is in
    let end : List Act = acts.Take addr size ∷ acts.Give b n ∷ acts.Drop addr ∷ last in
    (shape-append words end ∙ (λ i. h.0 i ++ acts.Take addr size ∷ acts.Give b n ∷ acts.Drop addr ∷ l.0 i), none_begins-append words end h.1 l.1)

-- what was told of the moments up to a token is told of more
told_longer : (a e d : Token) (xs ys : List Act) (g : GoesOn a e xs) (k : GoesOn e d ys) (P : Setting → State → Type 0) → OfMoments (λ s c ms. Before begins_move (P s) ms) a e g.seen.0 → OfMoments (λ s c ms. Before begins_move (P s) ms) a d (goes_then a e d xs ys g k).seen.0
told_longer a e d xs ys g k P h s q =
    let all = goes_then a e d xs ys g k in
    subst (λ (l : List Entry). Before begins_move (P s) (moments s a.number (configuration_of s a.seen) l)) (sym (joined a.seen e.seen d.seen all.seen g.seen k.seen))
    (before_longer begins_move (P s) s a.number (configuration_of s a.seen) g.seen.0 k.seen.0 (h s (setting_before e d ys k s q)))

---- To the front end

module _ (a e d : Token) (addr size n : ℕ) (flags : Flags) (p : Place) (out : List ℕ) (more : VsKept) (kept : Kept) (b : ℕ) (y : HasNewFront a e addr size n flags p out more kept b) (z : HasFilledAndChanged e d addr size b n flags.zero) where
  tail : List Act
  tail = moving addr size b n flags.zero z.values ++ acts.Take addr size ∷ acts.Give b n ∷ acts.Drop addr ∷ z.last

  pub over_front : HasMovedOver a d addr size n flags p b
  over_front =
      let t = tail_shown addr size b n flags.zero z.values z.last z.last_is in
      let u = z.added.steady in
      record {
        place = y.place;
        at = y.half.at;
        values = z.values;
        count = z.count;
        added = y.made.added ++ (moving addr size b n flags.zero z.values ++ acts.Take addr size ∷ acts.Give b n ∷ acts.Drop addr ∷ z.last);
        goes = goes_then a e d y.made.added (moving addr size b n flags.zero z.values ++ acts.Take addr size ∷ acts.Give b n ∷ acts.Drop addr ∷ z.last) y.made.goes z.added.goes;
        no_begin = none_begins-append y.made.added (moving addr size b n flags.zero z.values ++ acts.Take addr size ∷ acts.Give b n ∷ acts.Drop addr ∷ z.last) y.made.no_begin t.1;
        shape_is = shape-append y.made.added (moving addr size b n flags.zero z.values ++ acts.Take addr size ∷ acts.Give b n ∷ acts.Drop addr ∷ z.last) ∙ (λ i. y.made.shape_is i ++ t.0 i);
        leaves = told_longer a e d y.made.added (moving addr size b n flags.zero z.values ++ acts.Take addr size ∷ acts.Give b n ∷ acts.Drop addr ∷ z.last) y.made.goes z.added.goes (λ s st. Finds s a.number addr n p false st) y.made.leaves;
        settled = record {
          call = u.call ∙ y.made.call;
          fresh = u.fresh ∙ y.made.fresh;
          inside = u.inside ∙ y.made.inside;
          out = z.out_is ∙ y.made.out;
          owes = u.owes ∙ y.half.owes;
          drawn = u.searched ∙ (y.half.drawn ∙ sym u.drawn);
          whole = z.whole;
          free = z.free;
          pending = z.pending;
          few = z.few;
        };
      }

---- To VS

-- A new place was held, its words were filled, and the old block went.
pub moves_late : (c t u d : Token) (addr size n : ℕ) (flags : Flags) (p : Place) (out : List ℕ) (b : ℕ) (more : VsKept) (kept : Kept) (values : List ℕ) → IsMovingOn c addr size n flags p out → (x : HasHeldSettled c t addr size n flags p out b more kept)
    → length values ≡ words_of (min size n) → HasFilled t u (moving addr size b n flags.zero values) → HasChanged u d addr size b n → (later : VsKept) (last : Kept) → TellsLow d later last → MovesLate c d addr size n flags p b later last
moves_late c t u d addr size n flags p out b more kept values v x count f e later last tells =
    let few = x.half.few in let fill = f.few in let end = e.few in
    record {
      moved = record {
        place = x.place;
        at = x.half.new.at;
        between = t;
        made = x.made;
        values = values;
        count = count;
        last = e.last;
        last_is = e.last_is;
        rest = added_then t u d (moving addr size b n flags.zero values) (acts.Take addr size ∷ acts.Give b n ∷ acts.Drop addr ∷ e.last) f.added e.added;
        out_is = e.out_is ∙ (f.out_is ∙ (x.half.out_is ∙ sym v.out_is));
        whole = e.whole;
        free = e.free;
        pending = e.pending ∙ f.pending x.half.pending;
        few = omega (arith, few, fill, end);
      };
      prepared = x.prepared;
      legal = x.legal;
      tells = tells;
    }

all_two : (xs ys : List Act) → list_all is_quiet xs ≡ true → list_all is_quiet ys ≡ true → list_all is_quiet (xs ++ ys) ≡ true
all_two [] ys h k = k
all_two (x ∷ xs) ys h k = let q = and_parts (is_quiet x) (list_all is_quiet xs) h in and_from (is_quiet x) (list_all is_quiet (xs ++ ys)) q.0 (all_two xs ys q.1 k)

module _ (a e : Token) (addr size n : ℕ) (flags : Flags) (p : Place) (out : List ℕ) (v : IsMoving a addr size n flags p out) (few : n ≤ 16368) (more : VsKept) (back kept : Kept) (bucket : ℕ) (x : IsBehindFront a e addr size n flags p out more back kept bucket) where
  same_call : e.call ≡ a.call
  same_call = x.on.call_is ∙ sym v.serving.call_is

  same_fresh : e.fresh ≡ a.fresh
  same_fresh = x.on.fresh ∙ sym v.serving.fresh

  same_inside : e.inside ≡ a.inside
  same_inside = x.on.inside ∙ sym v.serving.inside

  same_out : e.out ≡ a.out
  same_out = x.on.out_is ∙ sym v.serving.out_is

  -- no range was there
  pub fits_nowhere : (d : Token) (last : Kept) → IsWithout e d n → last ≡ kept → FitsNowhere a d addr size n p back last
  fits_nowhere d last w same = subst (λ (k : Kept). FitsNowhere a d addr size n p back k) (sym same) (subst (λ (t : Token). FitsNowhere a t addr size n p back kept) (sym w.same) (record {
    its = x.its;
    are = x.are;
    goes = x.goes;
    settled = record {
      call = same_call;
      fresh = same_fresh;
      inside = same_inside;
      out = same_out;
      owes = x.on.owes;
      drawn = x.on.drawn;
      whole = x.on.whole;
      free = x.on.free;
      pending = x.on.pending;
      few = let k = ap length x.on.prepared in omega (arith, k);
    };
    held = x.on.old;
    leaves = x.on.leaves;
    may = w.may;
    same = x.same;
  }))

  module _ (d : Token) (b : ℕ) (later : VsKept) (last : Kept) (y : MovesLate e d addr size n flags p b later last) where
    m : HasMoved e d addr size n flags p b
    m = y.moved

    f : Token
    f = y.moved.between

    abbrev quiet : List Act
    quiet = x.its ++ y.moved.made.reserves

    abbrev made_list : List Act
    made_list = y.moved.made.reserves ++ y.moved.made.begins ∷ y.moved.made.more

    quiet_reserves : list_all is_quiet y.moved.made.reserves ≡ true
    quiet_reserves = elim y.moved.made.reserves_are [ inl z ↦ ap (list_all is_quiet) z | inr z ↦ ap (list_all is_quiet) z.1 ]

    goes_f : GoesOn a y.moved.between ((x.its ++ y.moved.made.reserves) ++ y.moved.made.begins ∷ y.moved.made.more)
    goes_f = subst (GoesOn a y.moved.between) (sym (append_assoc x.its y.moved.made.reserves (y.moved.made.begins ∷ y.moved.made.more))) (goes_then a e y.moved.between x.its made_list x.goes y.moved.made.added.goes)

    now_a : (s : Setting) → now s a ≡ configuration_of s a.seen
    now_a s = ap (configuration_after s (configuration_of s a.seen)) v.serving.prepared

    leaves_f : OfMoments (λ s c xs. Before begins_move (Finds s a.number addr n p false) xs) a y.moved.between goes_f.seen.0
    leaves_f = through a y.moved.between quiet y.moved.made.begins y.moved.made.more goes_f v.serving.prepared y.prepared y.legal (all_two x.its y.moved.made.reserves x.are.quiet quiet_reserves) y.moved.made.begins_it (λ s st. Finds s a.number addr n p false st) (λ s z k bs h.
        let at = setting_before a y.moved.between (quiet ++ y.moved.made.begins ∷ y.moved.made.more) goes_f s z in
        let old : IsHeld (configuration_of s a.seen) a.number addr p size = subst (λ (j : Configuration). IsHeld j a.number addr p size) (now_a s) (v.old s at) in
        let leaves : lets_stay s.limits (configuration_of s a.seen).state p n ≡ false = subst (λ (j : Configuration). lets_stay s.limits j.state p n ≡ false) (now_a s) (v.leaves s at) in
        still_moves s (configuration_of s a.seen) k a.number addr n p bs h old.first old.touch few leaves)

    abbrev end : List Act
    end = moving addr size b n flags.zero y.moved.values ++ acts.Take addr size ∷ acts.Give b n ∷ acts.Drop addr ∷ y.moved.last

    begins_shown : (shape_of ((x.its ++ y.moved.made.reserves) ++ y.moved.made.begins ∷ y.moved.made.more) ≡ acts.Place y.moved.place.start y.moved.place.granules y.moved.place.layer ∷ []) × (none_begins ((x.its ++ y.moved.made.reserves) ++ y.moved.made.begins ∷ y.moved.made.more) ≡ true)
    begins_shown = (
      ap shape_of (append_assoc x.its y.moved.made.reserves (y.moved.made.begins ∷ y.moved.made.more)) ∙ (shape-append x.its made_list ∙ (λ i. x.are.shape_is i ++ y.moved.made.shape_is i)),
      ap none_begins (append_assoc x.its y.moved.made.reserves (y.moved.made.begins ∷ y.moved.made.more)) ∙ none_begins-append x.its made_list x.are.no_begin y.moved.made.no_begin,
    )

    pub over_late : HasMovedOver a d addr size n flags p b
    over_late =
        let t = tail_shown addr size b n flags.zero y.moved.values y.moved.last y.moved.last_is in
        let u = y.moved.rest.steady in let w = y.moved.made.added.steady in
        let first : List Act = quiet ++ y.moved.made.begins ∷ y.moved.made.more in
        record {
          place = y.moved.place;
          at = y.moved.at;
          values = y.moved.values;
          count = y.moved.count;
          added = first ++ end;
          goes = goes_then a y.moved.between d first end goes_f y.moved.rest.goes;
          no_begin = none_begins-append first end begins_shown.1 t.1;
          shape_is = shape-append first end ∙ (λ i. begins_shown.0 i ++ t.0 i);
          leaves = told_longer a y.moved.between d first end goes_f y.moved.rest.goes (λ s st. Finds s a.number addr n p false st) leaves_f;
          settled = record {
            call = u.call ∙ (w.call ∙ same_call);
            fresh = u.fresh ∙ (w.fresh ∙ same_fresh);
            inside = u.inside ∙ (w.inside ∙ same_inside);
            out = y.moved.out_is ∙ same_out;
            owes = u.owes ∙ (w.owes ∙ x.on.owes);
            drawn = u.searched ∙ (w.searched ∙ (x.on.drawn ∙ (sym w.drawn ∙ sym u.drawn)));
            whole = y.moved.whole;
            free = y.moved.free;
            pending = y.moved.pending;
            few = y.moved.few;
          };
        }

-- where nothing has changed the states tell what they told
pub tells_same : (e d : Token) (more later : VsKept) (kept last : Kept) → TellsLow e more kept → d ≡ e → later ≡ more → last ≡ kept → TellsLow d later last
tells_same e d more later kept last x a b c = subst (λ (t : Token). TellsLow t later last) (sym a) (subst (λ (v : VsKept). TellsLow e v last) (sym b) (subst (λ (k : Kept). TellsLow e more k) (sym c) x))
