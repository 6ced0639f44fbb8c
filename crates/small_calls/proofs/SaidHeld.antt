-- A search that is made again behind NoSpan, under both locks, in whichever order they were taken.
use Rattle.std.proofs.Common.{◌≡◌, ℕ, Bool, true, List, [], ◌∷◌, ◌++◌, length, refl, sym, ap, ◌∙◌, subst, inl, inr, arith}
use Rattle.std.specs.Prelude.{is_some}
use Rattle.heap_model.specs.declared.Act.{Act}
use Rattle.heap_model.specs.declared.Act.TheVariants as acts
use Rattle.heap_model.specs.declared.Call.TheVariants as calls
use Rattle.heap_model.specs.declared.Flags.{Flags}
use Rattle.heap_model.specs.declared.What.TheVariants as whats
use Rattle.heap_model.specs.Shape.{shape_of, zeroing}
use Rattle.heap_model.specs.State.{Setting, Place, hands, holds}
use Rattle.claim_rule.specs.Entries.{IsSettingOf, entry}
use Rattle.claim_rule.specs.Places.{back_slot}
use Rattle.step_parts.specs.InHand.{HasBlock}
use Rattle.backend_fit.specs.Kept.{Kept}
use Rattle.vs_layer.specs.Kept.{VsKept}
use Rattle.heap_gate.specs.Token.{Token, Always, now, is_out, IsStanding}
use Rattle.heap_gate.specs.Calls.{Does}
use Rattle.lfh_claims.specs.Moves.{block_place}
use Rattle.lfh_claims.specs.Search.{own_slot}
use Rattle.lfh_search.specs.declared.course.Course.{Course}
use Rattle.lfh_search.specs.Acts.{AreReadings}
use Rattle.lfh_search.specs.Results.{place}
use Rattle.lfh_search.specs.Under.{HasServed, HasGone, IsNotServed}
use Rattle.call_parts.specs.Calls.{GoesOn}
use Rattle.call_parts.specs.Entries.{HasEnded}
use Rattle.call_parts.proofs.Joining.{goes_none, goes_does, goes_then, setting_before}
use Rattle.call_parts.proofs.Serving.{none_begins, none_begins-append, shape-append}
use Rattle.paged_calls.specs.Parts.{Places}
use Rattle.small_calls.specs.Fronts.{HasOne}
use Rattle.small_calls.specs.Ways.{KeepsVs}
use Rattle.small_calls.specs.GoingOn.{IsWithoutRoom, HasSearched, IsForVsBehind}
use Rattle.small_calls.proofs.Found.{same_by}
use Rattle.small_calls.proofs.Guarded.{read_left}
use Rattle.small_calls.proofs.Shown.{readings_shown, zeros_begun, front_places}
use Rattle.small_calls.proofs.BackHeld.{vs_kept}
use Rattle.small_calls.proofs.BackSearch.{came_shown}
use Rattle.small_calls.proofs.MadeLeft.{served_left}

---- Where the caller stands with NoSpan prepared

module _ (a c : Token) (back : Kept) (course : Course) (before_it lost n : ℕ) (zero_it : Bool) (more : List ℕ) (w : IsWithoutRoom a c back course before_it lost n zero_it more) where
  pub said_at : HasSearched c (calls.Alloc n w.on.flags) (back_slot ∷ more)
  said_at =
      let p = w.none.prepared in let s = w.none.stands in
      let one : length c.prepared ≡ 1 = ap (λ (t : Token). length t.prepared) p ∙ ap (λ (l : List Rattle.heap_model.specs.declared.Entry.Entry). length (l ++ entry w.none.behind.number (acts.NoSpan course.bucket) ∷ [])) s.prepared in
      record {
        call_is = ap (λ (t : Token). t.call) p ∙ (s.call ∙ w.on.call_is);
        fresh = ap (λ (t : Token). t.fresh) p ∙ (s.fresh ∙ w.on.fresh);
        inside = ap (λ (t : Token). t.inside) p ∙ (s.inside ∙ w.on.inside);
        out_is = ap (λ (t : Token). t.out) p ∙ (s.out ∙ w.on.out_is);
        whole = ap (λ (t : Token). t.whole) p;
        free = ap (λ (t : Token). t.free) p ∙ (s.free ∙ w.on.free);
        pending = ap (λ (t : Token). t.pending) p ∙ s.pending;
        searched = ap (λ (t : Token). t.searched) p ∙ (s.searched ∙ w.on.under.searched);
        drawn = ap (λ (t : Token). t.drawn) p ∙ (s.drawn ∙ w.on.drawn);
        owes = ap (λ (t : Token). t.owes) p ∙ (s.owes ∙ w.on.under.paid);
        few = omega (arith, one);
      }

---- The search

module _ (e : Token) (vs : VsKept) (back : Kept) (course : Course) (n : ℕ) (flags : Flags) (zero_it : Bool) (zero_is : flags.zero ≡ zero_it) (out : List ℕ) (z : HasSearched e (calls.Alloc n flags) out) (st : IsStanding e) (k : KeepsVs e vs)
    (held : is_out whats.Vs e.out ≡ true) where
  held_e : Always e (λ s. holds (now s e).state.gate e.number whats.Vs ≡ true)
  held_e s q = (st s q).locks whats.Vs ∙ held

  -- a block is found
  module _ (d : Token) (later : Kept) (addr : ℕ) (x : HasServed e d back later course addr) where
    abbrev first : List Act
    first = x.its ++ (x.made ++ place course.bucket x.head x.index ∷ [])

    goes_d : GoesOn e d (x.its ++ (x.made ++ place course.bucket x.head x.index ∷ []))
    goes_d = goes_does e d first (subst (Does e d) (same_by e.number first) x.does) x.stands.depth

    before_d : (s : Setting) → IsSettingOf d.opening d.roll s → IsSettingOf e.opening e.roll s
    before_d s q = setting_before e d first goes_d s q

    pub one_d : HasOne d course.bucket addr
    one_d = record {
      inside = x.stands.inside ∙ z.inside;
      whole = x.stands.whole;
      begun = ap is_some (x.stands.call ∙ z.call_is);
      prepared = x.stands.prepared;
      block = λ s q. subst (λ (y : ℕ). HasBlock (now s d) y course.bucket addr) (sym x.does.number) (x.block s q);
      alone = λ s q.
          let none : hands (now s e).state e.number ≡ [] = (st s (before_d s q)).hands z.free in (
            block_place course.bucket x.head x.index e.number,
            subst (λ (y : ℕ). hands (now s d).state y ≡ block_place course.bucket x.head x.index e.number ∷ []) (sym x.does.number) (x.hands s q ∙ ap (λ (ps : List Place). block_place course.bucket x.head x.index e.number ∷ ps) none),
          );
    }

    pub out_d : d.out ≡ out
    out_d = x.stands.out ∙ z.out_is

    pub paid_d : d.owes ≡ []
    paid_d = x.stands.owes ∙ z.owes

    pub keeps_d : KeepsVs d vs
    keeps_d = vs_kept e d vs goes_d.opening before_d
        (λ s q. served_left s e.number back later course.bucket (own_slot e) course.draw.value x.head x.index x.its x.made (now s e) (now s d) x.are x.came (x.agrees s q) (held_e s (before_d s q))) k

    -- .. and given, and then locks
    pub placed_with : (f : Token) (gives : List Act) → shape_of gives ≡ [] → none_begins gives ≡ true → HasEnded d f (zeroing zero_it addr n ++ acts.Give addr n ∷ gives) [] → Places e f addr
    placed_with f gives quiet none y =
        let last = zeroing zero_it addr n ++ acts.Give addr n ∷ gives in
        let ps : List Act = place course.bucket x.head x.index ∷ [] in
        let r = readings_shown x.its x.are in
        let m = came_shown back later course.bucket (own_slot e) course.draw.value x.head x.index x.made x.came in
        let one : shape_of first ≡ place course.bucket x.head x.index ∷ [] = shape-append x.its (x.made ++ ps) ∙ (λ i. r.0 i ++ (shape-append x.made ps ∙ (λ j. m.0 j ++ ps)) i) in
        let two : none_begins first ≡ true = none_begins-append x.its (x.made ++ ps) r.1 (none_begins-append x.made ps m.1 refl) in
        let g = zeros_begun addr n zero_it (acts.Give addr n ∷ gives) none in
        let three : shape_of last ≡ zeroing zero_it addr n ++ acts.Give addr n ∷ [] = g.0 ∙ ap (λ (l : List Act). zeroing zero_it addr n ++ acts.Give addr n ∷ l) quiet in
        let v = y.added.steady in
        front_places e f flags n course.bucket x.head x.index addr zero_it zero_is x.address z.call_is
        (record {
          added = first ++ last;
          goes = goes_then e d f first last goes_d y.added.goes;
          no_begin = none_begins-append first last two g.1;
          shape_is = shape-append first last ∙ ((λ i. one i ++ three i) ∙ (λ i. place course.bucket x.head x.index ∷ (zeroing zero_it (x.address i) n ++ acts.Give (x.address i) n ∷ [])));
        })
        (record {
          call_is = v.call ∙ (x.stands.call ∙ z.call_is);
          fresh = v.fresh ∙ (x.stands.fresh ∙ z.fresh);
          inside = v.inside ∙ (x.stands.inside ∙ z.inside);
          out_is = y.out_is;
          whole = y.whole;
          free = y.free;
          pending = y.pending;
          prepared = y.prepared;
          drawn = (v.searched ∙ (x.stands.searched ∙ z.searched)) ∙ sym (v.drawn ∙ (x.stands.drawn ∙ z.drawn));
          owes = v.owes ∙ paid_d;
        })

  -- .. or none
  gone_with : (d : Token) (its : List Act) → AreReadings its → HasGone e d its → GoesOn e d its × (HasSearched d (calls.Alloc n flags) out × KeepsVs d vs)
  gone_with d its are (inl p) = subst (λ (y : List Act × Token). GoesOn e y.1 y.0 × (HasSearched y.1 (calls.Alloc n flags) out × KeepsVs y.1 vs)) (λ i. (sym p.0 i, sym p.1 i)) (goes_none e, (z, k))
  gone_with d its are (inr p) =
      let goes : GoesOn e d its = goes_does e d its (subst (Does e d) (same_by e.number its) p.0.does) p.1.depth in
      let before : (s : Setting) → IsSettingOf d.opening d.roll s → IsSettingOf e.opening e.roll s = λ s q. setting_before e d its goes s q in
      let s = p.1 in
      let none : length d.prepared ≡ 0 = ap length s.prepared in (
        goes,
        (
          record {
            call_is = s.call ∙ z.call_is;
            fresh = s.fresh ∙ z.fresh;
            inside = s.inside ∙ z.inside;
            out_is = s.out ∙ z.out_is;
            whole = s.whole;
            free = s.free ∙ z.free;
            pending = s.pending;
            searched = s.searched ∙ z.searched;
            drawn = s.drawn ∙ z.drawn;
            owes = s.owes ∙ z.owes;
            few = omega (arith, none);
          },
          vs_kept e d vs goes.opening before
              (λ s q. let y = (read_left s e.number its (now s e) (now s d) are (p.0.agrees s q)).guarded in let h = held_e s (before s q) in (y.vs h, y.spans h)) k,
        ),
      )

  pub for_vs : (d : Token) (later : Kept) → IsNotServed e d back later course → IsForVsBehind e d vs later course.bucket n zero_it [] out
  for_vs d later x =
      let y = gone_with d x.its x.are x.gone in
      record { flags = flags; zero_is = zero_is; its = x.its; are = x.are; goes = y.0; call = y.1.0.call_is ∙ sym z.call_is; stands = y.1.0; keeps = y.1.1; back_is = x.back_is; cannot = x.cannot }
