-- A reallocation whose block has to move to a size that the front end may serve, where what a pass finds is placed under Back.
use Rattle.std.proofs.Common.{◌≡◌, ℕ, Bool, true, false, List, [], ◌∷◌, ◌++◌, length, Option, Some, None, refl, sym, ap, ◌∙◌, subst}
use Rattle.std.specs.Prelude.{min}
use Rattle.std.proofs.lemmas.Bool.{false≢true, true≢false}
use Rattle.heap_model.specs.declared.Act.{Act}
use Rattle.heap_model.specs.declared.Act.TheVariants as acts
use Rattle.heap_model.specs.declared.Call.{Call}
use Rattle.heap_model.specs.declared.Call.TheVariants as calls
use Rattle.heap_model.specs.declared.Flags.{Flags}
use Rattle.heap_model.specs.declared.Layer.{Layer}
use Rattle.heap_model.specs.declared.Reply.{Reply}
use Rattle.heap_model.specs.declared.Reply.TheVariants as replies
use Rattle.heap_model.specs.Geometry.{words_of}
use Rattle.heap_model.specs.Buckets.{bucket_of, bucket_pages, block_address}
use Rattle.heap_model.specs.State.{Setting, address}
use Rattle.heap_model.specs.CallState.{Configuration, Nothing}
use Rattle.heap_model.specs.Search.{last_read, has_not_begun}
use Rattle.heap_model.specs.Alone.{configuration_by}
use Rattle.heap_model.specs.Shape.{shape_of, shown, moving}
use Rattle.search_laws.specs.Calls.{hint_put}
use Rattle.one_caller_laws.specs.OneCall.{AreAlike, IsSameReply}
use Rattle.one_caller_laws.specs.UnderBack.{place_under_back}
use Rattle.one_caller_laws.proofs.Core.{Core, core_of}
use Rattle.one_caller_laws.proofs.InCall.{InCall, IsWhole, is_shown}
use Rattle.one_caller_laws.proofs.Reach.{Goes}
use Rattle.one_caller_laws.proofs.Pair.{HintsAlike}
use Rattle.one_caller_laws.proofs.Asks.{same_reply, alike_at}
use Rattle.one_caller_laws.proofs.Ways.{Spot, Way, one_way}
use Rattle.one_caller_laws.proofs.Sites.{Site, Why, one_site}
use Rattle.one_caller_laws.proofs.Makes.{made, sited, Makes}
use Rattle.one_caller_laws.proofs.Expected.{Path, expected, base, lit, one_end, path_base}
use Rattle.one_caller_laws.proofs.Turns.{Seeking, HintIs}
use Rattle.one_caller_laws.proofs.Sought.{ShowsStop, is_end, ends_by}
use Rattle.one_caller_laws.proofs.FrontEnds.{Got, hints_at_all, put_same, claimed_core, owned_core, own_index}
use Rattle.one_caller_laws.proofs.Stops.{Outcome, Picks, Owns, Falls, Refuses}
use Rattle.one_caller_laws.proofs.SmallAllocs.{some_pages, no_picks, no_owns, no_falls}
use Rattle.one_caller_laws.proofs.Moves.{base_core, Placed, Carries, carries_front, carries_behind, both_carried}

module _ (s : Setting) (a n : ℕ) (flags : Flags) where
  abbrev call : Call
  call = calls.Realloc a n flags

  ---- What is shown

  -- behind the Take of a block of the front end, or from the start on
  abbrev pub MovesSo : Bool → ℕ → ℕ → ℕ → ℕ → Layer → List ℕ → List Act → Type 0
  MovesSo true size b start granules layer values t = t ≡ acts.Place start granules layer ∷ (moving a size b n flags.zero values ++ acts.Give b n ∷ acts.Drop a ∷ [])
  MovesSo false size b start granules layer values t =
      (first : List Act) × (more : List Act) × (moving a size b n flags.zero values ≡ first ++ more) × (t ≡ acts.Place start granules layer ∷ ((first ++ acts.Take a size ∷ more) ++ acts.Give b n ∷ acts.Drop a ∷ []))

  abbrev pub refused_so : Bool → ℕ → List Act
  refused_so true size = acts.NoFit n ∷ acts.Give a size ∷ []
  refused_so false size = acts.NoFit n ∷ []

  pub data Away (front : Bool) (size : ℕ) (reply : Reply) (t : List Act) : Type 0 where
    To : (b start granules : ℕ) (layer : Layer) (values : List ℕ) → reply ≡ replies.Address b → address (made start granules layer) ≡ b → length values ≡ words_of (min size n) → MovesSo front size b start granules layer values t → Away front size reply t
    Nowhere_else : reply ≡ replies.NoFit → t ≡ refused_so front size → Away front size reply t

  head_place : (front : Bool) (size b start granules : ℕ) (layer : Layer) (values : List ℕ) (t : List Act) → MovesSo front size b start granules layer values t → (u : List Act) × (t ≡ acts.Place start granules layer ∷ u)
  head_place true size b start granules layer values t e = (_, e)
  head_place false size b start granules layer values t (first, more, split, e) = (_, e)

  head_no_fit : (front : Bool) (size : ℕ) → (u : List Act) × (refused_so front size ≡ acts.NoFit n ∷ u)
  head_no_fit true size = (_, refl)
  head_no_fit false size = (_, refl)

  pub away_stops : (front : Bool) (size : ℕ) (reply : Reply) (t : List Act) → Away front size reply t → ShowsStop t
  away_stops front size reply t (To b start granules layer values e f c h) = let x = head_place front size b start granules layer values t h in record { act = acts.Place start granules layer; later = x.0; is = x.1 }
  away_stops front size reply t (Nowhere_else e h) = let x = head_no_fit front size in record { act = acts.NoFit n; later = x.0; is = h ∙ x.1 }

  -- so the first act behind a search ends it
  pub away_ends : (front : Bool) (size : ℕ) (reply : Reply) (act : Act) (later : List Act) → is_shown act ≡ true → Away front size reply (shape_of (act ∷ later)) → is_end act ≡ true
  away_ends front size reply act later shown (To b start granules layer values e f c h) = let x = head_place front size b start granules layer values _ h in ends_by act (acts.Place start granules layer) later x.0 shown x.1 refl
  away_ends front size reply act later shown (Nowhere_else e h) = let x = head_no_fit front size in ends_by act (acts.NoFit n) later x.0 shown (h ∙ x.1) refl

  carries_so : (front : Bool) (m : Configuration) (rest : List Act) (start granules : ℕ) (layer : Layer) (d : Core) (H : ℕ → ℕ → Option ℕ) (size b : ℕ) (values : List ℕ) → Placed s a n flags m rest start granules layer d H → d.placed ≡ true →
      length values ≡ words_of (min size n) → MovesSo front size b start granules layer values (shape_of rest) → Carries s a n flags m rest front size b d H
  carries_so true m rest start granules layer d H size b values x p count e = carries_front s a n flags m rest start granules layer d H size b values x p count e
  carries_so false m rest start granules layer d H size b values x p count (first, more, split, e) = carries_behind s a n flags m rest start granules layer d H size b values first more x p count split e

  ---- Where the search has come to

  module _ (b : ℕ) (bucket : bucket_of n ≡ Some b) (h : Option ℕ) where
    -- .. with a block of the front end taken on the way
    pub record Reached (front : Bool) (m : Configuration) (rest t : List Act) : Type 0 where
      pub at : Configuration
      pub act : Act
      pub later : List Act
      pub steps : ℕ
      pub path : Path s b h steps (base_core front a (core_of m)) (core_of at)
      pub hints : HintsAlike at m
      pub within : InCall s call at
      pub whole : IsWhole (core_of at)
      pub demand : at.now.demand ≡ Nothing
      pub seeking : Seeking s b h (core_of at)
      pub hint_is : HintIs s call n b refl bucket h at
      pub goes : Goes s at (act ∷ later)
      pub under : place_under_back s at (act ∷ later) ≡ true
      pub shape : shape_of (act ∷ later) ≡ t
      pub ends : configuration_by s m rest ≡ configuration_by s at (act ∷ later)
      pub stops : is_end act ≡ true

    abbrev Out : Configuration → List Act → Type 0
    Out m rest = Outcome s (calls.Realloc a n flags) n b refl bucket h m rest

    abbrev Served : Configuration → List Act → ℕ → ℕ → Layer → Core → (ℕ → ℕ → Option ℕ) → Type 0
    Served m rest start granules layer d H = Got s (calls.Realloc a n flags) m rest start granules layer d H

    served_by : (m : Configuration) (rest : List Act) → (x : Makes s (calls.Realloc a n flags) m rest n) → Served m rest x.site.start x.site.granules x.site.layer (sited (core_of m) x.site) (hints_at_all m)
    served_by m rest x = record {
      at = x.at;
      later = x.later;
      within = x.within;
      core = x.core;
      whole = x.whole;
      demand = x.demand;
      hints = x.hints;
      goes = x.goes;
      shape = x.shape;
      ends = x.ends;
    }

    module _ (front : Bool) (size : ℕ) (m : Configuration) (rest t : List Act) (l : Configuration) (others u : List Act) (reply other : Reply) (show : Away front size reply t) (show_too : Away front size other u) (x : Reached front m rest t) (y : Reached front l others u)
        (core : core_of m ≡ core_of l) (hints : HintsAlike m l) where
      abbrev Same : Type 0
      Same = IsSameReply reply other × AreAlike (configuration_by s m rest) (configuration_by s l others)

      hints_both : (p q : ℕ) → hints_at_all x.at p q ≡ hints_at_all y.at p q
      hints_both p q = x.hints p q ∙ hints p q ∙ sym (y.hints p q)

      both_served : (start granules start_too granules_too : ℕ) (layer layer_too : Layer) (d e : Core) (H K : ℕ → ℕ → Option ℕ) → Served x.at (x.act ∷ x.later) start granules layer d H → Served y.at (y.act ∷ y.later) start_too granules_too layer_too e K →
          start ≡ start_too → granules ≡ granules_too → layer ≡ layer_too → d ≡ e → ((p q : ℕ) → H p q ≡ K p q) → d.placed ≡ true → Same
      both_served start granules start_too granules_too layer layer_too d e H K g j es eg el de hk placed = by_shown show show_too
        where
          put : Placed s a n flags x.at (x.act ∷ x.later) start granules layer d H
          put = record { at = g.at; later = g.later; within = g.within; core = g.core; whole = g.whole; demand = g.demand; hints = g.hints; goes = g.goes; shape = g.shape; ends = g.ends }

          put_too : Placed s a n flags y.at (y.act ∷ y.later) start_too granules_too layer_too e K
          put_too = record { at = j.at; later = j.later; within = j.within; core = j.core; whole = j.whole; demand = j.demand; hints = j.hints; goes = j.goes; shape = j.shape; ends = j.ends }

          by_shown : Away front size reply t → Away front size other u → IsSameReply reply other × AreAlike (configuration_by s m rest) (configuration_by s l others)
          by_shown (To b1 st1 gr1 ly1 vs1 e1 f1 c1 h1) (To b2 st2 gr2 ly2 vs2 e2 f2 c2 h2) =
              let w1 = head_place front size b1 st1 gr1 ly1 vs1 t h1 in
              let w2 = head_place front size b2 st2 gr2 ly2 vs2 u h2 in
              let q : acts.Place st1 gr1 ly1 ∷ w1.0 ≡ acts.Place start granules layer ∷ shape_of g.later = sym w1.1 ∙ sym x.shape ∙ g.shape in
              let r : acts.Place st2 gr2 ly2 ∷ w2.0 ≡ acts.Place start_too granules_too layer_too ∷ shape_of j.later = sym w2.1 ∙ sym y.shape ∙ j.shape in
              let q1 : st1 ≡ start = cc q in
              let q2 : gr1 ≡ granules = cc q in
              let q3 : ly1 ≡ layer = cc q in
              let r1 : st2 ≡ start_too = cc r in
              let r2 : gr2 ≡ granules_too = cc r in
              let r3 : ly2 ≡ layer_too = cc r in
              let m1 : MovesSo front size b1 start granules layer vs1 (shape_of (x.act ∷ x.later)) = subst (MovesSo front size b1 start granules layer vs1) (sym x.shape) (subst (λ (z : ℕ). MovesSo front size b1 z granules layer vs1 t) q1 (subst (λ (z : ℕ). MovesSo front size b1 st1 z layer vs1 t) q2 (subst (λ (z : Layer). MovesSo front size b1 st1 gr1 z vs1 t) q3 h1))) in
              let m2 : MovesSo front size b2 start_too granules_too layer_too vs2 (shape_of (y.act ∷ y.later)) = subst (MovesSo front size b2 start_too granules_too layer_too vs2) (sym y.shape) (subst (λ (z : ℕ). MovesSo front size b2 z granules_too layer_too vs2 u) r1 (subst (λ (z : ℕ). MovesSo front size b2 st2 z layer_too vs2 u) r2 (subst (λ (z : Layer). MovesSo front size b2 st2 gr2 z vs2 u) r3 h2))) in
              let at : b1 ≡ b2 = sym f1 ∙ (λ i. address (made (q1 i) (q2 i) (q3 i))) ∙ (λ i. address (made (es i) (eg i) (el i))) ∙ (λ i. address (made (sym r1 i) (sym r2 i) (sym r3 i))) ∙ f2 in
              let k1 = carries_so front x.at (x.act ∷ x.later) start granules layer d H size b1 vs1 put placed c1 m1 in
              let k2 = carries_so front y.at (y.act ∷ y.later) start_too granules_too layer_too e K size b2 vs2 put_too (ap (λ (c : Core). c.placed) (sym de) ∙ placed) c2 m2 in
              (same_reply reply other (e1 ∙ ap replies.Address at ∙ sym e2), alike_at _ _ _ _ x.ends y.ends (both_carried s a n flags x.at (x.act ∷ x.later) y.at (y.act ∷ y.later) front size b1 b2 d e H K k1 k2 at de hk placed))
          by_shown (Nowhere_else e1 h1) z = absurd (let w = head_no_fit front size in let q : acts.NoFit n ∷ w.0 ≡ acts.Place start granules layer ∷ shape_of g.later = sym w.1 ∙ sym h1 ∙ sym x.shape ∙ g.shape in let bad : ⊥ = cc in bad)
          by_shown (To b1 st1 gr1 ly1 vs1 e1 f1 c1 h1) (Nowhere_else e2 h2) = absurd (let w = head_no_fit front size in let q : acts.NoFit n ∷ w.0 ≡ acts.Place start_too granules_too layer_too ∷ shape_of j.later = sym w.1 ∙ sym h2 ∙ sym y.shape ∙ j.shape in let bad : ⊥ = cc in bad)

      same_core : expected s b h (core_of x.at) ≡ None → expected s b h (core_of y.at) ≡ None → core_of x.at ≡ core_of y.at
      same_core e f = one_end s b h x.steps y.steps (base_core front a (core_of m)) (core_of x.at) (core_of y.at) x.path (subst (λ (c : Core). Path s b h y.steps (base_core front a c) (core_of y.at)) (sym core) y.path) e f

      pub same_base : x.at.state.vs.active b ≡ true → y.at.state.vs.active b ≡ true → base (core_of x.at) ≡ base (core_of y.at)
      same_base e f =
          path_base s b h x.steps (base_core front a (core_of m)) (core_of x.at) x.path e ∙ ap (λ (c : Core). lit b (base_core front a c) ((base_core front a c).vs.active b)) core ∙ sym (path_base s b h y.steps (base_core front a (core_of l)) (core_of y.at) y.path f)

      none_some : {o : Option ℕ} (i : ℕ) → o ≡ Some i → o ≡ None → ⊥
      none_some i e f = let z : Some i ≡ None = sym e ∙ f in let bad : ⊥ = cc in bad

      -- how both are refused is told apart
      abbrev BothRefused : Type 0
      BothRefused = (later later_too : List Act) → x.act ∷ x.later ≡ acts.NoFit n ∷ later → y.act ∷ y.later ≡ acts.NoFit n ∷ later_too →
          x.at.state.vs.active b ≡ true → has_not_begun (x.at.now.calls 0).search.stage ≡ false → y.at.state.vs.active b ≡ true → has_not_begun (y.at.now.calls 0).search.stage ≡ false → Same

      pub same : BothRefused → Out x.at (x.act ∷ x.later) → Out y.at (y.act ∷ y.later) → Same
      same off (Picks first index p r q e g) (Picks first_too index_too p_too r_too q_too e_too g_too) =
          let c = same_core e e_too in
          let z : Some index ≡ Some index_too = sym p ∙ ap (λ (c : Core). c.search.picked) c ∙ p_too in
          let i_is : index ≡ index_too = cc in
          let y2 : Some first ≡ Some first_too = sym r ∙ ap (λ (c : Core). last_read c.search) c ∙ r_too in
          let f_is : first ≡ first_too = cc in
          both_served _ _ _ _ _ _ _ _ _ _ g g_too (λ i. block_address b (f_is i) (i_is i)) refl refl (λ i. claimed_core s (calls.Realloc a n flags) n b refl bucket h (c i) (f_is i) (i_is i))
          (λ p q. put_same (hints_at_all x.at) (hints_at_all y.at) b (s.slot 0) first p q (λ ne. hints_both p q) ∙ ap (λ (f : ℕ). hint_put (hints_at_all y.at) b (s.slot 0) f p q) f_is) refl
      same off (Owns spot o p q e w g) (Owns spot_too o_too p_too q_too e_too w_too g_too) =
          let c = same_core e e_too in
          let w2 = subst (λ (c : Core). Way c.back.area s.limits.segments (bucket_pages b) (Some spot_too)) (sym c) w_too in
          let z : Some spot ≡ Some spot_too = one_way x.at.state.back.area s.limits.segments (bucket_pages b) (Some spot) (Some spot_too) (some_pages b) w w2 in
          let s_is : spot ≡ spot_too = cc in
          both_served _ _ _ _ _ _ _ _ _ _ g g_too (λ i. block_address b (s_is i).first (own_index s (calls.Realloc a n flags) n b refl bucket h (c i))) refl refl (λ i. owned_core s (calls.Realloc a n flags) n b refl bucket h (c i) (s_is i))
          (λ p q. put_same (hints_at_all x.at) (hints_at_all y.at) b (s.slot 0) spot.first p q (λ ne. hints_both p q) ∙ ap (λ (f : Spot). hint_put (hints_at_all y.at) b (s.slot 0) f.first p q) s_is) refl
      same off (Falls o p q e g) (Falls o_too p_too q_too e_too g_too) =
          let c = same_core e e_too in
          let z = one_site s (core_of x.at) n g.site g_too.site g.why (subst (λ (c : Core). Why s c n g_too.site) (sym c) g_too.why) in
          both_served _ _ _ _ _ _ _ _ _ _ (served_by x.at (x.act ∷ x.later) g) (served_by y.at (y.act ∷ y.later) g_too) (ap (λ (t : Site). t.start) z) (ap (λ (t : Site). t.granules) z) (ap (λ (t : Site). t.layer) z) (λ i. sited (c i) (z i)) hints_both refl
      same off (Refuses later is w k i v why) (Refuses later_too is_too w_too k_too i_too v_too why_too) = off later later_too is is_too v.active v.spent.begun v_too.active v_too.spent.begun
      same off (Picks first index p r q e g) (Owns spot o_too p_too q_too e_too w_too g_too) = absurd (none_some index p (ap (λ (c : Core). c.search.picked) (same_core e e_too) ∙ p_too))
      same off (Picks first index p r q e g) (Falls o_too p_too q_too e_too g_too) = absurd (none_some index p (ap (λ (c : Core). c.search.picked) (same_core e e_too) ∙ p_too))
      same off (Owns spot o p q e w g) (Picks first_too index_too p_too r_too q_too e_too g_too) = absurd (none_some index_too p_too (ap (λ (c : Core). c.search.picked) (sym (same_core e e_too)) ∙ p))
      same off (Falls o p q e g) (Picks first_too index_too p_too r_too q_too e_too g_too) = absurd (none_some index_too p_too (ap (λ (c : Core). c.search.picked) (sym (same_core e e_too)) ∙ p))
      same off (Owns spot o p q e w g) (Falls o_too p_too q_too e_too g_too) = absurd (false≢true (sym o ∙ ap (λ (c : Core). c.no_span) (same_core e e_too) ∙ o_too))
      same off (Falls o p q e g) (Owns spot o_too p_too q_too e_too w_too g_too) = absurd (true≢false (sym o ∙ ap (λ (c : Core). c.no_span) (same_core e e_too) ∙ o_too))
      same off (Refuses later is w k i v why) (Picks first_too index_too p_too r_too q_too e_too g_too) = absurd (no_picks s n b flags bucket h (core_of x.at) y.at index_too (record { dry = v.spent.dry; place = v.place; why = why }) (same_base v.active q_too) y.seeking p_too)
      same off (Refuses later is w k i v why) (Owns spot o_too p_too q_too e_too w_too g_too) = absurd (no_owns s n b flags bucket h (core_of x.at) y.at spot (record { dry = v.spent.dry; place = v.place; why = why }) (same_base v.active q_too) w_too)
      same off (Refuses later is w k i v why) (Falls o_too p_too q_too e_too g_too) = absurd (no_falls s n b flags bucket h (core_of x.at) y.at g_too.site (record { dry = v.spent.dry; place = v.place; why = why }) (same_base v.active q_too) g_too.why)
      same off (Picks first index p r q e g) (Refuses later is w k i v why) = absurd (no_picks s n b flags bucket h (core_of y.at) x.at index (record { dry = v.spent.dry; place = v.place; why = why }) (sym (same_base q v.active)) x.seeking p)
      same off (Owns spot o p q e w g) (Refuses later is w_too k i v why) = absurd (no_owns s n b flags bucket h (core_of y.at) x.at spot (record { dry = v.spent.dry; place = v.place; why = why }) (sym (same_base q v.active)) w)
      same off (Falls o p q e g) (Refuses later is w k i v why) = absurd (no_falls s n b flags bucket h (core_of y.at) x.at g.site (record { dry = v.spent.dry; place = v.place; why = why }) (sym (same_base q v.active)) g.why)
