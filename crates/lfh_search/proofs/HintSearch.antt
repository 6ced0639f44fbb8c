-- The first pass of a search: the hint, and the subsegment that it names.
use Rattle.std.proofs.Common.{◌≡◌, inl, ⊎_elim, ℕ, ◌+◌, ◌<◌, ◌==◌, true, ◌&&◌, ◌||◌, List, [], ◌∷◌, Option, Some, refl, sym, ap, ◌∙◌, subst, arith, eq-eqb}
use Rattle.std.specs.List.{list_any}
use Rattle.std.proofs.lemmas.Bool.{and_from, or_left, or_right}
use Rattle.heap_model.specs.declared.Act.{Act}
use Rattle.heap_model.specs.declared.Act.TheVariants as acts
use Rattle.heap_model.specs.declared.Entry.{Entry}
use Rattle.heap_model.specs.declared.What.TheVariants as whats
use Rattle.heap_model.specs.Buckets.{words_in_use, block_address}
use Rattle.heap_model.specs.Stay.{is_some_of}
use Rattle.heap_model.specs.State.{Area, holds}
use Rattle.heap_model.specs.CallState.{Search, CallerView, not_begun, caller_view}
use Rattle.heap_model.specs.Search.{spans_of, begins_at, hint, first_word, may_see, after_no_hint}
use Rattle.heap_soundness.proofs.Lists.{any_in}
use Rattle.heap_soundness.specs.Sound.{IsOneOf}
use Rattle.search_laws.specs.Reading.{word_behind}
use Rattle.block_steps.specs.Searches.{MayHint, IsHinted}
use Rattle.block_steps.proofs.Searches.{among_seen}
use Rattle.heap_gate.specs.Token.{Token, now, Always, is_out, IsStanding}
use Rattle.heap_gate.specs.Calls.{Does, Runs, Stands, stance}
use Rattle.lfh_claims.specs.Search.{own_slot}
use Rattle.lfh_spans.specs.Hints.{FindsHint, FindsNoHint}
use Rattle.lfh_search.specs.declared.course.Course.{Course}
use Rattle.lfh_search.specs.declared.hint.Found.{Found}
use Rattle.lfh_search.specs.Acts.{by, AreReadings, losses, AreDry}
use Rattle.lfh_search.specs.Standing.{key, dried}
use Rattle.lfh_search.specs.Results.{Searches, Went, MayBegin, IsIn, HasPlaced, IsBeaten}
use Rattle.lfh_search.specs.Readings.{HasHint, CanRead, IsDried}
use Rattle.lfh_search.specs.Passes.{IsThere}
use Rattle.lfh_search.specs.Hints.{NoHint, AllDry, Eighth, HasSpentHint, HasFound}
use Rattle.lfh_search.proofs.Steps.{earlier, runs_then}
use Rattle.lfh_search.proofs.Words.{searches_on, same_slot, hint_on, back_on}
use Rattle.lfh_search.proofs.Seen.{waits_none}
use Rattle.lfh_search.proofs.Readings.{seen_by}
use Rattle.lfh_search.proofs.Placing.{placed_behind}

more_few : (n : ℕ) → n < 8 → n < 9
more_few n l = omega (arith, l)

count_of : (n : ℕ) (its : List Act) → 0 + losses its ≡ n → losses its ≡ n
count_of n its e = omega (arith, e)

module _ (c : Token) (b d : ℕ) (h : Searches c b d not_begun) (paid : is_out whats.Back c.out ≡ true → c.owes ≡ []) (knows : HasHint c) where
  -- the hint may be read
  pub may_hint : IsStanding c → Always c (λ s. MayHint s (now s c) c.number b (own_slot c) c.owes)
  may_hint st s q =
      let x = h s q in
      record { begun = x.begun; inside = x.inside; seeks = x.seeks; slot = x.slot; fresh = ap (λ (f : Search). Rattle.heap_model.specs.Search.has_not_begun f.stage) x.search; old = x.old; paid = λ e. paid (sym ((st s q).locks whats.Back) ∙ e) }

  -- it is empty
  pub finds_none : (e : Token) → FindsNoHint c e b → HasSpentHint c e b d 0
  finds_none e r = record {
    its = acts.NoHint b (own_slot c) ∷ [];
    are = (refl, tt);
    runs = r.runs;
    stands = r.stands;
    count = refl;
    why = NoHint refl;
    search = after_no_hint not_begun;
    searching = searches_on c e (acts.NoHint b (own_slot c) ∷ []) (refl, tt) r.runs b d not_begun h;
    at = record { lost_is = refl; few = omega arith; picked = refl; ended = λ _. (refl, refl) };
  }

  -- .. or names a subsegment
  module _ (e : Token) (head : ℕ) (r : FindsHint c e b head) where
    searching : Searches e b d not_begun
    searching = searches_on c e [] tt r.runs b d not_begun h

    pub slot : own_slot e ≡ own_slot c
    slot = same_slot c e [] tt r.runs b d not_begun h

    hinted : Always e (λ s. IsHinted (now s e) e.number b (own_slot e) head)
    hinted s q = subst (λ (x : ℕ × ℕ). IsHinted (now s e) x.0 b x.1 head) (λ j. (sym r.runs.does.number j, sym slot j)) (r.hinted s q)

    begins : MayBegin e b d head
    begins s q =
        let m = now s e in
        let g = key b (own_slot e) d in
        let z = hinted s q in
        let there : list_any (begins_at head) (spans_of m.state.back.area b (own_slot e)) ≡ true = any_in (begins_at head) (spans_of m.state.back.area b (own_slot e)) z.seen.span (among_seen m head b (own_slot e) z.seen) (eq-eqb z.seen.span.first head z.seen.begins) in
        let right : (m.now.disturbed e.number || is_some_of (hint m.state.back.area m.now.span_history b (own_slot e)) head) ≡ true = ⊎_elim
        (λ (u : m.now.disturbed e.number ≡ true). or_left (m.now.disturbed e.number) _ u)
        (λ (u : hint m.state.back.area m.now.span_history b (own_slot e) ≡ Some head). or_right (m.now.disturbed e.number) _ (ap (λ (o : Option ℕ). is_some_of o head) u ∙ eq-eqb head head refl)) z.right in
        ap (λ (w : CallerView). may_see m.state.back.area m.now.span_history (m.now.disturbed e.number) w g head (first_word g)) (seen_by (caller_view m e.number) not_begun (searching s q).search)
        ∙ and_from (first_word g == first_word g && list_any (begins_at head) (spans_of m.state.back.area b (own_slot e))) _
        (and_from (first_word g == first_word g) _ (eq-eqb (first_word g) (first_word g) refl) there) right

    -- it is there, and still when a block of it was claimed
    pub there_behind : (n : Token) (its : List Entry) → Does e n its → is_out whats.Back c.out ≡ true → IsStanding c → Always n (λ s. IsThere (now s c).state.back.area b (own_slot c) head)
    there_behind n its does out st s q =
        let p = earlier e n its does s q in
        let z = (hinted s p).seen in
        let held : Always c (λ s. holds (now s c).state.gate c.number whats.Back ≡ true) = λ s q. (st s q).locks whats.Back ∙ out in
        subst (λ (x : Area × ℕ). IsThere x.0 b x.1 head) (λ j. ((back_on c e [] tt r.runs held s p j).area, slot j))
        (record { span = z.span; there = among_seen (now s e) head b (own_slot e) z; begins = z.begins })

    pub can_read : (course : Course) → course.bucket ≡ b → course.draw.value ≡ d → CanRead e course not_begun head 0
    can_read course u v = record {
      at = subst (λ (x : ℕ × ℕ). IsIn e x.0 x.1 not_begun head 0 0) (λ j. (sym u j, sym v j)) (record {
        between = record { between = refl; picked = refl; few = omega arith };
        few = omega arith;
        search = not_begun;
        stands = inl (record { none = refl; lost_is = refl; search = refl; begins = begins });
        searching = searching;
        seen = λ s q. (hinted s q).seen;
        waits = waits_none e r.stands.prepared;
      });
      hint = hint_on c e [] tt r.runs b d not_begun h r.stands.owes r.stands.out knows;
    }

    module _ (n : Token) where
      pub found : (f : Found) → f.addr ≡ block_address b f.head f.index → HasPlaced e n b f.head f.index → HasFound c n b f
      found f a x = record { placed = placed_behind c e n b f.head f.index [] c.searched tt r.runs r.stands slot x; address = a }

      behind : (its : List Act) → AreReadings its → Went e n its → (its ≡ [] → ⊥) → Runs c n (by c.number its) × Stands n (record (stance c) { searched = true })
      behind [] are w some = absurd (some refl)
      behind (x ∷ its) are w some = (
        runs_then c e n [] (x ∷ its) are r.runs w.0,
        record {
          call = w.1.call ∙ r.stands.call;
          fresh = w.1.fresh ∙ r.stands.fresh;
          locked = w.1.locked ∙ r.stands.locked;
          inside = w.1.inside ∙ r.stands.inside;
          depth = w.1.depth ∙ r.stands.depth;
          out = w.1.out ∙ r.stands.out;
          owes = w.1.owes ∙ r.stands.owes;
          free = w.1.free ∙ r.stands.free;
          searches = w.1.searches ∙ r.stands.searches;
          searched = w.1.searched;
          drawn = w.1.drawn ∙ r.stands.drawn;
          whole = w.1.whole;
          pending = w.1.pending;
          prepared = w.1.prepared;
        },
      )

      pub dries : (lost : ℕ) → 0 < words_in_use b → IsDried e n b d not_begun head 0 lost → HasSpentHint c n b d lost
      dries lost some x =
          let w = behind x.its x.are x.went (λ q. subst (λ (l : List Act). IsOneOf (acts.Saw head (word_behind (key b (own_slot e) d) 0) (x.dry 0 some).bits) l) q (x.dry 0 some).read) in
          record {
            its = x.its;
            are = x.are;
            runs = w.0;
            stands = w.1;
            count = count_of lost x.its x.count;
            why = AllDry head (subst (λ (t : ℕ). AreDry (key b t d) head (words_in_use b) x.its) slot x.dry);
            search = dried not_begun b head lost;
            searching = x.searching;
            at = record { lost_is = refl; few = more_few lost x.few; picked = refl; ended = λ _. (refl, refl) };
          }

      pub beaten : IsBeaten e n b d 0 → HasSpentHint c n b d 8
      beaten x =
          let w = behind x.its x.are x.went (λ q. let y : losses x.its ≡ 0 = ap losses q in let z = x.count in omega (arith, y, z)) in
          record {
            its = x.its;
            are = x.are;
            runs = w.0;
            stands = w.1;
            count = count_of 8 x.its x.count;
            why = Eighth refl;
            search = x.search;
            searching = x.searching;
            at = record { lost_is = x.eight; few = omega arith; picked = x.picked; ended = λ l. absurd (omega (arith, l)) };
          }
