-- A subsegment that is made behind readings, and that none can be made.
use Rattle.std.proofs.Common.{◌≡◌, inl, inr, ℕ, ◌+◌, ◌/◌, true, false, ◌&&◌, ◌||◌, List, [], ◌∷◌, ◌++◌, Option, refl, sym, ap, ◌∙◌, subst, eq-eqb}
use Rattle.std.specs.Prelude.{is_none, is_some, nat_lt}
use Rattle.std.proofs.lemmas.Bool.{cases_Bool, and_from}
use Rattle.heap_model.specs.declared.Act.{Act}
use Rattle.heap_model.specs.declared.Act.TheVariants as acts
use Rattle.heap_model.specs.declared.Entry.{Entry}
use Rattle.heap_model.specs.declared.Kind.TheVariants as kinds
use Rattle.heap_model.specs.declared.Layer.{Layer}
use Rattle.heap_model.specs.declared.Layer.TheVariants as layers
use Rattle.heap_model.specs.declared.What.TheVariants as whats
use Rattle.heap_model.specs.Buckets.{bucket_pages, block_size, block_address}
use Rattle.heap_model.specs.State.{Setting, State, Area, BackPart, Span, Place, hands, holds, in_hand, places_of}
use Rattle.heap_model.specs.Backend.{back_place}
use Rattle.heap_model.specs.Ranges.{is_of_kind}
use Rattle.heap_model.specs.CallState.{Configuration, CallState, Search, SpanHistory, caller_view}
use Rattle.heap_model.specs.Search.{request_of, request_for, sought, draw_of, search_key_of, is_spent, after_no_span}
use Rattle.heap_model.specs.Stay.{for_some, is_some_of}
use Rattle.heap_model.specs.Legal.{after, put_maker, step_search, with_area, with_search, with_span}
use Rattle.heap_model.specs.History.{configuration_after, configuration_of}
use Rattle.heap_model.specs.Agreement.{AgreesFor, moves_exclusive}
use Rattle.heap_model.proofs.ListLemmas.{filter-insert_span}
use Rattle.heap_model.proofs.Others.{agrees_trans}
use Rattle.heap_model.proofs.Own.{call_own}
use Rattle.claim_rule.specs.Entries.{IsSettingOf, IsLegalWith, entry}
use Rattle.claim_rule.proofs.Lists.{after-append}
use Rattle.backend_fit.specs.Kept.{Kept, area_of}
use Rattle.data_words.proofs.Copying.{does_then}
use Rattle.lfh_buckets.specs.Blocks.{IsBucket}
use Rattle.heap_gate.specs.Token.{Token, now, Always, is_out}
use Rattle.heap_gate.specs.Calls.{Does, Runs, Stands, stance, with_prepared}
use Rattle.lfh_claims.specs.Moves.{block_place}
use Rattle.lfh_claims.specs.Search.{own_slot}
use Rattle.lfh_spans.specs.Subsegments.{IsBackOf, HasInstalled, HasNoRoom, reserving, installing, drawn_block}
use Rattle.lfh_spans.proofs.Drawn.{own_fits}
use Rattle.lfh_spans.proofs.Joined.{runs_none}
use Rattle.lfh_search.specs.declared.course.Course.{Course}
use Rattle.lfh_search.specs.Acts.{by}
use Rattle.lfh_search.specs.Results.{Searches, place}
use Rattle.lfh_search.specs.Standing.{IsSearching}
use Rattle.lfh_search.specs.Under.{IsUnder, HasSaid, reserves, makes, Made, HasServed, HasGone, HasNoPages, IsNotServed, IsSpentNow}
use Rattle.lfh_search.proofs.Steps.{asks, earlier, by-append}
use Rattle.lfh_search.proofs.Words.{left}
use Rattle.lfh_search.proofs.Placing.{place_same}

---- The acts, as entries

reserves_by : (n : ℕ) (a : Area) (first : ℕ) → by n (reserves a first) ≡ reserving n a first
reserves_by n a first = elim (cases_Bool (nat_lt (first / 256) a.reserved)) [ inl e ↦ rw e refl | inr e ↦ rw e refl ]

pub makes_by : (n : ℕ) (a : Area) (first b t i : ℕ) → by n (makes a first b t ++ place b first i ∷ []) ≡ installing n (reserving n a first) first b t i
makes_by n a first b t i =
    by-append n (makes a first b t) (place b first i ∷ [])
    ∙ ap (λ (l : List Entry). l ++ entry n (place b first i) ∷ []) (by-append n (reserves a first) (acts.Span first (bucket_pages b) kinds.Lfh b t ∷ []) ∙ ap (λ (l : List Entry). l ++ entry n (acts.Span first (bucket_pages b) kinds.Lfh b t) ∷ []) (reserves_by n a first))

---- What the holder of Back knows alike stays so

module _ (s : Setting) (n : ℕ) (m k : Configuration) (r : AgreesFor n m k) (held : holds k.state.gate n whats.Back ≡ true) where
  reserve_same : (segment : ℕ) → AgreesFor n (after s m (entry n (acts.Reserve segment))) (after s k (entry n (acts.Reserve segment)))
  reserve_same segment = record {
    counted = r.counted;
    turning = r.turning;
    owner = r.owner;
    locks = r.locks;
    call = call_own s n m k r (acts.Reserve segment);
    hands = hand;
    active = r.active;
    vs = r.vs;
    spans = r.spans;
    back = λ _. ap more (r.back held);
    span_history = r.span_history;
    large = r.large;
    owned = λ o. let h = r.owned o in record { back = ap more h.back; vs = h.vs; lfh = h.lfh; large = h.large; words = h.words; span_history = h.span_history };
  }
    where
      more : BackPart → BackPart
      more p = with_area p (record { reserved = p.area.reserved + 1; committed = p.area.committed; spans = p.area.spans })

      hand : (l : Layer) → in_hand n (places_of (after s m (entry n (acts.Reserve segment))).state l) ≡ in_hand n (places_of (after s k (entry n (acts.Reserve segment))).state l)
      hand layers.Lfh = r.hands layers.Lfh
      hand layers.Vs = r.hands layers.Vs
      hand layers.Back = r.hands layers.Back
      hand layers.Large = r.hands layers.Large

  span_same : (first pages b t : ℕ) → AgreesFor n (after s m (entry n (acts.Span first pages kinds.Lfh b t))) (after s k (entry n (acts.Span first pages kinds.Lfh b t)))
  span_same first pages b t = record {
    counted = r.counted;
    turning = r.turning;
    owner = r.owner;
    locks = r.locks;
    call = call_own s n m k r (acts.Span first pages kinds.Lfh b t);
    hands = hand;
    active = r.active;
    vs = r.vs;
    spans = λ h. filter-insert_span (is_of_kind kinds.Vs) x m.state.back.area.spans refl ∙ (r.spans h ∙ sym (filter-insert_span (is_of_kind kinds.Vs) x k.state.back.area.spans refl));
    back = λ _. ap more (r.back held);
    span_history = λ h. ap made (r.span_history h);
    large = r.large;
    owned = λ o. let h = r.owned o in record { back = ap more h.back; vs = h.vs; lfh = h.lfh; large = h.large; words = h.words; span_history = ap made h.span_history };
  }
    where
      x : Span
      x = record { first = first; pages = pages; kind = kinds.Lfh; bucket = b; slot = t }

      more : BackPart → BackPart
      more p = with_area p (with_span p.area (record { first = first; pages = pages; kind = kinds.Lfh; bucket = b; slot = t }))

      made : SpanHistory → SpanHistory
      made h = put_maker h n first kinds.Lfh

      hand : (l : Layer) → in_hand n (places_of (after s m (entry n (acts.Span first pages kinds.Lfh b t))).state l) ≡ in_hand n (places_of (after s k (entry n (acts.Span first pages kinds.Lfh b t))).state l)
      hand layers.Lfh = r.hands layers.Lfh
      hand layers.Vs = r.hands layers.Vs
      hand layers.Back = r.hands layers.Back
      hand layers.Large = r.hands layers.Large

-- behind the entries that make a subsegment, and its first place
made_same : (s : Setting) (n : ℕ) (m k : Configuration) → AgreesFor n m k → holds k.state.gate n whats.Back ≡ true → (a : Area) (first b t i : ℕ)
    → AgreesFor n (configuration_after s m (installing n (reserving n a first) first b t i)) (configuration_after s k (installing n (reserving n a first) first b t i))
made_same s n m k r held a first b t i = elim (cases_Bool (nat_lt (first / 256) a.reserved)) [
  | inl e ↦ rw e (both m k r held)
  | inr e ↦ rw e (both (after s m (entry n (acts.Reserve a.reserved))) (after s k (entry n (acts.Reserve a.reserved))) (reserve_same s n m k r held a.reserved) held)
]
  where
    both : (m k : Configuration) → AgreesFor n m k → holds k.state.gate n whats.Back ≡ true
        → AgreesFor n (after s (after s m (entry n (acts.Span first (bucket_pages b) kinds.Lfh b t))) (entry n (place b first i))) (after s (after s k (entry n (acts.Span first (bucket_pages b) kinds.Lfh b t))) (entry n (place b first i)))
    both m k r held = place_same s n _ _ (span_same s n m k r held first (bucket_pages b) b t) (block_address b first i) (block_size b / 16)

-- .. which is in hand
made_hands : (s : Setting) (n : ℕ) (m : Configuration) (a : Area) (first b t i : ℕ) → hands (configuration_after s m (installing n (reserving n a first) first b t i)).state n ≡ block_place b first i n ∷ hands m.state n
made_hands s n m a first b t i = let q = eq-eqb n n refl in elim (cases_Bool (nat_lt (first / 256) a.reserved)) [ inl e ↦ rw (e, q) refl | inr e ↦ rw (e, q) refl ]

hands_same : (n : ℕ) (m k : Configuration) → AgreesFor n m k → hands m.state n ≡ hands k.state n
hands_same n m k r = (λ j. r.hands layers.Lfh j ++ r.hands layers.Vs j ++ r.hands layers.Back j ++ r.hands layers.Large j)

---- NoSpan is prepared

module _ (s : Setting) (m : Configuration) (n b t d : ℕ) (g : Search) (h : IsSearching s m n b t d g) (bucket : ℕ) where
  abbrev then_is : Configuration
  then_is = after s m (entry n (acts.NoSpan bucket))

  call_said : then_is.now.calls n ≡ record (with_search (m.now.calls n) (after_no_span g)) { no_span = true }
  call_said =
      (let q = eq-eqb n n refl in rw q refl)
      ∙ (ap (λ (o : Option ℕ). record (step_search s n (m.now.calls n) (λ k f. after_no_span f) o) { no_span = true }) (asks s m n b h.seeks)
      ∙ ap (λ (x : Search). record (with_search (m.now.calls n) (after_no_span x)) { no_span = true }) h.search)

  searching_said : IsSearching s then_is n b t d (after_no_span g)
  searching_said = record {
    begun = ap (λ (c : CallState). is_some c.call) call_said ∙ h.begun;
    inside = h.inside;
    seeks = ap (λ (c : CallState). (request_for m.state.vs.active (sought s m.state n c)).search) call_said ∙ h.seeks;
    slot = h.slot;
    draw = ap (λ (c : CallState). draw_of s n c.searches) call_said ∙ h.draw;
    old = ap (λ (c : CallState). c.placed || for_some c.call (moves_exclusive then_is n)) call_said ∙ h.old;
    search = ap (λ (c : CallState). c.search) call_said;
  }

module _ (e : Token) (b d : ℕ) (g : Search) (h : Searches e b d g) (bucket : ℕ) where
  now_is : (s : Setting) → now s (with_prepared e (acts.NoSpan bucket)) ≡ after s (now s e) (entry e.number (acts.NoSpan bucket))
  now_is s = after-append s (configuration_of s e.seen) e.prepared (entry e.number (acts.NoSpan bucket) ∷ [])

  said_searches : Searches (with_prepared e (acts.NoSpan bucket)) b d (after_no_span g)
  said_searches s q = subst (λ (m : Configuration). IsSearching s m e.number b (own_slot e) d (after_no_span g)) (sym (now_is s)) (searching_said s (now s e) e.number b (own_slot e) d g (h s q) bucket)

  said_now : HasSaid (with_prepared e (acts.NoSpan bucket))
  said_now s q = ap (λ (m : Configuration). (m.now.calls e.number).no_span) (now_is s) ∙ ap (λ (c : CallState). c.no_span) (call_said s (now s e) e.number b (own_slot e) d g (h s q) bucket)

---- What the caller came to

module _ (c e : Token) (back : Kept) (course : Course) (f : Search) (lost now_lost : ℕ) (u : IsUnder c back course f lost) (x : IsSpentNow c e back course lost now_lost) where
  abbrev b : ℕ
  b = course.bucket

  abbrev d : ℕ
  d = course.draw.value

  pub number : e.number ≡ c.number
  number = by_gone x.gone
    where
      by_gone : HasGone c e x.its → e.number ≡ c.number
      by_gone (inl p) = ap (λ (t : Token). t.number) p.1
      by_gone (inr g) = g.0.does.number

  -- where it stands
  pub record Alike : Type 0 where
    pub table : e.table ≡ c.table
    pub opening : e.opening ≡ c.opening
    pub call : e.call ≡ c.call
    pub fresh : e.fresh ≡ c.fresh
    pub locked : e.locked ≡ c.locked
    pub inside : e.inside ≡ c.inside
    pub depth : e.depth ≡ c.depth
    pub out : e.out ≡ c.out
    pub owes : e.owes ≡ c.owes
    pub searches : e.searches ≡ c.searches
    pub searched : e.searched ≡ c.searched
    pub drawn : e.drawn ≡ c.drawn
    pub whole : c.whole ≡ true → e.whole ≡ true

  pub alike : Alike
  alike = by_gone x.gone
    where
      by_gone : HasGone c e x.its → Alike
      by_gone (inl (p, q)) = record {
        table = ap (λ (t : Token). t.table) q;
        opening = ap (λ (t : Token). t.opening) q;
        call = ap (λ (t : Token). t.call) q;
        fresh = ap (λ (t : Token). t.fresh) q;
        locked = ap (λ (t : Token). t.locked) q;
        inside = ap (λ (t : Token). t.inside) q;
        depth = ap (λ (t : Token). t.depth) q;
        out = ap (λ (t : Token). t.out) q;
        owes = ap (λ (t : Token). t.owes) q;
        searches = ap (λ (t : Token). t.searches) q;
        searched = ap (λ (t : Token). t.searched) q;
        drawn = ap (λ (t : Token). t.drawn) q;
        whole = λ w. ap (λ (t : Token). t.whole) q ∙ w;
      }
      by_gone (inr (r, w)) = record {
        table = r.does.table;
        opening = r.does.opening;
        call = w.call;
        fresh = w.fresh;
        locked = w.locked;
        inside = w.inside;
        depth = w.depth;
        out = w.out;
        owes = w.owes;
        searches = w.searches;
        searched = w.searched;
        drawn = w.drawn;
        whole = λ _. w.whole;
      }

  pub held_out : is_out whats.Back e.out ≡ true
  held_out = ap (is_out whats.Back) alike.out ∙ u.out

  module _ (held : Always c (λ s. holds (now s c).state.gate c.number whats.Back ≡ true)) (e2 : Token) (after_it : Kept) (addr : ℕ) (i : HasInstalled e e2 back b d addr) (is : IsBackOf e2 after_it) (bucket_is : IsBucket b) where
    abbrev es : List Entry
    es = installing c.number (reserving c.number (area_of back) i.first) i.first b (own_slot c) (drawn_block b d)

    abbrev all : List Entry
    all = by c.number x.its ++ es

    entries : by c.number (x.its ++ (makes (area_of back) i.first b (own_slot c) ++ place b i.first (drawn_block b d) ∷ [])) ≡ all
    entries = by-append c.number x.its (makes (area_of back) i.first b (own_slot c) ++ place b i.first (drawn_block b d) ∷ [])
        ∙ ap (λ (l : List Entry). by c.number x.its ++ l) (makes_by c.number (area_of back) i.first b (own_slot c) (drawn_block b d))

    does_e : Does e e2 es
    does_e = subst (λ (z : ℕ × ℕ). Does e e2 (installing z.0 (reserving z.0 (area_of back) i.first) i.first b z.1 (drawn_block b d))) (λ j. (number j, x.slot j)) i.does

    agrees_e : (s : Setting) → IsSettingOf e2.opening e2.roll s → AgreesFor c.number (now s e2) (configuration_after s (now s e) es)
    agrees_e s q = subst (λ (z : ℕ × ℕ). AgreesFor z.0 (now s e2) (configuration_after s (now s e) (installing z.0 (reserving z.0 (area_of back) i.first) i.first b z.1 (drawn_block b d)))) (λ j. (number j, x.slot j)) (i.agrees s q)

    before : (s : Setting) → IsSettingOf e2.opening e2.roll s → IsSettingOf e.opening e.roll s
    before s q = earlier e e2 es does_e s q

    does_all : Does c e2 all
    does_all = by_gone x.gone
      where
        by_gone : HasGone c e x.its → Does c e2 all
        by_gone (inl (p, q)) = subst (λ (z : Token × List Act). Does z.0 e2 (by c.number z.1 ++ es)) (λ j. (q j, sym p j)) does_e
        by_gone (inr (r, w)) = does_then c e e2 (by c.number x.its) es r.does does_e

    agrees_all : (s : Setting) → IsSettingOf e2.opening e2.roll s → AgreesFor c.number (now s e2) (configuration_after s (now s c) all)
    agrees_all s q = by_gone x.gone
      where
        by_gone : HasGone c e x.its → AgreesFor c.number (now s e2) (configuration_after s (now s c) all)
        by_gone (inl (p, w)) = subst (λ (z : Token × List Act). AgreesFor c.number (now s e2) (configuration_after s (now s z.0) (by c.number z.1 ++ es))) (λ j. (w j, sym p j)) (agrees_e s q)
        by_gone (inr (r, w)) =
            let q0 = before s q in
            let mid = configuration_after s (now s c) (by c.number x.its) in
            let h : holds mid.state.gate c.number whats.Back ≡ true = ap (λ (z : State). holds z.gate c.number whats.Back) (left s c.number x.its (now s c) x.are).0 ∙ held s (earlier c e (by c.number x.its) r.does s q0) in
            subst (AgreesFor c.number (now s e2)) (sym (after-append s (now s c) (by c.number x.its) es))
            (agrees_trans c.number (now s e2) (configuration_after s (now s e) es) (configuration_after s mid es) (agrees_e s q) (made_same s c.number (now s e) mid (r.agrees s q0) h (area_of back) i.first b (own_slot c) (drawn_block b d)))

    hands_e : (s : Setting) → IsSettingOf e.opening e.roll s → hands (now s e).state c.number ≡ hands (now s c).state c.number
    hands_e s q = by_gone x.gone
      where
        by_gone : HasGone c e x.its → hands (now s e).state c.number ≡ hands (now s c).state c.number
        by_gone (inl (p, w)) = ap (λ (t : Token). hands (now s t).state c.number) w
        by_gone (inr (r, w)) = r.hands s q

    pub served_made : HasServed c e2 back after_it course addr
    served_made = record {
      its = x.its;
      are = x.are;
      made = makes (area_of back) i.first b (own_slot c);
      head = i.first;
      index = drawn_block b d;
      below = (own_fits b 0 d bucket_is).0;
      came = Made i.place refl refl;
      address = i.address;
      does = subst (Does c e2) (sym entries) does_all;
      agrees = λ s q. subst (λ (l : List Entry). AgreesFor c.number (now s e2) (configuration_after s (now s c) l)) (sym entries) (agrees_all s q);
      hands = λ s q. hands_same c.number (now s e2) (configuration_after s (now s e) es) (agrees_e s q)
          ∙ (made_hands s c.number (now s e) (area_of back) i.first b (own_slot c) (drawn_block b d) ∙ ap (λ (l : List Place). block_place b i.first (drawn_block b d) c.number ∷ l) (hands_e s (before s q)));
      block = λ s q. subst (λ (k : ℕ). Rattle.step_parts.specs.InHand.HasBlock (now s e2) k b addr) number (i.block s q);
      stands = record {
        call = i.stands.call ∙ alike.call;
        fresh = i.stands.fresh ∙ alike.fresh;
        locked = i.stands.locked ∙ alike.locked;
        inside = i.stands.inside ∙ alike.inside;
        depth = i.stands.depth ∙ alike.depth;
        out = i.stands.out ∙ alike.out;
        owes = i.stands.owes ∙ alike.owes;
        free = i.stands.free;
        searches = i.stands.searches ∙ alike.searches;
        searched = i.stands.searched ∙ alike.searched;
        drawn = i.stands.drawn ∙ alike.drawn;
        whole = i.stands.whole;
        pending = i.stands.pending;
        prepared = i.stands.prepared;
      };
      back_is = is;
    }

  ---- There is no room

  -- the readings alone
  read_alone : c.pending ≡ false → c.prepared ≡ [] → c.whole ≡ true → IsLegalWith c.opening c.roll c.seen → Runs c e (by c.number x.its) × Stands e (stance c)
  read_alone p z w l = by_gone x.gone
    where
      here : Stands c (stance c)
      here = record { call = refl; fresh = refl; locked = refl; inside = refl; depth = refl; out = refl; owes = refl; free = refl; searches = refl; searched = refl; drawn = refl; whole = w; pending = p; prepared = z }

      by_gone : HasGone c e x.its → Runs c e (by c.number x.its) × Stands e (stance c)
      by_gone (inl (n, q)) = subst (λ (y : Token × List Act). Runs c y.0 (by c.number y.1) × Stands y.0 (stance c)) (λ j. (sym q j, sym n j)) (runs_none c z l, here)
      by_gone (inr g) = g

  pub no_pages : c.pending ≡ false → c.prepared ≡ [] → c.whole ≡ true → IsLegalWith c.opening c.roll c.seen → (after_it : Kept) → HasNoRoom back after_it b → (t : Token) → t ≡ with_prepared e (acts.NoSpan b) → IsBackOf t after_it
      → HasNoPages c t back after_it course lost now_lost
  no_pages p z w l after_it room t is stands = record {
    its = x.its;
    are = x.are;
    behind = e;
    runs = (read_alone p z w l).0;
    stands = (read_alone p z w l).1;
    prepared = is;
    count = x.count;
    place = room.place;
    same = room.same;
    back_is = stands;
    search = after_no_span x.search;
    searching = subst (λ (y : Token). Searches y b d (after_no_span x.search)) (sym is) (said_searches e b d x.search x.searching b);
    at = record { stage = refl; read = refl; ended = refl; picked = refl; lost_is = x.lost_is; few = x.few };
    said = subst HasSaid (sym is) (said_now e b d x.search x.searching b);
  }

  -- .. again
  pub not_served : (after_it : Kept) → HasNoRoom back after_it b → IsBackOf e after_it → HasSaid c → IsNotServed c e back after_it course
  not_served after_it room is said = record {
    its = x.its;
    are = x.are;
    gone = x.gone;
    same = room.same;
    back_is = is;
    cannot = record {
      said = x.says true said;
      refused = λ s q.
          let h = x.makes s q in
          let st = x.back_is s q in
          let none : is_none (back_place (now s e).state.back.area s.limits.segments (bucket_pages b)) ≡ true =
          ap is_none (sym (λ j. back_place (ap (λ (p : BackPart). p.area) st.part j) ((st.limits ∙ sym q.limits) j).segments (bucket_pages b)) ∙ room.place) in
          and_from (is_some_of (request_of s (now s e) e.number).search b && is_spent (now s e).state.back.area (caller_view (now s e) e.number) (search_key_of s e.number ((now s e).now.calls e.number) b)) _
          (and_from (is_some_of (request_of s (now s e) e.number).search b) _ (ap (λ (o : Option ℕ). is_some_of o b) h.seeks ∙ eq-eqb b b refl) h.spent) none;
      old = λ s q. (x.makes s q).old;
    };
  }
