-- The parts of a whole search, joined.
use Rattle.std.proofs.Common.{◌≡◌, inl, inr, ℕ, true, List, [], ◌∷◌, ◌++◌, refl, sym, ap, ◌∙◌, subst, append_assoc}
use Rattle.std.proofs.lemmas.Bool.{false≢true}
use Rattle.heap_model.specs.declared.Act.{Act}
use Rattle.heap_model.specs.declared.Act.TheVariants as acts
use Rattle.heap_model.specs.declared.Entry.{Entry}
use Rattle.heap_model.specs.State.{Setting, Place, hands}
use Rattle.heap_model.specs.CallState.{Configuration, Search}
use Rattle.heap_model.specs.Legal.{after}
use Rattle.heap_model.specs.History.{configuration_of, own}
use Rattle.claim_rule.specs.Entries.{IsSettingOf, entry}
use Rattle.claim_rule.proofs.Lists.{after-append}
use Rattle.step_parts.specs.InHand.{HasBlock}
use Rattle.backend_fit.specs.Kept.{Kept}
use Rattle.data_words.proofs.Copying.{does_then}
use Rattle.heap_gate.specs.Token.{Token, now}
use Rattle.heap_gate.specs.Calls.{Does, Runs, Stands, stance, with_prepared}
use Rattle.lfh_claims.specs.Moves.{block_place}
use Rattle.lfh_claims.specs.Search.{own_slot}
use Rattle.lfh_search.specs.declared.course.Course.{Course}
use Rattle.lfh_search.specs.Acts.{by, is_reading, AreReadings}
use Rattle.lfh_search.specs.Results.{place}
use Rattle.lfh_search.specs.Under.{IsUnder, CameBy, HasGone, HasServed, HasNoPages, IsNotServed}
use Rattle.lfh_search.specs.Both.{IsBeside, is_of_search, AreOfSearch, HasSearchedTo, HasSearchedInVain}
use Rattle.lfh_search.proofs.Steps.{earlier, runs_then, by-append, readings-append}
use Rattle.lfh_search.proofs.Words.{same_slot}
use Rattle.lfh_search.proofs.Beside.{beside_self, beside_then, read_beside, said_beside, served_beside}

pub readings_of : (its : List Act) → AreReadings its → AreOfSearch its
readings_of [] are = tt
readings_of (act ∷ rest) are = (one act are.0, readings_of rest are.1)
  where
    one : (act : Act) → is_reading act ≡ true → is_of_search act ≡ true
    one (acts.Saw head word bits) i = refl
    one (acts.Lost head index) i = refl
    one (acts.NoHint bucket slot) i = refl
    one _ i = absurd (false≢true i)

of_search-append : (xs ys : List Act) → AreOfSearch xs → AreOfSearch ys → AreOfSearch (xs ++ ys)
of_search-append [] ys h k = k
of_search-append (x ∷ xs) ys h k = (h.0, of_search-append xs ys h.1 k)

now_searched : (c e : Token) → c.searched ≡ true → Stands e (stance c) → Stands e (record (stance c) { searched = true })
now_searched c e on x = record {
  call = x.call;
  fresh = x.fresh;
  locked = x.locked;
  inside = x.inside;
  depth = x.depth;
  out = x.out;
  owes = x.owes;
  free = x.free;
  searches = x.searches;
  searched = x.searched ∙ on;
  drawn = x.drawn;
  whole = x.whole;
  pending = x.pending;
  prepared = x.prepared;
}

---- A block is in hand

pub served_to : (c e : Token) (back later : Kept) (course : Course) (addr : ℕ) → c.searched ≡ true → HasServed c e back later course addr → HasSearchedTo c e back later course addr
served_to c e back later course addr on x = record {
  its = x.its;
  are = readings_of x.its x.are;
  made = x.made;
  head = x.head;
  index = x.index;
  below = x.below;
  came = x.came;
  address = x.address;
  does = x.does;
  beside = λ s q. served_beside s c.number back later course.bucket (own_slot c) course.draw.value x.head x.index x.its x.made (now s c) (now s e) x.are x.came (x.agrees s q);
  hands = x.hands;
  block = x.block;
  stands = record {
    call = x.stands.call;
    fresh = x.stands.fresh;
    locked = x.stands.locked;
    inside = x.stands.inside;
    depth = x.stands.depth;
    out = x.stands.out;
    owes = x.stands.owes;
    free = x.stands.free;
    searches = x.stands.searches;
    searched = x.stands.searched ∙ on;
    drawn = x.stands.drawn;
    whole = x.stands.whole;
    pending = x.stands.pending;
    prepared = x.stands.prepared;
  };
  back_is = x.back_is;
}

-- readings come before
pub read_first : (c e new : Token) (back later : Kept) (course : Course) (addr : ℕ) (first : List Act) → AreReadings first → Runs c e (by c.number first) → Stands e (record (stance c) { searched = true }) → own_slot e ≡ own_slot c
    → HasSearchedTo e new back later course addr → HasSearchedTo c new back later course addr
read_first c e new back later course addr first are r w slot x = record {
  its = first ++ x.its;
  are = of_search-append first x.its (readings_of first are) x.are;
  made = x.made;
  head = x.head;
  index = x.index;
  below = x.below;
  came = subst (λ (t : ℕ). CameBy back later course.bucket t course.draw.value x.head x.index x.made) slot x.came;
  address = x.address;
  does = subst (Does c new) (sym lists) (does_then c e new (by c.number first) (by c.number (x.its ++ (x.made ++ place course.bucket x.head x.index ∷ []))) r.does does_e);
  beside = λ s q.
      let p = before s q in
      beside_then c.number (now s c) (now s e) (now s new) (read_beside s c.number first (now s c) (now s e) are (r.agrees s p)) (subst (λ (n : ℕ). IsBeside n (now s e) (now s new)) r.does.number (x.beside s q));
  hands = λ s q.
      subst (λ (n : ℕ). hands (now s new).state n ≡ block_place course.bucket x.head x.index n ∷ hands (now s e).state n) r.does.number (x.hands s q)
      ∙ ap (λ (ps : List Place). block_place course.bucket x.head x.index c.number ∷ ps) (r.hands s (before s q));
  block = λ s q. subst (λ (n : ℕ). HasBlock (now s new) n course.bucket addr) r.does.number (x.block s q);
  stands = record {
    call = x.stands.call ∙ w.call;
    fresh = x.stands.fresh ∙ w.fresh;
    locked = x.stands.locked ∙ w.locked;
    inside = x.stands.inside ∙ w.inside;
    depth = x.stands.depth ∙ w.depth;
    out = x.stands.out ∙ w.out;
    owes = x.stands.owes ∙ w.owes;
    free = x.stands.free;
    searches = x.stands.searches ∙ w.searches;
    searched = x.stands.searched;
    drawn = x.stands.drawn ∙ w.drawn;
    whole = x.stands.whole;
    pending = x.stands.pending;
    prepared = x.stands.prepared;
  };
  back_is = x.back_is;
}
  where
    does_e : Does e new (by c.number (x.its ++ (x.made ++ place course.bucket x.head x.index ∷ [])))
    does_e = subst (λ (n : ℕ). Does e new (by n (x.its ++ (x.made ++ place course.bucket x.head x.index ∷ [])))) r.does.number x.does

    lists : by c.number ((first ++ x.its) ++ (x.made ++ place course.bucket x.head x.index ∷ [])) ≡ by c.number first ++ by c.number (x.its ++ (x.made ++ place course.bucket x.head x.index ∷ []))
    lists = ap (by c.number) (append_assoc first x.its (x.made ++ place course.bucket x.head x.index ∷ [])) ∙ by-append c.number first (x.its ++ (x.made ++ place course.bucket x.head x.index ∷ []))

    before : (s : Setting) → IsSettingOf new.opening new.roll s → IsSettingOf e.opening e.roll s
    before s q = earlier e new (by c.number (x.its ++ (x.made ++ place course.bucket x.head x.index ∷ []))) does_e s q

---- NoSpan is prepared before

does_said : (e new : Token) (b : ℕ) (es : List Entry) → Does (with_prepared e (acts.NoSpan b)) new es → Does e new (entry e.number (acts.NoSpan b) ∷ es)
does_said e new b es x = record {
  table = x.table;
  opening = x.opening;
  number = x.number;
  roll = x.roll;
  seen = x.seen;
  own = x.own ∙ ap (λ (l : List Entry). own e.number e.seen ++ l) (append_assoc e.prepared (entry e.number (acts.NoSpan b) ∷ []) es);
  prepared = x.prepared;
  legal = x.legal;
}

now_said : (s : Setting) (e : Token) (b : ℕ) → now s (with_prepared e (acts.NoSpan b)) ≡ after s (now s e) (entry e.number (acts.NoSpan b))
now_said s e b = after-append s (configuration_of s e.seen) e.prepared (entry e.number (acts.NoSpan b) ∷ [])

beside_said : (s : Setting) (e : Token) (b : ℕ) → IsBeside e.number (now s e) (now s (with_prepared e (acts.NoSpan b)))
beside_said s e b = subst (λ (m : Configuration). IsBeside e.number (now s e) m) (sym (now_said s e b)) (said_beside s e.number b (now s e))

hands_said : (s : Setting) (e : Token) (b : ℕ) → hands (now s (with_prepared e (acts.NoSpan b))).state e.number ≡ hands (now s e).state e.number
hands_said s e b = ap (λ (m : Configuration). hands m.state e.number) (now_said s e b)

said_first : (e new : Token) (back later : Kept) (course : Course) (addr : ℕ) → HasSearchedTo (with_prepared e (acts.NoSpan course.bucket)) new back later course addr → HasSearchedTo e new back later course addr
said_first e new back later course addr x = record {
  its = acts.NoSpan course.bucket ∷ x.its;
  are = (refl, x.are);
  made = x.made;
  head = x.head;
  index = x.index;
  below = x.below;
  came = x.came;
  address = x.address;
  does = does_said e new course.bucket (by e.number (x.its ++ (x.made ++ place course.bucket x.head x.index ∷ []))) x.does;
  beside = λ s q. beside_then e.number (now s e) (now s (with_prepared e (acts.NoSpan course.bucket))) (now s new) (beside_said s e course.bucket) (x.beside s q);
  hands = λ s q. x.hands s q ∙ ap (λ (ps : List Place). block_place course.bucket x.head x.index e.number ∷ ps) (hands_said s e course.bucket);
  block = x.block;
  stands = x.stands;
  back_is = x.back_is;
}

---- Behind NoSpan

-- what readings leave, where there may be none
pub gone_leaves : (w new : Token) (its : List Act) → AreReadings its → HasGone w new its → (s : Setting) → IsSettingOf new.opening new.roll s
    → IsSettingOf w.opening w.roll s × (IsBeside w.number (now s w) (now s new) × (hands (now s new).state w.number ≡ hands (now s w).state w.number))
gone_leaves w new its are (inl p) s q =
    subst (λ (t : Token). IsSettingOf t.opening t.roll s → IsSettingOf w.opening w.roll s × (IsBeside w.number (now s w) (now s t) × (hands (now s t).state w.number ≡ hands (now s w).state w.number))) (sym p.1)
    (λ r. (r, (beside_self w.number (now s w), refl))) q
gone_leaves w new its are (inr r) s q = (earlier w new (by w.number its) r.0.does s q, (read_beside s w.number its (now s w) (now s new) are (r.0.agrees s q), r.0.hands s q))

module _ (c c2 : Token) (back middle : Kept) (course : Course) (f : Search) (lost now_lost : ℕ) (u : IsUnder c back course f lost) (x : HasNoPages c c2 back middle course lost now_lost) where
  slot : own_slot x.behind ≡ own_slot c
  slot = same_slot c x.behind x.its x.are x.runs course.bucket course.draw.value f u.searching

  stood : Stands x.behind (record (stance c) { searched = true })
  stood = now_searched c x.behind u.searched x.stands

  pub searched2 : c2.searched ≡ true
  searched2 = ap (λ (t : Token). t.searched) x.prepared ∙ (x.stands.searched ∙ u.searched)

  pub slot2 : own_slot c2 ≡ own_slot c
  slot2 = ap own_slot x.prepared ∙ slot

  pub again_to : (new : Token) (later : Kept) (addr : ℕ) → HasServed c2 new middle later course addr → HasSearchedTo c new back later course addr
  again_to new later addr y =
      let z1 : HasSearchedTo c2 new middle later course addr = served_to c2 new middle later course addr searched2 y in
      let z2 : HasSearchedTo (with_prepared x.behind (acts.NoSpan course.bucket)) new middle later course addr = subst (λ (t : Token). HasSearchedTo t new middle later course addr) x.prepared z1 in
      let z3 = read_first c x.behind new middle later course addr x.its x.are x.runs stood slot (said_first x.behind new middle later course addr z2) in
      subst (λ (k : Kept). HasSearchedTo c new k later course addr) x.same z3

  pub again_in_vain : (new : Token) (later : Kept) → IsNotServed c2 new middle later course → HasSearchedInVain c new back later course
  again_in_vain new later y = record {
    its = x.its;
    are = x.are;
    behind = x.behind;
    runs = x.runs;
    stands = stood;
    again = y.its;
    again_are = y.are;
    gone = gone;
    beside = λ s q. (both s q).0;
    hands = λ s q. (both s q).1;
    same = y.same ∙ x.same;
    back_is = y.back_is;
    cannot = y.cannot;
  }
    where
      gone : HasGone (with_prepared x.behind (acts.NoSpan course.bucket)) new y.its
      gone = subst (λ (t : Token). HasGone t new y.its) x.prepared y.gone

      both : (s : Setting) → IsSettingOf new.opening new.roll s → IsBeside c.number (now s c) (now s new) × (hands (now s new).state c.number ≡ hands (now s c).state c.number)
      both s q =
          let w = with_prepared x.behind (acts.NoSpan course.bucket) in
          let g = gone_leaves w new y.its y.are gone s q in
          let one : IsBeside c.number (now s c) (now s x.behind) = read_beside s c.number x.its (now s c) (now s x.behind) x.are (x.runs.agrees s g.0) in
          let two : IsBeside c.number (now s x.behind) (now s w) = subst (λ (n : ℕ). IsBeside n (now s x.behind) (now s w)) x.runs.does.number (beside_said s x.behind course.bucket) in
          let three : IsBeside c.number (now s w) (now s new) = subst (λ (n : ℕ). IsBeside n (now s w) (now s new)) x.runs.does.number g.1.0 in
          let h = subst (λ (n : ℕ). hands (now s new).state n ≡ hands (now s x.behind).state n) x.runs.does.number (g.1.1 ∙ hands_said s x.behind course.bucket) in
          (beside_then c.number (now s c) (now s w) (now s new) (beside_then c.number (now s c) (now s x.behind) (now s w) one two) three, h ∙ x.runs.hands s g.0)

---- No block

pub vain_first : (c e new : Token) (back later : Kept) (course : Course) (first : List Act) → AreReadings first → Runs c e (by c.number first) → Stands e (record (stance c) { searched = true })
    → HasSearchedInVain e new back later course → HasSearchedInVain c new back later course
vain_first c e new back later course first are r w x = record {
  its = first ++ x.its;
  are = readings-append first x.its are x.are;
  behind = x.behind;
  runs = subst (Runs c x.behind) (sym (by-append c.number first x.its)) (runs_then c e x.behind (by c.number first) x.its x.are r x.runs);
  stands = record {
    call = x.stands.call ∙ w.call;
    fresh = x.stands.fresh ∙ w.fresh;
    locked = x.stands.locked ∙ w.locked;
    inside = x.stands.inside ∙ w.inside;
    depth = x.stands.depth ∙ w.depth;
    out = x.stands.out ∙ w.out;
    owes = x.stands.owes ∙ w.owes;
    free = x.stands.free ∙ w.free;
    searches = x.stands.searches ∙ w.searches;
    searched = x.stands.searched;
    drawn = x.stands.drawn ∙ w.drawn;
    whole = x.stands.whole;
    pending = x.stands.pending;
    prepared = x.stands.prepared;
  };
  again = x.again;
  again_are = x.again_are;
  gone = x.gone;
  beside = λ s q.
      let p = before s q in
      beside_then c.number (now s c) (now s e) (now s new) (read_beside s c.number first (now s c) (now s e) are (r.agrees s p)) (subst (λ (n : ℕ). IsBeside n (now s e) (now s new)) r.does.number (x.beside s q));
  hands = λ s q. subst (λ (n : ℕ). hands (now s new).state n ≡ hands (now s e).state n) r.does.number (x.hands s q) ∙ r.hands s (before s q);
  same = x.same;
  back_is = x.back_is;
  cannot = x.cannot;
}
  where
    before : (s : Setting) → IsSettingOf new.opening new.roll s → IsSettingOf e.opening e.roll s
    before s q = earlier e x.behind (by e.number x.its) x.runs.does s (gone_leaves (with_prepared x.behind (acts.NoSpan course.bucket)) new x.again x.again_are x.gone s q).0
