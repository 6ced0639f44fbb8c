-- What its caller has read counts as read while it places and fills a new block.
use Rattle.std.proofs.Common.{◌≡◌, ℕ, zero, suc, ◌+◌, ◌-◌, ◌/◌, Bool, true, false, List, [], ◌∷◌, ◌++◌, refl, sym, ap, ◌∙◌, append_assoc, ltb, inl, inr}
use Rattle.std.specs.List.{list_all}
use Rattle.std.proofs.lemmas.Bool.{cases_Bool, and_parts, and_from, false≢true}
use Rattle.std.proofs.lemmas.List.{append-nil}
use Rattle.heap_model.specs.declared.Act.{Act}
use Rattle.heap_model.specs.declared.Act.TheVariants as acts
use Rattle.heap_model.specs.declared.Entry.{Entry}
use Rattle.heap_model.specs.CallState.{Configuration}
use Rattle.heap_model.specs.History.{own, configuration_after, configuration_of}
use Rattle.heap_model.specs.Legal.{after}
use Rattle.heap_model.specs.Geometry.{words_of}
use Rattle.heap_model.specs.Shape.{copying, zeros, moving, zeroing_more}
use Rattle.heap_model.specs.State.{Setting, Span, insert_span}
use Rattle.heap_soundness.specs.Sound.{IsOneOf}
use Rattle.call_laws.specs.Within.{by_all}
use Rattle.claim_rule.specs.Entries.{IsLegalWith, entry}
use Rattle.claim_rule.proofs.Lists.{own-append}
use Rattle.step_parts.specs.Seen.{IsSeen}
use Rattle.step_parts.proofs.BlockWords.{in_lfh, into_lfh}
use Rattle.heap_gate.specs.Token.{Token}
use Rattle.heap_gate.specs.Calls.{Does}
use Rattle.lfh_claims.specs.Stays.{stays_in, all_stay, all_leave_spans, IsInside, HasRead}
use Rattle.lfh_claims.proofs.Stays.{read_stays}
use Rattle.call_parts.specs.Calls.{GoesOn}
use Rattle.move_parts.specs.Places.{is_making}

-- the act makes, or loads or stores a word
abbrev pub is_filling : Act → Bool
is_filling (acts.Reserve segment) = true
is_filling (acts.Span first pages kind bucket slot) = true
is_filling (acts.Place start granules layer) = true
is_filling (acts.Load w v) = true
is_filling (acts.Store w v) = true
is_filling _ = false

abbrev pub all_fill : List Act → Bool
all_fill xs = list_all is_filling xs

---- Lists of such acts

pub fill-append : (xs ys : List Act) → all_fill xs ≡ true → all_fill ys ≡ true → all_fill (xs ++ ys) ≡ true
fill-append [] ys h k = k
fill-append (x ∷ xs) ys h k = let p = and_parts (is_filling x) (all_fill xs) h in and_from (is_filling x) (all_fill (xs ++ ys)) p.0 (fill-append xs ys p.1 k)

making_fills : (x : Act) → is_making x ≡ true → is_filling x ≡ true
making_fills (acts.Reserve segment) h = refl
making_fills (acts.Span first pages kind bucket slot) h = refl
making_fills (acts.Place start granules layer) h = refl
making_fills _ h = absurd (false≢true h)

pub making_fill : (xs : List Act) → list_all is_making xs ≡ true → all_fill xs ≡ true
making_fill [] h = refl
making_fill (x ∷ xs) h = let p = and_parts (is_making x) (list_all is_making xs) h in and_from (is_filling x) (all_fill xs) (making_fills x p.0) (making_fill xs p.1)

zeros_fill : (zero_it : Bool) (word count : ℕ) → all_fill (zeros zero_it word count) ≡ true
zeros_fill false word count = refl
zeros_fill true word zero = refl
zeros_fill true word (suc count) = zeros_fill true (word + 1) count

copying_fill : (from to : ℕ) (values : List ℕ) → all_fill (copying from to values) ≡ true
copying_fill from to [] = refl
copying_fill from to (v ∷ vs) = copying_fill (from + 1) (to + 1) vs

pub moving_fill : (addr size b n : ℕ) (zero_it : Bool) (values : List ℕ) → all_fill (moving addr size b n zero_it values) ≡ true
moving_fill addr size b n zero_it values =
    fill-append (copying (addr / 8) (b / 8) values) (zeroing_more zero_it b size n) (copying_fill (addr / 8) (b / 8) values) (zeros_fill zero_it (b / 8 + words_of size) (words_of n - words_of size))

---- Entries of such acts

abbrev entries_fill : List Entry → Bool
entries_fill es = list_all (λ e. is_filling e.act) es

entries_of : (n : ℕ) (xs : List Act) → all_fill xs ≡ true → entries_fill (by_all n xs) ≡ true
entries_of n [] h = refl
entries_of n (x ∷ xs) h = let p = and_parts (is_filling x) (all_fill xs) h in and_from (is_filling x) (entries_fill (by_all n xs)) p.0 (entries_of n xs p.1)

fill_parts : (xs ys : List Entry) → entries_fill (xs ++ ys) ≡ true → (entries_fill xs ≡ true) × (entries_fill ys ≡ true)
fill_parts [] ys h = (refl, h)
fill_parts (x ∷ xs) ys h =
    let p = and_parts (is_filling x.act) (entries_fill (xs ++ ys)) h in let q = fill_parts xs ys p.1 in
    (and_from (is_filling x.act) (entries_fill xs) p.0 q.0, q.1)

fill_stays : (x : Act) → is_filling x ≡ true → stays_in x ≡ true
fill_stays (acts.Reserve segment) h = refl
fill_stays (acts.Span first pages kind bucket slot) h = refl
fill_stays (acts.Place start granules layer) h = refl
fill_stays (acts.Load w v) h = refl
fill_stays (acts.Store w v) h = refl
fill_stays _ h = absurd (false≢true h)

all_fill_stay : (es : List Entry) → entries_fill es ≡ true → all_stay es ≡ true
all_fill_stay [] h = refl
all_fill_stay (e ∷ es) h = let p = and_parts (is_filling e.act) (entries_fill es) h in and_from (stays_in e.act) (all_stay es) (fill_stays e.act p.0) (all_fill_stay es p.1)

---- Spans that are there stay through them

still_in : (x y : Span) (ys : List Span) → IsOneOf x ys → IsOneOf x (insert_span y ys)
still_in x y [] i = absurd i
still_in x y (z ∷ zs) i = elim (cases_Bool (ltb y.first z.first)) [
  | inl e ↦ rw e (inr i)
  | inr e ↦ rw e (by i (still_in x y zs))
]
  where
    by : IsOneOf x (z ∷ zs) → (IsOneOf x zs → IsOneOf x (insert_span y zs)) → IsOneOf x (z ∷ insert_span y zs)
    by (inl f) again = inl f
    by (inr j) again = inr (again j)

seen_one : (s : Setting) (m : Configuration) (c : ℕ) (act : Act) (head b t : ℕ) → is_filling act ≡ true → IsSeen m head b t → IsSeen (after s m (entry c act)) head b t
seen_one s m c (acts.Span first pages kind bucket slot) head b t h z =
    let y : Span = record { first = first; pages = pages; kind = kind; bucket = bucket; slot = slot } in
    let i = in_lfh m.state.back.area.spans z.span z.there in
    record { span = z.span; there = into_lfh (insert_span y m.state.back.area.spans) z.span (still_in z.span y m.state.back.area.spans i.0) i.1; begins = z.begins; bucket = z.bucket; slot = z.slot }
seen_one s m c (acts.Reserve segment) head b t h z = record { span = z.span; there = z.there; begins = z.begins; bucket = z.bucket; slot = z.slot }
seen_one s m c (acts.Place start granules layer) head b t h z = record { span = z.span; there = z.there; begins = z.begins; bucket = z.bucket; slot = z.slot }
seen_one s m c (acts.Load w v) head b t h z = record { span = z.span; there = z.there; begins = z.begins; bucket = z.bucket; slot = z.slot }
seen_one s m c (acts.Store w v) head b t h z = record { span = z.span; there = z.there; begins = z.begins; bucket = z.bucket; slot = z.slot }
seen_one s m c _ head b t h z = absurd (false≢true h)

seen_all : (s : Setting) (m : Configuration) (es : List Entry) (head b t : ℕ) → entries_fill es ≡ true → IsSeen m head b t → IsSeen (configuration_after s m es) head b t
seen_all s m [] head b t h z = z
seen_all s m (e ∷ es) head b t h z = let p = and_parts (is_filling e.act) (entries_fill es) h in seen_all s (after s m e) es head b t p.1 (seen_one s m e.caller e.act head b t p.0 z)

---- The token

cancelled : (xs ys zs : List Entry) → xs ++ ys ≡ xs ++ zs → ys ≡ zs
cancelled [] ys zs e = e
cancelled (x ∷ xs) ys zs e = cancelled xs ys zs (cc (e))

module _ (c u : Token) (added : List Act) (g : GoesOn c u added) (none : c.prepared ≡ []) (legal : IsLegalWith u.opening u.roll u.seen) (fill : all_fill added ≡ true) (inside : IsInside c) where
  -- what it has added is in the list, and then prepared
  parts : own c.number g.seen.0 ++ u.prepared ≡ by_all c.number added
  parts =
      let n = c.number in
      let all : own n u.seen ++ u.prepared ≡ own n c.seen ++ by_all n added =
      (λ j. own (sym g.number j) u.seen ++ u.prepared) ∙ (g.own ∙ (λ j. (own n c.seen ++ none j) ++ by_all n added) ∙ ap (λ (l : List Entry). l ++ by_all n added) (append-nil (own n c.seen))) in
      let split : own n u.seen ≡ own n c.seen ++ own n g.seen.0 = ap (own n) (sym g.seen.1) ∙ own-append n c.seen g.seen.0 in
      cancelled (own n c.seen) (own n g.seen.0 ++ u.prepared) (by_all n added) (sym (append_assoc (own n c.seen) (own n g.seen.0) u.prepared) ∙ (ap (λ (l : List Entry). l ++ u.prepared) (sym split) ∙ all))

  both : (entries_fill (own c.number g.seen.0) ≡ true) × (entries_fill u.prepared ≡ true)
  both = fill_parts (own c.number g.seen.0) u.prepared (ap entries_fill parts ∙ entries_of c.number added fill)

  -- the caller where nothing is prepared yet
  abbrev settled : Token
  settled = record u { prepared = [] }

  does : Does c settled (own c.number g.seen.0)
  does = record {
    table = g.table;
    opening = g.opening;
    number = g.number;
    roll = g.roll;
    seen = g.seen;
    own = ap (own c.number) (sym g.seen.1) ∙ (own-append c.number c.seen g.seen.0 ∙ ap (λ (l : List Entry). own c.number c.seen ++ (l ++ own c.number g.seen.0)) (sym none));
    prepared = refl;
    legal = legal;
  }

  pub read_on : (head b t : ℕ) → HasRead c head b t → HasRead u head b t
  read_on head b t h s q =
      let stay = ap (λ (l : List Entry). all_stay (l ++ own c.number g.seen.0)) none ∙ all_fill_stay (own c.number g.seen.0) both.0 in
      seen_all s (configuration_of s u.seen) u.prepared head b t both.1 (read_stays c settled (own c.number g.seen.0) does stay (ap all_leave_spans none) inside head b t h s q)
