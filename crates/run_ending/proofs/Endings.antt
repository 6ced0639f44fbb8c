-- On how a run ends, whatever is said of what is due.
use Rattle.std.proofs.Common.{◌≡◌, ◌≢◌, ℕ, zero, suc, ◌<◌, ◌≤◌, Bool, true, List, [], ◌∷◌, ◌++◌, length, take, Some, None, Option, Ok, Err, refl, ap, sym, ◌∙◌, arith, inl, inr, ◌⊎◌, length-append, append-nil}
use Rattle.std.proofs.lemmas.Bool.{lt-ltb, cases_lt}
use Rattle.std.specs.Io.KnownBytes.{Appends, Keeps}
use Rattle.outside_io.specs.Faults.{Rose, Stands, AppendsPart}
use Rattle.script_text.specs.declared.faults.Cause.TheVariants as causes
use Rattle.script_text.specs.declared.faults.ScriptFault.{ScriptFault}
use Rattle.script_text.specs.Reading.{reading_of}
use Rattle.script_text.specs.ThreadLines.{ScriptLines}
use Rattle.run_ending.specs.declared.ending.Due.{Due}
use Rattle.run_ending.specs.declared.ending.Due.TheVariants as dues
use Rattle.run_ending.specs.Ending.{ReadsFew, Reads, Writes, EndsBy, OneOf, IsStatus, status_due, text_due}

---- What was written

module _ (held now : Option (List ℕ)) (f f' : ℕ) (b : Bool) (due : ℕ) (text : List ℕ) (status : ℕ) where
  pub one_of : Writes held now f f' b due text status → OneOf due status
  one_of (inl h) = inl h.0
  one_of (inr (inl h)) = inr (inl h.0)
  one_of (inr (inr h)) = inr (inr h.0)

  -- without a fault of the sink
  pub done_or_none : Writes held now f f' b due text status → (Rose f f' → ⊥) → (status ≡ due) ⊎ (status ≡ 6)
  done_or_none (inl h) r = inl h.0
  done_or_none (inr (inl h)) r = absurd (r h.1)
  done_or_none (inr (inr h)) r = inr h.0

  pub none_failed : Writes held now f f' b due text status → status ≢ 5 → Stands f f'
  none_failed (inl h) n = h.3
  none_failed (inr (inl h)) n = absurd (n h.0)
  none_failed (inr (inr h)) n = h.2

  pub all_written : Writes held now f f' b due text status → status < 5 → (due ≡ status) × Appends held now text × (b ≡ true)
  all_written (inl h) l = (sym h.0, h.1, h.2)
  all_written (inr (inl h)) l = absurd (omega (arith, l, h.0))
  all_written (inr (inr h)) l = absurd (omega (arith, l, h.0))

---- What was read

pub unread : (left : Option (List ℕ)) → Keeps left left
unread None = tt
unread (Some xs) = refl

pub none_read : (left now : Option (List ℕ)) → Keeps left now → ReadsFew left now
none_read None now k = ([], tt, omega arith)
none_read (Some xs) None k = absurd k
none_read (Some xs) (Some ys) k = ([], sym k, omega arith)

-- the front that was read
front : (n : ℕ) (text rest : List ℕ) → length text ≤ n → (length text < n → rest ≡ []) → text ≡ take n (text ++ rest)
front zero [] rest l e = refl
front (suc n) [] rest l e = let f = e (omega arith) in rw f refl
front zero (x ∷ xs) rest l e = absurd (omega arith)
front (suc n) (x ∷ xs) rest l e = ap (λ (ys : List ℕ). x ∷ ys) (front n xs rest (omega arith) (λ k. e (omega arith)))

pub read_front : (bytes : List ℕ) (now : Option (List ℕ)) (text : List ℕ) → Reads (Some bytes) now text → text ≡ take 1048577 bytes
read_front bytes None text r = absurd r.read
read_front bytes (Some rest) text r = let e : bytes ≡ text ++ rest = r.read in rw e (front 1048577 text rest r.most r.end)

-- a text that is too long is no script
too_long : (text : List ℕ) (script : ScriptLines) → 1048576 < length text → reading_of text ≡ Ok script → ⊥
unfolding reading_of
too_long text script l s =
    let t = lt-ltb 1048576 (length text) l in
    let fault : ScriptFault = record { line = 0; cause = causes.TooLong } in
    let g : Err fault ≡ Ok script = rw t at s in
    let z : ⊥ = cc in z

-- what was read was all that was left, where it is a script
pub read_to_end : (text : List ℕ) (script : ScriptLines) → reading_of text ≡ Ok script → length text < 1048577
read_to_end text script s = elim (cases_lt (length text) 1048577) [
  | inl k ↦ k
  | inr k ↦ absurd (too_long text script (omega arith) s)
]

-- a script has been read whole
pub whole_script : (bytes : List ℕ) (script : ScriptLines) (now : Option (List ℕ)) (text : List ℕ) → reading_of bytes ≡ Ok script → Reads (Some bytes) now text → text ≡ bytes
whole_script bytes script None text s r = absurd r.read
whole_script bytes script (Some rest) text s r = elim (cases_lt (length text) 1048577) [
  | inl k ↦ let e : rest ≡ [] = r.end k in let f : bytes ≡ text ++ rest = r.read in sym (rw e at f ∙ append-nil text)
  | inr k ↦
      let f : bytes ≡ text ++ rest = r.read in
      let long : 1048576 < length bytes = rw f (omega (arith, length-append text rest)) in
      absurd (too_long bytes script long s)
]

---- How a run ends

module _ (IsDue : Due → Type 0) (left now : Option (List ℕ)) (fo fn : ℕ) (held held' : Option (List ℕ)) (ko kn : ℕ) (b : Bool) (status : ℕ) where
  -- it ends so
  abbrev pub End : Type 0
  End = EndsBy IsDue left now fo fn held held' ko kn b status

  -- What was due was written whole.
  pub record Whole : Type 0 where
    pub due : Due
    pub is_due : IsDue due
    pub status_is : status_due due ≡ status
    pub appends : Appends held held' (text_due due)
    pub finished : b ≡ true

  pub whole : End → status < 5 → Whole
  whole (inr h) l = absurd (omega (arith, l, h.memory))
  whole (inl h) l =
      let x = all_written held held' ko kn b (status_due h.0) (text_due h.0) status h.2 l in
      record { due = h.0; is_due = h.1; status_is = x.0; appends = x.1; finished = x.2 }

  -- .. where each text that is due has one status
  pub only : End → (s : ℕ) → ((d : Due) → IsDue d → status_due d ≡ s) → OneOf s status
  only (inr h) s e = inr (inr h.memory)
  only (inl h) s e = rw (← e h.0 h.1) (one_of held held' ko kn b (status_due h.0) (text_due h.0) status h.2)

  pub complete : End → ((d : Due) → IsDue d → status_due d ≡ 0) → (Rose ko kn → ⊥) → (status ≡ 0) ⊎ (status ≡ 6)
  complete (inr h) e k = inr h.memory
  complete (inl h) e k = rw (← e h.0 h.1) (done_or_none held held' ko kn b (status_due h.0) (text_due h.0) status h.2 k)

  pub reads_few : End → ((d : Due) → IsDue d → ReadsFew left now) → ReadsFew left now
  reads_few (inr h) e = h.few
  reads_few (inl h) e = e h.0 h.1

  pub no_write_failed : End → status ≢ 5 → Stands ko kn
  no_write_failed (inr h) n = h.no_write_failed
  no_write_failed (inl h) n = none_failed held held' ko kn b (status_due h.0) (text_due h.0) status h.2 n

  pub no_read_failed : End → status < 4 → ((d : Due) → IsDue d → status_due d < 4 → Stands fo fn) → Stands fo fn
  no_read_failed (inr h) l e = h.no_read_failed
  no_read_failed (inl h) l e = let w = whole (inl h) (omega (arith, l)) in e w.due w.is_due (omega (arith, l, w.status_is))

-- A run ends so too by what follows for each text that is due.
pub ends_so : (P Q : Due → Type 0) (left now : Option (List ℕ)) (fo fn : ℕ) (held held' : Option (List ℕ)) (ko kn : ℕ) (b : Bool) (status : ℕ) → ((d : Due) → P d → Q d)
    → EndsBy P left now fo fn held held' ko kn b status → EndsBy Q left now fo fn held held' ko kn b status
ends_so P Q left now fo fn held held' ko kn b status f (inr h) = inr h
ends_so P Q left now fo fn held held' ko kn b status f (inl h) = inl (h.0, f h.0 h.1, h.2)

-- no text that is due has the status of a failed write
below_five : (d : Due) → status_due d < 5
below_five dues.Usage = omega arith
below_five dues.Unread = omega arith
below_five (dues.Report t) = omega arith
below_five (dues.Summary t) = omega arith
below_five (dues.Refused f) = omega arith

-- a write failed, and a front of what is due is there
pub unwritten : (P : Due → Type 0) (left now : Option (List ℕ)) (fo fn : ℕ) (held held' : Option (List ℕ)) (ko kn : ℕ) (b : Bool) (status : ℕ)
    → EndsBy P left now fo fn held held' ko kn b status → status ≡ 5 → Rose ko kn × (due : Due) × P due × AppendsPart held held' (text_due due)
unwritten P left now fo fn held held' ko kn b status (inr h) z = absurd (omega (arith, z, h.memory))
unwritten P left now fo fn held held' ko kn b status (inl h) z = go h.2
  where
    go : Writes held held' ko kn b (status_due h.0) (text_due h.0) status → Rose ko kn × (due : Due) × P due × AppendsPart held held' (text_due due)
    go (inl w) = absurd (omega (arith, below_five h.0, w.0, z))
    go (inr (inl w)) = (w.1, h.0, h.1, w.2)
    go (inr (inr w)) = absurd (omega (arith, z, w.0))

-- there are no other statuses
pub statuses : (P : Due → Type 0) (left now : Option (List ℕ)) (fo fn : ℕ) (held held' : Option (List ℕ)) (ko kn : ℕ) (b : Bool) (status : ℕ)
    → EndsBy P left now fo fn held held' ko kn b status → IsStatus status
statuses P left now fo fn held held' ko kn b status (inr h) = inr (inr (inr (inr (inr h.memory))))
statuses P left now fo fn held held' ko kn b status (inl h) = go h.2
  where
    of : (d : Due) → status ≡ status_due d → IsStatus status
    of dues.Usage e = inr (inl e)
    of dues.Unread e = inr (inr (inr (inl e)))
    of (dues.Report t) e = inl e
    of (dues.Summary t) e = inl e
    of (dues.Refused f) e = inr (inr (inl e))

    go : Writes held held' ko kn b (status_due h.0) (text_due h.0) status → IsStatus status
    go (inl w) = of h.0 w.0
    go (inr (inl w)) = inr (inr (inr (inr (inl w.0))))
    go (inr (inr w)) = inr (inr (inr (inr (inr w.0))))
