-- On runs over bytes in memory.
use Rattle.std.proofs.Common.{◌≡◌, ℕ, zero, suc, ◌<◌, ◌≤◌, Bool, List, [], ◌∷◌, ◌++◌, length, take, drop, codes, Some, Err, refl, sym, subst, ◌∙◌, arith, inl, inr, ◌⊎◌, append-nil}
use Rattle.outside_io.specs.Faults.{Rose}
use Rattle.command_words.specs.declared.setting.Mode.{Mode}
use Rattle.command_words.specs.declared.setting.Mode.TheVariants.{Run, One, Gen}
use Rattle.command_words.specs.declared.setting.Setting.{Setting}
use Rattle.script_text.specs.declared.faults.ScriptFault.{ScriptFault}
use Rattle.run_ending.specs.declared.ending.Due.{Due}
use Rattle.run_ending.specs.declared.ending.Due.TheVariants as dues
use Rattle.command_run.specs.Words.{SetsAlone, SetsNothingAlone}
use Rattle.run_ending.specs.Ending.{Writes, OneOf, IsStatus, fault_text_of, status_due, text_due}
use Rattle.command_run.specs.Due.{script_of, IsReport, IsDue, IsOutput, Ends}
use Rattle.command_run.specs.OverBytes.{IsWhole, IsFront, IsTold, OverBytes, RunsOverBytes}
use Rattle.command_run.proofs.DueLemmas.{Cause, cause_of}
use Rattle.run_ending.proofs.Endings as endings
use Rattle.run_ending.proofs.Endings.{all_written, one_of, read_front}
use Rattle.command_run.proofs.EndLemmas.{no_read_failed, no_write_failed, output}

-- the bytes behind the front that was read
rest_behind : (n : ℕ) (text rest : List ℕ) → length text ≤ n → (length text < n → rest ≡ []) → rest ≡ drop n (text ++ rest)
rest_behind zero [] rest l e = refl
rest_behind (suc n) [] rest l e = let f = e (omega arith) in rw f refl
rest_behind zero (x ∷ xs) rest l e = absurd (omega arith)
rest_behind (suc n) (x ∷ xs) rest l e = rest_behind n xs rest (omega arith) (λ k. e (omega arith))

-- all of the bytes were read
all_read : (bytes text rest : List ℕ) → bytes ≡ text ++ rest → rest ≡ [] → text ≡ bytes
all_read bytes text rest r e = sym (rw e at r ∙ append-nil text)

-- a count that rose from 0
some : (n : ℕ) → Rose 0 n → 0 < n
some n (inl l) = l
some n (inr e) = omega (arith, e)

-- no text that is due has this status
below_five : (d : Due) → status_due d < 5
below_five dues.Usage = omega arith
below_five dues.Unread = omega arith
below_five (dues.Report t) = omega arith
below_five (dues.Summary t) = omega arith
below_five (dues.Refused f) = omega arith

module _ (words : List (List ℕ)) (bytes left : List ℕ) (reads : ℕ) (held : List ℕ) (writes : ℕ) (b : Bool) (status : ℕ) where
  abbrev End : Type 0
  End = Ends words (Some bytes) (Some left) 0 reads (Some []) (Some held) 0 writes b status

  abbrev Written : Due → Type 0
  Written d = Writes (Some []) (Some held) 0 writes b (status_due d) (text_due d) status

  abbrev IsDueNow : Due → Type 0
  IsDueNow d = IsDue words (Some bytes) (Some left) 0 reads d

  abbrev CauseOf : Due → Type 0
  CauseOf d = Cause words (Some bytes) (Some left) 0 reads d

  -- a text that is due was written whole
  record Whole : Type 0 where
    due : Due
    cause : CauseOf due
    status_is : status_due due ≡ status
    whole : IsWhole (text_due due) held writes b

  whole_below : End → status < 5 → Whole
  whole_below (inr h) l = absurd (omega (arith, l, h.memory))
  whole_below (inl h) l =
      let x = all_written (Some []) (Some held) 0 writes b (status_due h.0) (text_due h.0) status h.2 l in
      record {
        due = h.0;
        cause = cause_of words (Some bytes) (Some left) 0 reads h.0 h.1;
        status_is = x.0;
        whole = record {
          held_is = x.1;
          none_failed = no_write_failed words (Some bytes) (Some left) 0 reads (Some []) (Some held) 0 writes b status (inl h) (λ e. omega (arith, l, e));
          finished_is = x.2;
        };
      }

  abbrev Output : Type 0
  Output = (setting : Setting) × SetsAlone words setting × (reads ≡ 0) × (text : List ℕ) × IsTold setting.mode setting bytes left text × IsWhole text held writes b

  told : (mode : Mode) (setting : Setting) (text : List ℕ) → IsOutput mode setting (Some bytes) (Some left) text → IsTold mode setting bytes left text
  told Run setting text i = absurd i
  told One setting text i =
      let end : left ≡ [] = i.end in
      let all = all_read bytes i.text left i.read end in
      (end, subst (λ (t : List ℕ). IsReport setting t text) all i.report)
  told Gen setting text i = (i.unread, i.summary)

  output_told : End → status ≡ 0 → Output
  output_told e z =
      let x = output words (Some bytes) (Some left) 0 reads (Some []) (Some held) 0 writes b status e z in (
        x.0,
        x.1,
        no_read_failed words (Some bytes) (Some left) 0 reads (Some []) (Some held) 0 writes b status e (omega (arith, z)),
        x.2,
        told x.0.mode x.0 x.2 x.3,
        record {
          held_is = x.4;
          none_failed = no_write_failed words (Some bytes) (Some left) 0 reads (Some []) (Some held) 0 writes b status e (λ f. omega (arith, z, f));
          finished_is = x.5;
        },
      )

  abbrev Usage : Type 0
  Usage = SetsNothingAlone words × (reads ≡ 0) × (left ≡ bytes) × IsWhole (codes "usage fault\n") held writes b

  usage : Whole → status ≡ 2 → Usage
  usage w z = go w.due w.cause (w.status_is ∙ z) w.whole
    where
      go : (d : Due) → CauseOf d → status_due d ≡ 2 → IsWhole (text_due d) held writes b → Usage
      go dues.Usage i s t = (i.0, i.2, i.1, t)
      go dues.Unread i s t = absurd (omega (arith, s))
      go (dues.Report r) i s t = absurd (omega (arith, s))
      go (dues.Refused f) i s t = absurd (omega (arith, s))
      go (dues.Summary r) i s t = absurd (omega (arith, s))

  abbrev Refused : Type 0
  Refused = (setting : Setting) × SetsAlone words setting × (setting.mode ≡ One) × (reads ≡ 0) × (left ≡ drop 1048577 bytes)
      × (fault : ScriptFault) × (script_of (take 1048577 bytes) ≡ Err fault) × IsWhole (fault_text_of fault) held writes b

  refused : Whole → status ≡ 3 → Refused
  refused w z = go w.due w.cause (w.status_is ∙ z) w.whole
    where
      go : (d : Due) → CauseOf d → status_due d ≡ 3 → IsWhole (text_due d) held writes b → Refused
      go dues.Usage i s t = absurd (omega (arith, s))
      go dues.Unread i s t = absurd (omega (arith, s))
      go (dues.Report r) i s t = absurd (omega (arith, s))
      go (dues.Summary r) i s t = absurd (omega (arith, s))
      go (dues.Refused f) i s t =
          let front = read_front bytes (Some left) i.2 i.3 in
          let read : bytes ≡ i.2 ++ left = i.3.read in
          let behind = rest_behind 1048577 i.2 left i.3.most i.3.end in (
            i.0.0,
            i.0.1,
            i.0.2,
            i.1,
            subst (λ (x : List ℕ). left ≡ drop 1048577 x) (sym read) behind,
            f,
            subst (λ (x : List ℕ). script_of x ≡ Err f) front i.4,
            t,
          )

  abbrev Unread : Type 0
  Unread = (setting : Setting) × SetsAlone words setting × (setting.mode ≡ One) × (0 < reads) × IsWhole (codes "read fault\n") held writes b

  unread : Whole → status ≡ 4 → Unread
  unread w z = go w.due w.cause (w.status_is ∙ z) w.whole
    where
      go : (d : Due) → CauseOf d → status_due d ≡ 4 → IsWhole (text_due d) held writes b → Unread
      go dues.Usage i s t = absurd (omega (arith, s))
      go dues.Unread i s t = (i.0.0, i.0.1, i.0.2, some reads i.1, t)
      go (dues.Report r) i s t = absurd (omega (arith, s))
      go (dues.Refused f) i s t = absurd (omega (arith, s))
      go (dues.Summary r) i s t = absurd (omega (arith, s))

  unwritten : End → status ≡ 5 → (0 < writes) × IsFront words bytes left reads held
  unwritten e z =
      let x = endings.unwritten IsDueNow (Some bytes) (Some left) 0 reads (Some []) (Some held) 0 writes b status e z in
      (some writes x.0, (x.1, x.2, x.3.0, x.3.1))

  memory : End → status ≡ 6 → (writes ≡ 0) × ((held ≡ []) ⊎ IsFront words bytes left reads held)
  memory (inr h) z = (h.no_write_failed, inl h.unwritten)
  memory (inl h) z = go h.2
    where
      go : Written h.0 → (writes ≡ 0) × ((held ≡ []) ⊎ IsFront words bytes left reads held)
      go (inl w) = absurd (omega (arith, below_five h.0, w.0, z))
      go (inr (inl w)) = absurd (omega (arith, z, w.0))
      go (inr (inr w)) = (w.2, inr (h.0, h.1, w.1.0, w.1.1))

  statuses : End → IsStatus status
  statuses = endings.statuses IsDueNow (Some bytes) (Some left) 0 reads (Some []) (Some held) 0 writes b status

  read_failed : End → (setting : Setting) → SetsAlone words setting → 0 < reads → OneOf 4 status
  read_failed (inr h) setting x l = inr (inr h.memory)
  read_failed (inl h) setting x l = go h.0 (cause_of words (Some bytes) (Some left) 0 reads h.0 h.1) h.2
    where
      go : (d : Due) → CauseOf d → Written d → OneOf 4 status
      go dues.Usage i w = absurd (i.0 setting x)
      go dues.Unread i w = one_of (Some []) (Some held) 0 writes b 4 (text_due dues.Unread) status w
      go (dues.Report t) i w = absurd (omega (arith, l, i.1))
      go (dues.Refused f) i w = absurd (omega (arith, l, i.1))
      go (dues.Summary t) i w = absurd (omega (arith, l, i.1))

  write_failed : End → 0 < writes → status ≡ 5
  write_failed (inr h) l = absurd (omega (arith, l, h.no_write_failed))
  write_failed (inl h) l = go h.2
    where
      go : Written h.0 → status ≡ 5
      go (inl w) = absurd (omega (arith, l, w.3))
      go (inr (inl w)) = w.0
      go (inr (inr w)) = absurd (omega (arith, l, w.2))

  over : End → OverBytes words bytes left reads held writes b status
  over e =
      record {
        output = output_told e;
        usage = λ z. usage (whole_below e (omega (arith, z))) z;
        refused = λ z. refused (whole_below e (omega (arith, z))) z;
        unread = λ z. unread (whole_below e (omega (arith, z))) z;
        unwritten = unwritten e;
        memory = memory e;
        statuses = statuses e;
        read_failed = read_failed e;
        write_failed = write_failed e;
      }

pub over_bytes : RunsOverBytes
over_bytes = over
