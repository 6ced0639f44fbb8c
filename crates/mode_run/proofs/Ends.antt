-- What each status says in mode `run`.
use Rattle.std.proofs.Common.{◌≡◌, ◌≢◌, ◌⊎◌, ℕ, ◌<◌, Bool, true, List, take, codes, Option, Some, Ok, Err, refl, sym, subst, ◌∙◌, arith}
use Rattle.std.specs.Io.KnownBytes.{Appends}
use Rattle.outside_io.specs.Faults.{Rose, Stands, AppendsPart}
use Rattle.heap_model.specs.declared.Entry.{Entry}
use Rattle.heap_model.specs.declared.Limits.{Limits}
use Rattle.layout_decode.specs.declared.Image.{Image}
use Rattle.report_text.specs.Text.{bytes_of}
use Rattle.script_text.specs.Reading.{reading_of}
use Rattle.script_text.specs.ThreadLines.{ScriptLines}
use Rattle.script_text.specs.declared.faults.ScriptFault.{ScriptFault}
use Rattle.run_ending.specs.declared.ending.Due.{Due}
use Rattle.run_ending.specs.declared.ending.Due.TheVariants as dues
use Rattle.run_ending.specs.Ending.{Reads, ReadsFew, OneOf, status_due, text_due}
use Rattle.run_ending.proofs.Endings as endings
use Rattle.run_ending.proofs.Endings.{Whole, read_front, whole_script, read_to_end}
use Rattle.thread_rounds.specs.Headline.{IsRunReported}
use Rattle.mode_run.specs.Due.{IsReport, IsRefused, IsDueRun, EndsRun}

---- What was read

module _ (limits : Limits) (seed : ℕ) (left now : Option (List ℕ)) (fo fn : ℕ) where
  abbrev IsDueHere : Due → Type 0
  IsDueHere d = IsDueRun limits seed left now fo fn d

  pub few_due : (d : Due) → IsDueHere d → ReadsFew left now
  few_due dues.Usage i = absurd i
  few_due dues.Unread i = i.1
  few_due (dues.Summary t) i = absurd i
  few_due (dues.Report t) i = (i.1, i.2.read, i.2.most)
  few_due (dues.Refused x) i = (i.1, i.2.read, i.2.most)

  pub stands_due : (d : Due) → IsDueHere d → status_due d < 4 → Stands fo fn
  stands_due dues.Usage i l = absurd i
  stands_due dues.Unread i l = absurd (omega (arith, l))
  stands_due (dues.Summary t) i l = absurd i
  stands_due (dues.Report t) i l = i.0
  stands_due (dues.Refused x) i l = i.0

---- How a run ends

module _ (limits : Limits) (seed : ℕ) (left now : Option (List ℕ)) (fo fn : ℕ) (held held' : Option (List ℕ)) (ko kn : ℕ) (b : Bool) (status : ℕ) where
  abbrev End : Type 0
  End = EndsRun limits seed left now fo fn held held' ko kn b status

  abbrev IsDueNow : Due → Type 0
  IsDueNow d = IsDueRun limits seed left now fo fn d

  abbrev WholeNow : Type 0
  WholeNow = Whole IsDueNow left now fo fn held held' ko kn b status

  whole : End → status < 5 → WholeNow
  whole e l = endings.whole IsDueNow left now fo fn held held' ko kn b status e l

  abbrev Headline : Type 0
  Headline = (image : Image) × (history : List Entry) × IsRunReported limits seed left now held held' b image history

  pub headline : End → status ≡ 0 → Headline
  headline e z = let w = whole e (omega (arith, z)) in go w.due w.is_due (w.status_is ∙ z) w.appends w.finished
    where
      go : (d : Due) → IsDueNow d → status_due d ≡ 0 → Appends held held' (text_due d) → b ≡ true → Headline
      go dues.Usage i s a f = absurd i
      go dues.Unread i s a f = absurd (omega (arith, s))
      go (dues.Refused x) i s a f = absurd (omega (arith, s))
      go (dues.Summary t) i s a f = absurd i
      go (dues.Report t) i s a f =
          let head = i.3.2 in (
            i.3.0,
            i.3.1,
            record {
              text = i.1;
              read = i.2.read;
              end = i.2.end (read_to_end i.1 head.script head.read);
              written = bytes_of t;
              appends = a;
              finished_is = f;
              headline = head;
            },
          )

  abbrev Refused : Type 0
  Refused = (text : List ℕ) × IsRefused left now fo fn text × Appends held held' text × (b ≡ true)

  pub refused : End → status ≡ 3 → Refused
  refused e z = let w = whole e (omega (arith, z)) in go w.due w.is_due (w.status_is ∙ z) w.appends w.finished
    where
      go : (d : Due) → IsDueNow d → status_due d ≡ 3 → Appends held held' (text_due d) → b ≡ true → Refused
      go dues.Usage i s a f = absurd i
      go dues.Unread i s a f = absurd (omega (arith, s))
      go (dues.Summary t) i s a f = absurd i
      go (dues.Report t) i s a f = absurd (omega (arith, s))
      go (dues.Refused x) i s a f = (text_due (dues.Refused x), record { none_failed = i.0; text = i.1; read = i.2; fault = x; first = i.3; line = refl }, a, f)

  abbrev Unread : Type 0
  Unread = Rose fo fn × Appends held held' (codes "read fault\n") × (b ≡ true)

  pub unread : End → status ≡ 4 → Unread
  unread e z = let w = whole e (omega (arith, z)) in go w.due w.is_due (w.status_is ∙ z) w.appends w.finished
    where
      go : (d : Due) → IsDueNow d → status_due d ≡ 4 → Appends held held' (text_due d) → b ≡ true → Unread
      go dues.Usage i s a f = absurd i
      go dues.Unread i s a f = (i.0, a, f)
      go (dues.Summary t) i s a f = absurd i
      go (dues.Report t) i s a f = absurd (omega (arith, s))
      go (dues.Refused x) i s a f = absurd (omega (arith, s))

  pub refused_only : End → (bytes : List ℕ) (fault : ScriptFault) → left ≡ Some bytes → reading_of (take 1048577 bytes) ≡ Err fault → (Rose fo fn → ⊥) → OneOf 3 status
  refused_only e bytes fault l s r = endings.only IsDueNow left now fo fn held held' ko kn b status e 3 of
    where
      of : (d : Due) → IsDueNow d → status_due d ≡ 3
      of dues.Usage i = absurd i
      of dues.Unread i = absurd (r i.0)
      of (dues.Summary t) i = absurd i
      of (dues.Refused x) i = refl
      of (dues.Report t) i =
          let head = i.3.2 in
          let front = read_front bytes now i.1 (subst (λ (x : Option (List ℕ)). Reads x now i.1) l i.2) in
          let p : reading_of (take 1048577 bytes) ≡ Ok head.script = subst (λ (x : List ℕ). reading_of x ≡ Ok head.script) front head.read in
          absurd (let q : Err fault ≡ Ok head.script = sym s ∙ p in let z : ⊥ = cc in z)

  pub complete : End → (bytes : List ℕ) (script : ScriptLines) → left ≡ Some bytes → reading_of bytes ≡ Ok script → (Rose fo fn → ⊥) → (Rose ko kn → ⊥) → (status ≡ 0) ⊎ (status ≡ 6)
  complete e bytes script l s r k = endings.complete IsDueNow left now fo fn held held' ko kn b status e of k
    where
      of : (d : Due) → IsDueNow d → status_due d ≡ 0
      of dues.Usage i = absurd i
      of dues.Unread i = absurd (r i.0)
      of (dues.Summary t) i = absurd i
      of (dues.Report t) i = refl
      of (dues.Refused x) i =
          let same = whole_script bytes script now i.1 s (subst (λ (y : Option (List ℕ)). Reads y now i.1) l i.2) in
          let p : reading_of bytes ≡ Err x = subst (λ (y : List ℕ). reading_of y ≡ Err x) same i.3 in
          absurd (let q : Err x ≡ Ok script = sym p ∙ s in let z : ⊥ = cc in z)

  pub reads_few : End → ReadsFew left now
  reads_few e = endings.reads_few IsDueNow left now fo fn held held' ko kn b status e (few_due limits seed left now fo fn)

  pub no_read_failed : End → status < 4 → Stands fo fn
  no_read_failed e l = endings.no_read_failed IsDueNow left now fo fn held held' ko kn b status e l (stands_due limits seed left now fo fn)
