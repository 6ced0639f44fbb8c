-- Runs in all modes.
use Rattle.std.proofs.Common.{◌≡◌, ◌⊎◌, ℕ, ◌<◌, Bool, true, List, codes, Option, Some, None, Result, Ok, Err, IfOk, IfSome, IfNone, refl, ap, sym, subst, ◌∙◌, arith, inl, inr}
use Rattle.std.specs.Io.KnownBytes.{Appends, Keeps}
use Rattle.outside_io.specs.Faults.{Stands}
use Rattle.heap_model.specs.declared.OutOfMemory.{OutOfMemory}
use Rattle.command_words.specs.declared.setting.Mode.{Mode}
use Rattle.command_words.specs.declared.setting.Mode.TheVariants.{Run, One, Gen}
use Rattle.command_words.specs.declared.setting.Setting.{Setting}
use Rattle.command_words.specs.Settings.{limits_of, callers_of, AreWords}
use Rattle.run_ending.specs.declared.ending.Due.{Due}
use Rattle.run_ending.specs.declared.ending.Due.TheVariants as dues
use Rattle.run_ending.specs.Ending.{ReadsFew, OneOf, status_due, text_due}
use Rattle.run_ending.proofs.Endings as endings
use Rattle.run_ending.proofs.Endings.{none_read}
use Rattle.mode_run.specs.Due.{AreForThreads, IsDueRun, EndsRun}
use Rattle.mode_run.proofs.Ends as threads
use Rattle.command_run.specs.Words.{AreText, Sets, IsAlone, SetsAlone}
use Rattle.command_run.specs.Due.{IsDueBy, IsDue, Ends}
use Rattle.command_run.specs.Top.{SetsThreads, SetsNothing, IsDueInMode, IsDueInAny, EndsInAny}
use Rattle.command_run.proofs.DueLemmas.{Cause, cause_of}
use Rattle.command_run.proofs.WordLemmas.{one_setting, valid_limits}

-- words for threads give limits with a caller for each thread
pub for_threads : (words : List (List ℕ)) (s : Setting) → SetsThreads words s → AreForThreads (limits_of s)
for_threads words s x = record { valid = valid_limits words s x.sets.words_are; callers = ap (λ (m : Mode). callers_of m) x.threads }

---- What words set

pub alone_of : (m : Mode) → (m ≡ One) ⊎ (m ≡ Gen) → IsAlone m
alone_of Run (inl e) = absurd (let z : ⊥ = cc in z)
alone_of Run (inr e) = absurd (let z : ⊥ = cc in z)
alone_of One h = tt
alone_of Gen h = tt

pub set_valid : (words : List (List ℕ)) (r : Result (Option Setting) OutOfMemory) → AreText words → IfOk r (λ o. IfSome o (λ s. AreWords words s)) → IfOk r (λ o. IfSome o (Sets words))
set_valid words (Ok (Some s)) t h = record { text = t; words_are = h }
set_valid words (Ok None) t h = tt
set_valid words (Err e) t h = tt

pub set_none : (words : List (List ℕ)) (r : Result (Option Setting) OutOfMemory) → IfOk r (λ o. IfNone o ((s : Setting) → AreWords words s → ⊥)) → IfOk r (λ o. IfNone o (SetsNothing words))
set_none words (Ok (Some s)) h = tt
set_none words (Ok None) h = λ s x. h s x.words_are
set_none words (Err e) h = tt

pub no_text : (words : List (List ℕ)) → (AreText words → ⊥) → SetsNothing words
no_text words n setting s = n s.text

module _ (words : List (List ℕ)) (left now : Option (List ℕ)) (fo fn : ℕ) where
  abbrev IsDueNow : Due → Type 0
  IsDueNow d = IsDueInAny words left now fo fn d

  abbrev In : Mode → Setting → Due → Type 0
  In mode setting d = IsDueInMode mode setting left now fo fn d

  ---- One mode

  -- what is due is due in the mode that the words set
  in_mode : (setting : Setting) → Sets words setting → (d : Due) → IsDueNow d → In setting.mode setting d
  in_mode setting x d (inl u) = absurd (u.0 setting x)
  in_mode setting x d (inr s) = subst (λ (k : Setting). In k.mode k d) (one_setting words s.0 setting s.1.words_are x.words_are) s.2

  of_threads : (setting : Setting) → SetsThreads words setting → (d : Due) → IsDueNow d → IsDueRun (limits_of setting) setting.seed left now fo fn d
  of_threads setting x d i = subst (λ (m : Mode). In m setting d) x.threads (in_mode setting x.sets d i)

  to_threads : (setting : Setting) → SetsThreads words setting → (d : Due) → IsDueRun (limits_of setting) setting.seed left now fo fn d → IsDueNow d
  to_threads setting x d i = inr (setting, x.sets, subst (λ (m : Mode). In m setting d) (sym x.threads) i)

  -- the modes of one caller have one definition
  by_alone : (m : Mode) (setting : Setting) → IsAlone m → (d : Due) → In m setting d → IsDueBy m setting left now fo fn d
  by_alone Run setting a d i = absurd a
  by_alone One setting a d i = i
  by_alone Gen setting a d i = i

  in_alone : (m : Mode) (setting : Setting) → IsAlone m → (d : Due) → IsDueBy m setting left now fo fn d → In m setting d
  in_alone Run setting a d i = absurd a
  in_alone One setting a d i = i
  in_alone Gen setting a d i = i

  of_alone : (setting : Setting) → SetsAlone words setting → (d : Due) → IsDueNow d → IsDue words left now fo fn d
  of_alone setting x d i = inr (setting, x, by_alone setting.mode setting x.alone d (in_mode setting x.sets d i))

  to_alone : (setting : Setting) → SetsAlone words setting → (d : Due) → IsDue words left now fo fn d → IsDueNow d
  to_alone setting x d (inl u) = absurd (u.0 setting x)
  to_alone setting x d (inr s) = inr (s.0, s.1.sets, in_alone s.0.mode s.0 s.1.alone d s.2)

  ---- What was read

  few_cause : (d : Due) → Cause words left now fo fn d → ReadsFew left now
  few_cause dues.Usage i = none_read left now i.1
  few_cause dues.Unread i = i.2
  few_cause (dues.Report t) i = (i.2, i.3.read, i.3.most)
  few_cause (dues.Refused f) i = (i.2, i.3.read, i.3.most)
  few_cause (dues.Summary t) i = none_read left now i.2

  stands_cause : (d : Due) → Cause words left now fo fn d → status_due d < 4 → Stands fo fn
  stands_cause dues.Usage i l = i.2
  stands_cause dues.Unread i l = absurd (omega (arith, l))
  stands_cause (dues.Report t) i l = i.1
  stands_cause (dues.Refused f) i l = i.1
  stands_cause (dues.Summary t) i l = i.1

  -- the cause in a mode of one caller
  alone_cause : (m : Mode) (setting : Setting) → setting.mode ≡ m → IsAlone m → Sets words setting → (d : Due) → IsDueBy m setting left now fo fn d → Cause words left now fo fn d
  alone_cause m setting e a x d i =
      cause_of words left now fo fn d (inr (setting, record { sets = x; alone = subst IsAlone (sym e) a }, subst (λ (k : Mode). IsDueBy k setting left now fo fn d) (sym e) i))

  few_in : (m : Mode) (setting : Setting) → setting.mode ≡ m → Sets words setting → (d : Due) → In m setting d → ReadsFew left now
  few_in Run setting e x d i = threads.few_due (limits_of setting) setting.seed left now fo fn d i
  few_in One setting e x d i = few_cause d (alone_cause One setting e tt x d i)
  few_in Gen setting e x d i = few_cause d (alone_cause Gen setting e tt x d i)

  pub few_due : (d : Due) → IsDueNow d → ReadsFew left now
  few_due d (inl u) = none_read left now u.1
  few_due d (inr s) = few_in s.0.mode s.0 refl s.1 d s.2

  stands_in : (m : Mode) (setting : Setting) → setting.mode ≡ m → Sets words setting → (d : Due) → In m setting d → status_due d < 4 → Stands fo fn
  stands_in Run setting e x d i l = threads.stands_due (limits_of setting) setting.seed left now fo fn d i l
  stands_in One setting e x d i l = stands_cause d (alone_cause One setting e tt x d i) l
  stands_in Gen setting e x d i l = stands_cause d (alone_cause Gen setting e tt x d i) l

  pub stands_due : (d : Due) → IsDueNow d → status_due d < 4 → Stands fo fn
  stands_due d (inl u) l = u.2
  stands_due d (inr s) l = stands_in s.0.mode s.0 refl s.1 d s.2 l

  ---- Words that are not valid

  -- words that set a mode have no usage fault due
  no_usage : (m : Mode) (setting : Setting) (d : Due) → In m setting d → status_due d ≡ 2 → ⊥
  no_usage m setting (dues.Report t) i e = omega (arith, e)
  no_usage m setting (dues.Summary t) i e = omega (arith, e)
  no_usage m setting (dues.Refused f) i e = omega (arith, e)
  no_usage m setting dues.Unread i e = omega (arith, e)
  no_usage Run setting dues.Usage i e = i
  no_usage One setting dues.Usage i e = i.3
  no_usage Gen setting dues.Usage i e = i

  pub usage_due : SetsNothing words → (d : Due) → IsDueNow d → status_due d ≡ 2
  usage_due n d (inl u) = ap status_due u.3
  usage_due n d (inr s) = absurd (n s.0 s.1)

module _ (words : List (List ℕ)) (left now : Option (List ℕ)) (fo fn : ℕ) (held held' : Option (List ℕ)) (ko kn : ℕ) (b : Bool) (status : ℕ) where
  abbrev End : Type 0
  End = EndsInAny words left now fo fn held held' ko kn b status

  abbrev EndThreads : Setting → Type 0
  EndThreads setting = EndsRun (limits_of setting) setting.seed left now fo fn held held' ko kn b status

  abbrev IsDueEnd : Due → Type 0
  IsDueEnd d = IsDueInAny words left now fo fn d

  pub threads_only : (setting : Setting) → SetsThreads words setting → End → EndThreads setting
  threads_only setting x e =
      endings.ends_so IsDueEnd (IsDueRun (limits_of setting) setting.seed left now fo fn) left now fo fn held held' ko kn b status (of_threads words left now fo fn setting x) e

  pub threads_end : (setting : Setting) → SetsThreads words setting → EndThreads setting → End
  threads_end setting x e =
      endings.ends_so (IsDueRun (limits_of setting) setting.seed left now fo fn) IsDueEnd left now fo fn held held' ko kn b status (to_threads words left now fo fn setting x) e

  pub alone_only : (setting : Setting) → SetsAlone words setting → End → Ends words left now fo fn held held' ko kn b status
  alone_only setting x e = endings.ends_so IsDueEnd (IsDue words left now fo fn) left now fo fn held held' ko kn b status (of_alone words left now fo fn setting x) e

  pub alone_end : (setting : Setting) → SetsAlone words setting → Ends words left now fo fn held held' ko kn b status → End
  alone_end setting x e = endings.ends_so (IsDue words left now fo fn) IsDueEnd left now fo fn held held' ko kn b status (to_alone words left now fo fn setting x) e

  abbrev Usage : Type 0
  Usage = SetsNothing words × Keeps left now × Appends held held' (codes "usage fault\n") × (b ≡ true)

  pub usage : End → status ≡ 2 → Usage
  usage e z = let w = endings.whole IsDueEnd left now fo fn held held' ko kn b status e (omega (arith, z)) in go w.due w.is_due (w.status_is ∙ z) w.appends w.finished
    where
      go : (d : Due) → IsDueEnd d → status_due d ≡ 2 → Appends held held' (text_due d) → b ≡ true → Usage
      go d (inl u) s a f = (u.0, u.1, subst (λ (x : Due). Appends held held' (text_due x)) u.3 a, f)
      go d (inr x) s a f = absurd (no_usage words left now fo fn x.0.mode x.0 d x.2 s)

  pub usage_only : End → SetsNothing words → OneOf 2 status
  usage_only e n = endings.only IsDueEnd left now fo fn held held' ko kn b status e 2 (usage_due words left now fo fn n)

  pub reads_few : End → ReadsFew left now
  reads_few e = endings.reads_few IsDueEnd left now fo fn held held' ko kn b status e (few_due words left now fo fn)

  pub no_read_failed : End → status < 4 → Stands fo fn
  no_read_failed e l = endings.no_read_failed IsDueEnd left now fo fn held held' ko kn b status e l (stands_due words left now fo fn)
