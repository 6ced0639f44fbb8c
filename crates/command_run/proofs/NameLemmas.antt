-- On the values of names.
use Rattle.std.proofs.Common.{◌≡◌, ℕ, ◌==◌, ◌≤◌, Bool, true, false, List, [], ◌∷◌, ◌++◌, length, Option, Some, None, if◌then◌else◌, refl, sym, ap, ◌∙◌, arith, append-nil}
use Rattle.std.specs.Option.{unwrap_or, option_or}
use Rattle.std.proofs.lemmas.Bool.{eq-eqb, eqb-true}
use Rattle.heap_model.specs.declared.Reply.{Reply}
use Rattle.heap_model.specs.declared.Reply.TheVariants as replies
use Rattle.script_text.specs.declared.commands.Target.{Target}
use Rattle.script_text.specs.declared.commands.Target.TheVariants as targets
use Rattle.script_text.specs.declared.commands.Command.{Command}
use Rattle.script_text.specs.declared.commands.Command.TheVariants as commands
use Rattle.script_text.specs.Values as language
use Rattle.script_text.specs.Values.{Answered, last_assigned, last_of_round, last_of_rounds}
use Rattle.name_values.proofs.Tables.{later_first, last_assigned-append}
use Rattle.thread_commands.specs.Working.{Fills}
use Rattle.thread_commands.proofs.Threads.{fills_on, answered_on}
use Rattle.thread_rounds.specs.Rounds.{answered_threads}
use Rattle.thread_rounds.specs.Threads.{answered}
use Rattle.command_run.specs.Commands.{unassigned, assigned, values_after, in_threads, in_rounds}
use Rattle.command_run.specs.Running.{FitThreads, Fit}
use Rattle.command_run.specs.Named.{answered_rounds, AreSingle, NamesHaveTheirValues}

same_way : (a b : ℕ) → (a == b) ≡ (b == a)
same_way a b = go (a == b) (b == a) refl refl
  where
    go : (x y : Bool) → (a == b) ≡ x → (b == a) ≡ y → x ≡ y
    go true true p q = refl
    go false false p q = refl
    go true false p q = absurd (let f : true ≡ false = sym (eq-eqb b a (sym (eqb-true a b p))) ∙ q in let z : ⊥ = cc in z)
    go false true p q = absurd (let f : true ≡ false = sym (eq-eqb a b (sym (eqb-true b a q))) ∙ p in let z : ⊥ = cc in z)

-- a value that is given to a name where it is this one
given : (b c : Bool) (x old : ℕ) → b ≡ c → (if b then x else old) ≡ unwrap_or (if c then Some x else None) old
given true true x old e = refl
given false false x old e = refl
given true false x old e = absurd (let f : true ≡ false = e in let z : ⊥ = cc in z)
given false true x old e = absurd (let f : false ≡ true = e in let z : ⊥ = cc in z)

placed : (v : ℕ → ℕ) (other name size : ℕ) (z : Bool) (r : Reply) → assigned v (commands.Alloc other size z) r name ≡ unwrap_or (language.assigned (commands.Alloc other size z) r name) (v name)
placed v other name size z (replies.Address a) = given (name == other) (other == name) a (v name) (same_way name other)
placed v other name size z replies.Done = given (name == other) (other == name) 0 (v name) (same_way name other)
placed v other name size z (replies.Number n) = given (name == other) (other == name) 0 (v name) (same_way name other)
placed v other name size z replies.NoFit = given (name == other) (other == name) 0 (v name) (same_way name other)
placed v other name size z replies.NotLive = given (name == other) (other == name) 0 (v name) (same_way name other)
placed v other name size z replies.NoRoom = given (name == other) (other == name) 0 (v name) (same_way name other)
placed v other name size z (replies.Past n) = given (name == other) (other == name) 0 (v name) (same_way name other)
placed v other name size z replies.Depth = given (name == other) (other == name) 0 (v name) (same_way name other)
placed v other name size z replies.NotOwner = given (name == other) (other == name) 0 (v name) (same_way name other)
placed v other name size z replies.NotLocked = given (name == other) (other == name) 0 (v name) (same_way name other)
placed v other name size z (replies.Seen b) = given (name == other) (other == name) 0 (v name) (same_way name other)
placed v other name size z (replies.Walked n) = given (name == other) (other == name) 0 (v name) (same_way name other)
placed v other name size z (replies.Compacted n) = given (name == other) (other == name) 0 (v name) (same_way name other)

moved : (v : ℕ → ℕ) (target : Target) (name size : ℕ) (z : Bool) (r : Reply) → assigned v (commands.Realloc target size z) r name ≡ unwrap_or (language.assigned (commands.Realloc target size z) r name) (v name)
moved v (targets.Name other) name size z (replies.Address a) = given (name == other) (other == name) a (v name) (same_way name other)
moved v (targets.Name other) name size z replies.Done = refl
moved v (targets.Name other) name size z (replies.Number n) = refl
moved v (targets.Name other) name size z replies.NoFit = refl
moved v (targets.Name other) name size z replies.NotLive = refl
moved v (targets.Name other) name size z replies.NoRoom = refl
moved v (targets.Name other) name size z (replies.Past n) = refl
moved v (targets.Name other) name size z replies.Depth = refl
moved v (targets.Name other) name size z replies.NotOwner = refl
moved v (targets.Name other) name size z replies.NotLocked = refl
moved v (targets.Name other) name size z (replies.Seen b) = refl
moved v (targets.Name other) name size z (replies.Walked n) = refl
moved v (targets.Name other) name size z (replies.Compacted n) = refl
moved v (targets.Addr address) name size z r = refl

-- what one command leaves
one_command : (v : ℕ → ℕ) (c : Command) (r : Reply) (name : ℕ) → assigned v c r name ≡ unwrap_or (language.assigned c r name) (v name)
one_command v (commands.Alloc other size z) r name = placed v other name size z r
one_command v (commands.Realloc target size z) r name = moved v target name size z r
one_command v (commands.Free target) r name = refl
one_command v (commands.Size target) r name = refl
one_command v (commands.Get target index) r name = refl
one_command v (commands.Put target index value) r name = refl
one_command v commands.Lock r name = refl
one_command v commands.Unlock r name = refl
one_command v commands.Walk r name = refl
one_command v commands.Compact r name = refl

-- what commands leave: the last assignment, or the value before
after : (v : ℕ → ℕ) (ks : List Answered) (name : ℕ) → values_after v ks name ≡ unwrap_or (last_assigned ks name) (v name)
after v [] name = refl
after v (k ∷ ks) name =
    after (assigned v k.command k.reply) ks name
    ∙ ap (unwrap_or (last_assigned ks name)) (one_command v k.command k.reply name)
    ∙ later_first (last_assigned ks name) (language.assigned k.command k.reply name) (v name)

last_append : (cs ds : List Command) (rs qs : List Reply) (name : ℕ) → Fills cs rs →
    last_assigned (answered (cs ++ ds) (rs ++ qs)) name ≡ option_or (last_assigned (answered ds qs) name) (last_assigned (answered cs rs) name)
last_append cs ds rs qs name f = ap (λ (ks : List Answered). last_assigned ks name) (answered_on cs ds rs qs f) ∙ last_assigned-append (answered cs rs) (answered ds qs) name

-- in a round of one thread, or of none
in_round : (threads : List (List Command)) (answers : List (List Reply)) (name : ℕ) → length threads ≤ 1 → FitThreads threads answers →
    Fills (in_threads threads) (in_threads answers) × (last_of_round (answered_threads threads answers) name ≡ last_assigned (answered (in_threads threads) (in_threads answers)) name)
in_round [] [] name l f = (tt, refl)
in_round [] (a ∷ others) name l f = absurd f
in_round (t ∷ ts) [] name l f = absurd f
in_round (t ∷ u ∷ ts) (a ∷ others) name l f = absurd (omega arith)
in_round (t ∷ []) (a ∷ b ∷ others) name l f = absurd f.1
in_round (t ∷ []) (a ∷ []) name l f = rw (append-nil t, append-nil a) (f.0, refl)

in_all : (rounds : List (List (List Command))) (answers : List (List (List Reply))) (name : ℕ) → AreSingle rounds → Fit rounds answers →
    Fills (in_rounds rounds) (in_rounds answers) × (last_of_rounds (answered_rounds rounds answers) name ≡ last_assigned (answered (in_rounds rounds) (in_rounds answers)) name)
in_all [] [] name s f = (tt, refl)
in_all [] (a ∷ others) name s f = absurd f
in_all (t ∷ ts) [] name s f = absurd f
in_all (t ∷ ts) (a ∷ others) name s f =
    let one = in_round t a name s.0 f.0 in
    let rest = in_all ts others name s.1 f.1 in
    let more = last_append (in_threads t) (in_rounds ts) (in_threads a) (in_rounds others) name one.0 in (
      fills_on (in_threads t) (in_rounds ts) (in_threads a) (in_rounds others) one.0 rest.0,
      ap (λ (z : Option ℕ). option_or z (last_of_round (answered_threads t a) name)) rest.1
          ∙ ap (option_or (last_assigned (answered (in_rounds ts) (in_rounds others)) name)) one.1
          ∙ sym more,
    )

pub valued : NamesHaveTheirValues
valued rounds answers own rs name s f e =
    let all = in_all rounds answers name s f in
    after unassigned (answered (in_rounds rounds ++ own) (in_rounds answers ++ rs)) name
    ∙ ap (λ (x : Option ℕ). unwrap_or x 0) (last_append (in_rounds rounds) own (in_rounds answers) rs name all.0)
    ∙ ap (λ (x : Option ℕ). unwrap_or (option_or (last_assigned (answered own rs) name) x) 0) (sym all.1)
