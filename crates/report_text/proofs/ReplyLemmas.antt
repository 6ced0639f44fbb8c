-- What the rest of the replies gives, put behind what stands, is what all of them give.
use Rattle.std.proofs.Common.{◌≡◌, ℕ, zero, suc, ◌+◌, ◌<◌, ◌≤◌, Bool, true, false, if◌then◌else◌, List, [], ◌∷◌, ◌++◌, length, drop, get_or, Some, None, option_map, refl, sym, ap, ◌∙◌, arith, append_assoc, append-nil, map}
use Rattle.std.specs.List.{slice_get}
use Rattle.std.proofs.lemmas.List.{drop_all}
use Rattle.std.proofs.lemmas.Option.{slice_get-map, slice_get-get_or, slice_get_read, slice_get_past}
use Rattle.heap_model.specs.declared.Reply.{Reply}
use Rattle.script_text.specs.declared.commands.Command.{Command}
use Rattle.script_text.specs.declared.commands.CommandLine.{CommandLine}
use Rattle.script_text.specs.ThreadLines.{ThreadLines, ScriptLines}
use Rattle.script_text.specs.Scripts.{command_of, commands_of, round_at, thread_at, no_thread}
use Rattle.report_text.specs.Commands.{round_commands, thread_commands}
use Rattle.report_text.specs.Report.{reply_line, is_seen, thread_lines, round_lines, script_lines}

-- a line is put behind what stands
pub put_on : (old new line rest all whole : List ℕ) → new ≡ old ++ line → all ≡ line ++ rest → old ++ all ≡ whole → new ++ rest ≡ whole
put_on old new line rest all whole n a w = ap (λ (xs : List ℕ). xs ++ rest) n ∙ append_assoc old line rest ∙ ap (λ (xs : List ℕ). old ++ xs) (sym a) ∙ w

-- nothing is left
pub put_all : (old rest whole : List ℕ) → rest ≡ [] → old ++ rest ≡ whole → old ≡ whole
put_all old rest whole r w = sym (append-nil old) ∙ ap (λ (xs : List ℕ). old ++ xs) (sym r) ∙ w

pub drop_next : {A : Type 0} (xs : List A) (i : ℕ) (x : A) → slice_get xs i ≡ Some x → drop i xs ≡ x ∷ drop (i + 1) xs
drop_next [] i x e = absurd (let z : ⊥ = cc in z)
drop_next (y ∷ ys) zero x e = let same : y ≡ x = cc in ap (λ z. z ∷ ys) same
drop_next (y ∷ ys) (suc i) x e = let k : suc i + 1 ≡ suc (i + 1) = omega arith in rw k (drop_next ys i x e)

pub drop_past : {A : Type 0} (xs : List A) (i : ℕ) → slice_get xs i ≡ None → drop i xs ≡ []
drop_past [] zero e = refl
drop_past [] (suc i) e = refl
drop_past (y ∷ ys) zero e = absurd (let z : ⊥ = cc in z)
drop_past (y ∷ ys) (suc i) e = drop_past ys i e

---- A thread

-- the number of the command behind a reply
pub drop_after : {A : Type 0} (seen : Bool) (xs : List A) (i k : ℕ) → k ≡ (if seen then i else i + 1) → drop k xs ≡ (if seen then drop i xs else drop (i + 1) xs)
drop_after true xs i k e = rw e refl
drop_after false xs i k e = rw e refl

thread_next : (i j : ℕ) (cs more : List Command) (rs others : List Reply) (c : Command) (r : Reply) → cs ≡ c ∷ more → rs ≡ r ∷ others →
    thread_lines i j cs rs ≡ reply_line i j c r ++ thread_lines i j (if is_seen r then cs else more) others
thread_next i j cs more rs others c r e f = rw (e, f) refl

pub reply_put : (i j k n next : ℕ) (cs : List Command) (rs : List Reply) (c : Command) (r : Reply) (old new whole : List ℕ) →
    slice_get cs k ≡ Some c → slice_get rs n ≡ Some r → next ≡ (if is_seen r then k else k + 1) → new ≡ old ++ reply_line i j c r →
    old ++ thread_lines i j (drop k cs) (drop n rs) ≡ whole → new ++ thread_lines i j (drop next cs) (drop (n + 1) rs) ≡ whole
reply_put i j k n next cs rs c r old new whole e f g p w =
    let all = thread_next i j (drop k cs) (drop (k + 1) cs) (drop n rs) (drop (n + 1) rs) c r (drop_next cs k c e) (drop_next rs n r f) in
    rw (drop_after (is_seen r) cs k next g) (put_on old new _ _ _ whole p all w)

no_commands : (i j : ℕ) (rs : List Reply) → thread_lines i j [] rs ≡ []
no_commands i j [] = refl
no_commands i j (r ∷ rs) = refl

no_replies : (i j : ℕ) (cs : List Command) → thread_lines i j cs [] ≡ []
no_replies i j [] = refl
no_replies i j (c ∷ cs) = refl

pub commands_end : (i j k n : ℕ) (cs : List Command) (rs : List Reply) (old whole : List ℕ) → slice_get cs k ≡ None → old ++ thread_lines i j (drop k cs) (drop n rs) ≡ whole → old ≡ whole
commands_end i j k n cs rs old whole e w = put_all old _ whole (ap (λ (xs : List Command). thread_lines i j xs (drop n rs)) (drop_past cs k e) ∙ no_commands i j (drop n rs)) w

pub replies_end : (i j k n : ℕ) (cs : List Command) (rs : List Reply) (old whole : List ℕ) → length rs ≤ n → old ++ thread_lines i j (drop k cs) (drop n rs) ≡ whole → old ≡ whole
replies_end i j k n cs rs old whole l w = put_all old _ whole (ap (thread_lines i j (drop k cs)) (drop_all n rs l) ∙ no_replies i j (drop k cs)) w

-- a command of a line
pub command_got : (lines : List CommandLine) (k : ℕ) (line : CommandLine) → k < length lines → line ≡ get_or lines k line → slice_get (map command_of lines) k ≡ Some line.command
command_got lines k line l e = slice_get-map command_of lines k ∙ ap (option_map command_of) (slice_get_read lines (length lines) k line refl l e)

pub no_command : (lines : List CommandLine) (k : ℕ) → length lines ≤ k → slice_get (map command_of lines) k ≡ None
no_command lines k l = slice_get-map command_of lines k ∙ ap (option_map command_of) (slice_get_past lines k l)

---- A round

thread_got : (threads : List ThreadLines) (j : ℕ) → j < length threads → slice_get (round_commands threads) j ≡ Some (thread_commands (get_or threads j no_thread))
thread_got threads j l = slice_get-map thread_commands threads j ∙ ap (option_map thread_commands) (slice_get-get_or threads j no_thread l)

threads_next : (i j : ℕ) (css more : List (List Command)) (rss others : List (List Reply)) (cs : List Command) (rs : List Reply) → css ≡ cs ∷ more → rss ≡ rs ∷ others →
    round_lines i j css rss ≡ thread_lines i j cs rs ++ round_lines i (j + 1) more others
threads_next i j css more rss others cs rs e f = rw (e, f) refl

pub thread_put : (s : ScriptLines) (i j : ℕ) (rss : List (List Reply)) (rs : List Reply) (old new whole : List ℕ) → j < length (round_at s i) → slice_get rss j ≡ Some rs →
    new ≡ old ++ thread_lines i j (thread_commands (thread_at s i j)) rs → old ++ round_lines i j (drop j (round_commands (round_at s i))) (drop j rss) ≡ whole →
    new ++ round_lines i (j + 1) (drop (j + 1) (round_commands (round_at s i))) (drop (j + 1) rss) ≡ whole
thread_put s i j rss rs old new whole l f p w =
    let css = round_commands (round_at s i) in
    let got = drop_next css j (thread_commands (thread_at s i j)) (thread_got (round_at s i) j l) in
    put_on old new _ _ _ whole p (threads_next i j (drop j css) (drop (j + 1) css) (drop j rss) (drop (j + 1) rss) (thread_commands (thread_at s i j)) rs got (drop_next rss j rs f)) w

no_threads : (i j : ℕ) (rss : List (List Reply)) → round_lines i j [] rss ≡ []
no_threads i j [] = refl
no_threads i j (rs ∷ rss) = refl

none_answered : (i j : ℕ) (css : List (List Command)) → round_lines i j css [] ≡ []
none_answered i j [] = refl
none_answered i j (cs ∷ css) = refl

pub threads_end : (s : ScriptLines) (i j : ℕ) (rss : List (List Reply)) (old whole : List ℕ) → length (round_at s i) ≤ j →
    old ++ round_lines i j (drop j (round_commands (round_at s i))) (drop j rss) ≡ whole → old ≡ whole
threads_end s i j rss old whole l w =
    let css = round_commands (round_at s i) in
    put_all old _ whole (ap (λ (xs : List (List Command)). round_lines i j xs (drop j rss)) (drop_past css j (slice_get-map thread_commands (round_at s i) j ∙ ap (option_map thread_commands) (slice_get_past (round_at s i) j l))) ∙ no_threads i j (drop j rss)) w

pub answered_end : (i j n : ℕ) (css : List (List Command)) (rss : List (List Reply)) (old whole : List ℕ) → length rss ≤ n → old ++ round_lines i j css (drop n rss) ≡ whole → old ≡ whole
answered_end i j n css rss old whole l w = put_all old _ whole (ap (round_lines i j css) (drop_all n rss l) ∙ none_answered i j css) w

---- A script

round_got : (s : ScriptLines) (i : ℕ) → i < length s.rounds → slice_get (commands_of s) i ≡ Some (round_commands (round_at s i))
round_got s i l = slice_get-map round_commands s.rounds i ∙ ap (option_map round_commands) (slice_get-get_or s.rounds i [] l)

rounds_next : (i : ℕ) (css more : List (List (List Command))) (rss others : List (List (List Reply))) (cs : List (List Command)) (rs : List (List Reply)) → css ≡ cs ∷ more → rss ≡ rs ∷ others →
    script_lines i css rss ≡ round_lines i 0 cs rs ++ script_lines (i + 1) more others
rounds_next i css more rss others cs rs e f = rw (e, f) refl

pub round_put : (s : ScriptLines) (i : ℕ) (rss : List (List (List Reply))) (rs : List (List Reply)) (old new whole : List ℕ) → i < length s.rounds → slice_get rss i ≡ Some rs →
    new ≡ old ++ round_lines i 0 (round_commands (round_at s i)) rs → old ++ script_lines i (drop i (commands_of s)) (drop i rss) ≡ whole →
    new ++ script_lines (i + 1) (drop (i + 1) (commands_of s)) (drop (i + 1) rss) ≡ whole
round_put s i rss rs old new whole l f p w =
    let css = commands_of s in
    put_on old new _ _ _ whole p (rounds_next i (drop i css) (drop (i + 1) css) (drop i rss) (drop (i + 1) rss) (round_commands (round_at s i)) rs (drop_next css i (round_commands (round_at s i)) (round_got s i l)) (drop_next rss i rs f)) w

no_rounds : (i : ℕ) (rss : List (List (List Reply))) → script_lines i [] rss ≡ []
no_rounds i [] = refl
no_rounds i (rs ∷ rss) = refl

no_answers : (i : ℕ) (css : List (List (List Command))) → script_lines i css [] ≡ []
no_answers i [] = refl
no_answers i (cs ∷ css) = refl

pub rounds_end : (s : ScriptLines) (i : ℕ) (rss : List (List (List Reply))) (old whole : List ℕ) → length s.rounds ≤ i → old ++ script_lines i (drop i (commands_of s)) (drop i rss) ≡ whole → old ≡ whole
rounds_end s i rss old whole l w =
    put_all old _ whole (ap (λ (xs : List (List (List Command))). script_lines i xs (drop i rss)) (drop_past (commands_of s) i (slice_get-map round_commands s.rounds i ∙ ap (option_map round_commands) (slice_get_past s.rounds i l))) ∙ no_rounds i (drop i rss)) w

pub answers_end : (i n : ℕ) (css : List (List (List Command))) (rss : List (List (List Reply))) (old whole : List ℕ) → length rss ≤ n → old ++ script_lines i css (drop n rss) ≡ whole → old ≡ whole
answers_end i n css rss old whole l w = put_all old _ whole (ap (script_lines i css) (drop_all n rss l) ∙ no_answers i css) w
