-- On answers that fit a script, one thread or one round more.
use Rattle.std.proofs.Common.{◌≡◌, ℕ, zero, suc, ◌+◌, ◌<◌, List, [], ◌∷◌, ◌++◌, length, take, map, get_or, refl, sym, ap, ◌∙◌, arith, append_assoc, append-nil}
use Rattle.heap_model.specs.declared.Reply.{Reply}
use Rattle.script_text.specs.declared.commands.Command.{Command}
use Rattle.thread_commands.specs.Working.{Fills}
use Rattle.command_run.specs.Commands.{in_threads, in_rounds}
use Rattle.command_run.specs.Running.{FitThreads, Fit}

pub fit_thread : (threads : List (List Command)) (answers : List (List Reply)) (cs : List Command) (rs : List Reply) → FitThreads threads answers → Fills cs rs → FitThreads (threads ++ cs ∷ []) (answers ++ rs ∷ [])
fit_thread [] [] cs rs h e = (e, tt)
fit_thread [] (a ∷ bs) cs rs h e = absurd h
fit_thread (t ∷ ts) [] cs rs h e = absurd h
fit_thread (t ∷ ts) (a ∷ bs) cs rs h e = (h.0, fit_thread ts bs cs rs h.1 e)

pub fit_round : (rounds : List (List (List Command))) (answers : List (List (List Reply))) (threads : List (List Command)) (last : List (List Reply)) → Fit rounds answers → FitThreads threads last → Fit (rounds ++ threads ∷ []) (answers ++ last ∷ [])
fit_round [] [] threads last h e = (e, tt)
fit_round [] (a ∷ bs) threads last h e = absurd h
fit_round (t ∷ ts) [] threads last h e = absurd h
fit_round (t ∷ ts) (a ∷ bs) threads last h e = (h.0, fit_round ts bs threads last h.1 e)

pub threads_more : {A : Type 0} (ts : List (List A)) (t : List A) → in_threads (ts ++ t ∷ []) ≡ in_threads ts ++ t
threads_more [] t = append-nil t
threads_more (x ∷ ts) t = ap (λ ys. x ++ ys) (threads_more ts t) ∙ sym (append_assoc x (in_threads ts) t)

pub rounds_more : {A : Type 0} (rs : List (List (List A))) (r : List (List A)) → in_rounds (rs ++ r ∷ []) ≡ in_rounds rs ++ in_threads r
rounds_more [] r = append-nil (in_threads r)
rounds_more (x ∷ rs) r = ap (λ ys. in_threads x ++ ys) (rounds_more rs r) ∙ sym (append_assoc (in_threads x) (in_rounds rs) (in_threads r))

-- one more of what is taken
pub take_mapped : {A B : Type 0} (f : A → B) (xs : List A) (i : ℕ) (d : A) → i < length xs → take (i + 1) (map f xs) ≡ take i (map f xs) ++ f (get_or xs i d) ∷ []
take_mapped f [] i d l = absurd (omega arith)
take_mapped f (x ∷ xs) zero d l = refl
take_mapped f (x ∷ xs) (suc i) d l = let e : suc i + 1 ≡ suc (i + 1) = omega arith in rw e (ap (λ ys. f x ∷ ys) (take_mapped f xs i d (omega arith)))
