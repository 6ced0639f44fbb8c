-- Calls that are tried once or twice, and threads of one command.
use Rattle.std.proofs.Common.{ℕ, Bool, List, [], ◌∷◌, ◌++◌, take, drop, refl, sym, ap, ◌∙◌, append-nil}
use Rattle.std.proofs.lemmas.List.{take-append-drop}
use Rattle.heap_model.specs.declared.Call.{Call}
use Rattle.heap_model.specs.declared.Reply.{Reply}
use Rattle.heap_model.specs.State.{Setting}
use Rattle.heap_model.specs.Moments.{Moment}
use Rattle.heap_model.specs.Served.{GetsReply, MetBusy, IsTried}
use Rattle.script_text.specs.declared.commands.Command.TheVariants as commands
use Rattle.script_text.specs.declared.commands.Target.{Target}
use Rattle.script_text.specs.Values.{Answered}
use Rattle.thread_rounds.specs.Threads.{IsThread, asked_at}

module _ (s : Setting) (c : ℕ) (xs : List Moment) where
  -- the first try got the reply
  pub tried_once : (call : Call) (reply : Reply) → GetsReply s c call reply xs → IsTried s c call reply xs
  tried_once call reply gets = record { busy = []; last = xs; are_busy = tt; gets = gets; all = refl }

  -- .. or the second one
  pub tried_twice : (call : Call) (reply : Reply) (k : ℕ) → MetBusy s c call (take k xs) → GetsReply s c call reply (drop k xs) → IsTried s c call reply xs
  tried_twice call reply k busy gets = record {
    busy = take k xs ∷ [];
    last = drop k xs;
    are_busy = (busy, tt);
    gets = gets;
    all = sym (take-append-drop k xs) ∙ ap (λ (l : List Moment). l ++ drop k xs) (sym (append-nil (take k xs)));
  }

  module _ (earlier : List (List (List Answered))) (reply : Reply) where
    -- a thread that allocates once
    pub allocates : (name n : ℕ) (zeroed : Bool) → IsTried s c (asked_at earlier [] (commands.Alloc name n zeroed)) reply xs
        → IsThread s c earlier [] 0 (commands.Alloc name n zeroed ∷ []) (reply ∷ []) xs
    allocates name n zeroed tried = (reply ∷ [], [], xs, [], refl, sym (append-nil xs), (reply, refl, tried), (refl, refl))

    -- .. and one that asks a size
    pub asks_size : (target : Target) → IsTried s c (asked_at earlier [] (commands.Size target)) reply xs
        → IsThread s c earlier [] 0 (commands.Size target ∷ []) (reply ∷ []) xs
    asks_size target tried = (reply ∷ [], [], xs, [], refl, sym (append-nil xs), (reply, refl, tried), (refl, refl))
