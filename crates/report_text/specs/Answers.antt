-- Answers whose replies all stand in one list.
use Rattle.std.specs.Prelude.{ℕ, List, length}
use Rattle.std.specs.List.{flat_map}
use Rattle.heap_model.specs.declared.Reply.{Reply}
use Rattle.script_text.specs.Marks.{own_place, cut_at, AreMarks}

-- a round's mark tells which thread is its first, and a thread's mark which reply
abbrev pub answers_by : (rounds threads : List ℕ) → List Reply → List (List (List Reply))
answers_by rounds threads replies = cut_at rounds (cut_at threads replies)

-- each thread has its part of the replies, and each round its part of the threads
pub record AreFlat (rounds threads : List ℕ) (replies : List Reply) : Type 0 where
  pub of_threads : AreMarks own_place threads (length replies)
  pub of_rounds : AreMarks own_place rounds (length threads)

abbrev pub round_replies : List (List Reply) → List Reply
round_replies threads = flat_map (λ replies. replies) threads

-- the replies to all threads of all rounds
abbrev pub all_replies : List (List (List Reply)) → List Reply
all_replies answers = flat_map round_replies answers
