-- The calls of the callers in each of two rounds.
use Rattle.std.proofs.Common.{◌≡◌, ℕ, zero, suc, ◌==◌, List, [], ◌∷◌, refl, true, false, ne_eqb, arith}
use Rattle.std.specs.Prelude.{slice_index_or}
use Rattle.heap_model.specs.declared.Busy.{Busy}
use Rattle.heap_model.specs.declared.Call.TheVariants as calls
use Rattle.heap_model.specs.declared.Reply.{Reply}
use Rattle.heap_model.specs.declared.Reply.TheVariants as replies
use Rattle.heap_model.specs.declared.What.TheVariants as whats
use Rattle.heap_model.specs.State.{Setting}
use Rattle.heap_model.specs.CallState.{Configuration}
use Rattle.heap_model.specs.History.{first_configuration, configuration_after}
use Rattle.heap_model.specs.Moments.{Moment, moments}
use Rattle.script_text.specs.declared.commands.Command.{Command}
use Rattle.script_text.specs.declared.commands.Command.TheVariants as commands
use Rattle.script_text.specs.declared.commands.Target.TheVariants as targets
use Rattle.script_text.specs.Values.{Answered}
use Rattle.thread_rounds.specs.Threads.{IsThread}
use Rattle.thread_rounds.specs.Rounds.{setting_of, answered_threads}
use Rattle.thread_rounds.specs.Worked.{one_segment, plain, first_round, second_round}
use Rattle.thread_rounds.proofs.TryLemmas.{tried_once, tried_twice, allocates, asks_size}
use Rattle.thread_rounds.proofs.names_of_two_threads.Goals as goal

abbrev setting : Setting
setting = setting_of one_segment 1

abbrev first : List Moment
first = moments setting 0 first_configuration first_round

abbrev second : List Moment
second = moments setting 1 first_configuration first_round

abbrev allocations : List (List Command)
allocations = (commands.Alloc 0 131073 false ∷ []) ∷ (commands.Alloc 0 140000 false ∷ []) ∷ []

abbrev addresses : List (List Reply)
addresses = (replies.Address 8192 ∷ []) ∷ (replies.Address 143360 ∷ []) ∷ []

of_first : IsThread setting 0 [] [] 0 (commands.Alloc 0 131073 false ∷ []) (replies.Address 8192 ∷ []) first
of_first =
    allocates setting 0 first [] (replies.Address 8192) 0 131073 false
    (tried_once setting 0 first (calls.Alloc 131073 plain) (replies.Address 8192) (record { one = (refl, refl {a = true}); shape = (refl, refl) }))

back : Busy
back = record { what = whats.Back; word = 1 }

of_second : IsThread setting 1 [] [] 0 (commands.Alloc 0 140000 false ∷ []) (replies.Address 143360 ∷ []) second
unfolding back
of_second =
    allocates setting 1 second [] (replies.Address 143360) 0 140000 false
    (tried_twice setting 1 second (calls.Alloc 140000 plain) (replies.Address 143360) 4 (back, record { one = (refl, refl {a = true}); shape = refl })
    (record { one = (refl, refl {a = true}); shape = (refl, refl) }))

each_first : (t : ℕ) → IsThread setting t [] [] 0 (slice_index_or allocations t []) (slice_index_or addresses t []) (moments setting t first_configuration first_round)
each_first zero = of_first
each_first (suc zero) = of_second
each_first (suc (suc t)) =
    let a : (0 == suc (suc t)) ≡ false = ne_eqb 0 (suc (suc t)) (omega arith) in
    let b : (1 == suc (suc t)) ≡ false = ne_eqb 1 (suc (suc t)) (omega arith) in
    (refl, rw (a, b) refl)

---- The second round

abbrev between : Configuration
between = configuration_after setting first_configuration first_round

abbrev earlier : List (List (List Answered))
earlier = answered_threads allocations addresses ∷ []

abbrev third : List Moment
third = moments setting 0 between second_round

of_third : IsThread setting 0 earlier [] 0 (commands.Size (targets.Name 0) ∷ []) (replies.Number 140000 ∷ []) third
of_third =
    asks_size setting 0 third earlier (replies.Number 140000) (targets.Name 0)
    (tried_once setting 0 third (calls.Size 143360) (replies.Number 140000) (record { one = (refl, refl {a = true}); shape = (refl, refl) }))

each_second : (t : ℕ) → IsThread setting t earlier [] 0 (slice_index_or ((commands.Size (targets.Name 0) ∷ []) ∷ []) t []) (slice_index_or ((replies.Number 140000 ∷ []) ∷ []) t [])
    (moments setting t between second_round)
each_second zero = of_third
each_second (suc t) =
    let a : (0 == suc t) ≡ false = ne_eqb 0 (suc t) (omega arith) in
    (refl, rw a refl)

pub returns : goal.returns
returns c = record {
  legal = refl;
  rounds = first_round ∷ second_round ∷ [];
  in_order = refl;
  are_run = (record { as_many = refl; each = each_first }, (record { as_many = refl; each = each_second }, tt));
}
