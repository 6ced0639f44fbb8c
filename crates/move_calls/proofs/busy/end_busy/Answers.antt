use Rattle.std.proofs.Common.{[], ◌∷◌, refl, ap, inl}
use Rattle.heap_model.specs.declared.Act.TheVariants as acts
use Rattle.heap_model.specs.declared.Call.TheVariants as calls
use Rattle.call_parts.proofs.Tokens.{ended_then, makes}
use Rattle.move_calls.proofs.Holding.{holds_missed}
use Rattle.move_calls.proofs.Handed.{none_in, hidden_in}
use Rattle.move_calls.specs.Holds.{slots_of, gives_of}
use Rattle.move_calls.proofs.busy.end_busy.Goals as goal

pub give_all-requires-clause-holding : goal.give_all-requires-clause-holding
give_all-requires-clause-holding c = let z = c.requires.behind in holds_missed z.0 c.args.c.now z.1 z.2 z.3 c.args.held c.args.busy z.4

pub returns : goal.returns
returns c = λ k addr n flags x.
    let d = c.give_all.new.c in let h = c.args.held in let b = c.args.busy in let met = acts.Blocked b.what b.word in
    let all = ended_then k c.args.c.now d (met ∷ []) (gives_of h) [] x.ended.added c.give_all.ensures in
    record {
      shape = met ∷ [];
      made = makes k d (calls.Realloc addr n flags) (calls.Realloc addr n flags) (slots_of h) (met ∷ gives_of h) (met ∷ []) x.serving x.serving.call_is all (none_in h) (ap (λ l. met ∷ l) (hidden_in h));
      hindered = inl refl;
      another = x.another;
      may = x.may;
    }
