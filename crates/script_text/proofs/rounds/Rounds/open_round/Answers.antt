use Rattle.std.proofs.Common.{List, ℕ, [], ◌∷◌, ◌++◌, ◌∙◌, ap, sym, subst, arith}
use Rattle.script_text.specs.Flat.{threads_by, rounds_by, AreFlat}
use Rattle.script_text.specs.ThreadLines.{ThreadLines}
use Rattle.script_text.proofs.FlatLemmas.{round_opened, round_flat}
use Rattle.script_text.proofs.rounds.Rounds.open_round.Goals as goal

pub returns : goal.returns
returns c =
    let ts = c.self.inside.threads.items in
    let cs = c.self.inside.commands.items in
    ap (λ (rs : List ℕ). rounds_by rs (threads_by ts cs)) c.in_ok-push.ensures.items
    ∙ round_opened c.self.inside.rounds.items ts cs c.len.result (omega (arith, c.len.ensures))
    ∙ ap (λ (rounds : List (List ThreadLines)). rounds ++ [] ∷ []) c.self.view_is

pub invariant_of-self-2 : goal.invariant_of-self-2
invariant_of-self-2 c =
    let ts = c.self.inside.threads.items in
    let cs = c.self.inside.commands.items in
    subst (λ (rs : List ℕ). AreFlat rs ts cs) (sym c.in_ok-push.ensures.items) (round_flat c.self.inside.rounds.items ts cs c.len.result (omega (arith, c.len.ensures)) c.self.invariant)
