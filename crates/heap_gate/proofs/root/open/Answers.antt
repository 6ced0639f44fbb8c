use Rattle.std.proofs.Common.{◌≡◌, ℕ, [], ◌∷◌, ◌∙◌, ap, sym, subst, List, Option, Some}
use Rattle.atomic_table.specs.Table.{opening}
use Rattle.heap_model.specs.declared.Opening.{Opening}
use Rattle.claim_rule.specs.Places.{word_count}
use Rattle.claim_rule.specs.Rule.{IsRuled, first_view, zero_words}
use Rattle.claim_rule.proofs.Seats.{opens}
use Rattle.heap_gate.proofs.root.open.Goals as goal

pub new-requires-2 : goal.new-requires-2
new-requires-2 g c =
    let o : Opening = record { limits = c.args.limits; seed = c.args.seed } in
    let w : c.as_slice.result.now ≡ zero_words (word_count c.args.limits) = c.as_slice.ensures ∙ (c.in_ok-closing.ensures ∙ ap zero_words c.words_of-count.ensures) in
    subst (λ (l : List (Option g.row.T.Denot)). IsRuled g.T.Stands.stands o (opening c.as_slice.result.now l (first_view o))) (sym c.in_ok-slots.ensures)
    (subst (λ (x : List ℕ). IsRuled g.T.Stands.stands o (opening x (Some c.args.vs ∷ Some c.args.back ∷ Some c.args.large ∷ []) (first_view o))) (sym w)
    (opens g.T.Stands.stands o c.args.vs c.args.back c.args.large c.requires.limits c.requires.vs c.requires.back c.requires.large))
