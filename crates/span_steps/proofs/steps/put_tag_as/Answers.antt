use Rattle.std.proofs.Common.{ℕ, subst, sym}
use mathlib.Core.Option.{none}
use Rattle.atomic_table.specs.Table.{step, Allows}
use Rattle.claim_rule.specs.Rule.{IsRuled}
use Rattle.claim_rule.specs.Plays.{number_of}
use Rattle.span_steps.specs.Stores.{paid_off, put_word}
use Rattle.claim_rule.specs.Places.{tag_at}
use Rattle.span_steps.proofs.Stores.{put_tag_law}
use Rattle.span_steps.proofs.steps.put_tag_as.Goals as goal

pub store-requires : goal.store-requires
store-requires g c =
    let p = c.args.place.now in
    let slots = c.args.top.now.table_id.slots in
    let P : ℕ → Type 0 = λ z. Allows (IsRuled g.T.Stands.stands c.args.top.now.key) slots p.id p.me z (λ _. c.args.value) (λ _. put_word g.E.Carried.entries (paid_off (tag_at g.B.Target.number)) (step slots z c.args.value 0 none) p.me c.args.value) in
    (c.requires.table.0, c.requires.table.1, subst P (sym c.requires.word) (put_tag_law g.T.Stands.stands c.args.top.now.key slots p.id (number_of p.me.0.role) g.B.Target.number c.args.value p.me g.E.Carried.entries c.requires.ready c.requires.page c.requires.may))
