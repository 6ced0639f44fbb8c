use Rattle.std.proofs.Common.{◌∙◌, sym}
use Rattle.script_text.proofs.SaidLemmas.{name_there, other_word, no_name}
use Rattle.script_text.proofs.saying.name_of.Goals as goal
use Rattle.script_text.proofs.saying.name_of.Goals.{else-takes_name-via-then-takes_name+else-named, else-takes_name-via-else-takes_name}

pub returns-then-named-clause-name : goal.returns-then-named-clause-name
returns-then-named-clause-name c =
    name_there c.args.word c.args.fields.now.word.now c.args.fields.now.first.now c.requires (sym c.takes_name.ensures ∙ c.if-takes_name.true) (sym c.named.ensures ∙ c.if-named.true)

pub returns-else-takes_name-clause-name : goal.returns-else-takes_name-clause-name
returns-else-takes_name-clause-name c = elim c.else-takes_name.branch [
  | else-takes_name-via-then-takes_name+else-named w ↦ no_name c.args.fields.now.word.now c.args.fields.now.first.now (sym w.named.ensures ∙ w.if-named.false)
  | else-takes_name-via-else-takes_name w ↦ other_word c.args.word c.args.fields.now.word.now c.args.fields.now.first.now c.requires (sym c.takes_name.ensures ∙ w.if-takes_name.false)
]
