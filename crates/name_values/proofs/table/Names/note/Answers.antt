use Rattle.std.proofs.Common.{◌≡◌, ℕ, [], ◌∷◌, ◌++◌, List, refl}
use Rattle.std.specs.Option.{unwrap_or}
use Rattle.script_text.specs.Values.{Answered}
use Rattle.name_values.specs.Table.{value_in, given_by, Tells}
use Rattle.name_values.proofs.Tables.{noted, noted_none, both_ok}
use Rattle.name_values.proofs.table.Names.note.Goals as goal

pub returns-in-Some : goal.returns-in-Some
returns-in-Some c =
    let t = c.args.self.now in
    let t' = c.put.new.self in
    let new = c.in-Some.new in
    both_ok c.put.result
    ((name : ℕ) → value_in t'.values name ≡ unwrap_or (given_by new name) (value_in t.values name)) (t'.news ≡ t.news ++ new ∷ [])
    ((earlier : List (List (List Answered))) → (own : List Answered) → Tells t earlier own → Tells t' earlier (own ++ record { command = c.args.command; reply = c.args.reply } ∷ []))
    (λ values news earlier own k. noted t t' c.args.command c.args.reply earlier own k new c.in-Some.ensures values news)
    c.put.ensures.values c.put.ensures.news

pub returns-in-None : goal.returns-in-None
returns-in-None c = λ earlier own k. noted_none c.args.self.now c.args.self.now c.args.command c.args.reply earlier own k c.in-None.ensures refl
