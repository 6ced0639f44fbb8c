-- Words give one list of options, so they set one thing or nothing.
use Rattle.std.proofs.Common.{◌≡◌, ◌∙◌, List, ℕ, Option, map, true, false, sym, subst, string_bytes}
use Rattle.std.specs.Prelude.{IfSome}
use Rattle.std.proofs.lemmas.List.Folds.{list_all-map}
use Rattle.command_words.specs.declared.setting.Values.{Values}
use Rattle.command_words.specs.Options.{Given, AreOptions, is_ready}
use Rattle.command_words.specs.Settings.{names}
use Rattle.command_words.proofs.ParseLemmas.{parse_takes, sets_nothing}
use Rattle.command_words.specs.Told.{AreTold}
use Rattle.command_words.proofs.read_words.Goals as goal

pub returns-then-not-are_ready-clause-invalid : goal.returns-then-not-are_ready-clause-invalid
returns-then-not-are_ready-clause-invalid c setting valid =
    let words : List (List ℕ) = map string_bytes c.args.words.now in
    let taken = parse_takes words valid.given valid.options in
    let ready = sym (list_all-map is_ready string_bytes c.args.words.now) ∙ taken.0 in
    let e : true ≡ false = sym ready ∙ (sym c.are_ready.ensures ∙ c.if-not-are_ready.true) in
    (let z : ⊥ = cc in z)

pub returns-in-Some-clause-invalid : goal.returns-in-Some-clause-invalid
returns-in-Some-clause-invalid c =
    let words : List (List ℕ) = map string_bytes c.args.words.now in
    let told : (given : List Given) × AreOptions names given words × AreTold c.in-Some.values given =
    subst (λ (o : Option Values). IfSome o (λ v. (given : List Given) × AreOptions names given words × AreTold v given)) c.in-Some.is c.in_ok-values.ensures.told in
    sets_nothing words told.0 c.in-Some.values c.setting_of.result told.1 told.2 c.setting_of.ensures
