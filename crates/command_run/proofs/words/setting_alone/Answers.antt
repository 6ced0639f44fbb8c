use Rattle.std.proofs.Common.{map, string_bytes}
use Rattle.command_run.proofs.WordLemmas.{are_text, set_alone, none_alone}
use Rattle.command_run.proofs.words.setting_alone.Goals as goal

pub returns-in-Some-clause-set : goal.returns-in-Some-clause-set
returns-in-Some-clause-set c =
    let words = c.args.words.now in
    set_alone (map string_bytes words) c.in-Some.setting c.alone.result (are_text words) (rw c.in-Some.is at c.in_ok-setting.ensures.valid) c.alone.ensures.alone

pub returns-in-Some-clause-none : goal.returns-in-Some-clause-none
returns-in-Some-clause-none c =
    none_alone (map string_bytes c.args.words.now) c.in-Some.setting c.alone.result (rw c.in-Some.is at c.in_ok-setting.ensures.valid) c.alone.ensures.none

pub returns-in-None-clause-none : goal.returns-in-None-clause-none
returns-in-None-clause-none c =
    let none = rw c.in-None.is at c.in_ok-setting.ensures.invalid in
    λ s x. none s x.sets.words_are
