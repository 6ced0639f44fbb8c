use Rattle.std.proofs.Common.{[], refl, sym, ◌∙◌}
use Rattle.std.proofs.lemmas.Bool.{false≢true}
use Rattle.claim_rule.specs.Entries.{setting_of}
use Rattle.claim_rule.proofs.Advance.{some_setting}
use Rattle.small_calls.proofs.Asking.{asking_kept, goes_quiet, try_places}
use Rattle.small_calls.proofs.SeenActive.{seen_later, active_now}
use Rattle.small_calls.proofs.Tries.{try_neither}
use Rattle.small_calls.proofs.ways.try_front.Goals as goal

pub returns-then-not-active_of-clause-tries : goal.returns-then-not-active_of-clause-tries
returns-then-not-active_of-clause-tries c =
    let a = c.args.c.now in let m = c.active_of.new.c in let r = c.active_of.ensures.runs in let s = c.active_of.ensures.stands in
    record { goes = goes_quiet a m r s; call = s.call; asking = asking_kept a m c.args.n c.args.zero [] [] refl r s c.requires.asking }

pub returns-then-not-active_of-clause-late : goal.returns-then-not-active_of-clause-late
returns-then-not-active_of-clause-late c h =
    let a = c.args.c.now in let m = c.active_of.new.c in
    let seen = seen_later a m [] c.args.bucket (goes_quiet a m c.active_of.ensures.runs c.active_of.ensures.stands) h in
    let s = setting_of m.opening m.roll in
    false≢true (sym (c.if-not-active_of.ensures.active s (some_setting m.opening m.roll)) ∙ active_now m c.args.bucket seen s)

pub serve_by_hint-requires-clause-asking : goal.serve_by_hint-requires-clause-asking
serve_by_hint-requires-clause-asking c = ([], asking_kept c.args.c.now c.active_of.new.c c.args.n c.args.zero [] [] refl c.active_of.ensures.runs c.active_of.ensures.stands c.requires.asking)

pub returns-in-Placed-clause-tries : goal.returns-in-Placed-clause-tries
returns-in-Placed-clause-tries c =
    let a = c.args.c.now in let m = c.active_of.new.c in let r = c.active_of.ensures.runs in let s = c.active_of.ensures.stands in
    let x = asking_kept a m c.args.n c.args.zero [] [] refl r s c.requires.asking in
    try_places a m c.serve_by_hint.new.c c.args.n c.args.bucket c.in-Placed.addr c.args.zero x r s (c.in-Placed.ensures [] x)

pub returns-in-Placed-clause-late : goal.returns-in-Placed-clause-late
returns-in-Placed-clause-late c =
    let a = c.args.c.now in let m = c.active_of.new.c in let r = c.active_of.ensures.runs in let s = c.active_of.ensures.stands in
    let x = asking_kept a m c.args.n c.args.zero [] [] refl r s c.requires.asking in
    try_neither a m c.serve_by_hint.new.c (goes_quiet a m r s) c.args.bucket c.args.n c.args.zero c.in-Placed.addr (c.in-Placed.ensures [] x)

pub returns-in-Spent-clause-tries : goal.returns-in-Spent-clause-tries
returns-in-Spent-clause-tries c =
    let a = c.args.c.now in let m = c.active_of.new.c in let r = c.active_of.ensures.runs in let s = c.active_of.ensures.stands in
    let x = asking_kept a m c.args.n c.args.zero [] [] refl r s c.requires.asking in
    record { begun = m; goes = goes_quiet a m r s; call = s.call; asking = x; spent = c.in-Spent.ensures [] x }
