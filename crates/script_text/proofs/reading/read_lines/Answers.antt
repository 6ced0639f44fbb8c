use Rattle.std.proofs.Common.{◌∙◌, sym, ap, take, arith}
use Rattle.std.proofs.lemmas.Result.{err_from_is_err_and}
use Rattle.script_text.specs.Lines.{lines_of}
use Rattle.script_text.specs.Names.{names_in, different}
use Rattle.script_text.proofs.ReadingLemmas.{not_empty, empty, here, unsaid_here, said_here, line_taken, line_refused, refused_along, drop_step, names_push, shorter, all_taken}
use Rattle.script_text.proofs.reading.read_lines.Goals as goal

pub returns-in_err-said-clause-fault : goal.returns-in_err-said-clause-fault
returns-in_err-said-clause-fault c =
    let p = err_from_is_err_and c.from_residual.result c.from_residual.ensures.1 in
    let i = c.loop-rest.invariant in
    let rest = c.loop-rest.rest.now in
    let lines = lines_of c.args.text.now in
    let some = not_empty _ rest c.is_empty.ensures c.loop-rest-test.true in
    let behind = c.cut_line.result.1.now in
    rw (p.1, p.2) (refused_along _ _ _ i.taken.2 (unsaid_here lines i.taken.0 c.loop-rest.number rest c.cut_line.result.0.now behind _ some c.cut_line.ensures.front c.cut_line.ensures.behind i.rest
    (c.in_err-said.ensures.fault (names_in (take c.loop-rest.number lines)) (names_in (lines_of behind)) i.named)))

pub returns-in_err-note-clause-fault : goal.returns-in_err-note-clause-fault
returns-in_err-note-clause-fault c =
    let p = err_from_is_err_and c.from_residual-in_err-note.result c.from_residual-in_err-note.ensures.1 in
    let i = c.loop-rest.invariant in
    let rest = c.loop-rest.rest.now in
    let lines = lines_of c.args.text.now in
    let some = not_empty _ rest c.is_empty.ensures c.loop-rest-test.true in
    let behind = c.cut_line.result.1.now in
    let said = said_here lines c.loop-rest.number rest c.cut_line.result.0.now behind c.in_ok-said.said some c.cut_line.ensures.front c.cut_line.ensures.behind i.rest
    (c.in_ok-said.ensures.said (names_in (take c.loop-rest.number lines)) (names_in (lines_of behind)) i.named) in
    rw (p.1, p.2) (refused_along _ _ _ i.taken.2 (line_refused (names_in lines) i.taken.0 c.loop-rest.number rest c.cut_line.result.0.now c.in_ok-said.said _ some c.cut_line.ensures.front said
    (c.in_err-note.ensures.fault i.taken.0 i.taken.1)))

pub loop-rest-preserved : goal.loop-rest-preserved
loop-rest-preserved c =
    let i = c.loop-rest.invariant in
    let rest = c.loop-rest.rest.now in
    let lines = lines_of c.args.text.now in
    let number = c.loop-rest.number in
    let some = not_empty _ rest c.is_empty.ensures c.loop-rest-test.true in
    let front = c.cut_line.result.0.now in
    let behind = c.cut_line.result.1.now in
    let at = here lines number rest front behind some c.cut_line.ensures.front c.cut_line.ensures.behind i.rest in
    let said = said_here lines number rest front behind c.in_ok-said.said some c.cut_line.ensures.front c.cut_line.ensures.behind i.rest
    (c.in_ok-said.ensures.said (names_in (take number lines)) (names_in (lines_of behind)) i.named) in
    let n = c.in_ok-note.ensures.noted i.taken.0 i.taken.1 in
    record {
      rest = sym (drop_step lines number front (lines_of behind) at);
      taken = (n.after, n.taken, line_taken (names_in lines) i.taken.0 n.after number rest front behind c.in_ok-said.said some c.cut_line.ensures.front c.cut_line.ensures.behind said n.is_noted ∙ i.taken.2);
      named = rw (names_push lines number front (lines_of behind) at) (c.in_ok-said.ensures.numbered (names_in (take number lines)) i.named);
      within = c.in_ok-note.ensures.within;
      few_names = omega (arith, i.few_names, c.say.ensures.count);
      room = rw c.cut_line.ensures.behind (omega (arith, shorter rest some, i.room));
    }

pub returns-clause-names : goal.returns-clause-names
returns-clause-names c =
    let i = c.loop-rest.invariant in
    let rest = c.loop-rest.rest.now in
    let none = empty _ rest c.is_empty.ensures c.loop-rest-test.false in
    c.count-names.ensures ∙ i.named.count ∙ ap (λ ls. different (names_in ls)) (all_taken (lines_of c.args.text.now) c.loop-rest.number rest none i.rest)
