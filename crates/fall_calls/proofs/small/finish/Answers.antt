use Rattle.std.proofs.Common.{◌≡◌, ℕ, Bool, ◌∙◌, true, false, subst}
use Rattle.std.proofs.lemmas.Result.{IfOk-weaker, IfErr-weaker}
use Rattle.heap_gate.specs.Token.{Token}
use Rattle.small_calls.specs.declared.serving.SmallCall.{SmallCall}
use Rattle.small_calls.specs.declared.serving.SmallCall.TheVariants as ends
use Rattle.small_calls.specs.Served.{ServesSmall}
use Rattle.small_calls.specs.Late.{IsLateCall, IsBackCall}
use Rattle.small_calls.proofs.Backs.{backs_behind}
use Rattle.small_calls.proofs.Late.{late_behind}
use Rattle.fall_calls.proofs.Fallen.{same_table, refused_small}
use Rattle.fall_calls.proofs.small.finish.Goals as goal

abbrev served : (a c : Token) (n : ℕ) (zero : Bool) (came k : SmallCall) → came ≡ k → ServesSmall a c n zero came → ServesSmall a c n zero k
served a c n zero came k e x = subst (λ (z : SmallCall). ServesSmall a c n zero z) e x

abbrev late : (a c : Token) (n : ℕ) (came k : SmallCall) → came ≡ k → IsLateCall a c n came → IsLateCall a c n k
late a c n came k e x = subst (λ (z : SmallCall). IsLateCall a c n z) e x

abbrev back_of : (a c : Token) (n : ℕ) (came k : SmallCall) → came ≡ k → IsBackCall a c n came → IsBackCall a c n k
back_of a c n came k e x = subst (λ (z : SmallCall). IsBackCall a c n z) e x

pub returns-in-Placed-clause-placed : goal.returns-in-Placed-clause-placed
returns-in-Placed-clause-placed c = λ first x. served first c.args.c.now c.args.n c.args.zero c.args.came (ends.Placed c.in-Placed.addr) c.in-Placed.is x

pub returns-in-Refused-clause-refused : goal.returns-in-Refused-clause-refused
returns-in-Refused-clause-refused c = λ first x. refused_small c.args.n first c.args.c.now c.in-Refused.no (served first c.args.c.now c.args.n c.args.zero c.args.came (ends.Refused c.in-Refused.no) c.in-Refused.is x)

pub go_on_behind-requires-clause-table : goal.go_on_behind-requires-clause-table
go_on_behind-requires-clause-table c =
    let r = c.requires.came in
    let t = same_table r.0 c.args.c.now c.in-ForVs.vs c.in-ForVs.back c.args.n c.args.zero true (served r.0 c.args.c.now c.args.n c.args.zero c.args.came (ends.ForVs c.in-ForVs.vs c.in-ForVs.back) c.in-ForVs.is r.3) in
    (t.0 ∙ r.1, t.1 ∙ r.2)

pub go_on_behind-requires-clause-fallen : goal.go_on_behind-requires-clause-fallen
go_on_behind-requires-clause-fallen c = (c.requires.came.0, served c.requires.came.0 c.args.c.now c.args.n c.args.zero c.args.came (ends.ForVs c.in-ForVs.vs c.in-ForVs.back) c.in-ForVs.is c.requires.came.3)

pub returns-in-ForVs-clause-placed : goal.returns-in-ForVs-clause-placed
returns-in-ForVs-clause-placed c = IfOk-weaker c.go_on_behind.result _ _ (λ addr p first x. p first (served first c.args.c.now c.args.n c.args.zero c.args.came (ends.ForVs c.in-ForVs.vs c.in-ForVs.back) c.in-ForVs.is x)) c.go_on_behind.ensures.placed

pub returns-in-ForVs-clause-refused : goal.returns-in-ForVs-clause-refused
returns-in-ForVs-clause-refused c = IfErr-weaker c.go_on_behind.result _ _ (λ no p first x. p first (served first c.args.c.now c.args.n c.args.zero c.args.came (ends.ForVs c.in-ForVs.vs c.in-ForVs.back) c.in-ForVs.is x)) c.go_on_behind.ensures.refused

pub go_on_behind-requires-in-ForVsFirst-clause-table : goal.go_on_behind-requires-in-ForVsFirst-clause-table
go_on_behind-requires-in-ForVsFirst-clause-table c =
    let r = c.requires.came in
    let t = same_table r.0 c.args.c.now c.in-ForVsFirst.vs c.in-ForVsFirst.back c.args.n c.args.zero false (served r.0 c.args.c.now c.args.n c.args.zero c.args.came (ends.ForVsFirst c.in-ForVsFirst.vs c.in-ForVsFirst.back) c.in-ForVsFirst.is r.3) in
    (t.0 ∙ r.1, t.1 ∙ r.2)

pub go_on_behind-requires-in-ForVsFirst-clause-fallen : goal.go_on_behind-requires-in-ForVsFirst-clause-fallen
go_on_behind-requires-in-ForVsFirst-clause-fallen c = (c.requires.came.0, served c.requires.came.0 c.args.c.now c.args.n c.args.zero c.args.came (ends.ForVsFirst c.in-ForVsFirst.vs c.in-ForVsFirst.back) c.in-ForVsFirst.is c.requires.came.3)

pub returns-in-ForVsFirst-clause-placed : goal.returns-in-ForVsFirst-clause-placed
returns-in-ForVsFirst-clause-placed c = IfOk-weaker c.go_on_behind-in-ForVsFirst.result _ _ (λ addr p first x. p first (served first c.args.c.now c.args.n c.args.zero c.args.came (ends.ForVsFirst c.in-ForVsFirst.vs c.in-ForVsFirst.back) c.in-ForVsFirst.is x)) c.go_on_behind-in-ForVsFirst.ensures.placed

pub returns-in-ForVsFirst-clause-refused : goal.returns-in-ForVsFirst-clause-refused
returns-in-ForVsFirst-clause-refused c = IfErr-weaker c.go_on_behind-in-ForVsFirst.result _ _ (λ no p first x. p first (served first c.args.c.now c.args.n c.args.zero c.args.came (ends.ForVsFirst c.in-ForVsFirst.vs c.in-ForVsFirst.back) c.in-ForVsFirst.is x)) c.go_on_behind-in-ForVsFirst.ensures.refused

pub returns-in-Placed-clause-late : goal.returns-in-Placed-clause-late
returns-in-Placed-clause-late c = λ first x. late first c.args.c.now c.args.n c.args.came (ends.Placed c.in-Placed.addr) c.in-Placed.is x

pub returns-in-Refused-clause-late : goal.returns-in-Refused-clause-late
returns-in-Refused-clause-late c = λ first x. late first c.args.c.now c.args.n c.args.came (ends.Refused c.in-Refused.no) c.in-Refused.is x

pub returns-in-ForVs-clause-late : goal.returns-in-ForVs-clause-late
returns-in-ForVs-clause-late c = λ first x b is seen.
    let g = c.go_on_behind.ensures.goes in late_behind first c.args.c.now c.go_on_behind.new.c b g.0 ((late first c.args.c.now c.args.n c.args.came (ends.ForVs c.in-ForVs.vs c.in-ForVs.back) c.in-ForVs.is x) b is seen) g.1

pub returns-in-ForVsFirst-clause-late : goal.returns-in-ForVsFirst-clause-late
returns-in-ForVsFirst-clause-late c = λ first x b is seen.
    let g = c.go_on_behind-in-ForVsFirst.ensures.goes in late_behind first c.args.c.now c.go_on_behind-in-ForVsFirst.new.c b g.0 ((late first c.args.c.now c.args.n c.args.came (ends.ForVsFirst c.in-ForVsFirst.vs c.in-ForVsFirst.back) c.in-ForVsFirst.is x) b is seen) g.1

pub returns-in-Placed-clause-backs : goal.returns-in-Placed-clause-backs
returns-in-Placed-clause-backs c = λ first x. back_of first c.args.c.now c.args.n c.args.came (ends.Placed c.in-Placed.addr) c.in-Placed.is x

pub returns-in-Refused-clause-backs : goal.returns-in-Refused-clause-backs
returns-in-Refused-clause-backs c = λ first x. back_of first c.args.c.now c.args.n c.args.came (ends.Refused c.in-Refused.no) c.in-Refused.is x

pub returns-in-ForVs-clause-backs : goal.returns-in-ForVs-clause-backs
returns-in-ForVs-clause-backs c = λ first x.
    let g = c.go_on_behind.ensures.goes in
    backs_behind first c.args.c.now c.go_on_behind.new.c c.args.n g.0 (back_of first c.args.c.now c.args.n c.args.came (ends.ForVs c.in-ForVs.vs c.in-ForVs.back) c.in-ForVs.is x) g.1

pub returns-in-ForVsFirst-clause-backs : goal.returns-in-ForVsFirst-clause-backs
returns-in-ForVsFirst-clause-backs c = λ first x.
    let g = c.go_on_behind-in-ForVsFirst.ensures.goes in
    backs_behind first c.args.c.now c.go_on_behind-in-ForVsFirst.new.c c.args.n g.0 (back_of first c.args.c.now c.args.n c.args.came (ends.ForVsFirst c.in-ForVsFirst.vs c.in-ForVsFirst.back) c.in-ForVsFirst.is x) g.1
