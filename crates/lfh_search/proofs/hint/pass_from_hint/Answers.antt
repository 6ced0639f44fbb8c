use Rattle.std.proofs.Common.{ℕ, ◌*◌, ◌<◌, [], ◌∷◌, ◌++◌, sym, ap, ◌∙◌, subst, arith}
use Rattle.heap_model.specs.declared.Opening.{Opening}
use Rattle.heap_model.specs.Limits.{AreValid}
use Rattle.heap_model.specs.Buckets.{block_count}
use Rattle.heap_model.specs.CallState.{not_begun}
use Rattle.lfh_search.specs.Acts.{by}
use Rattle.lfh_search.specs.Results.{HasPlaced, IsBeaten, place}
use Rattle.lfh_search.specs.Readings.{IsDried}
use Rattle.lfh_search.proofs.Subsegment.{in_use}
use Rattle.lfh_search.proofs.HintSearch.{may_hint, finds_none, slot, can_read, there_behind, found, dries, beaten}
use Rattle.lfh_search.proofs.hint.pass_from_hint.Goals as goal

pub hint_of-requires-clause-may : goal.hint_of-requires-clause-may
hint_of-requires-clause-may g c = may_hint c.args.c.now c.args.bucket c.args.draw.value c.requires.searches c.requires.paid c.requires.hint c.check.ensures.stands

pub returns-in_default-clause-searched : goal.returns-in_default-clause-searched
returns-in_default-clause-searched g c = finds_none c.args.c.now c.args.bucket c.args.draw.value c.requires.searches c.requires.paid c.requires.hint c.hint_of.new.c c.in_default.ensures.none

pub read_subsegment-requires-clause-slot : goal.read_subsegment-requires-clause-slot
read_subsegment-requires-clause-slot g c =
    subst (λ (n : ℕ). n < 16) (sym (slot c.args.c.now c.args.bucket c.args.draw.value c.requires.searches c.requires.paid c.requires.hint c.hint_of.new.c c.in-Some.head c.in-Some.ensures.found)) c.requires.slot

pub read_subsegment-requires-clause-can : goal.read_subsegment-requires-clause-can
read_subsegment-requires-clause-can g c =
    (not_begun, can_read c.args.c.now c.args.bucket c.args.draw.value c.requires.searches c.requires.paid c.requires.hint c.hint_of.new.c c.in-Some.head c.in-Some.ensures.found c.new.result c.new.ensures.bucket (ap (λ x. x.value) c.new.ensures.draw))

pub block_at-requires-clause-head : goal.block_at-requires-clause-head
block_at-requires-clause-head g c =
    let v = subst AreValid c.limits-limits.ensures.limits c.limits-limits.ensures.valid in
    let s = v.segments in
    let f = c.in-Some.ensures.found in
    let l : c.in-Some.head < 256 * c.args.heap.now.opening.limits.segments = subst (λ (o : Opening). c.in-Some.head < 256 * o.limits.segments) (f.runs.does.opening ∙ c.requires.table.1) f.small in
    omega (arith, l, s)

pub block_at-requires-clause-index : goal.block_at-requires-clause-index
block_at-requires-clause-index g c =
    let can = can_read c.args.c.now c.args.bucket c.args.draw.value c.requires.searches c.requires.paid c.requires.hint c.hint_of.new.c c.in-Some.head c.in-Some.ensures.found c.new.result c.new.ensures.bucket (ap (λ x. x.value) c.new.ensures.draw) in
    subst (λ (b : ℕ). c.in-Claimed.index < block_count b) c.new.ensures.bucket (c.in-Claimed.ensures not_begun can).below

pub returns-in-Claimed-clause-searched : goal.returns-in-Claimed-clause-searched
returns-in-Claimed-clause-searched g c =
    let can = can_read c.args.c.now c.args.bucket c.args.draw.value c.requires.searches c.requires.paid c.requires.hint c.hint_of.new.c c.in-Some.head c.in-Some.ensures.found c.new.result c.new.ensures.bucket (ap (λ x. x.value) c.new.ensures.draw) in
    found c.args.c.now c.args.bucket c.args.draw.value c.requires.searches c.requires.paid c.requires.hint c.hint_of.new.c c.in-Some.head c.in-Some.ensures.found c.read_subsegment.new.c
    (record { head = c.in-Some.head; index = c.in-Claimed.index; addr = c.block_at.result }) c.block_at.ensures
    (subst (λ (b : ℕ). HasPlaced c.hint_of.new.c c.read_subsegment.new.c b c.in-Some.head c.in-Claimed.index) c.new.ensures.bucket (c.in-Claimed.ensures not_begun can))

pub returns-in-Dry-clause-searched : goal.returns-in-Dry-clause-searched
returns-in-Dry-clause-searched g c =
    let can = can_read c.args.c.now c.args.bucket c.args.draw.value c.requires.searches c.requires.paid c.requires.hint c.hint_of.new.c c.in-Some.head c.in-Some.ensures.found c.new.result c.new.ensures.bucket (ap (λ x. x.value) c.new.ensures.draw) in
    dries c.args.c.now c.args.bucket c.args.draw.value c.requires.searches c.requires.paid c.requires.hint c.hint_of.new.c c.in-Some.head c.in-Some.ensures.found c.read_subsegment.new.c
    c.in-Dry.lost (in_use c.args.bucket c.requires.bucket).0
    (subst (λ (x : ℕ × ℕ). IsDried c.hint_of.new.c c.read_subsegment.new.c x.0 x.1 not_begun c.in-Some.head 0 c.in-Dry.lost) (λ j. (c.new.ensures.bucket j, (c.new.ensures.draw j).value)) (c.in-Dry.ensures not_begun can))

pub returns-in-Beaten-clause-searched : goal.returns-in-Beaten-clause-searched
returns-in-Beaten-clause-searched g c =
    let can = can_read c.args.c.now c.args.bucket c.args.draw.value c.requires.searches c.requires.paid c.requires.hint c.hint_of.new.c c.in-Some.head c.in-Some.ensures.found c.new.result c.new.ensures.bucket (ap (λ x. x.value) c.new.ensures.draw) in
    beaten c.args.c.now c.args.bucket c.args.draw.value c.requires.searches c.requires.paid c.requires.hint c.hint_of.new.c c.in-Some.head c.in-Some.ensures.found c.read_subsegment.new.c
    (subst (λ (x : ℕ × ℕ). IsBeaten c.hint_of.new.c c.read_subsegment.new.c x.0 x.1 0) (λ j. (c.new.ensures.bucket j, (c.new.ensures.draw j).value)) (c.in-Beaten.ensures not_begun can))

pub returns-in_default-clause-there : goal.returns-in_default-clause-there
returns-in_default-clause-there g c = λ out. tt

pub returns-in-Dry-clause-there : goal.returns-in-Dry-clause-there
returns-in-Dry-clause-there g c = λ out. tt

pub returns-in-Beaten-clause-there : goal.returns-in-Beaten-clause-there
returns-in-Beaten-clause-there g c = λ out. tt

pub returns-in-Claimed-clause-there : goal.returns-in-Claimed-clause-there
returns-in-Claimed-clause-there g c = λ out.
    let can = can_read c.args.c.now c.args.bucket c.args.draw.value c.requires.searches c.requires.paid c.requires.hint c.hint_of.new.c c.in-Some.head c.in-Some.ensures.found c.new.result c.new.ensures.bucket (ap (λ x. x.value) c.new.ensures.draw) in
    let y = c.in-Claimed.ensures not_begun can in
    there_behind c.args.c.now c.args.bucket c.args.draw.value c.requires.searches c.requires.paid c.requires.hint c.hint_of.new.c c.in-Some.head c.in-Some.ensures.found c.read_subsegment.new.c
    (by c.hint_of.new.c.number (y.its ++ place c.new.result.bucket c.in-Some.head c.in-Claimed.index ∷ [])) y.moves.does out c.check.ensures.stands
