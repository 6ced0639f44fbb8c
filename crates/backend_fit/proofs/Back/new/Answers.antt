use Rattle.std.proofs.Common.{◌≡◌, [], refl}
use Rattle.backend_fit.specs.Pages.{pages_area, taken_in}
use Rattle.backend_fit.specs.Kept.{Kept}
use Rattle.backend_fit.proofs.Fresh.{fresh_sound, fresh_area, fresh_taken}
use Rattle.backend_fit.proofs.Sounds.{all_sound}
use Rattle.backend_fit.proofs.Standing.{opens}
use Rattle.backend_fit.proofs.Back.new.Goals as goal
use Rattle.backend_fit.proofs.Back.new.Goals.{In_ok-descs}

abbrev made : In_ok-descs → Kept
made c = record { limits = c.args.limits.now; region = c.in_ok-region.region; words = c.in_ok-descs.descs }

area : (c : In_ok-descs) → pages_area (record { region = c.in_ok-region.region; words = c.in_ok-descs.descs }) ≡ record { reserved = 0; committed = λ _. Rattle.std.specs.Prelude.false; spans = [] }
area c = rw (c.in_ok-region.ensures, c.in_ok-descs.ensures.words) (fresh_area c.args.limits.now.segments c.requires.segments)

spans : (c : In_ok-descs) → taken_in c.in_ok-descs.descs ≡ []
spans c = rw c.in_ok-descs.ensures.words (fresh_taken c.args.limits.now.segments c.requires.segments)

pub invariant_of-result : goal.invariant_of-result
invariant_of-result c =
    rw (c.in_ok-region.ensures, c.in_ok-descs.ensures.words)
    (all_sound (record { limits = c.args.limits.now; region = _; words = _ }) c.requires refl (fresh_sound c.args.limits.now.segments c.requires.segments))

pub returns-clause-area : goal.returns-clause-area
returns-clause-area c = area (goal.at.returns-clause-area c).In_ok-descs

pub returns-clause-spans : goal.returns-clause-spans
returns-clause-spans c = spans (goal.at.returns-clause-spans c).In_ok-descs

pub returns-clause-stands : goal.returns-clause-stands
returns-clause-stands c =
    let d = (goal.at.returns-clause-stands c).In_ok-descs in
    opens (made d) c.args.limits.now refl (area d) (spans d)
