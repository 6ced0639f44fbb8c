use Rattle.std.proofs.Common.{ℕ, ◌+◌, ◌*◌, ◌≤◌, ◌==◌, sym, ap, ◌∙◌, subst}
use Rattle.heap_model.specs.declared.Opening.{Opening}
use Rattle.lfh_spans.proofs.Retired.{deep, gives_some, page_small, pages_small, of_tag, retires, retired_runs, retired_stands, retired_back}
use Rattle.lfh_spans.proofs.retire.Goals as goal

pub look_tag-tag-requires-clause-page : goal.look_tag-tag-requires-clause-page
look_tag-tag-requires-clause-page g c = page_small c.args.c.now c.args.back.now c.args.head c.check.ensures.stands c.requires.held c.requires.paid c.requires.back c.region-sound.ensures.sound c.requires.span c.requires.may

pub look_hint-hint-requires-clause-bucket : goal.look_hint-hint-requires-clause-bucket
look_hint-hint-requires-clause-bucket g c =
    (of_tag c.args.c.now c.args.back.now c.args.head c.check.ensures.stands c.requires.held c.requires.paid c.requires.back c.region-sound.ensures.sound c.requires.span c.requires.may
    c.look_tag-tag.new.c c.look_tag-tag.result c.look_tag-tag.ensures.runs c.look_tag-tag.ensures.stands c.look_tag-tag.ensures.word).bucket

pub look_hint-hint-requires-clause-slot : goal.look_hint-hint-requires-clause-slot
look_hint-hint-requires-clause-slot g c =
    (of_tag c.args.c.now c.args.back.now c.args.head c.check.ensures.stands c.requires.held c.requires.paid c.requires.back c.region-sound.ensures.sound c.requires.span c.requires.may
    c.look_tag-tag.new.c c.look_tag-tag.result c.look_tag-tag.ensures.runs c.look_tag-tag.ensures.stands c.look_tag-tag.ensures.word).slot

pub give-pages-requires : goal.give-pages-requires
give-pages-requires g c = gives_some c.args.c.now c.args.back.now c.args.head c.check.ensures.stands c.requires.held c.requires.paid c.requires.back c.region-sound.ensures.sound c.requires.span c.requires.may

pub clear_tags-requires-clause-few : goal.clear_tags-requires-clause-few
clear_tags-requires-clause-few g c =
    subst (λ (o : Opening). c.args.head + c.give-pages.result ≤ 256 * o.limits.segments) (sym (c.look_hint-hint.ensures.runs.does.opening ∙ c.look_tag-tag.ensures.runs.does.opening))
    (pages_small c.args.c.now c.args.back.now c.args.head c.check.ensures.stands c.requires.held c.requires.paid c.requires.back c.region-sound.ensures.sound c.requires.span c.requires.may c.give-pages.result c.give-pages.ensures.pages)

pub clear_tags-requires-clause-owner : goal.clear_tags-requires-clause-owner
clear_tags-requires-clause-owner g c =
    ap (λ (n : ℕ). n == 0) (c.look_hint-hint.ensures.stands.depth ∙ c.look_tag-tag.ensures.stands.depth)
    ∙ deep c.args.c.now c.args.back.now c.args.head c.check.ensures.stands c.requires.held c.requires.paid c.requires.back c.region-sound.ensures.sound c.requires.span c.requires.may

pub give_up-requires-clause-bucket : goal.give_up-requires-clause-bucket
give_up-requires-clause-bucket g c =
    (of_tag c.args.c.now c.args.back.now c.args.head c.check.ensures.stands c.requires.held c.requires.paid c.requires.back c.region-sound.ensures.sound c.requires.span c.requires.may
    c.look_tag-tag.new.c c.look_tag-tag.result c.look_tag-tag.ensures.runs c.look_tag-tag.ensures.stands c.look_tag-tag.ensures.word).bucket

pub give_up-requires-clause-slot : goal.give_up-requires-clause-slot
give_up-requires-clause-slot g c =
    (of_tag c.args.c.now c.args.back.now c.args.head c.check.ensures.stands c.requires.held c.requires.paid c.requires.back c.region-sound.ensures.sound c.requires.span c.requires.may
    c.look_tag-tag.new.c c.look_tag-tag.result c.look_tag-tag.ensures.runs c.look_tag-tag.ensures.stands c.look_tag-tag.ensures.word).slot

pub give_up-requires-clause-may : goal.give_up-requires-clause-may
give_up-requires-clause-may g c =
    retires c.args.c.now c.args.back.now c.args.head c.check.ensures.stands c.requires.held c.requires.paid c.requires.back c.region-sound.ensures.sound c.requires.span c.requires.may
    c.look_tag-tag.new.c c.look_tag-tag.result c.look_tag-tag.ensures.runs c.look_tag-tag.ensures.stands c.look_tag-tag.ensures.word
    c.look_hint-hint.new.c c.clear_tags.new.c c.give-pages.new.self c.look_hint-hint.result c.give-pages.result c.left_behind-left.result c.look_hint-hint.ensures.runs c.look_hint-hint.ensures.stands c.look_hint-hint.ensures.word
    c.give-pages.ensures.pages c.give-pages.ensures.area c.give-pages.ensures.stands c.clear_tags.ensures.runs c.clear_tags.ensures.stands c.left_behind-left.ensures

pub returns-clause-runs : goal.returns-clause-runs
returns-clause-runs g c =
    retired_runs c.args.c.now c.args.back.now c.args.head c.check.ensures.stands c.requires.held c.requires.paid c.requires.back c.region-sound.ensures.sound c.requires.span c.requires.may
    c.look_tag-tag.new.c c.look_tag-tag.result c.look_tag-tag.ensures.runs c.look_tag-tag.ensures.stands c.look_tag-tag.ensures.word
    c.look_hint-hint.new.c c.clear_tags.new.c c.give-pages.new.self c.look_hint-hint.result c.give-pages.result c.left_behind-left.result c.look_hint-hint.ensures.runs c.look_hint-hint.ensures.stands c.look_hint-hint.ensures.word
    c.give-pages.ensures.pages c.give-pages.ensures.area c.give-pages.ensures.stands c.clear_tags.ensures.runs c.clear_tags.ensures.stands c.left_behind-left.ensures
    c.give_up.new.c c.give_up.ensures.runs c.give_up.ensures.stands

pub returns-clause-stands : goal.returns-clause-stands
returns-clause-stands g c =
    retired_stands c.args.c.now c.args.back.now c.args.head c.check.ensures.stands c.requires.held c.requires.paid c.requires.back c.region-sound.ensures.sound c.requires.span c.requires.may
    c.look_tag-tag.new.c c.look_tag-tag.result c.look_tag-tag.ensures.runs c.look_tag-tag.ensures.stands c.look_tag-tag.ensures.word
    c.look_hint-hint.new.c c.clear_tags.new.c c.give-pages.new.self c.look_hint-hint.result c.give-pages.result c.left_behind-left.result c.look_hint-hint.ensures.runs c.look_hint-hint.ensures.stands c.look_hint-hint.ensures.word
    c.give-pages.ensures.pages c.give-pages.ensures.area c.give-pages.ensures.stands c.clear_tags.ensures.runs c.clear_tags.ensures.stands c.left_behind-left.ensures
    c.give_up.new.c c.give_up.ensures.runs c.give_up.ensures.stands

pub returns-clause-back : goal.returns-clause-back
returns-clause-back g c =
    retired_back c.args.c.now c.args.back.now c.args.head c.check.ensures.stands c.requires.held c.requires.paid c.requires.back c.region-sound.ensures.sound c.requires.span c.requires.may
    c.look_tag-tag.new.c c.look_tag-tag.result c.look_tag-tag.ensures.runs c.look_tag-tag.ensures.stands c.look_tag-tag.ensures.word
    c.look_hint-hint.new.c c.clear_tags.new.c c.give-pages.new.self c.look_hint-hint.result c.give-pages.result c.left_behind-left.result c.look_hint-hint.ensures.runs c.look_hint-hint.ensures.stands c.look_hint-hint.ensures.word
    c.give-pages.ensures.pages c.give-pages.ensures.area c.give-pages.ensures.stands c.clear_tags.ensures.runs c.clear_tags.ensures.stands c.left_behind-left.ensures
    c.give_up.new.c c.give_up.ensures.runs c.give_up.ensures.stands
