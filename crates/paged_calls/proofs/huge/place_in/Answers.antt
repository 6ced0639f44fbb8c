use Rattle.std.proofs.Common.{◌≡◌, ℕ, ◌+◌, ◌/◌, ◌≤◌, ◌==◌, ◌∙◌, Bool, true, not, ◌||◌, [], ◌∷◌, Some, refl, sym, ap, subst}
use Rattle.heap_model.specs.declared.Act.TheVariants as acts
use Rattle.heap_model.specs.declared.Layer.TheVariants as layers
use Rattle.heap_model.specs.declared.Limits.{Limits}
use Rattle.heap_model.specs.declared.Opening.{Opening}
use Rattle.heap_model.specs.declared.What.TheVariants as whats
use Rattle.heap_model.specs.Geometry.{words_of}
use Rattle.heap_model.specs.Layers.{StandsForLarge}
use Rattle.heap_model.specs.Legal.{leaves_whole}
use Rattle.claim_rule.specs.Entries.{entry, may_prepare}
use Rattle.claim_rule.specs.Places.{data_count}
use Rattle.large_blocks.specs.Table.{LargeTable, layer_of}
use Rattle.large_blocks.specs.Sound.{AreLaid}
use Rattle.heap_gate.specs.Token.{Token, Always, now}
use Rattle.heap_gate.specs.Calls.{HasGiven, with_prepared}
use Rattle.call_parts.proofs.Tokens.{added_one}
use Rattle.paged_calls.proofs.Shapes.{given_behind}
use Rattle.paged_calls.proofs.LargePlaced.{huge_route, words_there, large_limits, large_new, large_token, place_may, large_here, large_added, large_out, large_inside, large_whole, large_tells, large_placed, large_refused, large_refused_tells}
use Rattle.paged_calls.proofs.huge.place_in.Goals as goal

pub prepare-requires-clause-may : goal.prepare-requires-clause-may
prepare-requires-clause-may c =
    let k = c.args.c.now in let flags = c.requires.holds.0 in let old = c.args.large in let n = c.args.n in let h = c.requires.holds.2 in let st = c.check.ensures.stands in let huge = huge_route n c.requires.size in
    large_refused k flags old n h st huge c.in_default.ensures.in_each

pub give_large-requires-clause-tells : goal.give_large-requires-clause-tells
give_large-requires-clause-tells c =
    let k = c.args.c.now in let flags = c.requires.holds.0 in let old = c.args.large in let n = c.args.n in let h = c.requires.holds.2 in let st = c.check.ensures.stands in let huge = huge_route n c.requires.size in
    subst (λ (t : Token). Always t (λ s. (leaves_whole (now s t).state whats.Large ≡ true) × StandsForLarge t.opening (now s t).state (layer_of c.take.new.self))) (sym c.prepare.ensures)
    (large_refused_tells k flags old n h st huge c.in_default.ensures.in_each c.take.new.self c.in_default.ensures.none)

pub returns-in_default-clause-refused : goal.returns-in_default-clause-refused
returns-in_default-clause-refused c =
    let k = c.args.c.now in let flags = c.requires.holds.0 in let old = c.args.large in let n = c.args.n in let h = c.requires.holds.2 in let st = c.check.ensures.stands in let huge = huge_route n c.requires.size in
    let b = c.give_large.new.c in
    let g = subst (λ (x : Token). HasGiven x b whats.Large (entry x.number (acts.GiveLock whats.Large) ∷ [])) c.prepare.ensures c.give_large.ensures in
    record {
      rest = acts.NoFit n ∷ acts.GiveLock whats.Large ∷ [];
      ended = given_behind k (with_prepared k (acts.NoFit n)) b whats.Large (acts.NoFit n ∷ []) [] (added_one k (acts.NoFit n) refl) g h.serving.out_is h.serving.free;
      no_begin = refl;
      shape_is = refl;
    }

pub prepare-requires-2-clause-may : goal.prepare-requires-2-clause-may
prepare-requires-2-clause-may c =
    let k = c.args.c.now in let flags = c.requires.holds.0 in let old = c.args.large in let n = c.args.n in let h = c.requires.holds.2 in let st = c.check.ensures.stands in let huge = huge_route n c.requires.size in
    subst (λ (g : ℕ). Always k (λ s. may_prepare s (now s k) k.number (acts.Place c.in-Some.addr g layers.Large) ≡ true)) (sym c.granules_for-granules.ensures)
    (place_may k flags old n h st huge c.in-Some.addr c.in-Some.ensures.in_each)

pub hand_over-requires-clause-there : goal.hand_over-requires-clause-there
hand_over-requires-clause-there c =
    let k = c.args.c.now in let flags = c.requires.holds.0 in let old = c.args.large in let n = c.args.n in let h = c.requires.holds.2 in let st = c.check.ensures.stands in let huge = huge_route n c.requires.size in
    let addr = c.in-Some.addr in let fits = c.in-Some.ensures.in_each in let t = c.prepare-2.new.c in
    let et : t ≡ large_token k flags old n h st huge addr fits = c.prepare-2.ensures ∙ ap (λ (g : ℕ). with_prepared k (acts.Place addr g layers.Large)) c.granules_for-granules.ensures in
    let o : t.opening ≡ k.opening = ap (λ (x : Token). x.opening) et in
    let l : c.take.new.self.limits ≡ k.opening.limits = c.in-Some.ensures.limits ∙ large_limits k old h.tells in
    let laid = subst (λ (x : LargeTable). AreLaid x.limits 0 x.blocks) c.in-Some.ensures.taken c.blocks-blocks.ensures.sound.laid in
    let there = words_there old.limits addr n old.blocks laid in
    subst (λ (x : Opening). addr / 8 + words_of n ≤ data_count x.limits) (sym o) (subst (λ (x : Limits). addr / 8 + words_of n ≤ data_count x) (large_limits k old h.tells) there)

pub hand_over-requires-clause-new : goal.hand_over-requires-clause-new
hand_over-requires-clause-new c =
    let k = c.args.c.now in let flags = c.requires.holds.0 in let old = c.args.large in let n = c.args.n in let h = c.requires.holds.2 in let st = c.check.ensures.stands in let huge = huge_route n c.requires.size in
    let addr = c.in-Some.addr in let fits = c.in-Some.ensures.in_each in let t = c.prepare-2.new.c in
    let et : t ≡ large_token k flags old n h st huge addr fits = c.prepare-2.ensures ∙ ap (λ (g : ℕ). with_prepared k (acts.Place addr g layers.Large)) c.granules_for-granules.ensures in
    (large_new k flags old n h st huge addr fits, large_here k flags old n h st huge addr fits t et)

pub give_large-requires-2-clause-table : goal.give_large-requires-2-clause-table
give_large-requires-2-clause-table c =
    let k = c.args.c.now in let flags = c.requires.holds.0 in let old = c.args.large in let n = c.args.n in let h = c.requires.holds.2 in let st = c.check.ensures.stands in let huge = huge_route n c.requires.size in
    let addr = c.in-Some.addr in let fits = c.in-Some.ensures.in_each in let t = c.prepare-2.new.c in
    let et : t ≡ large_token k flags old n h st huge addr fits = c.prepare-2.ensures ∙ ap (λ (g : ℕ). with_prepared k (acts.Place addr g layers.Large)) c.granules_for-granules.ensures in
    let d = c.hand_over.new.c in let over = c.hand_over.ensures in
    (large_added k flags old n h st huge addr fits t et d c.args.zero over).goes.table ∙ c.requires.table.0

pub give_large-requires-2-clause-whole : goal.give_large-requires-2-clause-whole
give_large-requires-2-clause-whole c =
    let k = c.args.c.now in let flags = c.requires.holds.0 in let old = c.args.large in let n = c.args.n in let h = c.requires.holds.2 in let st = c.check.ensures.stands in let huge = huge_route n c.requires.size in
    let addr = c.in-Some.addr in let fits = c.in-Some.ensures.in_each in let t = c.prepare-2.new.c in
    let et : t ≡ large_token k flags old n h st huge addr fits = c.prepare-2.ensures ∙ ap (λ (g : ℕ). with_prepared k (acts.Place addr g layers.Large)) c.granules_for-granules.ensures in
    let d = c.hand_over.new.c in let over = c.hand_over.ensures in
    large_whole k flags old n h st huge addr fits t et d c.args.zero over

pub give_large-requires-2-clause-inside : goal.give_large-requires-2-clause-inside
give_large-requires-2-clause-inside c =
    let k = c.args.c.now in let flags = c.requires.holds.0 in let old = c.args.large in let n = c.args.n in let h = c.requires.holds.2 in let st = c.check.ensures.stands in let huge = huge_route n c.requires.size in
    let addr = c.in-Some.addr in let fits = c.in-Some.ensures.in_each in let t = c.prepare-2.new.c in
    let et : t ≡ large_token k flags old n h st huge addr fits = c.prepare-2.ensures ∙ ap (λ (g : ℕ). with_prepared k (acts.Place addr g layers.Large)) c.granules_for-granules.ensures in
    let d = c.hand_over.new.c in let over = c.hand_over.ensures in
    ap (λ (b : Bool). b || not (d.depth == 0)) (large_inside k flags old n h st huge addr fits t et d c.args.zero over)

pub give_large-requires-2-clause-lock : goal.give_large-requires-2-clause-lock
give_large-requires-2-clause-lock c =
    let k = c.args.c.now in let flags = c.requires.holds.0 in let old = c.args.large in let n = c.args.n in let h = c.requires.holds.2 in let st = c.check.ensures.stands in let huge = huge_route n c.requires.size in
    let addr = c.in-Some.addr in let fits = c.in-Some.ensures.in_each in let t = c.prepare-2.new.c in
    let et : t ≡ large_token k flags old n h st huge addr fits = c.prepare-2.ensures ∙ ap (λ (g : ℕ). with_prepared k (acts.Place addr g layers.Large)) c.granules_for-granules.ensures in
    let d = c.hand_over.new.c in let over = c.hand_over.ensures in
    ([], large_out k flags old n h st huge addr fits t et d c.args.zero over, refl)

pub give_large-requires-2-clause-tells : goal.give_large-requires-2-clause-tells
give_large-requires-2-clause-tells c =
    let k = c.args.c.now in let flags = c.requires.holds.0 in let old = c.args.large in let n = c.args.n in let h = c.requires.holds.2 in let st = c.check.ensures.stands in let huge = huge_route n c.requires.size in
    let addr = c.in-Some.addr in let fits = c.in-Some.ensures.in_each in let t = c.prepare-2.new.c in
    let et : t ≡ large_token k flags old n h st huge addr fits = c.prepare-2.ensures ∙ ap (λ (g : ℕ). with_prepared k (acts.Place addr g layers.Large)) c.granules_for-granules.ensures in
    let d = c.hand_over.new.c in let over = c.hand_over.ensures in
    large_tells k flags old n h st huge addr fits t et d c.args.zero over c.take.new.self c.in-Some.ensures.stands

pub returns-clause-placed : goal.returns-clause-placed
returns-clause-placed c =
    let k = c.args.c.now in let flags = c.requires.holds.0 in let old = c.args.large in let n = c.args.n in let h = c.requires.holds.2 in let st = c.check.ensures.stands in let huge = huge_route n c.requires.size in
    let addr = c.in-Some.addr in let fits = c.in-Some.ensures.in_each in let t = c.prepare-2.new.c in
    let et : t ≡ large_token k flags old n h st huge addr fits = c.prepare-2.ensures ∙ ap (λ (g : ℕ). with_prepared k (acts.Place addr g layers.Large)) c.granules_for-granules.ensures in
    let d = c.hand_over.new.c in let over = c.hand_over.ensures in
    large_placed k flags old n h st huge addr fits t et d c.args.zero over c.give_large-2.new.c c.give_large-2.ensures
