-- No more segments are reserved than there are.
use Rattle.std.proofs.Common.{◌≡◌, ℕ, ◌≤◌, true, Option, Some, None, arith, ltb, inl, inr, eqb}
use Rattle.std.proofs.lemmas.Bool.{and_parts, cases_Bool, ltb-true, eqb-true}
use Rattle.heap_model.specs.declared.Act.{Act}
use Rattle.heap_model.specs.declared.Act.TheVariants as acts
use Rattle.heap_model.specs.declared.Layer.TheVariants as layers
use Rattle.heap_model.specs.declared.What.TheVariants as whats
use Rattle.heap_model.specs.State.{Area, Setting, Place, is_layer, place_at}
use Rattle.heap_model.specs.CallState.{Configuration}
use Rattle.heap_model.specs.Legal.{may, state_after, area_with}

resized : (a : Area) (granules n : ℕ) (o : Option Place) → a.reserved ≤ n → (area_with a granules o).reserved ≤ n
resized a granules n None h = h
resized a granules n (Some p) h = elim (cases_Bool (is_layer p.layer layers.Back)) [ inl e ↦ rw e h | inr e ↦ rw e h ]

pub act_below : (s : Setting) (m : Configuration) (c : ℕ) (act : Act) → may s m c act ≡ true → m.state.back.area.reserved ≤ s.limits.segments → (state_after m.state (m.now.calls c) c act).back.area.reserved ≤ s.limits.segments
act_below s m c (acts.Reserve segment) h l =
    let p = and_parts _ (ltb segment s.limits.segments) h in
    let q = and_parts _ (eqb segment m.state.back.area.reserved) p.0 in
    let e = eqb-true segment m.state.back.area.reserved q.1 in
    let f = ltb-true segment s.limits.segments p.1 in
    omega arith
act_below s m c (acts.Resize a granules size) h l = resized m.state.back.area granules s.limits.segments (place_at m.state c a) l
act_below s m c (acts.Place start granules layers.Lfh) h l = l
act_below s m c (acts.Place start granules layers.Vs) h l = l
act_below s m c (acts.Place start granules layers.Back) h l = l
act_below s m c (acts.Place start granules layers.Large) h l = l
act_below s m c (acts.Blocked whats.Gate word) h l = l
act_below s m c _ h l = l
