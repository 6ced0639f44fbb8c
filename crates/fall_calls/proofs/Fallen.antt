-- An allocation behind its NoSpan, from before its search.
use Rattle.std.proofs.Common.{◌≡◌, ℕ, Bool, true, false, List, [], ◌∷◌, ◌++◌, refl, ap, ◌∙◌, inl, inr}
use Rattle.std.specs.Prelude.{if◌then◌else◌}
use Rattle.heap_model.specs.declared.Act.{Act}
use Rattle.heap_model.specs.declared.Act.TheVariants as acts
use Rattle.heap_model.specs.declared.AllocNo.{AllocNo}
use Rattle.heap_model.specs.declared.AllocNo.TheVariants as alloc_nos
use Rattle.heap_model.specs.declared.Reply.TheVariants as replies
use Rattle.heap_model.specs.declared.What.TheVariants as whats
use Rattle.heap_model.specs.Shape.{Replied, shape_of}
use Rattle.backend_fit.specs.Kept.{Kept}
use Rattle.vs_layer.specs.Kept.{VsKept}
use Rattle.heap_gate.specs.Token.{Token}
use Rattle.call_parts.specs.Calls.{GoesOn}
use Rattle.call_parts.proofs.Joining.{goes_then}
use Rattle.call_parts.proofs.Serving.{none_begins, none_begins-append, shape-append}
use Rattle.vs_calls.specs.Parts.{Places, Refuses}
use Rattle.small_calls.proofs.ForVs.{brings_behind}
use Rattle.small_calls.proofs.Shown.{readings_shown}
use Rattle.small_calls.proofs.VsHeld.{places_behind}
use Rattle.small_calls.specs.Served.{IsRefusedSmall}
use Rattle.fall_calls.specs.Falls.{FallsToVs, HasNoRoom, IsFallen, IsRefusedBehind, IsRefused}

-- taking a lock shows nothing
abbrev taking : Bool → List Act
taking vs_last = if vs_last then acts.TakeLock whats.Vs ∷ [] else []

taking_quiet : (vs_last : Bool) → (shape_of (taking vs_last) ≡ []) × (none_begins (taking vs_last) ≡ true)
taking_quiet true = (refl, refl)
taking_quiet false = (refl, refl)

module _ (a c : Token) (vs : VsKept) (back : Kept) (n : ℕ) (zero_it vs_last : Bool) (x : IsFallen a c vs back n zero_it vs_last) where
  pub falls : FallsToVs c vs back n zero_it vs_last
  falls =
      let y = x.2.for_vs in
      record { flags = y.flags; zero_is = y.zero_is; stands = y.stands; bucket = x.0; bucket_is = x.1; keeps = y.keeps; back_is = y.back_is; cannot = y.cannot }

  abbrev said : List Act
  said = acts.NoSpan x.0 ∷ []

  abbrev last : List Act
  last = taking vs_last ++ x.2.for_vs.its

  abbrev all : List Act
  all = (x.2.first ++ said) ++ last

  goes : GoesOn a c all
  goes = goes_then a x.2.at c (x.2.first ++ said) last x.2.goes x.2.for_vs.goes

  quiet : (shape_of all ≡ []) × (none_begins all ≡ true)
  quiet =
      let r = readings_shown x.2.for_vs.its x.2.for_vs.are in
      let t = taking_quiet vs_last in
      let front : shape_of (x.2.first ++ said) ≡ [] = shape-append x.2.first said ∙ ap (λ (l : List Act). l ++ []) x.2.shape_is in
      let behind : shape_of last ≡ [] = shape-append (taking vs_last) x.2.for_vs.its ∙ (λ i. t.0 i ++ r.0 i) in (
        shape-append (x.2.first ++ said) last ∙ (λ i. front i ++ behind i),
        none_begins-append (x.2.first ++ said) last (none_begins-append x.2.first said x.2.no_begin refl) (none_begins-append (taking vs_last) x.2.for_vs.its t.1 r.1),
      )

  pub same_table : (c.table ≡ a.table) × (c.opening ≡ a.opening)
  same_table = (goes.table, goes.opening)

  call : c.call ≡ a.call
  call = x.2.for_vs.call ∙ x.2.call

  pub placed_from : (f : Token) (addr : ℕ) → Places c f addr → Places a f addr
  placed_from f addr p = places_behind a c f addr all goes quiet.1 quiet.0 call p

  pub refused_from : (f : Token) → HasNoRoom vs back n → Refuses c f → IsRefused n a f alloc_nos.NoFit
  refused_from f none p =
      let behind : IsRefusedBehind a f n =
      record { zero = zero_it; vs_last = vs_last; at = c; vs = vs; back = back; fallen = x; none = none; refused = brings_behind a c f (Replied replies.NoFit) all goes quiet.1 quiet.0 call p } in inr behind

-- what is refused before both locks are held
pub refused_small : (n : ℕ) (a f : Token) (no : AllocNo) → IsRefusedSmall n a f no → IsRefused n a f no
refused_small n a f alloc_nos.NoFit r = inl r
refused_small n a f (alloc_nos.Busy busy) r = r
