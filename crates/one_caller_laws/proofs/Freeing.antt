-- A free.
use Rattle.std.proofs.Common.{◌≡◌, ℕ, ◌++◌, List, [], ◌∷◌, Option, refl, sym, ap, ◌∙◌, subst}
use Rattle.std.specs.List.{find}
use Rattle.heap_model.specs.declared.Act.{Act}
use Rattle.heap_model.specs.declared.Act.TheVariants as acts
use Rattle.heap_model.specs.declared.Call.{Call}
use Rattle.heap_model.specs.declared.Call.TheVariants as calls
use Rattle.heap_model.specs.declared.Kind.TheVariants as kinds
use Rattle.heap_model.specs.declared.Layer.{Layer}
use Rattle.heap_model.specs.declared.Layer.TheVariants as layers
use Rattle.heap_model.specs.declared.Reply.{Reply}
use Rattle.heap_model.specs.declared.Reply.TheVariants as replies
use Rattle.heap_model.specs.State.{Setting, Place, Status, InHand, in_hand, has_address, place_at, is_live_at, is_hand_at, change_found, remove_found}
use Rattle.heap_model.specs.CallState.{Configuration}
use Rattle.heap_model.specs.Legal.{after, layer_of, on, with_status}
use Rattle.heap_model.specs.Alone.{by_zero, configuration_by}
use Rattle.heap_model.specs.Shape.{shape_of, Frees, HasActs, Replied}
use Rattle.one_caller_laws.specs.OneCall.{AreAlike, IsDetermined, IsSameReply}
use Rattle.one_caller_laws.proofs.Whole.{used_on}
use Rattle.one_caller_laws.proofs.Core.{Core, core_of, same_place}
use Rattle.one_caller_laws.proofs.InCall.{InCall, IsWhole, SearchesNone}
use Rattle.one_caller_laws.proofs.Reach.{goes_after, may_first}
use Rattle.one_caller_laws.proofs.Pair.{shown_is, none_asked, within_next, take_finds, one_size, ends_alike}
use Rattle.one_caller_laws.proofs.Duo.{Duo, duo_at, duo_swap, duo_clash}
use Rattle.one_caller_laws.proofs.Asks.{duo_begun, none_is, duo_none, same_reply, alike_at}
use Rattle.one_caller_laws.proofs.Words.{duo_step}
use Rattle.one_caller_laws.proofs.Closing.{closed, closes}

-- places of one layer changed
abbrev pub changed_core : Core → Option Layer → (List Place → List Place) → Core
changed_core c l f = record {
  back = record { area = c.back.area; places = on layers.Back f c.back.places l };
  vs = record { places = on layers.Vs f c.vs.places l; active = c.vs.active; served = c.vs.served };
  lfh = on layers.Lfh f c.lfh l;
  large = on layers.Large f c.large l;
  words = c.words;
  owner = c.owner;
  call = c.call;
  placed = c.placed;
  no_span = c.no_span;
  earlier = c.earlier;
  search = c.search;
}

-- the place in hand of an address
abbrev pub hand_of : Core → ℕ → Option Place
hand_of c a = find (has_address a) (in_hand 0 c.lfh ++ in_hand 0 c.vs.places ++ in_hand 0 c.back.places ++ in_hand 0 c.large)

pub whole_restatused : (c : Core) (o : Option Layer) (t : Place → Rattle.std.proofs.Common.Bool) (status : Status) → IsWhole c → IsWhole (changed_core c o (change_found t (with_status status)))
whole_restatused c o t status w = record {
  vs = used_on kinds.Vs layers.Vs t status c.vs.places c.back.area.spans o w.vs;
  back = used_on kinds.Back layers.Back t status c.back.places c.back.area.spans o w.back;
}

-- a block is taken
pub duo_take : (s : Setting) (call : Call) (m : Configuration) (a size : ℕ) (rest : List Act) (n : Configuration) (others : List Act) → Duo s call m (acts.Take a size ∷ rest) n (acts.Take a size ∷ others) →
    SearchesNone s (after s m (by_zero (acts.Take a size))) → SearchesNone s (after s n (by_zero (acts.Take a size))) → Duo s call (after s m (by_zero (acts.Take a size))) rest (after s n (by_zero (acts.Take a size))) others
duo_take s call m a size rest n others d x y =
    let e = d.core in
    let o = same_place s m n d.calm.within.keeps d.calm_too.within.keeps e a in
    duo_step s call m (acts.Take a size) rest n others d (λ i. changed_core (e i) (layer_of (o i)) (change_found (is_live_at a) (with_status (InHand 0))))
    (whole_restatused (core_of m) (layer_of (place_at m.state 0 a)) (is_live_at a) (InHand 0) d.calm.whole) x y refl refl d.hints

pub frees_is : (a : ℕ) (shape : List Act) → Frees a shape → (size : ℕ) × (shape ≡ acts.Take a size ∷ acts.Drop a ∷ [])
frees_is a (acts.Take b size ∷ acts.Drop d ∷ []) h = (size, λ i. acts.Take (h.0 i) size ∷ acts.Drop (h.1 i) ∷ [])
frees_is a _ h = absurd h

data Freed (a : ℕ) (reply : Reply) (shape : List Act) : Type 0 where
  IsFreed : (size : ℕ) → reply ≡ replies.Done → shape ≡ acts.Take a size ∷ acts.Drop a ∷ [] → Freed a reply shape
  IsNone : reply ≡ replies.NotLive → shape ≡ acts.NotLive a ∷ [] → Freed a reply shape

freed_is : (a : ℕ) (reply : Reply) (shape : List Act) → HasActs (calls.Free a) (Replied reply) shape → Freed a reply shape
freed_is a replies.Done shape h = let f = frees_is a shape h in IsFreed f.0 refl f.1
freed_is a replies.NotLive shape h = IsNone refl (none_is a shape h)
freed_is a _ shape h = absurd h

-- a block in hand is dropped, and nothing more is shown
pub duo_drop : (s : Setting) (call : Call) (m : Configuration) (a : ℕ) (rest : List Act) (n : Configuration) (others : List Act) → Duo s call m (acts.Drop a ∷ rest) n (acts.Drop a ∷ others) →
    ((k : Configuration) → InCall s call k → SearchesNone s k) → shape_of rest ≡ [] → shape_of others ≡ [] → AreAlike (configuration_by s (after s m (by_zero (acts.Drop a))) rest) (configuration_by s (after s n (by_zero (acts.Drop a))) others)
duo_drop s call m a rest n others d none e f =
    let k = after s m (by_zero (acts.Drop a)) in
    let l = after s n (by_zero (acts.Drop a)) in
    let c = d.core in
    let same : core_of k ≡ core_of l = λ i. changed_core (c i) (layer_of (hand_of (c i) a)) (remove_found (is_hand_at 0 a)) in
    let x = closes s call k rest (within_next s call m (acts.Drop a) rest d.calm.within d.goes) d.calm.plain none (goes_after s m (acts.Drop a) rest d.goes) e in
    let y = closes s call l others (within_next s call n (acts.Drop a) others d.calm_too.within d.goes_too) d.calm.plain none (goes_after s n (acts.Drop a) others d.goes_too) f in
    ends_alike s call (configuration_by s k rest) (configuration_by s l others) x.within y.within d.goes.idle d.goes_too.idle (x.core ∙ ap closed same ∙ sym y.core) (λ b t. x.hints b t ∙ d.hints b t ∙ sym (y.hints b t))

module _ (a : ℕ) (s : Setting) where
  abbrev call : Call
  call = calls.Free a

  none : (k : Configuration) → InCall s call k → SearchesNone s k
  none k w = none_asked s call k w refl

  both_free : (m : Configuration) (rest : List Act) (n : Configuration) (others : List Act) (p q : ℕ) → Duo s call m rest n others → shape_of rest ≡ acts.Take a p ∷ acts.Drop a ∷ [] → shape_of others ≡ acts.Take a q ∷ acts.Drop a ∷ [] →
      AreAlike (configuration_by s m rest) (configuration_by s n others)
  both_free m rest n others p q d f h =
      let x = duo_at s call m rest n others (acts.Take a p) _ (acts.Take a q) _ d f h refl refl in
      let same : q ≡ p = sym (one_size s call x.at x.at_too a p q x.duo.calm.within x.duo.calm_too.within x.duo.core (take_finds s x.at a p (may_first s x.at (acts.Take a p) x.later x.duo.goes)) (take_finds s x.at_too a q (may_first s x.at_too (acts.Take a q) x.later_too x.duo.goes_too))) in
      let d2 = subst (λ (z : ℕ). Duo s call x.at (acts.Take a p ∷ x.later) x.at_too (acts.Take a z ∷ x.later_too)) same x.duo in
      let ends_too = x.ends_too ∙ ap (λ (z : ℕ). configuration_by s (after s x.at_too (by_zero (acts.Take a z))) x.later_too) same in
      let k = after s x.at (by_zero (acts.Take a p)) in
      let l = after s x.at_too (by_zero (acts.Take a p)) in
      let d3 = duo_take s call x.at a p x.later x.at_too x.later_too d2
      (none k (within_next s call x.at (acts.Take a p) x.later d2.calm.within d2.goes)) (none l (within_next s call x.at_too (acts.Take a p) x.later_too d2.calm_too.within d2.goes_too)) in
      let y = duo_at s call k x.later l x.later_too (acts.Drop a) [] (acts.Drop a) [] d3 x.shape x.shape_too refl refl in
      alike_at _ _ _ _ (x.ends ∙ y.ends) (ends_too ∙ y.ends_too) (duo_drop s call y.at a y.later y.at_too y.later_too y.duo none y.shape y.shape_too)

  taken_none : (m : Configuration) (rest : List Act) (n : Configuration) (others : List Act) (q : ℕ) (u : List Act) → Duo s call m rest n others → shape_of rest ≡ acts.NotLive a ∷ [] → shape_of others ≡ acts.Take a q ∷ u → ⊥
  taken_none m rest n others q u d e f =
      let x = duo_at s call m rest n others (acts.NotLive a) [] (acts.Take a q) u d e f refl refl in
      duo_clash s call x.at x.later x.at_too (acts.Take a q ∷ x.later_too) a q x.duo (take_finds s x.at_too a q (may_first s x.at_too (acts.Take a q) x.later_too x.duo.goes_too))

  free_determined_at : (m n : Configuration) (reply other : Reply) (rest others : List Act) → Duo s call (after s m (by_zero (acts.Begin call))) rest (after s n (by_zero (acts.Begin call))) others → Freed a reply (shape_of rest) → Freed a other (shape_of others) →
      IsSameReply reply other × AreAlike (configuration_by s (after s m (by_zero (acts.Begin call))) rest) (configuration_by s (after s n (by_zero (acts.Begin call))) others)
  free_determined_at m n reply other rest others d (IsFreed p e f) (IsFreed q g h) = (same_reply reply other (e ∙ sym g), both_free _ rest _ others p q d f h)
  free_determined_at m n reply other rest others d (IsFreed p e f) (IsNone g h) = absurd (taken_none _ others _ rest p _ (duo_swap s call _ rest _ others d) h f)
  free_determined_at m n reply other rest others d (IsNone e f) (IsFreed q g h) = absurd (taken_none _ rest _ others q _ d f h)
  free_determined_at m n reply other rest others d (IsNone e f) (IsNone g h) = (same_reply reply other (e ∙ sym g), duo_none s call _ rest _ others a d f h)

pub free_determined : (a : ℕ) → IsDetermined (calls.Free a)
free_determined a s m n reply other rest others valid b c alike x y =
    let call = calls.Free a in
    free_determined_at a s m n reply other rest others (duo_begun s call m n reply other rest others valid b c alike x y refl (λ k. refl))
    (freed_is a reply (shape_of rest) (subst (HasActs call (Replied reply)) (shown_is s call m rest) x.gets.shape))
    (freed_is a other (shape_of others) (subst (HasActs call (Replied other)) (shown_is s call n others) y.gets.shape))
