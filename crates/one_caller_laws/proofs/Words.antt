-- A word that is read or written, the heap lock, and a step of a walk.
use Rattle.std.proofs.Common.{◌≡◌, ℕ, ◌+◌, ◌/◌, ◌<◌, ◌≤◌, true, ◌&&◌, List, [], ◌∷◌, Some, None, refl, sym, ap, ◌∙◌, subst, arith, eqb, ltb}
use Rattle.std.proofs.lemmas.Bool.{and_parts, eqb-true}
use Rattle.heap_model.specs.declared.Act.{Act}
use Rattle.heap_model.specs.declared.Act.TheVariants as acts
use Rattle.heap_model.specs.declared.Block.{Block}
use Rattle.heap_model.specs.declared.Call.{Call}
use Rattle.heap_model.specs.declared.Call.TheVariants as calls
use Rattle.heap_model.specs.declared.Reply.{Reply}
use Rattle.heap_model.specs.declared.Reply.TheVariants as replies
use Rattle.heap_model.specs.Geometry.{words_of}
use Rattle.heap_model.specs.State.{Setting, updated}
use Rattle.heap_model.specs.CallState.{Configuration, caller_view, Nothing}
use Rattle.heap_model.specs.Search.{sought_by}
use Rattle.heap_model.specs.Legal.{may_follow, after, data_words}
use Rattle.heap_model.specs.Alone.{by_zero, configuration_by}
use Rattle.heap_model.specs.Moments.{moments_by}
use Rattle.heap_model.specs.Shape.{shape_of, Gets, Puts, IsPast, Locks, Unlocks, next_live, HasActs, HasShape, Replied}
use Rattle.heap_model.proofs.GateSound.{row_of}
use Rattle.one_caller_laws.specs.OneCall.{AreAlike, IsDetermined, IsSameReply}
use Rattle.one_caller_laws.proofs.Core.{Core, core_of}
use Rattle.one_caller_laws.proofs.InCall.{IsWhole, SearchesNone}
use Rattle.one_caller_laws.proofs.Reach.{goes_after, may_first}
use Rattle.one_caller_laws.proofs.Pair.{shown_is, none_asked, within_next, HintsAlike}
use Rattle.one_caller_laws.proofs.Duo.{Duo, duo_at, duo_end, duo_look, duo_swap}
use Rattle.one_caller_laws.proofs.Asks.{duo_begun, none_is, duo_none, duo_sized_none, DuoSized, duo_sized, duo_sized_end, same_reply, alike_at}

-- one act of both
pub duo_step : (s : Setting) (call : Call) (m : Configuration) (act : Act) (rest : List Act) (n : Configuration) (others : List Act) → Duo s call m (act ∷ rest) n (act ∷ others) →
    core_of (after s m (by_zero act)) ≡ core_of (after s n (by_zero act)) → IsWhole (core_of (after s m (by_zero act))) → SearchesNone s (after s m (by_zero act)) → SearchesNone s (after s n (by_zero act)) →
    (after s m (by_zero act)).now.demand ≡ Nothing → (after s n (by_zero act)).now.demand ≡ Nothing → HintsAlike (after s m (by_zero act)) (after s n (by_zero act)) →
    Duo s call (after s m (by_zero act)) rest (after s n (by_zero act)) others
duo_step s call m act rest n others d core whole none none_too demand demand_too hints = record {
  calm = record { within = within_next s call m act rest d.calm.within d.goes; whole = whole; none = none; plain = d.calm.plain; demand = demand };
  calm_too = record { within = within_next s call n act others d.calm_too.within d.goes_too; whole = subst IsWhole core whole; none = none_too; plain = d.calm.plain; demand = demand_too };
  goes = goes_after s m act rest d.goes;
  goes_too = goes_after s n act others d.goes_too;
  core = core;
  hints = hints;
}

-- a word is stored, of a call that asks for no size
pub duo_store : (s : Setting) (call : Call) (m : Configuration) (word v : ℕ) (rest : List Act) (n : Configuration) (others : List Act) → Duo s call m (acts.Store word v ∷ rest) n (acts.Store word v ∷ others) →
    ((k : Configuration) → sought_by s k.state 0 call ≡ None) → Duo s call (after s m (by_zero (acts.Store word v))) rest (after s n (by_zero (acts.Store word v))) others
duo_store s call m word v rest n others d asks =
    let act = acts.Store word v in
    let k = after s m (by_zero act) in
    let l = after s n (by_zero act) in
    duo_step s call m act rest n others d (ap (λ (c : Core). record c { words = updated c.words word v }) d.core) (record { vs = d.calm.whole.vs; back = d.calm.whole.back })
    (none_asked s call k (within_next s call m act rest d.calm.within d.goes) (asks k)) (none_asked s call l (within_next s call n act others d.calm_too.within d.goes_too) (asks l)) refl refl d.hints

---- Get and put

-- how a word is read ..
data Read (a index : ℕ) (reply : Reply) (shape : List Act) : Type 0 where
  Loads : (size v : ℕ) → reply ≡ replies.Number v → index < words_of size → shape ≡ acts.Sized a size ∷ acts.Load (a / 8 + index) v ∷ [] → Read a index reply shape
  IsBehind : (size words : ℕ) → reply ≡ replies.Past words → words ≡ words_of size → words ≤ index → shape ≡ acts.Sized a size ∷ [] → Read a index reply shape
  NoBlock : reply ≡ replies.NotLive → shape ≡ acts.NotLive a ∷ [] → Read a index reply shape

gets_is : (a index v : ℕ) (shape : List Act) → Gets a index v shape → (size : ℕ) × (index < words_of size) × (shape ≡ acts.Sized a size ∷ acts.Load (a / 8 + index) v ∷ [])
gets_is a index v (acts.Sized b size ∷ acts.Load word value ∷ []) h = (size, h.3, λ i. acts.Sized (h.0 i) size ∷ acts.Load (h.1 i) (h.2 i) ∷ [])
gets_is a index v _ h = absurd h

past_is : (a index words : ℕ) (shape : List Act) → IsPast a index words shape → (size : ℕ) × (words ≡ words_of size) × (words ≤ index) × (shape ≡ acts.Sized a size ∷ [])
past_is a index words (acts.Sized b size ∷ []) h = (size, h.1, h.2, λ i. acts.Sized (h.0 i) size ∷ [])
past_is a index words _ h = absurd h

read_is : (a index : ℕ) (reply : Reply) (shape : List Act) → HasActs (calls.Get a index) (Replied reply) shape → Read a index reply shape
read_is a index (replies.Number v) shape h = let g = gets_is a index v shape h in Loads g.0 v refl g.1 g.2
read_is a index (replies.Past words) shape h = let g = past_is a index words shape h in IsBehind g.0 words refl g.1 g.2 g.3
read_is a index replies.NotLive shape h = NoBlock refl (none_is a shape h)
read_is a index _ shape h = absurd h

-- .. or written
data Written (a index v : ℕ) (reply : Reply) (shape : List Act) : Type 0 where
  Stores : (size : ℕ) → reply ≡ replies.Done → index < words_of size → shape ≡ acts.Sized a size ∷ acts.Store (a / 8 + index) v ∷ [] → Written a index v reply shape
  IsBehindToo : (size words : ℕ) → reply ≡ replies.Past words → words ≡ words_of size → words ≤ index → shape ≡ acts.Sized a size ∷ [] → Written a index v reply shape
  NoBlockToo : reply ≡ replies.NotLive → shape ≡ acts.NotLive a ∷ [] → Written a index v reply shape

puts_is : (a index v : ℕ) (shape : List Act) → Puts a index v shape → (size : ℕ) × (index < words_of size) × (shape ≡ acts.Sized a size ∷ acts.Store (a / 8 + index) v ∷ [])
puts_is a index v (acts.Sized b size ∷ acts.Store word value ∷ []) h = (size, h.3, λ i. acts.Sized (h.0 i) size ∷ acts.Store (h.1 i) (h.2 i) ∷ [])
puts_is a index v _ h = absurd h

written_is : (a index v : ℕ) (reply : Reply) (shape : List Act) → HasActs (calls.Put a index v) (Replied reply) shape → Written a index v reply shape
written_is a index v replies.Done shape h = let g = puts_is a index v shape h in Stores g.0 refl g.1 g.2
written_is a index v (replies.Past words) shape h = let g = past_is a index words shape h in IsBehindToo g.0 words refl g.1 g.2 g.3
written_is a index v replies.NotLive shape h = NoBlockToo refl (none_is a shape h)
written_is a index v _ shape h = absurd h

-- an index cannot be in a block, and past it
in_and_past : (index size other words : ℕ) → size ≡ other → index < words_of size → words ≡ words_of other → words ≤ index → ⊥
in_and_past index size other words e l w p = let q = ap words_of e in omega (arith, l, w, p, q)

-- what is loaded is the word
loaded : (s : Setting) (m : Configuration) (word v : ℕ) → may_follow s m (by_zero (acts.Load word v)) ≡ true → m.state.words word ≡ v
loaded s m word v h =
    let k = caller_view m 0 in
    let r = and_parts (k.entered && eqb (m.state.words word) v) (ltb word (data_words s)) (row_of s m (by_zero (acts.Load word v)) h) in
    eqb-true (m.state.words word) v (and_parts k.entered (eqb (m.state.words word) v) r.0).1

module _ (s : Setting) (call : Call) (m n : Configuration) (reply other : Reply) (rest others : List Act) where
  abbrev k : Configuration
  k = after s m (by_zero (acts.Begin call))

  abbrev l : Configuration
  l = after s n (by_zero (acts.Begin call))

  abbrev pub Same : Type 0
  Same = IsSameReply reply other × AreAlike (configuration_by s k rest) (configuration_by s l others)

  -- two words that are loaded are one
  both_load : (a size other_size word v q : ℕ) → reply ≡ replies.Number v → other ≡ replies.Number q → DuoSized s call k rest l others a size other_size (acts.Load word v ∷ []) (acts.Load word q ∷ []) → Same
  both_load a size other_size word v q e f x =
      let y = duo_at s call x.at x.later x.at_too x.later_too (acts.Load word v) [] (acts.Load word q) [] x.duo x.shape x.shape_too refl refl in
      let g = loaded s y.at word v (may_first s y.at (acts.Load word v) y.later y.duo.goes) in
      let h = loaded s y.at_too word q (may_first s y.at_too (acts.Load word q) y.later_too y.duo.goes_too) in
      let same : v ≡ q = sym g ∙ ap (λ (c : Core). c.words word) y.duo.core ∙ h in
      let z = duo_look s call y.at (acts.Load word v) y.later y.at_too (acts.Load word q) y.later_too y.duo refl refl in (
        same_reply reply other (e ∙ ap replies.Number same ∙ sym f),
        alike_at _ _ _ _ (x.ends ∙ y.ends) (x.ends_too ∙ y.ends_too) (duo_end s call _ y.later _ y.later_too z y.shape y.shape_too),
      )

  both_store : (a size other_size word v : ℕ) → reply ≡ replies.Done → other ≡ replies.Done → ((k : Configuration) → sought_by s k.state 0 call ≡ None) →
      DuoSized s call k rest l others a size other_size (acts.Store word v ∷ []) (acts.Store word v ∷ []) → Same
  both_store a size other_size word v e f asks x =
      let y = duo_at s call x.at x.later x.at_too x.later_too (acts.Store word v) [] (acts.Store word v) [] x.duo x.shape x.shape_too refl refl in
      let z = duo_store s call y.at word v y.later y.at_too y.later_too y.duo asks in (
        same_reply reply other (e ∙ sym f),
        alike_at _ _ _ _ (x.ends ∙ y.ends) (x.ends_too ∙ y.ends_too) (duo_end s call _ y.later _ y.later_too z y.shape y.shape_too),
      )

  both_past : (a size other_size words q : ℕ) → reply ≡ replies.Past words → other ≡ replies.Past q → words ≡ words_of size → q ≡ words_of other_size → DuoSized s call k rest l others a size other_size [] [] → Same
  both_past a size other_size words q e f w v x = (same_reply reply other (e ∙ ap replies.Past (w ∙ ap words_of x.same ∙ sym v) ∙ sym f), duo_sized_end s call k rest l others a size other_size x)

pub get_determined : (a index : ℕ) → IsDetermined (calls.Get a index)
get_determined a index s m n reply other rest others valid b c alike x y =
    go (read_is a index reply (shape_of rest) (subst (HasActs (calls.Get a index) (Replied reply)) (shown_is s (calls.Get a index) m rest) x.gets.shape))
    (read_is a index other (shape_of others) (subst (HasActs (calls.Get a index) (Replied other)) (shown_is s (calls.Get a index) n others) y.gets.shape))
  where
    d : Duo s (calls.Get a index) (after s m (by_zero (acts.Begin (calls.Get a index)))) rest (after s n (by_zero (acts.Begin (calls.Get a index)))) others
    d = duo_begun s (calls.Get a index) m n reply other rest others valid b c alike x y refl (λ k. refl)

    go : Read a index reply (shape_of rest) → Read a index other (shape_of others) → Same s (calls.Get a index) m n reply other rest others
    go (Loads p v e i f) (Loads q w g j h) = both_load s (calls.Get a index) m n reply other rest others a p q (a / 8 + index) v w e g (duo_sized s (calls.Get a index) _ rest _ others a p q _ _ d f h)
    go (Loads p v e i f) (IsBehind q w g r j h) = let z = duo_sized s (calls.Get a index) _ rest _ others a p q _ _ d f h in absurd (in_and_past index p q w z.same i r j)
    go (Loads p v e i f) (NoBlock g h) = absurd (duo_sized_none s (calls.Get a index) _ others _ rest a p _ (duo_swap s (calls.Get a index) _ rest _ others d) h f)
    go (IsBehind p w e r i f) (Loads q v g j h) = let z = duo_sized s (calls.Get a index) _ rest _ others a p q _ _ d f h in absurd (in_and_past index q p w (sym z.same) j r i)
    go (IsBehind p w e r i f) (IsBehind q v g t j h) = both_past s (calls.Get a index) m n reply other rest others a p q w v e g r t (duo_sized s (calls.Get a index) _ rest _ others a p q _ _ d f h)
    go (IsBehind p w e r i f) (NoBlock g h) = absurd (duo_sized_none s (calls.Get a index) _ others _ rest a p _ (duo_swap s (calls.Get a index) _ rest _ others d) h f)
    go (NoBlock e f) (Loads q v g j h) = absurd (duo_sized_none s (calls.Get a index) _ rest _ others a q _ d f h)
    go (NoBlock e f) (IsBehind q v g t j h) = absurd (duo_sized_none s (calls.Get a index) _ rest _ others a q _ d f h)
    go (NoBlock e f) (NoBlock g h) = (same_reply reply other (e ∙ sym g), duo_none s (calls.Get a index) _ rest _ others a d f h)

pub put_determined : (a index v : ℕ) → IsDetermined (calls.Put a index v)
put_determined a index v s m n reply other rest others valid b c alike x y =
    go (written_is a index v reply (shape_of rest) (subst (HasActs (calls.Put a index v) (Replied reply)) (shown_is s (calls.Put a index v) m rest) x.gets.shape))
    (written_is a index v other (shape_of others) (subst (HasActs (calls.Put a index v) (Replied other)) (shown_is s (calls.Put a index v) n others) y.gets.shape))
  where
    d : Duo s (calls.Put a index v) (after s m (by_zero (acts.Begin (calls.Put a index v)))) rest (after s n (by_zero (acts.Begin (calls.Put a index v)))) others
    d = duo_begun s (calls.Put a index v) m n reply other rest others valid b c alike x y refl (λ k. refl)

    go : Written a index v reply (shape_of rest) → Written a index v other (shape_of others) → Same s (calls.Put a index v) m n reply other rest others
    go (Stores p e i f) (Stores q g j h) = both_store s (calls.Put a index v) m n reply other rest others a p q (a / 8 + index) v e g (λ k. refl) (duo_sized s (calls.Put a index v) _ rest _ others a p q _ _ d f h)
    go (Stores p e i f) (IsBehindToo q w g r j h) = let z = duo_sized s (calls.Put a index v) _ rest _ others a p q _ _ d f h in absurd (in_and_past index p q w z.same i r j)
    go (Stores p e i f) (NoBlockToo g h) = absurd (duo_sized_none s (calls.Put a index v) _ others _ rest a p _ (duo_swap s (calls.Put a index v) _ rest _ others d) h f)
    go (IsBehindToo p w e r i f) (Stores q g j h) = let z = duo_sized s (calls.Put a index v) _ rest _ others a p q _ _ d f h in absurd (in_and_past index q p w (sym z.same) j r i)
    go (IsBehindToo p w e r i f) (IsBehindToo q u g t j h) = both_past s (calls.Put a index v) m n reply other rest others a p q w u e g r t (duo_sized s (calls.Put a index v) _ rest _ others a p q _ _ d f h)
    go (IsBehindToo p w e r i f) (NoBlockToo g h) = absurd (duo_sized_none s (calls.Put a index v) _ others _ rest a p _ (duo_swap s (calls.Put a index v) _ rest _ others d) h f)
    go (NoBlockToo e f) (Stores q g j h) = absurd (duo_sized_none s (calls.Put a index v) _ rest _ others a q _ d f h)
    go (NoBlockToo e f) (IsBehindToo q u g t j h) = absurd (duo_sized_none s (calls.Put a index v) _ rest _ others a q _ d f h)
    go (NoBlockToo e f) (NoBlockToo g h) = (same_reply reply other (e ∙ sym g), duo_none s (calls.Put a index v) _ rest _ others a d f h)

---- The heap lock

locks_is : (shape : List Act) → Locks shape → shape ≡ acts.Lock ∷ []
locks_is (acts.Lock ∷ []) h = refl
locks_is _ h = absurd h

unlocks_is : (shape : List Act) → Unlocks shape → shape ≡ acts.Unlock ∷ []
unlocks_is (acts.Unlock ∷ []) h = refl
unlocks_is _ h = absurd h

lock_is : (reply : Reply) (shape : List Act) → HasActs calls.Lock (Replied reply) shape → (reply ≡ replies.Done) × (shape ≡ acts.Lock ∷ [])
lock_is replies.Done shape h = (refl, locks_is shape h)
lock_is _ shape h = absurd h

unlock_is : (reply : Reply) (shape : List Act) → HasActs calls.Unlock (Replied reply) shape → (reply ≡ replies.Done) × (shape ≡ acts.Unlock ∷ [])
unlock_is replies.Done shape h = (refl, unlocks_is shape h)
unlock_is _ shape h = absurd h

pub lock_determined : IsDetermined calls.Lock
lock_determined s m n reply other rest others valid b c alike x y =
    let call = calls.Lock in
    let p = lock_is reply (shape_of rest) (subst (HasActs call (Replied reply)) (shown_is s call m rest) x.gets.shape) in
    let q = lock_is other (shape_of others) (subst (HasActs call (Replied other)) (shown_is s call n others) y.gets.shape) in
    let d = duo_begun s call m n reply other rest others valid b c alike x y refl (λ k. refl) in
    let z = duo_at s call _ rest _ others acts.Lock [] acts.Lock [] d p.1 q.1 refl refl in
    let k = after s z.at (by_zero acts.Lock) in
    let l = after s z.at_too (by_zero acts.Lock) in
    let u = duo_step s call z.at acts.Lock z.later z.at_too z.later_too z.duo (ap (λ (c : Core). record c { owner = Some 0 }) z.duo.core) (record { vs = z.duo.calm.whole.vs; back = z.duo.calm.whole.back })
    (none_asked s call k (within_next s call z.at acts.Lock z.later z.duo.calm.within z.duo.goes) refl) (none_asked s call l (within_next s call z.at_too acts.Lock z.later_too z.duo.calm_too.within z.duo.goes_too) refl) refl refl z.duo.hints in
    (same_reply reply other (p.0 ∙ sym q.0), alike_at _ _ _ _ z.ends z.ends_too (duo_end s call k z.later l z.later_too u z.shape z.shape_too))

pub unlock_determined : IsDetermined calls.Unlock
unlock_determined s m n reply other rest others valid b c alike x y =
    let call = calls.Unlock in
    let p = unlock_is reply (shape_of rest) (subst (HasActs call (Replied reply)) (shown_is s call m rest) x.gets.shape) in
    let q = unlock_is other (shape_of others) (subst (HasActs call (Replied other)) (shown_is s call n others) y.gets.shape) in
    let d = duo_begun s call m n reply other rest others valid b c alike x y refl (λ k. refl) in
    let z = duo_at s call _ rest _ others acts.Unlock [] acts.Unlock [] d p.1 q.1 refl refl in
    let k = after s z.at (by_zero acts.Unlock) in
    let l = after s z.at_too (by_zero acts.Unlock) in
    let u = duo_step s call z.at acts.Unlock z.later z.at_too z.later_too z.duo (ap (λ (c : Core). record c { owner = None }) z.duo.core) (record { vs = z.duo.calm.whole.vs; back = z.duo.calm.whole.back })
    (none_asked s call k (within_next s call z.at acts.Unlock z.later z.duo.calm.within z.duo.goes) refl) (none_asked s call l (within_next s call z.at_too acts.Unlock z.later_too z.duo.calm_too.within z.duo.goes_too) refl) refl refl z.duo.hints in
    (same_reply reply other (p.0 ∙ sym q.0), alike_at _ _ _ _ z.ends z.ends_too (duo_end s call k z.later l z.later_too u z.shape z.shape_too))

---- A step of a walk

data Walked (s : Setting) (m : Configuration) (from : ℕ) (reply : Reply) (shape : List Act) : Type 0 where
  Sees : (b : Block) → reply ≡ replies.Seen b → next_live from m.state ≡ Some b → shape ≡ [] → Walked s m from reply shape
  Ends : (count : ℕ) → reply ≡ replies.Walked count → next_live from m.state ≡ None → shape ≡ [] → Walked s m from reply shape

walked_is : (s : Setting) (m : Configuration) (from : ℕ) (reply : Reply) (rest : List Act) → HasShape s 0 (calls.WalkNext from) (Replied reply) (moments_by s m (acts.Begin (calls.WalkNext from) ∷ rest)) → Walked s m from reply (shape_of rest)
walked_is s m from (replies.Seen b) rest h = Sees b refl h.1 (sym (shown_is s (calls.WalkNext from) m rest) ∙ h.0)
walked_is s m from (replies.Walked count) rest h = Ends count refl h.1 (sym (shown_is s (calls.WalkNext from) m rest) ∙ h.0)
walked_is s m from _ rest h = absurd h

pub walk_determined : (from : ℕ) → IsDetermined (calls.WalkNext from)
walk_determined from s m n reply other rest others valid b c alike x y = go (walked_is s m from reply rest x.gets.shape) (walked_is s n from other others y.gets.shape)
  where
    d : Duo s (calls.WalkNext from) (after s m (by_zero (acts.Begin (calls.WalkNext from)))) rest (after s n (by_zero (acts.Begin (calls.WalkNext from)))) others
    d = duo_begun s (calls.WalkNext from) m n reply other rest others valid b c alike x y refl (λ k. refl)

    next : next_live from m.state ≡ next_live from n.state
    next = ap (next_live from) alike.state

    go : Walked s m from reply (shape_of rest) → Walked s n from other (shape_of others) → Same s (calls.WalkNext from) m n reply other rest others
    go (Sees p e f g) (Sees q h i j) =
        let z : Some p ≡ Some q = sym f ∙ next ∙ i in
        let same : p ≡ q = cc in
        (same_reply reply other (e ∙ ap replies.Seen same ∙ sym h), duo_end s (calls.WalkNext from) _ rest _ others d g j)
    go (Sees p e f g) (Ends q h i j) = absurd (let z : Some p ≡ None = sym f ∙ next ∙ i in let bad : ⊥ = cc in bad)
    go (Ends p e f g) (Sees q h i j) = absurd (let z : None ≡ Some q = sym f ∙ next ∙ i in let bad : ⊥ = cc in bad)
    go (Ends p e f g) (Ends q h i j) = (subst (λ (r : Reply). IsSameReply r other) (sym e) (subst (IsSameReply (replies.Walked p)) (sym h) tt), duo_end s (calls.WalkNext from) _ rest _ others d g j)
