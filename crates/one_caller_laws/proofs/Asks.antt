-- A question for a size, a word that is read or written.
use Rattle.std.proofs.Common.{◌≡◌, ℕ, false, List, [], ◌∷◌, None, refl, sym, ap, ◌∙◌, subst}
use Rattle.heap_model.specs.declared.Act.{Act}
use Rattle.heap_model.specs.declared.Act.TheVariants as acts
use Rattle.heap_model.specs.declared.Call.{Call}
use Rattle.heap_model.specs.declared.Call.TheVariants as calls
use Rattle.heap_model.specs.declared.Reply.{Reply}
use Rattle.heap_model.specs.declared.Reply.TheVariants as replies
use Rattle.heap_model.specs.State.{Setting, IsValidSetting}
use Rattle.heap_model.specs.CallState.{Configuration}
use Rattle.heap_model.specs.Search.{sought_by}
use Rattle.heap_model.specs.Legal.{may_follow, after, is_compact}
use Rattle.heap_model.specs.Alone.{by_zero, configuration_by}
use Rattle.heap_model.specs.Shape.{shape_of, Sizes, FindsNone, HasActs, Replied}
use Rattle.std.proofs.lemmas.Bool.{and_parts}
use Rattle.one_caller_laws.specs.OneCall.{IsBetween, AreAlike, Answers, IsDetermined, IsSameReply}
use Rattle.one_caller_laws.proofs.Reach.{Calm, may_first}
use Rattle.one_caller_laws.proofs.Pair.{begun_within, begun_whole, begun_same, goes_from, shown_is, none_asked, sized_finds}
use Rattle.one_caller_laws.proofs.Duo.{Duo, duo_at, duo_end, duo_look, duo_size, duo_swap, duo_clash}

---- The start of two calls

pub calm_begun : (s : Setting) (call : Call) (m : Configuration) (reply : Reply) (rest : List Act) → IsValidSetting s → IsBetween s m → Answers s m call reply rest → is_compact call ≡ false →
    ((k : Configuration) → sought_by s k.state 0 call ≡ None) → Calm s call (after s m (by_zero (acts.Begin call)))
calm_begun s call m reply rest valid b a plain asks =
    let h = (and_parts (may_follow s m (by_zero (acts.Begin call))) _ a.legal).0 in
    let w = begun_within s call m valid b h in
    record {
      within = w;
      whole = begun_whole s call m valid b h;
      none = none_asked s call (after s m (by_zero (acts.Begin call))) w (asks (after s m (by_zero (acts.Begin call))));
      plain = plain;
      demand = refl;
    }

pub duo_begun : (s : Setting) (call : Call) (m n : Configuration) (reply other : Reply) (rest others : List Act) → IsValidSetting s → IsBetween s m → IsBetween s n → AreAlike m n → Answers s m call reply rest → Answers s n call other others →
    is_compact call ≡ false → ((k : Configuration) → sought_by s k.state 0 call ≡ None) →
    Duo s call (after s m (by_zero (acts.Begin call))) rest (after s n (by_zero (acts.Begin call))) others
duo_begun s call m n reply other rest others valid b c alike x y plain asks = record {
  calm = calm_begun s call m reply rest valid b x plain asks;
  calm_too = calm_begun s call n other others valid c y plain asks;
  goes = goes_from s call m reply rest x;
  goes_too = goes_from s call n other others y;
  core = begun_same s call m n alike;
  hints = alike.hints;
}

---- What is told by the shape

pub none_is : (a : ℕ) (shape : List Act) → FindsNone a shape → shape ≡ acts.NotLive a ∷ []
none_is a (acts.NotLive b ∷ []) h = ap (λ (x : ℕ). acts.NotLive x ∷ []) h
none_is a _ h = absurd h

sizes_is : (a n : ℕ) (shape : List Act) → Sizes a n shape → shape ≡ acts.Sized a n ∷ []
sizes_is a n (acts.Sized b size ∷ []) h = λ i. acts.Sized (h.0 i) (h.1 i) ∷ []
sizes_is a n _ h = absurd h

-- a duo that finds no live block ends so
pub duo_none : (s : Setting) (call : Call) (m : Configuration) (rest : List Act) (n : Configuration) (others : List Act) (a : ℕ) → Duo s call m rest n others → shape_of rest ≡ acts.NotLive a ∷ [] → shape_of others ≡ acts.NotLive a ∷ [] →
    AreAlike (configuration_by s m rest) (configuration_by s n others)
duo_none s call m rest n others a d e f =
    let x = duo_at s call m rest n others (acts.NotLive a) [] (acts.NotLive a) [] d e f refl refl in
    let k = duo_look s call x.at (acts.NotLive a) x.later x.at_too (acts.NotLive a) x.later_too x.duo refl refl in
    let r = duo_end s call (after s x.at (by_zero (acts.NotLive a))) x.later (after s x.at_too (by_zero (acts.NotLive a))) x.later_too k x.shape x.shape_too in
    subst (λ (z : Configuration). AreAlike z (configuration_by s n others)) (sym x.ends) (subst (λ (z : Configuration). AreAlike (configuration_by s (after s x.at (by_zero (acts.NotLive a))) x.later) z) (sym x.ends_too) r)

-- one cannot find a size and the other no live block
pub duo_sized_none : (s : Setting) (call : Call) (m : Configuration) (rest : List Act) (n : Configuration) (others : List Act) (a size : ℕ) (t : List Act) → Duo s call m rest n others → shape_of rest ≡ acts.NotLive a ∷ [] → shape_of others ≡ acts.Sized a size ∷ t → ⊥
duo_sized_none s call m rest n others a size t d e f =
    let x = duo_at s call m rest n others (acts.NotLive a) [] (acts.Sized a size) t d e f refl refl in
    duo_clash s call x.at x.later x.at_too (acts.Sized a size ∷ x.later_too) a size x.duo (sized_finds s x.at_too a size (may_first s x.at_too (acts.Sized a size) x.later_too x.duo.goes_too))

-- two that find sizes find one, and go on
pub record DuoSized (s : Setting) (call : Call) (m : Configuration) (rest : List Act) (n : Configuration) (others : List Act) (a size other : ℕ) (t u : List Act) : Type 0 where
  pub same : size ≡ other
  pub at : Configuration
  pub later : List Act
  pub at_too : Configuration
  pub later_too : List Act
  pub duo : Duo s call at later at_too later_too
  pub shape : shape_of later ≡ t
  pub shape_too : shape_of later_too ≡ u
  pub ends : configuration_by s m rest ≡ configuration_by s at later
  pub ends_too : configuration_by s n others ≡ configuration_by s at_too later_too

pub duo_sized : (s : Setting) (call : Call) (m : Configuration) (rest : List Act) (n : Configuration) (others : List Act) (a size other : ℕ) (t u : List Act) → Duo s call m rest n others → shape_of rest ≡ acts.Sized a size ∷ t → shape_of others ≡ acts.Sized a other ∷ u →
    DuoSized s call m rest n others a size other t u
duo_sized s call m rest n others a size other t u d e f =
    let x = duo_at s call m rest n others (acts.Sized a size) t (acts.Sized a other) u d e f refl refl in
    record {
      same = duo_size s call x.at x.later x.at_too x.later_too a size other x.duo;
      at = after s x.at (by_zero (acts.Sized a size));
      later = x.later;
      at_too = after s x.at_too (by_zero (acts.Sized a other));
      later_too = x.later_too;
      duo = duo_look s call x.at (acts.Sized a size) x.later x.at_too (acts.Sized a other) x.later_too x.duo refl refl;
      shape = x.shape;
      shape_too = x.shape_too;
      ends = x.ends;
      ends_too = x.ends_too;
    }

pub alike_at : (m n k l : Configuration) → m ≡ k → n ≡ l → AreAlike k l → AreAlike m n
alike_at m n k l e f a = subst (λ (z : Configuration). AreAlike z n) (sym e) (subst (λ (z : Configuration). AreAlike k z) (sym f) a)

pub duo_sized_end : (s : Setting) (call : Call) (m : Configuration) (rest : List Act) (n : Configuration) (others : List Act) (a size other : ℕ) → DuoSized s call m rest n others a size other [] [] → AreAlike (configuration_by s m rest) (configuration_by s n others)
duo_sized_end s call m rest n others a size other x = alike_at _ _ _ _ x.ends x.ends_too (duo_end s call x.at x.later x.at_too x.later_too x.duo x.shape x.shape_too)

---- Size

-- how a question for a size is answered
data SizeAnswer (a : ℕ) (reply : Reply) (shape : List Act) : Type 0 where
  HasSize : (n : ℕ) → reply ≡ replies.Number n → shape ≡ acts.Sized a n ∷ [] → SizeAnswer a reply shape
  HasNoSize : reply ≡ replies.NotLive → shape ≡ acts.NotLive a ∷ [] → SizeAnswer a reply shape

size_answer : (a : ℕ) (reply : Reply) (shape : List Act) → HasActs (calls.Size a) (Replied reply) shape → SizeAnswer a reply shape
size_answer a (replies.Number n) shape h = HasSize n refl (sizes_is a n shape h)
size_answer a replies.NotLive shape h = HasNoSize refl (none_is a shape h)
size_answer a _ shape h = absurd h

pub same_reply : (r q : Reply) → r ≡ q → IsSameReply r q
same_reply r q e = subst (IsSameReply r) e (self r)
  where
    self : (r : Reply) → IsSameReply r r
    self (replies.Walked n) = tt
    self (replies.Address a) = refl
    self replies.Done = refl
    self (replies.Number n) = refl
    self replies.NoFit = refl
    self replies.NotLive = refl
    self replies.NoRoom = refl
    self (replies.Past n) = refl
    self replies.Depth = refl
    self replies.NotOwner = refl
    self replies.NotLocked = refl
    self (replies.Seen b) = refl
    self (replies.Compacted n) = refl

pub size_determined : (a : ℕ) → IsDetermined (calls.Size a)
size_determined a s m n reply other rest others valid b c alike x y =
    go (size_answer a reply (shape_of rest) (subst (HasActs call (Replied reply)) (shown_is s call m rest) x.gets.shape))
    (size_answer a other (shape_of others) (subst (HasActs call (Replied other)) (shown_is s call n others) y.gets.shape))
  where
    call : Call
    call = calls.Size a

    k : Configuration
    k = after s m (by_zero (acts.Begin (calls.Size a)))

    l : Configuration
    l = after s n (by_zero (acts.Begin (calls.Size a)))

    d : Duo s (calls.Size a) (after s m (by_zero (acts.Begin (calls.Size a)))) rest (after s n (by_zero (acts.Begin (calls.Size a)))) others
    d = duo_begun s (calls.Size a) m n reply other rest others valid b c alike x y refl (λ k. refl)

    go : SizeAnswer a reply (shape_of rest) → SizeAnswer a other (shape_of others) →
        IsSameReply reply other × AreAlike (configuration_by s (after s m (by_zero (acts.Begin (calls.Size a)))) rest) (configuration_by s (after s n (by_zero (acts.Begin (calls.Size a)))) others)
    go (HasSize p e f) (HasSize q g h) =
        let z = duo_sized s (calls.Size a) _ rest _ others a p q [] [] d f h in
        (same_reply reply other (e ∙ ap replies.Number z.same ∙ sym g), duo_sized_end s (calls.Size a) _ rest _ others a p q z)
    go (HasSize p e f) (HasNoSize g h) = absurd (duo_sized_none s (calls.Size a) _ others _ rest a p [] (duo_swap s (calls.Size a) _ rest _ others d) h f)
    go (HasNoSize e f) (HasSize q g h) = absurd (duo_sized_none s (calls.Size a) _ rest _ others a q [] d f h)
    go (HasNoSize e f) (HasNoSize g h) = (same_reply reply other (e ∙ sym g), duo_none s (calls.Size a) _ rest _ others a d f h)
