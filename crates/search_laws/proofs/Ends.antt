-- How a call of caller 0 ends, act by act.
use Rattle.std.proofs.Common.{◌≡◌, ℕ, zero, suc, Bool, true, false, ◌&&◌, not, List, [], ◌∷◌, ◌++◌, Option, None, is_some, refl, sym, ap, subst, ◌∙◌, eqb, inl, inr, if◌then◌else◌}
use Rattle.std.specs.List.{list_all}
use Rattle.std.proofs.Math.Path.{fun_ext}
use Rattle.std.proofs.lemmas.Bool.{cases_Bool, and_from, and_parts, eqb-true}
use Rattle.heap_model.specs.declared.Act.{Act}
use Rattle.heap_model.specs.declared.Act.TheVariants as acts
use Rattle.heap_model.specs.declared.Call.{Call}
use Rattle.heap_model.specs.declared.Reply.{Reply}
use Rattle.heap_model.specs.Bits.{bits_of}
use Rattle.heap_model.specs.Buckets.{words_in_use}
use Rattle.heap_model.specs.State.{State, Setting, Area, Span, Place, updated}
use Rattle.heap_model.specs.CallState.{CallState, Configuration, SpanHistory, Demand}
use Rattle.heap_model.specs.Search.{SearchKey}
use Rattle.heap_model.specs.Legal.{may_follow, after, is_begin}
use Rattle.heap_model.specs.Alone.{by_zero, configuration_by, may_all_come}
use Rattle.heap_model.specs.Moments.{moments_by, acts_of}
use Rattle.heap_model.specs.Shape.{Replied, HasActs, shape_of, is_left_out}
use Rattle.heap_model.specs.Served.{IsOneCall, GetsReply, by_depth}
use Rattle.heap_model.specs.Serial.{IsIdle}
use Rattle.heap_model.proofs.Moments.{acts_by, told_by_acts}
use Rattle.serial_laws.specs.OneCall.{IsAtRest, Completes}
use Rattle.search_laws.specs.Reading.{word_behind, picked_at, reads_from, reads_of, block_found, pass_reads}
use Rattle.search_laws.specs.Laws.{search_of, OnlySearch}
use Rattle.search_laws.specs.Calls.{OnlyLfh, EndsLfh}

---- What a search alone has changed

-- the configuration, by what the search of caller 0 is
pub as_is : (m n : Configuration) → OnlySearch m n →
    n ≡ record { state = m.state; now = record { calls = updated n.now.calls 0 (record (m.now.calls 0) { search = search_of n }); disturbed = m.now.disturbed; span_history = m.now.span_history; demand = m.now.demand } }
as_is m n o =
    ap (λ (st : State). record n { state = st }) o.state
    ∙ ap (λ (cs : ℕ → CallState). of_parts cs n.now.disturbed n.now.span_history n.now.demand) (fun_ext same)
    ∙ ap (λ (d : ℕ → Bool). of_parts calls d n.now.span_history n.now.demand) o.disturbed
    ∙ ap (λ (h : SpanHistory). of_parts calls m.now.disturbed h n.now.demand) o.span_history
    ∙ ap (λ (d : Demand). of_parts calls m.now.disturbed m.now.span_history d) o.demand
  where
    calls : ℕ → CallState
    calls = updated n.now.calls 0 (record (m.now.calls 0) { search = search_of n })

    of_parts : (ℕ → CallState) → (ℕ → Bool) → SpanHistory → Demand → Configuration
    of_parts cs d h q = record { state = m.state; now = record { calls = cs; disturbed = d; span_history = h; demand = q } }

    same : (c : ℕ) → n.now.calls c ≡ calls c
    same c = elim (cases_Bool (eqb c 0)) [
      | inl e ↦ rw e (ap n.now.calls (eqb-true c 0 e) ∙ o.call)
      | inr e ↦ rw e refl
    ]

---- Acts that no shape shows

abbrev pub is_silent : Act → Bool
is_silent act = is_left_out act && not (is_begin act)

shape_behind : (act : Act) (rest : List Act) → is_silent act ≡ true → shape_of (act ∷ rest) ≡ shape_of rest
shape_behind act rest h = let e = (and_parts (is_left_out act) (not (is_begin act)) h).0 in rw e refl

-- These acts behind the Begin of a call are its own, and of the shape of this reply.
pub record AreOf (call : Call) (reply : Reply) (rest : List Act) : Type 0 where
  pub own : list_all (λ act. not (is_begin act)) rest ≡ true
  pub shape : HasActs call (Replied reply) (shape_of rest)

answered_behind : (call : Call) (reply : Reply) (act : Act) (rest : List Act) → is_silent act ≡ true → AreOf call reply rest → AreOf call reply (act ∷ rest)
answered_behind call reply act rest h a = record {
  own = and_from (not (is_begin act)) (list_all (λ act. not (is_begin act)) rest) (and_parts (is_left_out act) (not (is_begin act)) h).1 a.own;
  shape = subst (HasActs call (Replied reply)) (sym (shape_behind act rest h)) a.shape;
}

answered_from : (s : Setting) (m : Configuration) (call : Call) (reply : Reply) (rest : List Act) → AreOf call reply rest → GetsReply s 0 call reply (moments_by s m (acts.Begin call ∷ rest))
answered_from s m call reply rest a =
    let xs = moments_by s m (acts.Begin call ∷ rest) in
    let is : acts.Begin call ∷ rest ≡ acts_of xs = sym (acts_by s m (acts.Begin call ∷ rest)) in
    record {
      one = subst (IsOneCall call) is (refl, a.own);
      shape = told_by_acts s 0 call (Replied reply) xs (subst (λ (l : List Act). HasActs call (Replied reply) (shape_of l)) is a.shape);
    }

-- From here some acts complete the call, leave all at rest, and leave a configuration of which this holds.
pub record EndsSo (s : Setting) (m : Configuration) (call : Call) (reply : Reply) (Left : Configuration → Type 0) : Type 0 where
  pub rest : List Act
  pub steps : (depth : ℕ) → by_depth depth call ≡ None
  pub legal : may_all_come s m rest ≡ true
  pub answered : AreOf call reply rest
  pub idle : IsIdle (configuration_by s m rest)
  pub at_rest : IsAtRest (configuration_by s m rest)
  pub only : Left (configuration_by s m rest)

module _ (s : Setting) (call : Call) (reply : Reply) (Left : Configuration → Type 0) where
  abbrev Ends : Configuration → Type 0
  Ends m = EndsSo s m call reply Left

  pub ends_act : (m : Configuration) (act : Act) → is_silent act ≡ true → may_follow s m (by_zero act) ≡ true → Ends (after s m (by_zero act)) → Ends m
  ends_act m act h l e = record {
    rest = act ∷ e.rest;
    steps = e.steps;
    legal = and_from (may_follow s m (by_zero act)) (may_all_come s (after s m (by_zero act)) e.rest) l e.legal;
    answered = answered_behind call reply act e.rest h e.answered;
    idle = e.idle;
    at_rest = e.at_rest;
    only = e.only;
  }

  pub ends_acts : (acts : List Act) (m : Configuration) → list_all is_silent acts ≡ true → may_all_come s m acts ≡ true → Ends (configuration_by s m acts) → Ends m
  ends_acts [] m h l e = e
  ends_acts (act ∷ acts) m h l e =
      let p = and_parts (is_silent act) (list_all is_silent acts) h in
      let q = and_parts (may_follow s m (by_zero act)) (may_all_come s (after s m (by_zero act)) acts) l in
      ends_act m act p.0 q.0 (ends_acts acts (after s m (by_zero act)) p.1 q.1 e)

  -- .. from its Begin on
  pub begins_so : (m : Configuration) → may_follow s m (by_zero (acts.Begin call)) ≡ true → (e : Ends (after s m (by_zero (acts.Begin call)))) → Completes s m call reply e.rest
  begins_so m l e = record {
    steps = e.steps;
    legal = and_from (may_follow s m (by_zero (acts.Begin call))) (may_all_come s (after s m (by_zero (acts.Begin call))) e.rest) l e.legal;
    answered = answered_from s m call reply e.rest e.answered;
    idle = e.idle;
  }

  -- a weaker claim about what is left
  pub ends_weaker : (Less : Configuration → Type 0) → ((n : Configuration) → Left n → Less n) → (m : Configuration) → Ends m → EndsSo s m call reply Less
  ends_weaker Less f m e = record { rest = e.rest; steps = e.steps; legal = e.legal; answered = e.answered; idle = e.idle; at_rest = e.at_rest; only = f (configuration_by s m e.rest) e.only }

-- .. and have changed the front end so since another configuration
abbrev pub EndsFrom : Setting → Configuration → Configuration → Call → Reply → Area → List Place → (ℕ → ℕ → Option ℕ) → ℕ → Type 0
EndsFrom s old m call reply area places hints searches = EndsSo s m call reply (λ n. OnlyLfh old n area places hints searches)

pub ends_call : (s : Setting) (old : Configuration) (call : Call) (reply : Reply) (area : Area) (places : List Place) (hints : ℕ → ℕ → Option ℕ) (searches : ℕ) → may_follow s old (by_zero (acts.Begin call)) ≡ true →
    EndsFrom s old (after s old (by_zero (acts.Begin call))) call reply area places hints searches → EndsLfh s old call reply area places hints searches
ends_call s old call reply area places hints searches l e = record { rest = e.rest; completes = begins_so s call reply (λ n. OnlyLfh old n area places hints searches) old l e; at_rest = e.at_rest; only = e.only }

---- Readings are silent

one_silent : (act : Act) (ends : Bool) (rest : List Act) → is_silent act ≡ true → list_all is_silent rest ≡ true → list_all is_silent (act ∷ (if ends then [] else rest)) ≡ true
one_silent act true rest h k = and_from (is_silent act) true h refl
one_silent act false rest h k = and_from (is_silent act) (list_all is_silent rest) h k

silent_append : (xs ys : List Act) → list_all is_silent xs ≡ true → list_all is_silent ys ≡ true → list_all is_silent (xs ++ ys) ≡ true
silent_append [] ys h k = k
silent_append (x ∷ xs) ys h k =
    let p = and_parts (is_silent x) (list_all is_silent xs) h in
    and_from (is_silent x) (list_all is_silent (xs ++ ys)) p.0 (silent_append xs ys p.1 k)

module _ (ps : List Place) (g : SearchKey) where
  reads_silent : (x : Span) (n k : ℕ) → list_all is_silent (reads_from ps g x n k) ≡ true
  reads_silent x zero k = refl
  reads_silent x (suc n) k = one_silent (acts.Saw x.first (word_behind g k) (bits_of ps x (word_behind g k))) (is_some (picked_at ps g x k)) (reads_from ps g x n (suc k)) refl (reads_silent x n (suc k))

  pub span_silent : (x : Span) → list_all is_silent (reads_of ps g x) ≡ true
  span_silent x = reads_silent x (words_in_use g.bucket) 0

  pub pass_silent : (xs : List Span) → list_all is_silent (pass_reads ps g xs) ≡ true
  pass_silent [] = refl
  pass_silent (x ∷ xs) = silent_append (reads_of ps g x) (if is_some (block_found ps g x) then [] else pass_reads ps g xs) (span_silent x) (rest (is_some (block_found ps g x)) (pass_silent xs))
    where
      rest : (ends : Bool) → list_all is_silent (pass_reads ps g xs) ≡ true → list_all is_silent (if ends then [] else pass_reads ps g xs) ≡ true
      rest true h = refl
      rest false h = h
