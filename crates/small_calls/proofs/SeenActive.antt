-- A bucket that a caller has seen active is active.
use Rattle.std.proofs.Common.{◌≡◌, ℕ, true, List, [], ◌∷◌, refl, sym, subst, eqb, eq-eqb, inl, inr}
use Rattle.std.proofs.lemmas.Bool.{cases_Bool}
use Rattle.heap_model.specs.declared.Act.{Act}
use Rattle.heap_model.specs.declared.Act.TheVariants as acts
use Rattle.heap_model.specs.declared.Entry.{Entry}
use Rattle.heap_model.specs.declared.What.TheVariants as whats
use Rattle.heap_model.specs.State.{Setting, State}
use Rattle.heap_model.specs.CallState.{CallState, Configuration}
use Rattle.heap_model.specs.Legal.{after, state_after}
use Rattle.heap_model.specs.History.{configuration_after, configuration_of, first_configuration}
use Rattle.heap_soundness.specs.Sound.{IsOneOf}
use Rattle.claim_rule.specs.Entries.{entry}
use Rattle.heap_gate.specs.Token.{Token, now}
use Rattle.call_parts.specs.Calls.{GoesOn}
use Rattle.small_calls.specs.Late.{HasSeenActive}
use Rattle.vs_calls.proofs.Tries.{one_before}

-- it stays so
stays_by : (st : State) (k : CallState) (c : ℕ) (act : Act) (b : ℕ) → st.vs.active b ≡ true → (state_after st k c act).vs.active b ≡ true
stays_by st k c (acts.Active bucket) b h = elim (cases_Bool (eqb b bucket)) [ inl e ↦ rw e refl | inr e ↦ rw e h ]
stays_by st k c (acts.Blocked whats.Gate word) b h = h
stays_by st k c _ b h = h

stays : (s : Setting) (m : Configuration) (es : List Entry) (b : ℕ) → m.state.vs.active b ≡ true → (configuration_after s m es).state.vs.active b ≡ true
stays s m [] b h = h
stays s m (e ∷ es) b h = stays s (after s m e) es b (stays_by m.state (m.now.calls e.caller) e.caller e.act b h)

-- .. from its Active on
becomes : (s : Setting) (m : Configuration) (n b : ℕ) → (after s m (entry n (acts.Active b))).state.vs.active b ≡ true
becomes s m n b = let e = eq-eqb b b refl in rw e refl

behind_active : (s : Setting) (m : Configuration) (es : List Entry) (n b : ℕ) → IsOneOf (entry n (acts.Active b)) es → (configuration_after s m es).state.vs.active b ≡ true
behind_active s m [] n b i = absurd i
behind_active s m (e ∷ es) n b (inl same) = stays s (after s m e) es b (subst (λ (x : Entry). (after s m x).state.vs.active b ≡ true) (sym same) (becomes s m n b))
behind_active s m (e ∷ es) n b (inr i) = behind_active s (after s m e) es n b i

-- what was seen before is seen later
pub seen_later : (c d : Token) (added : List Act) (b : ℕ) → GoesOn c d added → HasSeenActive c b → HasSeenActive d b
seen_later c d added b g h = (h.0, subst (λ (l : List Entry). IsOneOf (entry h.0 (acts.Active b)) l) g.seen.1 (one_before (entry h.0 (acts.Active b)) c.seen g.seen.0 h.1))

pub active_now : (c : Token) (b : ℕ) → HasSeenActive c b → (s : Setting) → (now s c).state.vs.active b ≡ true
active_now c b h s = stays s (configuration_of s c.seen) c.prepared b (behind_active s first_configuration c.seen h.0 b h.1)
