-- Whole histories: lists of entries, each of which may follow those before it.
use Rattle.std.specs.Prelude.{ℕ, suc, ◌==◌, Bool, true, false, ◌&&◌, List, [], ◌∷◌, filter, IsTrue, None}
use Rattle.heap_model.specs.declared.Entry.{Entry}
use Rattle.heap_model.specs.State.{Setting, opening}
use Rattle.heap_model.specs.CallState.{CallState, not_begun, Demand, Nothing, Configuration}
use Rattle.heap_model.specs.Legal.{may_follow, after}

abbrev pub no_call : CallState
no_call = record { call = None; entered = false; placed = false; taken = false; no_span = false; searches = 0; search = not_begun }

abbrev pub first_configuration : Configuration
first_configuration = record {
  state = opening;
  now = record {
    calls = λ _. no_call;
    disturbed = λ _. true;
    span_history = record { hints = λ _ _. None; makers = λ _. None };
    demand = Nothing;
  };
}

-- the configuration after entries
abbrev pub configuration_after : Setting → Configuration → List Entry → Configuration
configuration_after s m [] = m
configuration_after s m (e ∷ es) = configuration_after s (after s m e) es

-- each entry may follow those before it
abbrev pub may_all_follow : Setting → Configuration → List Entry → Bool
may_all_follow s m [] = true
may_all_follow s m (e ∷ es) = may_follow s m e && may_all_follow s (after s m e) es

abbrev pub is_nothing : Demand → Bool
is_nothing Nothing = true
is_nothing _ = false

abbrev pub configuration_of : Setting → List Entry → Configuration
configuration_of s es = configuration_after s first_configuration es

abbrev pub IsLegalSoFar : Setting → List Entry → Type 0
IsLegalSoFar s es = IsTrue (may_all_follow s first_configuration es)

abbrev pub is_legal : Setting → List Entry → Bool
is_legal s es = may_all_follow s first_configuration es && is_nothing (configuration_of s es).now.demand

abbrev pub IsLegal : Setting → List Entry → Type 0
IsLegal s es = IsTrue (is_legal s es)

-- the number, from n on, of the first entry that may not follow, and where there is none the number behind the last
abbrev pub refused_from : ℕ → Setting → Configuration → List Entry → ℕ
refused_from n s m [] = n
refused_from n s m (e ∷ es) = elim (may_follow s m e) [ true ↦ refused_from (suc n) s (after s m e) es | false ↦ n ]

-- the entries of c
abbrev pub own : ℕ → List Entry → List Entry
own c es = filter (λ e. e.caller == c) es
