-- A caller that has taken a block has searched nothing still behind a lock, and behind what others do meanwhile.
use Rattle.std.proofs.Common.{◌≡◌, false, List, [], ◌∷◌, sym, ap, ◌∙◌, subst}
use Rattle.heap_model.specs.declared.Act.{Act}
use Rattle.heap_model.specs.declared.Act.TheVariants as acts
use Rattle.heap_model.specs.CallState.{CallState, not_begun}
use Rattle.call_laws.proofs.Within.{updated_here}
use Rattle.heap_gate.specs.Token.{Token, Always, now}
use Rattle.call_parts.specs.Calls.{GoesOn}
use Rattle.call_parts.proofs.Joining.{goes_does, setting_before}
use Rattle.move_taken.proofs.Found.{taken_holds}
use Rattle.move_taken.proofs.Keeping as holds
use Rattle.move_in_front.specs.Taken.{HasSearchedNothing}
use Rattle.move_in_front.specs.Laws.{TakenHas, LockKeeps, GiftKeeps, MissKeeps, LookKeeps}

nothing_still : (old new : Token) (xs : List Act) → GoesOn old new xs → new.searched ≡ old.searched → Always new (λ s. (now s new).now.calls old.number ≡ (now s old).now.calls old.number) → HasSearchedNothing old → HasSearchedNothing new
nothing_still old new xs g searched same h = record {
  searched = searched ∙ h.searched;
  no_span = λ s q. subst (λ k. ((now s new).now.calls k).no_span ≡ false) (sym g.number) (ap (λ (k : CallState). k.no_span) (same s q) ∙ h.no_span s (setting_before old new xs g s q));
  search = λ s q. subst (λ k. ((now s new).now.calls k).search ≡ not_begun) (sym g.number) (ap (λ (k : CallState). k.search) (same s q) ∙ h.search s (setting_before old new xs g s q));
}

pub taken_has : TakenHas
taken_has old new addr size n flags tag v may_move x standing legal = record {
  holds = taken_holds old new addr size n flags tag v may_move x standing legal;
  nothing = record { searched = x.added.steady.searched ∙ v.searched; no_span = x.no_span; search = x.search };
}

pub lock_keeps : LockKeeps
lock_keeps old new tag addr size n flags out what h st r x = record {
  holds = holds.lock_keeps old new tag addr size n flags out what h.holds st r x;
  nothing = nothing_still old new (acts.TakeLock what ∷ []) (goes_does old new (acts.TakeLock what ∷ []) r.does x.depth) x.searched
      (λ s q. (r.agrees s q).call ∙ updated_here (now s old).now.calls old.number ((now s old).now.calls old.number)) h.nothing;
}

pub gift_keeps : GiftKeeps
gift_keeps old new tag addr size n flags out more what h st r x = record {
  holds = holds.gift_keeps old new tag addr size n flags out more what h.holds st r x;
  nothing = nothing_still old new (acts.GiveLock what ∷ []) (goes_does old new (acts.GiveLock what ∷ []) r.does x.depth) x.searched
      (λ s q. (r.agrees s q).call ∙ updated_here (now s old).now.calls old.number ((now s old).now.calls old.number)) h.nothing;
}

pub miss_keeps : MissKeeps
miss_keeps old new tag addr size n flags out what word h st off r x = record {
  holds = holds.miss_keeps old new tag addr size n flags out what word h.holds st off r x;
  nothing = nothing_still old new (acts.Blocked what word ∷ []) (goes_does old new (acts.Blocked what word ∷ []) r.does x.depth) x.searched
      (λ s q. (r.agrees s q).call ∙ updated_here (now s old).now.calls old.number ((now s old).now.calls old.number)) h.nothing;
}

pub look_keeps : LookKeeps
look_keeps old new tag addr size n flags out h st r x = record {
  holds = holds.look_keeps old new tag addr size n flags out h.holds st r x;
  nothing = nothing_still old new [] (goes_does old new [] r.does x.depth) x.searched (λ s q. (r.agrees s q).call) h.nothing;
}
