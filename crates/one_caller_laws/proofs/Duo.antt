-- Two calls of caller 0 alone that search nothing, from act to act that both show.
use Rattle.std.proofs.Common.{◌≡◌, ℕ, true, false, List, [], ◌∷◌, sym, ◌∙◌}
use Rattle.heap_model.specs.declared.Act.{Act}
use Rattle.heap_model.specs.declared.Act.TheVariants as acts
use Rattle.heap_model.specs.declared.Call.{Call}
use Rattle.heap_model.specs.State.{Setting}
use Rattle.heap_model.specs.CallState.{Configuration}
use Rattle.heap_model.specs.Search.{hint_or, first_of, spans_of}
use Rattle.heap_model.specs.Legal.{after}
use Rattle.heap_model.specs.Alone.{by_zero, configuration_by}
use Rattle.heap_model.specs.Shape.{shape_of}
use Rattle.one_caller_laws.specs.OneCall.{AreAlike}
use Rattle.one_caller_laws.proofs.Core.{core_of, hints_of}
use Rattle.one_caller_laws.proofs.Reach.{Calm, Goes, to_shown, to_end, is_place, goes_after, may_first}
use Rattle.one_caller_laws.proofs.Pair.{HintsAlike, ends_alike, is_look, look_core, look_hints, calm_look, one_size, never_both, sized_finds, IsFoundLive}

-- two that have come equally far
pub record Duo (s : Setting) (call : Call) (m : Configuration) (rest : List Act) (n : Configuration) (others : List Act) : Type 0 where
  pub calm : Calm s call m
  pub calm_too : Calm s call n
  pub goes : Goes s m rest
  pub goes_too : Goes s n others
  pub core : core_of m ≡ core_of n
  pub hints : HintsAlike m n

pub hints_at : (m n : Configuration) → core_of m ≡ core_of n → hints_of m ≡ hints_of n → HintsAlike m n
hints_at m n e h b t = λ i. hint_or (h i b t) (first_of (spans_of (e i).back.area b t))

-- .. and go to these acts
pub record DuoAt (s : Setting) (call : Call) (m : Configuration) (rest : List Act) (n : Configuration) (others : List Act) (act : Act) (t : List Act) (other : Act) (u : List Act) : Type 0 where
  pub at : Configuration
  pub later : List Act
  pub at_too : Configuration
  pub later_too : List Act
  pub duo : Duo s call at (act ∷ later) at_too (other ∷ later_too)
  pub core_stays : core_of at ≡ core_of m
  pub shape : shape_of later ≡ t
  pub shape_too : shape_of later_too ≡ u
  pub ends : configuration_by s m rest ≡ configuration_by s (after s at (by_zero act)) later
  pub ends_too : configuration_by s n others ≡ configuration_by s (after s at_too (by_zero other)) later_too

pub duo_at : (s : Setting) (call : Call) (m : Configuration) (rest : List Act) (n : Configuration) (others : List Act) (act : Act) (t : List Act) (other : Act) (u : List Act) → Duo s call m rest n others →
    shape_of rest ≡ act ∷ t → shape_of others ≡ other ∷ u → is_place act ≡ false → is_place other ≡ false → DuoAt s call m rest n others act t other u
duo_at s call m rest n others act t other u d e f p q =
    let x = to_shown s call m rest act t d.calm d.goes e p in
    let y = to_shown s call n others other u d.calm_too d.goes_too f q in
    record {
      at = x.at;
      later = x.later;
      at_too = y.at;
      later_too = y.later;
      duo = record {
        calm = x.calm;
        calm_too = y.calm;
        goes = x.goes;
        goes_too = y.goes;
        core = x.core ∙ d.core ∙ sym y.core;
        hints = λ b t. hints_at x.at m x.core x.hints b t ∙ d.hints b t ∙ sym (hints_at y.at n y.core y.hints b t);
      };
      core_stays = x.core;
      shape = x.shape;
      shape_too = y.shape;
      ends = x.ends;
      ends_too = y.ends;
    }

-- where neither shows more, both end alike
pub duo_end : (s : Setting) (call : Call) (m : Configuration) (rest : List Act) (n : Configuration) (others : List Act) → Duo s call m rest n others → shape_of rest ≡ [] → shape_of others ≡ [] →
    AreAlike (configuration_by s m rest) (configuration_by s n others)
duo_end s call m rest n others d e f =
    let x = to_end s call m rest d.calm d.goes e in
    let y = to_end s call n others d.calm_too d.goes_too f in
    let k = configuration_by s m rest in
    let l = configuration_by s n others in
    ends_alike s call k l x.within y.within d.goes.idle d.goes_too.idle (x.core ∙ d.core ∙ sym y.core)
    (λ b t. hints_at k m x.core x.hints b t ∙ d.hints b t ∙ sym (hints_at l n y.core y.hints b t))

-- acts that change nothing
pub duo_look : (s : Setting) (call : Call) (m : Configuration) (act : Act) (rest : List Act) (n : Configuration) (other : Act) (others : List Act) → Duo s call m (act ∷ rest) n (other ∷ others) → is_look act ≡ true → is_look other ≡ true →
    Duo s call (after s m (by_zero act)) rest (after s n (by_zero other)) others
duo_look s call m act rest n other others d p q = record {
  calm = calm_look s call m act rest d.calm d.goes p;
  calm_too = calm_look s call n other others d.calm_too d.goes_too q;
  goes = goes_after s m act rest d.goes;
  goes_too = goes_after s n other others d.goes_too;
  core = look_core s m act p ∙ d.core ∙ sym (look_core s n other q);
  hints = λ b t.
      hints_at (after s m (by_zero act)) m (look_core s m act p) (look_hints s m act p) b t ∙ d.hints b t
      ∙ sym (hints_at (after s n (by_zero other)) n (look_core s n other q) (look_hints s n other q) b t);
}

-- they find one size at an address
pub duo_size : (s : Setting) (call : Call) (m : Configuration) (rest : List Act) (n : Configuration) (others : List Act) (a size other : ℕ) → Duo s call m (acts.Sized a size ∷ rest) n (acts.Sized a other ∷ others) → size ≡ other
duo_size s call m rest n others a size other d =
    one_size s call m n a size other d.calm.within d.calm_too.within d.core (sized_finds s m a size (may_first s m (acts.Sized a size) rest d.goes)) (sized_finds s n a other (may_first s n (acts.Sized a other) others d.goes_too))

pub duo_swap : (s : Setting) (call : Call) (m : Configuration) (rest : List Act) (n : Configuration) (others : List Act) → Duo s call m rest n others → Duo s call n others m rest
duo_swap s call m rest n others d = record {
  calm = d.calm_too;
  calm_too = d.calm;
  goes = d.goes_too;
  goes_too = d.goes;
  core = sym d.core;
  hints = λ b t. sym (d.hints b t);
}

-- .. and not one finds a live block where the other finds none
pub duo_clash : (s : Setting) (call : Call) (m : Configuration) (rest : List Act) (n : Configuration) (others : List Act) (a size : ℕ) → Duo s call m (acts.NotLive a ∷ rest) n others → IsFoundLive n a size → ⊥
duo_clash s call m rest n others a size d f =
    never_both s call m n a size d.calm.within d.calm_too.within d.core (may_first s m (acts.NotLive a) rest d.goes) f
