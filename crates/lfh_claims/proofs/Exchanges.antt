-- A caller behind an act on a block, by its size word or its bit, and behind an active word.
use Rattle.std.proofs.Common.{◌≡◌, ℕ, ◌&&◌, true, false, List, [], ◌∷◌, Option, Some, None, refl, sym, ap, ◌∙◌, subst}
use Rattle.std.specs.List.{find}
use Rattle.std.proofs.lemmas.Bool.{and_parts, false≢true}
use Rattle.atomic_table.specs.Table.{Me}
use Rattle.atomic_table.specs.Seated.{TableId}
use Rattle.rand_core.specs.Stream.{Stream}
use Rattle.heap_model.specs.declared.Act.{Act}
use Rattle.heap_model.specs.declared.Act.TheVariants as acts
use Rattle.heap_model.specs.declared.Entry.{Entry}
use Rattle.heap_model.specs.State.{State, Setting, Place, Live, has_address, is_entered, is_hand_at, is_live_of, hands, hand_at, place_at, change_found, remove_found}
use Rattle.heap_model.specs.Stay.{for_some}
use Rattle.heap_model.specs.CallState.{Configuration, caller_view}
use Rattle.heap_model.specs.Legal.{after, may_follow, may_touch, with_places, with_status, layer_of}
use Rattle.heap_model.specs.History.{configuration_of}
use Rattle.heap_model.specs.Agreement.{HasHomes, reveals_nothing}
use Rattle.heap_model.proofs.GateSound.{row_of}
use Rattle.heap_model.proofs.Stable.{same_hands, same_hand_at}
use Rattle.claim_rule.specs.declared.views.View.{View}
use Rattle.claim_rule.specs.Entries.{IsSettingOf, entry}
use Rattle.claim_rule.specs.Rule.{ready_after}
use Rattle.claim_rule.specs.Plays.{Goes, number_of}
use Rattle.step_parts.specs.InHand.{IsInHand, HasBlock, IsBlockNumber}
use Rattle.block_steps.proofs.InHandWords.{no_unspan}
use Rattle.heap_gate.specs.Token.{IsCaller, now}
use Rattle.heap_gate.specs.Seated.{Face, tok}
use Rattle.heap_gate.specs.Calls.{Runs}
use Rattle.heap_gate.proofs.Tokens.{Acted, faced, marks, with_left}
use Rattle.lfh_claims.specs.declared.tag.Tag.{Tag}
use Rattle.lfh_claims.specs.Moves.{IsWith, IsBehindAct}
use Rattle.lfh_claims.specs.Blocks.{HasPublished, HasTakenLive, HasFoundNone, HasSize, HasCleared}
use Rattle.lfh_claims.proofs.Hands.{homes_of, homes_behind, given_hands, dropped_hands, taken_hands}
use Rattle.lfh_claims.proofs.Acting.{IsPlain, told_in, earlier, then, doing, agreed, runs_then}

no_hand : (st : State) (n a : ℕ) → hands st n ≡ [] → hand_at st n a ≡ None
no_hand st n a e = ap (find (has_address a)) e

module _ {T : Type 0} (z : TableId) (me : Me (Option T) View) (f : Face) (slot : ℕ) (stream : Stream) (h : IsCaller me (tok z me f) slot stream) (w : f.whole ≡ true)
    (me' : Me (Option T) View) (slots : me'.1 ≡ me.1) (z' : TableId) (ez : z' ≡ z) (left : List Entry) (le : left ≡ []) where
  abbrev Ready : Setting → Configuration
  Ready s = ready_after s me.0 f.prepared

  ---- Acts that leave what is in hand

  module _ (owes : me'.0.owes ≡ me.0.owes) (act : Act) (go : Goes f.number me.0 me'.0 f.prepared (entry f.number act ∷ []))
      (plain : (s : Setting) (m : Configuration) → IsPlain s m f.number act) (keeps : (s : Setting) (m : Configuration) → hands (after s m (entry f.number act)).state f.number ≡ hands m.state f.number)
      (quiet : (m : Configuration) → reveals_nothing m f.number act ≡ true) (marked : Rattle.heap_gate.specs.Token.search_mark (marks z me f slot stream h) act ≡ marks z me f slot stream h) where
    abbrev pub same_face : Face
    same_face = faced z me f slot stream h (then z me f slot stream h w act me' go slots z' ez left le f.free (marks z me f slot stream h)) left

    pub saying : Acted z me f slot stream h me' z' left (entry f.number act ∷ []) (then z me f slot stream h w act me' go slots z' ez left le f.free (marks z me f slot stream h)) me.0.owes
    saying = doing z me f slot stream h w act me' go slots z' ez left le f.free (marks z me f slot stream h) marked refl h.even.rests h.even.drawn (λ s q m a. plain s m) (λ s q m a e. keeps s m ∙ a.hands e) me.0.owes owes

    pub said : Runs (tok z me f) (tok z' me' same_face) (entry f.number act ∷ [])
    said = runs_then z me f slot stream h w act me' go slots z' ez left le f.free (marks z me f slot stream h) quiet keeps saying.does

  ---- No live block has an address, or one has it

  module _ (owes : me'.0.owes ≡ me.0.owes) (addr : ℕ) (go : Goes f.number me.0 me'.0 f.prepared (entry f.number (acts.NotLive addr) ∷ [])) where
    pub denying : Acted z me f slot stream h me' z' left (entry f.number (acts.NotLive addr) ∷ []) (then z me f slot stream h w (acts.NotLive addr) me' go slots z' ez left le f.free (marks z me f slot stream h)) me.0.owes
    denying = saying owes (acts.NotLive addr) go (λ s m. record { gate = refl; call = refl; entered = refl; demand = refl }) (λ s m. refl) (λ m. refl) refl

    pub has_found_none : HasFoundNone (tok z me f) (tok z' me' (same_face owes (acts.NotLive addr) go (λ s m. record { gate = refl; call = refl; entered = refl; demand = refl }) (λ s m. refl) (λ m. refl) refl)) addr
    has_found_none = record { runs = said owes (acts.NotLive addr) go (λ s m. record { gate = refl; call = refl; entered = refl; demand = refl }) (λ s m. refl) (λ m. refl) refl; stands = denying.stands }

  module _ (owes : me'.0.owes ≡ me.0.owes) (addr size : ℕ) (go : Goes f.number me.0 me'.0 f.prepared (entry f.number (acts.Sized addr size) ∷ [])) where
    pub sizing : Acted z me f slot stream h me' z' left (entry f.number (acts.Sized addr size) ∷ []) (then z me f slot stream h w (acts.Sized addr size) me' go slots z' ez left le f.free (marks z me f slot stream h)) me.0.owes
    sizing = saying owes (acts.Sized addr size) go (λ s m. record { gate = refl; call = refl; entered = refl; demand = refl }) (λ s m. refl) (λ m. refl) refl

    pub has_size : HasSize (tok z me f) (tok z' me' (same_face owes (acts.Sized addr size) go (λ s m. record { gate = refl; call = refl; entered = refl; demand = refl }) (λ s m. refl) (λ m. refl) refl)) addr size
    has_size = record { runs = said owes (acts.Sized addr size) go (λ s m. record { gate = refl; call = refl; entered = refl; demand = refl }) (λ s m. refl) (λ m. refl) refl; stands = sizing.stands }

  ---- A bucket is active

  module _ (owes : me'.0.owes ≡ me.0.owes) (b : ℕ) (go : Goes f.number me.0 me'.0 f.prepared (entry f.number (acts.Active b) ∷ [])) where
    abbrev pub active_face : Face
    active_face = same_face owes (acts.Active b) go (λ s m. record { gate = refl; call = refl; entered = refl; demand = refl }) (λ s m. refl) (λ m. refl) refl

    pub activating : Acted z me f slot stream h me' z' left (entry f.number (acts.Active b) ∷ []) (then z me f slot stream h w (acts.Active b) me' go slots z' ez left le f.free (marks z me f slot stream h)) me.0.owes
    activating = saying owes (acts.Active b) go (λ s m. record { gate = refl; call = refl; entered = refl; demand = refl }) (λ s m. refl) (λ m. refl) refl

    pub has_activated : Runs (tok z me f) (tok z' me' active_face) (entry f.number (acts.Active b) ∷ [])
    has_activated = said owes (acts.Active b) go (λ s m. record { gate = refl; call = refl; entered = refl; demand = refl }) (λ s m. refl) (λ m. refl) refl

  ---- A block in hand is live, or given back

  module _ (owes : me'.0.owes ≡ me.0.owes) (addr size : ℕ) (go : Goes f.number me.0 me'.0 f.prepared (entry f.number (acts.Give addr size) ∷ []))
      (held : (s : Setting) → IsSettingOf me.0.opening me.0.roll s → IsInHand (Ready s) f.number addr) where
    abbrev pub published_face : Face
    published_face = faced z me f slot stream h (then z me f slot stream h w (acts.Give addr size) me' go slots z' ez left le f.free (marks z me f slot stream h)) left

    pub publishing : Acted z me f slot stream h me' z' left (entry f.number (acts.Give addr size) ∷ []) (then z me f slot stream h w (acts.Give addr size) me' go slots z' ez left le f.free (marks z me f slot stream h)) me.0.owes
    publishing = doing z me f slot stream h w (acts.Give addr size) me' go slots z' ez left le f.free (marks z me f slot stream h) refl refl h.even.rests h.even.drawn
        (λ s q m a. record { gate = refl; call = refl; entered = refl; demand = refl })
        (λ s q m a e. ap (λ (o : Option Place). hands (with_places m.state (layer_of o) (change_found (is_hand_at f.number addr) (with_status (Live size)))) f.number) (no_hand m.state f.number addr (a.hands e)) ∙ a.hands e) me.0.owes owes

    pub has_published : HasPublished (tok z me f) (tok z' me' published_face) addr size
    has_published =
        let agrees = agreed z me f slot stream h w (acts.Give addr size) me' go slots z' ez left le f.free (marks z me f slot stream h) (λ m. refl) in
        record {
          moves = record {
            does = publishing.does;
            agrees = agrees;
            hands = λ s q.
                let k = held s (earlier z me f slot stream h w (acts.Give addr size) me' go slots z' ez left le s q) in
                let new : Configuration = now s (tok z' me' published_face) in
                subst (λ (ps : List Place). IsWith addr ps (hands (Ready s).state f.number)) (sym (same_hands s f.number new (after s (Ready s) (entry f.number (acts.Give addr size))) (agrees s q)))
                (given_hands (Ready s).state (homes_behind s me.0.seen f.prepared) f.number addr k.place k.hand k.layer size);
          };
          stands = publishing.stands;
        }

  module _ (owes : me'.0.owes ≡ me.0.owes) (addr : ℕ) (go : Goes f.number me.0 me'.0 f.prepared (entry f.number (acts.Drop addr) ∷ []))
      (held : (s : Setting) → IsSettingOf me.0.opening me.0.roll s → IsInHand (Ready s) f.number addr) where
    abbrev pub cleared_face : Face
    cleared_face = faced z me f slot stream h (then z me f slot stream h w (acts.Drop addr) me' go slots z' ez left le f.free (marks z me f slot stream h)) left

    pub clearing : Acted z me f slot stream h me' z' left (entry f.number (acts.Drop addr) ∷ []) (then z me f slot stream h w (acts.Drop addr) me' go slots z' ez left le f.free (marks z me f slot stream h)) me.0.owes
    clearing = doing z me f slot stream h w (acts.Drop addr) me' go slots z' ez left le f.free (marks z me f slot stream h) refl refl h.even.rests h.even.drawn
        (λ s q m a.
        let k = held s q in
        record { gate = refl; call = refl; entered = refl; demand = no_unspan f.number (hand_at m.state f.number addr) k.place (same_hand_at s f.number m (Ready s) a addr ∙ k.hand) k.layer })
        (λ s q m a e. ap (λ (o : Option Place). hands (with_places m.state (layer_of o) (remove_found (is_hand_at f.number addr))) f.number) (no_hand m.state f.number addr (a.hands e)) ∙ a.hands e) me.0.owes owes

    pub has_cleared : HasCleared (tok z me f) (tok z' me' cleared_face) addr
    has_cleared =
        let agrees = agreed z me f slot stream h w (acts.Drop addr) me' go slots z' ez left le f.free (marks z me f slot stream h) (λ m. refl) in
        record {
          moves = record {
            does = clearing.does;
            agrees = agrees;
            hands = λ s q.
                let k = held s (earlier z me f slot stream h w (acts.Drop addr) me' go slots z' ez left le s q) in
                let new : Configuration = now s (tok z' me' cleared_face) in
                subst (λ (ps : List Place). IsWith addr ps (hands (Ready s).state f.number)) (sym (same_hands s f.number new (after s (Ready s) (entry f.number (acts.Drop addr))) (agrees s q)))
                (dropped_hands (Ready s).state (homes_behind s me.0.seen f.prepared) f.number addr k.place k.hand k.layer);
          };
          stands = clearing.stands;
        }

  ---- A live block is in hand

  module _ (in_is : f.inside ≡ true) (owes : me'.0.owes ≡ me.0.owes) (tag : Tag) (addr size : ℕ) (go : Goes f.number me.0 me'.0 f.prepared (entry f.number (acts.Take addr size) ∷ [])) (number : IsBlockNumber tag.head tag.bucket addr)
      (tells : (s : Setting) → IsSettingOf me'.0.opening me'.0.roll s → HasBlock (configuration_of s me'.0.seen) (number_of me.0.role) tag.bucket addr) where
    abbrev pub taken_face : Face
    taken_face = faced z me f slot stream h (then z me f slot stream h w (acts.Take addr size) me' go slots z' ez left le false (marks z me f slot stream h)) left

    pub taking_block : Acted z me f slot stream h me' z' left (entry f.number (acts.Take addr size) ∷ []) (then z me f slot stream h w (acts.Take addr size) me' go slots z' ez left le false (marks z me f slot stream h)) me.0.owes
    taking_block = doing z me f slot stream h w (acts.Take addr size) me' go slots z' ez left le false (marks z me f slot stream h) refl refl (λ e. absurd (false≢true (sym e ∙ in_is))) h.even.drawn
        (λ s q m a. record { gate = refl; call = refl; entered = refl; demand = refl }) (λ s q m a e. absurd (false≢true e)) me.0.owes owes

    Block : (s : Setting) → IsSettingOf me'.0.opening me'.0.roll s → HasBlock (configuration_of s me'.0.seen) f.number tag.bucket addr
    Block = told_in z me f slot stream h w me' (λ m k. HasBlock m k tag.bucket addr) tells

    -- the row of the act finds a live block
    live_found : (m : Configuration) (o : Option Place) → (is_entered m.state.gate f.number && for_some o (λ p. may_touch (caller_view m f.number) p.layer && is_live_of size p.status)) ≡ true → (p : Place) × (o ≡ Some p) × (is_live_of size p.status ≡ true)
    live_found m None e = absurd (false≢true (and_parts (is_entered m.state.gate f.number) false e).1)
    live_found m (Some p) e = (p, refl, (and_parts (may_touch (caller_view m f.number) p.layer) (is_live_of size p.status) (and_parts (is_entered m.state.gate f.number) (may_touch (caller_view m f.number) p.layer && is_live_of size p.status) e).1).1)

    hands_then : (s : Setting) → IsSettingOf me'.0.opening me'.0.roll s → IsWith addr (hands (Ready s).state f.number) (hands (configuration_of s me'.0.seen).state f.number)
    hands_then s q =
        let y = go.goes s q in
        let k = subst (λ (m : Configuration). HasBlock m f.number tag.bucket addr) y.behind (Block s q) in
        let homes = subst (λ (m : Configuration). HasHomes m.state) y.behind (homes_of s me'.0.seen) in
        let row = row_of s y.before (entry f.number (acts.Take addr size)) (and_parts (may_follow s y.before (entry f.number (acts.Take addr size))) true y.follows).0 in
        let p = live_found y.before (place_at y.before.state f.number addr) row in
        subst (λ (m : Configuration). IsWith addr (hands (Ready s).state f.number) (hands m.state f.number)) (sym y.behind)
        (subst (λ (ps : List Place). IsWith addr ps (hands (after s y.before (entry f.number (acts.Take addr size))).state f.number)) (same_hands s f.number y.before (Ready s) y.agrees)
        (taken_hands y.before.state f.number addr size p.0 p.1 p.2 homes k.hand.place k.hand.hand k.hand.layer))

    pub has_taken_live : HasTakenLive (tok z me f) (tok z' me' taken_face) tag addr size
    has_taken_live = record {
      takes = record {
        does = taking_block.does;
        found = with_left z me f slot stream h me' left le (λ s m. IsBehindAct f.number (Ready s) m (λ k. after s k (entry f.number (acts.Take addr size))))
            (λ s q. let y = go.goes s q in record { found = y.before; agrees = y.agrees; behind = y.behind });
        hands = with_left z me f slot stream h me' left le (λ s m. IsWith addr (hands (Ready s).state f.number) (hands m.state f.number)) hands_then;
      };
      stands = taking_block.stands;
      number = number;
      block = with_left z me f slot stream h me' left le (λ s m. HasBlock m f.number tag.bucket addr) Block;
    }
