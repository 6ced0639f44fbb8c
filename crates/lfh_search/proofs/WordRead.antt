-- One word of a subsegment: what each reading and each claim leaves.
use Rattle.std.proofs.Common.{◌≡◌, ◌⊎◌, inl, inr, ℕ, ◌+◌, ◌*◌, ◌/◌, ◌%◌, ◌<◌, true, List, [], ◌∷◌, Some, None, refl, sym, ap, ◌∙◌, subst}
use Rattle.heap_model.specs.declared.Act.{Act}
use Rattle.heap_model.specs.declared.Act.TheVariants as acts
use Rattle.heap_model.specs.Buckets.{words_in_use, valid_bits, block_count, block_address, block_size}
use Rattle.heap_model.specs.Bits.{pick}
use Rattle.heap_model.specs.CallState.{Search, caller_view}
use Rattle.heap_model.specs.Search.{SearchKey, may_see, after_lost}
use Rattle.search_laws.specs.Reading.{word_behind}
use Rattle.search_laws.proofs.Words.{word_behind_none}
use Rattle.heap_soundness.proofs.Picks.{pick_below}
use Rattle.heap_model.specs.declared.Layer.TheVariants as layers
use Rattle.heap_model.specs.declared.What.TheVariants as whats
use Rattle.step_parts.specs.Claims.{MayClaim, owed_by_place}
use Rattle.step_parts.specs.InHand.{HasBlock}
use Rattle.block_steps.specs.Searches.{MaySee}
use Rattle.claim_rule.specs.Entries.{entry}
use Rattle.heap_gate.specs.Token.{Token, now, Always, is_out}
use Rattle.lfh_claims.specs.Search.{sought, own_slot, own_hint, HasSeen, HasClaimed, HasLost}
use Rattle.lfh_claims.specs.Moves.{Moves, block_place}
use Rattle.lfh_claims.specs.Stays.{HasRead}
use Rattle.lfh_search.specs.Acts.{after_acts}
use Rattle.lfh_search.specs.Standing.{key, reading}
use Rattle.lfh_search.specs.Results.{Searches, Went, IsBefore, IsIn, IsPast, HasPlaced}
use Rattle.lfh_search.specs.Readings.{HasHint}
use Rattle.lfh_search.proofs.Readings.{StandsIn, within, sees, claims, passes, ends, picks}
use Rattle.lfh_search.proofs.Words.{sought_is, searches_on, same_slot, hint_on, went_then}
use Rattle.lfh_search.proofs.Seen.{seen_on, waits_none}
use Rattle.lfh_search.proofs.Placing.{placed_then}

module _ (c : Token) (b d : ℕ) (f : Search) (head k lost : ℕ) (z : IsIn c b d f head k lost) (some : 0 < words_in_use b) where
  abbrev g : SearchKey
  g = key b (own_slot c) d

  abbrev word : ℕ
  word = word_behind g k

  in_it : StandsIn f head k lost z.search
  in_it = by z.stands
    where
      by : IsBefore c b d f head k lost z.search ⊎ (z.search ≡ reading f head k lost) → StandsIn f head k lost z.search
      by (inl x) = inl (x.none, x.lost_is, x.search)
      by (inr x) = inr x

  -- the word may be read
  pub may_see_word : Always c (λ s. MaySee s (now s c) c.number head (sought c) (own_slot c) word)
  may_see_word s q = subst (λ (x : ℕ). MaySee s (now s c) c.number head x (own_slot c) word) (sym (sought_is c b d z.search z.searching))
      (sees s (now s c) c.number b (own_slot c) d head word z.search (z.searching s q) (z.seen s q) (by z.stands))
    where
      by : IsBefore c b d f head k lost z.search ⊎ (z.search ≡ reading f head k lost) → may_see (now s c).state.back.area (now s c).now.span_history ((now s c).now.disturbed c.number) (caller_view (now s c) c.number) g head word ≡ true
      by (inl x) =
          ap (λ (y : ℕ). may_see (now s c).state.back.area (now s c).now.span_history ((now s c).now.disturbed c.number) (caller_view (now s c) c.number) g head (word_behind g y)) x.none
          ∙ (ap (may_see (now s c).state.back.area (now s c).now.span_history ((now s c).now.disturbed c.number) (caller_view (now s c) c.number) g head) (word_behind_none g some) ∙ x.begins s q)
      by (inr x) = within (now s c).state.back.area (now s c).now.span_history ((now s c).now.disturbed c.number) (caller_view (now s c) c.number) b (own_slot c) d f head k lost z.few ((z.searching s q).search ∙ x)

  module _ (e : Token) (bits : ℕ) (h : HasSeen c e head word bits) where
    abbrev saw : List Act
    saw = acts.Saw head word bits ∷ []

    pub saw_went : Went c e saw
    saw_went = (h.runs, h.stands)

    searching : Searches e b d (after_acts g z.search saw)
    searching = searches_on c e saw (refl, tt) h.runs b d z.search z.searching

    seen : HasRead e head b (own_slot e)
    seen = seen_on c e saw (refl, tt) h.runs b d z.search z.searching z.waits head z.seen

    pub hint_seen : HasHint c → HasHint e
    hint_seen = hint_on c e saw (refl, tt) h.runs b d z.search z.searching h.stands.owes h.stands.out

    -- it shows no block
    pub past_word : pick bits (valid_bits b word) (d % 64) ≡ None → IsPast e b d f head (k + 1) lost
    past_word p = record {
      more = λ l. record {
        between = z.between;
        few = z.few;
        search = after_acts g z.search saw;
        stands = inr (passes b (own_slot c) d f head k lost z.search z.between in_it bits p l);
        searching = searching;
        seen = seen;
        waits = waits_none e h.stands.prepared;
      };
      all = λ l. subst (Searches e b d) (ends b (own_slot c) d f head k lost z.search z.between in_it bits p l) searching;
    }

    -- .. or one, which may be claimed
    module _ (i : ℕ) (p : pick bits (valid_bits b word) (d % 64) ≡ Some i) where
      pub picked_is : after_acts g z.search saw ≡ record (reading f head k lost) { picked = Some (64 * word + i) }
      picked_is = picks b (own_slot c) d f head k lost z.search z.between in_it bits i p

      pub slot_same : own_slot e ≡ own_slot c
      slot_same = same_slot c e saw (refl, tt) h.runs b d z.search z.searching

      pub may_claim_it : Always e (λ s. MayClaim s (now s e) e.number head (sought e) (own_slot e) (64 * word + i))
      may_claim_it s q = subst (λ (x : ℕ). MayClaim s (now s e) e.number head x (own_slot e) (64 * word + i)) (sym (sought_is e b d (after_acts g z.search saw) searching))
          (claims s (now s e) e.number b (own_slot e) d f (after_acts g z.search saw) head k lost i bits (searching s q) picked_is p (seen s q))

      pub is_below : 64 * word + i < block_count b
      is_below = pick_below b word bits (d % 64) i p

      -- .. in hand then
      pub has_placed : (a : Token) → HasClaimed e a head (64 * word + i) → HasPlaced c a b head (64 * word + i)
      has_placed a h' = placed_then c e a b head (64 * word + i) saw (refl, tt) saw_went slot_same (record {
        its = [];
        are = tt;
        below = is_below;
        moves = subst (λ (x : ℕ). Moves e a (entry e.number (acts.Place (block_address x head (64 * word + i)) (block_size x / 16) layers.Lfh) ∷ []) (λ before behind. behind ≡ block_place x head (64 * word + i) e.number ∷ before)) same h'.moves;
        hint = own_hint e;
        stands = record {
          call = h'.stands.call;
          fresh = h'.stands.fresh;
          locked = h'.stands.locked;
          inside = h'.stands.inside;
          depth = h'.stands.depth;
          out = h'.stands.out;
          owes = h'.stands.owes ∙ ap (λ (x : ℕ). owed_by_place (is_out whats.Back e.out) x (own_slot e) (own_hint e) e.owes) same;
          free = h'.stands.free;
          searches = h'.stands.searches;
          searched = h'.stands.searched ∙ h.stands.searched;
          drawn = h'.stands.drawn;
          whole = h'.stands.whole;
          pending = h'.stands.pending;
          prepared = h'.stands.prepared;
        };
        block = subst (λ (x : ℕ). Always a (λ s. HasBlock (now s a) e.number x (block_address x head (64 * word + i)))) same h'.block;
      })
        where
          same : sought e ≡ b
          same = sought_is e b d (after_acts g z.search saw) searching

      -- .. or lost
      module _ (a : Token) (h' : HasLost e a head (64 * word + i)) where
        abbrev lose : List Act
        lose = acts.Lost head (64 * word + i) ∷ []

        abbrev both : List Act
        both = acts.Saw head word bits ∷ acts.Lost head (64 * word + i) ∷ []

        pub lost_went : Went c a both
        lost_went = went_then c e a saw lose (refl, tt) saw_went (
          h'.runs,
          record {
            call = h'.stands.call;
            fresh = h'.stands.fresh;
            locked = h'.stands.locked;
            inside = h'.stands.inside;
            depth = h'.stands.depth;
            out = h'.stands.out;
            owes = h'.stands.owes;
            free = h'.stands.free;
            searches = h'.stands.searches;
            searched = h'.stands.searched ∙ h.stands.searched;
            drawn = h'.stands.drawn;
            whole = h'.stands.whole;
            pending = h'.stands.pending;
            prepared = h'.stands.prepared;
          },
        )

        pub searching_lost : Searches a b d (reading f head k (lost + 1))
        searching_lost = subst (Searches a b d) (ap after_lost picked_is) (searches_on e a lose (refl, tt) h'.runs b d (after_acts g z.search saw) searching)

        pub slot_lost : own_slot a ≡ own_slot c
        slot_lost = same_slot e a lose (refl, tt) h'.runs b d (after_acts g z.search saw) searching ∙ slot_same

        pub hint_lost : HasHint c → HasHint a
        hint_lost q = hint_on e a lose (refl, tt) h'.runs b d (after_acts g z.search saw) searching h'.stands.owes h'.stands.out (hint_seen q)

        pub still_in : lost + 1 < 8 → IsIn a b d f head k (lost + 1)
        still_in l = record {
          between = z.between;
          few = l;
          search = reading f head k (lost + 1);
          stands = inr refl;
          searching = searching_lost;
          seen = seen_on e a lose (refl, tt) h'.runs b d (after_acts g z.search saw) searching (waits_none e h.stands.prepared) head seen;
          waits = waits_none a h'.stands.prepared;
        }
