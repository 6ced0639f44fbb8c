use Rattle.std.proofs.Common.{[], ◌≡◌, ℕ, ◌<◌, ◌≤◌, true, ◌∙◌, ap, sym, subst, List, Option, Some, length}
use mathlib.Core.Option.{some-injective}
use lib.ListN.{get_elem?}
use Rattle.std.specs.Prelude.{slice_index}
use Rattle.std.specs.Slots.{slots_items, slots_len}
use Rattle.claim_rule.specs.Places.{made_word, word_count}
use Rattle.heap_model.specs.State.{is_among}
use Rattle.heap_model.specs.History.{configuration_of}
use Rattle.heap_model.specs.declared.Opening.{Opening}
use Rattle.claim_rule.specs.Entries.{IsLegalWith, setting_of}
use Rattle.claim_rule.specs.Shown.{AreAllShown}
use Rattle.heap_model.specs.Layers.{StandsForVs, StandsForBack, StandsForLarge}
use Rattle.heap_gate.specs.Token.{HeapToken}
use Rattle.heap_gate.specs.Roots.{RootToken, AreTheirs, IsAtRest, is_of, joined_of, roll_in}
use Rattle.heap_gate.proofs.Ending.{ended, of_joined}
use Rattle.heap_gate.proofs.root.close_table.Goals as goal

some_same : {A : Type 0} (a b : A) → Some a ≡ Some b → a ≡ b
some_same a b e = cc (e)

pub held-vs-requires : goal.held-vs-requires
held-vs-requires g c =
    let r = c.root.inside in let o = c.heap.inside.table.shared.key in
    let opened : r.place.me.0.opening ≡ o = ap (λ (t : RootToken). t.opening) c.root.view_is ∙ (c.requires.table.1 ∙ (ap (λ (t : HeapToken). t.opening) (sym c.heap.view_is) ∙ sym c.heap.invariant.same)) in
    let all = subst (λ (t : RootToken). (n : ℕ) → n < length t.roll → is_among n t.joined ≡ true) (sym c.root.view_is) c.requires.joined in
    let f = ended g.T.Stands.stands o r.place.id r.made r.place.me (slots_items c.close_with-closed.result.words) (slots_items c.close_with-closed.result.slots) c.root.invariant opened all c.close_with-closed.ensures.values.2 in
    (f.vs.0, some-injective c.take.result (Some f.vs.0) (sym c.take.ensures.value ∙ f.vs.1))

pub held-back-requires : goal.held-back-requires
held-back-requires g c =
    let r = c.root.inside in let o = c.heap.inside.table.shared.key in
    let opened : r.place.me.0.opening ≡ o = ap (λ (t : RootToken). t.opening) c.root.view_is ∙ (c.requires.table.1 ∙ (ap (λ (t : HeapToken). t.opening) (sym c.heap.view_is) ∙ sym c.heap.invariant.same)) in
    let all = subst (λ (t : RootToken). (n : ℕ) → n < length t.roll → is_among n t.joined ≡ true) (sym c.root.view_is) c.requires.joined in
    let f = ended g.T.Stands.stands o r.place.id r.made r.place.me (slots_items c.close_with-closed.result.words) (slots_items c.close_with-closed.result.slots) c.root.invariant opened all c.close_with-closed.ensures.values.2 in
    (f.back.0, some-injective c.take-2.result (Some f.back.0) (sym c.take-2.ensures.value ∙ (ap (λ (l : List (Option g.row.T.Denot)). get_elem? l 1) c.take.ensures.others.0 ∙ f.back.1)))

pub held-large-requires : goal.held-large-requires
held-large-requires g c =
    let r = c.root.inside in let o = c.heap.inside.table.shared.key in
    let opened : r.place.me.0.opening ≡ o = ap (λ (t : RootToken). t.opening) c.root.view_is ∙ (c.requires.table.1 ∙ (ap (λ (t : HeapToken). t.opening) (sym c.heap.view_is) ∙ sym c.heap.invariant.same)) in
    let all = subst (λ (t : RootToken). (n : ℕ) → n < length t.roll → is_among n t.joined ≡ true) (sym c.root.view_is) c.requires.joined in
    let f = ended g.T.Stands.stands o r.place.id r.made r.place.me (slots_items c.close_with-closed.result.words) (slots_items c.close_with-closed.result.slots) c.root.invariant opened all c.close_with-closed.ensures.values.2 in
    (f.large.0, some-injective c.take-3.result (Some f.large.0) (sym c.take-3.ensures.value ∙ (ap (λ (l : List (Option g.row.T.Denot)). get_elem? l 2) (c.take-2.ensures.others.0 ∙ c.take.ensures.others.0) ∙ f.large.1)))

pub returns-clause-legal : goal.returns-clause-legal
returns-clause-legal g c = subst (λ (t : RootToken). IsLegalWith t.opening t.roll t.seen) c.root.view_is c.root.invariant.legal

pub returns-clause-joined : goal.returns-clause-joined
returns-clause-joined g c =
    let r = c.root.inside in
    let all = subst (λ (t : RootToken). (n : ℕ) → n < length t.roll → is_among n t.joined ≡ true) (sym c.root.view_is) c.requires.joined in
    subst (λ (t : RootToken). is_of t.joined t.seen ≡ true) c.root.view_is (of_joined (length (roll_in r.place.me.0.role)) (joined_of r.place.me.0.role) r.place.me.0.seen all c.root.invariant.names)

pub returns-clause-theirs : goal.returns-clause-theirs
returns-clause-theirs g c = subst (λ (t : RootToken). AreTheirs t.joined t.lists t.seen) c.root.view_is c.root.invariant.theirs

pub returns-clause-rest : goal.returns-clause-rest
returns-clause-rest g c =
    let r = c.root.inside in let o = c.heap.inside.table.shared.key in
    let opened : r.place.me.0.opening ≡ o = ap (λ (t : RootToken). t.opening) c.root.view_is ∙ (c.requires.table.1 ∙ (ap (λ (t : HeapToken). t.opening) (sym c.heap.view_is) ∙ sym c.heap.invariant.same)) in
    let all = subst (λ (t : RootToken). (n : ℕ) → n < length t.roll → is_among n t.joined ≡ true) (sym c.root.view_is) c.requires.joined in
    let f = ended g.T.Stands.stands o r.place.id r.made r.place.me (slots_items c.close_with-closed.result.words) (slots_items c.close_with-closed.result.slots) c.root.invariant opened all c.close_with-closed.ensures.values.2 in
    subst (λ (t : RootToken). IsAtRest (configuration_of (setting_of t.opening t.roll) t.seen).state) c.root.view_is
    (subst (λ (x : Opening). IsAtRest (configuration_of (setting_of x (roll_in r.place.me.0.role)) r.place.me.0.seen).state) (sym opened) f.rest)

-- the words are those that the closed table had
closed_words : (g : _) (c : goal.After-free g) → c.copied-words.result ≡ slots_items c.close_with-closed.result.words
closed_words g c = c.copied-words.ensures ∙ ap (λ w. slots_items w) (c.take-3.ensures.others.3 ∙ (c.take-2.ensures.others.3 ∙ c.take.ensures.others.3))

pub returns-clause-words : goal.returns-clause-words
returns-clause-words g c =
    let r = c.root.inside in let o = c.heap.inside.table.shared.key in
    let opened : r.place.me.0.opening ≡ o = ap (λ (t : RootToken). t.opening) c.root.view_is ∙ (c.requires.table.1 ∙ (ap (λ (t : HeapToken). t.opening) (sym c.heap.view_is) ∙ sym c.heap.invariant.same)) in
    let all = subst (λ (t : RootToken). (n : ℕ) → n < length t.roll → is_among n t.joined ≡ true) (sym c.root.view_is) c.requires.joined in
    let f = ended g.T.Stands.stands o r.place.id r.made r.place.me (slots_items c.close_with-closed.result.words) (slots_items c.close_with-closed.result.slots) c.root.invariant opened all c.close_with-closed.ensures.values.2 in
    let R = roll_in r.place.me.0.role in let l = r.place.me.0.seen in
    subst (λ (t : RootToken). AreAllShown t.opening.limits (length t.roll) (configuration_of (setting_of t.opening t.roll) t.seen) [] c.copied-words.result) c.root.view_is
    (subst (λ (x : Opening). AreAllShown x.limits (length R) (configuration_of (setting_of x R) l) [] c.copied-words.result) (sym opened)
    (subst (AreAllShown o.limits (length R) (configuration_of (setting_of o R) l) []) (sym (closed_words g c)) f.words))

pub returns-clause-made : goal.returns-clause-made
returns-clause-made g c =
    let r = c.root.inside in let o = c.heap.inside.table.shared.key in
    let opened : r.place.me.0.opening ≡ o = ap (λ (t : RootToken). t.opening) c.root.view_is ∙ (c.requires.table.1 ∙ (ap (λ (t : HeapToken). t.opening) (sym c.heap.view_is) ∙ sym c.heap.invariant.same)) in
    let all = subst (λ (t : RootToken). (n : ℕ) → n < length t.roll → is_among n t.joined ≡ true) (sym c.root.view_is) c.requires.joined in
    let f = ended g.T.Stands.stands o r.place.id r.made r.place.me (slots_items c.close_with-closed.result.words) (slots_items c.close_with-closed.result.slots) c.root.invariant opened all c.close_with-closed.ensures.values.2 in
    subst (λ (t : RootToken). slice_index c.copied-words.result made_word ≤ t.opening.limits.callers) c.root.view_is
    (subst (λ (x : Opening). slice_index c.copied-words.result made_word ≤ x.limits.callers) (sym opened)
    (subst (λ (ws : List ℕ). slice_index ws made_word ≤ o.limits.callers) (sym (closed_words g c)) f.made))

pub copied-words-requires-clause-many : goal.copied-words-requires-clause-many
copied-words-requires-clause-many g c =
    let r = c.root.inside in let o = c.heap.inside.table.shared.key in
    let opened : r.place.me.0.opening ≡ o = ap (λ (t : RootToken). t.opening) c.root.view_is ∙ (c.requires.table.1 ∙ (ap (λ (t : HeapToken). t.opening) (sym c.heap.view_is) ∙ sym c.heap.invariant.same)) in
    let all = subst (λ (t : RootToken). (n : ℕ) → n < length t.roll → is_among n t.joined ≡ true) (sym c.root.view_is) c.requires.joined in
    let f = ended g.T.Stands.stands o r.place.id r.made r.place.me (slots_items c.close_with-closed.result.words) (slots_items c.close_with-closed.result.slots) c.root.invariant opened all c.close_with-closed.ensures.values.2 in
    let ws : slots_items c.take-3.new.self.words ≡ slots_items c.close_with-closed.result.words = ap (λ w. slots_items w) (c.take-3.ensures.others.3 ∙ (c.take-2.ensures.others.3 ∙ c.take.ensures.others.3)) in
    let ls : slots_len c.take-3.new.self.words ≡ slots_len c.close_with-closed.result.words = ap (λ w. slots_len w) (c.take-3.ensures.others.3 ∙ (c.take-2.ensures.others.3 ∙ c.take.ensures.others.3)) in
    let wide : length (slots_items c.close_with-closed.result.words) ≡ word_count o.limits = f.words.wide in
    ap length ws ∙ (wide ∙ (ap (λ (x : Opening). word_count x.limits) c.heap.invariant.same ∙ (sym c.heap.invariant.words ∙ (sym c.close_with-closed.ensures.counts.0 ∙ sym ls))))

pub copied-words-requires-clause-room : goal.copied-words-requires-clause-room
copied-words-requires-clause-room g c =
    let ls : slots_len c.take-3.new.self.words ≡ slots_len c.close_with-closed.result.words = ap (λ w. slots_len w) (c.take-3.ensures.others.3 ∙ (c.take-2.ensures.others.3 ∙ c.take.ensures.others.3)) in
    c.heap.invariant.room ∙ (sym c.heap.invariant.words ∙ (sym c.close_with-closed.ensures.counts.0 ∙ sym ls))

pub returns-clause-vs : goal.returns-clause-vs
returns-clause-vs g c =
    let r = c.root.inside in let o = c.heap.inside.table.shared.key in
    let opened : r.place.me.0.opening ≡ o = ap (λ (t : RootToken). t.opening) c.root.view_is ∙ (c.requires.table.1 ∙ (ap (λ (t : HeapToken). t.opening) (sym c.heap.view_is) ∙ sym c.heap.invariant.same)) in
    let all = subst (λ (t : RootToken). (n : ℕ) → n < length t.roll → is_among n t.joined ≡ true) (sym c.root.view_is) c.requires.joined in
    let f = ended g.T.Stands.stands o r.place.id r.made r.place.me (slots_items c.close_with-closed.result.words) (slots_items c.close_with-closed.result.slots) c.root.invariant opened all c.close_with-closed.ensures.values.2 in
    let state = some-injective c.take.result (Some f.vs.0) (sym c.take.ensures.value ∙ f.vs.1) in
    let same : c.held-vs.result ≡ f.vs.0 = some_same c.held-vs.result f.vs.0 (sym c.held-vs.ensures ∙ state) in
    let here = subst (λ (x : g.row.T.Denot). StandsForVs o (configuration_of (setting_of o (roll_in r.place.me.0.role)) r.place.me.0.seen).state (g.T.Stands.stands x)) (sym same) f.vs.2 in
    subst (λ (t : RootToken). StandsForVs t.opening (configuration_of (setting_of t.opening t.roll) t.seen).state (g.T.Stands.stands c.held-vs.result)) c.root.view_is
    (subst (λ (x : Opening). StandsForVs x (configuration_of (setting_of x (roll_in r.place.me.0.role)) r.place.me.0.seen).state (g.T.Stands.stands c.held-vs.result)) (sym opened) here)

pub returns-clause-back : goal.returns-clause-back
returns-clause-back g c =
    let r = c.root.inside in let o = c.heap.inside.table.shared.key in
    let opened : r.place.me.0.opening ≡ o = ap (λ (t : RootToken). t.opening) c.root.view_is ∙ (c.requires.table.1 ∙ (ap (λ (t : HeapToken). t.opening) (sym c.heap.view_is) ∙ sym c.heap.invariant.same)) in
    let all = subst (λ (t : RootToken). (n : ℕ) → n < length t.roll → is_among n t.joined ≡ true) (sym c.root.view_is) c.requires.joined in
    let f = ended g.T.Stands.stands o r.place.id r.made r.place.me (slots_items c.close_with-closed.result.words) (slots_items c.close_with-closed.result.slots) c.root.invariant opened all c.close_with-closed.ensures.values.2 in
    let state = some-injective c.take-2.result (Some f.back.0) (sym c.take-2.ensures.value ∙ (ap (λ (l : List (Option g.row.T.Denot)). get_elem? l 1) c.take.ensures.others.0 ∙ f.back.1)) in
    let same : c.held-back.result ≡ f.back.0 = some_same c.held-back.result f.back.0 (sym c.held-back.ensures ∙ state) in
    let here = subst (λ (x : g.row.T.Denot). StandsForBack o (configuration_of (setting_of o (roll_in r.place.me.0.role)) r.place.me.0.seen).state (g.T.Stands.stands x)) (sym same) f.back.2 in
    subst (λ (t : RootToken). StandsForBack t.opening (configuration_of (setting_of t.opening t.roll) t.seen).state (g.T.Stands.stands c.held-back.result)) c.root.view_is
    (subst (λ (x : Opening). StandsForBack x (configuration_of (setting_of x (roll_in r.place.me.0.role)) r.place.me.0.seen).state (g.T.Stands.stands c.held-back.result)) (sym opened) here)

pub returns-clause-large : goal.returns-clause-large
returns-clause-large g c =
    let r = c.root.inside in let o = c.heap.inside.table.shared.key in
    let opened : r.place.me.0.opening ≡ o = ap (λ (t : RootToken). t.opening) c.root.view_is ∙ (c.requires.table.1 ∙ (ap (λ (t : HeapToken). t.opening) (sym c.heap.view_is) ∙ sym c.heap.invariant.same)) in
    let all = subst (λ (t : RootToken). (n : ℕ) → n < length t.roll → is_among n t.joined ≡ true) (sym c.root.view_is) c.requires.joined in
    let f = ended g.T.Stands.stands o r.place.id r.made r.place.me (slots_items c.close_with-closed.result.words) (slots_items c.close_with-closed.result.slots) c.root.invariant opened all c.close_with-closed.ensures.values.2 in
    let state = some-injective c.take-3.result (Some f.large.0) (sym c.take-3.ensures.value ∙ (ap (λ (l : List (Option g.row.T.Denot)). get_elem? l 2) (c.take-2.ensures.others.0 ∙ c.take.ensures.others.0) ∙ f.large.1)) in
    let same : c.held-large.result ≡ f.large.0 = some_same c.held-large.result f.large.0 (sym c.held-large.ensures ∙ state) in
    let here = subst (λ (x : g.row.T.Denot). StandsForLarge o (configuration_of (setting_of o (roll_in r.place.me.0.role)) r.place.me.0.seen).state (g.T.Stands.stands x)) (sym same) f.large.2 in
    subst (λ (t : RootToken). StandsForLarge t.opening (configuration_of (setting_of t.opening t.roll) t.seen).state (g.T.Stands.stands c.held-large.result)) c.root.view_is
    (subst (λ (x : Opening). StandsForLarge x (configuration_of (setting_of x (roll_in r.place.me.0.role)) r.place.me.0.seen).state (g.T.Stands.stands c.held-large.result)) (sym opened) here)
