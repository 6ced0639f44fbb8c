use Rattle.std.proofs.Common.{◌≡◌, length, refl, sym, ap, subst, ◌∙◌}
use Rattle.heap_model.specs.declared.Opening.{Opening}
use Rattle.heap_model.specs.Limits.{AreValid}
use Rattle.heap_model.specs.Layers.{StandsForVs, StandsForBack, StandsForLarge}
use Rattle.claim_rule.specs.Entries.{setting_of}
use Rattle.call_parts.specs.declared.state.State.{State}
use Rattle.call_parts.specs.States.{layer_of}
use Rattle.layout_decode.specs.declared.Image.{Image}
use Rattle.vs_headers.specs.Headers.{key_of}
use Rattle.heap_closing.specs.Receipts.{last_of}
use Rattle.heap_closing.proofs.Shown.{AreLeft, image}
use Rattle.heap_closing.proofs.Closing.{none_held, same_image, closes, lives, readable}
use Rattle.heap_closing.proofs.close.Goals as goal

opened : (c : goal.After-into_parts-region) → c.args.heap.opening ≡ c.args.root.opening
opened c = sym c.requires.table.1

left : (c : goal.After-into_parts-region) → AreLeft (setting_of c.args.root.opening c.args.root.roll) (last_of c.args.root) (length c.args.root.roll) c.close_table-words.result.words c.in-Vs-Back-Large.vs c.in-Vs-Back-Large.back c.in-Vs-Back-Large.large
left c =
    let o = c.args.root.opening in
    let st = (last_of c.args.root).state in
    let found = c.in-Vs-Back-Large in
    record {
      limits = subst AreValid (c.limits-limits.ensures.limits ∙ ap (λ (x : Opening). x.limits) (opened c)) c.limits-limits.ensures.valid;
      words_are = c.close_table-words.ensures.words;
      made = c.close_table-words.ensures.made;
      vs_is = subst (λ (x : State). StandsForVs o st (layer_of x)) found.is-0 c.close_table-words.ensures.vs;
      chunks = c.into_heads-heads.ensures.shown;
      back_is = subst (λ (x : State). StandsForBack o st (layer_of x)) found.is-1 c.close_table-words.ensures.back;
      sound = c.into_parts-region.ensures.sound;
      large_is = subst (λ (x : State). StandsForLarge o st (layer_of x)) found.is-2 c.close_table-words.ensures.large;
    }

abbrev told : goal.After-into_parts-region → Image
told c = record {
  limits = c.limits-limits.result;
  region = c.into_parts-region.result.0;
  descs = c.into_parts-region.result.1;
  key = c.key_of-key.result;
  heads = c.into_heads-heads.result;
  large = c.in-Vs-Back-Large.large;
  words = c.close_table-words.result.words;
}

same : (c : goal.After-into_parts-region) → told c ≡ image (setting_of c.args.root.opening c.args.root.roll) (last_of c.args.root) (length c.args.root.roll) c.close_table-words.result.words c.in-Vs-Back-Large.vs c.in-Vs-Back-Large.back c.in-Vs-Back-Large.large (left c)
same c =
    same_image (told c) _
    (c.limits-limits.ensures.limits ∙ ap (λ (x : Opening). x.limits) (opened c)) c.into_parts-region.ensures.region c.into_parts-region.ensures.descs
    (c.key_of-key.ensures ∙ ap key_of (c.seed.ensures ∙ ap (λ (x : Opening). x.seed) (opened c))) c.into_heads-heads.ensures.chunks refl refl

pub returns-clause-shows : goal.returns-clause-shows
returns-clause-shows c = closes _ _ _ _ _ _ _ (left c) c.requires.slots c.close_table-words.ensures.legal (told c) (same c)

pub returns-clause-blocks : goal.returns-clause-blocks
returns-clause-blocks c = lives _ _ _ _ _ _ _ (left c) c.requires.slots c.close_table-words.ensures.legal (told c) (same c)

pub returns-clause-readable : goal.returns-clause-readable
returns-clause-readable c = readable _ _ _ _ _ _ _ (left c) c.requires.slots c.close_table-words.ensures.legal (told c) (same c)

pub returns-clause-locks : goal.returns-clause-locks
returns-clause-locks c = λ what l. c.close_table-words.ensures.words.gate.locks what l ∙ none_held _ c.close_table-words.ensures.rest.locks what
