-- The draws of a caller are those of its generator.
use Rattle.std.proofs.Common.{◌≡◌, ℕ, zero, suc, refl, sym, ap, ◌∙◌}
use Rattle.rand_core.specs.Stream.{Stream, next_u32}
use Rattle.rand_core.specs.Steps.{steps_u32}
use Rattle.rand_core.proofs.StepsLemmas.{next_u32-stream_of}
use Rattle.rand_pcg.specs.Lcg.{Lcg, started, increment_of, advance, state_after, next_state}
use Rattle.rand_pcg.specs.Pcg.{multiplier_64, pcg32}
use Rattle.heap_model.specs.State.{Setting}
use Rattle.heap_model.specs.Search.{draw_of}
use Rattle.random_pick.specs.CallerDraws.{words_of, generator_of, after_draws, IsBeforeDraw, IsDrawn}

-- one more step at the end
one_more : (w m inc n state : ℕ) → state_after w m inc (suc n) state ≡ next_state w m inc (state_after w m inc n state)
unfolding state_after
one_more w m inc zero state = refl
one_more w m inc (suc n) state = one_more w m inc n (next_state w m inc state)

-- after k draws the generator has made k steps
after_steps : (k : ℕ) (g : Lcg) → after_draws k (words_of g) ≡ words_of (advance 64 multiplier_64 k g)
unfolding state_after
after_steps zero g = refl
after_steps (suc k) g =
    ap (λ (t : Stream). (next_u32 t).1) (after_steps k g)
    ∙ ap (λ (r : ℕ × Stream). r.1) (next_u32-stream_of (steps_u32 pcg32) (advance 64 multiplier_64 k g))
    ∙ ap (λ (x : ℕ). words_of (record g { state = x })) (sym (one_more 64 multiplier_64 g.increment k g.state))

-- the word behind k draws is draw k
draw_is : (s : Setting) (c k : ℕ) → (next_u32 (after_draws k (words_of (generator_of s c)))).0 ≡ draw_of s c k
unfolding draw_of
draw_is s c k =
    ap (λ (t : Stream). (next_u32 t).0) (after_steps k (generator_of s c))
    ∙ ap (λ (r : ℕ × Stream). r.0) (next_u32-stream_of (steps_u32 pcg32) (advance 64 multiplier_64 k (generator_of s c)))

pub next_draw_is : (s : Setting) (c k value : ℕ) (t u : Stream) → IsBeforeDraw s c k t → (value, u) ≡ next_u32 t → IsDrawn s c k value u
next_draw_is s c k value t u before drawn = record {
  value_is = ap (λ (r : ℕ × Stream). r.0) drawn ∙ ap (λ (x : Stream). (next_u32 x).0) before ∙ draw_is s c k;
  next = ap (λ (r : ℕ × Stream). r.1) drawn ∙ ap (λ (x : Stream). (next_u32 x).1) before;
}

-- a generator of the seed and the stream of the caller
pub is_made : (s : Setting) (c seed stream : ℕ) (g : Lcg) → s.seed ≡ seed → s.stream c ≡ stream
    → g ≡ started 64 multiplier_64 seed (increment_of 64 stream) → IsBeforeDraw s c 0 (words_of g)
is_made s c seed stream g e f made =
    ap words_of (made
    ∙ ap (λ (x : ℕ). started 64 multiplier_64 x (increment_of 64 stream)) (sym e)
    ∙ ap (λ (x : ℕ). started 64 multiplier_64 s.seed (increment_of 64 x)) (sym f))
