-- The draws of a caller, as its generator makes them.
use Rattle.std.specs.Prelude.{◌≡◌, ℕ, zero, suc}
use Rattle.rand_core.specs.Stream.{Stream, next_u32}
use Rattle.rand_core.specs.Steps.{stream_of, steps_u32}
use Rattle.rand_pcg.specs.Lcg.{Lcg, started, increment_of}
use Rattle.rand_pcg.specs.Pcg.{multiplier_64, pcg32}
use Rattle.heap_model.specs.State.{Setting}
use Rattle.heap_model.specs.Search.{draw_of}

-- what a PCG32 generator answers from this state on
abbrev pub words_of : Lcg → Stream
words_of = stream_of (steps_u32 pcg32)

-- the generator of caller c as it is made
abbrev pub generator_of : Setting → ℕ → Lcg
generator_of s c = started 64 multiplier_64 s.seed (increment_of 64 (s.stream c))

-- what a stream is after k draws
abbrev pub after_draws : ℕ → Stream → Stream
after_draws zero t = t
after_draws (suc k) t = (next_u32 (after_draws k t)).1

-- t is what caller c will draw from its draw k on
abbrev pub IsBeforeDraw : Setting → ℕ → ℕ → Stream → Type 0
IsBeforeDraw s c k t = t ≡ after_draws k (words_of (generator_of s c))

-- A generator that is made of the seed and of the caller's stream stands before draw 0.
abbrev pub FirstDraw : Type 0
FirstDraw =
    (s : Setting) (c seed stream : ℕ) (g : Lcg) → s.seed ≡ seed → s.stream c ≡ stream
    → g ≡ started 64 multiplier_64 seed (increment_of 64 stream) → IsBeforeDraw s c 0 (words_of g)

-- value is draw k of caller c, and t is what it will draw from its draw k + 1 on
pub record IsDrawn (s : Setting) (c k value : ℕ) (t : Stream) : Type 0 where
  pub value_is : value ≡ draw_of s c k
  pub next : IsBeforeDraw s c (suc k) t

-- The next word of what stands before draw k is that draw.
abbrev pub NextDraw : Type 0
NextDraw =
    (s : Setting) (c k value : ℕ) (t u : Stream) → IsBeforeDraw s c k t → (value, u) ≡ next_u32 t → IsDrawn s c k value u
