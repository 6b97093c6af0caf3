-- The making of sound frame by frame: what is behind the samples of some time, and how it moves on.
use Rattle.std.specs.Prelude.{ℕ, zero, suc, ◌+◌, ◌*◌, ◌%◌, pos, List, [], get_or, replicate}
use Rattle.rand_pcg.specs.Lcg.{Lcg}
use Rattle.dst_spec.specs.Sample.{Shape, samples}
use Rattle.dsdiff_spec.specs.Samples.{sound_of}
use Rattle.dsdiff_spec.specs.Made.{Wave, Made, at_time, times_from, seeded}

-- The waves and the generator at some time. The time is counted anew after each 6,400 samples, the period of the waves.
pub record Moment : Type 0 where
  pub time : ℕ
  pub waves : List Wave
  pub generator : Lcg

abbrev pub moment : ℕ → List Wave → Lcg → Moment
moment t waves g = record { time = t; waves = waves; generator = g }

-- a sample of each channel, and what is behind them
abbrev pub now : Moment → Made
now m = at_time m.time 0 m.waves m.generator

-- the moment so many samples of each channel later
unfoldable pub later : ℕ → Moment → Moment
later zero m = m
later (suc n) m =
    later n (moment ((m.time + 1) % 6400) (now m).waves (now m).generator)

-- sample t of channel c from a moment on
abbrev pub sample_from : Moment → ℕ → ℕ → ℕ
sample_from m c t = get_or (now (later t m)).samples c 0

-- a maker of frames of a shape, the next of which begins at a moment
pub record Maker : Type 0 where
  pub shape : Shape
  pub moment : Moment

-- the sound of the next frame
unfoldable pub frame_of : Maker → List ℕ
frame_of m =
    let rows = times_from (samples m.shape) m.moment.time m.moment.waves m.moment.generator in
    sound_of (λ c t. get_or (get_or rows t []) c 0) m.shape.channels m.shape.octets

-- the maker behind its next frame
abbrev pub after_frame : Maker → Maker
after_frame m = record m { moment = later (samples m.shape) m.moment }

-- the maker of the sound from a number when so many frames are made
abbrev pub maker_after : ℕ → ℕ → Shape → Maker
maker_after start frames f = record {
  shape = f;
  moment = later (frames * samples f) (moment 0 (replicate f.channels (record { u = pos 0; w = pos 0 })) (seeded start));
}
