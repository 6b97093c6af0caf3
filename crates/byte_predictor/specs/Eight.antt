-- The sums ahead of one channel of eight frames.
use Rattle.std.specs.Prelude.{ℕ, ◌+◌, [], get_or}
use Rattle.byte_predictor.specs.SumsAhead.{SumsAhead}
use Rattle.byte_predictor.specs.declared.eight.EightAhead.{EightAhead}

-- Those of one frame. Each frame is late by one sample more than the one before it, so that no two add their rows at one sample.
abbrev pub ahead_at : EightAhead → ℕ → SumsAhead
ahead_at s n = record { lanes = get_or s.sums n []; newest = get_or s.newest n 0; late = n + 1 }
