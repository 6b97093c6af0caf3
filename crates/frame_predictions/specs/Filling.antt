-- A row of codes that is being written.
use Rattle.std.specs.Prelude.{◌≡◌, ℕ, ◌*◌, ◌<◌, ℤ, List, get_or}
use Rattle.dst_spec.specs.Sample.{Shape}
use Rattle.byte_predictor.specs.Samples.{IsBefore}
use Rattle.byte_predictor.specs.KnownAhead.{AreKnown}
use Rattle.byte_predictor.specs.declared.known.KnownAhead.{KnownAhead}
use Rattle.frame_predictions.specs.Codes.{code_at}

-- The codes of the samples of m bytes are there, and the sums ahead are those after them.
pub record IsFilling (f : Shape) (sound : List ℕ) (c : ℕ) (filter : List ℤ) (m : ℕ) (codes : List ℕ) (state : KnownAhead) : Type 0 where
  pub samples : List ℕ
  pub before : IsBefore f sound c (8 * m) samples
  pub ahead : AreKnown filter samples state
  pub codes_are : (u : ℕ) → u < 8 * m → get_or codes u 0 ≡ code_at f sound c filter u
