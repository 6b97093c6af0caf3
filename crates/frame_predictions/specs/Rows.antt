-- The rows of codes of a sound.
use Rattle.std.specs.Prelude.{◌≡◌, ℕ, ◌*◌, ◌<◌, ◌≤◌, List, length, get_or, All}
use Rattle.dst_spec.specs.Sample.{Shape, IsShape, samples, sound_bytes}
use Rattle.frame_predictions.specs.Codes.{codes}
use Rattle.frame_predictions.specs.Predicting.{Predicted}
use Rattle.frame_predictions.specs.declared.row.Row.{Row}

-- what a row is for
abbrev pub predicted : Row → Predicted
predicted row = record { channel = row.channel; filter = row.filter }

-- Each row has one code for each sample of a channel, and the first `filled` ones have the right codes.
pub record AreFilled (f : Shape) (sound : List ℕ) (rows : List Row) (filled : ℕ) : Type 0 where
  pub within : filled ≤ length rows
  pub long : All (λ row. length row.codes.items ≡ samples f) rows
  pub are : (k : ℕ) (other : Row) → k < filled → (get_or rows k other).codes.items ≡ codes f sound (get_or rows k other).channel (get_or rows k other).filter

-- There are eight rows for each channel, and of the filled ones the first `held` are seen.
pub record AreRows (f : Shape) (sound : List ℕ) (rows : List Row) (held filled : ℕ) : Type 0 where
  pub is_shape : IsShape f
  pub whole : length sound ≡ sound_bytes f
  pub many : length rows ≡ 8 * f.channels
  pub in_order : held ≤ filled
  pub are_filled : AreFilled f sound rows filled
