-- What is predicted of one sound of a frame.
use Rattle.std.specs.Prelude.{ℕ, ℤ, List, []}
use Rattle.dst_spec.specs.Sample.{Shape}

-- a channel, and a filter that predicts it
pub record Predicted : Type 0 where
  pub channel : ℕ
  pub filter : List ℤ

abbrev pub nothing : Predicted
nothing = record { channel = 0; filter = [] }

-- the channels, the sound, and what each row of codes is for
pub record Predicting : Type 0 where
  pub channels : Shape
  pub sound : List ℕ
  pub rows : List Predicted
