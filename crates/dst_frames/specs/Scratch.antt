-- What is for frame after frame.
use Rattle.dst_spec.specs.Sample.{Shape}

-- the channels that a scratch is for
pub record ScratchShape : Type 0 where
  pub channels : Shape
